-- The front of an entry is what its step says.
use Rattle.std.proofs.Common.{◌≡◌, ◌+◌, ◌≤◌, ◌==◌, ◌||◌, ℕ, Bool, true, false, List}
use Rattle.std.proofs.Common.{◌++◌, length, take, drop, Option, Some, refl, sym, ap, subst, arith}
use Rattle.std.specs.Int.{w32, w64, from_le_bytes}
use Rattle.std.proofs.lemmas.Bool.{eqb-true, le-ltb}
use Rattle.std.proofs.lemmas.List.{drop-drop, length-drop}
use Rattle.scm_model.specs.declared.calls.Request.{Request}
use Rattle.scm_model.specs.declared.calls.Request.TheVariants as request
use Rattle.scm_model.specs.declared.codes.TheConstants.{R_CLOSE_NOTIFY_HANDLE, R_CLOSE_SERVICE_HANDLE, R_CONTROL_SERVICE}
use Rattle.scm_model.specs.declared.codes.TheConstants.{R_DELETE_SERVICE, R_ENUM_DEPENDENT_SERVICES_W, R_GET_NOTIFY_RESULTS}
use Rattle.scm_model.specs.declared.codes.TheConstants.{R_LOCK_SERVICE_DATABASE, R_NOTIFY_SERVICE_STATUS_CHANGE}
use Rattle.scm_model.specs.declared.codes.TheConstants.{R_QUERY_SERVICE_CONFIG2_W, R_QUERY_SERVICE_CONFIG_W}
use Rattle.scm_model.specs.declared.codes.TheConstants.{R_QUERY_SERVICE_LOCK_STATUS_W, R_QUERY_SERVICE_OBJECT_SECURITY}
use Rattle.scm_model.specs.declared.codes.TheConstants.{R_QUERY_SERVICE_STATUS, R_QUERY_SERVICE_STATUS_EX, R_UNLOCK_SERVICE_DATABASE}
use Rattle.scm_model.specs.declared.steps.Kept.{Kept}
use Rattle.scm_model.specs.Entries.{Entry}
use Rattle.step_code.specs.Codes.{code_of}
use Rattle.step_code.specs.Fits.{IsEntry}
use Rattle.step_code.specs.Fronts.{HasFields, front_at, front_of, has_handle, plain_size}
use Rattle.step_code.specs.Reading.{◌>>=◌, Item, by_handle, by_number, by_numbers, byte_at, call_at, entry_at, handle_at}
use Rattle.step_code.specs.Reading.{has_number, has_numbers, kept_at, n2_at, n4_at, n8_at, number_at, numbers_at, request_at, step_at}
use Rattle.step_code.specs.declared.fronts_read.Front.TheVariants as fronts
use Rattle.step_code.proofs.Entries.{entry_again}
use Rattle.step_code.proofs.TakenRequests.{choose, nothing_is}

-- one of two tests holds
pub either : (a b : Bool) {Q : Type 0} → (a ≡ true → Q) → (b ≡ true → Q) → (a || b) ≡ true → Q
either true b here there e = here refl
either false b here there e = there e

then : {A B : Type 0} (r : Option A) (f : A → Option B) (x : A) (y : B) → r ≡ Some x → f x ≡ Some y → (r >>= f) ≡ Some y
then r f x y e g = rw e g

-- ## Fields of a handle and numbers

n8_there : (bytes : List ℕ) → 8 ≤ length bytes → (n : ℕ) × (n8_at bytes ≡ Some (n, drop 8 bytes))
unfolding n8_at
n8_there bytes long = (from_le_bytes w64 (take 8 bytes), rw (le-ltb (length bytes) 8 long) refl)

-- a number after so many bytes
n4_there : (n : ℕ) (bytes : List ℕ) → n + 4 ≤ length bytes → (k : ℕ) × (n4_at (drop n bytes) ≡ Some (k, drop (n + 4) bytes))
unfolding n4_at
n4_there n bytes long =
    let within : 4 ≤ length (drop n bytes) = omega (arith, length-drop n bytes) in
    (from_le_bytes w32 (take 4 (drop n bytes)), rw (le-ltb (length (drop n bytes)) 4 within) (rw (drop-drop 4 n bytes) refl))

handle_fields : (op : ℕ) (bytes : List ℕ) → ((h : ℕ) → (asked : Request) × (by_handle op h ≡ Some asked)) → 8 ≤ length bytes
    → (asked : Request) × (handle_at op bytes ≡ Some (asked, drop 8 bytes))
unfolding handle_at
handle_fields op bytes by long =
    let h = n8_there bytes long in
    let asked = by h.0 in
    (asked.0, then (n8_at bytes) _ (h.0, drop 8 bytes) _ h.1 (then (by_handle op h.0) _ asked.0 _ asked.1 refl))

number_fields : (op : ℕ) (bytes : List ℕ) → ((h k : ℕ) → (asked : Request) × (by_number op h k ≡ Some asked)) → 12 ≤ length bytes
    → (asked : Request) × (number_at op bytes ≡ Some (asked, drop 12 bytes))
unfolding number_at
number_fields op bytes by long =
    let h = n8_there bytes (omega (arith, long)) in
    let k = n4_there 8 bytes long in
    let asked = by h.0 k.0 in (
      asked.0,
      then (n8_at bytes) _ (h.0, drop 8 bytes) _ h.1
          (then (n4_at (drop 8 bytes)) _ (k.0, drop 12 bytes) _ k.1 (then (by_number op h.0 k.0) _ asked.0 _ asked.1 refl)),
    )

numbers_fields : (op : ℕ) (bytes : List ℕ) → ((h k n : ℕ) → (asked : Request) × (by_numbers op h k n ≡ Some asked))
    → 16 ≤ length bytes → (asked : Request) × (numbers_at op bytes ≡ Some (asked, drop 16 bytes))
unfolding numbers_at
numbers_fields op bytes by long =
    let h = n8_there bytes (omega (arith, long)) in
    let k = n4_there 8 bytes (omega (arith, long)) in
    let n = n4_there 12 bytes long in
    let asked = by h.0 k.0 n.0 in (
      asked.0,
      then (n8_at bytes) _ (h.0, drop 8 bytes) _ h.1
          (then (n4_at (drop 8 bytes)) _ (k.0, drop 12 bytes) _ k.1
          (then (n4_at (drop 12 bytes)) _ (n.0, drop 16 bytes) _ n.1
          (then (by_numbers op h.0 k.0 n.0) _ asked.0 _ asked.1 refl))),
    )

-- of an opnum that is known
pub of_key : (op key : ℕ) (bytes rest : List ℕ) → HasFields key bytes rest → (op == key) ≡ true → HasFields op bytes rest
of_key op key bytes rest has b = subst (λ (k : ℕ). HasFields k bytes rest) (sym (eqb-true op key b)) has

handle_has : (op : ℕ) (bytes : List ℕ) → 8 ≤ length bytes → has_handle op ≡ true → HasFields op bytes (drop 8 bytes)
handle_has op bytes long =
    either _ _ (either _ _ (either _ _ (either _ _ (either _ _ (either _ _ (of_key op R_CLOSE_SERVICE_HANDLE bytes (drop 8 bytes)
    (handle_fields R_CLOSE_SERVICE_HANDLE bytes (λ h. (request.Close h, refl)) long))
    (of_key op R_DELETE_SERVICE bytes (drop 8 bytes)
    (handle_fields R_DELETE_SERVICE bytes (λ h. (request.Delete h, refl)) long)))
    (of_key op R_LOCK_SERVICE_DATABASE bytes (drop 8 bytes)
    (handle_fields R_LOCK_SERVICE_DATABASE bytes (λ h. (request.Lock h, refl)) long)))
    (of_key op R_QUERY_SERVICE_STATUS bytes (drop 8 bytes)
    (handle_fields R_QUERY_SERVICE_STATUS bytes (λ h. (request.QueryStatus h, refl)) long)))
    (of_key op R_UNLOCK_SERVICE_DATABASE bytes (drop 8 bytes)
    (handle_fields R_UNLOCK_SERVICE_DATABASE bytes (λ h. (request.Unlock h, refl)) long)))
    (of_key op R_GET_NOTIFY_RESULTS bytes (drop 8 bytes)
    (handle_fields R_GET_NOTIFY_RESULTS bytes (λ h. (request.GetNotify h, refl)) long)))
    (of_key op R_CLOSE_NOTIFY_HANDLE bytes (drop 8 bytes)
    (handle_fields R_CLOSE_NOTIFY_HANDLE bytes (λ h. (request.CloseNotify h, refl)) long))

number_has : (op : ℕ) (bytes : List ℕ) → 12 ≤ length bytes → has_number op ≡ true → HasFields op bytes (drop 12 bytes)
number_has op bytes long =
    either _ _ (either _ _ (either _ _ (of_key op R_CONTROL_SERVICE bytes (drop 12 bytes)
    (number_fields R_CONTROL_SERVICE bytes (λ h k. (request.Control h k, refl)) long))
    (of_key op R_QUERY_SERVICE_CONFIG_W bytes (drop 12 bytes)
    (number_fields R_QUERY_SERVICE_CONFIG_W bytes (λ h k. (request.QueryConfig h k, refl)) long)))
    (of_key op R_QUERY_SERVICE_LOCK_STATUS_W bytes (drop 12 bytes)
    (number_fields R_QUERY_SERVICE_LOCK_STATUS_W bytes (λ h k. (request.QueryLock h k, refl)) long)))
    (of_key op R_NOTIFY_SERVICE_STATUS_CHANGE bytes (drop 12 bytes)
    (number_fields R_NOTIFY_SERVICE_STATUS_CHANGE bytes (λ h k. (request.Notify h k, refl)) long))

numbers_has : (op : ℕ) (bytes : List ℕ) → 16 ≤ length bytes → has_numbers op ≡ true → HasFields op bytes (drop 16 bytes)
numbers_has op bytes long =
    either _ _ (either _ _ (either _ _ (of_key op R_QUERY_SERVICE_OBJECT_SECURITY bytes (drop 16 bytes)
    (numbers_fields R_QUERY_SERVICE_OBJECT_SECURITY bytes (λ h k n. (request.QuerySecurity h k n, refl)) long))
    (of_key op R_ENUM_DEPENDENT_SERVICES_W bytes (drop 16 bytes)
    (numbers_fields R_ENUM_DEPENDENT_SERVICES_W bytes (λ h k n. (request.EnumDependents h k n, refl)) long)))
    (of_key op R_QUERY_SERVICE_CONFIG2_W bytes (drop 16 bytes)
    (numbers_fields R_QUERY_SERVICE_CONFIG2_W bytes (λ h k n. (request.QueryConfig2 h k n, refl)) long)))
    (of_key op R_QUERY_SERVICE_STATUS_EX bytes (drop 16 bytes)
    (numbers_fields R_QUERY_SERVICE_STATUS_EX bytes (λ h k n. (request.QueryStatusEx h k n, refl)) long))

some_same : (x y : ℕ) → Some x ≡ Some y → x ≡ y
some_same x y e = grind arith

pub plain_has : (op size : ℕ) (bytes : List ℕ) → plain_size op ≡ Some size → size ≤ length bytes → HasFields op bytes (drop size bytes)
plain_has op size bytes e long =
    choose (has_handle op) _ _ (Some size) (λ b s.
    let is = some_same 8 size s in
    subst (λ (n : ℕ). HasFields op bytes (drop n bytes)) is (handle_has op bytes (rw is long) b)) (λ e1.
    choose (has_number op) _ _ (Some size) (λ b s.
    let is = some_same 12 size s in
    subst (λ (n : ℕ). HasFields op bytes (drop n bytes)) is (number_has op bytes (rw is long) b)) (λ e2.
    choose (has_numbers op) _ _ (Some size) (λ b s.
    let is = some_same 16 size s in
    subst (λ (n : ℕ). HasFields op bytes (drop n bytes)) is (numbers_has op bytes (rw is long) b)) (nothing_is size) e2) e1) e

-- ## Calls

-- the bytes of a call, part by part
pub record IsCall (bytes : List ℕ) (caller : ℕ) (rest : List ℕ) : Type 0 where
  pub moment : ℕ
  pub step : List ℕ
  pub call : List ℕ
  pub request : List ℕ
  pub op : ℕ
  pub fields : List ℕ
  pub after : List ℕ
  pub append : Kept
  pub is_moment : n8_at bytes ≡ Some (moment, step)
  pub is_step : byte_at step ≡ Some (1, call)
  pub is_caller : n8_at call ≡ Some (caller, request)
  pub is_request : n2_at request ≡ Some (op, fields)
  pub has : HasFields op fields after
  pub is_kept : kept_at after ≡ Some (append, rest)

pub call_has_front : (bytes : List ℕ) (caller : ℕ) (rest : List ℕ) → IsCall bytes caller rest
    → front_at bytes ≡ Some (fronts.Called caller, rest)
unfolding entry_at step_at call_at request_at
call_has_front bytes caller rest p = rw p.is_moment (rw p.is_step (rw p.is_caller (rw p.is_request (rw p.has.1 (rw p.is_kept refl)))))

-- what has a code has its front
pub front_again : (entry : Entry) (rest : List ℕ) → IsEntry entry → front_at (code_of entry ++ rest) ≡ Some (front_of entry.1, rest)
front_again entry rest fits = ap (λ (read : Item Entry). read >>= (λ r. Some (front_of r.0.1, r.1))) (entry_again entry rest fits)

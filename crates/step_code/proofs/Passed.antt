-- Fields that are passed over.
use Rattle.std.proofs.Common.{◌≡◌, ◌-◌, ◌+◌, ◌≤◌, ◌<◌, ◌==◌, ℕ, suc, Bool, true, false, List, [], ◌∷◌, length, take, drop}
use Rattle.std.proofs.Common.{None, Some, refl, sym, subst, arith}
use Rattle.std.proofs.lemmas.Bool.{eqb-false, eqb-true, le-ltb}
use Rattle.scm_model.specs.declared.calls.Info.{Info}
use Rattle.scm_model.specs.declared.calls.Request.{Request}
use Rattle.scm_model.specs.declared.calls.Request.TheVariants as request
use Rattle.scm_model.specs.declared.codes.TheConstants.{R_GET_SERVICE_DISPLAY_NAME_W, R_GET_SERVICE_KEY_NAME_W, R_OPEN_SERVICE_W}
use Rattle.step_code.specs.Fronts.{HasFields, HasUnits, Leaves}
use Rattle.step_code.specs.Reading.{◌>>=◌, Item, by_name, byte_at, byte_list_at, flag_at, info_at, info_of, is_named, items_at}
use Rattle.step_code.specs.Reading.{list_at, n2_at, n4_at, n8_at, named_at, some_at, text_at}
use Rattle.step_code.proofs.Fronts.{either, of_key}

-- what is read, and then what is read of the bytes after it
pub onward : {A B : Type 0} (read : Item A) (f : A × List ℕ → Item B) (mid rest : List ℕ) → Leaves read mid
    → ((x : A) → Leaves (f (x, mid)) rest) → Leaves (read >>= f) rest
onward read f mid rest p next = let q = next p.0 in (q.0, rw p.1 q.1)

-- ## Counts

left : (count i : ℕ) → i < count → count - i ≡ suc (count - (i + 1))
left count i lt = omega arith

done : (count i : ℕ) → count ≤ i → count - i ≡ 0
done count i le = omega arith

-- one item more
item_more : {A : Type 0} (item_at : List ℕ → Item A) (n : ℕ) (bytes mid rest : List ℕ) → Leaves (item_at bytes) mid
    → Leaves (items_at item_at n mid) rest → Leaves (items_at item_at (suc n) bytes) rest
unfolding items_at
item_more item_at n bytes mid rest p q = (p.0 ∷ q.0, rw p.1 (rw q.1 refl))

-- what is left at one turn of a loop leads to what is left at the turn before
pub items_on : {A : Type 0} (item_at : List ℕ → Item A) (count i : ℕ) (bytes mid all : List ℕ) → i < count
    → Leaves (item_at bytes) mid
    → ((rest : List ℕ) → Leaves (items_at item_at (count - i) bytes) rest → Leaves (items_at item_at count all) rest)
    → (rest : List ℕ) → Leaves (items_at item_at (count - (i + 1)) mid) rest → Leaves (items_at item_at count all) rest
items_on item_at count i bytes mid all lt p so_far rest q =
    so_far rest (rw (left count i lt) (item_more item_at (count - (i + 1)) bytes mid rest p q))

pub items_end : {A : Type 0} (item_at : List ℕ → Item A) (count i : ℕ) (bytes all : List ℕ) → count ≤ i
    → ((rest : List ℕ) → Leaves (items_at item_at (count - i) bytes) rest → Leaves (items_at item_at count all) rest)
    → Leaves (items_at item_at count all) bytes
unfolding items_at
items_end item_at count i bytes all le so_far = so_far bytes (rw (done count i le) ([], refl))

unit_more : (n u : ℕ) (bytes mid rest : List ℕ) → n2_at bytes ≡ Some (u, mid) → (u == 0) ≡ false
    → HasUnits n mid rest → HasUnits (suc n) bytes rest
unfolding items_at
unit_more n u bytes mid rest e z q = (u ∷ q.0, rw e (rw q.1 refl), rw z q.2)

pub units_on : (count i u : ℕ) (bytes mid all : List ℕ) → i < count → n2_at bytes ≡ Some (u, mid) → (u == 0) ≡ false
    → ((rest : List ℕ) → HasUnits (count - i) bytes rest → HasUnits count all rest)
    → (rest : List ℕ) → HasUnits (count - (i + 1)) mid rest → HasUnits count all rest
units_on count i u bytes mid all lt e z so_far rest q =
    so_far rest (rw (left count i lt) (unit_more (count - (i + 1)) u bytes mid rest e z q))

pub units_end : (count i : ℕ) (bytes all : List ℕ) → count ≤ i
    → ((rest : List ℕ) → HasUnits (count - i) bytes rest → HasUnits count all rest) → HasUnits count all bytes
unfolding items_at
units_end count i bytes all le so_far = so_far bytes (rw (done count i le) ([], refl, refl))

-- ## Fields

pub text_left : (bytes mid rest : List ℕ) (count : ℕ) → n4_at bytes ≡ Some (count, mid) → HasUnits count mid rest
    → Leaves (text_at bytes) rest
unfolding text_at list_at
text_left bytes mid rest count e q = (q.0, rw e (rw q.1 (rw q.2 refl)))

pub list_left : {A : Type 0} (item_at : List ℕ → Item A) (bytes mid rest : List ℕ) (count : ℕ) → n4_at bytes ≡ Some (count, mid)
    → Leaves (items_at item_at count mid) rest → Leaves (list_at item_at bytes) rest
unfolding list_at
list_left item_at bytes mid rest count e q = (q.0, rw e q.1)

pub bytes_left : (bytes mid rest : List ℕ) (count : ℕ) → n4_at bytes ≡ Some (count, mid) → count ≤ length mid → rest ≡ drop count mid
    → Leaves (byte_list_at bytes) rest
unfolding byte_list_at
bytes_left bytes mid rest count e le is = (take count mid, rw e (rw (le-ltb (length mid) count le) (rw is refl)))

pub some_left : {A : Type 0} (value_at : List ℕ → Item A) (bytes mid rest : List ℕ) (present : Bool)
    → flag_at bytes ≡ Some (present, mid) → present ≡ true → Leaves (value_at mid) rest → Leaves (some_at value_at bytes) rest
unfolding some_at
some_left value_at bytes mid rest present e t q = (Some q.0, rw e (rw t (rw q.1 refl)))

pub none_left : {A : Type 0} (value_at : List ℕ → Item A) (bytes rest : List ℕ) (present : Bool)
    → flag_at bytes ≡ Some (present, rest) → present ≡ false → Leaves (some_at value_at bytes) rest
unfolding some_at
none_left value_at bytes rest present e f = (None, rw e (rw f refl))

-- ## Requests

pub info_left : (bytes mid rest : List ℕ) (level : ℕ) → byte_at bytes ≡ Some (level, mid) → Leaves (info_of level mid) rest
    → Leaves (info_at bytes) rest
unfolding info_at
info_left bytes mid rest level e q = (q.0, rw e q.1)

by_test : (b : Bool) {Q : Type 0} → (b ≡ true → Q) → (b ≡ false → Q) → Q
by_test true here there = here refl
by_test false here there = there refl

-- a number in a range of two
pub of_two : (k n : ℕ) {Q : Type 0} → k ≤ n → n < k + 2 → (n ≡ k → Q) → (n ≡ k + 1 → Q) → Q
of_two k n low high here there =
    by_test (n == k) (λ e. here (eqb-true n k e)) (λ e.
    let other : n ≡ k → ⊥ = eqb-false n k e in
    there (omega (arith, other)))

-- what is asked at a level that a byte stands for
pub level_left : {A : Type 0} (value_at : List ℕ → Item A) (make : A → Info) (key level : ℕ) (bytes rest : List ℕ) → level ≡ key
    → ((bs : List ℕ) → info_of key bs ≡ (value_at bs >>= λ x. Some (make x.0, x.1))) → Leaves (value_at bytes) rest
    → Leaves (info_of level bytes) rest
level_left value_at make key level bytes rest is computes has =
    subst (λ (n : ℕ). Leaves (info_of n bytes) rest) (sym is)
    (subst (λ (read : Item Info). Leaves read rest) (sym (computes bytes)) (make has.0, rw has.1 refl))

named_fields : (op : ℕ) (bytes name number rest : List ℕ)
    → ((h : ℕ) (text : List ℕ) (n : ℕ) → (asked : Request) × (by_name op h text n ≡ Some asked))
    → Leaves (n8_at bytes) name → Leaves (text_at name) number → Leaves (n4_at number) rest → Leaves (named_at op bytes) rest
unfolding named_at
named_fields op bytes name number rest by h t n =
    let asked = by h.0 t.0 n.0 in (asked.0, rw h.1 (rw t.1 (rw n.1 (rw asked.1 refl))))

pub named_has : (op : ℕ) (bytes name number rest : List ℕ) → Leaves (n8_at bytes) name → Leaves (text_at name) number
    → Leaves (n4_at number) rest → is_named op ≡ true → HasFields op bytes rest
named_has op bytes name number rest h t n =
    either _ _ (either _ _ (of_key op R_OPEN_SERVICE_W bytes rest
    (named_fields R_OPEN_SERVICE_W bytes name number rest (λ a b k. (request.OpenService a b k, refl)) h t n))
    (of_key op R_GET_SERVICE_DISPLAY_NAME_W bytes rest
    (named_fields R_GET_SERVICE_DISPLAY_NAME_W bytes name number rest (λ a b k. (request.DisplayName a b k, refl)) h t n)))
    (of_key op R_GET_SERVICE_KEY_NAME_W bytes rest
    (named_fields R_GET_SERVICE_KEY_NAME_W bytes name number rest (λ a b k. (request.KeyName a b k, refl)) h t n))

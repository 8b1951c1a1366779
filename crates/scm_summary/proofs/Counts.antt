-- Counts of calls, entry by entry.
use Rattle.std.proofs.Common.{ℕ, ◌≡◌, ◌∙◌, ◌+◌, ◌<◌, ◌≤◌, ◌^◌, List, [], ◌∷◌, ◌++◌, Option, None, Some, length, drop, get_or, refl, sym, ap}
use Rattle.std.proofs.Common.{suc, zero, arith, add-one, drop-cons, length-append, append_assoc}
use Rattle.std.proofs.lemmas.List.{get_or_past}
use Rattle.scm_model.specs.Entries.{Entry}
use Rattle.scm_summary.specs.Calls.{calling, calls_from, calls_of, joined_in, one_if_its, one_joined}
use Rattle.scm_summary.specs.Lines.{caller_line, callers_from}
use Rattle.scm_model.specs.declared.steps.Step.{Step}
use Rattle.scm_model.specs.declared.steps.Step.TheVariants as steps
use Rattle.step_code.specs.Fronts.{front_of}
use Rattle.step_code.specs.declared.fronts_read.Front.{Front}
use Rattle.scm_trail.specs.Cursor.{TakesFront}
use Rattle.scm_summary.specs.Counting.{caller_of, one_of, CountsTo, HasRoomFor, IsZeros, Raises}

-- ## Fronts

-- the front of a step says whether it joins a caller, and whose call it is
front_joined : (step : Step) → one_of (front_of step) ≡ one_joined step
front_joined (steps.Joined p) = refl
front_joined (steps.Call c r k) = refl
front_joined (steps.EndStart c p) = refl
front_joined steps.LaunchTaken = refl
front_joined (steps.Launched p i) = refl
front_joined (steps.LaunchFailed p c) = refl
front_joined (steps.Report p s r) = refl
front_joined (steps.Ended p) = refl
front_joined (steps.ControlTaken p) = refl
front_joined steps.Tick = refl
front_joined (steps.Raised c s) = refl
front_joined (steps.Gone c) = refl
front_joined (steps.NoMemory c) = refl

front_calling : (step : Step) → caller_of (front_of step) ≡ calling step
front_calling (steps.Joined p) = refl
front_calling (steps.Call c r k) = refl
front_calling (steps.EndStart c p) = refl
front_calling steps.LaunchTaken = refl
front_calling (steps.Launched p i) = refl
front_calling (steps.LaunchFailed p c) = refl
front_calling (steps.Report p s r) = refl
front_calling (steps.Ended p) = refl
front_calling (steps.ControlTaken p) = refl
front_calling steps.Tick = refl
front_calling (steps.Raised c s) = refl
front_calling (steps.Gone c) = refl
front_calling (steps.NoMemory c) = refl

-- ## Joinings

-- one entry less is left
pub joined_one : (left now : List Entry) (front : Front) → TakesFront left (Some front) now → joined_in left ≡ one_of front + joined_in now
joined_one left now front taken =
    ap joined_in taken.1 ∙ ap (λ n. n + joined_in now) (sym (front_joined taken.0.1) ∙ ap one_of (sym taken.2))

-- the caller of the entry that was taken
pub taken_calling : (left now : List Entry) (front : Front) (taken : TakesFront left (Some front) now) → caller_of front ≡ calling taken.0.1
taken_calling left now front taken = ap caller_of taken.2 ∙ front_calling taken.0.1

-- ## Calls

one_small : (caller : ℕ) (of : Option ℕ) → one_if_its caller of ≤ 1
one_small caller None = omega arith
one_small caller (Some of) = grind arith

few : (caller : ℕ) (h : List Entry) → calls_of caller h ≤ length h
few caller [] = omega arith
few caller (e ∷ es) = let one = one_small caller (calling e.1) in let rest = few caller es in omega arith

pub has_room : (h left now : List Entry) (e : Entry) (n : ℕ) (counts : List ℕ) → length h < 2 ^ 64 → left ≡ e ∷ now
    → CountsTo h left n counts → HasRoomFor counts (calling e.1)
has_room h left now e n counts short is so k within =
    let whole : get_or counts k 0 + calls_of (k + 1) left ≡ calls_of (k + 1) h = so.each k (rw (sym so.long) within) in
    let one : calls_of (k + 1) left ≡ one_if_its (k + 1) (calling e.1) + calls_of (k + 1) now = ap (calls_of (k + 1)) is in
    let most = few (k + 1) h in
    omega arith

pub counts_one : (h left now : List Entry) (e : Entry) (n : ℕ) (counts next : List ℕ) → left ≡ e ∷ now → CountsTo h left n counts
    → Raises counts (calling e.1) next → CountsTo h now n next
counts_one h left now e n counts next is so raised = record {
  long = raised.long ∙ so.long;
  each = λ k within.
      let whole : get_or counts k 0 + calls_of (k + 1) left ≡ calls_of (k + 1) h = so.each k within in
      let one : calls_of (k + 1) left ≡ one_if_its (k + 1) (calling e.1) + calls_of (k + 1) now = ap (calls_of (k + 1)) is in
      let more = raised.each k (rw so.long within) in
      omega arith;
}

nought_more : (counts : List ℕ) → ((k : ℕ) → get_or counts k 0 ≡ 0) → (k : ℕ) → get_or (counts ++ 0 ∷ []) k 0 ≡ 0
nought_more [] each zero = refl
nought_more [] each (suc k) = get_or_past [] k 0 (omega arith)
nought_more (c ∷ cs) each zero = each 0
nought_more (c ∷ cs) each (suc k) = nought_more cs (λ j. each (suc j)) k

pub zeros_more : (n : ℕ) (counts now : List ℕ) → now ≡ counts ++ 0 ∷ [] → IsZeros n counts → IsZeros (n + 1) now
zeros_more n counts now e zeros = rw e (record {
  long = length-append counts (0 ∷ [])
      ∙ ap (λ m. m + 1) zeros.long;
  nought = nought_more counts zeros.nought;
})

pub no_zeros : (counts : List ℕ) → counts ≡ [] → IsZeros 0 counts
no_zeros counts e = rw e (record { long = refl; nought = λ k. get_or_past [] k 0 (omega arith) })

pub counts_none : (h : List Entry) (n : ℕ) (counts : List ℕ) → IsZeros n counts → CountsTo h h n counts
counts_none h n counts zeros = record {
  long = zeros.long;
  each = λ k within. let none = zeros.nought k in omega arith;
}

listed : (h : List Entry) (n first : ℕ) (counts : List ℕ) → length counts ≡ n
    → ((k : ℕ) → k < n → get_or counts k 0 ≡ calls_of (first + k) h) → counts ≡ calls_from h first n
listed h zero first [] long each = refl
listed h zero first (c ∷ cs) long each = absurd (omega arith)
listed h (suc n) first [] long each = absurd (omega arith)
listed h (suc n) first (c ∷ cs) long each =
    let front : c ≡ calls_of first h = each 0 (omega arith) ∙ ap (λ m. calls_of m h) (omega arith) in
    let rest : cs ≡ calls_from h (first + 1) n = listed h n (first + 1) cs (omega arith)
    (λ k within. each (suc k) (omega arith) ∙ ap (λ m. calls_of m h) (omega arith)) in
    ap (λ m. m ∷ cs) front ∙ ap (λ ms. calls_of first h ∷ ms) rest

pub all_listed : (h : List Entry) (n : ℕ) (counts : List ℕ) → CountsTo h [] n counts → counts ≡ calls_from h 1 n
all_listed h n counts so = listed h n 1 counts so.long (λ k within.
    let whole = so.each k within in
    let same : calls_of (k + 1) h ≡ calls_of (1 + k) h = ap (λ m. calls_of m h) (omega arith) in
    omega arith)

-- ## Lines

pub lines_on : (text : List ℕ) (counts : List ℕ) (i n : ℕ) (now : List ℕ) → i < length counts → get_or counts i 0 ≡ n → now ≡ text
    ++ caller_line (i + 1) n
    → now ++ callers_from (i + 1 + 1) (drop (i + 1) counts) ≡ text ++ callers_from (i + 1) (drop i counts)
lines_on text counts i n now within at e =
    let cut : drop i counts ≡ n ∷ drop (i + 1) counts = rw add-one (drop-cons counts i 0 within ∙ ap (λ x. x ∷ drop (suc i) counts) at) in
    ap (λ t. t ++ callers_from (i + 1 + 1) (drop (i + 1) counts)) e
    ∙ append_assoc text (caller_line (i + 1) n) (callers_from (i + 1 + 1) (drop (i + 1) counts))
    ∙ sym (ap (λ cs. text ++ callers_from (i + 1) cs) cut)

-- Entries that are read forward.
use Rattle.std.proofs.Common.{ℕ, suc, ◌≡◌, ◌+◌, ◌-◌, ◌^◌, ◌<◌, ◌≤◌, Bool, true, false, cond, Some, None, List, [], ◌∷◌, length, drop}
use Rattle.std.proofs.Common.{Result, Ok, Err, refl, sym, ap, subst, ◌∙◌, arith, inl, inr}
use Rattle.std.specs.Prelude.{IsOk, filter}
use Rattle.std.specs.List.{AllByRecursion}
use Rattle.std.proofs.lemmas.Bool.{cases_Bool}
use Rattle.std.proofs.lemmas.List.{drop-drop, length-drop}
use Rattle.std.proofs.lemmas.Nat.{or_lt}
use Rattle.scm_model.specs.declared.flat.Principal.{Principal}
use Rattle.sec_desc.specs.declared.value.Ace.{Ace}
use Rattle.sec_desc.specs.declared.layout.AceHeader.{AceHeader}
use Rattle.sec_desc.specs.Layout.{ace_header_of, ace_of, ace_size, is_ace}
use Rattle.sec_desc.specs.Reading.{◌>>=◌, ace_in, aces_in}
use Rattle.sec_desc.specs.Writing.{IsAceValue}
use Rattle.sec_desc.proofs.Bytes.{IsBytes, bytes_drop}
use Rattle.sec_desc.proofs.Aces.{AceTest, ace_test}
use Rattle.sec_desc.proofs.Fitting.{aces_fit}
use Rattle.sec_desc.proofs.Lists.{aces_again, aces_read, bind_ok, ok_is, passed}
use Rattle.sec_check.specs.declared.checking.Decided.{Decided}
use Rattle.sec_check.specs.Allowed.{aces_of, counts, maximum, with_ace}
use Rattle.sec_check.proofs.Deciding.{begins, ends, goes_on, merged, still_small}
use Rattle.sec_check.specs.Laws.{AreSmall}
use Rattle.sec_check.proofs.Masking.{small as small_maximum}

pub values_small : (aces : List Ace) → AllByRecursion IsAceValue aces → AreSmall aces
values_small [] h = tt
values_small (ace ∷ aces) h = (h.0.mask, values_small aces h.1)

pub read_small : (n place : ℕ) (bytes : List ℕ) (aces : List Ace) → IsBytes bytes → aces_in n place bytes ≡ Ok aces → AreSmall aces
read_small n place bytes aces fits e = values_small aces (aces_fit bytes aces (aces_read n place bytes aces fits e).are).values

-- entries that are all there are read alike at any place
pub anywhere : (n place other : ℕ) (bytes : List ℕ) (aces : List Ace) → IsBytes bytes → aces_in n place bytes ≡ Ok aces
    → aces_in n other bytes ≡ Ok aces
anywhere n place other bytes aces fits e =
    let found = aces_read n place bytes aces fits e in
    ap (λ k. aces_in k other bytes) (sym found.count) ∙ aces_again other bytes aces found.are

-- the first of some entries, and the others
pub record First (n : ℕ) (bytes : List ℕ) (aces : List Ace) : Type 0 where
  pub others : List Ace
  pub is : is_ace bytes ≡ true
  pub aces_are : aces ≡ ace_of bytes ∷ others
  pub read : aces_in n 0 (drop (ace_size bytes) bytes) ≡ Ok others
  pub within : ace_size bytes ≤ length bytes

pub first_of_aces : (n : ℕ) (bytes : List ℕ) (aces : List Ace) → IsBytes bytes → aces_in (suc n) 0 bytes ≡ Ok aces → First n bytes aces
unfolding aces_in ace_in
first_of_aces n bytes aces fits e =
    let first = bind_ok (ace_in 0 bytes) (λ x. aces_in n (0 + x.1) (drop x.1 bytes) >>= λ others. Ok (x.0 ∷ others)) aces e in
    let is = passed (is_ace bytes) 0 (Ok (ace_of bytes, ace_size bytes)) first.0 first.1 in
    let pair : (ace_of bytes, ace_size bytes) ≡ first.0 = ok_is (ace_of bytes, ace_size bytes) first.0 is.1 in
    let size = ace_size bytes in
    let more : (aces_in n (0 + size) (drop size bytes) >>= λ others. Ok (ace_of bytes ∷ others)) ≡ Ok aces =
    subst (λ (x : Ace × ℕ). (aces_in n (0 + x.1) (drop x.1 bytes) >>= λ others. Ok (x.0 ∷ others)) ≡ Ok aces) (sym pair) first.2 in
    let rest = bind_ok (aces_in n (0 + size) (drop size bytes)) (λ others. Ok (ace_of bytes ∷ others)) aces more in
    record {
      others = rest.0;
      is = is.0;
      aces_are = sym (ok_is (ace_of bytes ∷ rest.0) aces rest.2);
      read = anywhere n (0 + size) 0 (drop size bytes) rest.0 (bytes_drop size bytes fits) rest.1;
      within = (ace_test bytes is.0).whole;
    }

-- some entries are left at the front of the bytes, and what they come to with those before
pub record Left (principal : Principal) (n : ℕ) (bytes : List ℕ) (so_far : Decided) (total : ℕ) : Type 0 where
  pub aces : List Ace
  pub read : aces_in n 0 bytes ≡ Ok aces
  pub known : so_far.known < 2 ^ 32
  pub merged_is : merged so_far (maximum (filter (counts principal) aces)) ≡ total

-- what is known has 32 bits still
still_known : (principal : Principal) (so_far : Decided) (ace : Ace) → ace.mask < 2 ^ 32 → so_far.known < 2 ^ 32
    → (with_ace principal so_far ace).known < 2 ^ 32
still_known principal so_far ace m k =
    elim (cases_Bool (counts principal ace)) [ inl is ↦ rw is (or_lt 32 so_far.known ace.mask k m) | inr is ↦ rw is k ]

pub one_more : (principal : Principal) (count i : ℕ) (bytes : List ℕ) (so_far after : Decided) (total : ℕ) → IsBytes bytes → i < count
    → after ≡ with_ace principal so_far (ace_of bytes)
    → Left principal (count - i) bytes so_far total → Left principal (count - (i + 1)) (drop (ace_size bytes) bytes) after total
one_more principal count i bytes so_far after total fits lt is left =
    let step : count - i ≡ suc (count - (i + 1)) = omega arith in
    let read : aces_in (suc (count - (i + 1))) 0 bytes ≡ Ok left.aces = subst (λ n. aces_in n 0 bytes ≡ Ok left.aces) step left.read in
    let first = first_of_aces (count - (i + 1)) bytes left.aces fits read in
    let small : AreSmall (ace_of bytes ∷ first.others) =
    subst AreSmall first.aces_are (read_small (count - i) 0 bytes left.aces fits left.read) in
    let go = goes_on principal so_far (ace_of bytes) first.others small left.known in
    record {
      aces = first.others;
      read = first.read;
      known = subst (λ (s : Decided). s.known < 2 ^ 32) (sym is) (still_known principal so_far (ace_of bytes) small.0 left.known);
      merged_is = ap (λ (s : Decided). merged s (maximum (filter (counts principal) first.others))) is ∙ go
          ∙ ap (λ (l : List Ace). merged so_far (maximum (filter (counts principal) l))) (sym first.aces_are) ∙ left.merged_is;
    }

-- an entry is there as long as some are left
pub one_is_there : (principal : Principal) (count i : ℕ) (bytes : List ℕ) (so_far : Decided) (total : ℕ) → IsBytes bytes → i < count
    → Left principal (count - i) bytes so_far total → AceTest bytes × (is_ace bytes ≡ true)
one_is_there principal count i bytes so_far total fits lt left =
    let step : count - i ≡ suc (count - (i + 1)) = omega arith in
    let first = first_of_aces (count - (i + 1)) bytes left.aces fits (subst (λ n. aces_in n 0 bytes ≡ Ok left.aces) step left.read) in
    (ace_test bytes first.is, first.is)

pub none_left : (principal : Principal) (count i : ℕ) (bytes : List ℕ) (so_far : Decided) (total : ℕ) → count ≤ i
    → Left principal (count - i) bytes so_far total → so_far.given ≡ total
unfolding aces_in maximum
none_left principal count i bytes so_far total le left =
    let step : count - i ≡ 0 = omega arith in
    let none : [] ≡ left.aces = ok_is [] left.aces (subst (λ n. aces_in n 0 bytes ≡ Ok left.aces) step left.read) in
    sym (ends so_far left.known) ∙ ap (λ (l : List Ace). merged so_far (maximum (filter (counts principal) l))) none ∙ left.merged_is

all_left : (principal : Principal) (n : ℕ) (bytes : List ℕ) (read : Result (List Ace) ℕ) → IsBytes bytes → IsOk read
    → aces_in n 0 bytes ≡ read
    → Left principal (n - 0) bytes (record { given = 0; known = 0 }) (maximum (filter (counts principal) (aces_of read)))
all_left principal n bytes (Ok aces) fits ok e =
    let small = still_small (counts principal) aces (read_small n 0 bytes aces fits e) in
    let same : n ≡ n - 0 = omega arith in
    record {
      aces = aces;
      read = subst (λ k. aces_in k 0 bytes ≡ Ok aces) same e;
      known = omega arith;
      merged_is = begins (maximum (filter (counts principal) aces)) (small_maximum (filter (counts principal) aces) small);
    }
all_left principal n bytes (Err place) fits ok e = absurd cc

pub at_first : (principal : Principal) (n : ℕ) (bytes : List ℕ) → IsBytes bytes → IsOk (aces_in n 0 bytes)
    → Left principal (n - 0) bytes (record { given = 0; known = 0 }) (maximum (filter (counts principal) (aces_of (aces_in n 0 bytes))))
at_first principal n bytes fits ok = all_left principal n bytes (aces_in n 0 bytes) fits ok refl

-- a fixed part that a reader of entries returns
pub header_there : (bytes : List ℕ) (header : AceHeader) → Some header ≡ cond (is_ace bytes) (Some (ace_header_of bytes)) None
    → (is_ace bytes ≡ true) × (header ≡ ace_header_of bytes)
header_there bytes header e = by_test (is_ace bytes) e
  where
    by_test : (b : Bool) → Some header ≡ cond b (Some (ace_header_of bytes)) None → (b ≡ true) × (header ≡ ace_header_of bytes)
    by_test true f = (refl, cc)
    by_test false f = absurd cc

-- an entry lies within the bytes
pub is_within : (at size : ℕ) (entries rest : List ℕ) → at ≤ length entries → rest ≡ drop at entries → is_ace rest ≡ true
    → size ≡ ace_size rest → at + size ≤ length entries
is_within at size entries rest within e is s = let t = ace_test rest is in
    omega (arith, within, ap length e, length-drop at entries, t.whole, s)

-- one turn of the loop
pub turn : (principal : Principal) (count i at size : ℕ) (entries rest : List ℕ) (so_far after : Decided) (total : ℕ) → IsBytes entries
    → rest ≡ drop at entries → i < count → size ≡ ace_size rest
    → after ≡ with_ace principal so_far (ace_of rest) → Left principal (count - i) (drop at entries) so_far total
    → Left principal (count - (i + 1)) (drop (at + size) entries) after total
turn principal count i at size entries rest so_far after total fits e lt s is left =
    let here : Left principal (count - i) rest so_far total =
    subst (λ (l : List ℕ). Left principal (count - i) l so_far total) (sym e) left in
    let rest_fits : IsBytes rest = subst IsBytes (sym e) (bytes_drop at entries fits) in
    let next = one_more principal count i rest so_far after total rest_fits lt is here in
    let place : drop (ace_size rest) rest ≡ drop (at + size) entries =
    ap (drop (ace_size rest)) e ∙ drop-drop (ace_size rest) at entries ∙ ap (λ n. drop (at + n) entries) (sym s) in
    subst (λ (l : List ℕ). Left principal (count - (i + 1)) l after total) place next

-- no entry is missing
pub never_missing : (principal : Principal) (count i at : ℕ) (entries rest : List ℕ) (so_far : Decided) (total : ℕ) → IsBytes entries
    → rest ≡ drop at entries → i < count
    → None ≡ cond (is_ace rest) (Some (ace_header_of rest)) None → Left principal (count - i) (drop at entries) so_far total → ⊥
never_missing principal count i at entries rest so_far total fits e lt none left =
    let here : Left principal (count - i) rest so_far total =
    subst (λ (l : List ℕ). Left principal (count - i) l so_far total) (sym e) left in
    let rest_fits : IsBytes rest = subst IsBytes (sym e) (bytes_drop at entries fits) in
    let is = (one_is_there principal count i rest so_far total rest_fits lt here).1 in
    let wrong : None ≡ Some (ace_header_of rest) = none ∙ ap (λ b. cond b (Some (ace_header_of rest)) None) is in
    absurd cc

-- An identity is told by its bytes.
use Rattle.std.proofs.Common.{ℕ, ◌≡◌, ◌^◌, ◌<◌, Bool, true, false, eqb, List, [], ◌∷◌, ◌++◌, length, drop, refl, sym, ap, subst, ◌∙◌, arith}
use Rattle.std.specs.Prelude.{◌||◌, bytes_eq}
use Rattle.std.specs.List.{starts_with}
use Rattle.std.proofs.lemmas.Bool.{and_from, and_parts, eqb-true, eq-eqb}
use Rattle.std.proofs.lemmas.List.Elements.{All-from_recursion}
use Rattle.std.proofs.lemmas.Slice.Eq.{bytes_eq-Decides, starts_is}
use Rattle.scm_model.specs.declared.flat.Principal.{Principal}
use Rattle.scm_model.specs.declared.flat.Principal.TheVariants.{Admin, User}
use Rattle.sec_desc.specs.declared.value.Sid.{Sid}
use Rattle.sec_desc.specs.Layout.{is_sid, sid_of}
use Rattle.sec_desc.specs.Writing.{IsShort, IsSidValue, sid_bytes}
use Rattle.sec_desc.specs.Described.{IsSid}
use Rattle.sec_desc.proofs.Bytes.{IsBytes}
use Rattle.sec_desc.proofs.Identities.{sid_again, sid_read}
use Rattle.sec_check.specs.Allowed.{everyone, group_of, same_sid}

both_ways : (a b : Bool) → (a ≡ true → b ≡ true) → (b ≡ true → a ≡ true) → a ≡ b
both_ways true b go back = sym (go refl)
both_ways false true go back = back refl
both_ways false false go back = refl

same_as_itself : (sid : Sid) → same_sid sid sid ≡ true
same_as_itself sid = and_from (bytes_eq sid.authority sid.authority) (bytes_eq sid.parts sid.parts)
    ((bytes_eq-Decides sid.authority sid.authority).1 refl) ((bytes_eq-Decides sid.parts sid.parts).1 refl)

sid_made : List ℕ → List ℕ → Sid
sid_made authority parts = record { authority = authority; parts = parts }

same_is : (a b : Sid) → same_sid a b ≡ true → a ≡ b
unfolding sid_made
same_is a b e =
    let p = and_parts (bytes_eq a.authority b.authority) (bytes_eq a.parts b.parts) e in
    let authority : a.authority ≡ b.authority = (bytes_eq-Decides a.authority b.authority).0 p.0 in
    let parts : a.parts ≡ b.parts = (bytes_eq-Decides a.parts b.parts).0 p.1 in
    ap (λ l. sid_made l a.parts) authority ∙ ap (sid_made b.authority) parts

-- an identity that a value of its own may be
pub record IsKnown (sid : Sid) : Type 0 where
  pub value : IsSidValue sid
  pub short : IsShort sid

pub told : (bytes : List ℕ) (sid : Sid) (r : Bool) → IsBytes bytes → is_sid bytes ≡ true → IsKnown sid
    → r ≡ starts_with eqb bytes (sid_bytes sid) → r ≡ same_sid (sid_of bytes) sid
told bytes sid r fits is known e =
    let starts = starts_is (λ a b. (eqb-true a b, eq-eqb a b)) bytes (sid_bytes sid) r e in
    let read = sid_read bytes fits is in
    both_ways r (same_sid (sid_of bytes) sid)
    (λ yes. (
    let there : IsSid bytes sid = record {
      bytes_are =
          record { rest = drop (length (sid_bytes sid)) bytes; parts = starts.0 yes };
      value = known.value;
      short = known.short;
    } in
    let again = sid_again bytes sid there in
    subst (λ (s : Sid). same_sid s sid ≡ true) (sym again.value) (same_as_itself sid)))
    (λ same. starts.1 read.bytes_are.rest
    (read.bytes_are.parts ∙ ap (λ (s : Sid). sid_bytes s ++ read.bytes_are.rest) (same_is (sid_of bytes) sid same)))

pub everyone_known : IsKnown everyone
everyone_known = record {
  value =
      record { authority = refl; parts = All-from_recursion (λ part. part < 2 ^ 32) (0 ∷ []) (omega arith, tt) };
  short = omega arith;
}

pub group_known : (principal : Principal) → IsKnown (group_of principal)
group_known Admin = record {
  value =
      record { authority = refl; parts = All-from_recursion (λ part. part < 2 ^ 32) (32 ∷ 544 ∷ []) (omega arith, (omega arith, tt)) };
  short = omega arith;
}
group_known User = record {
  value =
      record { authority = refl; parts = All-from_recursion (λ part. part < 2 ^ 32) (32 ∷ 545 ∷ []) (omega arith, (omega arith, tt)) };
  short = omega arith;
}

-- one of two tests, the second only if the first fails
pub first_holds : (r a b : Bool) → r ≡ true → r ≡ a → r ≡ (a || b)
first_holds r true b is e = e
first_holds r false b is e = absurd cc

pub second_tells : (r r' a b : Bool) → r ≡ false → r ≡ a → r' ≡ b → r' ≡ (a || b)
second_tells r r' true b is e f = absurd cc
second_tells r r' false b is e f = f

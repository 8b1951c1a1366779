-- A number within a range is read exactly where it stands.
use Rattle.std.proofs.Common.{◌≡◌, ℕ, ◌≤◌, Bool, true, false, cond, leb, List, Ok, Err, refl, subst}
use Rattle.std.proofs.lemmas.Bool.{leb-true, le-leb}
use Rattle.ndr_body.specs.declared.fault.BodyFault.{BodyFault}
use Rattle.ndr_body.specs.declared.fault.BodyFault.TheVariants.{BadCount}
use Rattle.ndr_body.specs.Reading.{aligned, number_at}
use Rattle.ndr_body.specs.Spelled.{IsNumber, Stands}
use Rattle.ndr_body.proofs.Spelled.{IsBytes, bind_ok, ok_is, number_spelled, number_read}
use Rattle.scm_shapes.specs.Ranges.{within_at, WithinStands}

pub guard_true : {A : Type 0} (b : Bool) (d : BodyFault) (x y : A) → cond b (Ok x) (Err d) ≡ Ok y → (b ≡ true) × (x ≡ y)
guard_true true d x y e = (refl, ok_is x y e)
guard_true false d x y e = absurd cc

pub within_found : (most : ℕ) (body : List ℕ) (place : ℕ) (x : ℕ × ℕ) → IsBytes body → within_at most body place ≡ Ok x
    → WithinStands most body place x.0 x.1
unfolding within_at
within_found most body place x fits e =
    let a = bind_ok (number_at body place) (λ number. cond (leb number.0 most) (Ok number) (Err (BadCount (aligned place)))) x e in
    let g = guard_true (leb a.0.0 most) (BadCount (aligned place)) a.0 x a.2 in
    subst (λ (y : ℕ × ℕ). WithinStands most body place y.0 y.1) g.1 (record {
      stands = number_spelled body (aligned place) (aligned place) a.0 fits a.1;
      in_range = leb-true a.0.0 most g.0;
    })

pub within_read : (most : ℕ) (body : List ℕ) (place n after : ℕ) → Stands IsNumber body place n after → n ≤ most
    → within_at most body place ≡ Ok (n, after)
unfolding within_at
within_read most body place n after h le = rw (number_read body (aligned place) (aligned place) n after h, le-leb n most le) refl

-- The law of security.
use Rattle.std.proofs.Common.{ℕ, ◌≡◌, ◌<◌, true, false, List, Option, None, Some, ap, arith, eq-eqb, refl, subst, sym}
use Rattle.std.specs.Prelude.{All, IsSomeAnd, bit_and, is_none, option_map, unwrap_or}
use Rattle.std.proofs.lemmas.List.Elements.{All-push, All-weaker}
use Rattle.std.proofs.lemmas.Nat.Bits.{bit_at_and, same_from_bits}
use Rattle.scm_model.specs.declared.flat.Flat.{Flat}
use Rattle.scm_model.specs.declared.flat.HandleRow.{HandleRow}
use Rattle.scm_model.specs.declared.flat.Limits.{Limits}
use Rattle.scm_model.specs.declared.calls.Request.TheVariants as request
use Rattle.scm_model.specs.declared.steps.Kept.{Kept}
use Rattle.scm_model.specs.declared.steps.Step.{Step}
use Rattle.scm_model.specs.declared.steps.Step.TheVariants.{Call}
use Rattle.scm_model.specs.Changes.{with_moment}
use Rattle.scm_rules.specs.OpenService.{open_service_refusals, open_service_verdict, service_granted}
use Rattle.scm_rules.specs.Security.{service_allowed}
use Rattle.scm_rules.specs.Steps.{step_of}
use Rattle.scm_rules.specs.Verdicts.{call_of, done_of, told_refused}
use Rattle.scm_runs.proofs.Along.{Gives}
use Rattle.scm_runs.proofs.Calls.{all_pass, by_verdict}
use Rattle.scm_runs.proofs.Founds.{opened_keeps}
use Rattle.scm_runs.proofs.Frames.{framed}
use Rattle.scm_runs.proofs.Sound.{Sound}
use Rattle.scm_text.specs.Numbers.{has_bits}
use Rattle.scm_secured.specs.Opened.{IsNarrowed, LawOfSecurity, NarrowsOpened, handle_kind}

-- ## Masks

left_part : (a b : ℕ) → has_bits a (bit_and a b) ≡ true
left_part a b = eq-eqb _ _ (same_from_bits (bit_and a (bit_and a b)) (bit_and a b) (λ i.
    let x = bit_at_and a (bit_and a b) i in
    let y = bit_at_and a b i in
    omega arith))

right_part : (a b : ℕ) → has_bits b (bit_and a b) ≡ true
right_part a b = eq-eqb _ _ (same_from_bits (bit_and b (bit_and a b)) (bit_and a b) (λ i.
    let x = bit_at_and b (bit_and a b) i in
    let y = bit_at_and a b i in
    omega arith))

in_left : (a b : Option ℕ) → is_none a ≡ false → IsSomeAnd a (λ mask. has_bits mask (bit_and (unwrap_or a 0) (unwrap_or b 0)) ≡ true)
in_left None b some = absurd cc
in_left (Some a) b some = left_part a (unwrap_or b 0)

in_right : (a b : Option ℕ) → is_none b ≡ false → IsSomeAnd b (λ mask. has_bits mask (bit_and (unwrap_or a 0) (unwrap_or b 0)) ≡ true)
in_right a None some = absurd cc
in_right a (Some b) some = right_part (unwrap_or a 0) b

-- ## Handles

-- what is to hold of the handle with the next number
abbrev IsNew : Flat → ℕ → List ℕ → ℕ → HandleRow → Type 0
IsNew f caller name access row = row.number ≡ f.next.handle → IsNarrowed f caller name access row

-- no handle that stood has it
none_new : (f : Flat) (caller : ℕ) (name : List ℕ) (access : ℕ) → Sound f → All (IsNew f caller name access) f.handles
none_new f caller name access s =
    All-weaker (λ (row : HandleRow). row.number < f.next.handle) (IsNew f caller name access)
    (λ row below same. absurd (omega (arith, below, same))) f.handles s.handles.handles.below

opened_new : (l : Limits) (f : Flat) (moment caller handle : ℕ) (name : List ℕ) (access : ℕ) (append : Kept) → Sound f
    → All (IsNew f caller name access)
    (call_of l (with_moment f moment) caller (request.OpenService handle name access) append).flat.handles
opened_new l f moment caller handle name access append s =
    let g = with_moment f moment in
    let asked = request.OpenService handle name access in
    let code = open_service_verdict l g caller handle name access in
    let old = none_new f caller name access s in
    by_verdict (λ r. All (IsNew f caller name access) r.flat.handles) code (told_refused g caller asked code) g (done_of l g caller asked)
    (λ e. opened_keeps (λ (h : Flat). All (IsNew f caller name access) h.handles) g caller name access old (λ row is.
    let p = all_pass (open_service_refusals l g caller handle name access) (refl, (refl, (refl, (refl, (refl, (refl, tt)))))) e in
    All-push (IsNew f caller name access) f.handles _ old (λ same. record {
      service = ap (option_map handle_kind) is;
      granted = in_left (service_granted f caller access) (service_allowed f caller name access) p.1.1.1.0;
      allowed = in_right (service_granted f caller access) (service_allowed f caller name access) p.1.1.1.1.0;
    })))
    (λ e. old)

-- ## Steps

of_step : (l : Limits) (f : Flat) (moment : ℕ) (step : Step) → Sound f → NarrowsOpened f step (step_of l f moment step).flat
of_step l f moment (Call caller (request.OpenService handle name access) append) s =
    let step = Call caller (request.OpenService handle name access) append in
    subst (All (IsNew f caller name access)) (sym (ap (λ (g : Flat). g.handles) (framed l f moment step)))
    (opened_new l f moment caller handle name access append s)
of_step l f moment (Call caller asked append) s = tt
of_step l f moment step s = tt

pub gives : (l : Limits) → Gives Sound LawOfSecurity l
gives l f e s ok = of_step l f e.0 e.1 s

-- Registrations are in order in every state.
use Rattle.std.proofs.Common.{ℕ, ◌≡◌, ◌∙◌, ◌==◌, not, false, get_or, ap, sym, refl, subst, eq-eqb}
use Rattle.std.specs.Prelude.{All}
use Rattle.std.proofs.lemmas.List.Elements.{All-filter, All-map, All-nil}
use Rattle.scm_model.specs.Notices.{Event, notified, taken_once}
use Rattle.scm_model.specs.declared.flat.Flat.{Flat}
use Rattle.scm_model.specs.declared.flat.Limits.{Limits}
use Rattle.scm_model.specs.declared.flat.Registration.{Registration}
use Rattle.scm_model.specs.declared.steps.Step.{Step}
use Rattle.scm_rules.specs.Opening.{IsOpening}
use Rattle.scm_runs.proofs.Along.{Keeps}
use Rattle.scm_runs.proofs.Calls.{keeps}
use Rattle.scm_runs.proofs.Registered.{all_put, taken_or}
use Rattle.scm_runs.proofs.Sound.{Sound, begun}
use Rattle.scm_runs.proofs.Told.{IsProper, notified_or}
use Rattle.scm_history.proofs.Registrations.{Stands, of_step, watching_row}
use Rattle.scm_notices.specs.Notices.{IsInOrder}
use Rattle.scm_notices.proofs.Events.{made_keeps, takes}

-- ## One registration

no_event : (n : ℕ) → n ≡ 0 → (n == 0) ≡ false → ⊥
no_event n zero some = let yes = eq-eqb n 0 zero in cc

told_in_order : (event : Event) (row : Registration) → IsProper event → IsInOrder row → IsInOrder (notified event row)
told_in_order event row proper o =
    notified_or IsInOrder event row
    (λ e. (let is = takes event row e in record {
      told = λ some. record { asked = is.asked; whose = proper.whose ∙ ap (λ n. n == 0) (sym is.service) };
      untold = λ none. absurd (no_event event.bit none is.bit);
      spent = λ spent. absurd (let unspent = is.unspent in cc);
    })) o

taken_in_order : (number : ℕ) (row : Registration) → IsInOrder row → IsInOrder (taken_once number row)
taken_in_order number row o = taken_or IsInOrder number row
    (λ e. record { told = λ some. absurd cc; untold = λ none. (refl, refl); spent = λ spent. refl }) o

-- ## All of them

stand : (f : Flat) (step : Step) → Sound f → All IsInOrder f.registrations → Stands (All IsInOrder) f step
stand f step s was = record {
  tells = λ event rows proper all. All-map IsInOrder (notified event) rows
      (λ k d lt. told_in_order event (get_or rows k d) proper (all k d lt));
  was = λ quiet. was;
  comes = λ caller handle mask append of e is. all_put IsInOrder (watching_row f caller handle mask of) f.registrations was
      (made_keeps IsInOrder f caller handle mask of s
      (record { told = λ some. absurd cc; untold = λ none. (refl, refl); spent = λ spent. absurd cc }) told_in_order);
  taken = λ caller handle number append e is. All-map IsInOrder (taken_once number) f.registrations
      (λ k d lt. taken_in_order number (get_or f.registrations k d) (was k d lt));
  closed = λ caller handle number append e is. All-filter
      (λ (row : Registration). not (row.number == number)) IsInOrder f.registrations was;
  gone = λ caller e. All-filter (λ (row : Registration). not (row.caller == caller)) IsInOrder f.registrations was;
}

-- ## States

pub record Ordered (f : Flat) : Type 0 where
  pub sound : Sound f
  pub ordered : All IsInOrder f.registrations

pub ordered_begun : (l : Limits) (f : Flat) → IsOpening l f → Ordered f
ordered_begun l f o = record {
  sound = begun l f o;
  ordered = subst (λ (g : Flat). All IsInOrder g.registrations) (sym o.is)
      (All-nil IsInOrder);
}

pub ordered_keeps : (l : Limits) → Keeps Ordered l
ordered_keeps l f e o ok = record
    { sound = keeps l f e o.sound ok; ordered = of_step l (All IsInOrder) f e.0 e.1 (stand f e.1 o.sound o.ordered) o.sound ok }

-- Configurations that a manager can begin with.
use Rattle.std.proofs.Common.{ℕ, ◌≡◌, ◌==◌, List, [], ◌∷◌, None, ap, arith, refl, subst, sym}
use Rattle.std.specs.Prelude.{All}
use Rattle.std.proofs.lemmas.List.Elements.{All-weaker}
use Rattle.std.proofs.lemmas.Bool.{false≢true}
use Rattle.scm_model.specs.declared.flat.Config.{Config}
use Rattle.scm_model.specs.declared.flat.Due.{Due}
use Rattle.scm_model.specs.declared.flat.Limits.{Limits}
use Rattle.scm_model.specs.Needs.{needs_of}
use Rattle.scm_model.specs.Walks.{IsWalk}
use Rattle.scm_rules.specs.Needs.{need_rows}
use Rattle.scm_rules.specs.Opening.{CanOpen, IsOpening, automatic_starts, opening, services_from}
use Rattle.service_record.specs.Checks.{check_new}
use Rattle.scm_tables.specs.Firing.{begins_plan}
use Rattle.scm_tables.specs.Tabled.{HasShortTexts}
use Rattle.scm_tables.proofs.Opened.{few_starts, opened_length}
use Rattle.scm_tables.proofs.Placed.{fewer}
use Rattle.scm_core.specs.Inside.{IsSound, KeepsMade, KeepsRoom, promised}
use Rattle.scm_core.specs.Managed.{AreSmall}
use Rattle.scm_core.specs.declared.manager.Manager.TheInside.{Inside}
use Rattle.scm_arms_service.proofs.Judging.{short_texts}

text_short : (config : Config) → check_new config None ≡ 0 → HasShortTexts config
text_short config e = short_texts config None (ap (λ (n : ℕ). n == 123) e) (ap (λ (n : ℕ). n == 87) e)

-- their paths and names are short
pub texts_short : (configs : List Config) → All (λ (config : Config). check_new config None ≡ 0) configs → All HasShortTexts configs
texts_short configs checked = All-weaker (λ (config : Config). check_new config None ≡ 0) HasShortTexts text_short configs checked

-- ## Without configurations

no_walk : (from : ℕ) (between : List ℕ) (to : ℕ) → IsWalk (needs_of (need_rows (services_from 1 []))) from between to → ⊥
no_walk from [] to h = false≢true h
no_walk from (first ∷ rest) to h = false≢true h.0

-- a manager can begin without services
pub opens_with_nothing : (l : Limits) → CanOpen l []
opens_with_nothing l = record {
  few = omega arith;
  names = λ i j d lt within. absurd (omega (arith, within));
  displays = λ i j d lt within. absurd (omega (arith, within));
  checked = λ k d lt. absurd (omega (arith, lt));
  acyclic = λ from between walk. no_walk from between from walk;
}

pub opens_empty : (l : Limits) (moment : ℕ) → IsOpening l (opening l [] [] moment)
opens_empty l moment = record { groups = []; configs = []; moment = moment; can = opens_with_nothing l; is = refl }

-- ## What a manager begins with is sound

pub opened_sound : (a : Inside) (l : Limits) (groups : List (List ℕ)) (configs : List Config) (moment : ℕ)
    → a.tables.flat ≡ opening l groups configs moment → a.tables.limits ≡ l → a.steps ≡ 0 → promised a.room ≡ None
    → CanOpen l configs → AreSmall l → IsSound a
opened_sound a l groups configs moment flat limits steps room can small =
    let few = can.few in
    let rows = automatic_starts groups configs moment in
    let all = few_starts moment groups (services_from 1 configs) in
    let count = opened_length 1 configs in
    let starts = fewer (λ (due : Due). begins_plan due.kind) rows in
    record {
      handles = rw (flat, steps) (omega arith);
      callers = rw (flat, steps) (omega arith);
      services = rw (flat, steps) (omega (arith, few, small.services));
      plans = rw (flat, steps) (omega (arith, starts, all, count, few, small.services));
      dues = rw (flat, steps) (omega (arith, starts, all, count, few, small.services));
      registrations = rw (flat, steps) (omega arith);
      processes = rw (flat, steps) (omega arith);
      few = rw (flat, limits) (omega (arith, count, few));
      most = rw limits (omega (arith, small.services));
      limit = rw limits (omega (arith, small.processes));
      controls = rw limits small.controls;
      room = subst (KeepsRoom a.tables) (sym room) tt;
      made = subst (KeepsMade a.tables.limits a.tables.flat a.made) (sym room) tt;
    }

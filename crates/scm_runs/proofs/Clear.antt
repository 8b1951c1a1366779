-- Every state that a run reaches is sound, nobody in it is to leave, and its decided plans and its deadlines are in order.
use Rattle.std.proofs.Common.{ℕ, ◌+◌, ◌≡◌, true, List, [], Option, None, Some, ap, sym, refl, subst, map, ◌∷◌, ◌∙◌}
use Rattle.std.specs.Prelude.{All}
use Rattle.std.proofs.lemmas.List.Elements.{All-cons, All-filter, All-from_recursion, All-nil, All-weaker, filter_passes}
use Rattle.scm_model.specs.declared.flat.Config.{Config}
use Rattle.scm_model.specs.declared.flat.Due.{Due}
use Rattle.scm_model.specs.declared.flat.Flat.{Flat}
use Rattle.scm_model.specs.declared.flat.Limits.{Limits}
use Rattle.scm_model.specs.declared.flat.Plan.{Plan}
use Rattle.scm_model.specs.declared.flat.Service.{Service}
use Rattle.scm_model.specs.declared.steps.Answer.{Answer}
use Rattle.scm_model.specs.declared.steps.Answer.TheVariants as answer
use Rattle.scm_model.specs.Purge.{purged, leaving}
use Rattle.start_plan.specs.Decided.{code_of, plan_of}
use Rattle.start_plan.specs.Settle.{is_due_still, settle_all, settled, stays}
use Rattle.scm_rules.specs.Opening.{IsOpening, automatic_at, opening, services_from, starts_from}
use Rattle.start_triggers.specs.Order.{auto_rows}
use Rattle.scm_model.specs.declared.flat.DueKind.TheVariants as dues
use Rattle.scm_rules.specs.Steps.{at_moment, effect_of, finished, left_by, step_of}
use Rattle.scm_rules.specs.Valid.{IsValid}
use Rattle.scm_runs.specs.Leaving.{before_leaving}
use Rattle.scm_runs.proofs.Along.{Keeps}
use Rattle.scm_runs.proofs.Calls.{before_sound, keeps, of_effect}
use Rattle.scm_runs.proofs.Hosted.{have_none}
use Rattle.scm_runs.proofs.Deadlines.{AreStill, ended_still}
use Rattle.scm_runs.proofs.Opened.{opened_stay}
use Rattle.scm_runs.proofs.Bounded.{IsBounded, bounded_opened, bounded_step}
use Rattle.scm_runs.proofs.Plans.{IsKnown, IsPlan, numbered, tried_once}
use Rattle.scm_runs.proofs.Handled.{HasRightsIn}
use Rattle.scm_runs.specs.Handles.{AreRights}
use Rattle.scm_rules.specs.Valid.{HasDeadline, HasPlainMask}
use Rattle.scm_model.specs.declared.flat.Principal.{Principal}
use Rattle.scm_model.specs.declared.flat.Registration.{Registration}
use Rattle.scm_model.specs.declared.flat.HandleRow.{HandleRow}
use Rattle.scm_model.specs.declared.flat.HandleKind.{HandleKind}
use Rattle.scm_model.specs.declared.flat.HandleKind.TheVariants as kinds
use Rattle.scm_runs.proofs.Rests.{finished_rest, is_settled, purged_rest, settled_rest}
use Rattle.scm_runs.proofs.Settling.{settles}
use Rattle.scm_runs.proofs.Sound.{Sound, begun, purged_twice}
use Rattle.scm_model.specs.Notices.{Event, all_noted, event_of_leaving}

-- a decided plan has a caller, and each deadline is of an undecided plan
pub record AreTidy (f : Flat) : Type 0 where
  pub still : AreStill f.plans f.dues
  pub stay : All (λ (plan : Plan). stays plan ≡ true) f.plans

settled_tidy : (l : Limits) (f : Flat) → AreTidy (settled l f)
settled_tidy l f =
    let ends = settle_all l f f.plans in
    record {
      still = filter_passes (λ (due : Due). is_due_still (settled l f).plans due.kind) ends.flat.dues;
      stay = filter_passes stays ends.plans;
    }

left_tidy : (g : Flat) (plan : ℕ) (code : Option ℕ) → code_of g.plans plan ≡ code → Sound g → AreTidy g → AreTidy (left_by g plan code)
left_tidy g plan None e s t = t
left_tidy g plan (Some code) e s t = record {
  still = ended_still g.plans plan code (plan_of g.plans plan) g.dues (numbered g.next.plan g.next.service g.callers g.plans s.plans).rising
      refl e t.still;
  stay = All-filter _ (λ (row : Plan). stays row ≡ true) g.plans t.stay;
}

finished_tidy : (g : Flat) (told : Answer) → Sound g → AreTidy g → AreTidy (finished g told).flat
finished_tidy g (answer.Begun plan) s t = left_tidy g plan (code_of g.plans plan) refl s t
finished_tidy g told s t = t

pub record Clear (l : Limits) (f : Flat) : Type 0 where
  pub sound : Sound f
  pub purged : purged f ≡ f
  pub tidy : AreTidy f
  pub settled : settled l f ≡ f
  pub bounded : IsBounded f

-- without registrations nobody is told anything
nobody_told : (events : List Event) → all_noted events [] ≡ []
nobody_told [] = refl
nobody_told (event ∷ events) = nobody_told events

opened_purged : (l : Limits) (groups : List (List ℕ)) (configs : List Config) (moment : ℕ)
    → purged (opening l groups configs moment) ≡ opening l groups configs moment
opened_purged l groups configs moment =
    let f = opening l groups configs moment in
    ap (λ (rows : List Registration). record (purged f) { registrations = rows }) (nobody_told (map event_of_leaving (leaving f)))
    ∙ ap (λ (services : List Service). record f { services = services }) (opened_stay [] 1 configs)

-- a start that is due is no deadline
starts_still : (number moment : ℕ) (rows : List Service) → AreStill [] (starts_from number moment rows)
starts_still number moment [] = All-nil (λ (due : Due). is_due_still [] due.kind ≡ true)
starts_still number moment (row ∷ rows) =
    All-cons (λ (due : Due). is_due_still [] due.kind ≡ true) (record {
      moment = automatic_at moment row;
      number = number;
      kind = dues.Start row.number;
    }) (starts_from (number + 1) moment rows) refl
    (starts_still (number + 1) moment rows)

opened_tidy : (l : Limits) (groups : List (List ℕ)) (configs : List Config) (moment : ℕ) → AreTidy (opening l groups configs moment)
opened_tidy l groups configs moment = record {
  still = starts_still 1 moment (auto_rows (services_from 1 configs) groups);
  stay = All-nil (λ (plan : Plan). stays plan ≡ true);
}

opened_settled : (l : Limits) (groups : List (List ℕ)) (configs : List Config) (moment : ℕ)
    → settled l (opening l groups configs moment) ≡ opening l groups configs moment
opened_settled l groups configs moment =
    let tidy = opened_tidy l groups configs moment in
    is_settled l (opening l groups configs moment) tt tidy.still tidy.stay

pub clear_begun : (l : Limits) (f : Flat) → IsOpening l f → Clear l f
clear_begun l f o = record {
  sound = begun l f o;
  purged = subst (λ (g : Flat). purged g ≡ g) (sym o.is) (opened_purged l o.groups o.configs o.moment);
  tidy = subst AreTidy (sym o.is) (opened_tidy l o.groups o.configs o.moment);
  settled = subst (λ (g : Flat). settled l g ≡ g) (sym o.is) (opened_settled l o.groups o.configs o.moment);
  bounded = subst IsBounded (sym o.is) (bounded_opened l o.groups o.configs o.moment o.can);
}

pub clear_keeps : (l : Limits) → Keeps (Clear l) l
clear_keeps l f e c ok =
    let done = effect_of l (at_moment f e.0 e.1) e.1 in
    let tidy = finished_tidy (settled l done.flat) done.answer (settles l done.flat (of_effect l f e.0 e.1 c.sound ok))
    (settled_tidy l done.flat) in
    let before = before_leaving l f e in
    let rests = purged_rest l before (have_none before (before_sound l f e.0 e.1 c.sound ok))
    (finished_rest l (settled l done.flat) done.answer (settled_rest l done.flat)) in
    record {
      sound = keeps l f e c.sound ok;
      purged = purged_twice (before_leaving l f e);
      tidy = record { still = tidy.still; stay = tidy.stay };
      settled = is_settled l (step_of l f e.0 e.1).flat rests tidy.still tidy.stay;
      bounded = bounded_step l f e.0 e.1 c.sound c.bounded;
    }

-- ## What it says

plain_mask : (principal : Principal) (kind : HandleKind) (granted : ℕ) → AreRights principal kind granted → HasPlainMask kind granted
plain_mask principal kinds.Lock granted none = none
plain_mask principal (kinds.Notify number) granted none = none
plain_mask principal kind granted rights = tt

pub is_valid_clear : (l : Limits) (f : Flat) → Clear l f → IsValid l f
is_valid_clear l f c = record {
  services = c.sound.services.numbered;
  handles = c.sound.handles.handles;
  processes = c.sound.processes.numbered;
  plans = numbered f.next.plan f.next.service f.callers f.plans c.sound.plans;
  registrations = c.sound.registrations.numbered;
  dues = c.sound.dues.numbered;
  callers = c.sound.handles.callers;
  names = c.sound.services.names;
  displays = c.sound.services.displays;
  configs = c.sound.services.configs;
  kinds = c.sound.services.kinds;
  stopped = c.sound.services.stopped;
  current = c.sound.processes.listed;
  wanted = c.sound.processes.wanted;
  starting = c.sound.processes.starting;
  asked = c.sound.processes.asked;
  secured = c.sound.services.secured;
  acyclic = c.sound.services.acyclic;
  tried = tried_once f.next.plan f.next.service f.callers f.plans c.sound.plans;
  known = All-weaker (IsPlan f.next.plan f.next.service f.callers) (IsKnown f.callers) (λ plan is. is.known) f.plans
      (All-from_recursion (IsPlan f.next.plan f.next.service f.callers) f.plans c.sound.plans.each);
  deadlines = All-from_recursion (HasDeadline f.dues) f.plans c.sound.deadlines.each;
  due_still = c.tidy.still;
  decided = c.tidy.stay;
  held = c.sound.handles.held;
  locks = c.sound.handles.lock.locks;
  holder = c.sound.handles.lock.holder;
  masks = All-weaker (HasRightsIn f.callers) (λ (row : HandleRow). HasPlainMask row.kind row.granted)
      (λ row rights. plain_mask _ row.kind row.granted rights) f.handles c.sound.handles.rights;
  commands = c.bounded.commands;
  registered = c.sound.registrations.held;
  told = c.sound.registrations.told;
  due_once = c.bounded.once;
  settled = c.settled;
  purged = c.purged;
}

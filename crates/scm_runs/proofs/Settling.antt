-- Settling keeps what is true of every state, and what it leaves of each service.
use Rattle.std.proofs.Common.{ℕ, ◌≡◌, ◌⊎◌, ◌∙◌, ◌<◌, ◌≤◌, ◌+◌, ◌==◌, ◌&&◌, ◌||◌, ◌++◌, Bool, true, false, cond, List, [], ◌∷◌, Option, None}
use Rattle.std.proofs.Common.{Some, eq-eqb, ne_eqb, filter, find, map, ap, sym, refl, subst, arith, eqb-true, inl, inr}
use Rattle.std.specs.Prelude.{All, is_some}
use Rattle.scm_model.specs.Rows.{service_of}
use Rattle.std.specs.List.{AllByRecursion, AllZip, list_any}
use Rattle.std.specs.Option.{option_to_list}
use Rattle.std.proofs.lemmas.List.Folds.{list_any-append}
use Rattle.std.proofs.lemmas.Cmp.{nat_eq_equiv}
use Rattle.std.proofs.lemmas.List.Elements.{All-head, All-tail}
use Rattle.std.proofs.lemmas.Map.Keys.{IsDistinct-push}
use Rattle.scm_model.specs.declared.flat.Due.{Due}
use Rattle.scm_model.specs.declared.flat.Flat.{Flat}
use Rattle.scm_model.specs.declared.flat.Limits.{Limits}
use Rattle.scm_model.specs.declared.flat.Plan.{Plan}
use Rattle.scm_model.specs.declared.flat.Process.{Process}
use Rattle.scm_model.specs.declared.flat.Service.{Service}
use Rattle.start_plan.specs.Entered.{entered_at, is_shared_by, pid_for, starting_in, started_if, wanted_process, with_entered}
use Rattle.start_plan.specs.Hosts.{host, is_sharing}
use Rattle.start_plan.specs.Moves.{move_of}
use Rattle.start_plan.specs.Settle.{move_code, dropped, is_due_still, moved, settle_all, settle_entries, settle_from, settle_plan, settled}
use Rattle.start_plan.specs.Settle.{stays, succeeded, tidied, unmoved, with_tried, words_for}
use Rattle.start_plan.specs.declared.settling.Move.TheVariants as moves
use Rattle.start_plan.proofs.Hosts.{host_found}
use Rattle.start_plan.proofs.Keeps.{AllKept, Both, IsEntry, all_filter, all_succeed, is_entry}
use Rattle.start_plan.proofs.Rising.{rising_settled}
use Rattle.scm_runs.proofs.Deadlines.{settled_deadlines}
use Rattle.scm_runs.proofs.Numbers.{numbered_filter}
use Rattle.scm_runs.proofs.Plans.{AreBelow, ArePlans, IsPlan}
use Rattle.scm_runs.proofs.Lists.{found_only}
use Rattle.scm_rules.specs.Valid.{has_process}
use Rattle.scm_runs.proofs.Processes.{AreProcesses, SharesAs, by_host, has_above, has_below, more, shared_there}
use Rattle.scm_runs.proofs.Rows.{AreServices, IsStoppedWithout, begun}
use Rattle.scm_model.specs.declared.flat.Registration.{Registration}
use Rattle.scm_runs.proofs.Registered.{AreRegistered, events_keep}
use Rattle.scm_runs.proofs.Told.{Tells, all_named, start_tells}
use Rattle.scm_runs.proofs.Sound.{Sound}
use Rattle.std.proofs.lemmas.Bool.{and_parts, cases_lt}

-- ## Facts that last

-- a fact of the state that each entering keeps, and one of plans that each move keeps, where all entries are below a number
pub record Lasts (l : Limits) (P : Flat → Type 0) (Q : Plan → Type 0) (bound : ℕ) : Type 0 where
  pub enters : (f : Flat) (plan : Plan) (service : ℕ) (words : List (List ℕ)) → IsEntry l f plan.tried service → service < bound → P f
      → P (with_entered f service words)
  pub tries : (f : Flat) (plan : Plan) (service : ℕ) → IsEntry l f plan.tried service → Q plan → Q (with_tried plan service)
  pub drops : (plan : Plan) (service : ℕ) (rest : List ℕ) (code : ℕ) → AreBelow bound rest → Q plan → Q (dropped plan service rest code)
  pub meets : (plan : Plan) (services : List ℕ) → Q plan → Q (succeeded services plan)
  pub below : (plan : Plan) → Q plan → AreBelow bound plan.entries

entries_last : (l : Limits) (P : Flat → Type 0) (Q : Plan → Type 0) (bound : ℕ) → Lasts l P Q bound
    → (f : Flat) (plan : Plan) (entries : List ℕ) → AreBelow bound entries → P f → Q plan
    → Both P Q (settle_entries l f plan entries)
entries_last l P Q bound k f plan [] below p q = record { flat = p; plan = q }
entries_last l P Q bound k f plan (s ∷ rest) below p q =
    elim (is_some plan.code) as (λ b. Both P Q (cond b (unmoved f plan) (moved f plan s
    (settle_entries l f (dropped plan s rest (move_code (move_of l f plan.tried s))) rest) (move_of l f plan.tried s)))) [
      | true ↦ record { flat = p; plan = q }
      | false ↦ elim (move_of l f plan.tried s) as (λ m. move_of l f plan.tried s ≡ m
          → Both P Q (moved f plan s (settle_entries l f (dropped plan s rest (move_code m)) rest) m)) [
            | moves.Passes ↦ λ e. entries_last l P Q bound k f (dropped plan s rest 0) rest below.1 p (k.drops plan s rest 0 below.1 q)
            | moves.Waits ↦ λ e. record { flat = p; plan = q }
            | moves.Enters ↦ λ e. record {
              flat = k.enters f plan s (words_for plan s) (is_entry l f plan.tried s e) below.0 p;
              plan = k.tries f plan s (is_entry l f plan.tried s e) q;
            }
            | moves.Fails code ↦ λ e. entries_last l P Q bound k f (dropped plan s rest code) rest below.1 p
                (k.drops plan s rest code below.1 q)
          ] refl
    ]

from_last : (l : Limits) (P : Flat → Type 0) (Q : Plan → Type 0) (bound : ℕ) → Lasts l P Q bound → (f : Flat) (hosted : List ℕ)
    (plans : List Plan) → P f → AllByRecursion Q plans → AllKept P Q (settle_from l f hosted plans)
from_last l P Q bound k f hosted [] p q = record { flat = p; plans = tt }
from_last l P Q bound k f hosted (plan ∷ plans) p q =
    let met = succeeded hosted plan in
    let turn = settle_plan l f met in
    let is = k.meets plan hosted q.0 in
    let first = entries_last l P Q bound k f met met.entries (k.below met is) p is in
    let rest = from_last l P Q bound k turn.flat (hosted ++ option_to_list turn.hosted) plans first.flat q.1 in
    record { flat = rest.flat; plans = (first.plan, rest.plans) }

pub all_last : (l : Limits) (P : Flat → Type 0) (Q : Plan → Type 0) (bound : ℕ) → Lasts l P Q bound → (f : Flat) (plans : List Plan) → P f
    → AllByRecursion Q plans → AllKept P Q (settle_all l f plans)
all_last l P Q bound k f plans p q =
    let all = from_last l P Q bound k f [] plans p q in
    let end = settle_from l f [] plans in
    record { flat = all.flat; plans = all_succeed Q k.meets end.hosted end.plans all.plans }

-- ## What settling makes of a service

-- a service with a number below this bound had no process, and is started by a new one, or by one of those that are listed
pub record IsEntered (next bound : ℕ) (listed : List Process) (before after : Service) : Type 0 where
  pub entered : after ≡ starting_in after.process before
  pub process : (next ≤ after.process) ⊎ (has_process listed after.process ≡ true)
  pub number : before.number < bound
  pub none : before.process ≡ 0

-- a service stays as it is, or is entered
abbrev pub IsSettled : ℕ → ℕ → List Process → Service → Service → Type 0
IsSettled next bound listed before after = (after ≡ before) ⊎ IsEntered next bound listed before after

abbrev pub AreSettled : ℕ → ℕ → List Process → List Service → List Service → Type 0
AreSettled next bound listed befores afters = AllZip (IsSettled next bound listed) befores afters

-- a process by which services are started
abbrev IsOurs : ℕ → List Process → ℕ → Type 0
IsOurs next listed process = (next ≤ process) ⊎ (has_process listed process ≡ true)

newly : (next bound n process : ℕ) (listed : List Process) (before after : Service) → n < bound → IsOurs next listed process
    → (after.number == n) ≡ true → after.process ≡ 0 → IsSettled next bound listed before after
    → IsEntered next bound listed before (starting_in process after)
newly next bound n process listed before after small up same none (inl is) =
    record {
      entered = ap (starting_in process) is;
      process = up;
      number =
          (let e = eqb-true after.number n same in let g : after.number ≡ before.number = ap (λ (r : Service). r.number) is in
          omega (arith, e, g, small));
      none = ap (λ (r : Service). r.process) (sym is) ∙ none;
    }
newly next bound n process listed before after small up same none (inr is) = record {
  entered = ap (starting_in process) is.entered;
  process = up;
  number = is.number;
  none = is.none;
}

one_settled : (next bound n process : ℕ) (listed : List Process) (before after : Service) → n < bound → IsOurs next listed process
    → IsStoppedWithout after → IsSettled next bound listed before after → IsSettled next bound listed before (started_if n process after)
one_settled next bound n process listed before after small up without was =
    elim (after.number == n && after.status.state == 1) as (λ b. (after.number == n && after.status.state == 1) ≡ b
    → IsSettled next bound listed before (cond b (starting_in process after) after)) [
      | true ↦ λ e.
          let both = and_parts (after.number == n) (after.status.state == 1) e in
          inr (newly next bound n process listed before after small up both.0 (eqb-true after.process 0 (sym without ∙ both.1)) was)
      | false ↦ λ e. was
    ] refl

all_settled : (next bound n process : ℕ) (listed : List Process) (befores afters : List Service) → n < bound → IsOurs next listed process
    → All IsStoppedWithout afters → AreSettled next bound listed befores afters
    → AreSettled next bound listed befores (map (started_if n process) afters)
all_settled next bound n process listed [] [] small up without was = tt
all_settled next bound n process listed [] (after ∷ afters) small up without was = was
all_settled next bound n process listed (before ∷ befores) [] small up without was = was
all_settled next bound n process listed (before ∷ befores) (after ∷ afters) small up without was = (
  one_settled next bound n process listed before after small up (All-head IsStoppedWithout after afters without) was.0,
  all_settled next bound n process listed befores afters small up (All-tail IsStoppedWithout after afters without) was.1,
)

as_before : (next bound : ℕ) (listed : List Process) (rows : List Service) → AreSettled next bound listed rows rows
as_before next bound listed [] = tt
as_before next bound listed (row ∷ rows) = (inl refl, as_before next bound listed rows)

-- ## What settling makes of a state

-- only services, processes, wanted launches and registrations have changed
abbrev pub Beside : Flat → Flat → Type 0
Beside f g = g ≡ record f {
  services = g.services;
  processes = g.processes;
  wanted = g.wanted;
  registrations = g.registrations;
  next = record f.next { process = g.next.process };
}

-- entering leaves the rest, by a new process or a host
pub still_beside : (f g : Flat) (n : ℕ) (words : List (List ℕ)) → Beside f g → Beside f (with_entered g n words)
still_beside f g n words beside = at (host g n)
  where
    with_rest : Flat → Flat
    with_rest h = record h {
      services = g.services;
      processes = g.processes;
      wanted = g.wanted;
      registrations = g.registrations;
      next = record h.next { process = g.next.process };
    }

    at : (o : Option ℕ) → Beside f (entered_at g n words o)
    at None = ap (λ (h : Flat). entered_at (with_rest h) n words None) beside
    at (Some process) = ap (λ (h : Flat). entered_at (with_rest h) n words (Some process)) beside

-- a process that was listed before the next one, or none
abbrev AreOurs : ℕ → List Process → List Process → Type 0
AreOurs next listed processes = (n : ℕ) → has_process processes n ≡ true → n < next → has_process listed n ≡ true

-- with what each event keeps of registrations
pub record Grown (P : List Registration → Type 0) (f : Flat) (bound : ℕ) (g : Flat) : Type 0 where
  pub beside : Beside f g
  pub up : f.next.process ≤ g.next.process
  pub rows : AreSettled f.next.process bound f.processes f.services g.services
  pub ours : AreOurs f.next.process f.processes g.processes
  pub services : AreServices f.next.service g.next.process g.services
  pub processes : AreProcesses g.next.process g.processes g.wanted g.services
  pub told : P g.registrations

-- the service that is entered is STOPPED
stopped_there : (n : ℕ) (row : Service) (rows : List Service) → find (λ (r : Service). r.number == n) rows ≡ Some row
    → (row.status.state == 1) ≡ true → list_any (λ (r : Service). r.number == n && r.status.state == 1) rows ≡ true
stopped_there n row [] found stopped = absurd cc
stopped_there n row (first ∷ rows) found stopped =
    elim (first.number == n) as (λ b. cond b (Some first) (find (λ (r : Service). r.number == n) rows) ≡ Some row
    → ((b && first.status.state == 1) || list_any (λ (r : Service). r.number == n && r.status.state == 1) rows) ≡ true) [
      | true ↦ λ h. (let same : first ≡ row = cc in rw (ap (λ (r : Service). r.status.state == 1) same ∙ stopped) refl)
      | false ↦ λ h. stopped_there n row rows h stopped
    ] found

-- and it is the only one with its number
shares_as : (next process n : ℕ) (rows : List Service) (row : Service) → AreServices next process rows
    → find (λ (r : Service). r.number == n) rows ≡ Some row
    → All (SharesAs n (is_shared_by (find (λ (r : Service). r.number == n) rows))) rows
shares_as next process n rows row s found k d lt e =
    ap is_sharing (found_only (λ (r : Service). r.number) n row rows s.numbered.rising found k d lt e) ∙ ap is_shared_by (sym found)

-- a host is listed
is_ours : (next : ℕ) (listed processes : List Process) (process : ℕ) → AreOurs next listed processes → has_process processes process ≡ true
    → IsOurs next listed process
is_ours next listed processes process ours there = elim (cases_lt process next) as (λ _. IsOurs next listed process) [
  | inl low ↦ inr (ours process there low)
  | inr up ↦ inl up
]

-- a process more is new
ours_more : (next : ℕ) (listed processes : List Process) (new : Process) → next ≤ new.number → AreOurs next listed processes
    → AreOurs next listed (processes ++ new ∷ [])
ours_more next listed processes new up ours n there low =
    ours n (or_first (has_process processes n) (new.number == n) (ne_eqb new.number n (λ e. absurd (omega (arith, e, up, low))))
    (sym (list_any-append (λ (row : Process). row.number == n) processes (new ∷ [])) ∙ there)) low
  where
    or_first : (a b : Bool) → b ≡ false → (a || (b || false)) ≡ true → a ≡ true
    or_first true b e h = refl
    or_first false true e h = absurd cc
    or_first false false e h = absurd cc

grown_at : (l : Limits) (P : List Registration → Type 0) (f g : Flat) (bound n : ℕ) (tried : List ℕ) (words : List (List ℕ)) → Tells P
    → IsEntry l g tried n → n < bound → Grown P f bound g → (o : Option ℕ) → host g n ≡ o → Beside f (entered_at g n words o)
    → Grown P f bound (entered_at g n words o)
grown_at l P f g bound n tried words tells entry small grown None none beside = record {
  beside = beside;
  up = (let up = grown.up in omega arith);
  rows = all_settled f.next.process bound n g.next.process f.processes f.services g.services small (inl grown.up) grown.services.stopped
      grown.rows;
  ours = ours_more f.next.process f.processes g.processes (wanted_process g.next.process n (is_shared_by (service_of g n))) grown.up
      grown.ours;
  services = (let first = grown.services.first_process in
      begun f.next.service g.next.process (g.next.process + 1) n g.next.process g.services grown.services first (omega arith)
      (omega arith));
  processes = more g.next.process n (is_shared_by (service_of g n)) words g.processes g.wanted g.services
      grown.services.first_process (shares_as f.next.service g.next.process n g.services entry.row grown.services entry.found)
      (stopped_there n entry.row g.services entry.found (eq-eqb entry.row.status.state 1 entry.stopped)) grown.processes;
  told = start_tells P tells n g.next.process 0 g.services g.registrations
      (all_named f.next.service g.next.process g.services grown.services) grown.told;
}
grown_at l P f g bound n tried words tells entry small grown (Some process) is beside =
    let shared = (host_found g n process is).shared in
    let there = shared_there process g.processes shared in
    let numbered = grown.processes.numbered in
    record {
      beside = beside;
      up = grown.up;
      rows = all_settled f.next.process bound n process f.processes f.services g.services small
          (is_ours f.next.process f.processes g.processes process grown.ours there) grown.services.stopped grown.rows;
      ours = grown.ours;
      services = begun f.next.service g.next.process g.next.process n process g.services grown.services
          (has_above process g.processes numbered.positive there) (has_below g.next.process process g.processes numbered.below there)
          (omega arith);
      processes = by_host g.next.process n process g.processes g.wanted g.services shared grown.processes;
      told = start_tells P tells n process (pid_for g (Some process)) g.services g.registrations
          (all_named f.next.service g.next.process g.services grown.services) grown.told;
    }

grows : (l : Limits) (P : List Registration → Type 0) (f : Flat) (bound : ℕ) → Tells P
    → Lasts l (Grown P f bound) (IsPlan f.next.plan bound f.callers) bound
grows l P f bound tells = record {
  enters = λ g plan n words entry small grown. grown_at l P f g bound n plan.tried words tells entry small grown (host g n) refl
      (still_beside f g n words grown.beside);
  tries = λ g plan n entry q. record {
    positive = q.positive;
    below = q.below;
    known = q.known;
    once = IsDistinct-push nat_eq_equiv plan.tried n q.once entry.fresh;
    within = q.within;
  };
  drops = λ plan n rest code small q. record { positive = q.positive; below = q.below; known = q.known; once = q.once; within = small };
  meets = λ plan services q. record { positive = q.positive; below = q.below; known = q.known; once = q.once; within = q.within };
  below = λ plan q. q.within;
}

-- a state with its plans, whatever their entries are below
pub all_grown : (l : Limits) (P : List Registration → Type 0) (f : Flat) (bound : ℕ) → Tells P → Sound f → P f.registrations
    → ArePlans f.next.plan bound f.callers f.plans → AllKept (Grown P f bound) (IsPlan f.next.plan bound f.callers) (settle_all l f f.plans)
all_grown l P f bound tells s told plans =
    all_last l (Grown P f bound) (IsPlan f.next.plan bound f.callers) bound (grows l P f bound tells) f f.plans
    (record {
      beside = refl;
      up = omega arith;
      rows = as_before f.next.process bound f.processes f.services;
      ours = λ n there low. there;
      services = s.services;
      processes = s.processes;
      told = told;
    }) plans.each

-- whatever each event keeps of registrations, settling keeps
pub settled_tells : (l : Limits) (P : List Registration → Type 0) (f : Flat) → Tells P → Sound f → P f.registrations
    → P (settled l f).registrations
settled_tells l P f tells s p = (all_grown l P f f.next.service tells s p s.plans).flat.told

-- plans are settled
pub settles : (l : Limits) (f : Flat) → Sound f → Sound (settled l f)
settles l f s =
    let ends = settle_all l f f.plans in
    let last = all_grown l (AreRegistered f.next.registration f.callers) f f.next.service
    (events_keep f.next.registration f.callers) s s.registrations s.plans in
    let g = last.flat in
    let plans : ArePlans f.next.plan f.next.service f.callers (filter stays ends.plans) = record {
      first = s.plans.first;
      each = all_filter (IsPlan f.next.plan f.next.service f.callers) stays ends.plans last.plans;
      rising = rising_settled l f f.plans s.plans.rising;
    } in
    let still = λ (due : Due). is_due_still (filter stays ends.plans) due.kind in
    let whole : Sound (record f {
      services = ends.flat.services;
      processes = ends.flat.processes;
      wanted = ends.flat.wanted;
      registrations = ends.flat.registrations;
      next = record f.next { process = ends.flat.next.process };
      plans = filter stays ends.plans;
      dues = filter still f.dues;
    }) = record {
      services = g.services;
      handles = s.handles;
      processes = g.processes;
      plans = plans;
      dues = record {
        numbered = numbered_filter (λ (row : Due). row.number) f.next.due still f.dues s.dues.numbered;
        first = s.dues.first;
      };
      deadlines = settled_deadlines l f f.next.plan f.plans f.dues s.deadlines;
      registrations = g.told;
    } in
    subst Sound (ap (λ (h : Flat). tidied h ends.plans) (sym g.beside)) whole

-- What the changes keep of texts and of the numbers of plans.
use Rattle.std.proofs.Common.{ℕ, ◌≡◌, ◌+◌, ◌<◌, ◌==◌, ◌&&◌, not, Bool, true, false, cond, ap, Option, None, List, [], ◌∷◌, ◌++◌, filter}
use Rattle.std.proofs.Common.{map, get_or, length, sym, refl, subst, arith, ◌∙◌, ◌≤◌}
use Rattle.std.specs.Prelude.{All, is_some}
use Rattle.std.specs.List.{AllByRecursion}
use Rattle.std.proofs.lemmas.List.Elements.{All-from_recursion, All-map}
use Rattle.scm_model.specs.declared.flat.Config.{Config}
use Rattle.scm_model.specs.declared.flat.Flat.{Flat}
use Rattle.scm_model.specs.declared.flat.Limits.{Limits}
use Rattle.scm_model.specs.declared.flat.Plan.{Plan}
use Rattle.scm_model.specs.declared.flat.Service.{Service}
use Rattle.scm_model.specs.Changes.{configured_if}
use Rattle.scm_rules.specs.Controls.{unasked_if}
use Rattle.scm_rules.specs.Launches.{fallen}
use Rattle.scm_rules.specs.Needs.{need_row}
use Rattle.scm_rules.specs.Reports.{moved_by, reported_if}
use Rattle.status_machine.specs.Moves.{take_report}
use Rattle.scm_model.specs.declared.flat.Status.{Status}
use Rattle.std.specs.Prelude.{Result, Ok, Err}
use Rattle.start_plan.specs.Asleep.{ArePending}
use Rattle.start_plan.specs.Decided.{decided_if, decided_in}
use Rattle.start_plan.specs.Entered.{started_if}
use Rattle.start_plan.specs.Settle.{is_due_still, settle_all, settled, stays, with_plans}
use Rattle.start_plan.proofs.Plain.{settles_beside}
use Rattle.start_plan.proofs.Hosts.{entered_keeps}
use Rattle.start_plan.proofs.Keeps.{keeps_all, keeps_flat}
use Rattle.start_plan.proofs.Rows.{started_or}
use Rattle.scm_model.specs.declared.flat.Due.{Due}
use Rattle.scm_tables.specs.Places.{HasPlaces}
use Rattle.scm_tables.specs.Failed.{fallen_at}
use Rattle.scm_tables.specs.Inside.{IsKept, IsKeptPlan}
use Rattle.scm_tables.specs.Processed.{Processed}
use Rattle.scm_tables.specs.Rooms.{AreRooms}
use Rattle.scm_tables.specs.Tabled.{HasShort, HasShortTexts}
use Rattle.scm_tables.specs.declared.tables.Tables.TheInside.{Inside}

-- ## Texts

-- a change that keeps each configuration
pub texts_map : (change : Service → Service) → ((row : Service) → (change row).config ≡ row.config) → (rows : List Service)
    → All HasShort rows → All HasShort (map change rows)
texts_map change same rows old = All-map HasShort change rows (λ k d lt. subst HasShortTexts (sym (same (get_or rows k d))) (old k d lt))

-- what holds of a service that falls and of one that stays as it is
pub fallen_or : (P : Service → Type 0) (number code : ℕ) (row : Service) → P (fallen code row) → P row → P (fallen_at number code row)
fallen_or P number code row falls stays =
    elim (row.number == number) as (λ b. P (cond b (fallen code row) row)) [ true ↦ falls | false ↦ stays ]

pub started_config : (number process : ℕ) (row : Service) → (started_if number process row).config ≡ row.config
started_config number process row = started_or (λ new. new.config ≡ row.config) number process row (λ e. refl) refl

pub fallen_config : (number code : ℕ) (row : Service) → (fallen_at number code row).config ≡ row.config
fallen_config number code row = fallen_or (λ new. new.config ≡ row.config) number code row refl refl

pub started_number : (number process : ℕ) (row : Service) → (started_if number process row).number ≡ row.number
started_number number process row = started_or (λ new. new.number ≡ row.number) number process row (λ e. refl) refl

pub fallen_number : (number code : ℕ) (row : Service) → (fallen_at number code row).number ≡ row.number
fallen_number number code row = fallen_or (λ new. new.number ≡ row.number) number code row refl refl

moved_config : (row : Service) (told : Result Status ℕ) → (moved_by row told).config ≡ row.config
moved_config row (Ok status) = refl
moved_config row (Err code) = refl

moved_number : (row : Service) (told : Result Status ℕ) → (moved_by row told).number ≡ row.number
moved_number row (Ok status) = refl
moved_number row (Err code) = refl

pub reported_config : (number : ℕ) (report : Status) (row : Service) → (reported_if number report row).config ≡ row.config
reported_config number report row =
    elim (row.number == number) as (λ b. (cond b (moved_by row (take_report row.status report)) row).config ≡ row.config)
    [ true ↦ moved_config row (take_report row.status report) | false ↦ refl ]

pub reported_number : (number : ℕ) (report : Status) (row : Service) → (reported_if number report row).number ≡ row.number
reported_number number report row =
    elim (row.number == number) as (λ b. (cond b (moved_by row (take_report row.status report)) row).number ≡ row.number)
    [ true ↦ moved_number row (take_report row.status report) | false ↦ refl ]

-- what holds of a service that isn't asked any more and of one that stays as it is
pub unasked_or : (P : Service → Type 0) (number : ℕ) (row : Service) → P (record row { asked = false }) → P row → P (unasked_if number row)
unasked_or P number row changes stays =
    elim (row.number == number) as (λ b. P (cond b (record row { asked = false }) row)) [ true ↦ changes | false ↦ stays ]

pub unasked_config : (number : ℕ) (row : Service) → (unasked_if number row).config ≡ row.config
unasked_config number row = unasked_or (λ new. new.config ≡ row.config) number row refl refl

pub unasked_number : (number : ℕ) (row : Service) → (unasked_if number row).number ≡ row.number
unasked_number number row = unasked_or (λ new. new.number ≡ row.number) number row refl refl

-- ## Needs

pub unasked_needs : (number : ℕ) (row : Service) → need_row (unasked_if number row) ≡ need_row row
unasked_needs number row = unasked_or (λ new. need_row new ≡ need_row row) number row refl refl

pub started_needs : (number process : ℕ) (row : Service) → need_row (started_if number process row) ≡ need_row row
started_needs number process row = started_or (λ new. need_row new ≡ need_row row) number process row (λ e. refl) refl

pub fallen_needs : (number code : ℕ) (row : Service) → need_row (fallen_at number code row) ≡ need_row row
fallen_needs number code row = fallen_or (λ new. need_row new ≡ need_row row) number code row refl refl

moved_needs : (row : Service) (told : Result Status ℕ) → need_row (moved_by row told) ≡ need_row row
moved_needs row (Ok status) = refl
moved_needs row (Err code) = refl

pub reported_needs : (number : ℕ) (report : Status) (row : Service) → need_row (reported_if number report row) ≡ need_row row
reported_needs number report row =
    elim (row.number == number) as (λ b. need_row (cond b (moved_by row (take_report row.status report)) row) ≡ need_row row)
    [ true ↦ moved_needs row (take_report row.status report) | false ↦ refl ]

-- ## Another configuration

-- another configuration has short texts too
pub texts_configured : (number : ℕ) (config : Config) (rows : List Service) → HasShortTexts config → All HasShort rows
    → All HasShort (map (configured_if number config) rows)
texts_configured number config rows short old =
    All-map HasShort (configured_if number config) rows (λ k d lt.
    elim ((get_or rows k d).number == number) as (λ b. HasShort (cond b
    (record (get_or rows k d) { config = config; status = record (get_or rows k d).status { kind = config.kind } }) (get_or rows k d)))
    [ true ↦ short | false ↦ old k d lt ])

-- ## Plans

abbrev IsBelow : ℕ → Plan → Type 0
IsBelow next plan = plan.number < next

numbers_below : (n : ℕ) (plans : List Plan) → AllByRecursion (IsKeptPlan n) plans → AllByRecursion (IsBelow n) plans
numbers_below n [] all = tt
numbers_below n (plan ∷ plans) all = (all.0.below, numbers_below n plans all.1)

-- those that stay
kept_staying : (n : ℕ) (plans : List Plan) → AllByRecursion (IsBelow n) plans → AllByRecursion (IsKeptPlan n) (filter stays plans)
kept_staying n [] all = tt
kept_staying n (plan ∷ plans) all =
    elim (stays plan) as (λ b. stays plan ≡ b → AllByRecursion (IsKeptPlan n) (cond b (plan ∷ filter stays plans) (filter stays plans))) [
      | true ↦ λ is. (record { below = all.0; staying = is }, kept_staying n plans all.1)
      | false ↦ λ out. kept_staying n plans all.1
    ] refl

pub kept_decided : (n : ℕ) (test : Plan → Bool) (code : ℕ) (plans : List Plan) → AllByRecursion (IsKeptPlan n) plans
    → AllByRecursion (IsKeptPlan n) (decided_in test code plans)
kept_decided n test code plans all = kept_staying n (map (decided_if test code) plans) (changed plans (numbers_below n plans all))
  where
    changed : (ps : List Plan) → AllByRecursion (IsBelow n) ps → AllByRecursion (IsBelow n) (map (decided_if test code) ps)
    changed [] a = tt
    changed (p ∷ ps) a = (a.0, changed ps a.1)

pub kept_settled : (l : Limits) (f : Flat) (n : ℕ) (plans : List Plan) → AllByRecursion (IsKeptPlan n) plans
    → AllByRecursion (IsKeptPlan n) (filter stays (settle_all l f plans).plans)
kept_settled l f n plans all =
    kept_staying n (settle_all l f plans).plans
    (keeps_all l (λ g. Unit {0}) (IsBelow n) (record {
      enters = λ g plan s words entry p. tt;
      tries = λ g plan s entry q. q;
      drops = λ plan s rest code q. q;
      meets = λ plan services q. q;
    }) f plans tt (numbers_below n plans all)).plans

pub next_settled : (l : Limits) (f : Flat) (plans : List Plan) → (settle_all l f plans).flat.next.plan ≡ f.next.plan
next_settled l f plans =
    keeps_flat l (λ g. g.next.plan ≡ f.next.plan) (record {
      enters = λ g plan s words entry p. entered_keeps (λ h. h.next.plan ≡ f.next.plan) g s words (λ none. p) (λ process host. p);
      tries = λ g plan s entry q. tt;
      drops = λ plan s rest code q. tt;
      meets = λ plan services q. tt;
    }) f plans refl

stays_undecided : (plan : Plan) → plan.code ≡ None → stays plan ≡ true
stays_undecided plan undecided = ap (λ (code : Option ℕ). not (is_some code && plan.caller == 0)) undecided

-- one more begins, which is undecided
pub kept_more : (n : ℕ) (plans : List Plan) (plan : Plan) → AllByRecursion (IsKeptPlan n) plans → plan.number ≡ n → plan.code ≡ None
    → AllByRecursion (IsKeptPlan (n + 1)) (plans ++ plan ∷ [])
kept_more n [] plan all e undecided = (record { below = omega (arith, e); staying = stays_undecided plan undecided }, tt)
kept_more n (p ∷ ps) plan all e undecided = (
  record { below = (let lt = all.0.below in omega arith); staying = all.0.staying },
  kept_more n ps plan all.1 e undecided,
)

-- each of them has a number below it
pub all_below : (n : ℕ) (plans : List Plan) → AllByRecursion (IsKeptPlan n) plans → All (λ (plan : Plan). plan.number < n) plans
all_below n plans all = All-from_recursion (IsBelow n) plans (numbers_below n plans all)

-- and stays
pub all_stay : (n : ℕ) (plans : List Plan) → AllByRecursion (IsKeptPlan n) plans → AllByRecursion (λ (plan : Plan). stays plan ≡ true) plans
all_stay n [] all = tt
all_stay n (plan ∷ plans) all = (all.0.staying, all_stay n plans all.1)

-- plans that are settled beside the rest of the state, and the deadlines that are left
pub settles : (l : Limits) (f g : Flat) (plans ended : List Plan) (rows : List Due) → ended ≡ filter stays (settle_all l f plans).plans
    → g ≡ (settle_all l f plans).flat
    → rows ≡ filter (λ (due : Due). is_due_still ended due.kind) g.dues
    → record g { plans = ended; dues = rows } ≡ settled l (with_plans f plans)
settles l f g plans ended rows plans_are flat_is rows_are =
    rw (rows_are, flat_is, plans_are) (sym (settles_beside l f plans))

-- lists that differ in plans, due rows and what no list tells are kept where their plans and due rows are
pub other_plans : {t u : Inside} → IsKept t → u.next.service ≡ t.next.service → u.services.services ≡ t.services.services
    → u.index.rows ≡ t.index.rows → u.acyclic ≡ t.acyclic → u.leaving ≡ t.leaving
    → u.limits.processes ≡ t.limits.processes → u.processes ≡ t.processes → u.tried.items ≡ t.tried.items
    → u.start_room ≡ t.start_room → u.starts.items ≡ t.starts.items → u.commands.items ≡ t.commands.items
    → AllByRecursion (IsKeptPlan u.next.plan) u.plans.plans → ArePending t.services.services u.plans.awaited
    → HasPlaces t.services.services u.dues.rows u.dues.capacity → IsKept u
other_plans kept next rows index acyclic marked limit processes tried wide starts commands plans pending dues = record {
  rising = rw next (rw rows kept.rising);
  texts = rw rows kept.texts;
  secured = rw rows kept.secured;
  index = rw (index, rows) kept.index;
  needs = rw acyclic (rw rows kept.needs);
  marked = rw marked (rw rows kept.marked);
  marks = rw marked (rw rows kept.marks);
  room = rw limit (rw processes kept.room);
  plans = plans;
  pending = rw rows pending;
  untried = tried ∙ kept.untried;
  dues = rw rows dues;
  rooms = rw (wide, starts, commands) kept.rooms;
}

-- lists that differ only in who leaves, in what is searched, in processes and in commands are kept where there is room
pub other_rooms : {t u : Inside} → IsKept t
    → record u { leaving = t.leaving; searched = t.searched; processes = t.processes; commands = t.commands } ≡ t
    → u.leaving.items ≡ t.leaving.items → length u.services.services ≤ length u.leaving.items + u.leaving.room
    → u.limits.processes ≤ u.processes.capacity → AreRooms u.start_room u.starts.items u.commands.items → IsKept u
other_rooms kept rest leaving marks room rooms =
    let same = subst IsKept (sym rest) kept in
    record {
      rising = same.rising;
      texts = same.texts;
      secured = same.secured;
      index = same.index;
      needs = same.needs;
      marked = leaving ∙ same.marked;
      marks = marks;
      room = room;
      plans = same.plans;
      pending = same.pending;
      untried = same.untried;
      dues = same.dues;
      rooms = rooms;
    }

-- lists that differ in processes are kept where there is room for as many, and the next one has the same number
pub other_processes : {t : Inside} → IsKept t → (all : Processed) → {new : Processed} → all ≡ new → new.next ≡ t.processes.next
    → new.capacity ≡ t.processes.capacity → IsKept (record t { processes = all })
other_processes kept all is next capacity = other_rooms kept refl refl kept.marks (rw (is, capacity) kept.room) kept.rooms

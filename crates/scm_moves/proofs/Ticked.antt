-- Nothing is due behind a tick: each firing takes one at least of the rows that are due away, which brings one at most, a deadline, and
-- there are twice as many firings as rows.
use Rattle.std.proofs.Common.{ℕ, zero, suc, ◌≡◌, ◌∙◌, ◌+◌, ◌≤◌, ◌==◌, ◌||◌, ◌++◌, Bool, true, false, not, cond, List, [], ◌∷◌, Option, None}
use Rattle.std.proofs.Common.{Some, filter, length, ap, sym, refl, subst, arith, eq-eqb}
use Rattle.std.specs.Prelude.{All, max}
use Rattle.std.specs.List.{list_any}
use Rattle.std.proofs.lemmas.List.Elements.{All-cons, All-nil, All-weaker, filter_passes}
use Rattle.scm_model.specs.declared.flat.Due.{Due}
use Rattle.scm_model.specs.declared.flat.DueKind.{DueKind}
use Rattle.scm_model.specs.declared.flat.DueKind.TheVariants as dues
use Rattle.scm_model.specs.declared.flat.Flat.{Flat}
use Rattle.scm_model.specs.declared.flat.Limits.{Limits}
use Rattle.scm_model.specs.declared.flat.Service.{Service}
use Rattle.scm_model.specs.declared.steps.Step.{Step}
use Rattle.scm_model.specs.declared.steps.Step.TheVariants.{Tick}
use Rattle.scm_model.specs.Changes.{with_moment}
use Rattle.scm_model.specs.Entries.{Entry}
use Rattle.scm_model.specs.Found.{if_found}
use Rattle.scm_model.specs.Rows.{service_of}
use Rattle.scm_model.proofs.Found.{found_keeps}
use Rattle.start_plan.specs.Settle.{is_due_still, settled}
use Rattle.scm_rules.proofs.Dues.{next_has}
use Rattle.scm_rules.specs.Due.{first_due, is_due, next_due}
use Rattle.scm_rules.specs.Runs.{EachStep}
use Rattle.scm_rules.specs.Start.{deadline_at, with_start}
use Rattle.scm_rules.specs.Steps.{step_of}
use Rattle.scm_rules.specs.Ticks.{all_fired, can_run, can_start, fire, fired, ticked, with_command, with_restart, with_wanted_command}
use Rattle.scm_rules.specs.Ticks.{without_due}
use Rattle.scm_runs.proofs.Frames.{settled_dues}
use Rattle.scm_runs.proofs.Lists.{filter_twice}
use Rattle.scm_moves.specs.Ticks.{IsTicked, LawOfTicks}

-- ## Rows

none_left : (p : Due → Bool) (rows : List Due) → length (filter p rows) ≤ 0 → list_any p rows ≡ false
none_left p [] few = refl
none_left p (x ∷ xs) few =
    elim (p x) as (λ b. length (cond b (x ∷ filter p xs) (filter p xs)) ≤ 0 → (b || list_any p xs) ≡ false)
    [ true ↦ λ h. absurd (omega (arith, h)) | false ↦ λ h. none_left p xs h ] few

-- ## Weights

-- a deadline brings no other row, and any other row one at most, a deadline
abbrev weight : DueKind → ℕ
weight (dues.Deadline plan) = 1
weight (dues.Start service) = 2
weight (dues.Command service) = 2
weight (dues.Reboot service) = 2

abbrev weight_at : ℕ → Due → ℕ
weight_at moment due = cond (is_due moment due) (weight due.kind) 0

-- what the rows weigh that are due at a moment
abbrev weighed : ℕ → List Due → ℕ
weighed moment [] = 0
weighed moment (due ∷ rows) = weight_at moment due + weighed moment rows

one_weighs : (kind : DueKind) → (1 ≤ weight kind) × (weight kind ≤ 2)
one_weighs (dues.Deadline plan) = (omega arith, omega arith)
one_weighs (dues.Start service) = (omega arith, omega arith)
one_weighs (dues.Command service) = (omega arith, omega arith)
one_weighs (dues.Reboot service) = (omega arith, omega arith)

at_most : (moment : ℕ) (rows : List Due) → weighed moment rows ≤ length rows + length rows
at_most moment [] = omega arith
at_most moment (due ∷ rows) =
    let rest = at_most moment rows in
    let one = (one_weighs due.kind).1 in
    elim (is_due moment due) as (λ b. cond b (weight due.kind) 0 + weighed moment rows ≤ suc (length rows) + suc (length rows))
    [ true ↦ omega (arith, rest, one) | false ↦ omega (arith, rest) ]

none_weighs : (moment : ℕ) (rows : List Due) → weighed moment rows ≤ 0 → length (filter (is_due moment) rows) ≤ 0
none_weighs moment [] few = omega arith
none_weighs moment (due ∷ rows) few =
    let one = (one_weighs due.kind).0 in
    elim (is_due moment due) as (λ b. cond b (weight due.kind) 0 + weighed moment rows ≤ 0
    → length (cond b (due ∷ filter (is_due moment) rows) (filter (is_due moment) rows)) ≤ 0) [
      | true ↦ λ h. absurd (omega (arith, one, h))
      | false ↦ λ h. none_weighs moment rows (omega (arith, h))
    ] few

fewer_weigh : (moment : ℕ) (p : Due → Bool) (rows : List Due) → weighed moment (filter p rows) ≤ weighed moment rows
fewer_weigh moment p [] = omega arith
fewer_weigh moment p (due ∷ rows) =
    let rest = fewer_weigh moment p rows in
    elim (p due) as (λ b. weighed moment (cond b (due ∷ filter p rows) (filter p rows)) ≤ weight_at moment due + weighed moment rows)
    [ true ↦ omega (arith, rest) | false ↦ omega (arith, rest) ]

more_weighs : (moment : ℕ) (rows : List Due) (new : Due) → weighed moment (rows ++ new ∷ []) ≡ weighed moment rows + weight_at moment new
more_weighs moment [] new = omega arith
more_weighs moment (due ∷ rows) new = (let rest = more_weighs moment rows new in omega (arith, rest))

-- without the rows of a number one of which is this one
abbrev Spares : ℕ → List Due → Due → Type 0
Spares moment rows due = weighed moment (filter (λ (other : Due). not (other.number == due.number)) rows)
    + weight_at moment due ≤ weighed moment rows

spares_first : (moment : ℕ) (due : Due) (rows : List Due) → Spares moment (due ∷ rows) due
spares_first moment due rows =
    let p = λ (other : Due). not (other.number == due.number) in
    let rest = fewer_weigh moment p rows in
    rw (eq-eqb due.number due.number refl) (omega (arith, rest))

spares_more : (moment : ℕ) (first : Due) (rows : List Due) (due : Due) → Spares moment rows due → Spares moment (first ∷ rows) due
spares_more moment first rows due spares =
    let p = λ (other : Due). not (other.number == due.number) in
    elim (p first) as (λ b. weighed moment (cond b (first ∷ filter p rows) (filter p rows)) + weight_at moment due ≤ weight_at moment first
    + weighed moment rows)
    [ true ↦ omega (arith, spares) | false ↦ omega (arith, spares) ]

all_spare : (moment : ℕ) (rows : List Due) → All (Spares moment rows) rows
all_spare moment [] = All-nil (Spares moment [])
all_spare moment (due ∷ rows) =
    All-cons (Spares moment (due ∷ rows)) due rows (spares_first moment due rows)
    (All-weaker (Spares moment rows) (Spares moment (due ∷ rows)) (λ other spares. spares_more moment due rows other spares) rows
    (all_spare moment rows))

-- ## Firing

no_rows : (rows : List Due) → first_due rows ≡ None → length rows ≤ 0
no_rows [] none = omega arith
no_rows (due ∷ rows) none = absurd cc

none_due : (moment : ℕ) (rows : List Due) → length (filter (is_due moment) rows) ≤ 0 → weighed moment rows ≤ 0
none_due moment [] few = omega arith
none_due moment (due ∷ rows) few =
    elim (is_due moment due) as (λ b. length (cond b (due ∷ filter (is_due moment) rows) (filter (is_due moment) rows)) ≤ 0
    → cond b (weight due.kind) 0 + weighed moment rows ≤ 0)
    [ true ↦ λ h. absurd (omega (arith, h)) | false ↦ λ h. (let rest = none_due moment rows h in omega (arith, rest)) ] few

-- the row that is due first is due
first_is_due : (f : Flat) (row : Due) → next_due f ≡ Some row → is_due f.moment row ≡ true
first_is_due f row e =
    let rows = filter (is_due f.moment) f.dues in
    next_has (λ (due : Due). is_due f.moment due ≡ true) (record f { dues = rows }) row (filter_passes (is_due f.moment) f.dues)
    (ap first_due (filter_twice (is_due f.moment) f.dues) ∙ e)

-- at the same moment no more weigh than that
record IsLess (f g : Flat) (n : ℕ) : Type 0 where
  pub moment : g.moment ≡ f.moment
  pub few : weighed f.moment g.dues ≤ n

-- a plan that begins has its deadline
start_weighs : (g : Flat) (row : Service) → IsLess g (with_start 0 [] row g) (weighed g.moment g.dues + 1)
start_weighs g row =
    let new : Due = record { moment = deadline_at g.moment; number = g.next.due; kind = dues.Deadline g.next.plan } in
    let more = more_weighs g.moment g.dues new in
    record {
      moment = refl;
      few = elim (is_due g.moment new) as (λ b. weighed g.moment (g.dues ++ new ∷ []) ≡ weighed g.moment g.dues + cond b 1 0
          → weighed g.moment (g.dues ++ new ∷ []) ≤ weighed g.moment g.dues + 1)
          [ true ↦ λ h. omega (arith, h) | false ↦ λ h. omega (arith, h) ] more;
    }

restart_weighs : (g : Flat) (row : Service) → IsLess g (with_restart row g) (weighed g.moment g.dues + 1)
restart_weighs g row =
    elim (can_start g row) as (λ b. IsLess g (cond b (with_start 0 [] row g) g) (weighed g.moment g.dues + 1)) [
      | true ↦ start_weighs g row
      | false ↦ record { moment = refl; few = omega arith }
    ]

command_weighs : (l : Limits) (g : Flat) (row : Service) → IsLess g (with_command l row g) (weighed g.moment g.dues + 1)
command_weighs l g row =
    elim (can_run l g row) as (λ b. IsLess g (cond b (with_wanted_command row.config.command g) g) (weighed g.moment g.dues + 1))
    [ true ↦ record { moment = refl; few = omega arith } | false ↦ record { moment = refl; few = omega arith } ]

-- what a row does weighs less than it did
fire_weighs : (l : Limits) (kind : DueKind) (g : Flat) (n : ℕ) → weighed g.moment g.dues + weight kind ≤ suc n → IsLess g (fire l kind g) n
fire_weighs l (dues.Deadline plan) g n few = record { moment = refl; few = omega (arith, few) }
fire_weighs l (dues.Start service) g n few =
    found_keeps (λ (h : Flat). IsLess g h n) with_restart (service_of g service) g (record { moment = refl; few = omega (arith, few) })
    (λ row is. (let less = restart_weighs g row in let most = less.few in record { moment = less.moment; few = omega (arith, most, few) }))
fire_weighs l (dues.Command service) g n few =
    found_keeps (λ (h : Flat). IsLess g h n) (with_command l) (service_of g service) g (record { moment = refl; few = omega (arith, few) })
    (λ row is. (let less = command_weighs l g row in let most = less.few in
    record { moment = less.moment; few = omega (arith, most, few) }))
fire_weighs l (dues.Reboot service) g n few = record { moment = refl; few = omega (arith, few) }

one_fired : (l : Limits) (f : Flat) (n : ℕ) (found : Option Due) → next_due f ≡ found → weighed f.moment f.dues ≤ suc n
    → IsLess f (if_found (fired l) found f) n
one_fired l f n None e few = record {
  moment = refl;
  few = (let none = none_due f.moment f.dues (no_rows (filter (is_due f.moment) f.dues) e) in omega (arith, none));
}
one_fired l f n (Some row) e few =
    let spares : Spares f.moment f.dues row = next_has (Spares f.moment f.dues) f row (all_spare f.moment f.dues) e in
    let heavy : weight_at f.moment row ≡ weight row.kind = ap (λ (b : Bool). cond b (weight row.kind) 0) (first_is_due f row e) in
    let less = fire_weighs l row.kind (without_due row.number f) n (omega (arith, spares, heavy, few)) in
    record { moment = less.moment; few = less.few }

all_are_fired : (l : Limits) (n : ℕ) (f : Flat) → weighed f.moment f.dues ≤ n → weighed f.moment (all_fired l n f).dues ≤ 0
all_are_fired l zero f few = few
all_are_fired l (suc n) f few =
    let first = one_fired l f n (next_due f) refl few in
    let g = if_found (fired l) (next_due f) f in
    subst (λ m. weighed m (all_fired l n g).dues ≤ 0) first.moment (all_are_fired l n g
    (subst (λ m. weighed m g.dues ≤ n) (sym first.moment) first.few))

-- ## Steps

-- what is settled has no more rows that are due
still_none : (l : Limits) (f : Flat) (moment : ℕ) → weighed moment f.dues ≤ 0 → list_any (is_due moment) (settled l f).dues ≡ false
still_none l f moment few =
    let still = λ (due : Due). is_due_still (settled l f).plans due.kind in
    let less = fewer_weigh moment still f.dues in
    subst (λ (rows : List Due). list_any (is_due moment) rows ≡ false) (sym (settled_dues l f))
    (none_left (is_due moment) (filter still f.dues) (none_weighs moment (filter still f.dues) (omega (arith, less, few))))

tick_done : (l : Limits) (f : Flat) (moment : ℕ) (step : Step) → IsTicked (max f.moment moment) step (step_of l f moment step).flat
tick_done l f moment Tick =
    still_none l (ticked l (with_moment f moment)) (max f.moment moment)
    (all_are_fired l (length f.dues + length f.dues) (with_moment f moment) (at_most (max f.moment moment) f.dues))
tick_done l f moment step = tt

-- each tick of any list of steps does so, from any state
pub each_done : (l : Limits) (f : Flat) (es : List Entry) → EachStep LawOfTicks l f es
each_done l f [] = tt
each_done l f (e ∷ es) = (tick_done l f e.0 e.1, each_done l (step_of l f e.0 e.1).flat es)

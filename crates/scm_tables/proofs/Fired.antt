-- Rows that take place: what they leave.
use Rattle.std.proofs.Common.{ℕ, ◌≡◌, ◌∙◌, ◌≤◌, ◌+◌, ◌==◌, not, Bool, true, false, cond, zero, suc, Option, None, Some, List, [], ◌∷◌, ◌++◌}
use Rattle.std.proofs.Common.{filter, get_or, length, ap, sym, refl, subst, arith, eq-eqb, length-append}
use Rattle.std.specs.Prelude.{All, IfSome, IsSome, find, is_some, option_and_then, slice_get}
use Rattle.std.proofs.lemmas.List.Elements.{filter-append}
use Rattle.scm_model.specs.declared.flat.Due.{Due}
use Rattle.scm_model.specs.declared.flat.DueKind.{DueKind}
use Rattle.scm_model.specs.declared.flat.Flat.{Flat}
use Rattle.scm_model.specs.declared.flat.DueKind.TheVariants as dues
use Rattle.scm_model.specs.declared.flat.Limits.{Limits}
use Rattle.scm_model.specs.declared.flat.Process.{Process}
use Rattle.scm_model.specs.declared.flat.Service.{Service}
use Rattle.scm_model.specs.Found.{if_found}
use Rattle.scm_model.specs.Rows.{service_of}
use Rattle.scm_rules.specs.Due.{next_due}
use Rattle.scm_rules.specs.Ticks.{all_fired, can_run, can_start, fired, with_command, with_restart, with_wanted_command, without_due}
use Rattle.scm_rules.specs.Start.{with_start}
use Rattle.start_plan.specs.Entered.{wanted_process}
use Rattle.scm_rules.proofs.Dues.{next_has}
use Rattle.scm_tables.specs.Firing.{CanFire, CanFireOne, HasStarts, begins_plan, commands_in, one_if, runs, runs_command, startable}
use Rattle.scm_tables.specs.Firing.{starts_in, with_begun}
use Rattle.scm_tables.specs.Tabled.{Tabled}
use Rattle.scm_tables.proofs.Placed.{fewer_pass}

-- where nothing is due nothing takes place
pub none_fired : (l : Limits) (n : ℕ) (f : Flat) → next_due f ≡ None → all_fired l n f ≡ f
none_fired l zero f e = refl
none_fired l (suc n) f e = ap (λ (o : Option Due). all_fired l n (if_found (fired l) o f)) e ∙ none_fired l n f e

-- ## The row that leaves

abbrev pub rows_but : ℕ → List Due → List Due
rows_but number rows = filter (λ (due : Due). not (due.number == number)) rows

abbrev pub counted : (DueKind → Bool) → List Due → ℕ
counted test rows = length (filter (λ (due : Due). test due.kind) rows)

one_leaves : (test : DueKind → Bool) (rows : List Due) → All (λ (due : Due). counted test (rows_but due.number rows)
    + one_if (test due.kind) ≤ counted test rows) rows
one_leaves test [] k d lt = absurd (omega (arith, lt))
one_leaves test (row ∷ rows) zero d lt =
    let gone : counted test (rows_but row.number (row ∷ rows)) ≡ counted test (rows_but row.number rows) =
    ap (λ b. counted test (cond (not b) (row ∷ rows_but row.number rows) (rows_but row.number rows)))
    (eq-eqb row.number row.number refl) in
    let less = fewer_pass (λ (due : Due). test due.kind) (λ (due : Due). not (due.number == row.number)) rows in
    elim (test row.kind) as (λ b. counted test (rows_but row.number (row ∷ rows))
    + one_if b ≤ length (cond b (row ∷ filter (λ (due : Due). test due.kind) rows) (filter (λ (due : Due). test due.kind) rows)))
    [ true ↦ omega (arith, gone, less) | false ↦ omega (arith, gone, less) ]
one_leaves test (row ∷ rows) (suc k) d lt =
    let due = get_or rows k d in
    let rest = one_leaves test rows k d (omega (arith, lt)) in
    elim (row.number == due.number) as (λ b. counted test (cond (not b) (row ∷ rows_but due.number rows) (rows_but due.number rows))
    + one_if (test due.kind) ≤ counted test (row ∷ rows)) [
      | true ↦ elim (test row.kind) as (λ b. counted test (rows_but due.number rows)
          + one_if (test due.kind) ≤ length (cond b (row ∷ filter (λ (d : Due). test d.kind) rows)
          (filter (λ (d : Due). test d.kind) rows)))
          [ true ↦ omega (arith, rest) | false ↦ omega (arith, rest) ]
      | false ↦ elim (test row.kind) as (λ b. length (cond b (row ∷ filter (λ (d : Due). test d.kind) (rows_but due.number rows))
          (filter (λ (d : Due). test d.kind) (rows_but due.number rows))) + one_if (test due.kind)
          ≤ length (cond b (row ∷ filter (λ (d : Due). test d.kind) rows) (filter (λ (d : Due). test d.kind) rows)))
          [ true ↦ omega (arith, rest) | false ↦ omega (arith, rest) ]
    ]

-- the row that is due first leaves one fewer of its kind
pub first_leaves : (test : DueKind → Bool) (f : Flat) (row : Due) → next_due f ≡ Some row → counted test (rows_but row.number f.dues)
    + one_if (test row.kind) ≤ counted test f.dues
first_leaves test f row e = next_has (λ (due : Due). counted test (rows_but due.number f.dues)
    + one_if (test due.kind) ≤ counted test f.dues) f row (one_leaves test f.dues) e

-- ## Plans and commands

-- what a start changes of what rows take
pub record Begins (f g : Flat) : Type 0 where
  pub services : g.services ≡ f.services
  pub starts : starts_in g.dues ≡ starts_in f.dues
  pub commands : commands_in g.dues ≡ commands_in f.dues
  pub plans : g.next.plan ≤ f.next.plan + 1
  pub due : g.next.due ≤ f.next.due + 1
  pub process : g.next.process ≡ f.next.process
  pub listed : g.processes ≡ f.processes

begins_nothing : (f : Flat) → Begins f f
begins_nothing f = record {
  services = refl;
  starts = refl;
  commands = refl;
  plans = omega arith;
  due = omega arith;
  process = refl;
  listed = refl;
}

-- a row that doesn't pass changes no count
pub not_counted : (test : DueKind → Bool) (rows : List Due) (due : Due) → test due.kind ≡ false
    → counted test (rows ++ due ∷ []) ≡ counted test rows
not_counted test rows due fails =
    let parts = ap (λ (ds : List Due). length ds) (filter-append (λ (d : Due). test d.kind) rows (due ∷ [])) in
    let none : counted test (due ∷ []) ≡ 0 = ap (λ b. length (cond b (due ∷ []) [])) fails in
    omega (arith, parts, length-append (filter (λ (d : Due). test d.kind) rows) (filter (λ (d : Due). test d.kind) (due ∷ [])), none)

pub restarts : (row : Service) (f : Flat) → Begins f (with_restart row f)
restarts row f =
    elim (can_start f row) as (λ b. Begins f (cond b (with_start 0 [] row f) f)) [
      | true ↦ record {
        services = refl;
        starts = not_counted begins_plan f.dues _ refl;
        commands = not_counted runs_command f.dues _ refl;
        plans = omega arith;
        due = omega arith;
        process = refl;
        listed = refl;
      }
      | false ↦ begins_nothing f
    ]

pub found_restarts : (found : Option Service) (f : Flat) → Begins f (if_found with_restart found f)
found_restarts None f = begins_nothing f
found_restarts (Some row) f = restarts row f

-- what a command changes of it
pub record Runs (l : Limits) (f g : Flat) : Type 0 where
  pub services : g.services ≡ f.services
  pub dues : g.dues ≡ f.dues
  pub plans : g.next.plan ≡ f.next.plan
  pub due : g.next.due ≡ f.next.due
  pub alike : g.next.process + length f.processes ≡ f.next.process + length g.processes

runs_nothing : (l : Limits) (f : Flat) → Runs l f f
runs_nothing l f = record { services = refl; dues = refl; plans = refl; due = refl; alike = refl }

pub found_runs : (l : Limits) (found : Option Service) (f : Flat) → Runs l f (if_found (with_command l) found f)
found_runs l None f = runs_nothing l f
found_runs l (Some row) f =
    elim (can_run l f row) as (λ b. Runs l f (cond b (with_wanted_command row.config.command f) f)) [
      | true ↦ record {
        services = refl;
        dues = refl;
        plans = refl;
        due = refl;
        alike = omega (arith, length-append f.processes (wanted_process f.next.process 0 false ∷ []));
      }
      | false ↦ runs_nothing l f
    ]

-- ## Room

pub fewer_starts : (n : ℕ) (t : Tabled) → HasStarts (n + 1) t → HasStarts n t
fewer_starts n t has = record {
  starts = omega (arith, has.starts);
  plans = omega (arith, has.plans);
  dues = omega (arith, has.dues);
  entries = has.entries;
}

-- ## The service that is started is there

either_found : (b : Bool) (one : Service) (found : Option Service) → IsSome found → IsSome (cond b (Some one) found)
either_found true one found some = refl
either_found false one found some = some

pub found_there : (p : Service → Bool) (rows : List Service) (row : Service) → find p rows ≡ Some row
    → IsSome (find (λ (r : Service). r.number == row.number) rows)
found_there p [] row e = absurd cc
found_there p (one ∷ rows) row e =
    elim (p one) as (λ b. cond b (Some one) (find p rows) ≡ Some row
    → IsSome (find (λ (r : Service). r.number == row.number) (one ∷ rows))) [
      | true ↦ λ is.
          let same : one ≡ row = cc in
          ap (λ b. is_some (cond b (Some one) (find (λ (r : Service). r.number == row.number) rows)))
          (eq-eqb one.number row.number (ap (λ (r : Service). r.number) same))
      | false ↦ λ is. either_found (one.number == row.number) one (find (λ (r : Service). r.number == row.number) rows)
          (found_there p rows row is)
    ] e

pub got_there : (rows : List Service) (place : ℕ) (row : Service) → slice_get rows place ≡ Some row
    → IsSome (find (λ (r : Service). r.number == row.number) rows)
got_there [] place row e = absurd cc
got_there (one ∷ rows) zero row e =
    let same : one ≡ row = cc in
    ap (λ b. is_some (cond b (Some one) (find (λ (r : Service). r.number == row.number) rows)))
    (eq-eqb one.number row.number (ap (λ (r : Service). r.number) same))
got_there (one ∷ rows) (suc place) row e = either_found (one.number == row.number) one (find (λ (r : Service). r.number == row.number) rows)
    (got_there rows place row e)

startable_there : (f : Flat) (row : Service) → IsSome (service_of f row.number)
    → IfSome (startable f row) (λ number. IsSome (service_of f number))
startable_there f row there = elim (can_start f row) as (λ b. IfSome (cond b (Some row.number) None)
    (λ number. IsSome (service_of f number))) [ true ↦ there | false ↦ tt ]

pub found_startable : (f : Flat) (p : Service → Bool) (found : Option Service) → find p f.services ≡ found
    → IfSome (option_and_then (startable f) found) (λ number. IsSome (service_of f number))
found_startable f p None e = tt
found_startable f p (Some row) e = startable_there f row (found_there p f.services row e)

pub got_startable : (f : Flat) (place : ℕ) (found : Option Service) → slice_get f.services place ≡ found
    → IfSome (option_and_then (startable f) found) (λ number. IsSome (service_of f number))
got_startable f place None e = tt
got_startable f place (Some row) e = startable_there f row (got_there f.services place row e)

-- it is started where it can be
pub begun_as : (found : Option Service) (f : Flat) → if_found with_begun
    (option_and_then (startable f) found) f ≡ if_found with_restart found f
begun_as None f = refl
begun_as (Some row) f =
    elim (can_start f row) as (λ b. if_found with_begun (cond b (Some row.number) None) f ≡ cond b (with_start 0 [] row f) f) [
      | true ↦ refl
      | false ↦ refl
    ]

-- a command runs where it can
pub runs_not : (l : Limits) (f : Flat) (found : Option Service) → runs l f found ≡ false → f ≡ if_found (with_command l) found f
runs_not l f None fails = refl
runs_not l f (Some row) fails = sym (ap (λ (b : Bool). cond b (with_wanted_command row.config.command f) f) fails)

pub runs_one : (l : Limits) (f : Flat) (found : Option Service) (row : Service) → found ≡ Some row → runs l f found ≡ true
    → with_wanted_command row.config.command f ≡ if_found (with_command l) found f
runs_one l f None row is holds = absurd cc
runs_one l f (Some one) row is holds =
    let same : one ≡ row = cc in
    ap (λ (r : Service). with_wanted_command r.config.command f) (sym same)
    ∙ sym (ap (λ (b : Bool). cond b (with_wanted_command one.config.command f) f) holds)

none_is : {X : Type 0} (found : Option X) → is_some found ≡ false → found ≡ None
none_is None e = refl
none_is (Some x) e = absurd cc

pub none_due : (f : Flat) → is_some (next_due f) ≡ false → next_due f ≡ None
none_due f e = none_is (next_due f) e

-- ## What is left after a row

-- a row leaves before it takes place
pub row_left : (t u : Tabled) (row : Due) → next_due t.flat ≡ Some row → u.flat ≡ without_due row.number t.flat → u.limits ≡ t.limits
    → u.spare.starts ≡ t.spare.starts → u.spare.plans ≡ t.spare.plans
    → t.spare.dues ≤ u.spare.dues → u.spare.entries ≡ t.spare.entries → u.spare.commands ≡ t.spare.commands → CanFire t
    → CanFireOne row.kind u
row_left t u row is flat limits starts plans places entries commands can =
    let fewer_starts = first_leaves begins_plan t.flat row is in
    let fewer_commands = first_leaves runs_command t.flat row is in
    let rows = ap (λ (f : Flat). starts_in f.dues) flat in
    let others = ap (λ (f : Flat). commands_in f.dues) flat in
    let room = can.room.starts in
    record {
      starts = record {
        starts = omega (arith, fewer_starts, rows, room.starts, starts);
        plans = omega (arith, fewer_starts, rows, room.plans, plans);
        dues = omega (arith, fewer_starts, rows, room.dues, places);
        entries = omega (arith, room.entries, entries, ap (λ (f : Flat). length f.services) flat);
      };
      commands = omega (arith, fewer_commands, others, can.room.commands, commands);
      numbers = record {
        plans = omega (arith, fewer_starts, rows, can.numbers.plans, ap (λ (f : Flat). f.next.plan) flat);
        dues = omega (arith, fewer_starts, rows, can.numbers.dues, ap (λ (f : Flat). f.next.due) flat);
      };
      processes = rw (flat, limits) (omega (arith, can.processes));
    }

-- after a start there is room and there are numbers for the others
pub start_left : (service : ℕ) (t u : Tabled) → u.flat ≡ if_found with_restart (service_of t.flat service) t.flat → u.limits ≡ t.limits
    → u.spare.commands ≡ t.spare.commands
    → HasStarts (starts_in t.flat.dues) u → CanFireOne (dues.Start service) t → CanFire u
start_left service t u flat limits commands left can =
    let b = found_restarts (service_of t.flat service) t.flat in
    let starts = ap (λ (f : Flat). starts_in f.dues) flat ∙ b.starts in
    let others = ap (λ (f : Flat). commands_in f.dues) flat ∙ b.commands in
    record {
      room = record {
        starts = subst (λ (n : ℕ). HasStarts n u) (sym starts) left;
        commands = omega (arith, others, commands, can.commands);
      };
      numbers = record {
        plans = omega (arith, starts, ap (λ (f : Flat). f.next.plan) flat, b.plans, can.numbers.plans);
        dues = omega (arith, starts, ap (λ (f : Flat). f.next.due) flat, b.due, can.numbers.dues);
      };
      processes = rw (flat, limits) (omega (arith, b.process, ap (λ (ps : List Process). length ps) b.listed, can.processes));
    }

-- so there is after a command
pub command_left : (service : ℕ) (t u : Tabled) → u.flat ≡ if_found (with_command t.limits) (service_of t.flat service) t.flat
    → u.limits ≡ t.limits → u.spare.starts ≡ t.spare.starts → u.spare.plans ≡ t.spare.plans
    → u.spare.dues ≡ t.spare.dues → u.spare.entries ≡ t.spare.entries → t.spare.commands ≤ u.spare.commands + 1
    → CanFireOne (dues.Command service) t → CanFire u
command_left service t u flat limits starts plans places entries commands can =
    let r = found_runs t.limits (service_of t.flat service) t.flat in
    let rows = ap (λ (f : Flat). starts_in f.dues) flat ∙ ap starts_in r.dues in
    let others = ap (λ (f : Flat). commands_in f.dues) flat ∙ ap commands_in r.dues in
    record {
      room = record {
        starts = record {
          starts = omega (arith, rows, can.starts.starts, starts);
          plans = omega (arith, rows, can.starts.plans, plans);
          dues = omega (arith, rows, can.starts.dues, places);
          entries = omega (
            arith,
            can.starts.entries,
            entries,
            ap (λ (f : Flat). length f.services) flat,
            ap (λ (rs : List Service). length rs) r.services,
          );
        };
        commands = omega (arith, others, can.commands, commands);
      };
      numbers = record {
        plans = omega (arith, rows, ap (λ (f : Flat). f.next.plan) flat, r.plans, can.numbers.plans);
        dues = omega (arith, rows, ap (λ (f : Flat). f.next.due) flat, r.due, can.numbers.dues);
      };
      processes = rw (flat, limits) (omega (arith, r.alike, can.processes));
    }

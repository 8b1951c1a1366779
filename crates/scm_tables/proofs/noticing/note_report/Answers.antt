use Rattle.std.proofs.Common.{◌≡◌, ◌∙◌, ◌==◌, ℕ, Bool, true, false, cond, List, ap, find, refl, eq-eqb, sym}
use Rattle.std.specs.Prelude.{Result, Ok, Err, is_ok, option_copied}
use Rattle.scm_model.specs.declared.flat.Process.{Process}
use Rattle.scm_model.specs.declared.flat.Registration.{Registration}
use Rattle.scm_model.specs.declared.flat.Service.{Service}
use Rattle.scm_model.specs.declared.flat.Status.{Status}
use Rattle.scm_model.specs.Notices.{noted, pid_in, pid_of, state_mask, notified_of_move, with_pid}
use Rattle.scm_rules.specs.Reports.{moved_by, process_in_state, reported_if, notified_of_report}
use Rattle.status_machine.specs.Moves.{take_report, takes}
use Rattle.scm_tables.proofs.noticing.note_report.Goals as goal

abbrev judged : Bool → Status → Result Status ℕ
judged b report = cond b (Ok report) (Err 13)

-- a service that takes a report
taken : (row : Service) (report : Status) → is_ok (take_report row.status report) ≡ true
    → reported_if row.number report row ≡ moved_by row (Ok report)
taken row report =
    elim (takes row.status report) as (λ b. is_ok (judged b report) ≡ true
    → cond (row.number == row.number) (moved_by row (judged b report)) row ≡ moved_by row (Ok report))
    [ true ↦ λ ok. ap (λ b. cond b (moved_by row (Ok report)) row) (eq-eqb row.number row.number refl) | false ↦ λ ok. absurd (cc) ]

-- what registrations are told then
told : (processes : List Process) (row : Service) (report : Status) (rows : List Registration)
    → is_ok (take_report row.status report) ≡ true
    → cond (row.status.state == report.state) rows (noted (record {
      service = row.number;
      bit = state_mask report.state;
      status = with_pid report (pid_of processes (record row { status = report; process = process_in_state report.state row.process }));
      name = row.config.name;
    }) rows)
    ≡ notified_of_move (pid_of processes (reported_if row.number report row)) row (reported_if row.number report row) rows
told processes row report rows ok = ap (λ (new : Service). notified_of_move (pid_of processes new) row new rows) (sym (taken row report ok))

pub returns-then-is_ok-clause-rows : goal.returns-then-is_ok-clause-rows
returns-then-is_ok-clause-rows c =
    let row = c.in-Some.row.now in
    let report = c.args.report.now in
    let processes = c.args.processes.now.processes in
    let rows = c.args.queue.now.rows in
    let ok : is_ok (take_report row.status report) ≡ true = ap is_ok (sym c.take_report.ensures) ∙ sym c.is_ok.ensures.value
    ∙ c.if-is_ok.true in
    let pid = c.pid_with.ensures ∙ ap (λ (n : ℕ). cond (n == 0) 0 (pid_in (find (λ (process : Process). process.number == n) processes)))
    c.process_in_state-process.ensures in
    c.note_move.ensures.rows
    ∙ ap (λ (n : ℕ). cond (row.status.state == report.state) rows (noted
    (record { service = row.number; bit = state_mask report.state; status = with_pid report n; name = row.config.name }) rows)) pid
    ∙ told processes row report rows ok
    ∙ ap (λ service. notified_of_report processes report (option_copied service) rows) (sym c.in-Some.is)

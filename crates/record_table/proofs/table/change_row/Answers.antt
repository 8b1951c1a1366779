use Rattle.std.proofs.Common.{◌∙◌, List, ap, find, refl, sym}
use Rattle.scm_model.specs.declared.flat.Service.{Service}
use Rattle.record_table.specs.Recorded.{has_number, process_in}
use Rattle.record_table.specs.declared.live.Changing.{Changing}
use Rattle.record_table.proofs.Processes.{process_left, process_changed}
use Rattle.record_table.proofs.table.change_row.Goals as goal

pub returns-clause-before : goal.returns-clause-before
returns-clause-before g c =
    ap (λ (p : Changing g.row.C.Denot). p.before) c.exchange-is_found.ensures.parts
    ∙ process_left (λ (p : Changing g.row.C.Denot). p.before)
    (λ (row : Service). record { change = c.args.change; before = row.process; after = (g.C.Change.changed c.args.change.now row).process })
    (find (has_number c.args.number) c.args.rows.now.items) (record { change = c.args.change; before = 0; after = 0 }) refl (λ row. refl)

pub returns-clause-after : goal.returns-clause-after
returns-clause-after g c =
    ap (λ (p : Changing g.row.C.Denot). p.after) c.exchange-is_found.ensures.parts
    ∙ process_changed (λ (p : Changing g.row.C.Denot). p.after)
    (λ (row : Service). record { change = c.args.change; before = row.process; after = (g.C.Change.changed c.args.change.now row).process })
    c.args.rows.now.items c.args.number (g.C.Change.changed c.args.change.now)
    (record { change = c.args.change; before = 0; after = 0 }) (g.met.C.Change.keeps c.args.change.now) refl (λ row. refl)
    ∙ sym (ap (λ (rows : List Service). process_in (find (has_number c.args.number) rows)) c.exchange-is_found.ensures.items)

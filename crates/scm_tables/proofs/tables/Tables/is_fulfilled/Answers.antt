use Rattle.std.proofs.Common.{◌∙◌, ◌==◌, ap}
use Rattle.std.specs.List.{list_any}
use Rattle.scm_model.specs.Ready.{state_in}
use Rattle.scm_model.specs.declared.codes.TheConstants.{SERVICE_RUNNING}
use Rattle.scm_tables.specs.Tabled.{Tabled}
use Rattle.record_table.specs.Recorded.{is_member, numbers_with}
use Rattle.scm_tables.proofs.Numbered.{group_running, in_order, with_number}
use Rattle.scm_tables.proofs.tables.Tables.is_fulfilled.Goals as goal

pub returns-in-Group : goal.returns-in-Group
returns-in-Group c =
    let services = c.args.self.now.flat.services in
    let group = c.in-Group.group in
    rw c.in-Group.is
    (c.is_any_running.ensures ∙ ap (list_any (λ n. state_in (with_number services n) == SERVICE_RUNNING)) (c.members.ensures.numbers
    ∙ ap (λ (t : Tabled). numbers_with (is_member group) t.flat.services) c.self.view_is)
    ∙ group_running services (in_order c.self.invariant c.self.view_is) group)

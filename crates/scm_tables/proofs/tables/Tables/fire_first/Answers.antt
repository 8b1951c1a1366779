use Rattle.std.proofs.Common.{ap, sym}
use Rattle.scm_tables.specs.Tabled.{Spare}
use Rattle.scm_tables.proofs.Fired.{row_left}
use Rattle.scm_tables.proofs.tables.Tables.fire_first.Goals as goal

pub fire-requires : goal.fire-requires
fire-requires c =
    let left = c.in-Some.ensures in
    row_left c.args.self.now c.take_due.new.self c.in-Some.row (sym left.row) left.flat left.limits
    (ap (λ (s : Spare). s.starts) left.spare) (ap (λ (s : Spare). s.plans) left.spare) left.dues
    (ap (λ (s : Spare). s.entries) left.spare) (ap (λ (s : Spare). s.commands) left.spare) c.requires

use Rattle.std.proofs.Common.{◌≡◌, true, false, arith}
use Rattle.std.specs.List.{list_any}
use Rattle.record_journal.specs.Entries.{has_name, is_fit}
use Rattle.record_journal.specs.Services.{configs_of}
use Rattle.record_journal.proofs.Begins.{no_cycle}
use Rattle.record_journal.proofs.Renumbered.{free_rows}
use Rattle.record_journal.proofs.Told.{created_told}
use Rattle.record_journal.proofs.configs.can_create.Goals as goal

pub closes-requires : goal.closes-requires
closes-requires c =
    record {
      acyclic = free_rows c.args.table.now.services c.in_ok-number.ensures.rising
          (no_cycle (configs_of c.args.table.now.services) c.requires);
    }

pub returns : goal.returns
returns c =
    let configs = configs_of c.args.table.now.services in
    let fresh : list_any (has_name c.args.config.now.name) configs ≡ false =
    (let a = c.number_of.ensures.some in let b = c.if-is_some.ensures in cc) in
    let fit : is_fit configs c.args.config.now ≡ true = (let a = c.is_fit.ensures in let b = c.if-not-is_fit.false in cc) in
    created_told c.args.table.now.services c.args.config.now c.in_ok-number.number c.in_ok-cyclic.cyclic c.in_ok-number.ensures.rising
    c.in_ok-number.ensures.above fresh (omega (arith, c.if-count-ge-SERVICES.false)) fit c.in_ok-cyclic.ensures

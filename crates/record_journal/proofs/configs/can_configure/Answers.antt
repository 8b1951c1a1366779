use Rattle.std.proofs.Common.{◌≡◌, true, sym}
use Rattle.record_journal.specs.Entries.{is_fit}
use Rattle.record_journal.specs.Services.{configs_of}
use Rattle.record_journal.proofs.Begins.{no_cycle}
use Rattle.record_journal.proofs.Renumbered.{free_rows}
use Rattle.record_journal.proofs.Told.{configured_told}
use Rattle.record_journal.proofs.configs.can_configure.Goals as goal

pub closes-requires : goal.closes-requires
closes-requires c =
    record {
      acyclic = free_rows c.args.table.now.services c.in-Some.ensures.rising
          (no_cycle (configs_of c.args.table.now.services) c.requires);
    }

pub returns : goal.returns
returns c =
    let fit : is_fit (configs_of c.args.table.now.services) c.args.config.now ≡ true =
    (let a = c.is_fit.ensures in let b = c.if-not-is_fit.false in cc) in
    configured_told c.args.table.now.services c.args.config.now c.in-Some.number c.in_ok-cyclic.cyclic c.in-Some.ensures.rising c.requires
    c.in-Some.ensures.number (sym c.in-Some.ensures.some) fit c.in_ok-cyclic.ensures

use Rattle.std.proofs.Common.{arith}
use Rattle.std.proofs.lemmas.Result.{err_from_is_err_and}
use Rattle.trail_text.specs.Histories.{first_of, told}
use Rattle.trail_text.proofs.Leading.{manageable}
use Rattle.trail_export.proofs.Sinking.{nothing_of, on_ok_both}
use Rattle.trail_export.proofs.Parts.{legal_few, legal_made}
use Rattle.trail_export.proofs.Legal.{tells_coded}
use Rattle.trail_export.proofs.exporting.export.Goals as goal

pub returns-in_err-fits_lines-clause-written : goal.returns-in_err-fits_lines-clause-written
returns-in_err-fits_lines-clause-written g c =
    rw (err_from_is_err_and c.from_residual.result c.from_residual.ensures.1).1
    (nothing_of (g.T.Sink.held c.args.sink.now) (told c.args.opening.now c.args.trail.now.entries))

pub returns-in_err-manager-clause-written : goal.returns-in_err-manager-clause-written
returns-in_err-manager-clause-written g c =
    rw (err_from_is_err_and c.from_residual-in_err-manager.result c.from_residual-in_err-manager.ensures.1).1
    (nothing_of (g.T.Sink.held c.args.sink.now) (told c.args.opening.now c.args.trail.now.entries))

pub manager_from-requires-clause-small : goal.manager_from-requires-clause-small
manager_from-requires-clause-small g c = manageable c.args.opening.now.limits c.requires.small

pub write_gathered-written-requires-clause-steps : goal.write_gathered-written-requires-clause-steps
write_gathered-written-requires-clause-steps g c =
    let o = c.args.opening.now in
    omega (
      arith,
      c.in_ok-manager.ensures.steps,
      legal_few o.limits (first_of o) c.args.trail.now.entries c.requires.small c.requires.legal,
    )

pub write_gathered-written-requires-clause-legal : goal.write_gathered-written-requires-clause-legal
write_gathered-written-requires-clause-legal g c =
    let o = c.args.opening.now in legal_made o.limits (first_of o) c.args.trail.now.entries c.requires.legal

pub returns-clause-legal : goal.returns-clause-legal
returns-clause-legal g c =
    on_ok_both c.write_gathered-written.result
    (λ fits. tells_coded c.args.opening.now c.args.trail.now.entries c.requires.small c.requires.can c.requires.legal fits
    c.in_ok-fits_lines.ensures) c.write_gathered-written.ensures.fitting c.write_gathered-written.ensures.coded

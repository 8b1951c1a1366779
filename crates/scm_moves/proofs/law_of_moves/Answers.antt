use Rattle.scm_runs.proofs.Along.{along}
use Rattle.scm_moves.specs.Moves.{LawOfMoves}
use Rattle.scm_moves.specs.Stale.{LawOfStale}
use Rattle.scm_moves.proofs.ToldStale.{gives as gives_stale}
use Rattle.scm_moves.proofs.Whole.{Whole, gives_moves, whole_begun, whole_keeps}
use Rattle.scm_moves.proofs.law_of_moves.Goals as goal

pub returns-clause-moves : goal.returns-clause-moves
returns-clause-moves c =
    along (Whole c.args.limits.now) (LawOfMoves c.args.limits.now) c.args.limits.now (whole_keeps c.args.limits.now)
    (gives_moves c.args.limits.now) c.args.opening.now c.args.steps.now
    (whole_begun c.args.limits.now c.args.opening.now c.requires.begins) c.requires.legal

pub returns-clause-stale : goal.returns-clause-stale
returns-clause-stale c =
    along (Whole c.args.limits.now) LawOfStale c.args.limits.now (whole_keeps c.args.limits.now)
    (gives_stale c.args.limits.now) c.args.opening.now c.args.steps.now
    (whole_begun c.args.limits.now c.args.opening.now c.requires.begins) c.requires.legal

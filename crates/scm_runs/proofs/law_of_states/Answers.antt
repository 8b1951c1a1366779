use Rattle.std.proofs.Common.{sym, subst}
use Rattle.scm_rules.specs.Valid.{IsValid}
use Rattle.scm_runs.proofs.Along.{at_end}
use Rattle.scm_runs.proofs.Clear.{Clear, clear_keeps, clear_begun, is_valid_clear}
use Rattle.scm_runs.proofs.Histories.{state_is}
use Rattle.scm_runs.proofs.law_of_states.Goals as goal

pub returns : goal.returns
returns c =
    let l = c.args.limits.now in
    let f = c.args.opening.now in
    let es = c.args.steps.now in
    subst (IsValid l) (sym (state_is l f es)) (is_valid_clear l _ (at_end (Clear l) l (clear_keeps l) f es
    (clear_begun l f c.requires.begins) c.requires.legal))

use Rattle.std.proofs.Common.{refl, subst}
use Rattle.record_journal.specs.Bearing.{stood}
use Rattle.scm_runs.proofs.Histories.{legal_made}
use Rattle.scm_kept.specs.Fitting.{AllFit}
use Rattle.scm_kept.proofs.Left.{opens_to_front}
use Rattle.scm_kept.proofs.what_a_crash_leaves_is_read.Goals as goal

pub returns : goal.returns
returns c =
    let l = c.args.limits.now in
    let f = c.args.opening.now in
    let es = c.args.steps.now in
    let fits = subst AllFit c.as_slice.ensures c.steps_fit.ensures in
    opens_to_front l f es c.requires.few c.requires.begins (legal_made l f es c.requires.legal) fits
    (stood c.args.form c.args.journal.now)
    (record { bytes = c.bytes_fit.ensures; read = c.requires.read }) refl

use Rattle.std.proofs.Common.{refl, subst}
use Rattle.scm_kept.specs.Fitting.{AllFit}
use Rattle.record_journal.specs.Bearing.{stood}
use Rattle.scm_runs.proofs.Histories.{legal_made}
use Rattle.scm_kept.proofs.Left.{left_so, still_journal}
use Rattle.scm_kept.proofs.Reopened.{kept_replayable, reopened, reopened_cut}
use Rattle.scm_kept.proofs.what_a_run_keeps_is_read.Goals as goal

pub returns-clause-kept : goal.returns-clause-kept
returns-clause-kept c =
    let l = c.args.limits.now in
    let f = c.args.opening.now in
    let es = c.args.steps.now in
    let fits = subst AllFit c.as_slice.ensures c.steps_fit.ensures in
    kept_replayable l f es c.requires.few c.requires.begins (legal_made l f es c.requires.legal) fits
    (stood c.args.form c.args.journal.now)
    (record { bytes = c.bytes_fit.ensures; read = c.requires.read })

pub returns-clause-reopened : goal.returns-clause-reopened
returns-clause-reopened c =
    let l = c.args.limits.now in
    let f = c.args.opening.now in
    let es = c.args.steps.now in
    let fits = subst AllFit c.as_slice.ensures c.steps_fit.ensures in
    reopened l f es c.requires.few c.requires.begins (legal_made l f es c.requires.legal) fits
    (stood c.args.form c.args.journal.now)
    (record { bytes = c.bytes_fit.ensures; read = c.requires.read })

pub returns-clause-stands : goal.returns-clause-stands
returns-clause-stands c =
    let l = c.args.limits.now in
    let f = c.args.opening.now in
    let es = c.args.steps.now in
    let fits = subst AllFit c.as_slice.ensures c.steps_fit.ensures in
    still_journal l f es c.requires.few c.requires.begins (legal_made l f es c.requires.legal) fits
    (stood c.args.form c.args.journal.now)
    (record { bytes = c.bytes_fit.ensures; read = c.requires.read }) refl

pub returns-clause-left : goal.returns-clause-left
returns-clause-left c =
    let l = c.args.limits.now in
    let f = c.args.opening.now in
    let es = c.args.steps.now in
    let fits = subst AllFit c.as_slice.ensures c.steps_fit.ensures in
    left_so l f es c.requires.few c.requires.begins (legal_made l f es c.requires.legal) fits
    (stood c.args.form c.args.journal.now)
    (record { bytes = c.bytes_fit.ensures; read = c.requires.read }) refl

pub returns-clause-cut : goal.returns-clause-cut
returns-clause-cut c = λ ok size.
    let l = c.args.limits.now in
    let f = c.args.opening.now in
    let es = c.args.steps.now in
    let fits = subst AllFit c.as_slice.ensures c.steps_fit.ensures in
    reopened_cut l f es c.requires.few c.requires.begins (legal_made l f es c.requires.legal) fits
    (stood c.args.form c.args.journal.now)
    (record { bytes = c.bytes_fit.ensures; read = c.requires.read }) c.args.next.now.0 c.args.next.now.1 ok c.step_fits.ensures size

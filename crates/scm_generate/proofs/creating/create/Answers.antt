use Rattle.std.proofs.Common.{[], ◌∷◌, subst, sym}
use Rattle.scm_model.specs.declared.calls.Request.TheVariants as request
use Rattle.scm_model.specs.declared.steps.Kept.TheVariants as appended
use Rattle.scm_generate.specs.Listed.{call_now}
use Rattle.scm_generate.specs.Progress.{IsOpenTo}
use Rattle.scm_generate.proofs.creating.create.Goals as goal

pub make-requires : goal.make-requires
make-requires c = subst (λ new. IsOpenTo c.args.run.now (call_now (request.Create new) appended.Kept ∷ []))
    (sym c.in_ok-new.ensures) c.requires

use Rattle.std.proofs.Common.{subst, sym}
use Rattle.scm_model.specs.declared.flat.Limits.{Limits}
use Rattle.scm_replay.specs.Outcomes.{standing}
use Rattle.scm_rules.specs.Valid.{IsValid}
use Rattle.scmd_tests.proofs.Replayed.{replayed_validly}
use Rattle.scmd_tests.proofs.rundowns.replay_validly.Goals as goal

-- a replay leaves the limits as they are
pub returns : goal.returns
returns c =
    let now = c.replay.new.manager in record {
      valid = subst (λ (l : Limits). IsValid l now.flat) (sym c.replay.ensures.limits)
          (replayed_validly _ (standing c.args.manager.now) (standing now) _ _ _ _ _ c.requires.begins c.replay.ensures.replayed);
    }

-- The code of a call whose change may not have been kept.
use Rattle.std.specs.Prelude.{ℕ, ◌&&◌, ◌==◌, if◌then◌else◌}
use Rattle.scm_model.specs.declared.codes.TheConstants.{ERROR_CANTWRITE}
use Rattle.scm_model.specs.declared.steps.Kept.{Kept}
use Rattle.scm_rules.specs.Delete.{is_failed}

-- the code of a change that is done once it is kept
abbrev pub code_once_kept : ℕ → Kept → ℕ
code_once_kept code append = if code == 0 && is_failed append then ERROR_CANTWRITE else code

-- Changes of a level: what is done after failures, what keeping adds to their code, and what follows where that is 0.
use Rattle.std.proofs.Common.{ℕ, ◌≡◌, ◌==◌, ◌||◌, ◌∙◌, Bool, true, false, not, List, [], ◌∷◌, Option, None, Some, take, refl, ap, sym}
use Rattle.std.proofs.Common.{subst, arith}
use Rattle.std.specs.Prelude.{option_map}
use Rattle.scm_model.specs.declared.calls.Info.{Info}
use Rattle.scm_model.specs.declared.calls.Info.TheVariants as info
use Rattle.scm_model.specs.declared.calls.Reply.TheVariants as reply
use Rattle.scm_model.specs.declared.calls.Request.TheVariants as request
use Rattle.scm_model.specs.declared.flat.Action.{Action}
use Rattle.scm_model.specs.declared.flat.Config.{Config}
use Rattle.scm_model.specs.declared.flat.Flat.{Flat}
use Rattle.scm_model.specs.declared.steps.Kept.{Kept}
use Rattle.scm_model.specs.declared.steps.Kept.TheVariants as appended
use Rattle.scm_model.specs.Refused.{outcome}
use Rattle.scm_model.specs.Rows.{held_service}
use Rattle.service_record.specs.Checks.{check_new}
use Rattle.scm_rules.specs.Change2.{asked_level, change2_done, change2_refusals, change2_verdict, config_at, has_bad_trigger, is_refused}
use Rattle.scm_rules.specs.Change2.{level_config}
use Rattle.scm_rules.specs.Delete.{is_failed}
use Rattle.scm_tables.specs.Tabled.{HasShortTexts}
use Rattle.scm_arms_service.specs.Judged.{code_once_kept}
use Rattle.scm_arms_service.specs.Leveled.{failing_of, with_failing}
use Rattle.scm_arms_service.proofs.Judging.{ArePassed, last_refusal, passed, refused_outcome, short_texts, some_of}

-- what is asked to be done after failures takes the place of what was
pub failing_is : (old : Config) (reset : ℕ) (command : Option (List ℕ)) (actions : Option (List Action))
    → with_failing old (failing_of old reset command actions) ≡ config_at (info.Failure reset command actions) old
failing_is old reset command None = refl
failing_is old reset command (Some []) = refl
failing_is old reset command (Some (action ∷ actions)) = refl

-- keeping adds its own refusal to a level's
leveled_once_kept : (f : Flat) (caller handle : ℕ) (asked : Info) (append : Kept)
    → change2_verdict f caller handle asked append ≡ code_once_kept (change2_verdict f caller handle asked appended.Kept) append
leveled_once_kept f caller handle asked append =
    last_refusal (take 5 (change2_refusals f caller handle asked append)) (refl, (refl, (refl, (refl, (refl, tt))))) (is_failed append)

-- of two tests that fail the second fails
second_false : (a b : Bool) → (a || b) ≡ false → b ≡ false
second_false true b e = absurd cc
second_false false b e = e

accepted : (code : ℕ) → not (code == 0) ≡ false → code ≡ 0
accepted code is = search arith

-- a configuration that is accepted has texts that aren't too long
accepted_texts : (config : Config) → check_new config None ≡ 0 → HasShortTexts config
accepted_texts config is = short_texts config None (ap (λ (code : ℕ). code == 123) is) (ap (λ (code : ℕ). code == 87) is)

-- a level that isn't refused leaves texts that aren't too long
leveled_texts : (f : Flat) (caller handle : ℕ) (asked : Info) (append : Kept) (config : Config)
    → change2_verdict f caller handle asked append ≡ 0 → asked_level f caller handle asked ≡ Some config
    → HasShortTexts config
leveled_texts f caller handle asked append config e made =
    let all : ArePassed (change2_refusals f caller handle asked append) =
    passed (change2_refusals f caller handle asked append) (refl, (refl, (refl, (refl, (refl, (refl, tt)))))) e in
    elim (held_service f caller handle) as (λ service. is_refused asked service ≡ false
    → option_map (level_config asked) service ≡ Some config → HasShortTexts config) [
      | None ↦ λ ok is. absurd cc
      | Some row ↦ λ ok is.
          subst HasShortTexts (some_of (level_config asked row) config is)
          (accepted_texts (level_config asked row) (accepted (check_new (level_config asked row) None) ok))
    ] (second_false (has_bad_trigger asked) (is_refused asked (held_service f caller handle)) all.1.1.1.1.0) made

-- the code of a level once it is kept
pub leveled_code : (f : Flat) (caller handle : ℕ) (asked : Info) (append : Kept) (code result : ℕ)
    → code ≡ change2_verdict f caller handle asked appended.Kept → result ≡ code_once_kept code append
    → change2_verdict f caller handle asked append ≡ result
leveled_code f caller handle asked append code result is made =
    leveled_once_kept f caller handle asked append ∙ ap (λ (n : ℕ). code_once_kept n append) (sym is) ∙ sym made

-- a level that is refused makes no change
pub level_refused : (f : Flat) (caller handle : ℕ) (asked : Info) (append : Kept) (code result : ℕ)
    → code ≡ change2_verdict f caller handle asked appended.Kept → result ≡ code_once_kept code append
    → (result ≡ 0 → ⊥)
    → record { reply = reply.Code result; flat = f } ≡ outcome (change2_verdict f caller handle asked append)
    (request.Change2 handle asked) f (change2_done f caller handle asked)
level_refused f caller handle asked append code result is made other =
    sym
    (refused_outcome (change2_verdict f caller handle asked append) result (request.Change2 handle asked) f
    (change2_done f caller handle asked)
    (leveled_code f caller handle asked append code result is made) other)

-- a level that is done leaves texts that aren't too long
pub level_fits : (f : Flat) (caller handle : ℕ) (asked : Info) (append : Kept) (code result : ℕ) (config : Config)
    → code ≡ change2_verdict f caller handle asked appended.Kept
    → result ≡ code_once_kept code append → result ≡ 0 → asked_level f caller handle asked ≡ Some config → HasShortTexts config
level_fits f caller handle asked append code result config is made zero asked_is =
    leveled_texts f caller handle asked append config (leveled_code f caller handle asked append code result is made ∙ zero) asked_is

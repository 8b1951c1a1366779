use Rattle.std.proofs.Common.{ℕ, ◌≡◌, ◌∙◌, Bool, true, false, cond, List, None, ap, refl, sym}
use Rattle.std.specs.Prelude.{codes}
use Rattle.std.specs.Cmp.Lexicographic.{same_text}
use Rattle.scmd_top.specs.Settings.{is_word}
use Rattle.scmd_top.specs.Words.{audit_with, generate_with, job_named, pipe_of, replay_job, serving_of, with_options}
use Rattle.scmd_top.proofs.words.job_named.Goals as goal

not_word : (word other : List ℕ) → (word ≡ other → ⊥) → is_word word other ≡ false
not_word word other differs =
    elim (is_word word other) as (λ (b : Bool). is_word word other ≡ b → b ≡ false) [
      | true ↦ λ is. absurd (differs (same_text word other (sym is)))
      | false ↦ λ is. refl
    ] refl

module _ (word : List ℕ) (options : List (List ℕ)) where
  none_of_five : is_word word (codes "pipe") ≡ false → is_word word (codes "replay") ≡ false → is_word word (codes "generate") ≡ false
      → is_word word (codes "audit") ≡ false → is_word word (codes "serve") ≡ false → job_named word options ≡ None
  none_of_five pipe replay generate audit serve =
      ap (λ (b : Bool). cond b (with_options pipe_of options)
      (cond (is_word word (codes "replay")) (with_options replay_job options)
      (cond (is_word word (codes "generate")) (generate_with options)
      (cond (is_word word (codes "audit")) (audit_with options)
      (cond (is_word word (codes "serve")) (with_options serving_of options) None))))) pipe
      ∙ ap (λ (b : Bool). cond b (with_options replay_job options)
      (cond (is_word word (codes "generate")) (generate_with options)
      (cond (is_word word (codes "audit")) (audit_with options)
      (cond (is_word word (codes "serve")) (with_options serving_of options) None)))) replay
      ∙ ap (λ (b : Bool). cond b (generate_with options)
      (cond (is_word word (codes "audit")) (audit_with options)
      (cond (is_word word (codes "serve")) (with_options serving_of options) None))) generate
      ∙ ap (λ (b : Bool). cond b (audit_with options)
      (cond (is_word word (codes "serve")) (with_options serving_of options) None)) audit
      ∙ ap (λ (b : Bool). cond b (with_options serving_of options) None) serve

pub returns-in_default-clause-job : goal.returns-in_default-clause-job
returns-in_default-clause-job c =
    let n = c.in_default in
    let word = c.args.word.now in
    sym
    (none_of_five word c.args.options.now (not_word word (codes "pipe") n.not-pipe) (not_word word (codes "replay") n.not-replay)
    (not_word word (codes "generate") n.not-generate) (not_word word (codes "audit") n.not-audit)
    (not_word word (codes "serve") n.not-serve))

-- The first word of a line that has one.
use Rattle.std.proofs.Common.{ℕ, ◌≡◌, ◌==◌, ◌&&◌, not, Bool, true, false, cond, List, [], ◌∷◌, ◌++◌, refl, sym, ap, ◌∙◌, subst}
use Rattle.std.proofs.Common.{append_assoc, append-nil, true≢false}
use Rattle.std.proofs.lemmas.Bool.{eqb-true}
use Rattle.service_record.specs.Words.{word_from, first_word, has_word}
use Rattle.process_runner.specs.Commands.{command_words}
use Rattle.process_runner.specs.Splitting.{begun_word, words_after}
use Rattle.process_runner.proofs.Words.{words_are}

-- these words begin with this one
abbrev pub BeginsWith : List (List ℕ) → List ℕ → Type 0
BeginsWith words word = (rest : List (List ℕ)) × (words ≡ word ∷ rest)

-- a word that has begun goes on as the first word of the rest of the line
abbrev GoesOn : List ℕ → Type 0
GoesOn line = (word : List ℕ) (quoted : Bool) → BeginsWith (words_after true word quoted line) (word ++ word_from quoted line)

on_unit : (line : List ℕ) → GoesOn line → (word : List ℕ) (u : ℕ) (quoted quote space : Bool)
    → BeginsWith
    (cond quote (words_after true word (not quoted) line) (cond space (begun_word true word ++ words_after false [] false line)
    (words_after true (word ++ u ∷ []) quoted line)))
    (word ++ cond quote (word_from (not quoted) line) (cond space [] (u ∷ word_from quoted line)))
on_unit line on word u quoted true space = on word (not quoted)
on_unit line on word u quoted false true = (
  words_after false [] false line,
  ap (λ w. w ∷ words_after false [] false line) (sym (append-nil word)),
)
on_unit line on word u quoted false false =
    let h = on (word ++ u ∷ []) quoted in
    (h.0, h.1 ∙ ap (λ w. w ∷ h.0) (append_assoc word (u ∷ []) (word_from quoted line)))

word_on : (line : List ℕ) → GoesOn line
unfolding words_after word_from
word_on [] word quoted = ([], ap (λ w. w ∷ []) (sym (append-nil word)))
word_on (u ∷ line) word quoted = on_unit line (word_on line) word u quoted (u == 34) (u == 32 && not quoted)

-- a line that has a word begins with it
abbrev Begins : List ℕ → Type 0
Begins line = has_word line ≡ true → BeginsWith (words_after false [] false line) (first_word line)

behind_space : (line : List ℕ) → Begins line → Begins (32 ∷ line)
unfolding words_after first_word
behind_space line first h = first h

same_else : {A : Type 0} (b s : Bool) (x y z w : A) → s ≡ false → cond b x (cond s y w) ≡ cond b x (cond s z w)
same_else b s x y z w e = ap (λ t. cond b x (cond t y w)) e ∙ sym (ap (λ t. cond b x (cond t z w)) e)

with_unit : (line : List ℕ) (u : ℕ) → (u == 32) ≡ false → BeginsWith (words_after false [] false (u ∷ line)) (word_from false (u ∷ line))
unfolding words_after
with_unit line u other =
    let h = word_on (u ∷ line) [] false in (
      h.0,
      same_else (u == 34) (u == 32 && true) (words_after true [] true line) (words_after false [] false line)
          ([] ∷ words_after false [] false line) (words_after true (u ∷ []) false line)
          (ap (λ s. s && true) other) ∙ h.1,
    )

at_unit : (line : List ℕ) (u : ℕ) → (u == 32) ≡ false → Begins (u ∷ line)
unfolding first_word
at_unit line u at h = subst (BeginsWith (words_after false [] false (u ∷ line)))
    (sym (ap (λ s. cond s (first_word line) (word_from false (u ∷ line))) at)) (with_unit line u at)

by_first : (line : List ℕ) → Begins line → (u : ℕ) (space : Bool) → (u == 32) ≡ space → Begins (u ∷ line)
by_first line first u true at = subst (λ c. Begins (c ∷ line)) (sym (eqb-true u 32 at)) (behind_space line first)
by_first line first u false at = at_unit line u at

begins_all : (line : List ℕ) → Begins line
unfolding first_word
begins_all [] h = absurd (true≢false (sym h))
begins_all (u ∷ line) h = by_first line (begins_all line) u (u == 32) refl h

-- the words of such a line begin with it
pub words_begin : (line : List ℕ) → has_word line ≡ true → BeginsWith (command_words line) (first_word line)
words_begin line h = subst (λ words. BeginsWith words (first_word line)) (words_are line) (begins_all line h)

-- A line, from its beginning to its line feed.
use Rattle.std.proofs.Common.{inl, inr, ℕ, ◌≡◌, ◌+◌, ◌<◌, ◌==◌, Bool, true, false, cond, List, [], ◌∷◌, ◌++◌, length, Result, refl, sym, ap}
use Rattle.std.proofs.Common.{◌∙◌, subst, append_assoc, append-nil, arith}
use Rattle.std.specs.Prelude.{◌⊎◌, Option}
use Rattle.std.specs.Io.KnownBytes.{Appends}
use Rattle.std.proofs.KnownBytes.{Appends-nil}
use Rattle.std.proofs.lemmas.Bool.Decides.{eqb_tells}
use Rattle.std.proofs.lemmas.List.Elements.{All-nil, All-cons, All-append}
use Rattle.std.proofs.lemmas.List.Splits.{slice_split_none, slice_split_at, length-slice_split}
use Rattle.scm_model.specs.declared.flat.Limits.{Limits}
use Rattle.scm_replay.specs.declared.stop.Stop.{Stop}
use Rattle.scm_replay.specs.Outcomes.{Standing, goes_on, outcome_at}
use Rattle.scm_replay.specs.Answers.{answer_line}
use Rattle.scm_replay.specs.Replay.{BadLine, IsOneLine, Told, ends_text, text_behind, text_end, told_from, lines_of, replayed_from}
use Rattle.scm_replay.specs.Along.{Point, GoesOn, Lined}

-- what is told from a line on that is whole
abbrev pub told_behind : Limits → Standing → ℕ → List ℕ → Told → Told
told_behind l s number line more =
    text_behind (answer_line number (outcome_at l s line).0) (cond (goes_on (outcome_at l s line).0) more
    (ends_text BadLine (outcome_at l s line).1))

told_more : (l : Limits) (s : Standing) (number : ℕ) (line : List ℕ) (pieces : List (List ℕ)) → 0 < length pieces
    → told_from l s number (line ∷ pieces) ≡ told_behind l s number line (told_from l (outcome_at l s line).1 (number + 1) pieces)
unfolding told_from
told_more l s number line [] h = absurd (omega (arith, h))
told_more l s number line (next ∷ more) h = refl

-- a line and its line feed
pub whole_line : (l : Limits) (s : Standing) (number : ℕ) (line more : List ℕ) → IsOneLine line
    → replayed_from l s number (line ++ 10 ∷ more) ≡ told_behind l s number line (replayed_from l (outcome_at l s line).1 (number + 1) more)
unfolding replayed_from
whole_line l s number line more clean =
    ap (told_from l s number) (slice_split_at (λ b. b == 10) line 10 more clean refl)
    ∙ told_more l s number line (lines_of more) (omega (arith, length-slice_split (λ b. b == 10) more))

-- a rest that no line feed ends
pub rest_alone : (l : Limits) (s : Standing) (number : ℕ) (rest : List ℕ) → IsOneLine rest
    → replayed_from l s number rest ≡ ends_text (text_end rest) s
unfolding replayed_from told_from
rest_alone l s number rest clean = ap (told_from l s number) (slice_split_none (λ b. b == 10) rest clean)

pub clean_none : IsOneLine []
clean_none = All-nil (λ (b : ℕ). (b == 10) ≡ false)

-- more bytes of a line
pub more_bytes : (l : Limits) (a b : Point) (bytes : List ℕ) → IsOneLine a.pending → IsOneLine bytes
    → b.at ≡ a.at → b.held ≡ a.held → b.number ≡ a.number → b.pending ≡ a.pending ++ bytes → GoesOn l bytes a b
more_bytes l a b bytes clean whole at held number pending = record {
  lines = [];
  text = [];
  parts = sym pending;
  written = subst (λ h. Appends a.held h []) (sym held) (Appends-nil a.held);
  told = λ more. ap (λ s. replayed_from l s a.number more) (sym at) ∙ ap (λ n. replayed_from l b.at n more) (sym number);
  clean = subst IsOneLine (sym pending) (All-append (λ (b : ℕ). (b == 10) ≡ false) a.pending bytes clean whole);
}

if_good : (b : Bool) (text : List ℕ) (more other : Told) → b ≡ true → text_behind text (cond b more other) ≡ text_behind text more
if_good true text more other e = refl
if_good false text more other e = absurd cc

-- the line is answered, and the next one begins
pub line_done : (l : Limits) (a b : Point) → IsOneLine a.pending → b.pending ≡ [] → b.number ≡ a.number + 1
    → goes_on (outcome_at l a.at a.pending).0 ≡ true → b.at ≡ (outcome_at l a.at a.pending).1
    → Appends a.held b.held (answer_line a.number (outcome_at l a.at a.pending).0)
    → GoesOn l (10 ∷ []) a b
line_done l a b clean empty next good state written =
    let line = a.pending ++ 10 ∷ [] in
    let text = answer_line a.number (outcome_at l a.at a.pending).0 in
    record {
      lines = line;
      text = text;
      parts = sym (ap (λ p. line ++ p) empty ∙ append-nil line);
      written = written;
      told = λ more.
          ap (replayed_from l a.at a.number) (append_assoc a.pending (10 ∷ []) more)
          ∙ whole_line l a.at a.number a.pending more clean
          ∙ if_good (goes_on (outcome_at l a.at a.pending).0) text _ _ good
          ∙ ap (λ s. text_behind text (replayed_from l s (a.number + 1) more)) (sym state)
          ∙ ap (λ n. text_behind text (replayed_from l b.at n more)) (sym next);
      clean = subst IsOneLine (sym empty) clean_none;
    }

-- what became of a line under another name of it
pub lined_of : (l : Limits) (number : ℕ) (line given : List ℕ) (s t : Standing) (held held_now : Option (List ℕ)) (T : Type 0)
    (r : Result T Stop) → given ≡ line
    → Lined {T = T} l number given s t held held_now r → Lined {T = T} l number line s t held held_now r
lined_of l number line given s t held held_now T r e h = subst (λ x. Lined {T = T} l number x s t held held_now r) e h

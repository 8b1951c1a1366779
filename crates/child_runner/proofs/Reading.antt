-- What was read of a child's output, byte by byte.
use Rattle.std.proofs.Common.{ℕ, ◌≡◌, ◌∙◌, ◌<◌, ◌≤◌, ◌==◌, ◌⊎◌, inl, inr, cond, true, false, List, [], ◌∷◌, ◌++◌, length, Option, None}
use Rattle.std.proofs.Common.{Some, refl, sym, ap, append_assoc, append-nil, arith, eqb-true}
use Rattle.std.specs.Prelude.{All, option_to_list}
use Rattle.std.specs.List.{cons_option, slice_split}
use Rattle.std.proofs.lemmas.Bool.{cases_lt}
use Rattle.std.proofs.lemmas.List.{length-take, take-append-le, take_all}
use Rattle.std.proofs.lemmas.List.Elements.{All-append, All-cons, All-nil}
use Rattle.std.proofs.lemmas.List.Splits.{length-slice_split, slice_split_at, slice_split_none}
use Rattle.child_link.specs.declared.lines.Reported.{Reported}
use Rattle.child_link.specs.Cutting.{kept, kept_with}
use Rattle.child_link.specs.Lines.{stated}
use Rattle.child_link.proofs.Kept.{kept_report}
use Rattle.child_runner.specs.Reports.{HasRead, reports, reports_in}

-- ## Lines

more_lines : (line : List ℕ) (pieces : List (List ℕ)) → 0 < length pieces
    → reports_in (line ∷ pieces) ≡ cons_option (stated (line ++ 10 ∷ [])) (reports_in pieces)
unfolding reports_in
more_lines line [] some = absurd (omega (arith, some))
more_lines line (next ∷ more) some = refl

abbrev IsOneLine : List ℕ → Type 0
IsOneLine line = All (λ (b : ℕ). (b == 10) ≡ false) line

whole_line : (line more : List ℕ) → IsOneLine line → reports (line ++ 10 ∷ more) ≡ cons_option (stated (line ++ 10 ∷ [])) (reports more)
unfolding reports
whole_line line more one =
    ap reports_in (slice_split_at (λ b. b == 10) line 10 more one refl)
    ∙ more_lines line (slice_split (λ b. b == 10) more) (omega (arith, length-slice_split (λ b. b == 10) more))

rest_alone : (rest : List ℕ) → IsOneLine rest → reports rest ≡ []
unfolding reports reports_in
rest_alone rest one = ap reports_in (slice_split_none (λ b. b == 10) rest one)

none_in_it : IsOneLine []
none_in_it = All-nil (λ (b : ℕ). (b == 10) ≡ false)

cons_as_append : {A : Type 0} (found : Option A) (more : List A) → cons_option found more ≡ option_to_list found ++ more
cons_as_append None more = refl
cons_as_append (Some x) more = refl

-- ## What is kept of a line

kept_cases : (rest : List ℕ) (byte : ℕ) → (4096 < length rest) ⊎ (length rest ≤ 4096)
    → kept (kept rest ++ byte ∷ []) ≡ kept (rest ++ byte ∷ [])
kept_cases rest byte (inr few) = ap (λ (front : List ℕ). kept (front ++ byte ∷ [])) (take_all 4096 rest few)
kept_cases rest byte (inl many) =
    let long = length-take 4096 rest in
    take-append-le 4096 (kept rest) (byte ∷ []) (omega (arith, many, long))
    ∙ take_all 4096 (kept rest) (omega (arith, many, long))
    ∙ sym (take-append-le 4096 rest (byte ∷ []) (omega (arith, many)))

kept_more : (rest : List ℕ) (byte : ℕ) → kept (kept rest ++ byte ∷ []) ≡ kept (rest ++ byte ∷ [])
kept_more rest byte = kept_cases rest byte (cases_lt 4096 (length rest))

pub kept_short : (line rest : List ℕ) → line ≡ kept rest → length line ≤ 4096
kept_short line rest is = let long = length-take 4096 rest in omega (arith, long, ap length is)

-- no more of it is kept than may be
pub goes_short : (line line' : List ℕ) (byte : ℕ) → (byte == 10) ≡ false → line' ≡ kept_with line byte → length line' ≤ 4096
goes_short line line' byte other is =
    kept_short line' (line ++ byte ∷ []) (is ∙ ap (λ b. cond b (line ++ byte ∷ []) (kept (line ++ byte ∷ []))) other)

pub ended_line : (line : List ℕ) (byte : ℕ) → (byte == 10) ≡ true → kept_with line byte ≡ line ++ 10 ∷ []
ended_line line byte is = ap (λ b. cond b (line ++ byte ∷ []) (kept (line ++ byte ∷ []))) is
    ∙ ap (λ (n : ℕ). line ++ n ∷ []) (eqb-true byte 10 is)

-- ## Byte by byte

pub has_none : HasRead [] [] []
has_none = record {
  lines = [];
  rest = [];
  parts = refl;
  told = λ more. refl;
  one_line = none_in_it;
  is_kept = refl;
}

-- one byte more of a line
pub one_byte : (read : List ℕ) (before : List Reported) (line line' : List ℕ) (byte : ℕ) → (byte == 10) ≡ false
    → line' ≡ kept_with line byte
    → HasRead read before line → HasRead (read ++ byte ∷ []) before line'
one_byte read before line line' byte other is has = record {
  lines = has.lines;
  rest = has.rest ++ byte ∷ [];
  parts = ap (λ (bs : List ℕ). bs ++ byte ∷ []) has.parts ∙ append_assoc has.lines has.rest (byte ∷ []);
  told = has.told;
  one_line = All-append (λ (b : ℕ). (b == 10) ≡ false) has.rest (byte ∷ []) has.one_line
      (All-cons (λ (b : ℕ). (b == 10) ≡ false) byte [] other none_in_it);
  is_kept = is ∙ (ap (λ b. cond b (line ++ byte ∷ []) (kept (line ++ byte ∷ []))) other
      ∙ (ap (λ (front : List ℕ). kept (front ++ byte ∷ [])) has.is_kept ∙ kept_more has.rest byte));
}

-- a line feed, behind which this follows
pub feed_told : (read : List ℕ) (before : List Reported) (line : List ℕ) (found : Option Reported) → found ≡ stated (line ++ 10 ∷ [])
    → HasRead read before line → (more : List ℕ)
    → reports (read ++ 10 ∷ more) ≡ (before ++ option_to_list found) ++ reports more
feed_told read before line found is has more =
    let same : found ≡ stated (has.rest ++ 10 ∷ []) = is ∙ (ap (λ (front : List ℕ). stated (front ++ 10 ∷ [])) has.is_kept
    ∙ kept_report has.rest) in
    ap (λ (bs : List ℕ). reports (bs ++ 10 ∷ more)) has.parts
    ∙ (ap reports (append_assoc has.lines has.rest (10 ∷ more))
    ∙ (has.told (has.rest ++ 10 ∷ more)
    ∙ (ap (λ (ss : List Reported). before ++ ss) (whole_line has.rest more has.one_line
    ∙ (ap (λ (o : Option Reported). cons_option o (reports more)) (sym same) ∙ cons_as_append found (reports more)))
    ∙ sym (append_assoc before (option_to_list found) (reports more)))))

pub line_ends : (read : List ℕ) (before : List Reported) (line : List ℕ) (found : Option Reported) → found ≡ stated (line ++ 10 ∷ [])
    → HasRead read before line
    → HasRead (read ++ 10 ∷ []) (before ++ option_to_list found) []
line_ends read before line found is has = record {
  lines = read ++ 10 ∷ [];
  rest = [];
  parts = sym (append-nil (read ++ 10 ∷ []));
  told = λ more. ap reports (append_assoc read (10 ∷ []) more) ∙ feed_told read before line found is has more;
  one_line = none_in_it;
  is_kept = refl;
}

-- ## All that was read

pub all_told : (read : List ℕ) (before : List Reported) (line : List ℕ) → HasRead read before line → before ≡ reports read
all_told read before line has =
    sym (ap reports has.parts ∙ (has.told has.rest ∙ (ap (λ (ss : List Reported). before ++ ss) (rest_alone has.rest has.one_line)
    ∙ append-nil before)))

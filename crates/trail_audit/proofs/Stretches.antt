-- Stretches of a text, one after another.
use Rattle.std.proofs.Common.{ℕ, ◌≡◌, ◌+◌, ◌<◌, ◌≤◌, ◌==◌, ◌^◌, Bool, true, false, List, [], ◌∷◌, ◌++◌, length, take, drop, take-add, Option, Some, None}
use Rattle.std.proofs.Common.{Result, Ok, Err, refl, sym, ap, ◌∙◌, subst, arith, append_assoc, append-nil, length-append}
use Rattle.std.specs.Prelude.{slice_index}
use Rattle.std.specs.List.{AllByRecursion}
use Rattle.std.proofs.lemmas.Grind.{flat_map-append}
use Rattle.std.proofs.lemmas.List.{take_more, drop_more, take-append-drop}
use Rattle.std.proofs.lemmas.List.Elements.{All-append, All-nil}
use Rattle.scm_lines.specs.Words.{◌>>=◌}
use Rattle.scm_replay.specs.Replay.{IsOneLine}
use Rattle.trail_text.specs.Audits.{At, next, reached_from}
use Rattle.trail_text.specs.Histories.{ended}
use Rattle.trail_text.proofs.Right.{reached_append}
use Rattle.trail_audit.specs.declared.stop.Stop.{Stop}
use Rattle.trail_audit.specs.declared.stop.Stop.TheVariants as stop
use Rattle.trail_audit.specs.Along.{GoesOn, GoesWrong, LinesFed, Point, StopsIn}

-- ## Lines

pub clean_none : IsOneLine []
clean_none = All-nil (λ (b : ℕ). (b == 10) ≡ false)

pub both_clean : (xs ys : List (List ℕ)) → AllByRecursion IsOneLine xs → AllByRecursion IsOneLine ys → AllByRecursion IsOneLine (xs ++ ys)
both_clean [] ys p q = q
both_clean (x ∷ xs) ys p q = (p.0, both_clean xs ys p.1 q)

pub both_ended : (xs ys : List (List ℕ)) → ended (xs ++ ys) ≡ ended xs ++ ended ys
both_ended xs ys = flat_map-append (λ line. line ++ 10 ∷ []) xs ys

-- lines, and those after them
pub leads_on : (xs ys : List (List ℕ)) (at mid : At) → reached_from at xs ≡ Some mid → reached_from at (xs ++ ys) ≡ reached_from mid ys
leads_on xs ys at mid led = reached_append xs ys at ∙ ap (λ o. o >>= λ now. reached_from now ys) led

-- ## Stretches

-- nothing yet
pub goes_nowhere : (a : Point) → IsOneLine a.pending → GoesOn [] a a
goes_nowhere a clean = record {
  lines = [];
  parts = append-nil a.pending;
  whole = tt;
  led = refl;
  count = omega arith;
  clean = clean;
}

-- more bytes of a line
pub more_bytes : (a b : Point) (bytes : List ℕ) → IsOneLine a.pending → IsOneLine bytes → b.at ≡ a.at → b.number ≡ a.number
    → b.pending ≡ a.pending ++ bytes → GoesOn bytes a b
more_bytes a b bytes clean whole at number pending = record {
  lines = [];
  parts = sym pending;
  whole = tt;
  led = ap (λ x. Some x) (sym at);
  count = omega (arith, number);
  clean = subst IsOneLine (sym pending) (All-append (λ (b : ℕ). (b == 10) ≡ false) a.pending bytes clean whole);
}

-- the line may come, and the next one begins
pub line_done : (a b : Point) → IsOneLine a.pending → b.pending ≡ [] → b.number ≡ a.number + 1 → next a.at a.pending ≡ Some b.at
    → GoesOn (10 ∷ []) a b
line_done a b clean empty number led =
    let line = a.pending ++ 10 ∷ [] in
    record {
      lines = a.pending ∷ [];
      parts = sym (append-nil line) ∙ ap (λ xs. xs ++ []) (sym (append-nil line)) ∙ ap (λ p. (line ++ []) ++ p) (sym empty);
      whole = (clean, tt);
      led = ap (λ r. r >>= λ now. Some now) led;
      count = number;
      clean = subst IsOneLine (sym empty) clean_none;
    }

-- two stretches
pub goes_further : (xs ys : List ℕ) (a m b : Point) → GoesOn xs a m → GoesOn ys m b → GoesOn (xs ++ ys) a b
goes_further xs ys a m b p q = record {
  lines = p.lines ++ q.lines;
  parts =
      sym (append_assoc a.pending xs ys) ∙ ap (λ z. z ++ ys) p.parts ∙ append_assoc (ended p.lines) m.pending ys
      ∙ ap (λ z. ended p.lines ++ z) q.parts
      ∙ sym (append_assoc (ended p.lines) (ended q.lines) b.pending) ∙ ap (λ z. z ++ b.pending) (sym (both_ended p.lines q.lines));
  whole = both_clean p.lines q.lines p.whole q.whole;
  led = leads_on p.lines q.lines a.at m.at p.led ∙ q.led;
  count = omega (arith, p.count, q.count, length-append p.lines q.lines);
  clean = q.clean;
}

-- ## Parts of a piece

-- a wrong line in a part of a piece
wrong_there : (piece xs ys zs : List ℕ) (a m : Point) (number : ℕ) → piece ≡ xs ++ (ys ++ zs) → GoesOn xs a m → GoesWrong ys m number
    → GoesWrong piece a number
wrong_there piece xs ys zs a m number e p q = record {
  before = xs ++ q.before;
  rest = q.rest ++ zs;
  point = q.point;
  parts =
      e ∙ ap (λ y. xs ++ (y ++ zs)) q.parts ∙ ap (λ y. xs ++ y) (append_assoc q.before (10 ∷ q.rest) zs)
      ∙ sym (append_assoc xs q.before (10 ∷ (q.rest ++ zs)));
  on = goes_further xs q.before a m q.point p q.on;
  place = q.place;
  wrong = q.wrong;
}

stops_there : (piece xs ys zs : List ℕ) (a m : Point) (why : Stop) → piece ≡ xs ++ (ys ++ zs) → GoesOn xs a m → StopsIn ys m why
    → StopsIn piece a why
stops_there piece xs ys zs a m (stop.Wrong number) e p q = wrong_there piece xs ys zs a m number e p q
stops_there piece xs ys zs a m stop.OutOfMemory e p q = tt

-- the line may not come
pub line_wrong : (a : Point) → IsOneLine a.pending → next a.at a.pending ≡ None → GoesWrong (10 ∷ []) a a.number
line_wrong a clean wrong = record {
  before = [];
  rest = [];
  point = a;
  parts = refl;
  on = goes_nowhere a clean;
  place = refl;
  wrong = wrong;
}

-- the bytes up to a line feed, and it
pub line_more : (bytes : List ℕ) (place : ℕ) (a m b : Point) → place < length bytes → slice_index bytes place ≡ 10
    → GoesOn (take place bytes) a m → GoesOn (10 ∷ []) m b → GoesOn (take (place + 1) bytes) a b
line_more bytes place a m b lt at p q =
    subst (λ xs. GoesOn xs a b) (ap (λ y. take place bytes ++ y ∷ []) (sym at) ∙ sym (take_more bytes place 0 lt))
    (goes_further (take place bytes) (10 ∷ []) a m b p q)

-- it stops at a line feed
pub line_lost : (bytes : List ℕ) (place : ℕ) (a m : Point) (why : Stop) → place < length bytes → slice_index bytes place ≡ 10
    → GoesOn (take place bytes) a m → StopsIn (10 ∷ []) m why → StopsIn bytes a why
line_lost bytes place a m why lt at p q =
    stops_there bytes (take place bytes) (10 ∷ []) (drop (place + 1) bytes) a m why
    (sym (take-append-drop place bytes) ∙ ap (λ r. take place bytes ++ r) (drop_more bytes place 0 lt
    ∙ ap (λ y. y ∷ drop (place + 1) bytes) at)) p q

-- so many bytes more of a piece
pub front_more : (piece : List ℕ) (taken more : ℕ) (a m b : Point) → GoesOn (take taken piece) a m
    → GoesOn (take more (drop taken piece)) m b → GoesOn (take (taken + more) piece) a b
front_more piece taken more a m b p q =
    subst (λ xs. GoesOn xs a b) (sym (take-add taken more piece)) (goes_further (take taken piece) (take more (drop taken piece)) a m b p q)

-- it stops in what is left of a piece
pub rest_stops : (piece : List ℕ) (taken : ℕ) (a m : Point) (why : Stop) → GoesOn (take taken piece) a m → StopsIn (drop taken piece) m why
    → StopsIn piece a why
rest_stops piece taken a m why p q =
    stops_there piece (take taken piece) (drop taken piece) [] a m why
    (sym (take-append-drop taken piece) ∙ ap (λ r. take taken piece ++ r) (sym (append-nil (drop taken piece)))) p q

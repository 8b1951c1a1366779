-- What is said of the bytes that were read.
use Rattle.std.proofs.Common.{ℕ, ◌≡◌, ◌+◌, ◌<◌, ◌≤◌, ◌==◌, ◌^◌, Bool, true, false, cond, List, [], ◌∷◌, ◌++◌, length, Option, Some, None, refl, sym, ap, ◌∙◌}
use Rattle.std.proofs.Common.{subst, arith, append_assoc, append-nil, eqb-true, length-append, IsTrue}
use Rattle.std.specs.Prelude.{is_some, if◌then◌else◌}
use Rattle.std.specs.List.{AllByRecursion}
use Rattle.std.specs.Io.KnownBytes.{Consumes, IsAtEnd}
use Rattle.std.proofs.KnownBytes.{Consumes-nil}
use Rattle.std.proofs.lemmas.List.Elements.{All-cons, All-head, All-tail}
use Rattle.feed_loop.specs.declared.fed.ReadEnd.TheVariants as fed
use Rattle.scm_model.specs.Entries.{Entry}
use Rattle.scm_replay.specs.Replay.{IsOneLine}
use Rattle.opening_lines.specs.declared.opening.Opening.{Opening}
use Rattle.trail_text.specs.Audits.{BeforeLimits, entries_at, next, reached}
use Rattle.trail_text.specs.Histories.{BeginsTold, IsFirstWrong, TellsLegal, ended, told, told_lines}
use Rattle.trail_text.proofs.OneLine.{lines_clean, one_split}
use Rattle.trail_text.proofs.Right.{first_wrong, one_line_more, right, unfinished, whole}
use Rattle.trail_audit.specs.declared.audited.Audited.{Audited}
use Rattle.trail_audit.specs.declared.audited.Audited.TheVariants as audited
use Rattle.trail_audit.specs.declared.stop.Stop.{Stop}
use Rattle.trail_audit.specs.declared.stop.Stop.TheVariants as stop
use Rattle.trail_audit.specs.Along.{GoesOn, GoesWrong, Point, StopsIn, audited_as}
use Rattle.trail_audit.specs.Audited.{HasLines, IsAudited, IsBegun, IsHistory, IsWrongAt, Says}
use Rattle.trail_audit.proofs.Stretches.{both_clean, both_ended, clean_none, goes_further, more_bytes}

-- where an audit begins
abbrev pub beginning : Point
beginning = record { at = BeforeLimits; number = 1; pending = [] }

-- no line was read
pub begins : (p : Point) → p.at ≡ BeforeLimits → p.number ≡ 1 → p.pending ≡ [] → GoesOn [] beginning p
begins p at number pending = more_bytes beginning p [] clean_none clean_none at number pending

-- ## Any bytes are some lines and a rest

record Parts (bytes : List ℕ) : Type 0 where
  lines : List (List ℕ)
  rest : List ℕ
  has : HasLines bytes lines rest

line_feed : (b : ℕ) (bytes : List ℕ) → b ≡ 10 → Parts bytes → Parts (b ∷ bytes)
line_feed b bytes is p = record {
  lines = [] ∷ p.lines;
  rest = p.rest;
  has = record {
    parts = ap (λ x. x ∷ bytes) is ∙ ap (λ xs. 10 ∷ xs) p.has.parts;
    whole = (clean_none, p.has.whole);
    unfinished = p.has.unfinished;
  };
}

-- one more byte of the first line
one_more : (b : ℕ) (bytes : List ℕ) (lines : List (List ℕ)) (rest : List ℕ) → (b == 10) ≡ false → HasLines bytes lines rest
    → Parts (b ∷ bytes)
one_more b bytes [] rest other has = record {
  lines = [];
  rest = b ∷ rest;
  has = record {
    parts = ap (λ xs. b ∷ xs) has.parts;
    whole = tt;
    unfinished = All-cons (λ (x : ℕ). (x == 10) ≡ false) b rest other has.unfinished;
  };
}
one_more b bytes (line ∷ lines) rest other has = record {
  lines = (b ∷ line) ∷ lines;
  rest = rest;
  has = record {
    parts = ap (λ xs. b ∷ xs) has.parts;
    whole = (All-cons (λ (x : ℕ). (x == 10) ≡ false) b line other has.whole.0, has.whole.1);
    unfinished = has.unfinished;
  };
}

parts_of : (bytes : List ℕ) → Parts bytes
parts_of [] = record {
  lines = [];
  rest = [];
  has = record { parts = refl; whole = tt; unfinished = clean_none };
}
parts_of (b ∷ bytes) =
    let p = parts_of bytes in
    elim (b == 10) as (λ x. (b == 10) ≡ x → Parts (b ∷ bytes)) [
      | true ↦ λ is. line_feed b bytes (eqb-true b 10 is) p
      | false ↦ λ other. one_more b bytes p.lines p.rest other p.has
    ] refl

-- ## What was read

some_is : {A : Type 0} (o : Option A) (x : A) → o ≡ Some x → IsTrue (is_some o)
some_is None x e = absurd cc
some_is (Some y) x e = refl

has_lines : (read : List ℕ) (m : Point) (on : GoesOn read beginning m) → HasLines read on.lines m.pending
has_lines read m on = record { parts = on.parts; whole = on.whole; unfinished = on.clean }

-- no line is wrong
is_begun : (read : List ℕ) (m : Point) → GoesOn read beginning m → IsBegun read
is_begun read m on = record {
  lines = on.lines;
  rest = m.pending;
  has = has_lines read m on;
  begun = (right on.lines).1 (some_is (reached on.lines) m.at on.led);
}

no_bytes : (bytes : List ℕ) → (length bytes == 0) ≡ true → bytes ≡ []
no_bytes [] e = refl
no_bytes (b ∷ bytes) e = absurd (omega (arith, eqb-true (length (b ∷ bytes)) 0 e))

-- the lines are all that was read
all_lines : (read : List ℕ) (m : Point) (on : GoesOn read beginning m) → (length m.pending == 0) ≡ true → read ≡ ended on.lines
all_lines read m on none = on.parts ∙ ap (λ xs. ended on.lines ++ xs) (no_bytes m.pending none) ∙ append-nil (ended on.lines)

is_history : (read : List ℕ) (m : Point) (entries : ℕ) → GoesOn read beginning m → (length m.pending == 0) ≡ true
    → entries_at m.at ≡ Some entries → IsHistory entries read
is_history read m entries on none count =
    let h = whole on.lines m.at entries on.led count in
    (h.0, h.1, h.2, subst (λ text. TellsLegal h.0 h.1 text) (sym (all_lines read m on none)) h.3)

-- a line more has to come
answer_lacks : (read : List ℕ) (m : Point) → GoesOn read beginning m → (length m.pending == 0) ≡ true → entries_at m.at ≡ None
    → (entries : ℕ) → IsHistory entries read → ⊥
answer_lacks read m on none count entries h =
    unfinished on.lines m.at on.led count h.0 h.1
    (subst (λ text. TellsLegal h.0 h.1 text) (all_lines read m on none) h.3)

-- a line feed has to come
feed_lacks : (read : List ℕ) (m : Point) → GoesOn read beginning m → (length m.pending == 0) ≡ false
    → (entries : ℕ) → IsHistory entries read → ⊥
feed_lacks read m on some entries h =
    let lines = told_lines h.0 h.1 in
    let split = one_split on.lines lines m.pending [] on.whole (lines_clean h.0 h.1) on.clean clean_none
    (sym on.parts ∙ h.3.is ∙ sym (append-nil (ended lines))) in
    let none = ap (λ xs. length xs == 0) split.1 in
    cc

-- ## The answer

module _ (left left_now : Option (List ℕ)) (read : List ℕ) (consumed : Consumes left left_now read) where
  says : (how : Audited) → length read ≤ 2 ^ 40 → Says how read left_now → IsAudited left left_now how
  says how most said = record { read = read; consumed = consumed; most = most; says = said }

  -- the source ended
  pub source_ends : (m : Point) (rest : Bool) (entries : Option ℕ) → GoesOn read beginning m → IsAtEnd left_now → length read < 2 ^ 40
      → (length m.pending == 0) ≡ rest → entries_at m.at ≡ entries
      → IsAudited left left_now (audited_as fed.Ended (if rest then entries else None))
  source_ends m true (Some entries) on out lt none count =
      says (audited.Legal entries) (omega (arith, lt)) (out, lt, is_history read m entries on none count)
  source_ends m true None on out lt none count =
      says audited.Truncated (omega (arith, lt)) (out, lt, is_begun read m on, answer_lacks read m on none count)
  source_ends m false entries on out lt some count =
      says audited.Truncated (omega (arith, lt)) (out, lt, is_begun read m on, feed_lacks read m on some)

  -- a read failed
  pub read_fails : (m : Point) (entries : Option ℕ) → GoesOn read beginning m → length read < 2 ^ 40
      → IsAudited left left_now (audited_as fed.ReadFault entries)
  read_fails m entries on lt = says audited.ReadFault (omega (arith, lt)) (lt, is_begun read m on)

  -- enough bytes were read
  pub worn : (m : Point) (entries : Option ℕ) → GoesOn read beginning m → length read ≡ 2 ^ 40
      → IsAudited left left_now (audited_as fed.Worn entries)
  worn m entries on e = says audited.Worn (omega (arith, e)) (e, is_begun read m on)

  -- there is no memory
  pub no_memory : length read ≤ 2 ^ 40 → IsAudited left left_now audited.OutOfMemory
  no_memory most = says audited.OutOfMemory most tt

-- ## A wrong line

module _ (all before rest : List ℕ) (m : Point) (on : GoesOn before beginning m) (parts : all ≡ before ++ 10 ∷ rest)
    (wrong : next m.at m.pending ≡ None) where
  after : Parts rest
  after = parts_of rest

  abbrev lines_there : List (List ℕ)
  lines_there = on.lines ++ m.pending ∷ after.lines

  there : all ≡ ended lines_there ++ after.rest
  there =
      parts ∙ ap (λ xs. xs ++ 10 ∷ rest) on.parts ∙ append_assoc (ended on.lines) m.pending (10 ∷ rest)
      ∙ ap (λ xs. ended on.lines ++ (m.pending ++ 10 ∷ xs)) after.has.parts
      ∙ ap (λ xs. ended on.lines ++ xs) (sym (append_assoc m.pending (10 ∷ []) (ended after.lines ++ after.rest))
      ∙ sym (append_assoc (m.pending ++ 10 ∷ []) (ended after.lines) after.rest))
      ∙ sym (append_assoc (ended on.lines) ((m.pending ++ 10 ∷ []) ++ ended after.lines) after.rest)
      ∙ ap (λ xs. xs ++ after.rest) (sym (both_ended on.lines (m.pending ∷ after.lines)))

  pub wrong_at : (number : ℕ) → number ≡ m.number → IsWrongAt number all
  wrong_at number place = record {
    lines = lines_there;
    rest = after.rest;
    has = record {
      parts = there;
      whole = both_clean on.lines (m.pending ∷ after.lines) on.whole (on.clean, after.has.whole);
      unfinished = after.has.unfinished;
    };
    first = subst (λ k. IsFirstWrong k lines_there) (omega (arith, place, on.count))
        (first_wrong on.lines after.lines m.pending (some_is (reached on.lines) m.at on.led)
        (one_line_more on.lines m.pending m.at on.led ∙ wrong));
  }

-- it stopped in the last piece that was read
pub stops_so : (left left_now : Option (List ℕ)) (read piece : List ℕ) (m : Point) (why : Stop) (entries : Option ℕ)
    → GoesOn read beginning m → Consumes left left_now (read ++ piece) → length read + length piece ≤ 2 ^ 40 → StopsIn piece m why
    → IsAudited left left_now (audited_as (fed.Stopped why) entries)
stops_so left left_now read piece m (stop.Wrong number) entries on consumed most t =
    says left left_now (read ++ piece) consumed (audited.NotLegal number) (omega (arith, most, length-append read piece))
    (wrong_at (read ++ piece) (read ++ t.before) t.rest t.point (goes_further read t.before beginning m t.point on t.on)
    (ap (λ xs. read ++ xs) t.parts ∙ sym (append_assoc read t.before (10 ∷ t.rest))) t.wrong number t.place)
stops_so left left_now read piece m stop.OutOfMemory entries on consumed most t =
    no_memory left left_now (read ++ piece) consumed (omega (arith, most, length-append read piece))

-- there was no memory to begin
pub nothing_read : (left : Option (List ℕ)) → IsAudited left left audited.OutOfMemory
nothing_read left = no_memory left left [] (Consumes-nil left) (omega arith)

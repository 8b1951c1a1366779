-- Lines begin the text of a legal history exactly if they lead somewhere, and are a whole text if one may end there.
use Rattle.std.proofs.Common.{ℕ, ◌≡◌, ◌+◌, List, [], ◌∷◌, ◌++◌, length, Option, Some, None, refl, sym, ap, ◌∙◌, subst, arith, append-nil}
use Rattle.std.proofs.Common.{append_assoc, IsTrue}
use Rattle.std.specs.Prelude.{◌↔◌, is_some}
use Rattle.std.specs.List.{AllByRecursion}
use Rattle.scm_model.specs.Entries.{Entry}
use Rattle.scm_rules.specs.Histories.{Legal}
use Rattle.scm_lines.specs.Entries.{HasLine}
use Rattle.scm_lines.specs.Words.{◌>>=◌}
use Rattle.scm_lines.proofs.Again.{read_again}
use Rattle.scm_replay.specs.Replay.{IsOneLine}
use Rattle.opening_lines.specs.declared.opening.Opening.{Opening}
use Rattle.trail_text.specs.Histories.{BeginsTold, IsFirstWrong, IsSaid, IsStart, TellsLegal, ended, first_of, told, told_lines}
use Rattle.trail_text.specs.Audits.{At, BeforeLimits, entries_at, entries_told, next, reached, reached_from}
use Rattle.trail_text.proofs.Following.{Completes, Follows, ends_here, leads_on}
use Rattle.trail_text.proofs.Leading.{Fine, completion, led_back, whole_here}
use Rattle.trail_text.proofs.Legality.{goes_legal, legal_goes}
use Rattle.trail_text.proofs.OneLine.{front_clean, lines_clean, nothing_clean, one_split}
use Rattle.trail_text.proofs.Reading.{bind_some, none_some}

-- ## Lines after lines

through : {A B C : Type 0} (o : Option A) (f : A → Option C) (g : A → Option B) (h : B → Option C)
    → ((x : A) → f x ≡ (g x >>= h)) → (o >>= f) ≡ (o >>= g >>= h)
through None f g h same = refl
through (Some x) f g h same = same x

pub reached_append : (front rest : List (List ℕ)) (at : At)
    → reached_from at (front ++ rest) ≡ (reached_from at front >>= λ now. reached_from now rest)
reached_append [] rest at = refl
reached_append (line ∷ front) rest at =
    through (next at line) (λ now. reached_from now (front ++ rest)) (λ now. reached_from now front) (λ now. reached_from now rest)
    (λ now. reached_append front rest now)

is_there : {A B : Type 0} (o : Option A) (f : A → Option B) → IsTrue (is_some (o >>= f)) → IsTrue (is_some o)
is_there None f h = absurd cc
is_there (Some x) f h = refl

pub front_leads : (front rest : List (List ℕ)) → IsTrue (is_some (reached (front ++ rest))) → IsTrue (is_some (reached front))
front_leads front rest h =
    is_there (reached front) (λ now. reached_from now rest)
    (subst (λ o. IsTrue (is_some o)) (reached_append front rest BeforeLimits) h)

-- what one line more leads to
pub one_line_more : (lines : List (List ℕ)) (line : List ℕ) (at : At) → reached lines ≡ Some at
    → reached (lines ++ line ∷ []) ≡ next at line
one_line_more lines line at led =
    reached_append lines (line ∷ []) BeforeLimits ∙ ap (λ o. o >>= λ now. reached_from now (line ∷ [])) led ∙ same (next at line)
  where
    same : (o : Option At) → (o >>= λ now. Some now) ≡ o
    same None = refl
    same (Some now) = refl

-- ## Beginnings

-- what a history's lines complete
begun : (o : Opening) (h : List Entry) (lines : List (List ℕ)) → IsStart o → Legal o.limits (first_of o) h → AllByRecursion IsSaid h
    → told_lines o h ≡ lines → Follows BeforeLimits (length h) lines
begun o h lines start legal are_said parts = (
  o,
  record {
    start = start;
    history = h;
    count = refl;
    goes = legal_goes o.limits (first_of o) h legal;
    are_said = are_said;
    parts = parts;
  },
)

some_is : {A : Type 0} (o : Option A) (x : A) → o ≡ Some x → IsTrue (is_some o)
some_is None x e = absurd cc
some_is (Some y) x e = refl

some_of : {A : Type 0} (o : Option A) → IsTrue (is_some o) → (x : A) × (o ≡ Some x)
some_of None h = absurd cc
some_of (Some x) h = (x, refl)

-- what is so where lines lead
pub fine_there : (lines : List (List ℕ)) (at : At) → reached lines ≡ Some at → Fine at
fine_there lines at led = (led_back lines BeforeLimits at tt led).0

-- lines that lead somewhere begin some text
some_text : (lines : List (List ℕ)) (at : At) → reached lines ≡ Some at → BeginsTold lines
some_text lines at led =
    let back = led_back lines BeforeLimits at tt led in
    let more = completion at back.0 in
    let h = back.1 more.0 more.1 more.2 in
    record {
      from = h.0;
      history = h.1.history;
      rest = more.1;
      start = h.1.start;
      legal = goes_legal h.0.limits (first_of h.0) h.1.history (omega arith) h.1.goes;
      are_said = h.1.are_said;
      parts = h.1.parts;
    }

-- lines begin the text of a legal history exactly if they lead somewhere
pub right : (lines : List (List ℕ)) → BeginsTold lines ↔ IsTrue (is_some (reached lines))
right lines = (
  λ told. let led = leads_on lines told.rest BeforeLimits (length told.history)
      (begun told.from told.history (lines ++ told.rest) told.start told.legal told.are_said told.parts) in
      some_is (reached lines) led.0 led.1,
  λ led. let at = some_of (reached lines) led in some_text lines at.0 at.1,
)

none_is : {A : Type 0} (o : Option A) → o ≡ None → IsTrue (is_some o) → ⊥
none_is None none h = cc
none_is (Some x) none h = cc

-- the first line that may not come is the first wrong one, whatever comes after it
pub first_wrong : (front rest : List (List ℕ)) (line : List ℕ) → IsTrue (is_some (reached front)) → reached (front ++ line ∷ []) ≡ None
    → IsFirstWrong (length front + 1) (front ++ line ∷ rest)
first_wrong front rest line leads none = record {
  front = front;
  line = line;
  rest = rest;
  place = refl;
  parts = refl;
  begun = (right front).1 leads;
  wrong = λ told. none_is (reached (front ++ line ∷ [])) none ((right (front ++ line ∷ [])).0 told);
}

-- ## Whole texts

-- lines that lead where a text may end tell a legal history with as many entries as are told there
pub whole : (lines : List (List ℕ)) (at : At) (n : ℕ) → reached lines ≡ Some at → entries_at at ≡ Some n
    → (o : Opening) × (h : List Entry) × (length h ≡ n) × TellsLegal o h (ended lines)
whole lines at n led count =
    let back = led_back lines BeforeLimits at tt led in
    let h = back.1 n [] (whole_here at n back.0 count) in (
      h.0,
      h.1.history,
      h.1.count,
      record {
        start = h.1.start;
        legal = goes_legal h.0.limits (first_of h.0) h.1.history (omega arith) h.1.goes;
        are_said = h.1.are_said;
        is = ap ended (sym (h.1.parts ∙ append-nil lines));
      },
    )

-- a text that tells a history has its lines, and nothing after the last of them
told_apart : (lines : List (List ℕ)) (rest : List ℕ) (o : Opening) (h : List Entry) → AllByRecursion IsOneLine lines → IsOneLine rest
    → TellsLegal o h (ended lines ++ rest) → (lines ≡ told_lines o h) × (rest ≡ [])
told_apart lines rest o h clean unbroken tells =
    one_split lines (told_lines o h) rest [] clean (lines_clean o h) unbroken nothing_clean (tells.is ∙ sym (append-nil (told o h)))

-- it has as many entries as are told in its lines
pub counted : (lines : List (List ℕ)) (rest : List ℕ) (o : Opening) (h : List Entry) → AllByRecursion IsOneLine lines → IsOneLine rest
    → TellsLegal o h (ended lines ++ rest) → (rest ≡ []) × (entries_told lines ≡ Some (length h))
counted lines rest o h clean unbroken tells =
    let apart = told_apart lines rest o h clean unbroken tells in
    let led = leads_on lines [] BeforeLimits (length h)
    (begun o h (lines ++ []) tells.start tells.legal tells.are_said (sym apart.0 ∙ sym (append-nil lines))) in
    (apart.1, ap (λ r. r >>= entries_at) led.1 ∙ ends_here led.0 (length h) led.2)

-- none of its lines is wrong
pub none_wrong : (lines : List (List ℕ)) (rest : List ℕ) (o : Opening) (h : List Entry) (k : ℕ) → AllByRecursion IsOneLine lines
    → IsOneLine rest → TellsLegal o h (ended lines ++ rest) → IsFirstWrong k lines → ⊥
none_wrong lines rest o h k clean unbroken tells first =
    let apart = told_apart lines rest o h clean unbroken tells in
    first.wrong (record {
      from = o;
      history = h;
      rest = first.rest;
      start = tells.start;
      legal = tells.legal;
      are_said = tells.are_said;
      parts = sym apart.0 ∙ first.parts ∙ sym (append_assoc first.front (first.line ∷ []) first.rest);
    })

-- no line feed stands in lines that lead somewhere
pub reached_clean : (lines : List (List ℕ)) (at : At) → reached lines ≡ Some at → AllByRecursion IsOneLine lines
reached_clean lines at led =
    let b = some_text lines at led in
    front_clean lines b.rest (subst (AllByRecursion IsOneLine) b.parts (lines_clean b.from b.history))

-- lines that lead where no text may end tell no history
pub unfinished : (lines : List (List ℕ)) (at : At) → reached lines ≡ Some at → entries_at at ≡ None
    → (o : Opening) (h : List Entry) → TellsLegal o h (ended lines) → ⊥
unfinished lines at led none o h tells =
    let whole = subst (TellsLegal o h) (sym (append-nil (ended lines))) tells in
    let told = counted lines [] o h (reached_clean lines at led) nothing_clean whole in
    none_some (entries_told lines) (length h) (ap (λ r. r >>= entries_at) led ∙ none) told.1

-- lines by the number of entries that are told in them
pub whole_told : (lines : List (List ℕ)) (n : ℕ) → entries_told lines ≡ Some n
    → (o : Opening) × (h : List Entry) × (length h ≡ n) × TellsLegal o h (ended lines)
whole_told lines n count = let a = bind_some (reached lines) entries_at n count in whole lines a.0 n a.1 a.2

pub untold : (lines : List (List ℕ)) (o : Opening) (h : List Entry) → IsTrue (is_some (reached lines)) → entries_told lines ≡ None
    → TellsLegal o h (ended lines) → ⊥
untold lines o h leads none tells =
    let at = some_of (reached lines) leads in
    unfinished lines at.0 at.1 (sym (ap (λ r. r >>= entries_at) at.1) ∙ none) o h tells

-- ## What is written

all_said : (h : List Entry) → AllByRecursion HasLine h → AllByRecursion IsSaid h
all_said [] all = tt
all_said (e ∷ h) all = (read_again e all.0, all_said h all.1)

-- the text of a legal history tells it, if its lines can be read
pub exported : (o : Opening) (h : List Entry) → IsStart o → Legal o.limits (first_of o) h → AllByRecursion HasLine h
    → TellsLegal o h (told o h)
exported o h start legal lines = record { start = start; legal = legal; are_said = all_said h lines; is = refl }

-- and its lines are counted as its entries
pub exported_count : (o : Opening) (h : List Entry) → IsStart o → Legal o.limits (first_of o) h → AllByRecursion HasLine h
    → entries_told (told_lines o h) ≡ Some (length h)
exported_count o h start legal lines =
    let whole = subst (TellsLegal o h) (sym (append-nil (told o h))) (exported o h start legal lines) in
    (counted (told_lines o h) [] o h (lines_clean o h) nothing_clean whole).1

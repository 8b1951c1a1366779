-- Reports and their lines.
use Rattle.std.proofs.Common.{inl, inr, ⊎_elim, arith, ℕ, suc, ◌≡◌, ◌+◌, ◌-◌, ◌*◌, ◌^◌, ◌%◌, ◌<◌, ◌≤◌, ◌==◌, ◌&&◌, ◌⊎◌, Bool, true, false}
use Rattle.std.proofs.Common.{cond}
use Rattle.std.proofs.Common.{List, [], ◌∷◌, ◌++◌, length, map, take, drop, Option, None, Some, refl, sym, ap, ◌∙◌, subst, append_assoc}
use Rattle.std.proofs.Common.{true≢false}
use Rattle.std.specs.Prelude.{nat_lt, is_none, bytes_eq, codes, decimal, option_and_then, option_map, unwrap_or, slice_get, slice_index_or}
use Rattle.std.specs.Option.{option_or}
use Rattle.std.specs.List.{All, join_with_byte}
use Rattle.std.specs.Str.Parse.{digits_value}
use Rattle.std.proofs.lemmas.Bool.{ltb-true, lt-ltb, ne_eqb, eqb-true, eq-eqb}
use Rattle.std.proofs.lemmas.Fmt.{decimal_by_steps, length-decimal-le}
use Rattle.std.proofs.lemmas.List.{length-append}
use Rattle.std.proofs.lemmas.List.Elements.{All-head, All-tail, All-nil, All-cons, All-append, All-push, All-weaker, All-from_recursion}
use Rattle.std.proofs.lemmas.List.Elements.{recursion_from_All}
use Rattle.std.proofs.lemmas.List.Splits.{join_with_byte-slice_split}
use Rattle.std.proofs.lemmas.Slice.Eq.{bytes_eq-Decides}
use Rattle.std.proofs.Math.Seq.{take-suc, take-length, take-append_seam, get_or-append_seam}
use Rattle.scm_model.specs.declared.flat.Status.{Status}
use Rattle.decimal_words.specs.Numbers.{decimal_number, if_below, number_below}
use Rattle.decimal_words.proofs.Numbers.{number_is}
use Rattle.child_link.specs.Words.{words_in, nth_word, word_code, word_number}
use Rattle.child_link.specs.declared.lines.Reported.{Reported}
use Rattle.scm_model.specs.Statuses.{status_numbers}
use Rattle.child_link.specs.Lines.{IsLineOf, IsReport, front_of, line_text, naming_fields, naming_in, numbers_in, report_in}
use Rattle.child_link.specs.Lines.{numbers_text, reported_of, stated, status_of_words}
use Rattle.child_link.proofs.Splits.{IsOneWord, none_of, same_some, none_some, split_joined}

-- ## Options

pub if_some : {A : Type 0} (b : Bool) (x y : A) → cond b (Some x) None ≡ Some y → (b ≡ true) × (x ≡ y)
if_some true x y e = (refl, same_some x y e)
if_some false x y e = absurd (none_some None y refl e)

pub if_then : {A : Type 0} (b : Bool) (o : Option A) (y : A) → cond b o None ≡ Some y → (b ≡ true) × (o ≡ Some y)
if_then true o y e = (refl, e)
if_then false o y e = absurd (none_some None y refl e)

pub and_then_some : {A B : Type 0} (f : A → Option B) (o : Option A) (y : B) → option_and_then f o ≡ Some y → (x : A) × (o ≡ Some x)
    × (f x ≡ Some y)
and_then_some f None y e = absurd (none_some None y refl e)
and_then_some f (Some x) y e = (x, refl, e)

map_some : {A B : Type 0} (f : A → B) (o : Option A) (y : B) → option_map f o ≡ Some y → (x : A) × (o ≡ Some x) × (f x ≡ y)
map_some f None y e = absurd (none_some None y refl e)
map_some f (Some x) y e = (x, refl, same_some (f x) y e)

both_left : (b c : Bool) → (b && c) ≡ true → b ≡ true
both_left true c e = refl
both_left false c e = absurd (true≢false (sym e))

both_right : (b c : Bool) → (b && c) ≡ true → c ≡ true
both_right true c e = e
both_right false c e = absurd (true≢false (sym e))

-- ## Numbers

-- a word is the decimal form of the number that it is read as
decimal_text : (text : List ℕ) (n : ℕ) → decimal_number text ≡ Some n → (text ≡ decimal n) × (n < 2 ^ 64)
unfolding decimal_number
decimal_text text n e =
    let value = digits_value 10 text in
    let read = if_some (nat_lt value (2 ^ 64) && bytes_eq text (decimal value)) value n e in
    let low = ltb-true value (2 ^ 64) (both_left (nat_lt value (2 ^ 64)) (bytes_eq text (decimal value)) read.0) in
    let form = (bytes_eq-Decides text (decimal value)).0 (both_right (nat_lt value (2 ^ 64)) (bytes_eq text (decimal value)) read.0) in
    (form ∙ ap decimal read.1, subst (λ m. m < 2 ^ 64) read.1 low)

number_text : (limit : ℕ) (text : List ℕ) (n : ℕ) → number_below limit text ≡ Some n → (text ≡ decimal n) × (n < limit)
unfolding number_below
number_text limit text n e =
    let at = and_then_some (if_below limit) (decimal_number text) n e in
    let low = if_some (nat_lt at.0 limit) at.0 n at.2 in
    ((decimal_text text at.0 at.1).0 ∙ ap decimal low.1, subst (λ m. m < limit) low.1 (ltb-true at.0 limit low.0))

-- and a decimal form is read as its number
pub number_again : (n : ℕ) → n < 2 ^ 32 → number_below (2 ^ 32) (decimal n) ≡ Some n
unfolding number_below
number_again n small =
    ap (option_and_then (if_below (2 ^ 32))) (number_is (decimal n) n (omega (arith, small)) refl)
    ∙ ap (λ b. cond b (Some n) None) (lt-ltb n (2 ^ 32) small)

pub code_read : (words : List (List ℕ)) (n : ℕ) → word_code (slice_get words 0) ≡ Some n → (words ≡ decimal n ∷ drop 1 words) × (n < 2 ^ 32)
code_read [] n e = absurd (none_some None n refl e)
code_read (word ∷ words) n e = let h = number_text (2 ^ 32) word n e in (ap (λ text. text ∷ words) h.0, h.1)

pub number_read : (words : List (List ℕ)) (n : ℕ) → word_number (slice_get words 0) ≡ Some n → (words ≡ decimal n ∷ drop 1 words)
    × (n < 2 ^ 64)
number_read [] n e = absurd (none_some None n refl e)
number_read (word ∷ words) n e = let h = decimal_text word n e in (ap (λ text. text ∷ words) h.0, h.1)

pub words_end : (words : List (List ℕ)) → is_none (slice_get words 0) ≡ true → words ≡ []
words_end [] e = refl
words_end (word ∷ words) e = absurd (true≢false (sym e))

-- the bytes of a decimal form
digits_high : (n : ℕ) → n < 2 ^ 64 → All (λ b. 48 ≤ b) (decimal n)
digits_high n small = decimal_by_steps (λ n ds. All (λ b. 48 ≤ b) ds)
    (λ n low. All-cons (λ b. 48 ≤ b) (48 + n) [] (omega arith) (All-nil (λ b. 48 ≤ b)))
    (λ n ds high all. All-push (λ b. 48 ≤ b) ds (48 + n % 10) all (omega arith))
    n small

-- ## Words

abbrev AreSmall : List ℕ → Type 0
AreSmall numbers = All (λ n. n < 2 ^ 32) numbers

abbrev AreWide : List ℕ → Type 0
AreWide numbers = All (λ n. n < 2 ^ 64) numbers

are_wide : (numbers : List ℕ) → AreSmall numbers → AreWide numbers
are_wide numbers small = All-weaker (λ n. n < 2 ^ 32) (λ n. n < 2 ^ 64) (λ n low. omega (arith, low)) numbers small

pub words_clean : (numbers : List ℕ) → AreWide numbers → All IsOneWord (map decimal numbers)
words_clean [] wide = All-nil IsOneWord
words_clean (n ∷ numbers) wide =
    All-cons IsOneWord (decimal n) (map decimal numbers)
    (All-weaker (λ b. 48 ≤ b) (λ b. (b == 32) ≡ false) (λ b high. ne_eqb b 32 (λ e. omega (arith, high, e))) (decimal n)
    (digits_high n (All-head (λ n. n < 2 ^ 64) n numbers wide)))
    (words_clean numbers (All-tail (λ n. n < 2 ^ 64) n numbers wide))

-- no carriage return is among these bytes
abbrev HasNoReturn : List ℕ → Type 0
HasNoReturn bytes = All (λ b. (b == 13) ≡ false) bytes

joined_clean : (word : List ℕ) (numbers : List ℕ) → HasNoReturn word → AreWide numbers
    → HasNoReturn (join_with_byte 32 (word ∷ map decimal numbers))
joined_clean word [] clean wide = clean
joined_clean word (n ∷ numbers) clean wide =
    All-append (λ b. (b == 13) ≡ false) word (32 ∷ join_with_byte 32 (decimal n ∷ map decimal numbers)) clean
    (All-cons (λ b. (b == 13) ≡ false) 32 (join_with_byte 32 (decimal n ∷ map decimal numbers)) refl
    (joined_clean (decimal n) numbers
    (All-weaker (λ b. 48 ≤ b) (λ b. (b == 13) ≡ false) (λ b high. ne_eqb b 13 (λ e. omega (arith, high, e))) (decimal n)
    (digits_high n (All-head (λ n. n < 2 ^ 64) n numbers wide)))
    (All-tail (λ n. n < 2 ^ 64) n numbers wide)))

pub joined_short : (word : List ℕ) (numbers : List ℕ) → AreWide numbers
    → length (join_with_byte 32 (word ∷ map decimal numbers)) ≤ length word + 21 * length numbers
joined_short word [] wide = omega arith
joined_short word (n ∷ numbers) wide =
    let rest = joined_short (decimal n) numbers (All-tail (λ n. n < 2 ^ 64) n numbers wide) in
    let low = All-head (λ n. n < 2 ^ 64) n numbers wide in
    let digits = length-decimal-le 20 n (omega arith) (omega (arith, low)) low in
    omega (arith, rest, digits, length-append word (32 ∷ join_with_byte 32 (decimal n ∷ map decimal numbers)))

-- ## Statuses

-- words that are read as a status are its numbers
abbrev AreOf : List (List ℕ) → Status → Type 0
AreOf words status = (words ≡ map decimal (status_numbers status)) × AreSmall (status_numbers status)

status_read : (words : List (List ℕ)) (status : Status) → status_of_words words ≡ Some status → AreOf words status
unfolding status_of_words
status_read words status e =
    let a = and_then_some _ (word_code (nth_word words 0)) status e in
    let b = and_then_some _ (word_code (nth_word words 1)) status a.2 in
    let c = and_then_some _ (word_code (nth_word words 2)) status b.2 in
    let d = and_then_some _ (word_code (nth_word words 3)) status c.2 in
    let f = and_then_some _ (word_code (nth_word words 4)) status d.2 in
    let g = and_then_some _ (word_code (nth_word words 5)) status f.2 in
    let h = and_then_some _ (word_code (nth_word words 6)) status g.2 in
    let made : Status = record { kind = a.0; state = b.0; accepted = c.0; win32 = d.0; specific = f.0; checkpoint = g.0; hint = h.0 } in
    let end = if_some (is_none (nth_word words 7)) made status h.2 in
    let A = code_read words a.0 a.1 in
    let B = code_read (drop 1 words) b.0 b.1 in
    let C = code_read (drop 1 (drop 1 words)) c.0 c.1 in
    let D = code_read (drop 1 (drop 1 (drop 1 words))) d.0 d.1 in
    let F = code_read (drop 1 (drop 1 (drop 1 (drop 1 words)))) f.0 f.1 in
    let G = code_read (drop 1 (drop 1 (drop 1 (drop 1 (drop 1 words))))) g.0 g.1 in
    let H = code_read (drop 1 (drop 1 (drop 1 (drop 1 (drop 1 (drop 1 words)))))) h.0 h.1 in
    let L = words_end (drop 1 (drop 1 (drop 1 (drop 1 (drop 1 (drop 1 (drop 1 words))))))) end.0 in
    subst (AreOf words) end.1 (
      A.0 ∙ ap (λ ws. decimal a.0 ∷ ws) (B.0 ∙ ap (λ ws. decimal b.0 ∷ ws) (C.0
          ∙ ap (λ ws. decimal c.0 ∷ ws) (D.0 ∙ ap (λ ws. decimal d.0 ∷ ws)
          (F.0 ∙ ap (λ ws. decimal f.0 ∷ ws) (G.0 ∙ ap (λ ws. decimal g.0 ∷ ws) (H.0 ∙ ap (λ ws. decimal h.0 ∷ ws) L)))))),
      All-from_recursion (λ n. n < 2 ^ 32) (status_numbers made) (A.1, (B.1, (C.1, (D.1, (F.1, (G.1, (H.1, tt))))))),
    )

-- and the numbers of a status are read as it
status_again : (status : Status) → AreSmall (status_numbers status) → status_of_words (map decimal (status_numbers status)) ≡ Some status
unfolding status_of_words
status_again status small =
    let h = recursion_from_All (λ n. n < 2 ^ 32) (status_numbers status) small in
    rw (
      number_again status.kind h.0,
      number_again status.state h.1.0,
      number_again status.accepted h.1.1.0,
      number_again status.win32 h.1.1.1.0,
      number_again status.specific h.1.1.1.1.0,
      number_again status.checkpoint h.1.1.1.1.1.0,
      number_again status.hint h.1.1.1.1.1.1.0,
    ) refl

-- eight words are the numbers of no status
eight_is_none : (words : List (List ℕ)) → length words ≡ 8 → status_of_words words ≡ None
eight_is_none words eight = none_of (status_of_words words) (λ status e. omega (arith, eight, ap length (status_read words status e).0))

-- ## Reports

-- the numbers of a report's line
abbrev HasNumbers : Reported → List ℕ → Type 0
HasNumbers report numbers = (numbers ≡ naming_fields report) ⊎ ((report.service ≡ 0) × (numbers ≡ status_numbers report.status))

-- words that are read as a report are its numbers
record AreRead (words : List (List ℕ)) (report : Reported) : Type 0 where
  numbers : List ℕ
  has : HasNumbers report numbers
  words_are : words ≡ map decimal numbers
  service : report.service < 2 ^ 64
  small : AreSmall (status_numbers report.status)

naming_read : (words : List (List ℕ)) (report : Reported) → naming_in words ≡ Some report → AreRead words report
unfolding naming_in
naming_read words report e =
    let a = and_then_some _ (word_number (nth_word words 0)) report e in
    let b = and_then_some _ (status_of_words (drop 1 words)) report a.2 in
    let named = number_read words a.0 a.1 in
    let status = status_read (drop 1 words) b.0 b.1 in
    let made : Reported = reported_of a.0 b.0 in
    subst (AreRead words) (same_some made report b.2)
    (record {
      numbers = naming_fields made;
      has = inl refl;
      words_are = named.0 ∙ ap (λ ws. decimal a.0 ∷ ws) status.0;
      service = named.1;
      small = status.1;
    })

either_read : (words : List (List ℕ)) (report : Reported) (first : Option Status) → status_of_words words ≡ first
    → option_or (option_map (reported_of 0) first) (naming_in words) ≡ Some report
    → AreRead words report
either_read words report None is e = naming_read words report e
either_read words report (Some status) is e =
    let h = status_read words status is in
    let made : Reported = reported_of 0 status in
    subst (AreRead words) (same_some made report e)
    (record {
      numbers = status_numbers status;
      has = inr (refl, refl);
      words_are = h.0;
      service = omega arith;
      small = h.1;
    })

numbers_read : (words : List (List ℕ)) (report : Reported) → numbers_in words ≡ Some report → AreRead words report
unfolding numbers_in
numbers_read words report e = either_read words report (status_of_words words) refl e

-- and the numbers of a report are read as it
naming_again : (report : Reported) → report.service < 2 ^ 64 → AreSmall (status_numbers report.status)
    → naming_in (map decimal (naming_fields report)) ≡ Some report
unfolding naming_in
naming_again report service small =
    rw (number_is (decimal report.service) report.service service refl, status_again report.status small) refl

numbers_again : (report : Reported) (numbers : List ℕ) → HasNumbers report numbers → report.service < 2 ^ 64
    → AreSmall (status_numbers report.status)
    → numbers_in (map decimal numbers) ≡ Some report
unfolding numbers_in
numbers_again report numbers (inl named) service small =
    ap (λ ns. option_or (option_map (reported_of 0) (status_of_words (map decimal ns))) (naming_in (map decimal ns))) named
    ∙ rw (eight_is_none (map decimal (naming_fields report)) refl) (naming_again report service small)
numbers_again report numbers (inr bare) service small =
    ap (λ ns. option_or (option_map (reported_of 0) (status_of_words (map decimal ns))) (naming_in (map decimal ns))) bare.1
    ∙ rw (status_again report.status small) (ap (λ n. Some (reported_of n report.status)) (sym bare.0))

-- ## Texts

-- a text that is read as a report is its text
record IsRead (text : List ℕ) (report : Reported) : Type 0 where
  numbers : List ℕ
  has : HasNumbers report numbers
  text_is : text ≡ numbers_text numbers
  service : report.service < 2 ^ 64
  small : AreSmall (status_numbers report.status)

words_read : (words : List (List ℕ)) (report : Reported) → report_in words ≡ Some report → IsRead (join_with_byte 32 words) report
unfolding report_in
words_read [] report e = absurd (none_some None report refl e)
words_read (name ∷ words) report e =
    let told = if_then (bytes_eq name (codes "STATUS")) (numbers_in words) report e in
    let read = numbers_read words report told.1 in
    record {
      numbers = read.numbers;
      has = read.has;
      text_is = ap (λ n. join_with_byte 32 (n ∷ words)) ((bytes_eq-Decides name (codes "STATUS")).0 told.0)
          ∙ ap (λ ws. join_with_byte 32 (codes "STATUS" ∷ ws)) read.words_are;
      service = read.service;
      small = read.small;
    }

text_read : (text : List ℕ) (report : Reported) → report_in (words_in (Some text)) ≡ Some report → IsRead text report
text_read text report e =
    subst (λ t. IsRead t report) (join_with_byte-slice_split 32 text) (words_read (words_in (Some text)) report e)

-- the numbers of a report's line are few, and of 64 bits
wide_in : (report : Reported) (numbers : List ℕ) → HasNumbers report numbers → report.service < 2 ^ 64
    → AreSmall (status_numbers report.status) → AreWide numbers × (length numbers ≤ 8)
wide_in report numbers (inl named) service small =
    let wide = are_wide (status_numbers report.status) small in
    subst (λ ns. AreWide ns × (length ns ≤ 8)) (sym named)
    (All-cons (λ n. n < 2 ^ 64) report.service (status_numbers report.status) service wide, omega arith)
wide_in report numbers (inr bare) service small =
    subst (λ ns. AreWide ns × (length ns ≤ 8)) (sym bare.1) (are_wide (status_numbers report.status) small, omega arith)

text_again : (report : Reported) (numbers : List ℕ) → HasNumbers report numbers → report.service < 2 ^ 64
    → AreSmall (status_numbers report.status)
    → report_in (words_in (Some (numbers_text numbers))) ≡ Some report
unfolding report_in
text_again report numbers has service small =
    ap report_in (split_joined (codes "STATUS") (map decimal numbers)
    (All-from_recursion (λ b. (b == 32) ≡ false) (codes "STATUS") (refl, (refl, (refl, (refl, (refl, (refl, tt)))))))
    (words_clean numbers (wide_in report numbers has service small).0))
    ∙ numbers_again report numbers has service small

-- ## Lines

pub front_is : (byte : ℕ) (bytes front : List ℕ) → 0 < byte → front_of byte bytes ≡ Some front → bytes ≡ front ++ byte ∷ []
front_is byte [] front some e = absurd (omega (arith, some, eqb-true 0 byte (if_some (0 == byte) [] front e).0))
front_is byte (b ∷ bytes) front some e =
    let all = b ∷ bytes in
    let last = length all - 1 in
    let h = if_some (slice_index_or all last 0 == byte) (take last all) front e in
    let size : length all ≡ suc last = omega arith in
    sym (take-length all) ∙ ap (λ n. take n all) size ∙ take-suc all last 0 (omega arith)
    ∙ ap (λ x. take last all ++ x ∷ []) (eqb-true (slice_index_or all last 0) byte h.0) ∙ ap (λ xs. xs ++ byte ∷ []) h.1

pub front_on : (byte : ℕ) (front : List ℕ) → front_of byte (front ++ byte ∷ []) ≡ Some front
front_on byte front =
    let size : length (front ++ byte ∷ []) - 1 ≡ length front = omega (arith, length-append front (byte ∷ [])) in
    rw (size, eq-eqb (slice_index_or (front ++ byte ∷ []) (length front) 0) byte (get_or-append_seam front byte [] 0))
    (ap Some (take-append_seam front (byte ∷ [])))

no_return : (text : List ℕ) → HasNoReturn text → front_of 13 text ≡ None
no_return [] clean = refl
no_return (b ∷ text) clean =
    let last = length (b ∷ text) - 1 in
    ap (λ same. cond same (Some (take last (b ∷ text))) None) (clean last 0 (omega arith))

text_in : (line front text : List ℕ) (before : Option (List ℕ)) → line ≡ front ++ 10 ∷ [] → front_of 13 front ≡ before
    → unwrap_or before front ≡ text
    → IsLineOf text line
text_in line front text None ends found is = inl (ends ∙ ap (λ t. t ++ 10 ∷ []) is)
text_in line front text (Some cut) ends found is =
    inr (ends ∙ ap (λ t. t ++ 10 ∷ []) (front_is 13 front cut (omega arith) found ∙ ap (λ t. t ++ 13 ∷ []) is)
    ∙ append_assoc text (13 ∷ []) (10 ∷ []))

line_read : (line text : List ℕ) → line_text line ≡ Some text → IsLineOf text line
unfolding line_text
line_read line text e =
    let h = map_some (λ front. unwrap_or (front_of 13 front) front) (front_of 10 line) text e in
    text_in line h.0 text (front_of 13 h.0) (front_is 10 line h.0 (omega arith) h.1) refl h.2

line_again : (line text : List ℕ) → HasNoReturn text → IsLineOf text line → line_text line ≡ Some text
unfolding line_text
line_again line text clean (inl ends) = rw (ends, front_on 10 text, no_return text clean) refl
line_again line text clean (inr ends) = rw (
  ends,
  sym (append_assoc text (13 ∷ []) (10 ∷ [])),
  front_on 10 (text ++ 13 ∷ []),
  front_on 13 text,
) refl

line_short : (line text : List ℕ) → length text ≤ 174 → IsLineOf text line → length line ≤ 4096
line_short line text short (inl ends) = omega (arith, short, ap length ends ∙ length-append text (10 ∷ []))
line_short line text short (inr ends) = omega (arith, short, ap length ends ∙ length-append text (13 ∷ 10 ∷ []))

stated_again : (line : List ℕ) (report : Reported) (numbers : List ℕ) → HasNumbers report numbers → report.service < 2 ^ 64
    → AreSmall (status_numbers report.status) → IsLineOf (numbers_text numbers) line
    → stated line ≡ Some report
unfolding stated
stated_again line report numbers has service small ends =
    let clean = joined_clean (codes "STATUS") numbers
    (All-from_recursion (λ b. (b == 13) ≡ false) (codes "STATUS") (refl, (refl, (refl, (refl, (refl, (refl, tt)))))))
    (wide_in report numbers has service small).0 in
    ap (option_and_then (λ text. report_in (words_in (Some text)))) (line_again line (numbers_text numbers) clean ends)
    ∙ text_again report numbers has service small

-- a line is read as the report that it is
pub read_back : (line : List ℕ) (report : Reported) → IsReport line report → stated line ≡ Some report
read_back line report h =
    ⊎_elim (λ (named : IsLineOf (numbers_text (naming_fields report)) line).
    stated_again line report (naming_fields report) (inl refl) h.service h.small named)
    (λ (bare : (report.service ≡ 0) × IsLineOf (numbers_text (status_numbers report.status)) line).
    stated_again line report (status_numbers report.status) (inr (bare.0, refl)) h.service h.small bare.1) h.text

text_of : (line : List ℕ) (report : Reported) (numbers : List ℕ) → HasNumbers report numbers → IsLineOf (numbers_text numbers) line
    → IsLineOf (numbers_text (naming_fields report)) line
    ⊎ ((report.service ≡ 0) × IsLineOf (numbers_text (status_numbers report.status)) line)
text_of line report numbers (inl named) ends = inl (subst (λ ns. IsLineOf (numbers_text ns) line) named ends)
text_of line report numbers (inr bare) ends = inr (bare.0, subst (λ ns. IsLineOf (numbers_text ns) line) bare.1 ends)

-- and it is the report that it is read as
pub read_only : (line : List ℕ) (report : Reported) → stated line ≡ Some report → IsReport line report
unfolding stated
read_only line report e =
    let at = and_then_some (λ text. report_in (words_in (Some text))) (line_text line) report e in
    let h = text_read at.0 report at.2 in
    let ends = line_read line at.0 at.1 in
    let wide = wide_in report h.numbers h.has h.service h.small in
    record {
      service = h.service;
      small = h.small;
      text = text_of line report h.numbers h.has (subst (λ t. IsLineOf t line) h.text_is ends);
      short = line_short line at.0 (omega (arith, ap length h.text_is, joined_short (codes "STATUS") h.numbers wide.0, wide.1)) ends;
    }

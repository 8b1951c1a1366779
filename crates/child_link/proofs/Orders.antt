-- Orders and their lines.
use Rattle.std.proofs.Common.{inl, inr, arith, ℕ, ◌≡◌, ◌≢◌, ◌^◌, ◌<◌, ◌==◌, ◌&&◌, Bool, true, false, cond, List, [], ◌∷◌, ◌++◌, length}
use Rattle.std.proofs.Common.{map, drop, None, Some, refl, sym, ap, ◌∙◌, subst, true≢false}
use Rattle.std.specs.Prelude.{not, is_none, bytes_eq, codes, decimal, option_and_then, slice_get}
use Rattle.std.specs.List.{All, join_with_byte, slice_split}
use Rattle.std.proofs.lemmas.Bool.{eq-eqb, eqb-true}
use Rattle.std.proofs.lemmas.List.Elements.{All-head, All-nil, All-cons, All-from_recursion}
use Rattle.std.proofs.lemmas.List.Splits.{join_with_byte-slice_split, length-slice_split, slice_split_at}
use Rattle.std.proofs.lemmas.Slice.Eq.{bytes_eq-Decides}
use Rattle.scm_model.specs.declared.flat.Order.{Order}
use Rattle.decimal_words.proofs.Numbers.{number_is}
use Rattle.child_link.specs.Words.{words_in, nth_word, word_code, word_number}
use Rattle.child_link.specs.Lines.{IsOrderLine, front_of, order_in, order_of, ordered, printed_unit, shared_control_in, shared_control_text}
use Rattle.child_link.specs.Lines.{shared_text, start_in, start_text}
use Rattle.child_link.proofs.Splits.{IsOneWord, none_some, same_some, split_joined}
use Rattle.child_link.proofs.Reports.{and_then_some, code_read, front_is, front_on, if_some, if_then, number_again, number_read}
use Rattle.child_link.proofs.Reports.{words_clean}
use Rattle.child_link.proofs.Reports.{words_end}

-- ## Words

-- the word that stands first
first_word : (words : List (List ℕ)) (word : List ℕ) → slice_get words 0 ≡ Some word → words ≡ word ∷ drop 1 words
first_word [] word e = absurd (none_some None word refl e)
first_word (first ∷ words) word e = ap (λ w. w ∷ words) (same_some first word e)

some_word : (words : List (List ℕ)) → 0 < length words → (word : List ℕ) × (slice_get words 0 ≡ Some word)
some_word [] few = absurd (omega (arith, few))
some_word (word ∷ words) few = (word, refl)

-- a text has a first word
has_word : (text : List ℕ) → (word : List ℕ) × (slice_get (slice_split (λ b. b == 32) text) 0 ≡ Some word)
has_word text = some_word (slice_split (λ b. b == 32) text) (omega (arith, length-slice_split (λ b. b == 32) text))

one_wide : (n : ℕ) → n < 2 ^ 64 → All (λ n. n < 2 ^ 64) (n ∷ [])
one_wide n wide = All-cons (λ n. n < 2 ^ 64) n [] wide (All-nil (λ n. n < 2 ^ 64))

decimal_clean : (n : ℕ) → n < 2 ^ 64 → IsOneWord (decimal n)
decimal_clean n wide = All-head IsOneWord (decimal n) [] (words_clean (n ∷ []) (one_wide n wide))

-- ## What is read is such a line

-- the words of a start after the first
record AreStart (words : List (List ℕ)) (order : Order) : Type 0 where
  word : List ℕ
  more : List (List ℕ)
  words_are : words ≡ decimal order.service ∷ word ∷ more
  service : order.service < 2 ^ 64
  code : order.code ≡ 0

start_words : (words : List (List ℕ)) (order : Order) → start_in words ≡ Some order → AreStart words order
unfolding start_in
start_words words order e =
    let a = and_then_some _ (word_number (nth_word words 0)) order e in
    let b = and_then_some _ (nth_word words 1) order a.2 in
    let named = number_read words a.0 a.1 in
    let made : Order = order_of a.0 0 in
    subst (AreStart words) (same_some made order b.2)
    (record {
      word = b.0;
      more = drop 1 (drop 1 words);
      words_are = named.0 ∙ ap (λ ws. decimal a.0 ∷ ws) (first_word (drop 1 words) b.0 b.1);
      service = named.1;
      code = refl;
    })

-- the words of a control after the first
record AreControl (words : List (List ℕ)) (order : Order) : Type 0 where
  words_are : words ≡ decimal order.service ∷ decimal order.code ∷ []
  service : order.service < 2 ^ 64
  code : order.code < 2 ^ 32
  other : order.code ≢ 0

not_zero : (code : ℕ) (none : Bool) → (not (code == 0) && none) ≡ true → (code ≢ 0) × (none ≡ true)
not_zero code none e =
    elim (code == 0) as (λ b. code == 0 ≡ b → (not b && none) ≡ true → (code ≢ 0) × (none ≡ true)) [
      | true ↦ λ is both. absurd (true≢false (sym both))
      | false ↦ λ is both. (λ zero. true≢false (sym (eq-eqb code 0 zero) ∙ is), both)
    ] refl e

control_words : (words : List (List ℕ)) (order : Order) → shared_control_in words ≡ Some order → AreControl words order
unfolding shared_control_in
control_words words order e =
    let a = and_then_some _ (word_number (nth_word words 0)) order e in
    let b = and_then_some _ (word_code (nth_word words 1)) order a.2 in
    let made : Order = order_of a.0 b.0 in
    let end = if_some (not (b.0 == 0) && is_none (nth_word words 2)) made order b.2 in
    let both = not_zero b.0 (is_none (nth_word words 2)) end.0 in
    let named = number_read words a.0 a.1 in
    let code = code_read (drop 1 words) b.0 b.1 in
    subst (AreControl words) end.1
    (record {
      words_are = named.0 ∙ ap (λ ws. decimal a.0 ∷ ws) (code.0 ∙ ap (λ ws. decimal b.0 ∷ ws) (words_end (drop 1 (drop 1 words)) both.1));
      service = named.1;
      code = code.1;
      other = both.0;
    })

-- the line of such words
start_line : (words : List (List ℕ)) (name text line : List ℕ) (order : Order) → AreStart words order
    → text ≡ join_with_byte 32 (name ∷ words)
    → name ≡ codes "START" → line ≡ text ++ 10 ∷ [] → IsOrderLine line order
start_line words name text line order h joined is ends =
    let rest = join_with_byte 32 (h.word ∷ h.more) in
    let whole : text ≡ codes "START" ++ 32 ∷ (decimal order.service ++ 32 ∷ rest) =
    joined ∙ ap (λ n. join_with_byte 32 (n ∷ words)) is ∙ ap (λ ws. join_with_byte 32 (codes "START" ∷ ws)) h.words_are in
    record {
      service = h.service;
      code = rw h.code (omega arith);
      text = inr (
        h.code,
        rest,
        ends ∙ ap (λ t. t ++ 10 ∷ []) whole,
      );
    }

control_line : (words : List (List ℕ)) (name text line : List ℕ) (order : Order) → AreControl words order
    → text ≡ join_with_byte 32 (name ∷ words) → name ≡ codes "CONTROL" → line ≡ text ++ 10 ∷ []
    → IsOrderLine line order
control_line words name text line order h joined is ends =
    let whole : text ≡ codes "CONTROL" ++ 32 ∷ (decimal order.service ++ 32 ∷ decimal order.code) =
    joined ∙ ap (λ n. join_with_byte 32 (n ∷ words)) is ∙ ap (λ ws. join_with_byte 32 (codes "CONTROL" ∷ ws)) h.words_are in
    record {
      service = h.service;
      code = h.code;
      text = inl (
        h.other,
        ends ∙ ap (λ t. t ++ 10 ∷ []) whole,
      );
    }

words_line : (words : List (List ℕ)) (text line : List ℕ) (order : Order) → order_in words ≡ Some order → text ≡ join_with_byte 32 words
    → line ≡ text ++ 10 ∷ [] → IsOrderLine line order
unfolding order_in
words_line [] text line order e joined ends = absurd (none_some None order refl e)
words_line (name ∷ words) text line order e joined ends =
    elim (bytes_eq name (codes "START")) as (λ b. bytes_eq name (codes "START") ≡ b
    → cond b (start_in words) (cond (bytes_eq name (codes "CONTROL")) (shared_control_in words) None) ≡ Some order
    → IsOrderLine line order) [
      | true ↦ λ is read. start_line words name text line order (start_words words order read) joined
          ((bytes_eq-Decides name (codes "START")).0 is) ends
      | false ↦ λ is read.
          let told = if_then (bytes_eq name (codes "CONTROL")) (shared_control_in words) order read in
          control_line words name text line order (control_words words order told.1) joined
          ((bytes_eq-Decides name (codes "CONTROL")).0 told.0) ends
    ] refl e

pub order_only : (line : List ℕ) (order : Order) → ordered line ≡ Some order → IsOrderLine line order
unfolding ordered
order_only line order e =
    let at = and_then_some (λ text. order_in (words_in (Some text))) (front_of 10 line) order e in
    words_line (words_in (Some at.0)) at.0 line order at.2 (sym (join_with_byte-slice_split 32 at.0))
    (front_is 10 line at.0 (omega arith) at.1)

-- ## And such a line is read

-- a start is read as it
start_again : (service : ℕ) (name : List ℕ) → service < 2 ^ 64 → ordered (start_text service name) ≡ Some (order_of service 0)
unfolding ordered order_in start_in
start_again service name wide =
    let rest = map printed_unit name in
    let text = codes "START" ++ 32 ∷ (decimal service ++ 32 ∷ rest) in
    let line : start_text service name ≡ text ++ 10 ∷ [] = refl in
    let clean : IsOneWord (codes "START") = All-from_recursion (λ b. (b == 32) ≡ false) (codes "START")
    (refl, (refl, (refl, (refl, (refl, tt))))) in
    let words : slice_split (λ b. b == 32) text ≡ codes "START" ∷ decimal service ∷ slice_split (λ b. b == 32) rest =
    slice_split_at (λ b. b == 32) (codes "START") 32 (decimal service ++ 32 ∷ rest) clean refl
    ∙ ap (λ ws. codes "START" ∷ ws) (slice_split_at (λ b. b == 32) (decimal service) 32 rest (decimal_clean service wide) refl) in
    let word = has_word rest in
    ap ordered line ∙ ap (option_and_then (λ text. order_in (words_in (Some text)))) (front_on 10 text) ∙ ap order_in words
    ∙ rw (number_is (decimal service) service wide refl, word.1) refl

-- and so is a control
control_again : (order : Order) → order.service < 2 ^ 64 → order.code < 2 ^ 32 → (order.code == 0) ≡ false
    → ordered (shared_control_text order) ≡ Some order
unfolding ordered order_in shared_control_in
control_again order wide small other =
    let text = join_with_byte 32 (codes "CONTROL" ∷ decimal order.service ∷ decimal order.code ∷ []) in
    let line : shared_control_text order ≡ text ++ 10 ∷ [] = refl in
    let clean : IsOneWord (codes "CONTROL") =
    All-from_recursion (λ b. (b == 32) ≡ false) (codes "CONTROL") (refl, (refl, (refl, (refl, (refl, (refl, (refl, tt))))))) in
    let words = split_joined (codes "CONTROL") (decimal order.service ∷ decimal order.code ∷ []) clean
    (words_clean (order.service ∷ order.code ∷ [])
    (All-cons (λ n. n < 2 ^ 64) order.service (order.code ∷ []) wide (one_wide order.code (omega (arith, small))))) in
    ap ordered line ∙ ap (option_and_then (λ text. order_in (words_in (Some text)))) (front_on 10 text) ∙ ap order_in words
    ∙ rw (number_is (decimal order.service) order.service wide refl, number_again order.code small, other) refl

pub order_back : (order : Order) (name : List ℕ) → order.service < 2 ^ 64 → order.code < 2 ^ 32
    → ordered (shared_text order name) ≡ Some order
order_back order name wide small =
    elim (order.code == 0) as (λ b. order.code == 0 ≡ b
    → ordered (cond b (start_text order.service name) (shared_control_text order)) ≡ Some order) [
      | true ↦ λ is. start_again order.service name wide ∙ ap (λ n. Some (order_of order.service n)) (sym (eqb-true order.code 0 is))
      | false ↦ λ is. control_again order wide small is
    ] refl

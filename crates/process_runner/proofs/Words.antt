-- A command line that is read unit by unit gives its words.
use Rattle.std.proofs.Common.{arith, ℕ, ◌≡◌, ◌≤◌, ◌==◌, ◌&&◌, not, Bool, true, false, cond, List, [], ◌∷◌, ◌++◌, map, filter, length, drop}
use Rattle.std.proofs.Common.{refl, sym, ap, ap₂, ◌∙◌, append-nil, true≢false}
use Rattle.std.specs.List.{slice_split, onto_first}
use Rattle.std.proofs.lemmas.Bool.{eqb-true, ne_eqb}
use Rattle.std.proofs.lemmas.List.{map-append}
use Rattle.std.proofs.lemmas.List.Elements.{filter-append}
use Rattle.std.proofs.Math.ListN.{drop_of_length-le}
use Rattle.process_runner.specs.declared.commands.Splitting.{Splitting}
use Rattle.process_runner.specs.Commands.{Placed, placed_from, is_run, unquoted, command_words, utf8_of}
use Rattle.process_runner.specs.Splitting.{begun_word, words_after, all_words}

-- the parts of a line between its outer spaces
abbrev parts_from : Bool → List ℕ → List (List Placed)
parts_from quoted line = slice_split (λ placed. placed.is_outer_space) (placed_from quoted line)

-- the words that parts are
abbrev read : List (List Placed) → List (List ℕ)
read parts = map unquoted (filter is_run parts)

-- a run that goes on in the first of some parts
abbrev onto : List Placed → List (List Placed) → List (List Placed)
onto [] parts = parts
onto (placed ∷ run) parts = onto_first placed (onto run parts)

onto_run : (run : List Placed) (parts : List (List Placed)) → onto run ([] ∷ parts) ≡ run ∷ parts
onto_run [] parts = refl
onto_run (placed ∷ run) parts = ap (onto_first placed) (onto_run run parts)

onto_more : (run : List Placed) (placed : Placed) (parts : List (List Placed))
    → onto (run ++ placed ∷ []) parts ≡ onto run (onto_first placed parts)
onto_more [] placed parts = refl
onto_more (first ∷ run) placed parts = ap (onto_first first) (onto_more run placed parts)

keep_if : (b : Bool) (run : List Placed) (parts : List (List Placed)) →
    map unquoted (cond b (run ∷ parts) parts) ≡ begun_word b (unquoted run) ++ map unquoted parts
keep_if true run parts = refl
keep_if false run parts = refl

read_run : (run : List Placed) (parts : List (List Placed)) → read (onto run ([] ∷ parts)) ≡ begun_word (is_run run) (unquoted run)
    ++ read parts
read_run run parts = ap read (onto_run run parts) ∙ keep_if (is_run run) run (filter is_run parts)

run_more : (run : List Placed) (placed : Placed) → is_run (run ++ placed ∷ []) ≡ true
run_more [] placed = refl
run_more (first ∷ run) placed = ap not (ne_eqb (length (first ∷ run ++ placed ∷ [])) 0 (λ e. omega (arith, e)))

unquoted_more : (run : List Placed) (placed : Placed) → unquoted (run ++ placed ∷ []) ≡ unquoted run ++ unquoted (placed ∷ [])
unquoted_more run placed =
    ap (filter (λ u. not (u == 34))) (map-append (λ p. p.unit) run (placed ∷ []))
    ∙ filter-append (λ u. not (u == 34)) (map (λ p. p.unit) run) (placed.unit ∷ [])

left_is : (b c : Bool) → (b && c) ≡ true → b ≡ true
left_is true c e = refl
left_is false c e = e

closed : (b quoted : Bool) → (b && not quoted) ≡ true → quoted ≡ false
closed true true e = sym e
closed true false e = refl
closed false quoted e = absurd (true≢false (sym e))

-- what is to be read of the rest of a line, behind any run
abbrev Reads : List ℕ → Type 0
Reads line = (run : List Placed) (quoted : Bool) → words_after (is_run run) (unquoted run) quoted line ≡ read
    (onto run (parts_from quoted line))

-- one unit more of a run
goes_on : (line : List ℕ) → Reads line → (run : List Placed) (quoted : Bool) (placed : Placed) (word : List ℕ)
    → unquoted (placed ∷ []) ≡ word
    → words_after true (unquoted run ++ word) quoted line ≡ read (onto run (onto_first placed (parts_from quoted line)))
goes_on line reads run quoted placed word is =
    ap₂ (λ begun units. words_after begun units quoted line) (sym (run_more run placed))
    (sym (unquoted_more run placed ∙ ap (λ units. unquoted run ++ units) is))
    ∙ reads (run ++ placed ∷ []) quoted
    ∙ ap read (onto_more run placed (parts_from quoted line))

by_unit : (line : List ℕ) → Reads line → (run : List Placed) (quoted : Bool) (u : ℕ) (quote outer : Bool) → (u == 34) ≡ quote
    → (u == 32 && not quoted) ≡ outer
    → cond quote (words_after true (unquoted run) (not quoted) line)
    (cond outer (begun_word (is_run run) (unquoted run) ++ words_after false [] false line)
    (words_after true (unquoted run ++ u ∷ []) quoted line))
    ≡ read (onto run (slice_split (λ placed. placed.is_outer_space) (record { unit = u; is_outer_space = outer } ∷ placed_from
    (cond quote (not quoted) quoted) line)))
by_unit line reads run quoted u true true at is = absurd (omega (
  arith,
  eqb-true u 34 at,
  eqb-true u 32 (left_is (u == 32) (not quoted) is),
))
by_unit line reads run quoted u true false at is =
    ap (λ units. words_after true units (not quoted) line) (sym (append-nil (unquoted run)))
    ∙ goes_on line reads run (not quoted) (record { unit = u; is_outer_space = false }) [] (ap (λ same. cond (not same) (u ∷ []) []) at)
by_unit line reads run quoted u false true at is =
    ap (λ words. begun_word (is_run run) (unquoted run) ++ words)
    (reads [] false ∙ ap (λ q. read (parts_from q line)) (sym (closed (u == 32) quoted is)))
    ∙ sym (read_run run (parts_from quoted line))
by_unit line reads run quoted u false false at is =
    goes_on line reads run quoted (record { unit = u; is_outer_space = false }) (u ∷ []) (ap (λ same. cond (not same) (u ∷ []) []) at)

reads_all : (line : List ℕ) → Reads line
unfolding words_after
reads_all [] run quoted = sym (read_run run [] ∙ append-nil (begun_word (is_run run) (unquoted run)))
reads_all (u ∷ line) run quoted = by_unit line (reads_all line) run quoted u (u == 34) (u == 32 && not quoted) refl refl

-- the words of a line
pub words_are : (line : List ℕ) → words_after false [] false line ≡ command_words line
words_are line = reads_all line [] false

-- at the end of a line no word is to come but the one that has begun
pub all_read : (s : Splitting) (line : List ℕ) (place : ℕ) → length line ≤ place
    → all_words s (drop place line) ≡ map utf8_of (words_after false [] false line)
    → s.done ++ map utf8_of (begun_word s.begun s.word.items) ≡ map utf8_of (command_words line)
unfolding words_after
all_read s line place end told = ap (all_words s) (sym (drop_of_length-le line end)) ∙ told ∙ ap (map utf8_of) (words_are line)

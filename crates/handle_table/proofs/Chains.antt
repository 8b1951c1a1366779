-- Handles come to chains and leave them.
use Rattle.std.proofs.Common.{ℕ, ◌≡◌, ◌≢◌, ◌⊎◌, ◌<◌, ◌≤◌, ◌+◌, ◌++◌, ◌∙◌, zero, suc, Bool, true, false, not, cond, ◌&&◌, List, [], ◌∷◌}
use Rattle.std.proofs.Common.{Option, Some, None, is_some, filter, find, length, refl, sym, ap, subst, eqb, arith, inl, inr}
use Rattle.std.specs.Prelude.{option_and_then, option_map, is_none, IfSome, IfNone, IsSome, IsOk, OnOk, Result, Ok, Err}
use Rattle.std.specs.List.{AllByRecursion, IsDistinct, list_any}
use Rattle.std.specs.Map.{keys_of, lookup}
use Rattle.std.proofs.lemmas.Bool.{eq-eqb, ne_eqb, eqb-true, cases_Bool, cases_eq}
use Rattle.std.proofs.lemmas.List.{length-map}
use Rattle.std.proofs.lemmas.Map.Made.{keys_of-map_values, lookup-map_values}
use Rattle.scm_model.specs.declared.flat.HandleRow.{HandleRow}
use Rattle.handle_table.specs.declared.rows.Node.{Node}
use Rattle.handle_table.specs.Handled.{is_handle, matches}
use Rattle.handle_table.specs.Numbered.{AreNumbered, ordered}
use Rattle.handle_table.specs.Chained.{AreChained, AreLinked, IsChain, holder_of, is_newest, is_number, newer_of, node_at, older_of}
use Rattle.handle_table.specs.Chained.{rows_of, with_newer, with_older}
use Rattle.handle_table.proofs.Counting.{any_below, any_of, held_row}
use Rattle.handle_table.proofs.Sorting.{as_many, found_is, rising_is, pushed_is, pushed_numbered, removed_is, removed_numbered}

clash : {a : ℕ} → None ≡ Some a → ⊥
clash e = absurd (cc e)

same_some : {a b : ℕ} → Some a ≡ Some b → a ≡ b
same_some e = cc e

is_it : (o : Option ℕ) (n : ℕ) → (o ≡ Some n) ⊎ (o ≡ Some n → ⊥)
is_it None n = inr clash
is_it (Some m) n = elim (cases_eq m n) [ inl same ↦ inl (ap Some same) | inr other ↦ inr (λ e. other (same_some e)) ]

is_there : (o : Option ℕ) → (o ≡ None) ⊎ (o ≡ None → ⊥)
is_there None = inl refl
is_there (Some n) = inr (λ e. clash (sym e))

-- ## A number comes

-- number k of caller c comes after the newest
record Grows (caller older newer newest caller' older' newer' newest' : ℕ → Option ℕ) (k c : ℕ) : Type 0 where
  caller_k : caller' k ≡ Some c
  caller_n : (n : ℕ) → n ≢ k → caller' n ≡ caller n
  older_k : older' k ≡ newest c
  older_n : (n : ℕ) → n ≢ k → older' n ≡ older n
  newer_k : newer' k ≡ None
  newer_last : (n : ℕ) → n ≢ k → newest c ≡ Some n → newer' n ≡ Some k
  newer_n : (n : ℕ) → n ≢ k → (newest c ≡ Some n → ⊥) → newer' n ≡ newer n
  newest_c : newest' c ≡ Some k
  newest_x : (x : ℕ) → x ≢ c → newest' x ≡ newest x

module _ (caller older newer newest caller' older' newer' newest' : ℕ → Option ℕ) (k c : ℕ) (was : IsChain caller older newer newest)
    (owned : (n m : ℕ) → older m ≡ Some n → (x : ℕ) × (caller m ≡ Some x)) (below : (n x : ℕ) → caller n ≡ Some x → n < k)
    (g : Grows caller older newer newest caller' older' newer' newest' k c) where
  newer_one : (n m : ℕ) → older m ≡ Some n → m < k
  newer_one n m e = let by = owned n m e in below m by.0 by.1

  last_one : (n : ℕ) → newest c ≡ Some n → n ≢ k
  last_one n e same = omega (arith, same, below n c (was.first c n e).0)

  grown_back : (n m : ℕ) → newer' n ≡ Some m → older' m ≡ Some n
  grown_back n m e =
      elim (cases_eq n k) [
        | inl same ↦ absurd (clash (sym g.newer_k ∙ ap newer' (sym same) ∙ e))
        | inr other ↦ elim (is_it (newest c) n) [
          | inl last ↦ ap older' (sym (same_some (sym (g.newer_last n other last) ∙ e))) ∙ g.older_k ∙ last
          | inr isnt ↦
              let was_older = was.back n m (sym (g.newer_n n other isnt) ∙ e) in
              g.older_n m (λ same. omega (arith, same, newer_one n m was_older)) ∙ was_older
        ]
      ]

  grown_forth : (n m : ℕ) → older' m ≡ Some n → newer' n ≡ Some m
  grown_forth n m e =
      elim (cases_eq m k) [
        | inl same ↦
            let last : newest c ≡ Some n = sym g.older_k ∙ ap older' (sym same) ∙ e in
            g.newer_last n (last_one n last) last ∙ ap Some (sym same)
        | inr other ↦
            let was_older = sym (g.older_n m other) ∙ e in
            let next = was.forth n m was_older in
            g.newer_n n (λ same. omega (arith, same, newer_one n m was_older, was.order n m was_older))
            (λ last. clash (sym (was.first c n last).1 ∙ next)) ∙ next
      ]

  grown_order : (n m : ℕ) → older' m ≡ Some n → n < m
  grown_order n m e =
      elim (cases_eq m k) [
        | inl same ↦ omega (arith, same, below n c (was.first c n (sym g.older_k ∙ ap older' (sym same) ∙ e)).0)
        | inr other ↦ was.order n m (sym (g.older_n m other) ∙ e)
      ]

  grown_alike : (n m : ℕ) → older' m ≡ Some n → caller' n ≡ caller' m
  grown_alike n m e =
      elim (cases_eq m k) [
        | inl same ↦
            let last : newest c ≡ Some n = sym g.older_k ∙ ap older' (sym same) ∙ e in
            g.caller_n n (last_one n last) ∙ (was.first c n last).0 ∙ sym g.caller_k ∙ ap caller' (sym same)
        | inr other ↦
            let was_older = sym (g.older_n m other) ∙ e in
            g.caller_n n (λ same. omega (arith, same, newer_one n m was_older, was.order n m was_older)) ∙ was.alike n m was_older
            ∙ sym (g.caller_n m other)
      ]

  grown_first : (x n : ℕ) → newest' x ≡ Some n → (caller' n ≡ Some x) × (newer' n ≡ None)
  grown_first x n e =
      elim (cases_eq x c) [
        | inl same ↦
            let it : k ≡ n = same_some (sym g.newest_c ∙ ap newest' (sym same) ∙ e) in
            (ap caller' (sym it) ∙ g.caller_k ∙ ap Some (sym same), ap newer' (sym it) ∙ g.newer_k)
        | inr other ↦
            let first = was.first x n (sym (g.newest_x x other) ∙ e) in
            let apart : n ≢ k = λ same. omega (arith, same, below n x first.0) in
            (g.caller_n n apart ∙ first.0, g.newer_n n apart (λ last. other (same_some (sym first.0 ∙ (was.first c n last).0))) ∙ first.1)
      ]

  grown_is_newest : (x n : ℕ) → caller' n ≡ Some x → newer' n ≡ None → newest' x ≡ Some n
  grown_is_newest x n its none =
      elim (cases_eq n k) [
        | inl same ↦
            let it : c ≡ x = same_some (sym g.caller_k ∙ ap caller' (sym same) ∙ its) in
            ap newest' (sym it) ∙ g.newest_c ∙ ap Some (sym same)
        | inr other ↦ elim (is_it (newest c) n) [
          | inl last ↦ absurd (clash (sym none ∙ g.newer_last n other last))
          | inr isnt ↦
              let first = was.is_newest x n (sym (g.caller_n n other) ∙ its) (sym (g.newer_n n other isnt) ∙ none) in
              g.newest_x x (λ same. isnt (ap newest (sym same) ∙ first)) ∙ first
        ]
      ]

  grown : IsChain caller' older' newer' newest'
  grown = record {
    back = grown_back;
    forth = grown_forth;
    order = grown_order;
    alike = grown_alike;
    first = grown_first;
    is_newest = grown_is_newest;
  }

-- ## A number goes

-- number k of caller c leaves, and its neighbours become each other's
record Shrinks (caller older newer newest caller' older' newer' newest' : ℕ → Option ℕ) (k c : ℕ) : Type 0 where
  caller_k : caller' k ≡ None
  caller_n : (n : ℕ) → n ≢ k → caller' n ≡ caller n
  older_k : older' k ≡ None
  older_next : (n : ℕ) → n ≢ k → newer k ≡ Some n → older' n ≡ older k
  older_n : (n : ℕ) → n ≢ k → (newer k ≡ Some n → ⊥) → older' n ≡ older n
  newer_k : newer' k ≡ None
  newer_next : (n : ℕ) → n ≢ k → older k ≡ Some n → newer' n ≡ newer k
  newer_n : (n : ℕ) → n ≢ k → (older k ≡ Some n → ⊥) → newer' n ≡ newer n
  newest_c : newer k ≡ None → newest' c ≡ older k
  newest_x : (x : ℕ) → (newer k ≡ None → x ≡ c → ⊥) → newest' x ≡ newest x

module _ (caller older newer newest caller' older' newer' newest' : ℕ → Option ℕ) (k c : ℕ) (was : IsChain caller older newer newest)
    (its : caller k ≡ Some c)
    (s : Shrinks caller older newer newest caller' older' newer' newest' k c) where
  abbrev not_k : (f : ℕ → Option ℕ) (n m : ℕ) → f k ≡ None → f n ≡ Some m → n ≢ k
  not_k f n m none e same = clash (sym none ∙ ap f (sym same) ∙ e)

  older_than : (n : ℕ) → older k ≡ Some n → n ≢ k
  older_than n e same = omega (arith, same, was.order n k e)

  newer_than : (m : ℕ) → newer k ≡ Some m → m ≢ k
  newer_than m e same = omega (arith, same, was.order k m (was.back k m e))

  shrunk_back : (n m : ℕ) → newer' n ≡ Some m → older' m ≡ Some n
  shrunk_back n m e =
      let other = not_k newer' n m s.newer_k e in
      elim (is_it (older k) n) [
        | inl before ↦
            let next : newer k ≡ Some m = sym (s.newer_next n other before) ∙ e in
            s.older_next m (newer_than m next) next ∙ before
        | inr isnt ↦
            let was_older = was.back n m (sym (s.newer_n n other isnt) ∙ e) in
            s.older_n m (λ same. isnt (ap older (sym same) ∙ was_older)) (λ next. other (same_some (sym was_older ∙ was.back k m next)))
            ∙ was_older
      ]

  shrunk_forth : (n m : ℕ) → older' m ≡ Some n → newer' n ≡ Some m
  shrunk_forth n m e =
      let other = not_k older' m n s.older_k e in
      elim (is_it (newer k) m) [
        | inl after ↦
            let before : older k ≡ Some n = sym (s.older_next m other after) ∙ e in
            s.newer_next n (older_than n before) before ∙ after
        | inr isnt ↦
            let was_newer = was.forth n m (sym (s.older_n m other isnt) ∙ e) in
            s.newer_n n (λ same. isnt (ap newer (sym same) ∙ was_newer))
            (λ before. other (same_some (sym was_newer ∙ was.forth n k before))) ∙ was_newer
      ]

  shrunk_order : (n m : ℕ) → older' m ≡ Some n → n < m
  shrunk_order n m e =
      let other = not_k older' m n s.older_k e in
      elim (is_it (newer k) m) [
        | inl after ↦ omega (arith, was.order n k (sym (s.older_next m other after) ∙ e), was.order k m (was.back k m after))
        | inr isnt ↦ was.order n m (sym (s.older_n m other isnt) ∙ e)
      ]

  shrunk_alike : (n m : ℕ) → older' m ≡ Some n → caller' n ≡ caller' m
  shrunk_alike n m e =
      let other = not_k older' m n s.older_k e in
      elim (is_it (newer k) m) [
        | inl after ↦
            let before : older k ≡ Some n = sym (s.older_next m other after) ∙ e in
            s.caller_n n (older_than n before) ∙ was.alike n k before ∙ was.alike k m (was.back k m after) ∙ sym (s.caller_n m other)
        | inr isnt ↦
            let was_older = sym (s.older_n m other isnt) ∙ e in
            s.caller_n n (λ same. isnt (was.forth k m (was_older ∙ ap Some same))) ∙ was.alike n m was_older ∙ sym (s.caller_n m other)
      ]

  shrunk_first : (x n : ℕ) → newest' x ≡ Some n → (caller' n ≡ Some x) × (newer' n ≡ None)
  shrunk_first x n e =
      elim (is_there (newer k)) [
        | inl none ↦ elim (cases_eq x c) [
          | inl same ↦
              let before : older k ≡ Some n = sym (s.newest_c none) ∙ ap newest' (sym same) ∙ e in
              let other = older_than n before in
              (s.caller_n n other ∙ was.alike n k before ∙ its ∙ ap Some (sym same), s.newer_next n other before ∙ none)
          | inr apart ↦ stays (λ _ same. apart same)
        ]
        | inr some ↦ stays (λ none same. some none)
      ]
    where
      stays : (newer k ≡ None → x ≡ c → ⊥) → (caller' n ≡ Some x) × (newer' n ≡ None)
      stays apart =
          let first = was.first x n (sym (s.newest_x x apart) ∙ e) in
          let other : n ≢ k = λ same. apart (ap newer (sym same) ∙ first.1) (same_some (sym first.0 ∙ ap caller same ∙ its)) in
          (s.caller_n n other ∙ first.0, s.newer_n n other (λ before. clash (sym first.1 ∙ was.forth n k before)) ∙ first.1)

  shrunk_is_newest : (x n : ℕ) → caller' n ≡ Some x → newer' n ≡ None → newest' x ≡ Some n
  shrunk_is_newest x n was_its none =
      let other = not_k caller' n x s.caller_k was_its in
      let had : caller n ≡ Some x = sym (s.caller_n n other) ∙ was_its in
      elim (is_it (older k) n) [
        | inl before ↦
            let last : newer k ≡ None = sym (s.newer_next n other before) ∙ none in
            let same : c ≡ x = same_some (sym its ∙ sym (was.alike n k before) ∙ had) in
            ap newest' (sym same) ∙ s.newest_c last ∙ before
        | inr isnt ↦
            let first = was.is_newest x n had (sym (s.newer_n n other isnt) ∙ none) in
            s.newest_x x (λ last same. other (same_some (sym first ∙ ap newest same ∙ was.is_newest c k its last))) ∙ first
      ]

  shrunk : IsChain caller' older' newer' newest'
  shrunk = record {
    back = shrunk_back;
    forth = shrunk_forth;
    order = shrunk_order;
    alike = shrunk_alike;
    first = shrunk_first;
    is_newest = shrunk_is_newest;
  }

-- ## Who has none

abbrev pub Nodes : Type 0
Nodes = List (ℕ × Node)

abbrev bound : Nodes → ℕ
bound [] = 0
bound (e ∷ nodes) = suc (e.0 + bound nodes)

bounded : (nodes : Nodes) (n : ℕ) → is_some (node_at nodes n) ≡ true → n < bound nodes
bounded [] n some = absurd (cc some)
bounded (e ∷ nodes) n some =
    elim (cases_Bool (eqb n e.0)) [
      | inl same ↦ omega (arith, eqb-true n e.0 same)
      | inr other ↦ omega (arith, bounded nodes n (rw other at some))
    ]

there : (nodes : Nodes) (n c : ℕ) → holder_of nodes n ≡ Some c → is_some (node_at nodes n) ≡ true
there nodes n c = by (node_at nodes n)
  where
    by : (o : Option Node) → option_map (λ (node : Node). node.row.caller) o ≡ Some c → is_some o ≡ true
    by None e = absurd (cc e)
    by (Some node) e = refl

abbrev pub row_part : Node → HandleRow
row_part node = node.row

row_at : (nodes : Nodes) (n : ℕ) → lookup (eqb n) (rows_of nodes) ≡ option_map row_part (node_at nodes n)
row_at nodes n = lookup-map_values row_part (eqb n) nodes

abbrev has : Nodes → ℕ → ℕ → Bool
has nodes c n = list_any (is_handle c n) (ordered (rows_of nodes))

its_holder : (nodes : Nodes) (c n : ℕ) → AreNumbered (rows_of nodes) → has nodes c n ≡ true → holder_of nodes n ≡ Some c
its_holder nodes c n kept is =
    let his = held_row c n (ordered (rows_of nodes)) (rising_is (rows_of nodes) kept) is in
    by (node_at nodes n) his.0 (sym (row_at nodes n) ∙ sym (found_is (rows_of nodes) n kept) ∙ his.1) (eqb-true his.0.caller c his.2)
  where
    by : (o : Option Node) (row : HandleRow) → option_map (λ (node : Node). node.row) o ≡ Some row → row.caller ≡ c
        → option_map (λ (node : Node). node.row.caller) o ≡ Some c
    by None row e same = absurd (cc e)
    by (Some node) row e same = cc (e, same)

has_its : (nodes : Nodes) (c n : ℕ) → AreNumbered (rows_of nodes) → holder_of nodes n ≡ Some c → has nodes c n ≡ true
has_its nodes c n kept e =
    let its = by (node_at nodes n) e in
    any_of c n (ordered (rows_of nodes)) its.0 (found_is (rows_of nodes) n kept ∙ row_at nodes n ∙ its.1) (eq-eqb its.0.caller c its.2)
  where
    by : (o : Option Node) → option_map (λ (node : Node). node.row.caller) o ≡ Some c
        → (row : HandleRow) × (option_map (λ (node : Node). node.row) o ≡ Some row) × (row.caller ≡ c)
    by None e = absurd (cc e)
    by (Some node) e = (node.row, refl, same_some e)

-- a number that has a newer one leads up to the newest
climb : (nodes : Nodes) (newest : List (ℕ × ℕ)) (c : ℕ) → AreLinked nodes newest → lookup (eqb c) newest ≡ None → (fuel m : ℕ)
    → bound nodes ≤ m + fuel → holder_of nodes m ≡ Some c → ⊥
climb nodes newest c kept none zero m le its = omega (arith, le, bounded nodes m (there nodes m c its))
climb nodes newest c kept none (suc fuel) m le its = by (newer_of nodes m) refl (λ next up. climb nodes newest c kept none fuel next up)
  where
    by : (o : Option ℕ) → newer_of nodes m ≡ o → ((next : ℕ) → bound nodes ≤ next + fuel → holder_of nodes next ≡ Some c → ⊥) → ⊥
    by None e rest = clash (sym none ∙ kept.is_newest c m its e)
    by (Some next) e rest =
        let older = kept.back m next e in
        rest next (omega (arith, le, kept.order m next older)) (sym (kept.alike m next older) ∙ its)

-- who has a number has a newest one
pub none_has : (nodes : Nodes) (newest : List (ℕ × ℕ)) (c : ℕ) → AreChained nodes newest → lookup (eqb c) newest ≡ None → (n : ℕ)
    → list_any (is_handle c n) (ordered (rows_of nodes)) ≡ false
none_has nodes newest c kept none n =
    elim (cases_Bool (has nodes c n)) [
      | inl is ↦ absurd (climb nodes newest c kept.linked none (bound nodes) n (omega arith) (its_holder nodes c n kept.numbered is))
      | inr isnt ↦ isnt
    ]

pub newest_has : (nodes : Nodes) (newest : List (ℕ × ℕ)) (c : ℕ) (o : Option ℕ) → AreChained nodes newest → o ≡ lookup (eqb c) newest
    → IfSome o (λ n. list_any (is_handle c n) (ordered (rows_of nodes)) ≡ true)
newest_has nodes newest c None kept e = tt
newest_has nodes newest c (Some n) kept e = has_its nodes c n kept.numbered (kept.linked.first c n (sym e)).0

pub no_newest_has : (nodes : Nodes) (newest : List (ℕ × ℕ)) (c : ℕ) (o : Option ℕ) → AreChained nodes newest → o ≡ lookup (eqb c) newest
    → IfNone o ((n : ℕ) → list_any (is_handle c n) (ordered (rows_of nodes)) ≡ false)
no_newest_has nodes newest c None kept e = none_has nodes newest c kept (sym e)
no_newest_has nodes newest c (Some n) kept e = tt

-- ## Neighbours are set

is_it_number : (o : Option ℕ) (n : ℕ) → o ≡ Some n → is_number n o ≡ true
is_it_number None n e = absurd (clash e)
is_it_number (Some m) n e = eq-eqb m n (same_some e)

isnt_number : (o : Option ℕ) (n : ℕ) → (o ≡ Some n → ⊥) → is_number n o ≡ false
isnt_number None n other = refl
isnt_number (Some m) n other = ne_eqb m n (λ same. other (ap Some same))

abbrev set_to : Bool → (Node → Node) → Option Node → Option Node
set_to b change o = cond b (option_map change o) o

-- what a change of a node leaves alone
same_of : {T : Type 0} (part : Node → T) (change : Node → Node) → ((node : Node) → part (change node) ≡ part node)
    → (b : Bool) (o : Option Node) → option_map part (set_to b change o) ≡ option_map part o
same_of part change same true None = refl
same_of part change same true (Some node) = ap Some (same node)
same_of part change same false o = refl

same_next : (part : Node → Option ℕ) (change : Node → Node) → ((node : Node) → part (change node) ≡ part node)
    → (b : Bool) (o : Option Node) → option_and_then part (set_to b change o) ≡ option_and_then part o
same_next part change same true None = refl
same_next part change same true (Some node) = same node
same_next part change same false o = refl

still_none : (b : Bool) (change : Node → Node) → set_to b change None ≡ None
still_none true change = refl
still_none false change = refl

still_some : (b : Bool) (change : Node → Node) (o : Option Node) → is_some o ≡ true → is_some (set_to b change o) ≡ true
still_some b change None e = absurd (cc e)
still_some true change (Some node) e = refl
still_some false change (Some node) e = refl

newer_set : (o : Option Node) (newer : Option ℕ) → is_some o ≡ true → option_and_then (λ (node : Node). node.newer)
    (option_map (with_newer newer) o) ≡ newer
newer_set None newer e = absurd (cc e)
newer_set (Some node) newer e = refl

older_set : (o : Option Node) (older : Option ℕ) → is_some o ≡ true → option_and_then (λ (node : Node). node.older)
    (option_map (with_older older) o) ≡ older
older_set None older e = absurd (cc e)
older_set (Some node) older e = refl

some_older : (nodes : Nodes) (n m : ℕ) → older_of nodes n ≡ Some m → is_some (node_at nodes n) ≡ true
some_older nodes n m = by (node_at nodes n)
  where
    by : (o : Option Node) → option_and_then (λ (node : Node). node.older) o ≡ Some m → is_some o ≡ true
    by None e = absurd (cc e)
    by (Some node) e = refl

some_newer : (nodes : Nodes) (n m : ℕ) → newer_of nodes n ≡ Some m → is_some (node_at nodes n) ≡ true
some_newer nodes n m = by (node_at nodes n)
  where
    by : (o : Option Node) → option_and_then (λ (node : Node). node.newer) o ≡ Some m → is_some o ≡ true
    by None e = absurd (cc e)
    by (Some node) e = refl

owned_by : (nodes : Nodes) (n m : ℕ) → older_of nodes m ≡ Some n → (x : ℕ) × (holder_of nodes m ≡ Some x)
owned_by nodes n m = by (node_at nodes m)
  where
    by : (o : Option Node) → option_and_then (λ (node : Node). node.older) o ≡ Some n → (x : ℕ)
        × (option_map (λ (node : Node). node.row.caller) o ≡ Some x)
    by None e = absurd (cc e)
    by (Some node) e = (node.row.caller, refl)

-- ## Maps of nodes

abbrev newest_in : List (ℕ × ℕ) → ℕ → Option ℕ
newest_in newest c = lookup (eqb c) newest

abbrev last_node : HandleRow → Option ℕ → Node
last_node row older = record { row = row; older = older; newer = None }

once_rows : (nodes : Nodes) → IsDistinct eqb (keys_of nodes) → IsDistinct eqb (keys_of (rows_of nodes))
once_rows nodes once = subst (IsDistinct eqb) (sym (keys_of-map_values row_part nodes)) once

pub row_found : (nodes : Nodes) (newest : List (ℕ × ℕ)) (n : ℕ) → AreChained nodes newest
    → option_map row_part (node_at nodes n) ≡ find (matches n) (ordered (rows_of nodes))
row_found nodes newest n kept = sym (found_is (rows_of nodes) n kept.numbered ∙ row_at nodes n)

pub as_many_rows : (nodes : Nodes) → length (ordered (rows_of nodes)) ≡ length nodes
as_many_rows nodes = as_many (rows_of nodes) ∙ length-map nodes (λ (entry : ℕ × Node). (entry.0, entry.1.row))

module _ (nodes mid new : Nodes) (newest newest' : List (ℕ × ℕ)) (row : HandleRow) (last : Option ℕ) (kept : AreChained nodes newest)
    (below : AllByRecursion (λ (other : HandleRow). other.number < row.number) (ordered (rows_of nodes)))
    (is : last ≡ newest_in newest row.caller)
    (set : (n : ℕ) → node_at mid n ≡ set_to (is_number n last) (with_newer (Some row.number)) (node_at nodes n))
    (put : (n : ℕ) → node_at new n ≡ cond (eqb row.number n) (Some (last_node row last)) (node_at mid n))
    (once : IsDistinct eqb (keys_of new)) where
  here : node_at new row.number ≡ Some (last_node row last)
  here = put row.number ∙ ap (λ (b : Bool). cond b (Some (last_node row last)) (node_at mid row.number)) (eq-eqb row.number row.number refl)

  apart : (n : ℕ) → n ≢ row.number → node_at new n ≡ set_to (is_number n last) (with_newer (Some row.number)) (node_at nodes n)
  apart n other = put n ∙ ap (λ (b : Bool). cond b (Some (last_node row last)) (node_at mid n))
      (ne_eqb row.number n (λ same. other (sym same))) ∙ set n

  added_grows : ((x : ℕ) → newest_in newest' x ≡ cond (eqb row.caller x) (Some row.number) (newest_in newest x))
      → Grows (holder_of nodes) (older_of nodes) (newer_of nodes) (newest_in newest) (holder_of new) (older_of new) (newer_of new)
      (newest_in newest') row.number row.caller
  added_grows renewed = record {
    caller_k = ap (option_map (λ (node : Node). node.row.caller)) here;
    caller_n = λ n other.
        ap (option_map (λ (node : Node). node.row.caller)) (apart n other)
        ∙ same_of (λ (node : Node). node.row.caller) (with_newer (Some row.number)) (λ node. refl) (is_number n last) (node_at nodes n);
    older_k = ap (option_and_then (λ (node : Node). node.older)) here ∙ is;
    older_n = λ n other.
        ap (option_and_then (λ (node : Node). node.older)) (apart n other)
        ∙ same_next (λ (node : Node). node.older) (with_newer (Some row.number)) (λ node. refl) (is_number n last) (node_at nodes n);
    newer_k = ap (option_and_then (λ (node : Node). node.newer)) here;
    newer_last = λ n other e.
        ap (option_and_then (λ (node : Node). node.newer)) (apart n other
        ∙ ap (λ (b : Bool). set_to b (with_newer (Some row.number)) (node_at nodes n)) (is_it_number last n (is ∙ e)))
        ∙ newer_set (node_at nodes n) (Some row.number) (there nodes n row.caller (kept.linked.first row.caller n e).0);
    newer_n = λ n other isnt.
        ap (option_and_then (λ (node : Node). node.newer)) (apart n other
        ∙ ap (λ (b : Bool). set_to b (with_newer (Some row.number)) (node_at nodes n)) (isnt_number last n (λ e. isnt (sym is ∙ e))));
    newest_c = renewed row.caller
        ∙ ap (λ (b : Bool). cond b (Some row.number) (newest_in newest row.caller)) (eq-eqb row.caller row.caller refl);
    newest_x = λ x other. renewed x
        ∙ ap (λ (b : Bool). cond b (Some row.number) (newest_in newest x)) (ne_eqb row.caller x (λ same. other (sym same)));
  }

  puts : (n : ℕ) → lookup (eqb n) (rows_of new) ≡ cond (eqb row.number n) (Some row) (lookup (eqb n) (rows_of nodes))
  puts n = row_at new n ∙ ap (option_map row_part) (put n) ∙ by (eqb row.number n)
    where
      by : (b : Bool) → option_map row_part (cond b (Some (last_node row last)) (node_at mid n)) ≡ cond b (Some row)
          (lookup (eqb n) (rows_of nodes))
      by true = refl
      by false = ap (option_map row_part) (set n)
          ∙ same_of row_part (with_newer (Some row.number)) (λ node. refl) (is_number n last) (node_at nodes n) ∙ sym (row_at nodes n)

  added_numbered : AreNumbered (rows_of new)
  added_numbered = pushed_numbered (rows_of nodes) (rows_of new) row kept.numbered (once_rows new once) puts

  pub added : ((x : ℕ) → newest_in newest' x ≡ cond (eqb row.caller x) (Some row.number) (newest_in newest x)) → AreChained new newest'
  added renewed = record {
    numbered = added_numbered;
    linked =
        grown (holder_of nodes) (older_of nodes) (newer_of nodes) (newest_in newest) (holder_of new) (older_of new) (newer_of new)
        (newest_in newest') row.number row.caller kept.linked (owned_by nodes)
        (λ n x e. any_below x n row.number (ordered (rows_of nodes)) below (has_its nodes x n kept.numbered e)) (added_grows renewed);
  }

  pub is_added : ordered (rows_of new) ≡ ordered (rows_of nodes) ++ row ∷ []
  is_added = pushed_is (rows_of nodes) (rows_of new) row kept.numbered added_numbered puts below

module _ (nodes one two new : Nodes) (newest : List (ℕ × ℕ)) (k : ℕ) (node : Node) (kept : AreChained nodes newest)
    (found : node_at nodes k ≡ Some node)
    (cut : (n : ℕ) → node_at one n ≡ cond (eqb k n) None (node_at nodes n))
    (joined : (n : ℕ) → node_at two n ≡ set_to (is_number n node.older) (with_newer node.newer) (node_at one n))
    (closed : (n : ℕ) → node_at new n ≡ set_to (is_number n node.newer) (with_older node.older) (node_at two n))
    (once : IsDistinct eqb (keys_of new)) where
  its_caller : holder_of nodes k ≡ Some node.row.caller
  its_caller = ap (option_map (λ (node : Node). node.row.caller)) found

  its_older : older_of nodes k ≡ node.older
  its_older = ap (option_and_then (λ (node : Node). node.older)) found

  its_newer : newer_of nodes k ≡ node.newer
  its_newer = ap (option_and_then (λ (node : Node). node.newer)) found

  gone : node_at new k ≡ None
  gone =
      closed k ∙ ap (set_to (is_number k node.newer) (with_older node.older)) (joined k
      ∙ ap (set_to (is_number k node.older) (with_newer node.newer)) (cut k
      ∙ ap (λ (b : Bool). cond b None (node_at nodes k)) (eq-eqb k k refl))
      ∙ still_none (is_number k node.older) (with_newer node.newer)) ∙ still_none (is_number k node.newer) (with_older node.older)

  stays : (n : ℕ) → n ≢ k → node_at one n ≡ node_at nodes n
  stays n other = cut n ∙ ap (λ (b : Bool). cond b None (node_at nodes n)) (ne_eqb k n (λ same. other (sym same)))

  same_caller : (n : ℕ) → n ≢ k → holder_of new n ≡ holder_of nodes n
  same_caller n other =
      ap (option_map (λ (node : Node). node.row.caller)) (closed n)
      ∙ same_of (λ (node : Node). node.row.caller) (with_older node.older) (λ node. refl) (is_number n node.newer) (node_at two n)
      ∙ ap (option_map (λ (node : Node). node.row.caller)) (joined n)
      ∙ same_of (λ (node : Node). node.row.caller) (with_newer node.newer) (λ node. refl) (is_number n node.older) (node_at one n)
      ∙ ap (option_map (λ (node : Node). node.row.caller)) (stays n other)

  older_two : (n : ℕ) → n ≢ k → older_of two n ≡ older_of nodes n
  older_two n other =
      ap (option_and_then (λ (node : Node). node.older)) (joined n)
      ∙ same_next (λ (node : Node). node.older) (with_newer node.newer) (λ node. refl) (is_number n node.older) (node_at one n)
      ∙ ap (option_and_then (λ (node : Node). node.older)) (stays n other)

  newer_new : (n : ℕ) → newer_of new n ≡ newer_of two n
  newer_new n = ap (option_and_then (λ (node : Node). node.newer)) (closed n)
      ∙ same_next (λ (node : Node). node.newer) (with_older node.older) (λ node. refl) (is_number n node.newer) (node_at two n)

  some_one : (n : ℕ) → n ≢ k → is_some (node_at nodes n) ≡ true → is_some (node_at one n) ≡ true
  some_one n other some = ap is_some (stays n other) ∙ some

  some_two : (n : ℕ) → n ≢ k → is_some (node_at nodes n) ≡ true → is_some (node_at two n) ≡ true
  some_two n other some = ap is_some (joined n) ∙ still_some (is_number n node.older) (with_newer node.newer) (node_at one n)
      (some_one n other some)

  pub has_newest : is_newest node ≡ true → IsSome (newest_in newest node.row.caller)
  has_newest none = by (newest_in newest node.row.caller)
      (kept.linked.is_newest node.row.caller k its_caller (its_newer ∙ is_none_of node.newer none))
    where
      by : (o : Option ℕ) → o ≡ Some k → IsSome o
      by None e = absurd (clash e)
      by (Some n) e = refl

      is_none_of : (o : Option ℕ) → is_none o ≡ true → o ≡ None
      is_none_of None e = refl
      is_none_of (Some n) e = absurd (cc e)

  takes : (n : ℕ) → lookup (eqb n) (rows_of new) ≡ cond (eqb k n) None (lookup (eqb n) (rows_of nodes))
  takes n =
      row_at new n ∙ ap (option_map row_part) (closed n)
      ∙ same_of row_part (with_older node.older) (λ node. refl) (is_number n node.newer) (node_at two n)
      ∙ ap (option_map row_part) (joined n)
      ∙ same_of row_part (with_newer node.newer) (λ node. refl) (is_number n node.older) (node_at one n)
      ∙ ap (option_map row_part) (cut n) ∙ by (eqb k n)
    where
      by : (b : Bool) → option_map row_part (cond b None (node_at nodes n)) ≡ cond b None (lookup (eqb n) (rows_of nodes))
      by true = refl
      by false = sym (row_at nodes n)

  rest_numbered : AreNumbered (rows_of new)
  rest_numbered = removed_numbered (rows_of nodes) (rows_of new) k kept.numbered (once_rows new once) takes

  pub is_removed : ordered (rows_of new) ≡ filter (λ (row : HandleRow). not (matches k row)) (ordered (rows_of nodes))
  is_removed = removed_is (rows_of nodes) (rows_of new) k kept.numbered rest_numbered takes

  module _ (newest' : List (ℕ × ℕ)) (renewed : (x : ℕ) → newest_in newest' x ≡ cond (is_newest node && eqb node.row.caller x) node.older
      (newest_in newest x)) where
    removed_shrinks : Shrinks (holder_of nodes) (older_of nodes) (newer_of nodes) (newest_in newest) (holder_of new) (older_of new)
        (newer_of new) (newest_in newest') k node.row.caller
    removed_shrinks = record {
      caller_k = ap (option_map (λ (node : Node). node.row.caller)) gone;
      caller_n = same_caller;
      older_k = ap (option_and_then (λ (node : Node). node.older)) gone;
      older_next = λ n other next.
          ap (option_and_then (λ (node : Node). node.older)) (closed n ∙ ap (λ (b : Bool). set_to b (with_older node.older) (node_at two n))
          (is_it_number node.newer n (sym its_newer ∙ next)))
          ∙ older_set (node_at two n) node.older (some_two n other (some_older nodes n k (kept.linked.back k n next))) ∙ sym its_older;
      older_n = λ n other isnt.
          ap (option_and_then (λ (node : Node). node.older)) (closed n ∙ ap (λ (b : Bool). set_to b (with_older node.older) (node_at two n))
          (isnt_number node.newer n (λ e. isnt (its_newer ∙ e))))
          ∙ older_two n other;
      newer_k = ap (option_and_then (λ (node : Node). node.newer)) gone;
      newer_next = λ n other before.
          newer_new n ∙ ap (option_and_then (λ (node : Node). node.newer)) (joined n
          ∙ ap (λ (b : Bool). set_to b (with_newer node.newer) (node_at one n)) (is_it_number node.older n (sym its_older ∙ before)))
          ∙ newer_set (node_at one n) node.newer (some_one n other (some_newer nodes n k (kept.linked.forth n k before))) ∙ sym its_newer;
      newer_n = λ n other isnt.
          newer_new n ∙ ap (option_and_then (λ (node : Node). node.newer)) (joined n
          ∙ ap (λ (b : Bool). set_to b (with_newer node.newer) (node_at one n)) (isnt_number node.older n (λ e. isnt (its_older ∙ e)))
          ∙ stays n other);
      newest_c = λ none.
          renewed node.row.caller ∙ ap (λ (b : Bool). cond b node.older (newest_in newest node.row.caller))
          (both (ap is_none (sym its_newer ∙ none)) (eq-eqb node.row.caller node.row.caller refl)) ∙ sym its_older;
      newest_x = λ x other. renewed x ∙ ap (λ (b : Bool). cond b node.older (newest_in newest x)) (neither x other);
    }
      where
        both : {a b : Bool} → a ≡ true → b ≡ true → (a && b) ≡ true
        both a b = rw (a, b) refl

        neither : (x : ℕ) → (newer_of nodes k ≡ None → x ≡ node.row.caller → ⊥) → (is_newest node && eqb node.row.caller x) ≡ false
        neither x other = by node.newer its_newer
          where
            by : (o : Option ℕ) → newer_of nodes k ≡ o → (is_none o && eqb node.row.caller x) ≡ false
            by None e = ne_eqb node.row.caller x (λ same. other e (sym same))
            by (Some n) e = refl

    pub removed : AreChained new newest'
    removed = record {
      numbered = rest_numbered;
      linked =
          shrunk (holder_of nodes) (older_of nodes) (newer_of nodes) (newest_in newest) (holder_of new) (older_of new) (newer_of new)
          (newest_in newest') k node.row.caller kept.linked its_caller removed_shrinks;
    }

-- what holds where there is a value
pub when_ok : {T E P : Type 0} (r : Result T E) → OnOk r P → IsOk r → P
when_ok (Ok x) p ok = p
when_ok (Err x) p ok = absurd (cc ok)

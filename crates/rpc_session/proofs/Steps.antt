-- One step of the recursions over contexts and syntaxes, at a difference.
use Rattle.std.proofs.Common.{◌≡◌, ℕ, suc, ◌-◌, ◌+◌, ◌<◌, ◌≤◌, Bool, true, false, List, [], ◌∷◌, ◌++◌, take, drop, Option, Some, None, refl}
use Rattle.std.proofs.Common.{sym, ap, ◌∙◌, arith, append_assoc, rules, length, length-append, ◌*◌, set, get_or, replicate, cond, subst}
use Rattle.std.proofs.Common.{inl, inr, zero, ◌≢◌}
use Rattle.std.specs.FinMap as map
use Rattle.std.specs.Ordering.{nat_cmp, eq_by_cmp, is_eq}
use Rattle.std.specs.Cmp.{nat_cmp_is}
use Rattle.std.proofs.lemmas.Cmp.{nat_cmp_total}
use Rattle.std.specs.declared.cmp.Ordering.TheVariants.{Less, Equal, Greater}
use Rattle.std.proofs.lemmas.Bool.{cases_lt}
use Rattle.std.proofs.lemmas.Grind.{get_or-set_at}
use Rattle.std.proofs.lemmas.List.{get_or-set_other, get_or_append_left, get_or-append_right, get_or-replicate, get_or_past}
use Rattle.std.proofs.lemmas.List.{length-replicate, take_all}
use Rattle.std.proofs.lemmas.List.Elements.{All-cons, All-head, All-tail, All-nil}
use Rattle.std.specs.Prelude.{option_map, ◌||◌}
use Rattle.std.specs.Borrow.{Bor}
use Rattle.rpc_pdu.specs.declared.reading.Context.{Context}
use Rattle.rpc_pdu.specs.Contexts.{contexts_of, context_at, seen_context, first_and}
use Rattle.rpc_session.specs.declared.contexts.TheConstants.{NDR}
use Rattle.rpc_session.specs.declared.contexts.Interface.{Interface}
use Rattle.rpc_session.specs.declared.contexts.Answer.{Answer}
use Rattle.rpc_session.specs.declared.contexts.Answer.TheVariants as answers
use Rattle.rpc_session.specs.Contexts.{same_syntax, offers, with_answer, context_answer, known_after, results_of, result_bytes, listed}
use Rattle.rpc_session.specs.Contexts.{listed_from, accepted_by, AreBelow, Interfaces}

offers_step : (n k : ℕ) → (s : List ℕ) → k < n → offers (n - k) s ≡ (same_syntax (take 20 s) NDR || offers (n - (k + 1)) (drop 20 s))
unfolding offers
offers_step n k s h = let e : n - k ≡ suc (n - (k + 1)) = omega arith in rw e refl

pub offers_none : (n k : ℕ) → (s : List ℕ) → n ≤ k → offers (n - k) s ≡ false
unfolding offers
offers_none n k s h = let e : n - k ≡ 0 = omega arith in rw e refl

pub offers_hit : (n k : ℕ) (s front : List ℕ) → k < n → front ≡ take 20 s → true ≡ same_syntax front NDR → true ≡ offers (n - k) s
offers_hit n k s front h is hit =
    ap (λ b. b || offers (n - (k + 1)) (drop 20 s)) (hit ∙ ap (λ f. same_syntax f NDR) is) ∙ sym (offers_step n k s h)

pub offers_miss : (n k : ℕ) (s front after : List ℕ) → k < n → front ≡ take 20 s → after ≡ drop 20 s → false ≡ same_syntax front NDR
    → offers (n - (k + 1)) after ≡ offers (n - k) s
offers_miss n k s front after h is rest miss =
    ap (offers (n - (k + 1))) rest ∙ ap (λ b. b || offers (n - (k + 1)) (drop 20 s)) (miss ∙ ap (λ f. same_syntax f NDR) is)
    ∙ sym (offers_step n k s h)

contexts_step : (n k : ℕ) → (s : List ℕ) → k < n → contexts_of (n - k) s ≡ first_and (contexts_of (n - (k + 1))) (context_at s)
unfolding contexts_of
contexts_step n k s h = let e : n - k ≡ suc (n - (k + 1)) = omega arith in rw e refl

pub contexts_end : (n k : ℕ) → (s : List ℕ) → n ≤ k → contexts_of (n - k) s ≡ []
unfolding contexts_of
contexts_end n k s h = let e : n - k ≡ 0 = omega arith in rw e refl

pub contexts_none : (n k : ℕ) (s : List ℕ) → k < n → None ≡ context_at s → contexts_of (n - k) s ≡ []
contexts_none n k s h is = contexts_step n k s h ∙ ap (first_and (contexts_of (n - (k + 1)))) (sym is)

pub contexts_next : (n k : ℕ) (s : List ℕ) (x : Context (Bor (List ℕ)) × Bor (List ℕ)) → k < n
    → option_map seen_context (Some x) ≡ context_at s → contexts_of (n - k) s ≡ (seen_context x).0 ∷ contexts_of (n - (k + 1)) x.1.now
contexts_next n k s x h is = contexts_step n k s h ∙ ap (first_and (contexts_of (n - (k + 1)))) (sym is)

pub known_next : (known more : Interfaces) (c : Context (List ℕ)) (list cs : List (Context (List ℕ))) → list ≡ c ∷ cs
    → more ≡ with_answer known c.id (context_answer c) → known_after more cs ≡ known_after known list
unfolding known_after
known_next known more c list cs is now = ap (λ m. known_after m cs) now ∙ ap (known_after known) (sym is)

pub results_next : (results more : List ℕ) (c : Context (List ℕ)) (list cs : List (Context (List ℕ))) → list ≡ c ∷ cs → more ≡ results
    ++ result_bytes (context_answer c) → more ++ results_of cs ≡ results ++ results_of list
unfolding results_of
results_next results more c list cs is now =
    ap (λ m. m ++ results_of cs) now ∙ append_assoc results (result_bytes (context_answer c)) (results_of cs)
    ∙ ap (λ l. results ++ results_of l) (sym is)

pub no_results : (results : List ℕ) (list : List (Context (List ℕ))) → list ≡ [] → results ++ results_of list ≡ results
unfolding results_of
no_results results list is = ap (λ l. results ++ results_of l) is ∙ search rules

pub nothing_known : (known : Interfaces) (list : List (Context (List ℕ))) → list ≡ [] → known_after known list ≡ known
unfolding known_after
nothing_known known list is = ap (known_after known) is

result_length : (a : Answer) → length (result_bytes a) ≡ 24
unfolding result_bytes
result_length (answers.Accepted interface) = refl
result_length answers.NotServed = refl
result_length answers.NoTransferSyntax = refl

pub results_bound : (results more : List ℕ) (a : Answer) (k : ℕ) → more ≡ results ++ result_bytes a → length results ≤ 24 * k
    → length more ≤ 24 * (k + 1)
results_bound results more a k now h = let e : length more ≡ length results + 24 = ap length now ∙ length-append results (result_bytes a)
    ∙ ap (λ n. length results + n) (result_length a) in omega arith

-- what the order of ids says of equality
below : (q id : ℕ) → q < id → eq_by_cmp nat_cmp q id ≡ false
below q id h = ap is_eq (sym (nat_cmp_is q id Less h))

agree : (q id : ℕ) → q ≡ id → eq_by_cmp nat_cmp q id ≡ true
agree q id h = ap is_eq (sym (nat_cmp_is q id Equal h))

beyond : (q id : ℕ) → id < q → eq_by_cmp nat_cmp q id ≡ false
beyond q id h = ap is_eq (sym (nat_cmp_is q id Greater h))

by_order : {P : Type 0} (q id : ℕ) → (q < id → P) → (q ≡ id → P) → (id < q → P) → P
by_order q id less same more = elim (cases_lt q id) [
  | inl lt ↦ less lt
  | inr le ↦
      elim (cases_lt id q) [ inl gt ↦ more gt | inr ge ↦ same (omega (arith, le, ge)) ]
]

-- what a table lists
listed_below : (id : ℕ) (table : List (Option Interface)) (q : ℕ) → q < id → map.get (listed_from id table) q ≡ None
unfolding listed_from
listed_below id [] q h = map.get-empty nat_cmp q
listed_below id (None ∷ table) q h = listed_below (id + 1) table q (omega (arith, h))
listed_below id (Some interface ∷ table) q h =
    map.get-insert nat_cmp_total (listed_from (id + 1) table) id interface q
    ∙ ap (λ b. cond b (Some interface) (map.get (listed_from (id + 1) table) q)) (below q id (omega (arith, h)))
    ∙ listed_below (id + 1) table q (omega (arith, h))

listed_at : (id : ℕ) (table : List (Option Interface)) (k : ℕ) → map.get (listed_from id table) (id + k) ≡ get_or table k None
unfolding listed_from
listed_at id [] k = map.get-empty nat_cmp (id + k)
listed_at id (None ∷ table) zero = listed_below (id + 1) table (id + 0) (omega arith)
listed_at id (None ∷ table) (suc k) = ap (map.get (listed_from (id + 1) table)) (omega arith) ∙ listed_at (id + 1) table k
listed_at id (Some interface ∷ table) zero =
    map.get-insert nat_cmp_total (listed_from (id + 1) table) id interface (id + 0)
    ∙ ap (λ b. cond b (Some interface) (map.get (listed_from (id + 1) table) (id + 0))) (agree (id + 0) id (omega arith))
listed_at id (Some interface ∷ table) (suc k) =
    map.get-insert nat_cmp_total (listed_from (id + 1) table) id interface (id + suc k)
    ∙ ap (λ b. cond b (Some interface) (map.get (listed_from (id + 1) table) (id + suc k))) (beyond (id + suc k) id (omega arith))
    ∙ ap (map.get (listed_from (id + 1) table)) (omega arith) ∙ listed_at (id + 1) table k

from_zero : (id : ℕ) → id ≡ 0 + id
from_zero id = omega arith

pub get_listed : (table : List (Option Interface)) (id : ℕ) → map.get (listed table) id ≡ get_or table id None
get_listed table id = ap (map.get (listed table)) (from_zero id) ∙ listed_at 0 table id

-- tables that list the same under each id list the same
pub same_listed : (known : Interfaces) (table : List (Option Interface)) → ((id : ℕ) → get_or table id None ≡ map.get known id)
    → listed table ≡ known
same_listed known table is = map.same_map nat_cmp_total map.nat_cmp-IsAntisymmetric (listed table) known (λ id. get_listed table id ∙ is id)

get_answer : (known : Interfaces) (id : ℕ) (answer : Answer) (q : ℕ) → map.get (with_answer known id answer) q ≡ cond
    (eq_by_cmp nat_cmp q id) (accepted_by answer) (map.get known q)
get_answer known id (answers.Accepted interface) q = map.get-insert nat_cmp_total known id interface q
get_answer known id answers.NotServed q = map.get-remove nat_cmp_total known id q
get_answer known id answers.NoTransferSyntax q = map.get-remove nat_cmp_total known id q

-- an answer entered at an id that the table has
pub entered : (table : List (Option Interface)) (id : ℕ) (answer : Answer) → id < length table
    → listed (set table id (accepted_by answer)) ≡ with_answer (listed table) id answer
entered table id answer h = same_listed (with_answer (listed table) id answer) (set table id (accepted_by answer)) (λ q.
    by_id q ∙ sym (get_answer (listed table) id answer q)) where
      other : (q : ℕ) → q ≢ id → eq_by_cmp nat_cmp q id ≡ false → get_or (set table id (accepted_by answer)) q None ≡ cond
          (eq_by_cmp nat_cmp q id) (accepted_by answer) (map.get (listed table) q)
      other q ne e = get_or-set_other table id q (accepted_by answer) None ne ∙ sym (get_listed table q)
          ∙ ap (λ b. cond b (accepted_by answer) (map.get (listed table) q)) (sym e)

      by_id : (q : ℕ) → get_or (set table id (accepted_by answer)) q None ≡ cond (eq_by_cmp nat_cmp q id) (accepted_by answer)
          (map.get (listed table) q)
      by_id q = by_order q id
          (λ lt. other q (λ is. absurd (omega (arith, lt, is))) (below q id lt))
          (λ is. get_or-set_at table id q (accepted_by answer) None is h
          ∙ ap (λ b. cond b (accepted_by answer) (map.get (listed table) q)) (sym (agree q id is)))
          (λ gt. other q (λ is. absurd (omega (arith, gt, is))) (beyond q id gt))

-- a longer table lists no more
pub widened : (table : List (Option Interface)) (more : ℕ) → listed (table ++ replicate more None) ≡ listed table
widened table more = same_listed (listed table) (table ++ replicate more None) (λ id. by_place id ∙ sym (get_listed table id)) where
  nothing : (id : ℕ) → length table ≤ id → get_or (table ++ replicate more None) id None ≡ get_or table id None
  nothing id le = elim (cases_lt id (length table + more)) [
    | inl lt ↦ get_or-append_right table (replicate more None) (length table) id None refl le
        ∙ get_or-replicate more (id - length table) None None (omega (arith, lt, le)) ∙ sym (get_or_past table id None le)
    | inr far ↦ get_or_past (table ++ replicate more None) id None (omega
        (arith, far, length-append table (replicate more None), length-replicate {A = Option Interface} more None))
        ∙ sym (get_or_past table id None le)
  ]

  by_place : (id : ℕ) → get_or (table ++ replicate more None) id None ≡ get_or table id None
  by_place id = elim (cases_lt id (length table)) [
    | inl lt ↦ get_or_append_left table (replicate more None) None id lt
    | inr le ↦ nothing id le
  ]

-- the bound on ids, a context at a time
pub below_next : (room : ℕ) (c : Context (List ℕ)) (list cs : List (Context (List ℕ))) → list ≡ c ∷ cs → c.id < room → AreBelow room cs
    → AreBelow room list
below_next room c list cs is h hs = subst (AreBelow room) (sym is) (All-cons (λ c. c.id < room) c cs h hs)

pub below_head : (room : ℕ) (c : Context (List ℕ)) (list cs : List (Context (List ℕ))) → list ≡ c ∷ cs → AreBelow room list → c.id < room
below_head room c list cs is h = All-head (λ c. c.id < room) c cs (subst (AreBelow room) is h)

pub below_tail : (room : ℕ) (c : Context (List ℕ)) (list cs : List (Context (List ℕ))) → list ≡ c ∷ cs → AreBelow room list
    → AreBelow room cs
below_tail room c list cs is h = All-tail (λ c. c.id < room) c cs (subst (AreBelow room) is h)

pub none_below : (room : ℕ) (list : List (Context (List ℕ))) → list ≡ [] → AreBelow room list
none_below room list is = subst (AreBelow room) (sym is) (All-nil (λ c. c.id < room))

pub none_listed : (table : List (Option Interface)) → table ≡ [] → listed table ≡ map.empty
unfolding listed_from
none_listed table is = ap listed is

pub resized : (table new : List (Option Interface)) (ok : Bool) (room more : ℕ) → length table ≤ room
    → new ≡ cond ok (take room table ++ replicate more None) table → listed new ≡ listed table
resized table new true room more h is = ap listed (is ∙ ap (λ t. t ++ replicate more None) (take_all room table h)) ∙ widened table more
resized table new false room more h is = ap listed is

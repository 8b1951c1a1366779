-- Between what a pass has seen and the end of a history no entry is of whom it made, so that each stays as it was.
use Rattle.std.proofs.Common.{◌≡◌, ℕ, ◌≤◌, inl, true, false, IsTrue, List, [], ◌∷◌, ◌++◌, length, length-append, Option, None, Some, refl}
use Rattle.std.proofs.Common.{sym, ap, ◌∙◌, subst, arith, append_assoc, append-nil, ne_eqb}
use Rattle.std.specs.Prelude.{is_some, option_map}
use Rattle.scm_model.specs.declared.flat.Phase.{Phase}
use Rattle.scm_model.specs.declared.flat.Process.{Process}
use Rattle.scm_model.specs.declared.steps.Name.{Name}
use Rattle.scm_model.specs.declared.steps.Name.TheVariants as names
use Rattle.scm_model.specs.Entries.{Entry}
use Rattle.scm_rules.specs.Histories.{Legal, state}
use Rattle.scm_rules.specs.Launches.{process_of}
use Rattle.scm_rules.specs.Named.{caller_made, caller_named, is_it, process_named, process_taken}
use Rattle.scm_runs.proofs.Along.{along}
use Rattle.scm_runs.proofs.Calls.{keeps}
use Rattle.scm_runs.proofs.Histories.{at_entry, legal_made, told}
use Rattle.scm_runs.proofs.Sound.{Sound, begun}
use Rattle.scm_owed.proofs.Histories.{legal_front}
use Rattle.scm_history.specs.Phases.{phase_of}
use Rattle.scm_history.specs.Processes.{OthersStay, apart_from_controls}
use Rattle.scm_history.proofs.Processes.{gives as others_stay}
use Rattle.book_rule.specs.declared.view.Opening.{Opening}
use Rattle.book_rule.specs.Ways.{Has}
use Rattle.book_rule.proofs.Places.{has_right}
use Rattle.book_rule.proofs.Prefixes.{prefix_shorter}
use Rattle.scm_book.specs.Naming.{caller_names, all_names, names_made, process_names}
use Rattle.scm_book.specs.Holds.{Opens}
use Rattle.scm_book.specs.Passes.{ClaimsIn, Known}
use Rattle.scm_book.proofs.Last.{anew}
use Rattle.scm_book.proofs.Names.{has_name, made_at, made_more, not_before}

-- ## Entries that are of nobody of a name

-- no entry of the rest, behind this history, names or makes this one
abbrev pub Quiet : Opening → Name → List Entry → List Entry → Type 0
Quiet o n log [] = Unit {0}
Quiet o n log (e ∷ rest) = (Has n (all_names e.1) → ⊥) × (Has n (names_made (state o.limits o.first log) e.1) → ⊥)
    × Quiet o n (log ++ e ∷ []) rest

-- nor of the first of them
pub quiet_front : (o : Opening) (n : Name) (log rest more : List Entry) → Quiet o n log (rest ++ more) → Quiet o n log rest
quiet_front o n log [] more quiet = tt
quiet_front o n log (e ∷ rest) more quiet = (quiet.0, quiet.1, quiet_front o n (log ++ e ∷ []) rest more quiet.2)

not_it : (o : Option ℕ) (number : ℕ) → (Has (names.Process number) (process_names o) → ⊥) → is_it number o ≡ false
not_it None number other = refl
not_it (Some of) number other = ne_eqb number of (λ e. other (inl (ap names.Process e)))

phase_apart : (row : Option Process) → option_map (λ (p : Process). p.phase) (option_map apart_from_controls row) ≡ option_map
    (λ (p : Process). p.phase) row
phase_apart None = refl
phase_apart (Some row) = refl

listed_so : (row : Option Process) (phase : Phase) → option_map (λ (p : Process). p.phase) row ≡ Some phase → IsTrue (is_some row)
listed_so None phase is = absurd cc
listed_so (Some row) phase is = refl

module _ (o : Opening) (opens : Opens o) where
  -- a process keeps its phase by an entry that is not of it
  pub step_phase : (log : List Entry) (e : Entry) (process : ℕ) (phase : Phase) → Legal o.limits o.first (log ++ e ∷ [])
      → (Has (names.Process process) (all_names e.1) → ⊥)
      → (Has (names.Process process) (names_made (state o.limits o.first log) e.1) → ⊥)
      → phase_of (state o.limits o.first log) process ≡ Some phase →
      phase_of (state o.limits o.first (log ++ e ∷ [])) process ≡ Some phase
  step_phase log e process phase legal unnamed unmade is =
      let l = o.limits in
      let f = o.first in
      let g = state l f log in
      let es = log ++ e ∷ [] in
      let stay = at_entry OthersStay l f es (along Sound OthersStay l (keeps l) (others_stay l) f es (begun l f opens.begins)
      (legal_made l f es legal)) log e [] _ refl (told l f log e [])
      process (not_it (process_named e.1) process (λ has. unnamed (has_right (names.Process process) (caller_names (caller_named e.1))
      (process_names (process_named e.1)) has)))
      (not_it (process_taken g e.1) process (λ has. unmade (has_right (names.Process process) (caller_names (caller_made g e.1))
      (process_names (process_taken g e.1)) has))) in
      let same = stay.listed (listed_so (process_of g process) phase is) in
      sym (phase_apart (process_of (state l f es) process)) ∙ (ap (option_map (λ (p : Process). p.phase)) same
      ∙ (phase_apart (process_of g process) ∙ is))

  pub rest_phase : (log rest : List Entry) (process : ℕ) (phase : Phase) → Legal o.limits o.first (log ++ rest)
      → Quiet o (names.Process process) log rest
      → phase_of (state o.limits o.first log) process ≡ Some phase → phase_of (state o.limits o.first (log ++ rest)) process ≡ Some phase
  rest_phase log [] process phase legal quiet is = subst (λ (l : List Entry). phase_of (state o.limits o.first l) process ≡ Some phase)
      (sym (append-nil log)) is
  rest_phase log (e ∷ rest) process phase legal quiet is =
      let whole : (log ++ e ∷ []) ++ rest ≡ log ++ e ∷ rest = append_assoc log (e ∷ []) rest in
      let legal' : Legal o.limits o.first ((log ++ e ∷ []) ++ rest) = subst (Legal o.limits o.first) (sym whole) legal in
      subst (λ (l : List Entry). phase_of (state o.limits o.first l) process ≡ Some phase) whole
      (rest_phase (log ++ e ∷ []) rest process phase legal' quiet.2
      (step_phase log e process phase (legal_front o.limits o.first (log ++ e ∷ []) rest legal') quiet.0 quiet.1 is))

-- ## What a pass claims

module _ (o : Opening) (opens : Opens o) (k : Known) (n : Name) (named : Has n k.names) where
  -- an entry that stands behind all that the pass has seen names nobody of its own
  named_not : (log front : List Entry) (e : Entry) (rest : List Entry) → ClaimsIn o log k → log ≡ front ++ e ∷ rest
      → length k.seen ≤ length front → Has n (all_names e.1) → ⊥
  named_not log front e rest claims is far has =
      let mine = claims.named n named (length front) (record { front = front; entry = e; rest = rest; is = is; place = refl; named = has })
      in
      let low = claims.within (length front) mine in
      let bad : ⊥ = omega arith in bad

  -- nor makes one
  pub made_not : (front : List Entry) (e : Entry) → Legal o.limits o.first (front ++ e ∷ []) → has_name o.limits o.first n front ≡ true
      → Has n (names_made (state o.limits o.first front) e.1) → ⊥
  made_not front e legal there has = let no = not_before o.limits o.first n front e
      (anew o.limits o.first opens.begins front e legal) has in absurd cc

  -- who is one of the pass's own was made by what it has seen
  pub own_made : (log rest : List Entry) → log ≡ k.seen ++ rest → ClaimsIn o log k → has_name o.limits o.first n k.seen ≡ true
  own_made log rest is claims =
      let one = claims.made n named in
      let at = one.2 in
      let low = claims.within one.0 one.1 in
      let place = at.place in
      let xs : List Entry = at.front ++ at.entry ∷ [] in
      let long = length-append at.front (at.entry ∷ []) in
      let whole : xs ++ at.rest ≡ log = append_assoc at.front (at.entry ∷ []) at.rest ∙ sym at.is in
      let p = prefix_shorter xs k.seen log (at.rest, whole) (rest, sym is) (omega arith) in
      subst (λ (l : List Entry). has_name o.limits o.first n l ≡ true) p.1
      (made_more o.limits o.first n xs p.0 (made_at o.limits o.first n at.front at.entry [] at.made))

  quiet_from : (log front rest : List Entry) → log ≡ front ++ rest → length k.seen ≤ length front → Legal o.limits o.first log
      → ClaimsIn o log k → has_name o.limits o.first n front ≡ true → Quiet o n front rest
  quiet_from log front [] is far legal claims there = tt
  quiet_from log front (e ∷ rest) is far legal claims there =
      let split : log ≡ (front ++ e ∷ []) ++ rest = is ∙ sym (append_assoc front (e ∷ []) rest) in
      let before : Legal o.limits o.first (front ++ e ∷ []) = legal_front o.limits o.first (front ++ e ∷ []) rest
      (subst (Legal o.limits o.first) split legal) in (
        named_not log front e rest claims is far,
        made_not front e before there,
        quiet_from log (front ++ e ∷ []) rest split (let n = length-append front (e ∷ []) in omega arith) legal claims
            (made_more o.limits o.first n front (e ∷ []) there),
      )

  -- behind what the pass has seen no entry is of who is its own
  pub quiet : (log rest : List Entry) → log ≡ k.seen ++ rest → Legal o.limits o.first log → ClaimsIn o log k → Quiet o n k.seen rest
  quiet log rest is legal claims = quiet_from log k.seen rest is (omega arith) legal claims (own_made log rest is claims)

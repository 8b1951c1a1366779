-- What the rule of turns asks of an entry that may come.
use Rattle.std.proofs.Common.{◌≡◌, ◌≢◌, ℕ, ◌+◌, ◌<◌, ◌≤◌, ◌^◌, ◌⊎◌, inl, inr, true, false, IsTrue, List, [], ◌∷◌, ◌++◌, length, length-append, refl}
use Rattle.std.proofs.Common.{ap, arith, ne_eqb}
use Rattle.scm_model.specs.declared.flat.Flat.{Flat}
use Rattle.scm_model.specs.declared.flat.Limits.{Limits}
use Rattle.scm_model.specs.declared.steps.Name.{Name}
use Rattle.scm_model.specs.declared.steps.Name.TheVariants as names
use Rattle.scm_model.specs.declared.steps.Step.{Step}
use Rattle.scm_model.specs.declared.steps.Step.TheVariants.{Joined, Gone}
use Rattle.scm_model.specs.Entries.{Entry, text_in}
use Rattle.scm_model.specs.Rows.{is_caller}
use Rattle.scm_rules.specs.Histories.{Legal, state}
use Rattle.scm_rules.specs.Room.{has_room, is_owed}
use Rattle.scm_rules.specs.Steps.{may}
use Rattle.scm_history.specs.Callers.{CallersStay, takes_leave}
use Rattle.book_rule.specs.declared.view.Opening.{Opening}
use Rattle.book_rule.specs.Ways.{Has, MadeAt, NamedAt, Follows}
use Rattle.scm_book.specs.Ghosts.{Ghosts}
use Rattle.scm_book.specs.Naming.{names_made, all_names, whose_after}
use Rattle.scm_book.specs.Holds.{Runs, way_of}
use Rattle.scm_book.proofs.Last.{anew, behind, callers_stay, stays, within}
use Rattle.scm_book.proofs.Names.{has_name, made_at, made_more, named_before, not_before}

-- who isn't named doesn't leave
stays_here : (step : Step) (c : ℕ) → (Has (names.Caller c) (all_names step) → ⊥) → takes_leave c step ≡ false
stays_here (Gone d) c other = ne_eqb c d (λ e. other (inl (ap names.Caller e)))
stays_here step c other = refl

-- whose a seat is that made a step is who it was, unless it goes, or who joined
who_after : (f : Flat) (step : Step) (c : ℕ) → whose_after f c step ≢ 0 → (whose_after f c step ≡ c)
    ⊎ Has (names.Caller (whose_after f c step)) (names_made f step)
who_after f (Joined principal) c some_one = inr (inl refl)
who_after f (Gone d) c some_one = absurd (some_one refl)
who_after f step c some_one = inl refl

lives_after : (l : Limits) (f after : Flat) (moment : ℕ) (step : Step) (told : _) → CallersStay f (moment, step) told after → (c : ℕ)
    → (c ≢ 0 → IsTrue (is_caller f c)) → whose_after f c step ≢ 0
    → IsTrue (is_caller after (whose_after f c step))
lives_after l f after moment (Joined principal) told stay c lives some_one = stay.joined
lives_after l f after moment (Gone d) told stay c lives some_one = absurd (some_one refl)
lives_after l f after moment step told stay c lives some_one = stay.others c refl (lives some_one)

contradicts : (l : Limits) (f : Flat) (n : Name) (log front rest : List Entry) → log ≡ front ++ rest → has_name l f n (front ++ rest) ≡ true
    → has_name l f n log ≡ false → ⊥
contradicts l f n log front rest is there none = let same = ap (has_name l f n) is in absurd cc

module _ {K : Type 0} (ghosts : Ghosts K) (o : Opening) (log : List Entry) (e : Entry)
    (runs : Runs o log)
    (ok : IsTrue (may o.limits (state o.limits o.first log) e.0 e.1))
    (free : (is_owed e.1 ≡ true) ⊎ IsTrue (has_room o.limits (state o.limits o.first log) (length log) (text_in log) e.1)) where
  legal_then : Legal o.limits o.first (log ++ e ∷ [])
  legal_then = stays o.limits o.first runs.opens.begins log e runs.legal ok free

  pub runs_on : Runs o (log ++ e ∷ [])
  runs_on = record { opens = runs.opens; legal = legal_then }

  pub counted : length log + 1 ≤ o.limits.steps
  counted = let w = within o.limits o.first runs.opens.begins (log ++ e ∷ []) legal_then in let n = length-append log (e ∷ []) in
      omega arith

  pub short : length log + 1 < 2 ^ 50
  short = let c = counted in let small = runs.opens.small.steps in omega arith

  new_name : (n : Name) → Has n (names_made (state o.limits o.first log) e.1) → (k : ℕ) → MadeAt (way_of ghosts) o log k n
      → ⊥
  new_name n has k at =
      let no = not_before o.limits o.first n log e (anew o.limits o.first runs.opens.begins log e legal_then) has in
      contradicts o.limits o.first n log at.front (at.entry ∷ at.rest) at.is
      (made_at o.limits o.first n at.front at.entry at.rest at.made) no

  unnamed : (n : Name) → Has n (names_made (state o.limits o.first log) e.1) → (k : ℕ) → NamedAt (way_of ghosts) log k n
      → ⊥
  unnamed n has k at =
      let no = not_before o.limits o.first n log e (anew o.limits o.first runs.opens.begins log e legal_then) has in
      let stands = behind o.limits o.first runs.opens.begins log at.front at.entry at.rest at.is runs.legal in
      contradicts o.limits o.first n log at.front (at.entry ∷ at.rest) at.is
      (made_more o.limits o.first n at.front (at.entry ∷ at.rest) (named_before o.limits o.first n at.front at.entry stands at.named))
      no

  pub follows : Follows (way_of ghosts) o log e
  follows =
      let stay = callers_stay o.limits o.first runs.opens.begins log e legal_then in
      record {
        run = runs_on;
        short = let s = short in omega arith;
        new = new_name;
        unnamed = unnamed;
        others = λ c lives other. stay.others c (stays_here e.1 c other) lives;
        mine = λ c lives some_one. lives_after o.limits (state o.limits o.first log)
            (state o.limits o.first (log ++ e ∷ [])) e.0 e.1 _ stay c lives some_one;
        who = who_after (state o.limits o.first log) e.1;
      }

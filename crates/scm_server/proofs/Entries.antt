-- Entries of a history that goes on, and those that name a caller.
use Rattle.std.proofs.Common.{◌≡◌, ◌∙◌, ℕ, Bool, true, false, IsTrue, List, [], ◌∷◌, ◌++◌, Option, None, Some, refl, sym, ap, subst}
use Rattle.std.proofs.Common.{inl, ⊎_elim, eq-eqb, eqb-true}
use Rattle.std.specs.Prelude.{IfSome}
use mathlib.Core.List.{IsPrefix}
use Rattle.scm_model.specs.declared.flat.Flat.{Flat}
use Rattle.scm_model.specs.declared.flat.Limits.{Limits}
use Rattle.scm_model.specs.declared.steps.Answer.TheVariants as answers
use Rattle.scm_model.specs.declared.steps.Name.{Name}
use Rattle.scm_model.specs.declared.steps.Name.TheVariants as names
use Rattle.scm_model.specs.declared.steps.Step.TheVariants.{Gone}
use Rattle.scm_model.specs.Entries.{Entry}
use Rattle.scm_model.specs.Rows.{is_caller}
use Rattle.scm_rules.specs.Histories.{Legal, state}
use Rattle.scm_rules.specs.Named.{caller_named, has_made, is_it, names_caller}
use Rattle.scm_rules.specs.Opening.{IsOpening}
use Rattle.scm_rules.specs.Runs.{IsLegal, run_state}
use Rattle.scm_runs.proofs.Histories.{legal_made, made_front, may_behind, state_is}
use Rattle.scm_runs.proofs.Sound.{begun}
use Rattle.scm_history.specs.Owned.{Made as Told, made_of}
use Rattle.scm_history.proofs.Callers.{gone_for_good}
use Rattle.scm_history.proofs.Names.{caller_there}
use Rattle.book_rule.specs.declared.view.Opening.{Opening}
use Rattle.book_rule.specs.Ways.{Has}
use Rattle.scm_book.specs.Naming.{caller_names}
use Rattle.scm_book.proofs.Names.{caller_more}
use Rattle.conn_worker.specs.Owning.{StandAt, StandsAt}
use Rattle.conn_worker.proofs.Owning.{stay_at, stays_at}
use Rattle.scm_server.specs.Handling.{NamedOnlyAt}
use Rattle.scm_server.proofs.Lists.{Within, split_at}

-- ## Places stay

pub stands_behind : (o : Opening) (log longer : List Entry) (place : ℕ) (one : Told) → IsPrefix log longer → StandsAt o log place one
    → StandsAt o longer place one
stands_behind o log longer place one is stand = subst (λ (es : List Entry). StandsAt o es place one) is.1
    (stays_at o log is.0 place one stand)

pub stand_behind : (o : Opening) (log longer : List Entry) (places : List ℕ) (own : List Told) → IsPrefix log longer
    → StandAt o log places own → StandAt o longer places own
stand_behind o log longer places own is stand = subst (λ (es : List Entry). StandAt o es places own) is.1
    (stay_at o log is.0 places own stand)

-- those but the last
pub but_last : (o : Opening) (log : List Entry) (places : List ℕ) (place : ℕ) (own : List Told) (one : Told)
    → StandAt o log (places ++ place ∷ []) (own ++ one ∷ []) → StandAt o log places own
but_last o log [] place [] one stand = tt
but_last o log [] place (x ∷ []) one stand = absurd stand.1
but_last o log [] place (x ∷ y ∷ own) one stand = absurd stand.1
but_last o log (p ∷ []) place [] one stand = absurd stand.1
but_last o log (p ∷ q ∷ places) place [] one stand = absurd stand.1
but_last o log (p ∷ places) place (x ∷ own) one stand = (stand.0, but_last o log places place own one stand.1)

-- ## Whom an entry names

is_some_of : (caller : ℕ) (o : Option ℕ) → is_it caller o ≡ true → o ≡ Some caller
is_some_of caller None is = absurd cc
is_some_of caller (Some n) is = ap (λ (m : ℕ). Some m) (sym (eqb-true caller n is))

pub has_named : (caller : ℕ) (o : Option ℕ) (more : List Name) → is_it caller o ≡ true → Has (names.Caller caller) (caller_names o ++ more)
has_named caller None more is = absurd cc
has_named caller (Some n) more is = inl (ap names.Caller (eqb-true caller n is))

at_some : {A : Type 0} (P : A → Type 0) (o : Option A) (x : A) → o ≡ Some x → IfSome o P → P x
at_some P o x is all = subst (λ (o : Option _). IfSome o P) is all

-- ## Who was made

pub made_behind : (l : Limits) (f : Flat) (number : ℕ) (front longer : List Entry) → IsPrefix front longer
    → has_made l f number front ≡ true → has_made l f number longer ≡ true
made_behind l f number front longer is made = subst (λ (es : List Entry). has_made l f number es ≡ true) is.1
    (caller_more l f number front is.0 made)

not_made_at : (l : Limits) (f : Flat) (number : ℕ) (front longer : List Entry) → IsPrefix front longer → has_made l f number longer ≡ false
    → (b : Bool) → has_made l f number front ≡ b → has_made l f number front ≡ false
not_made_at l f number front longer is none true made = let made' = made_behind l f number front longer is made in absurd cc
not_made_at l f number front longer is none false made = made

-- who wasn't made by the whole wasn't by a front
pub not_made_before : (l : Limits) (f : Flat) (number : ℕ) (front longer : List Entry) → IsPrefix front longer
    → has_made l f number longer ≡ false → has_made l f number front ≡ false
not_made_before l f number front longer is none = not_made_at l f number front longer is none (has_made l f number front) refl

-- ## Behind a going

module _ (o : Opening) (begins : IsOpening o.limits o.first) (caller : ℕ) where
  -- whoever an entry names is there
  named_there : (front : List Entry) (e : Entry) (rest : List Entry) → IsLegal o.limits o.first (front ++ e ∷ rest)
      → names_caller caller e.1 ≡ true → IsTrue (is_caller (run_state o.limits o.first front) caller)
  named_there front e rest legal named =
      at_some (λ (n : ℕ). IsTrue (is_caller (run_state o.limits o.first front) n)) (caller_named e.1) caller
      (is_some_of caller (caller_named e.1) named)
      (caller_there o.limits (run_state o.limits o.first front) e.0 e.1 (may_behind o.limits o.first front e rest legal))

  gone_there : (log : List Entry) (place moment : ℕ) → IsLegal o.limits o.first log
      → StandsAt o log place (made_of (moment, Gone caller) answers.Done) → is_caller (state o.limits o.first log) caller ≡ false
  gone_there log place moment legal goes =
      gone_for_good o.limits o.first log (begun o.limits o.first begins) legal caller goes.front (moment, Gone caller) goes.rest goes.is
      (eq-eqb caller caller refl)

  contradicts : (front : List Entry) → is_caller (state o.limits o.first front) caller ≡ false
      → IsTrue (is_caller (run_state o.limits o.first front) caller) → ⊥
  contradicts front out there =
      let out' : is_caller (run_state o.limits o.first front) caller ≡ false =
      subst (λ (f : Flat). is_caller f caller ≡ false) (state_is o.limits o.first front) out in
      absurd cc

  -- nothing more names a caller that has gone
  pub named_only : (log longer : List Entry) (places : List ℕ) (place moment : ℕ) → IsPrefix log longer → Legal o.limits o.first longer
      → StandsAt o log place (made_of (moment, Gone caller) answers.Done)
      → NamedOnlyAt log caller places → NamedOnlyAt longer caller places
  named_only log longer places place moment is legal goes only front e rest split named =
      ⊎_elim
      (λ (w : Within log front e). only front e w.rest w.is named)
      (λ (p : IsPrefix log front).
      let whole : IsLegal o.limits o.first (front ++ e ∷ rest) = subst (IsLegal o.limits o.first) split
      (legal_made o.limits o.first longer legal) in
      let before : IsLegal o.limits o.first front = made_front o.limits o.first front (e ∷ rest) whole in
      absurd (contradicts front (gone_there front place moment before (stands_behind o log front place
      (made_of (moment, Gone caller) answers.Done) p goes)) (named_there front e rest whole named)))
      (split_at log is.0 front e rest (is.1 ∙ split))

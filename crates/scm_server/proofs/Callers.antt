-- Whose a caller is: who joined as one principal didn't join as another.
use Rattle.std.proofs.Common.{◌≡◌, ◌∙◌, ◌⊎◌, ℕ, true, false, List, [], ◌∷◌, ◌++◌, Some, sym, ap, subst, inl, inr, ⊎_elim, eq-eqb}
use Rattle.std.proofs.Common.{append_assoc}
use mathlib.Core.List.{IsPrefix}
use Rattle.scm_model.specs.declared.flat.Principal.{Principal}
use Rattle.scm_model.specs.declared.flat.Principal.TheVariants.{Admin, User}
use Rattle.scm_model.specs.declared.steps.Answer.TheVariants as answers
use Rattle.scm_model.specs.declared.steps.Step.TheVariants.{Joined}
use Rattle.scm_model.specs.Entries.{Entry}
use Rattle.scm_rules.specs.Histories.{Legal, answer, state}
use Rattle.scm_rules.specs.Named.{has_made}
use Rattle.scm_rules.specs.Opening.{IsOpening}
use Rattle.scm_rules.specs.Runs.{IsLegal}
use Rattle.scm_rules.specs.Steps.{step_of}
use Rattle.scm_runs.proofs.Histories.{legal_made, told}
use Rattle.scm_runs.proofs.Sound.{begun}
use Rattle.scm_history.specs.Anew.{MakesAnew}
use Rattle.scm_history.specs.Owned.{Made as Told, made_of}
use Rattle.scm_history.proofs.Anew.{makes_anew}
use Rattle.book_rule.specs.declared.view.Opening.{Opening}
use Rattle.conn_worker.specs.Owning.{StandAt, StandsAt}
use Rattle.scm_server.specs.Handling.{Handed, StandsForIt}
use Rattle.scm_book.proofs.Names.{caller_at}
use Rattle.scm_server.proofs.Entries.{made_behind}
use Rattle.scm_server.proofs.Lists.{Within, split_at}

-- ## Lists

none_is : {A : Type 0} (ys : List A) (d : A) (rest : List A) → [] ≡ ys ++ d ∷ rest → ⊥
none_is [] d rest is = absurd cc
none_is (y ∷ ys) d rest is = absurd cc

-- an element of a list with one more is that one, or stands in the list
snoc_split : {A : Type 0} (xs : List A) (e : A) (ys : List A) (d : A) (rest : List A) → xs ++ e ∷ [] ≡ ys ++ d ∷ rest → (e ≡ d)
    ⊎ IsPrefix (ys ++ d ∷ []) xs
snoc_split [] e [] d rest is = inl cc
snoc_split [] e (y ∷ ys) d rest is =
    let tails : [] ≡ ys ++ d ∷ rest = cc in
    absurd (none_is ys d rest tails)
snoc_split (x ∷ xs) e [] d rest is =
    let heads : x ≡ d = cc in
    inr (xs, ap (λ (z : _). z ∷ xs) (sym heads))
snoc_split (x ∷ xs) e (y ∷ ys) d rest is =
    let heads : x ≡ y = cc in
    let tails : xs ++ e ∷ [] ≡ ys ++ d ∷ rest = cc in
    ⊎_elim (λ (same : e ≡ d). inl same)
    (λ (p : IsPrefix (ys ++ d ∷ []) xs). inr (
      p.0,
      ap (λ (z : _). z ∷ ((ys ++ d ∷ []) ++ p.0)) (sym heads)
          ∙ ap (λ (zs : List _). x ∷ zs) p.1,
    ))
    (snoc_split xs e ys d rest tails)

-- ## Callers

joined_as : (m n : ℕ) (a b : Principal) → ◌≡◌ {A = Entry} (m, Joined a) (n, Joined b) → a ≡ b
joined_as m n a b is = let steps : Joined a ≡ Joined b = ap (λ (e : Entry). e.1) is in cc

module _ (o : Opening) (begins : IsOpening o.limits o.first) (log : List Entry) (legal : Legal o.limits o.first log) where
  -- a Joined that was told this caller makes it
  makes_it : (place moment : ℕ) (principal : Principal) (caller : ℕ) (stands : StandsAt o log place
      (made_of (moment, Joined principal) (answers.Caller caller))) → caller ≡ (state o.limits o.first stands.front).next.caller
  makes_it place moment principal caller stands =
      let l = o.limits in
      let f = o.first in
      let e : Entry = (moment, Joined principal) in
      let here : answer l f log place ≡ Some (step_of l (state l f stands.front) e.0 e.1).answer =
      (λ i. answer l f (stands.is i) (stands.at i)) ∙ told l f stands.front e stands.rest in
      let both : Some (answers.Caller caller) ≡ Some (answers.Caller (state l f stands.front).next.caller) = sym stands.told ∙ here in cc

  anew : (place moment : ℕ) (principal : Principal) (caller : ℕ) (stands : StandsAt o log place
      (made_of (moment, Joined principal) (answers.Caller caller))) → has_made o.limits o.first caller stands.front ≡ false
  anew place moment principal caller stands =
      let whole : IsLegal o.limits o.first log = legal_made o.limits o.first log legal in
      let new : MakesAnew o.limits o.first stands.front (moment, Joined principal) =
      makes_anew o.limits o.first log (begun o.limits o.first begins) whole stands.front
      (moment, Joined principal) stands.rest stands.is in
      subst (λ (n : ℕ). has_made o.limits o.first n stands.front ≡ false) (sym (makes_it place moment principal caller stands)) new.joined

  makes_by : (place moment : ℕ) (principal : Principal) (caller : ℕ) (stands : StandsAt o log place
      (made_of (moment, Joined principal) (answers.Caller caller))) (longer : List Entry)
      → IsPrefix (stands.front ++ (moment, Joined principal) ∷ []) longer → has_made o.limits o.first caller longer ≡ true
  makes_by place moment principal caller stands longer is =
      made_behind o.limits o.first caller (stands.front ++ (moment, Joined principal) ∷ []) longer is
      (caller_at o.limits o.first caller stands.front (moment, Joined principal) []
      (eq-eqb caller (state o.limits o.first stands.front).next.caller (makes_it place moment principal caller stands)))

  absurd_made : (caller : ℕ) (front : List Entry) → has_made o.limits o.first caller front ≡ false
      → has_made o.limits o.first caller front ≡ true → ⊥
  absurd_made caller front none some = absurd cc

  -- no two Joined that differ were told the same caller
  two : (p q m n : ℕ) (a b : Principal) (caller : ℕ) (first : StandsAt o log p (made_of (m, Joined a) (answers.Caller caller)))
      (other : StandsAt o log q (made_of (n, Joined b) (answers.Caller caller))) → (a ≡ b → ⊥) → ⊥
  two p q m n a b caller first other differ =
      let e : Entry = (m, Joined a) in
      let d : Entry = (n, Joined b) in
      let split : (first.front ++ e ∷ []) ++ first.rest ≡ other.front ++ d ∷ other.rest = append_assoc first.front (e ∷ []) first.rest
      ∙ (sym first.is ∙ other.is) in
      ⊎_elim
      (λ (w : Within (first.front ++ e ∷ []) other.front d). ⊎_elim (λ (same : e ≡ d). differ (joined_as m n a b same))
      (λ (is : IsPrefix (other.front ++ d ∷ []) first.front). absurd_made caller first.front (anew p m a caller first)
      (makes_by q n b caller other first.front is))
      (snoc_split first.front e other.front d w.rest w.is))
      (λ (is : IsPrefix (first.front ++ e ∷ []) other.front). absurd_made caller other.front (anew q n b caller other)
      (makes_by p m a caller first other.front is))
      (split_at (first.front ++ e ∷ []) first.rest other.front d other.rest split)

  first_of : (places : List ℕ) (one : Told) (more : List Told) → StandAt o log places (one ∷ more) → (place : ℕ) × StandsAt o log place one
  first_of [] one more stand = absurd stand
  first_of (place ∷ places) one more stand = (place, stand.0)

  -- so none stands for an administrator's connection and a user's
  pub one_principal : (tells : ℕ → Type 0) (g h : Handed) (caller : ℕ) → StandsForIt tells o log Admin g caller
      → StandsForIt tells o log User h caller → ⊥
  one_principal tells g h caller admin user =
      let first = first_of admin.places (made_of (admin.joined, Joined Admin) (answers.Caller caller)) admin.entries admin.stand in
      let other = first_of user.places (made_of (user.joined, Joined User) (answers.Caller caller)) user.entries user.stand in
      two first.0 other.0 admin.joined user.joined Admin User caller first.1 other.1 (λ same. absurd cc)

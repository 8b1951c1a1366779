-- Whom the entries of a history make and name.
use Rattle.std.proofs.Common.{ℕ, ◌≡◌, ◌∙◌, ◌||◌, ◌⊎◌, inl, inr, ⊎_elim, Bool, true, false, IsTrue, List, [], ◌∷◌, ◌++◌, Option, None, Some}
use Rattle.std.proofs.Common.{refl, ap, sym, subst, eq-eqb}
use Rattle.std.specs.Prelude.{IfSome}
use Rattle.scm_model.specs.declared.flat.Flat.{Flat}
use Rattle.scm_model.specs.declared.flat.Limits.{Limits}
use Rattle.scm_model.specs.declared.steps.Name.{Name}
use Rattle.scm_model.specs.declared.steps.Name.TheVariants as names
use Rattle.scm_model.specs.Entries.{Entry}
use Rattle.scm_rules.specs.Histories.{state}
use Rattle.scm_rules.specs.Named.{caller_made, caller_named, has_made, has_taken, is_it, makes_caller, process_named, process_taken}
use Rattle.scm_rules.specs.Named.{takes_process}
use Rattle.scm_rules.specs.Steps.{step_of}
use Rattle.scm_history.specs.Anew.{MakesAnew}
use Rattle.scm_history.specs.Made.{StandsBehind}
use Rattle.book_rule.specs.Ways.{Has}
use Rattle.book_rule.proofs.Places.{has_cases}
use Rattle.scm_book.specs.Naming.{caller_names, names_made, all_names, process_names}

-- ## Tests

or_left : (a b : Bool) → a ≡ true → (a || b) ≡ true
or_left a b is = ap (λ (x : Bool). x || b) is

or_right : (a b : Bool) → b ≡ true → (a || b) ≡ true
or_right true b is = refl
or_right false b is = is

or_more : (a b c : Bool) → (b ≡ true → c ≡ true) → (a || b) ≡ true → (a || c) ≡ true
or_more true b c later is = refl
or_more false b c later is = later is

is_itself : (number : ℕ) (o : Option ℕ) → o ≡ Some number → is_it number o ≡ true
is_itself number o is = ap (is_it number) is ∙ eq-eqb number number refl

pub at_some : {A : Type 0} (P : A → Type 0) (o : Option A) (x : A) → o ≡ Some x → IfSome o P → P x
at_some P o x is all = subst (λ (o : Option _). IfSome o P) is all

-- ## One of an option

-- a caller of these
record IsCaller (o : Option ℕ) (n : Name) : Type 0 where
  number : ℕ
  name : n ≡ names.Caller number
  is : o ≡ Some number

record IsProcess (o : Option ℕ) (n : Name) : Type 0 where
  number : ℕ
  name : n ≡ names.Process number
  is : o ≡ Some number

in_callers : (o : Option ℕ) (n : Name) → Has n (caller_names o) → IsCaller o n
in_callers None n has = absurd has
in_callers (Some number) n (inl is) = record { number = number; name = is; is = refl }
in_callers (Some number) n (inr bad) = absurd bad

in_processes : (o : Option ℕ) (n : Name) → Has n (process_names o) → IsProcess o n
in_processes None n has = absurd has
in_processes (Some number) n (inl is) = record { number = number; name = is; is = refl }
in_processes (Some number) n (inr bad) = absurd bad

in_either : (a b : Option ℕ) (n : Name) → Has n (caller_names a ++ process_names b) → IsCaller a n ⊎ IsProcess b n
in_either a b n has = ⊎_elim (λ (one : Has n (caller_names a)). inl (in_callers a n one))
    (λ (one : Has n (process_names b)). inr (in_processes b n one)) (has_cases n (caller_names a) (process_names b) has)

-- ## Made by a history

-- whether an entry of a history made this one
abbrev pub has_name : Limits → Flat → Name → List Entry → Bool
has_name l f (names.Caller caller) log = has_made l f caller log
has_name l f (names.Process process) log = has_taken l f process log

pub caller_at : (l : Limits) (f : Flat) (number : ℕ) (front : List Entry) (e : Entry) (rest : List Entry)
    → makes_caller (state l f front) number e.1 ≡ true → has_made l f number (front ++ e ∷ rest) ≡ true
unfolding state
caller_at l f number [] e rest is = or_left (makes_caller f number e.1) (has_made l (step_of l f e.0 e.1).flat number rest) is
caller_at l f number (x ∷ front) e rest is =
    or_right (makes_caller f number x.1) (has_made l (step_of l f x.0 x.1).flat number (front ++ e ∷ rest))
    (caller_at l (step_of l f x.0 x.1).flat number front e rest is)

process_at : (l : Limits) (f : Flat) (number : ℕ) (front : List Entry) (e : Entry) (rest : List Entry)
    → takes_process (state l f front) number e.1 ≡ true → has_taken l f number (front ++ e ∷ rest) ≡ true
unfolding state
process_at l f number [] e rest is = or_left (takes_process f number e.1) (has_taken l (step_of l f e.0 e.1).flat number rest) is
process_at l f number (x ∷ front) e rest is =
    or_right (takes_process f number x.1) (has_taken l (step_of l f x.0 x.1).flat number (front ++ e ∷ rest))
    (process_at l (step_of l f x.0 x.1).flat number front e rest is)

pub caller_more : (l : Limits) (f : Flat) (number : ℕ) (front rest : List Entry) → has_made l f number front ≡ true
    → has_made l f number (front ++ rest) ≡ true
caller_more l f number [] rest is = absurd cc
caller_more l f number (x ∷ front) rest is =
    let later = (step_of l f x.0 x.1).flat in
    or_more (makes_caller f number x.1) (has_made l later number front) (has_made l later number (front ++ rest))
    (caller_more l later number front rest) is

process_more : (l : Limits) (f : Flat) (number : ℕ) (front rest : List Entry) → has_taken l f number front ≡ true
    → has_taken l f number (front ++ rest) ≡ true
process_more l f number [] rest is = absurd cc
process_more l f number (x ∷ front) rest is =
    let later = (step_of l f x.0 x.1).flat in
    or_more (takes_process f number x.1) (has_taken l later number front) (has_taken l later number (front ++ rest))
    (process_more l later number front rest) is

-- who was made by a front was made by the whole
pub made_more : (l : Limits) (f : Flat) (n : Name) (front rest : List Entry) → has_name l f n front ≡ true
    → has_name l f n (front ++ rest) ≡ true
made_more l f (names.Caller caller) front rest is = caller_more l f caller front rest is
made_more l f (names.Process process) front rest is = process_more l f process front rest is

module _ (l : Limits) (f : Flat) (n : Name) (front : List Entry) (e : Entry) where
  -- whom an entry makes is made by the history
  pub made_at : (rest : List Entry) → Has n (names_made (state l f front) e.1) → has_name l f n (front ++ e ∷ rest) ≡ true
  made_at rest has = ⊎_elim
      (λ (c : IsCaller (caller_made (state l f front) e.1) n). subst (λ (m : Name). has_name l f m (front ++ e ∷ rest) ≡ true) (sym c.name)
      (caller_at l f c.number front e rest (is_itself c.number (caller_made (state l f front) e.1) c.is)))
      (λ (p : IsProcess (process_taken (state l f front) e.1) n). subst (λ (m : Name). has_name l f m (front ++ e ∷ rest) ≡ true)
      (sym p.name)
      (process_at l f p.number front e rest (is_itself p.number (process_taken (state l f front) e.1) p.is)))
      (in_either (caller_made (state l f front) e.1) (process_taken (state l f front) e.1) n has)

  -- and was not before
  pub not_before : MakesAnew l f front e → Has n (names_made (state l f front) e.1) → has_name l f n front ≡ false
  not_before anew has = ⊎_elim
      (λ (c : IsCaller (caller_made (state l f front) e.1) n). subst (λ (m : Name). has_name l f m front ≡ false) (sym c.name)
      (at_some (λ (number : ℕ). has_made l f number front ≡ false) (caller_made (state l f front) e.1) c.number c.is anew.joined))
      (λ (p : IsProcess (process_taken (state l f front) e.1) n). subst (λ (m : Name). has_name l f m front ≡ false) (sym p.name)
      (at_some (λ (number : ℕ). has_taken l f number front ≡ false) (process_taken (state l f front) e.1) p.number p.is anew.taken))
      (in_either (caller_made (state l f front) e.1) (process_taken (state l f front) e.1) n has)

  -- whom an entry names was made before
  pub named_before : StandsBehind l f front e → Has n (all_names e.1) → has_name l f n front ≡ true
  named_before stands has = ⊎_elim
      (λ (c : IsCaller (caller_named e.1) n). subst (λ (m : Name). has_name l f m front ≡ true) (sym c.name)
      (at_some (λ (number : ℕ). IsTrue (has_made l f number front)) (caller_named e.1) c.number c.is stands.caller))
      (λ (p : IsProcess (process_named e.1) n). subst (λ (m : Name). has_name l f m front ≡ true) (sym p.name)
      (at_some (λ (number : ℕ). IsTrue (has_taken l f number front)) (process_named e.1) p.number p.is stands.process))
      (in_either (caller_named e.1) (process_named e.1) n has)

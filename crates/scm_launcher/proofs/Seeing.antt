-- What passes have seen behind what they had.
use Rattle.std.proofs.Common.{◌≡◌, ◌∙◌, ℕ, Bool, true, false, cond, nat_lt, List, Option, ap, length, subst, sym}
use mathlib.Core.List.{IsPrefix}
use Rattle.scm_model.specs.declared.steps.Answer.{Answer}
use Rattle.scm_model.specs.declared.steps.Step.{Step}
use Rattle.scm_model.specs.Entries.{Entry}
use Rattle.scm_rules.specs.Histories.{Legal}
use Rattle.book_rule.specs.declared.view.Opening.{Opening}
use Rattle.book_rule.specs.Seats.{Identity}
use Rattle.book_rule.proofs.Prefixes.{prefix_self, prefix_snoc, prefix_trans}
use Rattle.scm_book.specs.declared.processes.EndedEnd.{EndedEnd}
use Rattle.scm_book.specs.declared.processes.EndedEnd.TheVariants as ends
use Rattle.scm_book.specs.Joins.{TakesIn}
use Rattle.scm_book.specs.Passes.{IsOf, Known, Made}
use Rattle.scm_book.specs.Processes.{EndedSo}
use Rattle.child_runner.specs.declared.sending.ControlsSent.{ControlsSent}
use Rattle.child_runner.specs.declared.served.ChildServed.{ChildServed}
use Rattle.child_runner.specs.Launches.{Spawning, TakesAndTells}
use Rattle.child_runner.specs.Sending.{Sends}
use Rattle.scm_launcher.specs.declared.children.Next.{Next}
use Rattle.scm_launcher.specs.declared.children.Next.TheVariants as nexts
use Rattle.scm_launcher.specs.Children.{ServesLink}
use Rattle.scm_launcher.specs.Launches.{Hands, LooksOn}
use Rattle.scm_launcher.specs.Past.{IfReady, SawLegal, SeesOn}

-- a pass of a book that took another in is of it
pub of_in : (b : Identity) (by spent by' : Known) → TakesIn by spent by' → IsOf b by → IsOf b by'
of_in b by spent by' takes of = record {
  table = ap (λ (x : Known). x.table) takes.same ∙ of.table;
  opening = ap (λ (x : Known). x.opening) takes.same ∙ of.opening;
}

module _ (o : Opening) where
  -- ## One after another

  pub sees_none : (k : Known) → k.caller ≡ 0 → SeesOn o k k
  sees_none k nobody = record { longer = prefix_self k.seen; legal = λ l. l; nobody = nobody }

  pub sees_then : (k m k' : Known) → SeesOn o k m → SeesOn o m k' → SeesOn o k k'
  sees_then k m k' one other = record {
    longer = prefix_trans k.seen m.seen k'.seen one.longer other.longer;
    legal = λ l. other.legal (one.legal l);
    nobody = other.nobody;
  }

  pub sees_spent : (k m m' k' : Known) → SeesOn o k m → SeesOn o m m' → (m'.caller ≡ 0 → k' ≡ m') → SeesOn o k k'
  sees_spent k m m' k' one other goes = subst (λ (x : Known). SeesOn o k x) (sym (goes other.nobody)) (sees_then k m m' one other)

  -- ## A spent pass that is taken in

  one_of : (P : List Entry → Type 0) (b : Bool) (xs ys : List Entry) → P xs → P ys → P (cond b ys xs)
  one_of P true xs ys p q = q
  one_of P false xs ys p q = p

  pub sees_in : (by spent by' : Known) → TakesIn by spent by' → SawLegal o spent → by.caller ≡ 0 → SeesOn o by by'
  sees_in by spent by' takes legal nobody = record {
    longer = takes.this;
    legal = λ l. subst (λ (x : Known). SawLegal o x) (sym takes.same)
        (one_of (λ (log : List Entry). Legal o.limits o.first log) (nat_lt (length by.seen) (length spent.seen)) by.seen spent.seen l
        legal);
    nobody = ap (λ (x : Known). x.caller) takes.same ∙ nobody;
  }

  -- ## A look

  made_longer : (k k' : Known) (moment : ℕ) (step : Step) (told : Answer) → Made o k moment step told k' → IsPrefix k.seen k'.seen
  made_longer k k' moment step told made = subst (λ (log : List Entry). IsPrefix k.seen log) (sym made.seen)
      (prefix_snoc k.seen made.before (moment, step) made.longer)

  module _ (tells : ℕ → Type 0) where
    told_longer : (k k' : Known) (process : ℕ) (line : List ℕ × List (List ℕ)) (became : Step)
        → TakesAndTells o tells k process line became k' → IsPrefix k.seen k'.seen
    told_longer k k' process line became t =
        prefix_trans k.seen t.between.seen k'.seen (made_longer k t.between t.taken_at _ _ t.taken)
        (made_longer t.between k' t.told_at _ _ t.told)

    pub sees_looked : {L F : Type 0} (pid : L → ℕ) (gives : L → F → Type 0) (k : Known) (s : Spawning) (next : Next L F) (k' : Known)
        → LooksOn o tells pid gives k s next k' → k'.caller ≡ 0 → SeesOn o k k'
    sees_looked pid gives k s (nexts.Child child) k' i nobody = record {
      longer = subst (λ (x : Known). IsPrefix k.seen x.seen) (sym i.goes) (told_longer k i.launched child.process _ _ i.launches.1);
      legal = λ l. subst (λ (x : Known). SawLegal o x) (sym i.goes) i.launches.1.told.legal;
      nobody = nobody;
    }
    sees_looked pid gives k s (nexts.Failed process code) k' l nobody = record {
      longer = told_longer k k' process _ _ l.1;
      legal = λ before. l.1.told.legal;
      nobody = nobody;
    }
    sees_looked pid gives k s nexts.Empty k' l nobody = record { longer = l.0.longer; legal = λ before. l.0.legal; nobody = nobody }

    -- ## A child's passes

    end_legal : (k k' : Known) (process moment : ℕ) (ended : EndedEnd) → EndedSo o k moment process ended k' → SawLegal o k'
    end_legal k k' process moment ends.Taken so = so.0.legal
    end_legal k k' process moment ends.Stale so = so.0.legal

    pub served_legal : (process : ℕ) {L : Type 0} (left : L → Option (List ℕ)) (faults : L → ℕ) (ended : L → Option Bool) (link : L)
        (k : Known) (how : ChildServed) (k' : Known)
        → ServesLink tells o process left faults ended link k how k' → SawLegal o k'
    served_legal process left faults ended link k how k' s = end_legal s.serves.stood k' process s.serves.moment s.serves.ended
        s.serves.ends

    pub sent_legal : (process : ℕ) (may_ask : Type 0) (held held_now : Option (List ℕ)) (faults faults_now : ℕ) (k : Known)
        (how : ControlsSent) (k' : Known)
        → Sends tells o process may_ask k held held_now faults faults_now how k' → SawLegal o k → SawLegal o k'
    sent_legal process may_ask held held_now faults faults_now k how k' s legal = s.takes.legal legal

-- a child that is handed out by a look is ready
pub if_ready : (b : Identity) (tells : ℕ → Type 0) {L F : Type 0} (pid : L → ℕ) (gives : L → F → Type 0) (k : Known) (s : Spawning)
    (next : Next L F) (k' : Known)
    → LooksOn b.opening tells pid gives k s next k' → Hands b next → IfReady b next
if_ready b tells pid gives k s (nexts.Child child) k' i handed = record {
  handed = handed;
  legal = subst (λ (x : Known). SawLegal b.opening x) (sym i.other) i.launches.1.told.legal;
}
if_ready b tells pid gives k s (nexts.Failed process code) k' l handed = tt
if_ready b tells pid gives k s nexts.Empty k' l handed = tt

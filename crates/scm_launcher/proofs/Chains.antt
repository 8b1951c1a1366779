-- Ticks that follow others.
use Rattle.std.proofs.Common.{◌≡◌, ℕ, Bool, true, false, List, [], ◌∷◌, ◌++◌, ◌∙◌, All, ap, inr, refl, subst, sym}
use Rattle.std.proofs.lemmas.List.Elements.{All-push}
use Rattle.book_rule.specs.declared.view.Opening.{Opening}
use Rattle.scm_book.specs.declared.fault.MakeFault.TheVariants as makes
use Rattle.scm_book.specs.declared.processes.TickEnd.{TickEnd}
use Rattle.scm_book.specs.declared.processes.TickEnd.TheVariants as ticks
use Rattle.scm_book.specs.Passes.{Known}
use Rattle.scm_book.specs.Reporting.{TickEnds}
use Rattle.scm_launcher.specs.Ticks.{Chain, IsTicked, IsTicksEnd, TicksOn, no_room}

module _ (tells : ℕ → Type 0) (o : Opening) where
  -- ticks that found room lead from k to m
  pub record Ticked (k m : Known) : Type 0 where
    pub ends : List TickEnd
    pub chain : Chain tells o k m ends
    pub room : All (λ end. no_room end ≡ false) ends

  -- a tick behind a chain
  pub chain_then : (k m k' : Known) (done : List TickEnd) (end : TickEnd) → Chain tells o k m done → IsTicked tells o m end k'
      → Chain tells o k k' (done ++ end ∷ [])
  chain_then k m k' [] end first then = subst (λ (x : Known). Chain tells o x k' (end ∷ [])) first (k', then, refl)
  chain_then k m k' (d ∷ done) end first then = (first.0, first.1, chain_then first.0 m k' done end first.2 then)

  -- a tick that found room, after others that did
  pub one_more : (k m k' : Known) (moment : ℕ) (end : TickEnd) → tells moment → TickEnds o m moment end k' → no_room end ≡ false
      → Ticked k m → Ticked k k'
  one_more k m k' moment end told ends room so = record {
    ends = so.ends ++ end ∷ [];
    chain = chain_then k m k' so.ends end so.chain (record { moment = moment; told = told; ends = ends });
    room = All-push (λ e. no_room e ≡ false) so.ends end so.room room;
  }

  pub ticked : (k m k' : Known) (moment : ℕ) (end : TickEnd) → tells moment → TickEnds o m moment end k' → Ticked k m → TicksOn tells o k k'
  ticked k m k' moment end told ends so = record {
    before = so.ends;
    last = end;
    chain = chain_then k m k' so.ends end so.chain (record { moment = moment; told = told; ends = ends });
    room = so.room;
  }

  caller_kept : (k m : Known) (end : TickEnd) (moment : ℕ) → TickEnds o k moment end m → m.caller ≡ k.caller
  caller_kept k m ticks.Ticked moment e = e.made.caller
  caller_kept k m ticks.Idle moment e = e.0.caller
  caller_kept k m (ticks.Unmade makes.Full) moment e = e.0.learnt.caller
  caller_kept k m (ticks.Unmade makes.OutOfMemory) moment e = e.0.learnt.caller

  callers_kept : (k k' : Known) (ends : List TickEnd) → Chain tells o k k' ends → k'.caller ≡ k.caller
  callers_kept k k' [] c = ap (λ (x : Known). x.caller) c
  callers_kept k k' (end ∷ more) c = callers_kept c.0 k' more c.2 ∙ caller_kept k c.0 end c.1.moment c.1.ends

  -- a pass that was nobody's is spent as it ticked last
  pub spent_as : (k m k' : Known) → (m.caller ≡ 0 → k' ≡ m) → k.caller ≡ 0 → TicksOn tells o k m → k' ≡ m
  spent_as k m k' goes nobody ticked = goes (callers_kept k m (ticked.before ++ ticked.last ∷ []) ticked.chain ∙ nobody)

  pub spent : (k m k' : Known) → (m.caller ≡ 0 → k' ≡ m) → k.caller ≡ 0 → TicksOn tells o k m → TicksOn tells o k k'
  spent k m k' goes nobody ticked = subst (λ (x : Known). TicksOn tells o k x) (sym (spent_as k m k' goes nobody ticked)) ticked

  pub spent_end : (asked : Type 0) (k m k' : Known) → (m.caller ≡ 0 → k' ≡ m) → k.caller ≡ 0 → TicksOn tells o k m → IsTicksEnd asked o m
      → IsTicksEnd asked o k'
  spent_end asked k m k' goes nobody ticked end = subst (IsTicksEnd asked o) (sym (spent_as k m k' goes nobody ticked)) end

-- one that found no room ends it
pub full_end : (asked : Type 0) (o : Opening) (k k' : Known) (moment : ℕ) (end : TickEnd) → TickEnds o k moment end k' → no_room end ≡ true
    → IsTicksEnd asked o k'
full_end asked o k k' moment (ticks.Unmade makes.Full) ends full = inr ends.0.full
full_end asked o k k' moment ticks.Ticked ends full = absurd cc
full_end asked o k k' moment ticks.Idle ends full = absurd cc
full_end asked o k k' moment (ticks.Unmade makes.OutOfMemory) ends full = absurd cc

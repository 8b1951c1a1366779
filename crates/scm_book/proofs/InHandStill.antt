-- What a pass has in hand it has still behind its caller's calls.
use Rattle.std.proofs.Common.{◌≡◌, ◌≢◌, ℕ, inl, inr, false, List, [], ◌∷◌, ◌++◌, Option, None, Some, Result, Ok, Err, refl, sym, ◌∙◌}
use Rattle.std.proofs.Common.{subst, ne_eqb}
use Rattle.std.specs.Prelude.{option_map}
use Rattle.scm_model.specs.declared.flat.Plan.{Plan}
use Rattle.scm_model.specs.declared.calls.Request.{Request}
use Rattle.scm_model.specs.declared.flat.Principal.{Principal}
use Rattle.scm_model.specs.declared.steps.Answer.{Answer}
use Rattle.scm_model.specs.declared.steps.Answer.TheVariants as answers
use Rattle.scm_model.specs.declared.steps.Name.TheVariants as names
use Rattle.scm_model.specs.declared.steps.Step.{Step}
use Rattle.scm_model.specs.declared.steps.Step.TheVariants.{Call, EndStart, Joined, NoMemory, Raised}
use Rattle.scm_model.specs.Entries.{Entry}
use Rattle.start_plan.specs.Decided.{plan_caller, plan_of}
use Rattle.scm_rules.specs.Histories.{Legal, state}
use Rattle.scm_runs.proofs.Along.{along}
use Rattle.scm_runs.proofs.Calls.{keeps}
use Rattle.scm_runs.proofs.Histories.{at_entry, legal_made, told}
use Rattle.scm_runs.proofs.Sound.{Sound, begun}
use Rattle.scm_owed.proofs.Histories.{legal_front}
use Rattle.scm_history.specs.Callers.{takes_leave}
use Rattle.scm_history.specs.Plans.{IsPlanOf, PlansAreTheirCallers, ends_plan}
use Rattle.scm_history.proofs.Plans.{gives as plans_stay}
use Rattle.book_rule.specs.declared.view.Opening.{Opening}
use Rattle.book_rule.specs.Ways.{Has}
use Rattle.scm_book.specs.declared.answers.CallEnd.{CallEnd}
use Rattle.scm_book.specs.declared.answers.CallEnd.TheVariants as calls
use Rattle.scm_book.specs.declared.answers.StartEnd.{StartEnd}
use Rattle.scm_book.specs.declared.answers.StartEnd.TheVariants as starts
use Rattle.scm_book.specs.declared.fault.MakeFault.{MakeFault}
use Rattle.scm_book.specs.declared.fault.MakeFault.TheVariants as makes
use Rattle.scm_book.specs.Called.{AnsweredSo, Calls, CallsInto, Raises, StartsAs}
use Rattle.scm_book.specs.Holds.{Opens}
use Rattle.scm_book.specs.Joins.{JoinsAs}
use Rattle.scm_book.specs.Naming.{all_names}
use Rattle.scm_book.specs.Passes.{HasPlan, KeepsAll, Known, Learnt, Made}
use Rattle.scm_book.specs.Starts.{KeepsAllButPlan}
use Rattle.scm_book.proofs.Lasting.{keeps_seen, process_lasts}

no_process : (caller process : ℕ) → Has (names.Process process) (names.Caller caller ∷ []) → ⊥
no_process caller process (inl is) = absurd cc
no_process caller process (inr bad) = bad

-- a plan that is there aims at a service
aimed : (found : Option Plan) (caller : ℕ) → option_map (λ (plan : Plan). plan.caller) found ≡ Some caller → (target : ℕ)
    × (option_map (λ (plan : Plan). plan.target) found ≡ Some target)
aimed None caller is = absurd cc
aimed (Some plan) caller is = (plan.target, refl)

module _ (o : Opening) (opens : Opens o) where
  -- a plan stays by an entry that neither ends it nor is its caller's going
  plan_kept : (log : List Entry) (e : Entry) (c number : ℕ) → c ≢ 0 → Legal o.limits o.first (log ++ e ∷ []) → ends_plan number e.1 ≡ false
      → takes_leave c e.1 ≡ false
      → plan_caller (state o.limits o.first log).plans number ≡ Some c →
      plan_caller (state o.limits o.first (log ++ e ∷ [])).plans number ≡ Some c
  plan_kept log e c number somebody legal ends leaves there =
      let l = o.limits in
      let f = o.first in
      let es = log ++ e ∷ [] in
      let aim = aimed (plan_of (state l f log).plans number) c there in
      let after : IsPlanOf (state l f es) number c aim.0 =
      at_entry PlansAreTheirCallers l f es (along Sound PlansAreTheirCallers l (keeps l) (plans_stay l) f es (begun l f opens.begins)
      (legal_made l f es legal)) log e [] _ refl (told l f log e [])
      number c aim.0 (record { callers = there; aims = aim.1 }) (ne_eqb c 0 somebody) ends leaves in
      after.callers

  module _ (k k' : Known) where
    pub learnt_keeps : Learnt o k k' → KeepsAll o k k'
    learnt_keeps learnt = keeps_seen o opens k k' learnt.longer learnt.legal learnt.until learnt.names learnt.caller

    module _ (moment : ℕ) (step : Step) (told : Answer) (made : Made o k moment step told k') (whose : k'.caller ≡ k.caller)
        (leaves : takes_leave k.caller step ≡ false) where
      pub plan_still : (plan : ℕ) → ends_plan plan step ≡ false → HasPlan o k plan → HasPlan o k' plan
      plan_still plan ends has =
          let e : Entry = (moment, step) in
          let legal : Legal o.limits o.first (made.before ++ e ∷ []) = subst (Legal o.limits o.first) made.seen made.legal in
          let front : Legal o.limits o.first made.before = legal_front o.limits o.first made.before (e ∷ []) legal in
          let then : HasPlan o (record k { seen = made.before }) plan =
          (keeps_seen o opens k (record k { seen = made.before }) made.longer front made.until refl refl).plans plan has in record {
            caller = λ none. has.caller (sym whose ∙ none);
            there = subst (λ (c : ℕ). plan_caller (state o.limits o.first k'.seen).plans plan ≡ Some c) (sym whose)
                (subst (λ (l : List Entry). plan_caller (state o.limits o.first l).plans plan ≡ Some k.caller) (sym made.seen)
                (plan_kept made.before e k.caller plan has.caller legal ends leaves then.there));
          }

      -- a step that ends no plan, and is of no process
      pub made_keeps : ((plan : ℕ) → ends_plan plan step ≡ false) → ((process : ℕ) → Has (names.Process process) (all_names step) → ⊥)
          → KeepsAll o k k'
      made_keeps ends unnamed = record {
        processes = λ process phase. process_lasts o opens k k' moment step told made process phase (unnamed process);
        plans = λ plan. plan_still plan (ends plan);
      }

    -- who joins has in hand what it had, as nobody
    pub joins_keep : (moment : ℕ) (principal : Principal) (number : ℕ) → k.caller ≡ 0 → JoinsAs o k moment principal k' number
        → KeepsAll o k k'
    joins_keep moment principal number nobody joins = record {
      processes = λ process phase. process_lasts o opens k k' moment (Joined principal)
          (answers.Caller number) joins.made.made process phase (λ has. absurd has);
      plans = λ plan has. absurd (has.caller nobody);
    }

    -- ## The calls

    answered_keeps : (moment : ℕ) (asked : Request) (reply : _) → AnsweredSo o k moment asked reply k' → KeepsAll o k k'
    answered_keeps moment asked reply (inl so) = made_keeps moment (Call k.caller asked so.append) _ so.made so.made.caller refl
        (λ plan. refl) (no_process k.caller)
    answered_keeps moment asked reply (inr none) = made_keeps moment (NoMemory k.caller) _ none.made.made none.made.made.caller refl
        (λ plan. refl) (no_process k.caller)

    pub calls_keep : (moment : ℕ) (asked : Request) (end : CallEnd) → Calls o k moment asked k' end → KeepsAll o k k'
    calls_keep moment asked (calls.Answered reply) ends = answered_keeps moment asked reply ends
    calls_keep moment asked (calls.Unmade makes.Full) ends = learnt_keeps ends.learnt
    calls_keep moment asked (calls.Unmade makes.OutOfMemory) ends = learnt_keeps ends.learnt

    pub into_keeps : (moment : ℕ) (asked : Request) (end : Result (Unit {0}) MakeFault) (told : Answer)
        → CallsInto o k moment asked k' end told → KeepsAll o k k'
    into_keeps moment asked (Ok done) (answers.Reply reply) ends = answered_keeps moment asked reply ends
    into_keeps moment asked (Ok done) told ends = absurd ends
    into_keeps moment asked (Err makes.Full) told ends = learnt_keeps ends.learnt
    into_keeps moment asked (Err makes.OutOfMemory) told ends = learnt_keeps ends.learnt

    pub raises_keep : (moment : ℕ) (subtype : List ℕ) (end : CallEnd) → Raises o k moment subtype k' end → KeepsAll o k k'
    raises_keep moment subtype (calls.Answered reply) (inl so) = made_keeps moment
        (Raised k.caller subtype) _ so.made.made so.made.made.caller refl (λ plan. refl) (no_process k.caller)
    raises_keep moment subtype (calls.Answered reply) (inr none) = made_keeps moment
        (NoMemory k.caller) _ none.made.made none.made.made.caller refl (λ plan. refl) (no_process k.caller)
    raises_keep moment subtype (calls.Unmade makes.Full) ends = learnt_keeps ends.learnt
    raises_keep moment subtype (calls.Unmade makes.OutOfMemory) ends = learnt_keeps ends.learnt

    pub starts_keep : (moment : ℕ) (asked : Request) (end : StartEnd) → StartsAs o k moment asked k' end → KeepsAll o k k'
    starts_keep moment asked (starts.Answered reply) ends = answered_keeps moment asked reply ends
    starts_keep moment asked (starts.Waiting plan) ends =
        made_keeps moment (Call k.caller asked ends.made.append) _ ends.made.made ends.made.made.caller refl (λ plan. refl)
        (no_process k.caller)
    starts_keep moment asked (starts.Unmade makes.Full) ends = learnt_keeps ends.learnt
    starts_keep moment asked (starts.Unmade makes.OutOfMemory) ends = learnt_keeps ends.learnt

    pub end_keeps : (moment plan : ℕ) (told : Answer) → Made o k moment (EndStart k.caller plan) told k' → KeepsAllButPlan o plan k k'
    end_keeps moment plan told made = record {
      processes = λ process phase. process_lasts o opens k k' moment (EndStart k.caller plan) told made process phase
          (no_process k.caller process);
      plans = λ other apart. plan_still moment (EndStart k.caller plan) told made made.caller refl other (ne_eqb other plan apart);
    }

-- Numbers are given once.
use Rattle.std.specs.Prelude.{ℕ, ◌≡◌, ◌≤◌, ◌<◌, false, IsTrue, IfSome, is_some}
use Rattle.scm_model.specs.declared.flat.Flat.{Flat}
use Rattle.scm_model.specs.declared.steps.Answer.{Answer}
use Rattle.scm_model.specs.Rows.{is_caller}
use Rattle.start_plan.specs.Decided.{plan_of}
use Rattle.scm_rules.specs.Launches.{process_of}
use Rattle.scm_model.specs.Entries.{Entry}
use Rattle.scm_rules.specs.Named.{caller_made, plan_made}

-- a number is the next one, which is below the next one afterwards
pub record IsGiven (next later : ℕ) (number : ℕ) : Type 0 where
  pub is_next : number ≡ next
  pub below : number < later

-- the next numbers never fall; a caller that joins and a plan that waits have the next one; and who is there that wasn't before has a
-- number that was not given before
pub record AreMadeOnce (before : Flat) (e : Entry) (told : Answer) (after : Flat) : Type 0 where
  pub callers : before.next.caller ≤ after.next.caller
  pub processes : before.next.process ≤ after.next.process
  pub plans : before.next.plan ≤ after.next.plan
  pub joined : IfSome (caller_made before e.1) (IsGiven before.next.caller after.next.caller)
  pub begun : IfSome (plan_made told) (IsGiven before.next.plan after.next.plan)
  pub new_caller : (number : ℕ) → is_caller before number ≡ false → IsTrue (is_caller after number) → before.next.caller ≤ number
  pub new_process : (number : ℕ) → is_some (process_of before number) ≡ false → IsTrue (is_some (process_of after number))
      → before.next.process ≤ number
  pub new_plan : (number : ℕ) → is_some (plan_of before.plans number) ≡ false → IsTrue (is_some (plan_of after.plans number))
      → before.next.plan ≤ number

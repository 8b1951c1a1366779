-- The services whose state is about to change, and who sleeps for them.
use Rattle.std.proofs.Common.{ℕ, ◌≡◌, ◌||◌, true, false, List, [], ◌∷◌, refl, sym, subst, eqb, eqb-true, map, take, inl, inr}
use Rattle.scm_model.specs.declared.flat.Flat.{Flat}
use Rattle.scm_model.specs.declared.flat.Limits.{Limits}
use Rattle.scm_model.specs.declared.flat.Plan.{Plan}
use Rattle.scm_model.specs.declared.flat.Service.{Service}
use Rattle.start_plan.specs.Asleep.{AreAmong, ArePending, IsPending}
use Rattle.start_plan.specs.Entered.{process_for, started_if}
use Rattle.start_plan.specs.Hosts.{host}
use Rattle.start_plan.specs.Moves.{is_pending}
use Rattle.start_plan.specs.Resting.{Rests}
use Rattle.start_plan.specs.Settle.{settle_plan, unmoved}
use Rattle.start_plan.proofs.Fewer.{pending_rests}
use Rattle.start_plan.proofs.Keeps.{keeps_turn}
use Rattle.start_plan.proofs.Rests.{plan_still, state_after}
use Rattle.scm_text.specs.Numbers.{has}

-- ## What keeps it

-- whatever keeps each that is
pub pending_by : (rows others : List Service) → ((n : ℕ) → IsPending rows n → IsPending others n) → (ns : List ℕ) → ArePending rows ns
    → ArePending others ns
pending_by rows others keeps [] all = tt
pending_by rows others keeps (n ∷ ns) all = (keeps n all.0, pending_by rows others keeps ns all.1)

one_entered : (n p : ℕ) (rows : List Service) (x : ℕ) → IsPending rows x → IsPending (map (started_if n p) rows) x
one_entered n p rows x pending =
    elim (state_after n p x rows) as (λ _. IsPending (map (started_if n p) rows) x) [
      | inl stopped ↦ let yes : is_pending 1 ≡ true = rw stopped at pending in absurd cc
      | inr same ↦ rw same pending
    ]

-- entering a service
pub pending_entered : (n p : ℕ) (rows : List Service) (ns : List ℕ) → ArePending rows ns → ArePending (map (started_if n p) rows) ns
pending_entered n p rows ns all = pending_by rows (map (started_if n p) rows) (one_entered n p rows) ns all

-- settling a plan
pub pending_settled : (l : Limits) (f : Flat) (plan : Plan) (ns : List ℕ) → ArePending f.services ns
    → ArePending (settle_plan l f plan).flat.services ns
pending_settled l f plan ns all =
    keeps_turn l (λ g. ArePending g.services ns) (record {
      enters = λ g p s words entry pending. pending_entered s (process_for g (host g s)) g.services ns pending;
      tries = λ g p s entry q. tt;
      drops = λ p s rest code q. tt;
      meets = λ p services q. tt;
    }) f plan all

among_one : (rows : List Service) (others : List ℕ) (n : ℕ) → ArePending rows others → has others n ≡ true → IsPending rows n
among_one rows [] n all there = absurd cc
among_one rows (other ∷ others) n all there =
    elim (eqb n other) as (λ b. eqb n other ≡ b → (b || has others n) ≡ true → IsPending rows n) [
      | true ↦ λ e h. subst (IsPending rows) (sym (eqb-true n other e)) all.0
      | false ↦ λ e h. among_one rows others n all.1 h
    ] refl there

-- some of those
pub among_pending : (rows : List Service) (others ns : List ℕ) → ArePending rows others → AreAmong others ns → ArePending rows ns
among_pending rows others [] all among = tt
among_pending rows others (n ∷ ns) all among = (among_one rows others n all among.0, among_pending rows others ns all among.1)

-- ## What it tells of a plan

rests_for : (l : Limits) (f : Flat) (plan : Plan) (entries : List ℕ) → plan.entries ≡ entries → ArePending f.services (take 1 entries)
    → Rests l f plan
rests_for l f plan [] e all = inr (rw e tt)
rests_for l f plan (front ∷ rest) e all = pending_rests l f plan front rest e all.0

-- a plan whose front entry is so is left as it is
pub still : (l : Limits) (f : Flat) (plan : Plan) → ArePending f.services (take 1 plan.entries) → settle_plan l f plan ≡ unmoved f plan
still l f plan all = plan_still l f plan (rests_for l f plan plan.entries refl all)

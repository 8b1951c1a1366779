-- The whole list.
use Rattle.std.proofs.Common.{ℕ, zero, suc, ◌≡◌, ◌+◌, ◌<◌, ◌≤◌, ◌^◌, ◌==◌, ◌||◌, ◌⊎◌, inl, append_assoc, true, false, cond, List, [], ◌∷◌}
use Rattle.std.proofs.Common.{◌++◌, length}
use Rattle.std.proofs.Common.{ap, sym, refl, subst, arith, ne_eqb, eq-eqb}
use Rattle.std.proofs.lemmas.Int.Digits.{length-digits_of-le}
use Rattle.scm_model.specs.declared.flat.Flat.{Flat}
use Rattle.scm_model.specs.declared.flat.Limits.{Limits}
use Rattle.scm_model.specs.declared.steps.Step.TheVariants.{EndStart, Gone}
use Rattle.start_plan.specs.Entered.{wanted_process, wanted_row}
use Rattle.scm_rules.specs.Needs.{start_order}
use Rattle.scm_rules.specs.Histories.{Legal}
use Rattle.scm_rules.specs.Opening.{IsOpening, opening}
use Rattle.scm_model.specs.Needs.{needs_of}
use Rattle.scm_model.specs.Walks.{IsWalk}
use Rattle.scm_generate.proofs.Fits.{all_fits}
use Rattle.scm_rules.specs.Steps.{step_of}
use Rattle.scm_generate.specs.Listed.{asked_start, at_once, creations, depth_of, downs, generated, opening_calls, run_of, all_runs, ups}
use Rattle.scm_generate.specs.Ample.{IsAmple}
use Rattle.scm_generate.specs.Progress.{CanBeMade}
use Rattle.scm_generate.proofs.Asking.{asks, line}
use Rattle.scm_generate.proofs.Climbing.{HasClimbed, climbs_all}
use Rattle.scm_generate.proofs.Created.{IsWide, begins, created, creates_all, fresh}
use Rattle.scm_generate.proofs.Falling.{HasFallen, answers, falls_all}
use Rattle.scm_generate.proofs.Goes.{Goes, goes_both, goes_one}
use Rattle.scm_generate.proofs.Graph.{Climbs, IsLine}
use Rattle.scm_generate.proofs.Launching.{Climbing, ran}
use Rattle.scm_generate.proofs.Owned.{IsRun, stopped, stopped_rests}
use Rattle.scm_generate.proofs.Settling.{IsAtRest, at_one, decided, pending, under_way}
use Rattle.scm_generate.proofs.Shape.{Live, resting}

widens : (l : Limits) (n : ℕ) → IsWide l n → IsWide l 0
widens l n wide = record {
  small = omega arith;
  services = omega arith;
  handles = (let h = wide.handles in omega (arith, h));
  callers = wide.callers;
}

-- a start with so many processes, all of which rest again
module _ (l : Limits) (n : ℕ) (look : ℕ → Live) (i process plan due : ℕ) (small : n < 2 ^ 64) (low : 0 < process) (some : 0 < i)
    (lt : i ≤ n) (still : (k : ℕ) → IsAtRest (look k))
    (space : depth_of i ≤ l.processes) where
  abbrev rest : Flat
  rest = resting n look process plan due

  -- the state in which the first service is being launched
  abbrev wanting : (t : ℕ) (more : List ℕ) (m : ℕ) → Flat
  wanting t more m = under_way n (at_one look t (pending m)) (wanted_process m t false ∷ []) (wanted_row m [] ∷ []) plan i (t ∷ more)
      (t ∷ []) (m
      + 1) due

  none_yet : process + 0 ≡ process
  none_yet = omega arith

  begun : (t : ℕ) → Climbing n (at_one look t (pending (process + 0))) process t []
  begun t = record {
    here = ap (λ b. cond b (pending (process + 0)) (look t)) (eq-eqb t t refl);
    others = λ k other. subst (λ b. IsAtRest (cond b (pending (process + 0)) (look k))
        ⊎ IsRun process (process + 0) (cond b (pending (process + 0)) (look k))) (sym other) (inl (still k));
    above = λ k far. subst (λ b. IsAtRest (cond b (pending (process + 0)) (look k))) (sym (ne_eqb k t (λ e. omega (arith, e, far))))
        (still k);
    before = λ k. elim (k == t) as (λ b. IsAtRest (cond b stopped (cond b (pending (process + 0)) (look k))))
        [ true ↦ stopped_rests | false ↦ still k ];
    below = tt;
  }

  climbed : (t : ℕ) (more : List ℕ) → 0 < t → t ≤ n → Climbs n t more i → suc (length more) ≡ depth_of i
      → HasClimbed l n process plan i due (depth_of i) (wanting t more process) (ups process (depth_of i))
  climbed t more first within climbs long =
      let all : HasClimbed l n process plan i due (0 + suc (length more)) (wanting t more (process + 0))
      (ups (process + 0) (suc (length more))) =
      climbs_all l n (at_one look t (pending (process + 0))) plan i t more (t ∷ []) [] process due small low first within climbs (begun t)
      (λ k far. ap (λ b. b || false) (ne_eqb k t (λ e. omega (arith, e, far)))) (omega (arith, long, space)) in
      let count : 0 + suc (length more) ≡ depth_of i = omega (arith, long) in
      subst (λ c. HasClimbed l n process plan i due (depth_of i) (wanting t more process) (ups process c)) long
      (subst (λ m. HasClimbed l n process plan i due (depth_of i) (wanting t more m) (ups m (suc (length more)))) none_yet
      (subst (λ c. HasClimbed l n process plan i due c (wanting t more (process + 0)) (ups (process + 0) (suc (length more)))) count all))

  -- after the first service was entered
  fallen : (f : Flat) → Goes l rest (asked_start i ∷ []) f → HasClimbed l n process plan i due (depth_of i) f (ups process (depth_of i))
      → HasFallen l n (process + depth_of i) (plan + 1) (due + 1) rest (run_of i process plan)
  fallen f asked climbed =
      let run = decided n climbed.look (ran process climbed.done) plan i climbed.entries climbed.tried (process
      + length climbed.done) due in
      let down = falls_all l n climbed.look process climbed.done (process + length climbed.done) (plan + 1) (due + 1) low climbed.owned in
      let answered = answers l n climbed.look process plan i climbed.done climbed.entries climbed.tried (process
      + length climbed.done) due in
      subst (λ c. HasFallen l n (process + c) (plan + 1) (due + 1) rest
      (asked_start i ∷ (ups process (depth_of i) ++ (at_once (EndStart 1 plan) ∷ downs process c)))) climbed.long
      (record {
        look = down.look;
        still = down.still;
        goes = goes_both l rest f _ (asked_start i ∷ []) (ups process (depth_of i)
            ++ (at_once (EndStart 1 plan) ∷ downs process (length climbed.done))) asked
            (goes_both l f run _ (ups process (depth_of i)) (at_once (EndStart 1 plan) ∷ downs process (length climbed.done)) climbed.goes
            (goes_both l run _ _ (at_once (EndStart 1 plan) ∷ []) (downs process (length climbed.done)) answered down.goes));
      })

  started_by : (entries : List ℕ) → start_order rest i ≡ entries → IsLine n i entries
      → HasFallen l n (process + depth_of i) (plan + 1) (due + 1) rest (run_of i process plan)
  started_by [] is line = absurd (let none = line.climbs in omega (arith, none, some))
  started_by (t ∷ more) is line =
      let climbs = line.climbs in
      fallen (wanting t more process) (asks l n look i process plan due small some lt still t more is climbs.0 climbs.1 climbs.2
      (let long = line.long in omega (arith, long, space)))
      (climbed t more climbs.1 climbs.2 climbs.3 line.long)

  pub started : HasFallen l n (process + depth_of i) (plan + 1) (due + 1) rest (run_of i process plan)
  started = started_by (start_order rest i) refl (line l n look i process plan due small some lt still)

-- after all starts the caller goes
pub starts_all : (l : Limits) (n : ℕ) (look : ℕ → Live) (i process plan due : ℕ) → n < 2 ^ 64 → 0 < process → i ≤ n
    → ((k : ℕ) → IsAtRest (look k)) → ((k : ℕ) → k ≤ n → depth_of k ≤ l.processes)
    → (g : Flat) × Goes l (resting n look process plan due) (all_runs i process plan ++ (at_once (Gone 1) ∷ [])) g
starts_all l n look zero process plan due small low lt still space =
    let f = resting n look process plan due in
    ((step_of l f 0 (Gone 1)).flat, goes_one l f (step_of l f 0 (Gone 1)).flat (Gone 1) refl refl refl)
starts_all l n look (suc i) process plan due small low lt still space =
    let first = started l n look (suc i) process plan due small low (omega arith) lt still (space (suc i) lt) in
    let next = process + depth_of (suc i) in
    let rest = starts_all l n first.look i next (plan + 1) (due + 1) small (omega (arith, low)) (omega (arith, lt)) first.still space in
    let f = resting n look process plan due in (
      rest.0,
      subst (λ es. Goes l f es rest.0) (sym (append_assoc (run_of (suc i) process plan) (all_runs i next (plan + 1))
          (at_once (Gone 1) ∷ [])))
          (goes_both l f _ rest.0 (run_of (suc i) process plan) (all_runs i next (plan + 1) ++ (at_once (Gone 1) ∷ [])) first.goes rest.1),
    )

pub all_goes : (l : Limits) (n : ℕ) → IsWide l n → ((k : ℕ) → k ≤ n → depth_of k ≤ l.processes) → (g : Flat)
    × Goes l (opening l [] [] 0) (generated n) g
unfolding generated
all_goes l n wide space =
    let w = wide.small in
    let last = starts_all l n fresh n 1 1 1 (omega (arith, w)) (omega arith) (omega arith)
    (λ k. record { state = refl; kind = refl; process = refl }) space in
    let ends = at_once (Gone 1) ∷ [] in (
      last.0,
      goes_both l (opening l [] [] 0) (created 0) last.0 opening_calls (creations n ++ (all_runs n 1 1 ++ ends))
          (begins l (widens l n wide))
          (goes_both l (created 0) (created n) last.0 (creations n) (all_runs n 1 1 ++ ends) (creates_all l n wide) last.1),
    )

pub can_be_made : (l : Limits) (n : ℕ) → IsWide l n → ((k : ℕ) → k ≤ n → depth_of k ≤ l.processes)
    → CanBeMade l (opening l [] [] 0) (generated n)
can_be_made l n wide space = let all = (all_goes l n wide space).1 in record { legal = all.legal; quiet = all.quiet }

-- up to 512 have ten digits at most
short_lines : (k : ℕ) → k ≤ 512 → depth_of k ≤ 10
short_lines k few = length-digits_of-le 2 10 k (omega arith) (omega (arith, few))

pub wide_enough : (l : Limits) (n : ℕ) → IsAmple l → n ≤ 512 → IsWide l n
wide_enough l n ample few = record {
  small = omega (arith, few);
  services = (let s = ample.services in omega (arith, few, s));
  handles = (let h = ample.handles in omega (arith, few, h));
  callers = ample.callers;
}

pub ample_made : (l : Limits) (n : ℕ) → IsAmple l → n ≤ 512 → CanBeMade l (opening l [] [] 0) (generated n)
ample_made l n ample few =
    can_be_made l n (wide_enough l n ample few)
    (λ k le. let p = ample.processes in let s = short_lines k (omega (arith, le, few)) in omega (arith, p, s))

none_walks : (from : ℕ) (between : List ℕ) → IsWalk (needs_of []) from between from → ⊥
none_walks from [] w = cc
none_walks from (via ∷ between) w = absurd (let first = w.0 in cc)

none_open : (l : Limits) → IsOpening l (opening l [] [] 0)
none_open l = record {
  groups = [];
  configs = [];
  moment = 0;
  can = record {
    few = omega arith;
    names = λ i j d lt within. absurd (omega (arith, within));
    displays = λ i j d lt within. absurd (omega (arith, within));
    checked = λ k d lt. absurd (omega (arith, lt));
    acyclic = none_walks;
  };
  is = refl;
}

pub ample_legal : (l : Limits) (n : ℕ) → IsAmple l → n ≤ 512 → Legal l (opening l [] [] 0) (generated n)
ample_legal l n ample few = all_fits l n ample few (ample_made l n ample few).legal (none_open l)

-- A start is answered, and its processes end.
use Rattle.std.proofs.Common.{ℕ, ◌≡◌, ◌∙◌, ◌+◌, ◌<◌, ◌≤◌, ◌==◌, ◌&&◌, ◌⊎◌, inl, inr, true, false, not, cond, List, [], ◌∷◌, ◌++◌}
use Rattle.std.proofs.Common.{None, Some, filter, find, length, ap, sym, refl, subst, arith, ne_eqb, eq-eqb, eqb-true}
use Rattle.std.specs.Prelude.{is_some, option_and_then, option_map, unwrap_or}
use Rattle.std.proofs.lemmas.List.{append-nil}
use Rattle.std.proofs.lemmas.List.Elements.{filter-append}
use Rattle.scm_model.specs.declared.flat.Flat.{Flat}
use Rattle.scm_model.specs.declared.flat.Limits.{Limits}
use Rattle.scm_model.specs.declared.flat.Plan.{Plan}
use Rattle.scm_model.specs.declared.flat.Process.{Process}
use Rattle.scm_model.specs.declared.flat.Service.{Service}
use Rattle.scm_model.specs.declared.flat.Status.{Status}
use Rattle.scm_model.specs.declared.calls.Reply.TheVariants as reply
use Rattle.scm_model.specs.declared.steps.Answer.TheVariants as answer
use Rattle.scm_model.specs.declared.steps.Step.TheVariants.{EndStart, Ended, Report}
use Rattle.scm_model.specs.Entries.{Entry}
use Rattle.start_plan.specs.Decided.{code_of}
use Rattle.status_machine.specs.Moves.{take_report}
use Rattle.scm_rules.specs.Ends.{end_told}
use Rattle.scm_rules.specs.Launches.{currents, fallen, fallen_if, is_by, is_launched, without_process}
use Rattle.scm_rules.specs.Reports.{moved_by, report_told, reported_if, reporting}
use Rattle.scm_rules.specs.Start.{is_caller_of}
use Rattle.scm_rules.specs.Steps.{finished}
use Rattle.scm_generate.specs.Listed.{at_once, down, downs, told}
use Rattle.scm_generate.proofs.Built.{Each, filter_none, map_built}
use Rattle.scm_generate.proofs.Goes.{Goes, all_stay, goes_both, goes_none, goes_on, goes_one, stepped}
use Rattle.scm_generate.proofs.Launching.{last_found, not_by_it, ran, reports_by, running_process, told_report, unreleased_ran}
use Rattle.scm_generate.proofs.Owned.{IsRun, Owned, owned_low, stopped}
use Rattle.scm_generate.proofs.Settling.{IsAtRest, at_one, decided, plan_with}
use Rattle.scm_generate.proofs.Shape.{Live, resting, row_at, rows, standing}
use Rattle.scm_generate.proofs.Untold.{end_alone, report_alone}

-- the start is answered, and its processes still run
abbrev pub falling : (n : ℕ) (look : ℕ → Live) (first : ℕ) (done : List ℕ) (process plan due : ℕ) → Flat
falling n look first done process plan due = standing n look (ran first done) [] [] [] process plan due

pub answers : (l : Limits) (n : ℕ) (look : ℕ → Live) (first plan target : ℕ) (done entries tried : List ℕ) (process due : ℕ)
    → Goes l (decided n look (ran first done) plan target entries tried process due) (at_once (EndStart 1 plan) ∷ [])
    (falling n look first done process (plan + 1) (due + 1))
answers l n look first plan target done entries tried process due =
    let f = decided n look (ran first done) plan target entries tried process due in
    let g = falling n look first done process (plan + 1) (due + 1) in
    let p = plan_with plan target entries tried (Some 0) in
    let same = eq-eqb plan plan refl in
    goes_one l f g (EndStart 1 plan)
    (ap (λ b. (is_caller_of (option_map (λ (q : Plan). q.caller) (cond b (Some p) None)) 1
    && is_some (option_and_then (λ (q : Plan). q.code) (cond b (Some p) None))) && true) same)
    refl
    (stepped l f (EndStart 1 plan) (record { answer = answer.Reply (reply.Code (unwrap_or (code_of f.plans plan) 0)); flat = g }) g g
    (ap (λ b. record {
      answer = answer.Reply (reply.Code (unwrap_or (code_of f.plans plan) 0));
      flat = record g { plans = cond (not b) (p ∷ []) [] };
    }) same)
    refl refl (all_stay g look n refl refl))

told_end : (f : Flat) (falling : List Service) → (finished f (end_told falling)).flat ≡ f
told_end f [] = refl
told_end f (row ∷ rows) = refl

-- the others stay
kept_ran : (first p : ℕ) (done : List ℕ) → first + length done ≤ p → filter (λ (row : Process). not (row.number == p))
    (ran first done) ≡ ran first done
kept_ran first p [] le = refl
kept_ran first p (s ∷ done) le =
    filter-append (λ (row : Process). not (row.number == p)) (ran first done) (running_process (first + length done) s ∷ [])
    ∙ ap (λ xs. xs ++ filter (λ (row : Process). not (row.number == p)) (running_process (first + length done) s ∷ []))
    (kept_ran first p done (omega (arith, le)))
    ∙ ap (λ b. ran first done ++ cond (not b) (running_process (first + length done) s ∷ []) [])
    (ne_eqb (first + length done) p (λ e. omega (arith, e, le)))

module _ (l : Limits) (n : ℕ) (look : ℕ → Live) (first s : ℕ) (done : List ℕ) (process plan due : ℕ) (low : 0 < first)
    (owned : Owned n look first (s ∷ done)) where
  abbrev p : ℕ
  p = first + length done

  abbrev pub looked : ℕ → Live
  looked = at_one look s stopped

  abbrev before : Flat
  before = falling n look first (s ∷ done) process plan due

  abbrev reported : Flat
  reported = falling n looked first (s ∷ done) process plan due

  abbrev after : Flat
  after = falling n looked first done process plan due

  stops_row : Each (λ k. reported_if s (told 1 0) (row_at k (look k)) ≡ row_at k (looked k)) n
  stops_row k some le =
      elim (k == s) as (λ b. (k == s) ≡ b
      → cond b (moved_by (row_at k (look k)) (take_report (look k).status (told 1 0))) (row_at k (look k)) ≡ row_at k
      (cond b stopped (look k))) [
        | true ↦ λ e. ap (λ (status : Status). moved_by (row_at k (record { status = status; process = (look k).process }))
            (take_report status (told 1 0))) (subst (λ m. (look m).status ≡ told 4 1) (sym (eqb-true k s e)) owned.0.status)
        | false ↦ λ e. refl
      ] refl

  found : find (λ (row : Process). row.number == p) (ran first (s ∷ done)) ≡ Some (running_process p s)
  found = last_found first p done (running_process p s) (omega arith) refl

  reports : reporting before p 0 ≡ Some (row_at s (look s))
  reports = reports_by before n look p s (running_process p s) refl found refl (omega (arith, low)) owned.0.some owned.0.within
      owned.0.process

  stops : Goes l before (at_once (Report p 0 (told 1 0)) ∷ []) reported
  stops = goes_one l before reported (Report p 0 (told 1 0)) (ap (λ o. is_launched o && true) found) refl
      (stepped l before (Report p 0 (told 1 0)) (record { answer = report_told (reporting before p 0) (told 1 0); flat = reported })
      reported
      reported
      (ap (λ f. record { answer = report_told (reporting before p 0) (told 1 0); flat = f })
      (report_alone before (reporting before p 0) (told 1 0) (row_at s (look s)) (rows looked n) refl refl reports
      (unreleased_ran (told 1 0) (row_at s (look s)) first (s ∷ done))
      (map_built (reported_if s (told 1 0)) [] (λ k. row_at k (look k)) [] (λ k. row_at k (looked k)) n refl stops_row)))
      refl (told_report reported (reporting before p 0) (told 1 0)) (all_stay reported looked n refl refl))

  low_other : (live : Live) → IsAtRest live ⊎ IsRun first p live → (live.process == p) ≡ false
  low_other live (inl still) = (let none = still.process in ne_eqb live.process p (λ e. omega (arith, e, none, low)))
  low_other live (inr run) = (let high = run.high in ne_eqb live.process p (λ e. omega (arith, e, high)))

  has_other : (k : ℕ) → is_by p (row_at k (looked k)) ≡ false
  has_other k = not_by_it p k (looked k) (low_other (looked k) (owned_low n looked first done owned.1 k))

  falls_row : Each (λ k. fallen_if p 1067 (row_at k (looked k)) ≡ row_at k (looked k)) n
  falls_row k some le = ap (λ b. cond b (fallen 1067 (row_at k (looked k))) (row_at k (looked k))) (has_other k)

  -- it is no service's current one any more
  nobody : currents p (rows looked n) ≡ []
  nobody = filter_none (is_by p) (λ k. row_at k (looked k)) n (λ k some le. has_other k)

  leaves : filter (λ (row : Process). not (row.number == p)) (ran first (s ∷ done)) ≡ ran first done
  leaves =
      filter-append (λ (row : Process). not (row.number == p)) (ran first done) (running_process p s ∷ [])
      ∙ ap (λ b. filter (λ (row : Process). not (row.number == p)) (ran first done) ++ cond (not b) (running_process p s ∷ []) [])
      (eq-eqb p p refl)
      ∙ append-nil (filter (λ (row : Process). not (row.number == p)) (ran first done)) ∙ kept_ran first p done (omega arith)

  ends : Goes l reported (at_once (Ended p) ∷ []) after
  ends = goes_one l reported after (Ended p) (ap (λ o. is_launched o && true) found) refl
      (stepped l reported (Ended p) (record { answer = end_told (currents p reported.services); flat = after }) after after
      (ap (λ f. record { answer = end_told (currents p reported.services); flat = without_process f p })
      (end_alone reported p (rows looked n) refl nobody (map_built (fallen_if p 1067) [] (λ k. row_at k (looked k)) []
      (λ k. row_at k (looked k)) n refl falls_row))
      ∙ ap (λ ps. record { answer = end_told (currents p reported.services); flat = record reported { processes = ps } }) leaves)
      refl (told_end after (currents p reported.services)) (all_stay after looked n refl refl))

  pub goes_down : Goes l before (down p) after
  goes_down = goes_on l before reported after (Report p 0 (told 1 0)) (at_once (Ended p) ∷ []) stops ends

-- all rest again
pub record HasFallen (l : Limits) (n process plan due : ℕ) (f : Flat) (es : List Entry) : Type 0 where
  pub look : ℕ → Live
  pub still : (k : ℕ) → IsAtRest (look k)
  pub goes : Goes l f es (resting n look process plan due)

fallen_more : (l : Limits) (n process plan due : ℕ) (f g : Flat) (xs ys : List Entry) → Goes l f xs g → HasFallen l n process plan due g ys
    → HasFallen l n process plan due f (xs ++ ys)
fallen_more l n process plan due f g xs ys first rest = record {
  look = rest.look;
  still = rest.still;
  goes = goes_both l f g _ xs ys first rest.goes;
}

pub falls_all : (l : Limits) (n : ℕ) (look : ℕ → Live) (first : ℕ) (done : List ℕ) (process plan due : ℕ) → 0 < first
    → Owned n look first done
    → HasFallen l n process plan due (falling n look first done process plan due) (downs first (length done))
falls_all l n look first [] process plan due low owned = record {
  look = look;
  still = owned;
  goes = goes_none l _;
}
falls_all l n look first (s ∷ done) process plan due low owned =
    fallen_more l n process plan due _ _ (down (first + length done)) (downs first (length done))
    (goes_down l n look first s done process plan due low owned)
    (falls_all l n (looked l n look first s done process plan due low owned) first done process plan due low owned.1)

-- A start is asked for, and its first service is entered.
use Rattle.std.proofs.Common.{ℕ, ◌≡◌, ◌∙◌, ◌+◌, ◌/◌, ◌<◌, ◌≤◌, ◌^◌, ◌==◌, ◌||◌, ◌&&◌, true, false, not, cond, List, [], ◌∷◌, None, Some, ap}
use Rattle.std.proofs.Common.{sym, refl, subst, arith, ne_eqb, eq-eqb}
use Rattle.std.specs.Prelude.{is_none, option_and_then}
use Rattle.std.specs.List.{list_any}
use Rattle.std.proofs.lemmas.Bool.{eqb-false}
use Rattle.scm_model.specs.declared.flat.Flat.{Flat}
use Rattle.scm_model.specs.declared.flat.HandleRow.{HandleRow}
use Rattle.scm_model.specs.declared.flat.Limits.{Limits}
use Rattle.scm_model.specs.declared.flat.Need.TheVariants as needs
use Rattle.scm_model.specs.declared.flat.Opened.{Opened}
use Rattle.scm_model.specs.declared.flat.Plan.{Plan}
use Rattle.scm_model.specs.declared.calls.Request.{Request}
use Rattle.scm_model.specs.declared.calls.Request.TheVariants as request
use Rattle.scm_model.specs.declared.steps.Answer.TheVariants as answer
use Rattle.scm_model.specs.declared.steps.Kept.TheVariants as appended
use Rattle.scm_model.specs.declared.steps.Step.TheVariants.{Call}
use Rattle.scm_model.specs.Found.{if_found}
use Rattle.scm_model.specs.Order.{order_in, runs_in}
use Rattle.scm_model.specs.Ready.{state_in, state_of}
use Rattle.scm_model.specs.Rows.{handle_of, held_service, opened, opened_by, service_of}
use Rattle.start_plan.specs.Entered.{wanted_process, wanted_row}
use Rattle.scm_rules.specs.Delete.{is_marked}
use Rattle.scm_rules.specs.Needs.{start_order}
use Rattle.scm_rules.specs.Rights.{lacks}
use Rattle.scm_rules.specs.Start.{is_aimed_at, is_disabled, is_missing, lacks_need, start_refusals, start_verdict, with_start}
use Rattle.scm_rules.specs.Steps.{left_by}
use Rattle.scm_generate.specs.Listed.{asked_start, nth_name}
use Rattle.scm_generate.proofs.Built.{Each, find_built}
use Rattle.scm_generate.proofs.Created.{all_pass}
use Rattle.scm_generate.proofs.Goes.{Goes, all_stay, called_well, goes_one, stepped}
use Rattle.scm_generate.proofs.Graph.{IsLine, half_within, order_is, positive}
use Rattle.scm_generate.proofs.Settling.{IsAtRest, at_one, enters_first, found_named, found_service, pending, plan_with, under_way}
use Rattle.scm_generate.proofs.Shape.{Live, first_handle, graph_is, handle_at, resting, row_at}

module _ (l : Limits) (n : ℕ) (look : ℕ → Live) (i process plan due : ℕ) (small : n < 2 ^ 64) (some : 0 < i) (lt : i ≤ n) (still : (k : ℕ)
    → IsAtRest (look k)) where
  abbrev rest : Flat
  rest = resting n look process plan due

  handle_found : handle_of rest 1 (i + 1) ≡ Some (handle_at i)
  handle_found = find_built (λ (row : HandleRow). row.caller == 1 && row.number == i + 1) (first_handle ∷ []) handle_at i n some lt
      (ap (λ b. cond b (Some first_handle) None) (ne_eqb 1 (i + 1) (λ e. omega (arith, e, some))))
      (eq-eqb (i + 1) (i + 1) refl)
      (λ k s le other. ne_eqb (k + 1) (i + 1) (λ e. eqb-false k i other (omega (arith, e))))

  opened_is : opened rest 1 (i + 1) ≡ Some (record { service = i; granted = 0xF01FF })
  opened_is = ap (option_and_then opened_by) handle_found

  held_is : held_service rest 1 (i + 1) ≡ Some (row_at i (look i))
  held_is = ap (option_and_then (λ (of : Opened). service_of rest of.service)) opened_is ∙ found_service look n i some lt

  none_missing : lacks_need rest (Some (row_at i (look i))) ≡ false
  none_missing = elim (i / 2 == 0) as (λ b. (i / 2 == 0) ≡ b → list_any (is_missing rest)
      (cond b [] (needs.Service (nth_name (i / 2)) ∷ [])) ≡ false) [
        | true ↦ λ e. refl
        | false ↦ λ e. ap (λ o. (is_none o || is_marked o) || false) (found_named look n (i / 2) small
            (positive (i / 2) (eqb-false (i / 2) 0 e)) (half_within i n lt))
      ] refl

  verdict_is : start_verdict rest 1 (i + 1) (Some []) ≡ 0
  verdict_is = all_pass (start_refusals rest 1 (i + 1) (Some [])) (
    ap is_none opened_is,
    (
      refl,
      (
        ap (λ o. lacks o 16) opened_is,
        (
          ap is_marked held_is,
          (
            refl,
            (
              ap (λ o. not (state_in o == 1) || is_aimed_at rest o) held_is ∙ ap (λ v. not (v == 1) || false) (still i).state,
              (
                ap is_disabled held_is,
                (
                  ap (lacks_need rest) held_is ∙ none_missing,
                  tt,
                ),
              ),
            ),
          ),
        ),
      ),
    ),
  )

  idle : Each (λ k. runs_in (state_of rest) k ≡ false) n
  idle k s le = ap (λ v. v == 4) (ap state_in (found_service look n k s le) ∙ (still k).state)

  pub line : IsLine n i (start_order rest i)
  line = subst (λ g. IsLine n i (order_in g (state_of rest) i)) (sym (graph_is look n)) (order_is n (state_of rest) i small idle some lt)

  abbrev asked : Request
  asked = request.Start (i + 1) (Some [])

  abbrev begun : List ℕ → Flat
  begun entries = under_way n look [] [] plan i entries [] process due

  begins : (entries : List ℕ) → start_order rest i ≡ entries → if_found (with_start 1 []) (held_service rest 1 (i + 1)) rest ≡ begun entries
  begins entries is = ap (λ o. if_found (with_start 1 []) o rest) held_is ∙ ap begun is

  pub asks : (t : ℕ) (more : List ℕ) → start_order rest i ≡ t ∷ more → t / 2 ≡ 0 → 0 < t → t ≤ n → 0 < l.processes
      → Goes l rest (asked_start i ∷ []) (under_way n (at_one look t (pending process)) (wanted_process process t false ∷ [])
      (wanted_row process [] ∷ []) plan i (t ∷ more) (t ∷ []) (process + 1) due)
  asks t more is half first within space =
      let g = under_way n (at_one look t (pending process)) (wanted_process process t false ∷ []) (wanted_row process [] ∷ []) plan i
      (t ∷ more)
      (t ∷ []) (process + 1) due in
      goes_one l rest g (Call 1 asked appended.NotAsked) refl refl
      (stepped l rest (Call 1 asked appended.NotAsked) (record { answer = answer.Begun plan; flat = begun (t ∷ more) }) g g
      (called_well l rest asked appended.NotAsked verdict_is ∙ ap (λ f. record { answer = answer.Begun plan; flat = f })
      (begins (t ∷ more) is))
      (enters_first l n look [] plan i t more [] process due small first within (still t)
      (λ apart. absurd (eqb-false (t / 2) 0 apart half)) refl space)
      (ap (λ b. left_by g plan (option_and_then (λ (p : Plan). p.code) (cond b (Some (plan_with plan i (t ∷ more) (t ∷ []) None)) None)))
      (eq-eqb plan plan refl))
      (all_stay g (at_one look t (pending process)) n refl refl))

-- What a pass has in hand it has still behind the entries of others.
use Rattle.std.proofs.Common.{◌≡◌, ◌≢◌, ℕ, ◌==◌, true, false, IsTrue, List, [], ◌∷◌, ◌++◌, Option, None, Some, inl, refl, sym, ap, ◌∙◌}
use Rattle.std.proofs.Common.{subst, append_assoc, append-nil, ne_eqb, eqb-true}
use Rattle.std.specs.Prelude.{option_map}
use Rattle.std.proofs.lemmas.Bool.{and_parts}
use mathlib.Core.List.{IsPrefix}
use Rattle.scm_model.specs.declared.flat.Flat.{Flat}
use Rattle.scm_model.specs.declared.flat.Limits.{Limits}
use Rattle.scm_model.specs.declared.flat.Phase.{Phase}
use Rattle.scm_model.specs.declared.flat.Plan.{Plan}
use Rattle.scm_model.specs.declared.steps.Answer.{Answer}
use Rattle.scm_model.specs.declared.steps.Name.{Name}
use Rattle.scm_model.specs.declared.steps.Name.TheVariants as names
use Rattle.scm_model.specs.declared.steps.Step.{Step}
use Rattle.scm_model.specs.declared.steps.Step.TheVariants.{EndStart, Gone}
use Rattle.scm_model.specs.Entries.{Entry}
use Rattle.start_plan.specs.Decided.{plan_caller, plan_of}
use Rattle.scm_rules.specs.Histories.{Legal, state}
use Rattle.scm_rules.specs.Start.{is_caller_of}
use Rattle.scm_rules.specs.Steps.{may}
use Rattle.scm_runs.proofs.Along.{along}
use Rattle.scm_runs.proofs.Calls.{keeps}
use Rattle.scm_runs.proofs.Histories.{at_entry, legal_made, told}
use Rattle.scm_runs.proofs.Sound.{Sound, begun}
use Rattle.scm_owed.proofs.Histories.{legal_front, legal_last}
use Rattle.scm_history.specs.Callers.{takes_leave}
use Rattle.scm_history.specs.Phases.{phase_of}
use Rattle.scm_history.specs.Plans.{IsPlanOf, PlansAreTheirCallers, ends_plan}
use Rattle.scm_history.proofs.Plans.{gives as plans_stay}
use Rattle.book_rule.specs.declared.view.Opening.{Opening}
use Rattle.book_rule.specs.Ways.{Has}
use Rattle.scm_book.specs.Naming.{all_names, names_made}
use Rattle.scm_book.specs.Holds.{Opens}
use Rattle.scm_book.specs.Passes.{ClaimsIn, HasPlan, HoldsProcess, KeepsAll, Known, Made, seen_state}
use Rattle.book_rule.proofs.Places.{has_left}
use Rattle.book_rule.proofs.Prefixes.{prefix_self}
use Rattle.scm_book.proofs.Names.{has_name, made_more}
use Rattle.scm_book.proofs.Quiet.{Quiet, made_not, own_made, quiet, quiet_front, rest_phase, step_phase}

-- ## Plans

no_leave : (step : Step) (c : ℕ) → (Has (names.Caller c) (all_names step) → ⊥) → takes_leave c step ≡ false
no_leave (Gone d) c other = ne_eqb c d (λ e. other (inl (ap names.Caller e)))
no_leave step c other = refl

same_caller : (found : Option ℕ) (c by : ℕ) → found ≡ Some c → is_caller_of found by ≡ true → by ≡ c
same_caller None c by is test = absurd cc
same_caller (Some of) c by is test = let e = eqb-true of by test in let f : of ≡ c = cc in sym e ∙ f

-- who ends a plan is its caller
no_end : (l : Limits) (f : Flat) (moment : ℕ) (step : Step) (c number : ℕ) → plan_caller f.plans number ≡ Some c
    → IsTrue (may l f moment step) → (Has (names.Caller c) (all_names step) → ⊥) → ends_plan number step ≡ false
no_end l f moment (EndStart by plan) c number there ok other =
    ne_eqb number plan (λ e. other (inl (ap names.Caller (sym (same_caller (plan_caller f.plans plan) c by (ap (plan_caller f.plans) (sym e)
    ∙ there) (and_parts _ _ (and_parts _ _ (and_parts _ _ ok).0).1).0)))))
no_end l f moment step c number there ok other = refl

some_one : (c : ℕ) → c ≢ 0 → (c == 0) ≡ false
some_one c is = ne_eqb c 0 is

-- a plan that is there aims at something
aim_of : (found : Option Plan) (c : ℕ) → option_map (λ (plan : Plan). plan.caller) found ≡ Some c → (t : ℕ)
    × (option_map (λ (plan : Plan). plan.target) found ≡ Some t)
aim_of None c is = absurd cc
aim_of (Some plan) c is = (plan.target, refl)

module _ (o : Opening) (opens : Opens o) where
  step_plan : (log : List Entry) (e : Entry) (c number : ℕ) → c ≢ 0 → Legal o.limits o.first (log ++ e ∷ [])
      → (Has (names.Caller c) (all_names e.1) → ⊥)
      → plan_caller (state o.limits o.first log).plans number ≡ Some c →
      plan_caller (state o.limits o.first (log ++ e ∷ [])).plans number ≡ Some c
  step_plan log e c number somebody legal unnamed there =
      let l = o.limits in
      let f = o.first in
      let g = state l f log in
      let es = log ++ e ∷ [] in
      let ok = legal_last l f log e legal in
      let aim = aim_of (plan_of g.plans number) c there in
      let after : IsPlanOf (state l f es) number c aim.0 =
      at_entry PlansAreTheirCallers l f es (along Sound PlansAreTheirCallers l (keeps l) (plans_stay l) f es (begun l f opens.begins)
      (legal_made l f es legal)) log e [] _ refl (told l f log e [])
      number c aim.0 (record { callers = there; aims = aim.1 }) (some_one c somebody) (no_end l g e.0 e.1 c number there ok unnamed)
      (no_leave e.1 c unnamed) in
      after.callers

  rest_plan : (log rest : List Entry) (c number : ℕ) → c ≢ 0 → Legal o.limits o.first (log ++ rest) → Quiet o (names.Caller c) log rest
      → plan_caller (state o.limits o.first log).plans number ≡ Some c →
      plan_caller (state o.limits o.first (log ++ rest)).plans number ≡ Some c
  rest_plan log [] c number somebody legal quiet there = subst (λ (l : List Entry). plan_caller
      (state o.limits o.first l).plans number ≡ Some c) (sym (append-nil log)) there
  rest_plan log (e ∷ rest) c number somebody legal quiet there =
      let whole : (log ++ e ∷ []) ++ rest ≡ log ++ e ∷ rest = append_assoc log (e ∷ []) rest in
      let legal' : Legal o.limits o.first ((log ++ e ∷ []) ++ rest) = subst (Legal o.limits o.first) (sym whole) legal in
      subst (λ (l : List Entry). plan_caller (state o.limits o.first l).plans number ≡ Some c) whole
      (rest_plan (log ++ e ∷ []) rest c number somebody legal' quiet.2
      (step_plan log e c number somebody (legal_front o.limits o.first (log ++ e ∷ []) rest legal') quiet.0 there))

  -- a process in hand has come as far behind each history that goes on from what the pass has seen
  pub still : (k : Known) (process : ℕ) (phase : Phase) → HoldsProcess o k process phase → (log : List Entry) → IsPrefix k.seen log
      → Legal o.limits o.first log → ClaimsIn o log k
      → phase_of (state o.limits o.first log) process ≡ Some phase
  still k process phase holds log longer legal claims =
      subst (λ (l : List Entry). phase_of (state o.limits o.first l) process ≡ Some phase) longer.1
      (rest_phase o opens k.seen longer.0 process phase (subst (Legal o.limits o.first) (sym longer.1) legal)
      (quiet o opens k (names.Process process) holds.named log longer.0 (sym longer.1) legal claims) holds.listed)

  -- ## Both, behind what the pass has seen

  -- the pass claims the same of a history that goes on from there
  pub keeps_within : (k k' : Known) → IsPrefix k.seen k'.seen → (log : List Entry) → IsPrefix k'.seen log → Legal o.limits o.first log
      → ClaimsIn o log k → k'.names ≡ k.names → k'.caller ≡ k.caller → KeepsAll o k k'
  keeps_within k k' longer log within legal claims same whose =
      let rest = longer.0 in
      let is : k'.seen ≡ k.seen ++ rest = sym longer.1 in
      let all : log ≡ k.seen ++ (rest ++ within.0) = sym within.1 ∙ (ap (λ (l : List Entry). l ++ within.0) is
      ∙ append_assoc k.seen rest within.0) in
      let quiet' : (n : Name) → Has n k.names → Quiet o n k.seen rest =
      λ n named. quiet_front o n k.seen rest within.0 (quiet o opens k n named log (rest ++ within.0) all legal claims) in
      let legal' : Legal o.limits o.first (k.seen ++ rest) =
      subst (Legal o.limits o.first) is (legal_front o.limits o.first k'.seen within.0
      (subst (Legal o.limits o.first) (sym within.1) legal)) in record {
        processes = λ process phase holds. record {
          named = subst (λ (ns : List Name). Has (names.Process process) ns) (sym same) holds.named;
          listed = subst (λ (l : List Entry). phase_of (state o.limits o.first l) process ≡ Some phase) longer.1
              (rest_phase o opens k.seen rest process phase legal' (quiet' (names.Process process) holds.named) holds.listed);
        };
        plans = λ plan has. record {
          caller = λ none. has.caller (sym whose ∙ none);
          there = subst (λ (c : ℕ). plan_caller (state o.limits o.first k'.seen).plans plan ≡ Some c) (sym whose)
              (subst (λ (l : List Entry). plan_caller (state o.limits o.first l).plans plan ≡ Some k.caller) longer.1
              (rest_plan k.seen rest k.caller plan has.caller legal' (quiet' (names.Caller k.caller) (claims.caller has.caller))
              has.there));
        };
      }

  pub keeps_seen : (k k' : Known) → IsPrefix k.seen k'.seen → Legal o.limits o.first k'.seen → ClaimsIn o k'.seen k → k'.names ≡ k.names
      → k'.caller ≡ k.caller → KeepsAll o k k'
  keeps_seen k k' longer legal claims same whose = keeps_within k k' longer k'.seen (prefix_self k'.seen) legal claims same whose

  -- ## Both, behind a step that is not of them

  -- a process in hand that the step is not of is in hand still
  pub process_lasts : (k k' : Known) (moment : ℕ) (step : Step) (told : Answer) → Made o k moment step told k'
      → (process : ℕ) (phase : Phase) → (Has (names.Process process) (all_names step) → ⊥)
      → HoldsProcess o k process phase → HoldsProcess o k' process phase
  process_lasts k k' moment step told made process phase unnamed holds =
      let n : Name = names.Process process in
      let e : Entry = (moment, step) in
      let legal : Legal o.limits o.first (made.before ++ e ∷ []) = subst (Legal o.limits o.first) made.seen made.legal in
      let front : Legal o.limits o.first made.before = legal_front o.limits o.first made.before (e ∷ []) legal in
      let mine = own_made o opens k n holds.named made.before made.longer.0 (sym made.longer.1) made.until in
      let there = subst (λ (l : List Entry). has_name o.limits o.first n l ≡ true) made.longer.1
      (made_more o.limits o.first n k.seen made.longer.0 mine) in record {
        named = subst (λ (ns : List Name). Has n ns) (sym made.names) (has_left n k.names
            (names_made (state o.limits o.first made.before) step) holds.named);
        listed = subst (λ (l : List Entry). phase_of (state o.limits o.first l) process ≡ Some phase) (sym made.seen)
            (step_phase o opens made.before e process phase legal unnamed (made_not o opens k n holds.named made.before e legal there)
            (still k process phase holds made.before made.longer front made.until));
      }

  -- and so is a plan of the pass's caller
  pub plan_lasts : (k k' : Known) (moment : ℕ) (step : Step) (told : Answer) → Made o k moment step told k' → k'.caller ≡ k.caller
      → (Has (names.Caller k.caller) (all_names step) → ⊥)
      → (plan : ℕ) → HasPlan o k plan → HasPlan o k' plan
  plan_lasts k k' moment step told made whose unnamed plan has =
      let e : Entry = (moment, step) in
      let legal : Legal o.limits o.first (made.before ++ e ∷ []) = subst (Legal o.limits o.first) made.seen made.legal in
      let front : Legal o.limits o.first (k.seen ++ made.longer.0) =
      subst (Legal o.limits o.first) (sym made.longer.1) (legal_front o.limits o.first made.before (e ∷ []) legal) in
      let there : plan_caller (state o.limits o.first made.before).plans plan ≡ Some k.caller =
      subst (λ (l : List Entry). plan_caller (state o.limits o.first l).plans plan ≡ Some k.caller) made.longer.1
      (rest_plan k.seen made.longer.0 k.caller plan has.caller front (quiet o opens k (names.Caller k.caller)
      (made.until.caller has.caller) made.before made.longer.0 (sym made.longer.1)
      (legal_front o.limits o.first made.before (e ∷ []) legal) made.until) has.there) in record {
        caller = λ none. has.caller (sym whose ∙ none);
        there = subst (λ (c : ℕ). plan_caller (seen_state o k').plans plan ≡ Some c) (sym whose)
            (subst (λ (l : List Entry). plan_caller (state o.limits o.first l).plans plan ≡ Some k.caller) (sym made.seen)
            (step_plan made.before e k.caller plan has.caller legal unnamed there));
      }

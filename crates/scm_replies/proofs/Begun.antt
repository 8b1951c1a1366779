-- A start that begins, and what its own settling comes to.
use Rattle.std.proofs.Common.{ℕ, ◌≡◌, ◌⊎◌, ◌∙◌, ◌==◌, ◌&&◌, ◌||◌, ◌++◌, Bool, true, false, not, cond, List, [], ◌∷◌, Option, None, Some}
use Rattle.std.proofs.Common.{filter, map, get_or, ap, sym, refl, subst, eq-eqb, eqb-true, inl, inr}
use Rattle.std.specs.Prelude.{All, is_none, option_and_then}
use Rattle.std.specs.List.{list_any}
use Rattle.std.specs.Option.{option_to_list}
use Rattle.std.proofs.lemmas.List.{map-append}
use Rattle.std.proofs.lemmas.List.Elements.{All-filter, All-head, All-map, All-tail, filter-append}
use Rattle.scm_model.specs.declared.calls.Reply.TheVariants as reply
use Rattle.scm_model.specs.declared.flat.Due.{Due}
use Rattle.scm_model.specs.declared.flat.Flat.{Flat}
use Rattle.scm_model.specs.declared.flat.HandleRow.{HandleRow}
use Rattle.scm_model.specs.declared.flat.Limits.{Limits}
use Rattle.scm_model.specs.declared.flat.Plan.{Plan}
use Rattle.scm_model.specs.declared.flat.Service.{Service}
use Rattle.scm_model.specs.declared.steps.Answer.TheVariants as answer
use Rattle.scm_model.specs.Changes.{with_moment}
use Rattle.scm_model.specs.Notices.{all_noted, event_of_leaving}
use Rattle.scm_model.specs.Outcomes.{StepResult}
use Rattle.scm_model.specs.Purge.{leaves, purged}
use Rattle.scm_model.specs.Ready.{state_of}
use Rattle.start_plan.specs.Decided.{code_of, is_aimed, is_numbered}
use Rattle.start_plan.specs.Entered.{entered_at, process_for, started_if, with_entered}
use Rattle.start_plan.specs.Hosts.{enters_launched, host, is_launched_at}
use Rattle.start_plan.specs.Settle.{Turn, Turns, all_succeeded, hosted_at, is_due_still, is_undecided, settle_from, settle_plan, settled}
use Rattle.start_plan.specs.Settle.{stays, succeeded, tidied, words_for}
use Rattle.start_plan.proofs.Plain.{after_plan}
use Rattle.start_plan.proofs.Rests.{from_still, none_succeeded}
use Rattle.start_plan.proofs.Rows.{started_or}
use Rattle.scm_rules.specs.Start.{ended, with_plan}
use Rattle.scm_rules.specs.Steps.{answered_by, left_by}
use Rattle.scm_runs.proofs.Lists.{none_any, passes_not}
use Rattle.scm_replies.specs.Replies.{EntersHost, Waits, with_plan_spent}
use Rattle.scm_replies.proofs.Lists.{NoneHas, dues_before, found_last, stays_by, undecided_last, without_last}
use Rattle.scm_replies.proofs.Refused.{closed}
use Rattle.scm_replies.proofs.Settling.{Enters, Leaves, Still, is_zero, plan_fails, plan_settles, still_over}
use Rattle.scm_replies.proofs.Verdicts.{leaving}

-- ## The state with a plan more

-- the turn of the last plan, after those before it
abbrev one_turn : Limits → Plan → Turns → Turns
one_turn l plan end =
    let turn = settle_plan l end.flat (succeeded end.hosted plan) in
    record { flat = turn.flat; plans = end.plans ++ turn.plan ∷ []; hosted = end.hosted ++ option_to_list turn.hosted }

one_more : (l : Limits) (f : Flat) (hosted : List ℕ) (plans : List Plan) (plan : Plan)
    → settle_from l f hosted (plans ++ plan ∷ []) ≡ one_turn l plan (settle_from l f hosted plans)
one_more l f hosted [] plan = refl
one_more l f hosted (other ∷ plans) plan =
    let first = settle_plan l f (succeeded hosted other) in
    ap (after_plan first.plan) (one_more l first.flat (hosted ++ option_to_list first.hosted) plans plan)

-- the state in which a plan begins
abbrev pub begun : Flat → ℕ → Plan → Flat
begun f moment plan = with_plan (with_moment f moment) plan

-- what the plan is settled to
abbrev pub own_end : Limits → Flat → ℕ → Plan → Turn
own_end l f moment plan = settle_plan l (begun f moment plan) plan

-- what its turn makes of it, and of the plans before it
abbrev last_of : Turn → Plan
last_of turn = succeeded (option_to_list turn.hosted) turn.plan

abbrev others_of : Turn → List Plan → List Plan
others_of turn plans = filter stays (map (succeeded (option_to_list turn.hosted)) plans)

-- only the new plan has a turn
only_new : (l : Limits) (f : Flat) (moment : ℕ) (plan : Plan) → Still l f
    → settled l (begun f moment plan) ≡ tidied (own_end l f moment plan).flat
    (map (succeeded (option_to_list (own_end l f moment plan).hosted)) f.plans ++ last_of (own_end l f moment plan) ∷ [])
only_new l f moment plan s =
    let x = begun f moment plan in
    let turn = own_end l f moment plan in
    let by = succeeded (option_to_list turn.hosted) in
    ap (λ (end : Turns). tidied end.flat (all_succeeded end).plans) (one_more l x [] f.plans plan
    ∙ ap (one_turn l plan) (from_still l x f.plans (still_over l f x f.plans s.rests)))
    ∙ ap (tidied turn.flat) (map-append by f.plans (turn.plan ∷ []))

-- a state with these plans, and the deadlines of those that are undecided
abbrev with_all : Flat → List Plan → Flat
with_all g plans = record g { plans = plans; dues = filter (λ (due : Due). is_due_still plans due.kind) g.dues }

settled_begun : (l : Limits) (f : Flat) (moment : ℕ) (plan : Plan) → Still l f → stays (last_of (own_end l f moment plan)) ≡ true
    → settled l (begun f moment plan) ≡ with_all (own_end l f moment plan).flat
    (others_of (own_end l f moment plan) f.plans ++ last_of (own_end l f moment plan) ∷ [])
settled_begun l f moment plan s stay =
    let turn = own_end l f moment plan in
    let plans = map (succeeded (option_to_list turn.hosted)) f.plans in
    only_new l f moment plan s ∙ ap (with_all turn.flat) (filter-append stays plans (last_of turn ∷ [])
    ∙ ap (λ (b : Bool). filter stays plans ++ cond b (last_of turn ∷ []) []) stay)

-- ## The other plans

-- who aims elsewhere, or is decided, is left as it is
not_aimed : (service : ℕ) (plan : Plan) → is_aimed service plan ≡ false → succeeded (service ∷ []) plan ≡ plan
not_aimed service plan out =
    ap (λ (b : Bool). record plan { code = cond b (Some 0) plan.code })
    (or_none (plan.target == service) (is_none plan.code) out)
  where
    or_none : (a b : Bool) → (a && b) ≡ false → ((a || false) && b) ≡ false
    or_none true b e = e
    or_none false b e = refl

all_not_aimed : (service : ℕ) (plans : List Plan) → All (λ (plan : Plan). is_aimed service plan ≡ false) plans
    → map (succeeded (service ∷ [])) plans ≡ plans
all_not_aimed service [] out = refl
all_not_aimed service (plan ∷ plans) out =
    let P = λ (one : Plan). is_aimed service one ≡ false in
    ap (λ (one : Plan). one ∷ map (succeeded (service ∷ [])) plans) (not_aimed service plan (All-head P plan plans out))
    ∙ ap (λ (others : List Plan). plan ∷ others) (all_not_aimed service plans (All-tail P plan plans out))

none_still : (n : ℕ) (turn : Turn) (plans : List Plan) → NoneHas n plans → NoneHas n (others_of turn plans)
none_still n turn plans none =
    All-filter stays (λ (plan : Plan). is_numbered n plan ≡ false) (map (succeeded (option_to_list turn.hosted)) plans)
    (All-map (λ (plan : Plan). is_numbered n plan ≡ false) (succeeded (option_to_list turn.hosted)) plans none)

-- ## Who is entered doesn't leave

entered_stays : (handles : List HandleRow) (n process : ℕ) (row : Service) → leaves handles row ≡ false
    → leaves handles (started_if n process row) ≡ false
entered_stays handles n process row stay =
    started_or (λ new. leaves handles new ≡ false) n process row (λ stopped. not_stopped row.marked _) stay
  where
    not_stopped : (m h : Bool) → (m && false && h) ≡ false
    not_stopped true h = refl
    not_stopped false h = refl

filter_all : {X : Type 0} (p : X → Bool) (xs : List X) → All (λ x. p x ≡ false) xs → filter (λ x. not (p x)) xs ≡ xs
filter_all p [] all = refl
filter_all p (x ∷ xs) all =
    rw (All-head (λ y. p y ≡ false) x xs all) (ap (λ ys. x ∷ ys) (filter_all p xs (All-tail (λ y. p y ≡ false) x xs all)))

filter_none : {X : Type 0} (p : X → Bool) (xs : List X) → All (λ x. p x ≡ false) xs → filter p xs ≡ []
filter_none p [] all = refl
filter_none p (x ∷ xs) all = rw (All-head (λ y. p y ≡ false) x xs all) (filter_none p xs (All-tail (λ y. p y ≡ false) x xs all))

-- nobody leaves of a state in which nobody was to leave
nobody_leaves : (g : Flat) → All (λ (row : Service). leaves g.handles row ≡ false) g.services → purged g ≡ g
nobody_leaves g out =
    ap (λ (services : List Service). record g {
      services = services;
      registrations = all_noted (map event_of_leaving (filter (leaves g.handles) g.services)) g.registrations;
    }) (filter_all (leaves g.handles) g.services out)
    ∙ ap (λ (leaving : List Service). record g { registrations = all_noted (map event_of_leaving leaving) g.registrations })
    (filter_none (leaves g.handles) g.services out)

none_to_leave : (f : Flat) → purged f ≡ f → All (λ (row : Service). leaves f.handles row ≡ false) f.services
none_to_leave f clear =
    subst (λ (rows : List Service). All (λ (row : Service). leaves f.handles row ≡ false) rows) (ap (λ (g : Flat). g.services) clear)
    (passes_not (leaves f.handles) f.services)

-- ## What it comes to

-- what is answered and left of a settled state
abbrev finish : ℕ → Flat → Option ℕ → StepResult
finish n g code = leaving (answered_by n code) (purged (left_by g n code))

-- a step's effect that began a plan for a service which its own settling decided
pub record Decided (l : Limits) (f : Flat) (moment : ℕ) (target : Service) (done : StepResult) : Type 0 where
  pub code : ℕ
  pub decided : code_of (settled l done.flat).plans f.next.plan ≡ Some code
  pub reply : (closed l done).answer ≡ answer.Reply (reply.Code code)
  pub entered : code ≡ 0 → EntersHost f moment target (closed l done).flat
  pub same : (code == 0) ≡ false → (closed l done).flat ≡ with_plan_spent (with_moment f moment)

abbrev pub Comes : Limits → Flat → ℕ → Service → StepResult → Type 0
Comes l f moment target done = Waits f (closed l done).answer (closed l done).flat ⊎ Decided l f moment target done

-- the plan is found with its code
code_found : (plans : List Plan) (n : ℕ) (last : Plan) (code : Option ℕ) → NoneHas n plans → is_numbered n last ≡ true → last.code ≡ code
    → code_of (plans ++ last ∷ []) n ≡ code
code_found plans n last code none is e = ap (λ (o : Option Plan). option_and_then (λ (plan : Plan). plan.code) o)
    (found_last n plans last none is) ∙ e

-- what is left of a state when a decided plan has gone: the plans and the deadlines that were there before
plan_gone : (f g : Flat) (moment : ℕ) (plan last : Plan) (code : ℕ) → g.dues ≡ (begun f moment plan).dues → NoneHas f.next.plan f.plans
    → is_numbered f.next.plan last ≡ true → last.code ≡ Some code
    → filter (λ (due : Due). is_due_still f.plans due.kind) f.dues ≡ f.dues
    → ended (with_all g (f.plans ++ last ∷ [])) f.next.plan ≡ record g { plans = f.plans; dues = f.dues }
plan_gone f g moment plan last code due none is decided stay =
    let n = f.next.plan in
    let left = λ (rows : List Due). filter (λ (row : Due). is_due_still (f.plans ++ last ∷ []) row.kind) rows in
    ap (λ (plans : List Plan). record g { plans = plans; dues = left g.dues }) (without_last n f.plans last none is)
    ∙ ap (λ (rows : List Due). record g { plans = f.plans; dues = left rows }) due
    ∙ ap (λ (rows : List Due). record g { plans = f.plans; dues = rows }) (dues_before n f.plans last code f.dues _ none decided refl stay)

-- the step in which the plan is decided: what it is answered, and what is left
record Closes (l : Limits) (f : Flat) (moment code : ℕ) (plan : Plan) (after : Flat) : Type 0 where
  decided : code_of (settled l (begun f moment plan)).plans f.next.plan ≡ Some code
  whole : closed l (leaving (answer.Begun f.next.plan) (begun f moment plan)) ≡ leaving (answer.Reply (reply.Code code)) (purged after)

closes : (l : Limits) (f : Flat) (moment code : ℕ) (plan : Plan) (g : Flat) → Still l f → NoneHas f.next.plan f.plans
    → is_numbered f.next.plan (last_of (own_end l f moment plan)) ≡ true → stays (last_of (own_end l f moment plan)) ≡ true
    → (last_of (own_end l f moment plan)).code ≡ Some code → (own_end l f moment plan).flat ≡ g → g.dues ≡ (begun f moment plan).dues
    → others_of (own_end l f moment plan) f.plans ≡ f.plans → Closes l f moment code plan (record g { plans = f.plans; dues = f.dues })
closes l f moment code plan g s none is stay e flat due same =
    let n = f.next.plan in
    let turn = own_end l f moment plan in
    let last = last_of turn in
    let h = with_all g (f.plans ++ last ∷ []) in
    let tidy : settled l (begun f moment plan) ≡ h = settled_begun l f moment plan s stay
    ∙ ap (λ (end : Flat). with_all end (others_of turn f.plans ++ last ∷ [])) flat
    ∙ ap (λ (plans : List Plan). with_all g (plans ++ last ∷ [])) same in
    let found : code_of h.plans n ≡ Some code = code_found f.plans n last (Some code) none is e in
    let rest : filter (λ (row : Due). is_due_still f.plans row.kind) f.dues ≡ f.dues =
    ap (λ (plans : List Plan). filter (λ (row : Due). is_due_still plans row.kind) f.dues) (sym (ap (λ (k : Flat). k.plans) s.tidy))
    ∙ ap (λ (k : Flat). k.dues) s.tidy in
    record {
      decided = ap (λ (k : Flat). code_of k.plans n) tidy ∙ found;
      whole = ap (λ (k : Flat). finish n k (code_of k.plans n)) tidy
          ∙ ap (finish n h) found
          ∙ ap (λ (k : Flat). leaving (answer.Reply (reply.Code code)) (purged k)) (plan_gone f g moment plan last code due none is e rest);
    }

-- a plan that is undecided when it had its turn
waits_by : (l : Limits) (f : Flat) (moment : ℕ) (plan : Plan) → Still l f → NoneHas f.next.plan f.plans
    → is_numbered f.next.plan (last_of (own_end l f moment plan)) ≡ true → stays (last_of (own_end l f moment plan)) ≡ true
    → (last_of (own_end l f moment plan)).code ≡ None
    → let done = leaving (answer.Begun f.next.plan) (begun f moment plan) in Waits f (closed l done).answer (closed l done).flat
waits_by l f moment plan s none is stay e =
    let n = f.next.plan in
    let turn = own_end l f moment plan in
    let last = last_of turn in
    let others = others_of turn f.plans in
    let g = with_all turn.flat (others ++ last ∷ []) in
    let whole : closed l (leaving (answer.Begun n) (begun f moment plan)) ≡ leaving (answer.Begun n) (purged g) =
    ap (λ (h : Flat). finish n h (code_of h.plans n)) (settled_begun l f moment plan s stay)
    ∙ ap (finish n g) (code_found others n last None (none_still n turn f.plans none) is e) in
    record {
      begun = ap (λ (r : StepResult). r.answer) whole;
      undecided = ap (λ (r : StepResult). list_any (is_undecided n) r.flat.plans) whole ∙ undecided_last n others last is (ap is_none e);
    }

-- ## A start that fails

-- nothing was entered
fails_by : (l : Limits) (f : Flat) (moment code : ℕ) (plan : Plan) (target : Service) → Still l f → purged f ≡ f
    → NoneHas f.next.plan f.plans → is_numbered f.next.plan (last_of (own_end l f moment plan)) ≡ true
    → stays (last_of (own_end l f moment plan)) ≡ true → is_zero (own_end l f moment plan).plan.code ≡ false
    → Leaves (begun f moment plan) (own_end l f moment plan) → (last_of (own_end l f moment plan)).code ≡ Some code
    → Decided l f moment target (leaving (answer.Begun f.next.plan) (begun f moment plan))
fails_by l f moment code plan target s clear none is stay fails left e =
    let turn = own_end l f moment plan in
    let x = begun f moment plan in
    let plans : others_of turn f.plans ≡ f.plans =
    ap (λ (o : Option ℕ). filter stays (map (succeeded (option_to_list o)) f.plans)) left.hosted
    ∙ ap (filter stays) (none_succeeded f.plans) ∙ ap (λ (g : Flat). g.plans) s.tidy in
    let at = closes l f moment code plan x s none is stay e left.flat refl plans in
    let own : turn.plan.code ≡ Some code = ap (λ (o : Option ℕ). (succeeded (option_to_list o) turn.plan).code) (sym left.hosted) ∙ e in
    let some : (code == 0) ≡ false = ap is_zero (sym own) ∙ fails in
    let whole : closed l (leaving (answer.Begun f.next.plan) x) ≡ leaving (answer.Reply (reply.Code code))
    (with_plan_spent (with_moment f moment)) = at.whole
    ∙ ap (λ (g : Flat). leaving (answer.Reply (reply.Code code)) (with_plan_spent (with_moment g moment))) clear in
    record {
      code = code;
      decided = at.decided;
      reply = ap (λ (r : StepResult). r.answer) whole;
      entered = λ zero. absurd (let yes = eq-eqb code 0 zero in cc);
      same = λ other. ap (λ (r : StepResult). r.flat) whole;
    }

-- ## A start whose target enters its host

-- it succeeded by what was entered
record Succeeds (f : Flat) (plan : Plan) (service code : ℕ) : Type 0 where
  launched : enters_launched f service ≡ true
  target : plan.target ≡ service
  zero : code ≡ 0

met_code : (b : Bool) (code : Option ℕ) → code ≡ None → cond ((b || false) && is_none code) (Some 0) code ≡ cond b (Some 0) None
met_code true None e = refl
met_code false None e = refl
met_code b (Some code) e = absurd cc

by_code : (b : Bool) (code : ℕ) → cond b (Some 0) None ≡ Some code → (b ≡ true) × (code ≡ 0)
by_code true code e = (refl, cc)
by_code false code e = absurd cc

by_hosted : (b : Bool) (service code : ℕ) (plan : Plan) → plan.code ≡ None
    → (succeeded (option_to_list (cond b (Some service) None)) plan).code ≡ Some code
    → (b ≡ true) × ((plan.target == service) ≡ true) × (code ≡ 0)
by_hosted false service code plan undecided e = absurd (let never = sym undecided ∙ e in cc)
by_hosted true service code plan undecided e =
    let by = by_code (plan.target == service) code (sym (met_code (plan.target == service) plan.code undecided) ∙ e) in
    (refl, by.0, by.1)

succeeds : (f : Flat) (plan : Plan) (end : Turn) (code : ℕ) (is : Enters f plan end) → end.plan.target ≡ plan.target
    → (last_of end).code ≡ Some code → Succeeds f plan is.service code
succeeds f plan end code is target e =
    let by = by_hosted (enters_launched f is.service) is.service code end.plan is.undecided
    (ap (λ (o : Option ℕ). (succeeded (option_to_list o) end.plan).code) (sym is.hosted) ∙ e) in
    record { launched = by.0; target = sym target ∙ eqb-true end.plan.target is.service by.1; zero = by.2 }

-- the state that is left, with the plans and the deadlines that were there before: no words go with a host
with_host : (f : Flat) (moment : ℕ) (plan : Plan) (service : ℕ) (words : List (List ℕ)) (o : Option ℕ) → is_launched_at f o ≡ true
    → record (entered_at (begun f moment plan) service words o) { plans = f.plans; dues = f.dues }
    ≡ with_plan_spent (entered_at (with_moment f moment) service [] o)
with_host f moment plan service words None launched = absurd cc
with_host f moment plan service words (Some process) launched = refl

enters_by : (l : Limits) (f : Flat) (moment code : ℕ) (plan : Plan) (target : Service) → Still l f → purged f ≡ f
    → NoneHas f.next.plan f.plans → is_numbered f.next.plan (last_of (own_end l f moment plan)) ≡ true
    → stays (last_of (own_end l f moment plan)) ≡ true → plan.target ≡ target.number
    → list_any (is_aimed target.number) f.plans ≡ false → (own_end l f moment plan).plan.target ≡ plan.target
    → (is : Enters (begun f moment plan) plan (own_end l f moment plan)) → (last_of (own_end l f moment plan)).code ≡ Some code
    → Decided l f moment target (leaving (answer.Begun f.next.plan) (begun f moment plan))
enters_by l f moment code plan target s clear none is stay aims alone kept enters e =
    let turn = own_end l f moment plan in
    let x = begun f moment plan in
    let n = target.number in
    let by = succeeds x plan turn code enters kept e in
    let here : enters.service ≡ n = sym by.target ∙ aims in
    let launched : enters_launched x n ≡ true = subst (λ m. enters_launched x m ≡ true) here by.launched in
    let words = words_for plan n in
    let flat : turn.flat ≡ with_entered x n words = enters.flat ∙ ap (λ m. with_entered x m (words_for plan m)) here in
    let hosted : turn.hosted ≡ Some n = enters.hosted ∙ ap (hosted_at x) here ∙ ap (λ b. cond b (Some n) None) launched in
    let plans : others_of turn f.plans ≡ f.plans =
    ap (λ (o : Option ℕ). filter stays (map (succeeded (option_to_list o)) f.plans)) hosted
    ∙ ap (filter stays) (all_not_aimed n f.plans (none_any (is_aimed n) f.plans alone)) ∙ ap (λ (g : Flat). g.plans) s.tidy in
    let at = closes l f moment code plan (with_entered x n words) s none is stay e flat refl plans in
    let process = process_for (with_moment f moment) (host (with_moment f moment) n) in
    let left = with_plan_spent (with_entered (with_moment f moment) n []) in
    let whole : closed l (leaving (answer.Begun f.next.plan) x) ≡ leaving (answer.Reply (reply.Code code)) left = at.whole
    ∙ ap (λ (g : Flat). leaving (answer.Reply (reply.Code code)) (purged g)) (with_host f moment plan n words (host x n) launched)
    ∙ ap (λ (g : Flat). leaving (answer.Reply (reply.Code code)) g) (nobody_leaves left
    (All-map (λ (row : Service). leaves f.handles row ≡ false) (started_if n process) f.services
    (λ k d lt. entered_stays f.handles n process (get_or f.services k d) (none_to_leave f clear k d lt)))) in
    record {
      code = code;
      decided = at.decided;
      reply = ap (λ (r : StepResult). r.answer) whole;
      entered = λ zero. record { launched = launched; same = ap (λ (r : StepResult). r.flat) whole };
      same = λ other. absurd (let yes = eq-eqb code 0 by.zero in cc);
    }

-- a plan for a service that doesn't run and that no other plan aims at
pub record Begins (f : Flat) (plan : Plan) (target : Service) : Type 0 where
  pub aims : plan.target ≡ target.number
  pub undecided : plan.code ≡ None
  pub alone : list_any (is_aimed target.number) f.plans ≡ false
  pub rests : (state_of f target.number == 4) ≡ false

comes_by : (l : Limits) (f : Flat) (moment : ℕ) (plan : Plan) (target : Service) (code : Option ℕ) → Still l f → purged f ≡ f
    → NoneHas f.next.plan f.plans → Begins f plan target → is_numbered f.next.plan (last_of (own_end l f moment plan)) ≡ true
    → stays (last_of (own_end l f moment plan)) ≡ true → (own_end l f moment plan).plan.target ≡ plan.target
    → Leaves (begun f moment plan) (own_end l f moment plan) ⊎ Enters (begun f moment plan) plan (own_end l f moment plan)
    → (last_of (own_end l f moment plan)).code ≡ code
    → Comes l f moment target (leaving (answer.Begun f.next.plan) (begun f moment plan))
comes_by l f moment plan target None s clear none begins is stay kept state e = inl (waits_by l f moment plan s none is stay e)
comes_by l f moment plan target (Some code) s clear none begins is stay kept (inl left) e =
    inr (fails_by l f moment code plan target s clear none is stay
    (plan_fails l (begun f moment plan) plan (subst (λ n. (state_of f n == 4) ≡ false) (sym begins.aims) begins.rests) begins.undecided)
    left e)
comes_by l f moment plan target (Some code) s clear none begins is stay kept (inr enters) e =
    inr (enters_by l f moment code plan target s clear none is stay begins.aims begins.alone kept enters e)

-- a plan that has the next number and a caller waits, or is decided at once
pub comes : (l : Limits) (f : Flat) (moment : ℕ) (plan : Plan) (target : Service) → Still l f → purged f ≡ f → NoneHas f.next.plan f.plans
    → Begins f plan target → plan.number ≡ f.next.plan → (plan.caller == 0) ≡ false
    → Comes l f moment target (leaving (answer.Begun f.next.plan) (begun f moment plan))
comes l f moment plan target s clear none begins number caller =
    let end = own_end l f moment plan in
    let last = last_of end in
    let settles = plan_settles l (begun f moment plan) plan in
    comes_by l f moment plan target last.code s clear none begins (eq-eqb last.number f.next.plan (settles.number ∙ number))
    (stays_by last (ap (λ (n : ℕ). n == 0) settles.caller ∙ caller)) settles.target settles.state refl

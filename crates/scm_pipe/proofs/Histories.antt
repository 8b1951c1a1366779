-- Histories one after another, and what they tell of a caller's requests.
use Rattle.std.proofs.Common.{ℕ, ◌≡◌, ◌==◌, ◌++◌, true, List, [], ◌∷◌, Option, None, Some, refl, sym, ap, ◌∙◌, subst, arith}
use Rattle.std.specs.List.{cons_option}
use Rattle.scm_model.specs.declared.flat.Flat.{Flat}
use Rattle.scm_model.specs.declared.flat.Limits.{Limits}
use Rattle.scm_model.specs.declared.flat.Principal.{Principal}
use Rattle.scm_model.specs.declared.calls.Reply.{Reply}
use Rattle.scm_model.specs.declared.calls.Request.{Request}
use Rattle.scm_model.specs.declared.steps.Answer.{Answer}
use Rattle.scm_model.specs.declared.steps.Answer.TheVariants as answers
use Rattle.scm_model.specs.declared.steps.Kept.{Kept}
use Rattle.scm_model.specs.declared.steps.Step.TheVariants.{Call, EndStart, Gone, Joined, LaunchFailed, LaunchTaken, NoMemory, Raised}
use Rattle.scm_model.specs.Changes.{with_moment}
use Rattle.scm_model.specs.Entries.{Entry}
use Rattle.start_plan.specs.Settle.{settled}
use Rattle.scm_rules.specs.Launches.{first_wanted, launch_taken, launch_told}
use Rattle.scm_rules.specs.Runs.{run_state}
use Rattle.scm_rules.specs.Steps.{finished, step_of}
use Rattle.scm_pipe.specs.Histories.{heard_by, replies}

pub same_number : (n : ℕ) → (n == n) ≡ true
same_number n = grind arith

-- ## What a history tells

cons_append : {A : Type 0} (o : Option A) (xs ys : List A) → cons_option o (xs ++ ys) ≡ cons_option o xs ++ ys
cons_append None xs ys = refl
cons_append (Some x) xs ys = refl

pub replies_append : (l : Limits) (f : Flat) (c : ℕ) (es ds : List Entry) → replies l f c (es ++ ds) ≡ replies l f c es
    ++ replies l (run_state l f es) c ds
replies_append l f c [] ds = refl
replies_append l f c (e ∷ es) ds =
    let told = heard_by c e.1 (step_of l f e.0 e.1).answer in
    let g = (step_of l f e.0 e.1).flat in
    ap (cons_option told) (replies_append l g c es ds) ∙ cons_append told (replies l g c es) (replies l (run_state l g es) c ds)

-- a call that was told a reply
pub call_tells : (l : Limits) (f : Flat) (m c : ℕ) (asked : Request) (append : Kept) (reply : Reply)
    → answers.Reply reply ≡ (step_of l f m (Call c asked append)).answer
    → heard_by c (Call c asked append) (step_of l f m (Call c asked append)).answer ≡ Some (Some reply)
call_tells l f m c asked append reply is =
    subst (λ (a : Answer). heard_by c (Call c asked append) a ≡ Some (Some reply)) is (rw (same_number c) refl)

-- a call that began a start tells nothing yet
pub begun_tells : (l : Limits) (f : Flat) (m c : ℕ) (asked : Request) (append : Kept) (plan : ℕ)
    → answers.Begun plan ≡ (step_of l f m (Call c asked append)).answer
    → heard_by c (Call c asked append) (step_of l f m (Call c asked append)).answer ≡ None
begun_tells l f m c asked append plan is =
    subst (λ (a : Answer). heard_by c (Call c asked append) a ≡ None) is (rw (same_number c) refl)

-- a raise that was told a reply
pub raise_tells : (l : Limits) (f : Flat) (m c : ℕ) (subtype : List ℕ) (reply : Reply)
    → answers.Reply reply ≡ (step_of l f m (Raised c subtype)).answer
    → heard_by c (Raised c subtype) (step_of l f m (Raised c subtype)).answer ≡ Some (Some reply)
raise_tells l f m c subtype reply is =
    subst (λ (a : Answer). heard_by c (Raised c subtype) a ≡ Some (Some reply)) is (rw (same_number c) refl)

-- the end of a start tells its reply
pub end_tells : (l : Limits) (f : Flat) (m c plan : ℕ) (reply : Reply) → answers.Reply reply ≡ (step_of l f m (EndStart c plan)).answer
    → replies l f c ((m, EndStart c plan) ∷ []) ≡ Some reply ∷ []
end_tells l f m c plan reply is =
    let heard : heard_by c (EndStart c plan) (step_of l f m (EndStart c plan)).answer ≡ Some (Some reply) =
    subst (λ (a : Answer). heard_by c (EndStart c plan) a ≡ Some (Some reply)) is (rw (same_number c) refl) in
    ap (λ (o : Option (Option Reply)). cons_option o []) heard

-- a want of memory in a request's place tells that
pub want_tells : (l : Limits) (f : Flat) (m c : ℕ) → replies l f c ((m, NoMemory c) ∷ []) ≡ None ∷ []
want_tells l f m c = rw (same_number c) refl

-- a launch that fails tells nothing
pub failure_tells : (l : Limits) (f : Flat) (m n c process code : ℕ) (es : List Entry)
    → replies l f c ((m, LaunchTaken) ∷ (n, LaunchFailed process code) ∷ es) ≡ replies l
    (run_state l f ((m, LaunchTaken) ∷ (n, LaunchFailed process code) ∷ [])) c es
failure_tells l f m n c process code es = refl

-- nor does a caller's coming or going
pub join_tells : (l : Limits) (f : Flat) (m c : ℕ) (principal : Principal) (es : List Entry)
    → replies l f c ((m, Joined principal) ∷ es) ≡ replies l (run_state l f ((m, Joined principal) ∷ [])) c es
join_tells l f m c principal es = refl

pub gone_tells : (l : Limits) (f : Flat) (m c caller : ℕ) → replies l f c ((m, Gone caller) ∷ []) ≡ []
gone_tells l f m c caller = refl

-- ## A launch

told_first : (g : Flat) (found : Option ℕ) (process : ℕ) → (finished g (launch_told found)).answer ≡ answers.Launch process
    → found ≡ Some process
told_first g None process e = absurd cc
told_first g (Some first) process e = (let same : first ≡ process = cc in ap (λ (n : ℕ). Some n) same)

-- a LaunchTaken tells which process was wanted first
pub first_told : (l : Limits) (f : Flat) (m process : ℕ) → answers.Launch process ≡ (step_of l f m LaunchTaken).answer
    → first_wanted f.wanted ≡ Some process
first_told l f m process is = told_first (settled l (launch_taken (with_moment f m)).flat) (first_wanted f.wanted) process (sym is)

-- Runs over one list after another.
use Rattle.std.proofs.Common.{ℕ, zero, suc, ◌≡◌, ◌+◌, ◌-◌, ◌<◌, ◌==◌, true, false, List, [], ◌∷◌, ◌++◌, Some, Result, Ok, Err}
use Rattle.std.proofs.Common.{length-append, append_assoc, eqb-true, refl, sym, ap, ◌∙◌, subst, arith, IsTrue}
use Rattle.std.proofs.lemmas.Bool.{eqb-false}
use Rattle.std.proofs.lemmas.List.{append-nil}
use Rattle.std.specs.Prelude.{OnOk}
use Rattle.scm_core.specs.Managed.{Managed, WasMadeFor}
use Rattle.scm_model.specs.declared.steps.Step.{Step}
use Rattle.scm_model.specs.declared.steps.Step.TheVariants.{Call, EndStart, Gone, Joined, Raised, Tick}
use Rattle.scm_model.specs.declared.flat.Flat.{Flat}
use Rattle.scm_model.specs.declared.flat.Limits.{Limits}
use Rattle.scm_model.specs.declared.steps.Answer.{Answer}
use Rattle.scm_model.specs.Entries.{Entry, text_in, unkept}
use Rattle.scm_model.specs.Texts.{text_of}
use Rattle.scm_runs.proofs.Histories.{made_front}
use Rattle.scm_rules.specs.Runs.{EachStep, IsLegal}
use Rattle.scm_rules.specs.Steps.{may, step_of}
use Rattle.scm_generate.specs.declared.run.Run.TheInside.{Inside}
use Rattle.scm_generate.specs.Listed.{asked_start, at_once, opening_calls, creation_of, creations, down, downs, generated, depth_of}
use Rattle.scm_generate.specs.Listed.{run_of, all_runs, up, ups}
use Rattle.scm_generate.specs.Progress.{CanBeMade, IsOpenTo, IsQuietStep, Makes, Progress, progress_after, after_one, progress}
use Rattle.scm_generate.specs.Summary.{launch_in}

after_both : (p : Progress) (xs ys : List Entry) → progress_after p (xs ++ ys) ≡ progress_after (progress_after p xs) ys
after_both p [] ys = refl
after_both p (x ∷ xs) ys = after_both (after_one p x) xs ys

legal_both : (p : Progress) (xs ys : List Entry) → IsLegal p.limits p.flat xs
    → IsLegal (progress_after p xs).limits (progress_after p xs).flat ys → IsLegal p.limits p.flat (xs ++ ys)
unfolding after_one
legal_both p [] ys h k = k
legal_both p (x ∷ xs) ys h k = (h.0, legal_both (after_one p x) xs ys h.1 k)

quiet_both : (p : Progress) (xs ys : List Entry) → EachStep IsQuietStep p.limits p.flat xs
    → EachStep IsQuietStep (progress_after p xs).limits (progress_after p xs).flat ys
    → EachStep IsQuietStep p.limits p.flat (xs ++ ys)
unfolding after_one
quiet_both p [] ys h k = k
quiet_both p (x ∷ xs) ys h k = (h.0, quiet_both (after_one p x) xs ys h.1 k)

can_both : (p : Progress) (xs ys : List Entry) → CanBeMade p.limits p.flat xs
    → CanBeMade (progress_after p xs).limits (progress_after p xs).flat ys → CanBeMade p.limits p.flat (xs ++ ys)
can_both p xs ys h k = record { legal = legal_both p xs ys h.legal k.legal; quiet = quiet_both p xs ys h.quiet k.quiet }

-- one list after another
pub makes_both : (p q r : Progress) (xs ys : List Entry) → Makes p xs q → Makes q ys r → Makes p (xs ++ ys) r
makes_both p q r xs ys a b = record {
  is = b.is ∙ ap (λ (s : Progress). progress_after s ys) a.is ∙ sym (after_both p xs ys);
  can = can_both p xs ys a.can (subst (λ (s : Progress). CanBeMade s.limits s.flat ys) a.is b.can);
}

pub makes_three : (p q r s : Progress) (xs ys zs : List Entry) → Makes p xs q → Makes q ys r → Makes r zs s → Makes p (xs ++ (ys ++ zs)) s
makes_three p q r s xs ys zs a b c = makes_both p q s xs (ys ++ zs) a (makes_both q r s ys zs b c)

pub makes_none : (p : Progress) → Makes p [] p
makes_none p = record { is = refl; can = record { legal = tt; quiet = tt } }

-- a step more, which the manager made in the state before it
one_more : (run : Inside) (p : Progress) (mid now : Managed) (step : Step) (taken : ℕ) → progress run ≡ p
    → mid.flat ≡ run.manager.flat → mid.limits ≡ run.manager.limits → mid.text ≡ run.manager.text
    → now.flat ≡ (step_of mid.limits mid.flat 0 step).flat → now.limits ≡ mid.limits → now.text ≡ mid.text + text_of step
    → taken ≡ launch_in step
    → progress (record { manager = now; steps = run.steps + 1; launches = run.launches + taken }) ≡ after_one p (at_once step)
unfolding after_one
one_more run p mid now step taken e flat limits text flat_now limits_now text_now count =
    let made : progress (record { manager = now; steps = run.steps + 1; launches = run.launches + taken }) ≡ after_one (progress run)
    (at_once step) =
    rw (flat_now, limits_now, text_now, flat, limits, text, count) refl in
    made ∙ ap (λ (q : Progress). after_one q (at_once step)) e

pub makes_one : (run : Inside) (p : Progress) (mid now : Managed) (step : Step) (taken : ℕ) → progress run ≡ p
    → mid.flat ≡ run.manager.flat → mid.limits ≡ run.manager.limits → mid.text ≡ run.manager.text
    → now.flat ≡ (step_of mid.limits mid.flat 0 step).flat → now.limits ≡ mid.limits → now.text ≡ mid.text + text_of step
    → taken ≡ launch_in step
    → IsOpenTo p (at_once step ∷ [])
    → Makes p (at_once step ∷ []) (progress (record { manager = now; steps = run.steps + 1; launches = run.launches + taken }))
makes_one run p mid now step taken e flat limits text flat_now limits_now text_now count open_to = record {
  is = one_more run p mid now step taken e flat limits text flat_now limits_now text_now count;
  can = open_to.can;
}

-- the room that was made is the step's
pub prepared_for : (step : Step) → WasMadeFor (Some (unkept step)) step
prepared_for (Joined principal) = refl
prepared_for (Call caller asked append) = refl
prepared_for Tick = refl
prepared_for (Raised caller subtype) = refl
prepared_for step = tt

-- what can be made of the run can be made of its manager
pub open_here : (run : Inside) (p : Progress) (mid : Managed) (step : Step) → progress run ≡ p → mid.flat ≡ run.manager.flat
    → mid.limits ≡ run.manager.limits → IsOpenTo p (at_once step ∷ [])
    → IsTrue (may mid.limits mid.flat 0 step)
open_here run p mid step e flat limits h =
    let there : IsOpenTo (progress run) (at_once step ∷ []) = subst (λ q. IsOpenTo q (at_once step ∷ [])) (sym e) h in
    rw (flat, limits) there.can.legal.0

-- ## What can be made

each_front : (P : Flat → Entry → Answer → Flat → Type 0) (l : Limits) (f : Flat) (xs ys : List Entry) → EachStep P l f (xs ++ ys)
    → EachStep P l f xs
each_front P l f [] ys h = tt
each_front P l f (x ∷ xs) ys h = (h.0, each_front P l (step_of l f x.0 x.1).flat xs ys h.1)

text_both : (xs ys : List Entry) → text_in (xs ++ ys) ≡ text_in xs + text_in ys
text_both [] ys = omega arith
text_both (x ∷ xs) ys = let rest = text_both xs ys in omega (arith, rest)

-- a front of it
pub open_left : (p : Progress) (xs ys : List Entry) → IsOpenTo p (xs ++ ys) → IsOpenTo p xs
open_left p xs ys h = record {
  can = record { legal = made_front p.limits p.flat xs ys h.can.legal; quiet = each_front IsQuietStep p.limits p.flat xs ys h.can.quiet };
  steps = (let long = length-append xs ys in let few = h.steps in omega (arith, long, few));
  text = (let long = text_both xs ys in let short = h.text in omega (arith, long, short));
}

open_one : (p : Progress) (e : Entry) (es : List Entry) → IsOpenTo p (e ∷ es) → IsOpenTo (after_one p e) es
unfolding after_one
open_one p e es h = record {
  can = record { legal = h.can.legal.1; quiet = h.can.quiet.1 };
  steps = (let few = h.steps in omega (arith, few));
  text = (let short = h.text in omega (arith, short));
}

open_after : (p : Progress) (xs ys : List Entry) → IsOpenTo p (xs ++ ys) → IsOpenTo (progress_after p xs) ys
open_after p [] ys h = h
open_after p (x ∷ xs) ys h = open_after (after_one p x) xs ys (open_one p x (xs ++ ys) h)

-- what is left of it
pub open_right : (p q : Progress) (xs ys : List Entry) → Makes p xs q → IsOpenTo p (xs ++ ys) → IsOpenTo q ys
open_right p q xs ys made h = subst (λ r. IsOpenTo r ys) (sym made.is) (open_after p xs ys h)

-- some in its middle
pub open_next : (p q : Progress) (all front next rest : List Entry) → all ≡ front ++ (next ++ rest) → Makes p front q → IsOpenTo p all
    → IsOpenTo q next
open_next p q all front next rest is made h = open_left q next rest (open_right p q front (next ++ rest) made (subst (IsOpenTo p) is h))

-- a list that grows at its end, at one of its parts
split_at : (all make : ℕ → List Entry) → ((k : ℕ) → all (suc k) ≡ all k ++ make k) → (k n : ℕ) → k < n → (rest : List Entry)
    × (all n ≡ all k ++ (make k ++ rest))
split_at all make grows k zero lt = absurd (omega (arith, lt))
split_at all make grows k (suc n) lt =
    elim (k == n) as (λ b. (k == n) ≡ b → (rest : List Entry) × (all (suc n) ≡ all k ++ (make k ++ rest))) [
      | true ↦ λ e. (
        [],
        subst (λ m. all (suc m) ≡ all k ++ (make k ++ [])) (eqb-true k n e) (grows k
            ∙ ap (λ ys. all k ++ ys) (sym (append-nil (make k)))),
      )
      | false ↦ λ e.
          let apart = eqb-false k n e in
          let before = split_at all make grows k n (omega (arith, lt, apart)) in (
            before.0 ++ make n,
            grows n ∙ ap (λ xs. xs ++ make n) before.1 ∙ append_assoc (all k) (make k ++ before.0) (make n)
                ∙ ap (λ ys. all k ++ ys) (append_assoc (make k) before.0 (make n)),
          )
    ] refl

next_is : (k : ℕ) → k + 1 ≡ suc k
next_is k = omega arith

pub open_creation : (p q : Progress) (k n : ℕ) → k < n → Makes p (creations k) q → IsOpenTo p (creations n)
    → IsOpenTo q (creation_of (k + 1) ∷ [])
open_creation p q k n lt made h =
    let split = split_at creations (λ i. creation_of (suc i) ∷ []) (λ i. refl) k n lt in
    subst (λ i. IsOpenTo q (creation_of i ∷ [])) (sym (next_is k)) (open_next p q (creations n) (creations k)
    (creation_of (suc k) ∷ []) split.0 split.1 made h)

pub open_up : (p q : Progress) (first k n : ℕ) → k < n → Makes p (ups first k) q → IsOpenTo p (ups first n) → IsOpenTo q (up (first + k))
open_up p q first k n lt made h =
    let split = split_at (ups first) (λ i. up (first + i)) (λ i. refl) k n lt in
    open_next p q (ups first n) (ups first k) (up (first + k)) split.0 split.1 made h

-- the next end, and the others
pub open_down : (p : Progress) (first k : ℕ) → 0 < k → IsOpenTo p (downs first k) → IsOpenTo p (down (first + (k - 1)))
open_down p first zero some h = absurd (omega (arith, some))
open_down p first (suc k) some h =
    let e : suc k - 1 ≡ k = omega arith in
    subst (λ n. IsOpenTo p (down (first + n))) (sym e) (open_left p (down (first + k)) (downs first k) h)

pub open_downs : (p q : Progress) (first k : ℕ) → 0 < k → Makes p (down (first + (k - 1))) q → IsOpenTo p (downs first k)
    → IsOpenTo q (downs first (k - 1))
open_downs p q first zero some made h = absurd (omega (arith, some))
open_downs p q first (suc k) some made h =
    let e : suc k - 1 ≡ k = omega arith in
    subst (λ n. IsOpenTo q (downs first n)) (sym e)
    (open_right p q (down (first + k)) (downs first k) (subst (λ n. Makes p (down (first + n)) q) e made) h)

-- the next start, and the others
pub open_start : (p : Progress) (services k process plan : ℕ) → k < services → IsOpenTo p (all_runs (services - k) process plan)
    → IsOpenTo p (run_of (services - k) process plan)
open_start p services k process plan lt h =
    let i = services - (k + 1) in
    let left : services - k ≡ suc i = omega (arith, lt) in
    subst (λ n. IsOpenTo p (run_of n process plan)) (sym left)
    (open_left p (run_of (suc i) process plan) (all_runs i (process + depth_of (suc i)) (plan + 1))
    (subst (λ n. IsOpenTo p (all_runs n process plan)) left h))

pub open_starts : (p q : Progress) (services k process next : ℕ) → k < services → Makes p (run_of (services - k) process (k + 1)) q
    → next ≡ process + depth_of (services - k)
    → IsOpenTo p (all_runs (services - k) process (k + 1)) → IsOpenTo q (all_runs (services - (k + 1)) next (k + 1 + 1))
open_starts p q services k process next lt made e h =
    let i = services - (k + 1) in
    let left : services - k ≡ suc i = omega (arith, lt) in
    let first : next ≡ process + depth_of (suc i) = e ∙ ap (λ n. process + depth_of n) left in
    subst (λ n. IsOpenTo q (all_runs i n (k + 1 + 1))) (sym first)
    (open_right p q (run_of (suc i) process (k + 1)) (all_runs i (process + depth_of (suc i)) (k + 1 + 1))
    (subst (λ n. Makes p (run_of n process (k + 1)) q) left made)
    (subst (λ n. IsOpenTo p (all_runs n process (k + 1))) left h))

-- a start behind what asks for it
pub open_started : (p a : Progress) (i process plan count : ℕ) → count ≡ depth_of i → Makes p (asked_start i ∷ []) a
    → IsOpenTo p (run_of i process plan)
    → IsOpenTo a (ups process count ++ (at_once (EndStart 1 plan) ∷ downs process count))
open_started p a i process plan count e made h =
    let d = depth_of i in
    subst (λ n. IsOpenTo a (ups process n ++ (at_once (EndStart 1 plan) ∷ downs process n))) (sym e)
    (open_right p a (asked_start i ∷ []) (ups process d ++ (at_once (EndStart 1 plan) ∷ downs process d)) made h)

-- the whole list, and what is left of it
pub open_opening : (p : Progress) (n : ℕ) → IsOpenTo p (generated n) → IsOpenTo p opening_calls
unfolding generated
open_opening p n h = open_left p opening_calls (creations n ++ (all_runs n 1 1 ++ (at_once (Gone 1) ∷ []))) h

pub open_opened : (p a : Progress) (n : ℕ) → Makes p opening_calls a → IsOpenTo p (generated n)
    → IsOpenTo a (creations n ++ (all_runs n 1 1 ++ (at_once (Gone 1) ∷ [])))
unfolding generated
open_opened p a n made h = open_right p a opening_calls (creations n ++ (all_runs n 1 1 ++ (at_once (Gone 1) ∷ []))) made h

-- a creation more
pub creations_more : (p q r : Progress) (k : ℕ) → Makes p (creations k) q → Makes q (creation_of (k + 1) ∷ []) r
    → Makes p (creations (k + 1)) r
creations_more p q r k before now =
    subst (λ n. Makes p (creations n) r) (sym (next_is k))
    (makes_both p q r (creations k) (creation_of (suc k) ∷ []) before (subst (λ n. Makes q (creation_of n ∷ []) r) (next_is k) now))

-- a launch more
pub ups_more : (p q r : Progress) (first k : ℕ) → Makes p (ups first k) q → Makes q (up (first + k)) r → Makes p (ups first (k + 1)) r
ups_more p q r first k before now =
    subst (λ n. Makes p (ups first n) r) (sym (next_is k)) (makes_both p q r (ups first k) (up (first + k)) before now)

-- an end more, before the others
pub downs_more : (q r s : Progress) (first k : ℕ) → 0 < k → Makes q (down (first + (k - 1))) r → Makes r (downs first (k - 1)) s
    → Makes q (downs first k) s
downs_more q r s first zero some now rest = absurd (omega (arith, some))
downs_more q r s first (suc k) some now rest =
    let e : suc k - 1 ≡ k = omega arith in
    makes_both q r s (down (first + k)) (downs first k) (subst (λ n. Makes q (down (first + n)) r) e now)
    (subst (λ n. Makes r (downs first n) s) e rest)

-- no end is left
pub downs_none : (p : Progress) (first left : ℕ) → left ≡ 0 → Makes p (downs first left) p
downs_none p first left e = subst (λ n. Makes p (downs first n) p) (sym e) (makes_none p)

-- a start more, before the others
pub starts_more : (q r s : Progress) (services k process next : ℕ) → k < services → Makes q (run_of (services - k) process (k + 1)) r
    → next ≡ process + depth_of (services - k)
    → Makes r (all_runs (services - (k + 1)) next (k + 1 + 1)) s → Makes q (all_runs (services - k) process (k + 1)) s
starts_more q r s services k process next lt made e rest =
    let left : services - k ≡ suc (services - (k + 1)) = omega (arith, lt) in
    let i = services - (k + 1) in
    let now : Makes q (run_of (suc i) process (k + 1)) r = subst (λ n. Makes q (run_of n process (k + 1)) r) left made in
    let first : next ≡ process + depth_of (suc i) = e ∙ ap (λ n. process + depth_of n) left in
    subst (λ n. Makes q (all_runs n process (k + 1)) s) (sym left)
    (makes_both q r s (run_of (suc i) process (k + 1)) (all_runs i (process + depth_of (suc i)) (k + 1 + 1)) now
    (subst (λ n. Makes r (all_runs i n (k + 1 + 1)) s) first rest))

-- no start is left
pub starts_none : (p : Progress) (services k process plan : ℕ) → k ≡ services → Makes p (all_runs (services - k) process plan) p
starts_none p services k process plan e =
    let none : services - k ≡ 0 = omega (arith, e) in
    subst (λ n. Makes p (all_runs n process plan) p) (sym none) (makes_none p)

-- a whole start
pub started_all : (p a b d r : Progress) (i process plan count : ℕ) → count ≡ depth_of i
    → Makes p (asked_start i ∷ []) a → Makes a (ups process count) b → Makes b (at_once (EndStart 1 plan) ∷ []) d
    → Makes d (downs process count) r
    → Makes p (run_of i process plan) r
started_all p a b d r i process plan count e asked upward answered downward =
    let answer = at_once (EndStart 1 plan) in
    subst (λ n. Makes p (asked_start i ∷ (ups process n ++ (answer ∷ downs process n))) r) e
    (makes_three p a b r (asked_start i ∷ []) (ups process count) (answer ∷ downs process count) asked upward
    (makes_both b d r (answer ∷ []) (downs process count) answered downward))

-- the whole list
pub made_all : (p a b d r : Progress) (n : ℕ) → Makes p opening_calls a → Makes a (creations n) b → Makes b (all_runs n 1 1) d
    → Makes d (at_once (Gone 1) ∷ []) r → Makes p (generated n) r
unfolding generated
made_all p a b d r n first second third last =
    makes_three p a b r opening_calls (creations n) (all_runs n 1 1 ++ (at_once (Gone 1) ∷ [])) first second
    (makes_both b d r (all_runs n 1 1) (at_once (Gone 1) ∷ []) third last)

pub on_ok : {T E P Q : Type 0} (r : Result T E) → OnOk r P → (P → Q) → OnOk r Q
on_ok (Ok done) h f = f h
on_ok (Err fault) h f = tt

-- All services of a start are launched, one after another.
use Rattle.std.proofs.Common.{eqb, ℕ, zero, suc, ◌≡◌, ◌∙◌, ◌+◌, ◌/◌, ◌<◌, ◌≤◌, ◌^◌, ◌==◌, ◌||◌, ◌&&◌, ◌⊎◌, inr, true, false, cond}
use Rattle.std.proofs.Common.{List, [], ◌∷◌, ◌++◌, length, ap, sym, refl, subst, arith, ne_eqb, eq-eqb}
use Rattle.std.proofs.lemmas.Bool.{or_from}
use Rattle.std.proofs.lemmas.List.Folds.{list_any-append}
use Rattle.scm_model.specs.declared.flat.Flat.{Flat}
use Rattle.scm_model.specs.declared.flat.Limits.{Limits}
use Rattle.scm_model.specs.declared.steps.Step.TheVariants.{LaunchTaken, Launched, Report}
use Rattle.scm_model.specs.Entries.{Entry}
use Rattle.start_plan.specs.Entered.{wanted_process, wanted_row}
use Rattle.scm_rules.specs.Launches.{is_launched}
use Rattle.scm_rules.specs.Reports.{report_told, reporting}
use Rattle.scm_generate.specs.Listed.{at_once, told, up, ups}
use Rattle.scm_generate.proofs.Goes.{Goes, all_stay, goes_both, goes_on, goes_one, stepped}
use Rattle.scm_generate.proofs.Graph.{Climbs}
use Rattle.scm_generate.proofs.Launching.{Climbing, goes_up, launched_found, length_ran, ran, reports_all, reports_of, takes, taking}
use Rattle.scm_generate.proofs.Launching.{told_report, unreleased_ran, up_last}
use Rattle.scm_generate.proofs.Owned.{IsRun, Owned, RunsIn, below_apart, below_more, owned_beside, owned_same, stopped, stopped_rests}
use Rattle.scm_generate.proofs.Owned.{weaker_on}
use Rattle.scm_generate.proofs.Settling.{HasUp, IsAtRest, at_one, decided, enters_next, pending, runs, under_way}
use Rattle.scm_generate.proofs.Shape.{Live, row_at, rows}
use Rattle.scm_generate.proofs.Untold.{report_alone}
use Rattle.scm_text.specs.Numbers.{has}

-- of what was tried, nothing lies above the service that is being launched
abbrev pub Untried : List ℕ → ℕ → Type 0
Untried tried s = (k : ℕ) → s < k → has tried k ≡ false

module _ (l : Limits) (n : ℕ) (look : ℕ → Live) (plan target s t : ℕ) (rest tried done : List ℕ) (first due : ℕ)
    (small : n < 2 ^ 64) (low : 0 < first) (some : 0 < s) (lt : s ≤ n) (climbing : Climbing n look first s done)
    (half : t / 2 ≡ s) (within : t ≤ n) (passed : (target == s) ≡ false) (untried : Untried tried s)
    (space : length (s ∷ done) < l.processes) where
  abbrev p : ℕ
  p = first + length done

  above : s < t
  above = omega (arith, half, some)

  abbrev looked : ℕ → Live
  looked = at_one look s (runs p)

  apart : (t == s) ≡ false
  apart = ne_eqb t s (λ e. let a = above in omega (arith, e, a))

  abbrev launched : Flat
  launched = under_way n look (ran first (s ∷ done)) [] plan target (s ∷ t ∷ rest) tried (p + 1) due

  -- the next one is being launched
  abbrev next_looked : ℕ → ℕ → Live
  next_looked process = at_one looked t (pending process)

  abbrev next_wanting : ℕ → Flat
  next_wanting process =
      under_way n (next_looked process) (ran first (s ∷ done) ++ wanted_process process t false ∷ [])
      (wanted_row process [] ∷ []) plan target
      (t ∷ rest) (tried ++ t ∷ []) (process + 1) due

  running_here : (looked s).status.state ≡ 4
  running_here = ap (λ b. (cond b (runs p) (look s)).status.state) (eq-eqb s s refl)

  still : IsAtRest (looked t)
  still = subst (λ b. IsAtRest (cond b (runs p) (look t))) (sym apart) (climbing.above t above)

  up_for : HasUp looked t
  up_for some_need = subst (λ m. (looked m).status.state ≡ 4) (sym half) running_here

  runs_next : Goes l launched (at_once (Report p 0 (told 4 1)) ∷ []) (next_wanting (p + 1))
  runs_next = goes_one l launched (next_wanting (p + 1)) (Report p 0 (told 4 1))
      (ap (λ o. is_launched o && true) (launched_found l n look plan target s (t ∷ rest) tried done first due low some lt climbing)) refl
      (stepped l launched (Report p 0 (told 4 1))
      (record {
        answer = report_told (reporting launched p 0) (told 4 1);
        flat = under_way n looked (ran first (s ∷ done)) [] plan target (s ∷ t ∷ rest) tried (p + 1) due;
      })
      (next_wanting (p + 1)) (next_wanting (p + 1))
      (ap (λ f. record { answer = report_told (reporting launched p 0) (told 4 1); flat = f })
      (report_alone launched (reporting launched p 0) (told 4 1) (row_at s (look s)) (rows looked n) refl refl
      (reports_of l n look plan target s (t ∷ rest) tried done first due low some lt climbing launched refl refl)
      (unreleased_ran (told 4 1) (row_at s (look s)) first (s ∷ done))
      (reports_all l n look plan target s (t ∷ rest) tried done first due low some lt climbing)))
      (enters_next l n looked (ran first (s ∷ done)) plan target s t rest tried (p + 1) due small some lt running_here passed
      (let a = above in omega (arith, a)) within still up_for (untried t above)
      (let e = length_ran first (s ∷ done) in omega (arith, e, space)))
      (told_report (next_wanting (p + 1)) (reporting launched p 0) (told 4 1))
      (all_stay (next_wanting (p + 1)) (next_looked (p + 1)) n refl refl))

  abbrev wanting : Flat
  wanting = under_way n look (ran first done ++ wanted_process p s false ∷ []) (wanted_row p [] ∷ []) plan target (s ∷ t ∷ rest) tried (p
      + 1) due

  next_number : p + 1 ≡ first + length (s ∷ done)
  next_number = omega arith

  pub up_next : Goes l wanting (up p) (next_wanting (first + length (s ∷ done)))
  up_next =
      subst (λ m. Goes l wanting (up p) (next_wanting m)) next_number
      (goes_on l wanting (taking l n look plan target s (t ∷ rest) tried done first due low some lt climbing)
      (next_wanting (p + 1)) LaunchTaken
      (at_once (Launched p p) ∷ at_once (Report p 0 (told 4 1)) ∷ [])
      (takes l n look plan target s (t ∷ rest) tried done first due low some lt climbing)
      (goes_on l (taking l n look plan target s (t ∷ rest) tried done first due low some lt climbing) launched (next_wanting (p + 1))
      (Launched p p) (at_once (Report p 0 (told 4 1)) ∷ [])
      (goes_up l n look plan target s (t ∷ rest) tried done first due low some lt climbing passed) runs_next))

  -- how the services stand then
  others : (k : ℕ) → (k == t) ≡ false → IsAtRest (next_looked (first + length (s ∷ done)) k)
      ⊎ IsRun first (first + length (s ∷ done)) (next_looked (first + length (s ∷ done)) k)
  others k other =
      subst (λ b. IsAtRest (cond b (pending (first + length (s ∷ done))) (looked k))
      ⊎ IsRun first (first + length (s ∷ done)) (cond b (pending (first + length (s ∷ done))) (looked k))) (sym other)
      (elim (k == s) as (λ b. (k == s) ≡ b → IsAtRest (cond b (runs p) (look k))
      ⊎ IsRun first (first + length (s ∷ done)) (cond b (runs p) (look k))) [
        | true ↦ λ e. inr (record { status = refl; low = omega arith; high = omega arith })
        | false ↦ λ e. weaker_on first p (first + length (s ∷ done)) (look k) (omega arith) (climbing.others k e)
      ] refl)

  higher : (k : ℕ) → t < k → IsAtRest (next_looked (first + length (s ∷ done)) k)
  higher k far =
      subst (λ b. IsAtRest (cond b (pending (first + length (s ∷ done))) (looked k))) (sym (ne_eqb k t (λ e. omega (arith, e, far))))
      (subst (λ b. IsAtRest (cond b (runs p) (look k))) (sym (ne_eqb k s (λ e. let a = above in omega (arith, e, far, a))))
      (climbing.above k (let a = above in omega (arith, far, a))))

  -- once the next one stops, those before it run
  stands : (k : ℕ) → at_one (at_one look s stopped) t stopped k
      ≡ at_one (at_one (next_looked (first + length (s ∷ done))) t stopped) s stopped k
  stands k =
      elim (k == s) as (λ b. cond (k == t) stopped (cond b stopped (look k)) ≡ cond b stopped (cond (k == t) stopped
      (cond (k == t) (pending (first + length (s ∷ done))) (cond b (runs p) (look k))))) [
        | true ↦ elim (k == t) as (λ b. cond b stopped stopped ≡ stopped) [ true ↦ refl | false ↦ refl ]
        | false ↦ elim (k == t) as (λ b. cond b stopped (look k) ≡ cond b stopped
            (cond b (pending (first + length (s ∷ done))) (look k))) [ true ↦ refl | false ↦ refl ]
      ]

  owned_on : Owned n (at_one (next_looked (first + length (s ∷ done))) t stopped) first (s ∷ done)
  owned_on =
      let other : (s == t) ≡ false = ne_eqb s t (λ e. let a = above in omega (arith, e, a)) in (
        subst (λ b. RunsIn n s p (cond b stopped (cond b (pending (first + length (s ∷ done))) (looked s)))) (sym other)
            (subst (λ b. RunsIn n s p (cond b (runs p) (look s))) (sym (eq-eqb s s refl))
            (record { status = refl; process = refl; some = some; within = lt })),
        owned_same n (at_one (at_one look s stopped) t stopped)
            (at_one (at_one (next_looked (first + length (s ∷ done))) t stopped) s stopped) first done stands
            (owned_beside n (at_one look s stopped) first t done stopped stopped_rests (below_apart s t done above climbing.below)
            climbing.before),
      )

  pub climbs_on : Climbing n (next_looked (first + length (s ∷ done))) first t (s ∷ done)
  climbs_on = record {
    here = ap (λ b. cond b (pending (first + length (s ∷ done))) (looked t)) (eq-eqb t t refl);
    others = others;
    above = higher;
    before = owned_on;
    below = (above, below_more s t done above climbing.below);
  }

  pub untried_on : Untried (tried ++ t ∷ []) t
  untried_on k far =
      list_any-append (eqb k) tried (t ∷ [])
      ∙ or_from (has tried k) (eqb k t || false) (untried k (let a = above in omega (arith, far, a)))
      (or_from (eqb k t) false (ne_eqb k t (λ e. omega (arith, e, far))) refl)

-- ## All of them

pub ups_front : (first c : ℕ) → ups first (suc c) ≡ up first ++ ups (first + 1) c
ups_front first zero = ap up (omega arith)
ups_front first (suc c) =
    let same : first + suc c ≡ first + 1 + c = omega arith in
    ap (λ es. es ++ up (first + suc c)) (ups_front first c) ∙ ap (λ m. up first ++ (ups (first + 1) c ++ up m)) same

climbs_above : (n s : ℕ) (rest : List ℕ) (last : ℕ) → Climbs n s rest last → 0 < s → s ≤ last
climbs_above n s [] last h some = omega (arith, h)
climbs_above n s (t ∷ rest) last h some =
    let half = h.0 in
    let on = climbs_above n t rest last h.3 h.1 in
    omega (arith, half, on, some)

-- what a start has come to, whose services all run
pub record HasClimbed (l : Limits) (n first plan target due total : ℕ) (f : Flat) (es : List Entry) : Type 0 where
  pub look : ℕ → Live
  pub done : List ℕ
  pub tried : List ℕ
  pub entries : List ℕ
  pub long : length done ≡ total
  pub owned : Owned n look first done
  pub goes : Goes l f es (decided n look (ran first done) plan target entries tried (first + length done) due)

-- the last one runs
last_climbed : (l : Limits) (n : ℕ) (look : ℕ → Live) (plan target s : ℕ) (tried done : List ℕ) (first due : ℕ) → 0 < first → 0 < s → s ≤ n
    → Climbing n look first s done → s ≡ target
    → HasClimbed l n first plan target due (length done + 1)
    (under_way n look (ran first done ++ wanted_process (first + length done) s false ∷ [])
    (wanted_row (first + length done) [] ∷ []) plan target
    (s ∷ []) tried (first + length done + 1) due)
    (ups (first + length done) 1)
last_climbed l n look plan target s tried done first due low some lt climbing is =
    let p = first + length done in
    let wanting = under_way n look (ran first done ++ wanted_process p s false ∷ []) (wanted_row p [] ∷ []) plan target (s ∷ []) tried (p
    + 1) due in
    let number : p + 1 ≡ first + length (s ∷ done) = omega arith in
    record {
      look = at_one look s (runs p);
      done = s ∷ done;
      tried = tried;
      entries = s ∷ [];
      long = omega arith;
      owned = (
        subst (λ b. RunsIn n s p (cond b (runs p) (look s))) (sym (eq-eqb s s refl))
            (record { status = refl; process = refl; some = some; within = lt }),
        owned_same n (at_one look s stopped) (at_one (at_one look s (runs p)) s stopped) first done
            (λ k. elim (k == s) as (λ b. cond b stopped (look k) ≡ cond b stopped (cond b (runs p) (look k))) [
              | true ↦ refl
              | false ↦ refl
            ]) climbing.before,
      );
      goes = subst (λ es. Goes l wanting es (decided n (at_one look s (runs p)) (ran first (s ∷ done)) plan target (s ∷ []) tried (first
          + length (s ∷ done)) due)) (sym (ups_front p 0))
          (subst (λ m. Goes l wanting (up p) (decided n (at_one look s (runs p)) (ran first (s ∷ done)) plan target (s ∷ []) tried m due))
          number
          (up_last l n look plan target s [] tried done first due low some lt climbing (eq-eqb target s (sym is))));
    }

-- more entries before those of a climb
climbed_more : (l : Limits) (n first plan target due total more : ℕ) (f g : Flat) (xs ys es : List Entry) → Goes l f xs g
    → HasClimbed l n first plan target due total g ys → xs ++ ys ≡ es → total ≡ more
    → HasClimbed l n first plan target due more f es
climbed_more l n first plan target due total more f g xs ys es before rest is same = record {
  look = rest.look;
  done = rest.done;
  tried = rest.tried;
  entries = rest.entries;
  long = rest.long ∙ same;
  owned = rest.owned;
  goes = subst (λ zs. Goes l f zs (decided n rest.look (ran first rest.done) plan target rest.entries rest.tried (first
      + length rest.done) due)) is (goes_both l f g _ xs ys before rest.goes);
}

pub climbs_all : (l : Limits) (n : ℕ) (look : ℕ → Live) (plan target s : ℕ) (rest tried done : List ℕ) (first due : ℕ) → n < 2 ^ 64
    → 0 < first → 0 < s → s ≤ n → Climbs n s rest target
    → Climbing n look first s done → Untried tried s → length done + suc (length rest) ≤ l.processes
    → HasClimbed l n first plan target due (length done + suc (length rest))
    (under_way n look (ran first done ++ wanted_process (first + length done) s false ∷ [])
    (wanted_row (first + length done) [] ∷ []) plan target
    (s ∷ rest) tried (first + length done + 1) due)
    (ups (first + length done) (suc (length rest)))
climbs_all l n look plan target s [] tried done first due small low some lt is climbing untried space =
    last_climbed l n look plan target s tried done first due low some lt climbing is
climbs_all l n look plan target s (t ∷ rest) tried done first due small low some lt climbs climbing untried space =
    let p = first + length done in
    let half : t / 2 ≡ s = climbs.0 in
    let top : t ≤ target = climbs_above n t rest target climbs.3 climbs.1 in
    let passed : (target == s) ≡ false = ne_eqb target s (λ e. omega (arith, e, top, half, some)) in
    let room : length (s ∷ done) < l.processes = omega (arith, space) in
    let q = first + length (s ∷ done) in
    let number : p + 1 ≡ q = omega arith in
    climbed_more l n first plan target due (length (s ∷ done) + suc (length rest)) (length done + suc (length (t ∷ rest))) _ _ (up p)
    (ups q (suc (length rest))) (ups p (suc (length (t ∷ rest))))
    (up_next l n look plan target s t rest tried done first due small low some lt climbing half climbs.2 passed untried room)
    (climbs_all l n (at_one (at_one look s (runs p)) t (pending q)) plan target t rest (tried ++ t ∷ [])
    (s ∷ done) first due small low climbs.1 climbs.2 climbs.3
    (climbs_on l n look plan target s t rest tried done first due small low some lt climbing half climbs.2 passed untried room)
    (untried_on l n look plan target s t rest tried done first due small low some lt climbing half climbs.2 passed untried room)
    (omega (arith, space)))
    (ap (λ m. up p ++ ups m (suc (length rest))) (sym number) ∙ sym (ups_front p (suc (length rest))))
    (omega arith)

-- Settling enters a service by a new process, or by its host: the shared process of another service of its path.
use Rattle.std.proofs.Common.{ℕ, ◌≡◌, ◌⊎◌, ◌∙◌, ◌==◌, ◌≤◌, ◌&&◌, ◌||◌, ◌++◌, not, Bool, true, false, cond, List, [], ◌∷◌, Option, None}
use Rattle.std.proofs.Common.{Some}
use Rattle.std.proofs.Common.{refl, sym, ap, find, map, subst, inl, inr, arith}
use Rattle.std.specs.List.{AllByRecursion, AllZip, list_any}
use Rattle.std.specs.Cmp.Lexicographic.{pointwise}
use Rattle.std.proofs.lemmas.Bool.{eqb-true, eq-eqb, ne_eqb, or_right}
use Rattle.scm_model.specs.declared.flat.Flat.{Flat}
use Rattle.scm_model.specs.declared.flat.Limits.{Limits}
use Rattle.scm_model.specs.declared.flat.Plan.{Plan}
use Rattle.scm_model.specs.declared.flat.Process.{Process}
use Rattle.scm_model.specs.declared.flat.Service.{Service}
use Rattle.scm_model.specs.Processes.{is_shared, process_of}
use Rattle.scm_model.specs.Rows.{service_of}
use Rattle.start_plan.specs.Entered.{is_shared_by, process_for, started_if, starting_in, wanted_process, with_entered}
use Rattle.start_plan.specs.Hosting.{HasOwnOrHost, HaveNone, IsHosted, is_beside}
use Rattle.start_plan.specs.Hosts.{host, is_sharing, offers}
use Rattle.start_plan.specs.Settle.{settle_all, settled, tidied}
use Rattle.start_plan.specs.Started.{IsOnce}
use Rattle.start_plan.proofs.Enterings.{both_true, each_found, shared_entered, up_entered}
use Rattle.start_plan.proofs.Hosts.{IsHost, entered_keeps, host_found}
use Rattle.start_plan.proofs.Keeps.{Keeps, keeps_flat}
use Rattle.start_plan.proofs.Rows.{numbers_same, started_or}

-- ## Tests of lists

found_has : {A : Type 0} (P : A → Type 0) (p : A → Bool) (xs : List A) (x : A) → AllByRecursion P xs → find p xs ≡ Some x → P x
found_has P p [] x all found = absurd cc
found_has P p (y ∷ ys) x all found =
    elim (p y) as (λ b. cond b (Some y) (find p ys) ≡ Some x → P x) [
      | true ↦ λ here. let same : y ≡ x = cc in subst P same all.0
      | false ↦ λ later. found_has P p ys x all.1 later
    ] found

any_found : {A : Type 0} (p q : A → Bool) (xs : List A) (x : A) → find p xs ≡ Some x → q x ≡ true → list_any q xs ≡ true
any_found p q [] x found holds = absurd cc
any_found p q (y ∷ ys) x found holds =
    elim (p y) as (λ b. cond b (Some y) (find p ys) ≡ Some x → (q y || list_any q ys) ≡ true) [
      | true ↦ λ here. let same : y ≡ x = cc in let yes : q y ≡ true = ap q same ∙ holds in rw yes refl
      | false ↦ λ later. or_right (q y) (list_any q ys) (any_found p q ys x later holds)
    ] found

-- ## Another service of a process

pub last_of : (a b c d e : Bool) → (a && b && (c && d && e)) ≡ true → e ≡ true
last_of true true true true e h = h
last_of true true true false e h = absurd cc
last_of true true false d e h = absurd cc
last_of true false c d e h = absurd cc
last_of false b c d e h = absurd cc

with_last : (a b c d e e' : Bool) → (a && b && (c && d && e)) ≡ true → e' ≡ true → (a && b && (c && d && e')) ≡ true
with_last true true true true e e' h is = is
with_last true true true false e e' h is = absurd cc
with_last true true false d e e' h is = absurd cc
with_last true false c d e e' h is = absurd cc
with_last false b c d e e' h is = absurd cc

-- a service that has no process where it is STOPPED
abbrev HasNone : Service → Type 0
HasNone row = row.status.state ≡ 1 → row.process ≡ 0

-- one in a shared process isn't STOPPED
not_stopped : (f : Flat) (row : Service) → process_of f 0 ≡ None → HasNone row → is_shared (process_of f row.process) ≡ true
    → row.status.state ≡ 1 → ⊥
not_stopped f row zero none shared stopped =
    absurd (cc (sym (ap (λ n. is_shared (process_of f n)) (none stopped) ∙ ap is_shared zero) ∙ shared))

shared_at : (f : Flat) (row other : Service) → is_beside f row other ≡ true → is_shared (process_of f other.process) ≡ true
shared_at f row other is =
    last_of (not (other.number == row.number)) (other.process == row.process) (is_sharing other)
    (pointwise ◌==◌ other.config.path row.config.path) (is_shared (process_of f other.process)) is

one_beside : (f : Flat) (n p : ℕ) (words : List (List ℕ)) (row other : Service) → process_of f 0 ≡ None → HasNone other
    → is_beside f row other ≡ true → is_beside (with_entered f n words) row (started_if n p other) ≡ true
one_beside f n p words row other zero none is =
    let shared = shared_at f row other is in
    started_or (λ new. is_beside (with_entered f n words) row new ≡ true) n p other
    (λ stopped. absurd (not_stopped f other zero none shared stopped))
    (with_last (not (other.number == row.number)) (other.process == row.process) (is_sharing other)
    (pointwise ◌==◌ other.config.path row.config.path) (is_shared (process_of f other.process))
    (is_shared (process_of (with_entered f n words) other.process)) is (shared_entered f n words other.process shared))

still_beside : (f : Flat) (n p : ℕ) (words : List (List ℕ)) (row : Service) (rows : List Service) → process_of f 0 ≡ None
    → AllByRecursion HasNone rows → list_any (is_beside f row) rows ≡ true
    → list_any (is_beside (with_entered f n words) row) (map (started_if n p) rows) ≡ true
still_beside f n p words row [] zero none is = absurd cc
still_beside f n p words row (other ∷ rows) zero none is =
    let new = is_beside (with_entered f n words) row in
    elim (is_beside f row other) as (λ b. is_beside f row other ≡ b → (b || list_any (is_beside f row) rows) ≡ true
    → (new (started_if n p other) || list_any new (map (started_if n p) rows)) ≡ true) [
      | true ↦ λ e h. let yes = one_beside f n p words row other zero none.0 e in rw yes refl
      | false ↦ λ e h. or_right (new (started_if n p other)) (list_any new (map (started_if n p) rows))
          (still_beside f n p words row rows zero none.1 h)
    ] refl is

-- ## An entering

-- whose process a service has
record Homes (next : ℕ) (befores : List Service) (f : Flat) : Type 0 where
  up : next ≤ f.next.process
  once : IsOnce f.services
  none : HaveNone f
  homed : AllZip (HasOwnOrHost next f) befores f.services

-- the host's own service isn't the one that enters
other_number : (f : Flat) (n process : ℕ) (row : Service) → IsOnce f.services → HaveNone f → service_of f n ≡ Some row
    → row.status.state ≡ 1 → (is : IsHost f n process) → (is.other.number == n) ≡ false
other_number f n process row once none found stopped is =
    ne_eqb is.other.number n (λ same.
    let there = found_has (λ (r : Service). r.number ≡ n → service_of f n ≡ Some r) (offers f is.row.config.path) f.services is.other
    (each_found n f.services once) is.first same in
    let one : is.other ≡ row = cc in
    let free = found_has HasNone (offers f is.row.config.path) f.services is.other none.stopped is.first in
    let shared = subst (λ k. is_shared (process_of f k) ≡ true) (sym is.lives) is.shared in
    not_stopped f is.other none.zero free shared (ap (λ (r : Service). r.status.state) one ∙ stopped))

beside_true : (a b c : Bool) → a ≡ false → b ≡ true → c ≡ true → (not a && b && c) ≡ true
beside_true false true true e f g = refl
beside_true true b c e f g = absurd cc
beside_true false false c e f g = absurd cc
beside_true false true false e f g = absurd cc

by_home : (next : ℕ) (f : Flat) (n : ℕ) (words : List (List ℕ)) (row : Service) (o : Option ℕ) → next ≤ f.next.process → IsOnce f.services
    → HaveNone f → row.number ≡ n → service_of f n ≡ Some row → row.status.state ≡ 1 → host f n ≡ o
    → (next ≤ process_for f o) ⊎ IsHosted (with_entered f n words) (starting_in (process_for f o) row)
by_home next f n words row None up once none number found stopped is = inl up
by_home next f n words row (Some process) up once none number found stopped is =
    let host_is = host_found f n process is in
    let other = host_is.other in
    let there = host_is.found in
    let same : host_is.row ≡ row = cc in
    let new = starting_in process row in
    let apart : (other.number == row.number) ≡ false = ap (λ k. other.number == k) number
    ∙ other_number f n process row once none found stopped host_is in
    let offering : offers f row.config.path other ≡ true =
    ap (λ (r : Service). offers f r.config.path other) (sym same) ∙ host_is.offering in
    let beside : is_beside f new other ≡ true = beside_true (other.number == row.number) (other.process == process)
    (offers f row.config.path other) apart (eq-eqb other.process process host_is.lives) offering in
    inr (record {
      sharing = ap is_sharing (sym same) ∙ host_is.sharing;
      beside = subst (λ p. list_any (is_beside (with_entered f n words) new) (map (started_if n p) f.services) ≡ true)
          (sym (ap (process_for f) is)) (still_beside f n process words new f.services none.zero none.stopped
          (any_found (offers f host_is.row.config.path) (is_beside f new) f.services other host_is.first beside));
    })

still_home : (next : ℕ) (f : Flat) (n : ℕ) (words : List (List ℕ)) (before after : Service) → HaveNone f → HasOwnOrHost next f before after
    → HasOwnOrHost next (with_entered f n words) before after
still_home next f n words before after none (inl same) = inl same
still_home next f n words before after none (inr (inl new)) = inr (inl new)
still_home next f n words before after none (inr (inr is)) =
    inr (inr (record {
      sharing = is.sharing;
      beside = still_beside f n (process_for f (host f n)) words after f.services none.zero none.stopped is.beside;
    }))

one_home : (next : ℕ) (f : Flat) (n : ℕ) (words : List (List ℕ)) (before after : Service) → next ≤ f.next.process → IsOnce f.services
    → HaveNone f → (after.number ≡ n → service_of f n ≡ Some after) → HasOwnOrHost next f before after
    → HasOwnOrHost next (with_entered f n words) before (started_if n (process_for f (host f n)) after)
one_home next f n words before after up once none found was =
    let process = process_for f (host f n) in
    elim (after.number == n && after.status.state == 1) as (λ b. (after.number == n && after.status.state == 1) ≡ b
    → HasOwnOrHost next (with_entered f n words) before (cond b (starting_in process after) after)) [
      | true ↦ λ e.
          let both = both_true (after.number == n) (after.status.state == 1) e in
          let number = eqb-true after.number n both.0 in
          inr (by_home next f n words after (host f n) up once none number (found number) (eqb-true after.status.state 1 both.1) refl)
      | false ↦ λ e. still_home next f n words before after none was
    ] refl

all_home : (next : ℕ) (f : Flat) (n : ℕ) (words : List (List ℕ)) (befores afters : List Service) → next ≤ f.next.process → IsOnce f.services
    → HaveNone f → AllByRecursion (λ (row : Service). row.number ≡ n → service_of f n ≡ Some row) afters
    → AllZip (HasOwnOrHost next f) befores afters
    → AllZip (HasOwnOrHost next (with_entered f n words)) befores (map (started_if n (process_for f (host f n))) afters)
all_home next f n words [] [] up once none found was = tt
all_home next f n words [] (after ∷ afters) up once none found was = was
all_home next f n words (before ∷ befores) [] up once none found was = was
all_home next f n words (before ∷ befores) (after ∷ afters) up once none found was = (
  one_home next f n words before after up once none found.0 was.0,
  all_home next f n words befores afters up once none found.1 was.1,
)

none_started : (n p : ℕ) (rows : List Service) → AllByRecursion HasNone rows → AllByRecursion HasNone (map (started_if n p) rows)
none_started n p [] all = tt
none_started n p (row ∷ rows) all =
    (started_or HasNone n p row (λ stopped e. absurd (omega (arith, e))) all.0, none_started n p rows all.1)

none_more : (new : Process) (rows : List Process) → (new.number == 0) ≡ false → find (λ (row : Process). row.number == 0) rows ≡ None
    → find (λ (row : Process). row.number == 0) (rows ++ new ∷ []) ≡ None
none_more new [] apart none = rw apart refl
none_more new (row ∷ rows) apart none =
    elim (row.number == 0) as (λ b. cond b (Some row) (find (λ (r : Process). r.number == 0) rows) ≡ None
    → cond b (Some row) (find (λ (r : Process). r.number == 0) (rows ++ new ∷ [])) ≡ None) [
      | true ↦ λ e. absurd cc
      | false ↦ λ e. none_more new rows apart e
    ] none

none_entered : (f : Flat) (n : ℕ) (words : List (List ℕ)) → HaveNone f → HaveNone (with_entered f n words)
none_entered f n words none = record {
  stopped = none_started n (process_for f (host f n)) f.services none.stopped;
  zero = entered_keeps (λ g. process_of g 0 ≡ None) f n words
      (λ free. none_more (wanted_process f.next.process n (is_shared_by (service_of f n))) f.processes
      (ne_eqb f.next.process 0 (λ e. let one = none.next in omega (arith, one, e))) none.zero) (λ process host. none.zero);
  next = up_entered 1 f n words none.next;
}

-- ## Settling

settles_home : (l : Limits) (next : ℕ) (befores : List Service) → Keeps l (Homes next befores) (λ plan. Unit {0})
settles_home l next befores = record {
  enters = λ f plan n words entry homes. record {
    up = up_entered next f n words homes.up;
    once = rw (numbers_same n (process_for f (host f n)) f.services) homes.once;
    none = none_entered f n words homes.none;
    homed = all_home next f n words befores f.services homes.up homes.once homes.none (each_found n f.services homes.once) homes.homed;
  };
  tries = λ f plan n entry q. tt;
  drops = λ plan n rest code q. tt;
  meets = λ plan services q. tt;
}

as_before : (next : ℕ) (f : Flat) (rows : List Service) → AllZip (HasOwnOrHost next f) rows rows
as_before next f [] = tt
as_before next f (row ∷ rows) = (inl refl, as_before next f rows)

one_tidied : (next : ℕ) (f : Flat) (plans : List Plan) (before after : Service) → HasOwnOrHost next f before after
    → HasOwnOrHost next (tidied f plans) before after
one_tidied next f plans before after (inl same) = inl same
one_tidied next f plans before after (inr (inl new)) = inr (inl new)
one_tidied next f plans before after (inr (inr is)) = inr (inr (record { sharing = is.sharing; beside = is.beside }))

all_tidied : (next : ℕ) (f : Flat) (plans : List Plan) (befores afters : List Service) → AllZip (HasOwnOrHost next f) befores afters
    → AllZip (HasOwnOrHost next (tidied f plans)) befores afters
all_tidied next f plans [] [] was = tt
all_tidied next f plans [] (after ∷ afters) was = was
all_tidied next f plans (before ∷ befores) [] was = was
all_tidied next f plans (before ∷ befores) (after ∷ afters) was =
    (one_tidied next f plans before after was.0, all_tidied next f plans befores afters was.1)

pub enters_its_host : (l : Limits) (f : Flat) → IsOnce f.services → HaveNone f
    → AllZip (HasOwnOrHost f.next.process (settled l f)) f.services (settled l f).services
enters_its_host l f once none =
    let next = f.next.process in
    let end = settle_all l f f.plans in
    let homes = keeps_flat l (Homes next f.services) (settles_home l next f.services) f f.plans
    (record { up = omega arith; once = once; none = none; homed = as_before next f f.services }) in
    all_tidied next end.flat end.plans f.services end.flat.services homes.homed

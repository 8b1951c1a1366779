-- What is settled stays so where processes become no more, and those of services are shared as they were.
use Rattle.std.proofs.Common.{ℕ, ◌≡◌, ◌∙◌, ◌≤◌, ◌==◌, ◌||◌, ◌&&◌, Bool, true, false, not, cond, List, [], ◌∷◌, Option, None, Some, length}
use Rattle.std.proofs.Common.{ap, filter, find, map, get_or, sym, refl, subst, arith, eqb-true, inl, inr}
use Rattle.std.specs.Prelude.{All, is_none, is_some, nat_le, option_map}
use Rattle.std.specs.Cmp.Lexicographic.{pointwise}
use Rattle.std.proofs.lemmas.List.{length-map}
use Rattle.std.proofs.lemmas.List.Elements.{All-filter, All-head, All-tail}
use Rattle.std.specs.List.{AllByRecursion}
use Rattle.std.proofs.lemmas.Bool.Decides.{nat_tests}
use Rattle.scm_model.specs.declared.flat.Flat.{Flat}
use Rattle.scm_model.specs.declared.flat.Limits.{Limits}
use Rattle.scm_model.specs.declared.flat.Plan.{Plan}
use Rattle.scm_model.specs.declared.flat.Process.{Process}
use Rattle.scm_model.specs.declared.flat.Service.{Service}
use Rattle.scm_model.specs.declared.flat.Wanted.{Wanted}
use Rattle.scm_model.specs.Processes.{is_by, is_shared, process_of}
use Rattle.scm_model.specs.Purge.{purged}
use Rattle.scm_model.specs.Rows.{service_of}
use Rattle.start_plan.specs.Hosts.{host_at, is_sharing, offers}
use Rattle.start_plan.specs.Moves.{cause_at, entering_at, is_full, is_pending, move_by}
use Rattle.scm_model.specs.Ready.{is_ready, state_in}
use Rattle.start_plan.specs.Settle.{Turns, settled, tidied}
use Rattle.start_plan.specs.declared.settling.Move.{Move}
use Rattle.start_plan.specs.declared.settling.Move.TheVariants as moves
use Rattle.scm_rules.specs.Valid.{IsValid}
use Rattle.scm_runs.proofs.Hosted.{zero_none}
use Rattle.scm_runs.proofs.Lists.{filter_short, find_filter}
use Rattle.scm_runs.proofs.Processes.{shared_map}
use Rattle.scm_runs.proofs.Rests.{Rests, settled_rest, RestsAt, all_still}
use Rattle.scm_model.specs.declared.flat.Registration.{Registration}
use Rattle.scm_text.specs.Numbers.{has}

-- the state with other processes, other wanted launches and other registrations, at another moment
abbrev pub with_others : Flat → List Process → List Wanted → List Registration → ℕ → Flat
with_others f processes wanted registrations moment = record f {
  processes = processes;
  wanted = wanted;
  registrations = registrations;
  moment = moment;
}

-- a move by what is in the way
abbrev MoveBy : Bool → Bool → Bool → Bool → Bool → Bool → Bool → Move
MoveBy running pending marked disabled unready full locked =
    cond running moves.Passes
    (cond pending moves.Waits (move_by (entering_at (cond marked 1072 (cond disabled 1058 (cond unready 1068 (cond full 1054 0)))) locked)))

-- who waits waits still where more processes may be listed
still_waits : (a b m d u p p' k : Bool) → (p ≡ false → p' ≡ false) → MoveBy a b m d u p k ≡ moves.Waits
    → MoveBy a b m d u p' k ≡ moves.Waits
still_waits true b m d u p p' k keeps h = absurd cc
still_waits false true m d u p p' k keeps h = refl
still_waits false false true d u p p' k keeps h = absurd cc
still_waits false false false true u p p' k keeps h = absurd cc
still_waits false false false false true p p' k keeps h = absurd cc
still_waits false false false false false true p' k keeps h = absurd cc
still_waits false false false false false false p' k keeps h = rw (keeps refl) h

not_full : (limit a b : ℕ) → b ≤ a → nat_le limit a ≡ false → nat_le limit b ≡ false
not_full limit a b few h = grind (arith, nat_tests)

-- what a plan does at a service that is found
abbrev MoveAt : Limits → Flat → List ℕ → ℕ → Option Service → Move
MoveAt l f tried x found =
    cond (state_in found == 4) moves.Passes
    (cond (is_pending (state_in found)) moves.Waits (move_by (entering_at (cause_at l f (has tried x) found) (is_some f.lock))))

-- ## Processes listed

-- whether a service's process is shared still
abbrev SharesStill : Flat → List Process → Service → Type 0
SharesStill f processes row = is_shared (find (λ (p : Process). p.number == row.process) processes) ≡ is_shared (process_of f row.process)

-- no more processes are listed, and those of services are shared as they were
pub record Lists (f : Flat) (processes : List Process) : Type 0 where
  pub few : length processes ≤ length f.processes
  pub shared : All (SharesStill f processes) f.services

pub lists_same : (f : Flat) → Lists f f.processes
lists_same f = record { few = omega arith; shared = λ k d lt. refl }

-- a change of each that leaves number and whether it is shared
pub lists_mapped : (f : Flat) (change : Process → Process) → ((row : Process) → (change row).number ≡ row.number)
    → ((row : Process) → (change row).shared ≡ row.shared) → Lists f (map change f.processes)
lists_mapped f change number shared = record {
  few = (let same = length-map f.processes change in omega (arith, same));
  shared = λ k d lt. shared_map change number shared (get_or f.services k d).process f.processes;
}

-- a process leaves that is no service's current one
unshared_without : (process n : ℕ) (rows : List Process) → All (λ (row : Process). 1 ≤ row.number) rows
    → (not (process == 0) && n == process) ≡ false
    → is_shared (find (λ (p : Process). p.number == n) (filter (λ (p : Process). not (p.number == process)) rows))
    ≡ is_shared (find (λ (p : Process). p.number == n) rows)
unshared_without process n rows positive out =
    elim (n == process) as (λ b. (n == process) ≡ b → (not (process == 0) && b) ≡ false
    → is_shared (find (λ (p : Process). p.number == n) (filter (λ (p : Process). not (p.number == process)) rows))
    ≡ is_shared (find (λ (p : Process). p.number == n) rows)) [
      | true ↦ λ e h.
          let zero : process ≡ 0 = eqb-true process 0 (is_zero (process == 0) h) in
          let none : n ≡ 0 = eqb-true n process e ∙ zero in
          subst (λ m. is_shared (find (λ (p : Process). p.number == m) (filter (λ (p : Process). not (p.number == process)) rows))
          ≡ is_shared (find (λ (p : Process). p.number == m) rows)) (sym none)
          (ap is_shared (zero_none (filter (λ (p : Process). not (p.number == process)) rows)
          (All-filter (λ (p : Process). not (p.number == process)) (λ (p : Process). 1 ≤ p.number) rows positive)
          ∙ sym (zero_none rows positive)))
      | false ↦ λ e h. ap is_shared (find_filter (λ (p : Process). p.number == n) (λ (p : Process). not (p.number == process))
          (λ row is. ap (λ m. not (m == process)) (eqb-true row.number n is) ∙ ap not e) rows)
    ] refl out
  where
    is_zero : (b : Bool) → (not b && true) ≡ false → b ≡ true
    is_zero true h = refl
    is_zero false h = absurd cc

pub lists_without : (f : Flat) (process : ℕ) → All (λ (row : Process). 1 ≤ row.number) f.processes
    → All (λ (row : Service). is_by process row ≡ false) f.services
    → Lists f (filter (λ (row : Process). not (row.number == process)) f.processes)
lists_without f process positive out = record {
  few = filter_short (λ (row : Process). not (row.number == process)) f.processes;
  shared = λ k d lt. unshared_without process (get_or f.services k d).process f.processes positive (out k d lt);
}

-- so each service has the host that it had
offers_same : (f g : Flat) (path : List ℕ) (rows : List Service)
    → All (λ (row : Service). is_shared (process_of g row.process) ≡ is_shared (process_of f row.process)) rows
    → find (offers g path) rows ≡ find (offers f path) rows
offers_same f g path [] same = refl
offers_same f g path (row ∷ rows) same =
    let P = λ (r : Service). is_shared (process_of g r.process) ≡ is_shared (process_of f r.process) in
    ap (λ b. cond (is_sharing row && pointwise ◌==◌ row.config.path path && b) (Some row) (find (offers g path) rows))
    (All-head P row rows same)
    ∙ ap (λ (found : Option Service). cond (offers f path row) (Some row) found)
    (offers_same f g path rows (All-tail P row rows same))

host_same : (f : Flat) (processes : List Process) (wanted : List Wanted) (registrations : List Registration) (moment : ℕ) (row : Service)
    → Lists f processes → host_at (with_others f processes wanted registrations moment) (Some row) ≡ host_at f (Some row)
host_same f processes wanted registrations moment row lists =
    ap (λ (found : Option Service). cond (is_sharing row) (option_map (λ (other : Service). other.process) found) None)
    (offers_same f (with_others f processes wanted registrations moment) row.config.path f.services lists.shared)

room_still : (full full' none : Bool) → (full ≡ false → full' ≡ false) → (full && none) ≡ false → (full' && none) ≡ false
room_still true true none keeps room = room
room_still true false none keeps room = refl
room_still false full' none keeps room = rw (keeps refl) refl

waits_at : (l : Limits) (f : Flat) (processes : List Process) (wanted : List Wanted) (registrations : List Registration) (moment : ℕ)
    (tried : List ℕ) (x : ℕ) (found : Option Service) → Lists f processes
    → MoveAt l f tried x found ≡ moves.Waits → MoveAt l (with_others f processes wanted registrations moment) tried x found ≡ moves.Waits
waits_at l f processes wanted registrations moment tried x None lists h = h
waits_at l f processes wanted registrations moment tried x (Some row) lists h =
    let g = with_others f processes wanted registrations moment in
    still_waits (row.status.state == 4) (is_pending row.status.state) row.marked (row.config.start == 4) (not (is_ready f row)
    || not (row.status.state == 1) || has tried x)
    (is_full l f && is_none (host_at f (Some row))) (is_full l g && is_none (host_at g (Some row))) (is_some f.lock)
    (λ room. ap (λ (o : Option ℕ). is_full l g && is_none o) (host_same f processes wanted registrations moment row lists)
    ∙ room_still (is_full l f) (is_full l g) (is_none (host_at f (Some row)))
    (not_full l.processes (length f.processes) (length processes) lists.few) room) h

rests_at : (l : Limits) (f : Flat) (processes : List Process) (wanted : List Wanted) (registrations : List Registration) (moment : ℕ)
    (plan : Plan) (entries : List ℕ) → Lists f processes
    → RestsAt l f plan entries → RestsAt l (with_others f processes wanted registrations moment) plan entries
rests_at l f processes wanted registrations moment plan [] lists rests = tt
rests_at l f processes wanted registrations moment plan (x ∷ xs) lists rests =
    waits_at l f processes wanted registrations moment plan.tried x (service_of f x) lists rests

one_rests : (l : Limits) (f : Flat) (processes : List Process) (wanted : List Wanted) (registrations : List Registration) (moment : ℕ)
    (plan : Plan) → Lists f processes → Rests l f plan
    → Rests l (with_others f processes wanted registrations moment) plan
one_rests l f processes wanted registrations moment plan lists (inl decided) = inl decided
one_rests l f processes wanted registrations moment plan lists (inr rests) =
    inr (rests_at l f processes wanted registrations moment plan plan.entries lists rests)

all_rest : (l : Limits) (f : Flat) (processes : List Process) (wanted : List Wanted) (registrations : List Registration) (moment : ℕ)
    (plans : List Plan) → Lists f processes → AllByRecursion (Rests l f) plans
    → AllByRecursion (Rests l (with_others f processes wanted registrations moment)) plans
all_rest l f processes wanted registrations moment [] lists rests = tt
all_rest l f processes wanted registrations moment (plan ∷ plans) lists rests = (
  one_rests l f processes wanted registrations moment plan lists rests.0,
  all_rest l f processes wanted registrations moment plans lists rests.1,
)

-- ## States

-- nothing is left for settling to do but to tidy
pub still : (l : Limits) (f : Flat) (processes : List Process) (wanted : List Wanted) (registrations : List Registration) (moment : ℕ)
    → IsValid l f → Lists f processes
    → settled l (with_others f processes wanted registrations moment) ≡ tidied (with_others f processes wanted registrations moment) f.plans
still l f processes wanted registrations moment v lists =
    let rests : AllByRecursion (Rests l f) f.plans = subst (λ (g : Flat). AllByRecursion (Rests l g) g.plans) v.settled
    (settled_rest l f) in
    ap (λ (end : Turns). tidied end.flat end.plans) (all_still l (with_others f processes wanted registrations moment) f.plans
    (all_rest l f processes wanted registrations moment f.plans lists rests))

-- and no service leaves
pub stays_put : (l : Limits) (f : Flat) (processes : List Process) (wanted : List Wanted) (registrations : List Registration) (moment : ℕ)
    → IsValid l f → Lists f processes
    → (purged (settled l (with_others f processes wanted registrations moment))).services ≡ f.services
stays_put l f processes wanted registrations moment v lists = ap (λ (g : Flat). (purged g).services)
    (still l f processes wanted registrations moment v lists) ∙ ap (λ (g : Flat). g.services) v.purged

-- What is known of a host, and of the state that an entering leaves, with a host or without.
use Rattle.std.proofs.Common.{ℕ, ◌≡◌, ◌&&◌, Bool, true, false, cond, List, [], ◌∷◌, Option, None, Some, refl}
use Rattle.std.proofs.Common.{subst, find, arith}
use Rattle.std.specs.Prelude.{option_map}
use Rattle.std.proofs.lemmas.List.{length-append}
use Rattle.scm_model.specs.declared.flat.Flat.{Flat}
use Rattle.scm_model.specs.declared.flat.Limits.{Limits}
use Rattle.scm_model.specs.declared.flat.Service.{Service}
use Rattle.scm_model.specs.Processes.{is_shared, process_of}
use Rattle.scm_model.specs.Rows.{service_of}
use Rattle.start_plan.specs.Entered.{HasNumbers, entered_at, is_shared_by, wanted_process, with_entered}
use Rattle.start_plan.specs.Hosts.{host, host_at, is_sharing, offers}

-- ## A host

-- it is the shared process of the first service that offers one to this service's path
pub record IsHost (f : Flat) (service process : ℕ) : Type 0 where
  pub row : Service
  pub found : service_of f service ≡ Some row
  pub sharing : is_sharing row ≡ true
  pub other : Service
  pub first : find (offers f row.config.path) f.services ≡ Some other
  pub offering : offers f row.config.path other ≡ true
  pub lives : other.process ≡ process
  pub shared : is_shared (process_of f process) ≡ true

found_passes : {A : Type 0} (p : A → Bool) (xs : List A) (x : A) → find p xs ≡ Some x → p x ≡ true
found_passes p [] x found = absurd cc
found_passes p (y ∷ ys) x found =
    elim (p y) as (λ b. p y ≡ b → cond b (Some y) (find p ys) ≡ Some x → p x ≡ true) [
      | true ↦ λ is here. let same : y ≡ x = cc in subst (λ z. p z ≡ true) same is
      | false ↦ λ is later. found_passes p ys x later
    ] refl found

last_true : (a b c : Bool) → (a && b && c) ≡ true → c ≡ true
last_true true true true h = refl
last_true true true false h = absurd cc
last_true true false c h = absurd cc
last_true false b c h = absurd cc

lent : (f : Flat) (service process : ℕ) (row : Service) → service_of f service ≡ Some row → is_sharing row ≡ true → (o : Option Service)
    → find (offers f row.config.path) f.services ≡ o → option_map (λ (other : Service). other.process) o ≡ Some process
    → IsHost f service process
lent f service process row found sharing None first is = absurd cc
lent f service process row found sharing (Some other) first is =
    let lives : other.process ≡ process = cc in
    let offering = found_passes (offers f row.config.path) f.services other first in
    record {
      row = row;
      found = found;
      sharing = sharing;
      other = other;
      first = first;
      offering = offering;
      lives = lives;
      shared = subst (λ n. is_shared (process_of f n) ≡ true) lives (last_true (is_sharing other) _ (is_shared (process_of f other.process))
          offering);
    }

at_found : (f : Flat) (service process : ℕ) (o : Option Service) → service_of f service ≡ o → host_at f o ≡ Some process
    → IsHost f service process
at_found f service process None found is = absurd cc
at_found f service process (Some row) found is =
    elim (is_sharing row) as (λ b. is_sharing row ≡ b
    → cond b (option_map (λ (other : Service). other.process) (find (offers f row.config.path) f.services)) None ≡ Some process
    → IsHost f service process) [
      | true ↦ λ sharing there. lent f service process row found sharing (find (offers f row.config.path) f.services) refl there
      | false ↦ λ sharing there. absurd cc
    ] refl is

pub host_found : (f : Flat) (service process : ℕ) → host f service ≡ Some process → IsHost f service process
host_found f service process is = at_found f service process (service_of f service) refl is

-- ## An entering

-- what holds with a new process, and with a host, holds of the state where a service is entered
pub entered_keeps : (P : Flat → Type 0) (f : Flat) (service : ℕ) (words : List (List ℕ))
    → (host f service ≡ None → P (entered_at f service words None))
    → ((process : ℕ) → IsHost f service process → P (entered_at f service words (Some process))) → P (with_entered f service words)
entered_keeps P f service words new hosted = by (host f service) refl
  where
    by : (o : Option ℕ) → host f service ≡ o → P (entered_at f service words o)
    by None none = new none
    by (Some process) is = hosted process (host_found f service process is)

-- there are numbers for as many processes as may be listed
pub numbers_entered : (l : Limits) (f : Flat) (service : ℕ) (words : List (List ℕ)) → HasNumbers l f
    → HasNumbers l (with_entered f service words)
numbers_entered l f service words numbers =
    entered_keeps (HasNumbers l) f service words
    (λ none. let more = length-append f.processes (wanted_process f.next.process service (is_shared_by (service_of f service)) ∷ []) in
    omega (arith, numbers, more)) (λ process is. numbers)

-- What it means that a registration takes an event.
use Rattle.std.proofs.Common.{ℕ, ◌≡◌, ◌∙◌, ◌==◌, ◌&&◌, not, Bool, true, false, ap, refl, eqb-true, eq-eqb, ne_eqb}
use Rattle.std.specs.Prelude.{bit_and}
use Rattle.std.specs.Int.Bits.{and_zero_r}
use Rattle.std.proofs.lemmas.Bool.{and_parts}
use Rattle.scm_model.specs.Notices.{Event, event_of_state, new_registration, notified, pid_of, takes_event}
use Rattle.scm_model.specs.Rows.{held_service}
use Rattle.scm_model.proofs.Found.{found_keeps}
use Rattle.scm_rules.proofs.Held.{held_is}
use Rattle.scm_runs.proofs.Lists.{found_has}
use Rattle.scm_runs.proofs.Sound.{Sound, are_named}
use Rattle.scm_runs.proofs.Told.{IsNamed, IsProper, state_proper}
use Rattle.scm_history.proofs.Registrations.{watching_row}
use Rattle.scm_model.specs.declared.flat.Opened.{Opened}
use Rattle.scm_model.specs.declared.flat.Flat.{Flat}
use Rattle.scm_model.specs.declared.flat.Registration.{Registration}
use Rattle.scm_model.specs.declared.flat.Service.{Service}

untrue : (b : Bool) → not b ≡ true → b ≡ false
untrue true e = absurd cc
untrue false e = refl

pub record Takes (event : Event) (row : Registration) : Type 0 where
  pub service : row.service ≡ event.service
  pub waited : row.fired ≡ 0
  pub unspent : row.spent ≡ false
  pub asked : (bit_and row.mask event.bit == 0) ≡ false
  pub bit : (event.bit == 0) ≡ false

-- a mask has no event 0
some_bit : (mask bit : ℕ) → (bit_and mask bit == 0) ≡ false → (bit == 0) ≡ false
some_bit mask bit asked =
    ne_eqb bit 0 (λ none. absurd (let zero : (bit_and mask bit == 0) ≡ true = ap (λ n. bit_and mask n == 0) none
    ∙ eq-eqb (bit_and mask 0) 0 (and_zero_r mask) in cc))

pub takes : (event : Event) (row : Registration) → takes_event event row ≡ true → Takes event row
takes event row e =
    let all = and_parts (row.service == event.service && row.fired == 0 && not row.spent) (not (bit_and row.mask event.bit == 0)) e in
    let three = and_parts (row.service == event.service && row.fired == 0) (not row.spent) all.0 in
    let two = and_parts (row.service == event.service) (row.fired == 0) three.0 in
    let asked = untrue (bit_and row.mask event.bit == 0) all.1 in
    record {
      service = eqb-true row.service event.service two.0;
      waited = eqb-true row.fired 0 two.1;
      unspent = untrue row.spent three.1;
      asked = asked;
      bit = some_bit row.mask event.bit asked;
    }

-- what a registration that a Notify makes keeps of one that was told nothing
pub made_keeps : (P : Registration → Type 0) (f : Flat) (caller handle mask : ℕ) (of : Opened) → Sound f
    → P (new_registration f.next.registration caller of.service mask)
    → ((event : Event) (row : Registration) → IsProper event → P row → P (notified event row)) → P (watching_row f caller handle mask of)
made_keeps P f caller handle mask of s was each =
    let new = new_registration f.next.registration caller of.service mask in
    found_keeps P (λ (row : Service). notified (event_of_state (pid_of f.processes row) row)) (held_service f caller handle) new was
    (λ row is. each (event_of_state (pid_of f.processes row) row) new
    (state_proper (pid_of f.processes row) row
    (found_has IsNamed (λ (r : Service). r.number == row.number) row f.services (are_named f s) (held_is f caller handle row is))) was)

-- The states after changes of which registrations are notified.
use Rattle.std.specs.Prelude.{ℕ}
use Rattle.scm_model.specs.declared.flat.Flat.{Flat}
use Rattle.scm_model.specs.Notices.{new_registration, with_registration}
use Rattle.scm_model.specs.Rows.{held_service, service_of}
use Rattle.scm_rules.specs.Delete.{marked_in, told_of_mark}
use Rattle.scm_rules.specs.Notify.{initial_notification}

-- a service is marked, if it is there
abbrev pub with_marked : Flat → ℕ → Flat
with_marked f service = record f {
  services = marked_in (service_of f service) f.services;
  registrations = told_of_mark f.processes (service_of f service) f.registrations;
}

-- a caller is registered for events of a service, or of the manager as 0; the one of the handle may be told at once
abbrev pub with_registered : Flat → ℕ → ℕ → ℕ → ℕ → Flat
with_registered f caller handle service mask =
    with_registration f (initial_notification f (held_service f caller handle) (new_registration f.next.registration caller service mask))

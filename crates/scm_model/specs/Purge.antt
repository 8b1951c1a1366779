-- Purge: marked services leave.
use Rattle.std.specs.Prelude.{Bool, not, ◌&&◌, ◌==◌, List, filter, map}
use Rattle.std.specs.List.{list_any}
use Rattle.scm_model.specs.declared.codes.TheConstants.{SERVICE_STOPPED}
use Rattle.scm_model.specs.declared.flat.Flat.{Flat}
use Rattle.scm_model.specs.declared.flat.HandleRow.{HandleRow}
use Rattle.scm_model.specs.declared.flat.Service.{Service}
use Rattle.scm_model.specs.Notices.{all_noted, event_of_leaving}
use Rattle.scm_model.specs.Rows.{is_of_service}

-- a service that is marked, STOPPED and named by no handle leaves
abbrev pub leaves : List HandleRow → Service → Bool
leaves handles row = row.marked && row.status.state == SERVICE_STOPPED && not
    (list_any (λ (handle : HandleRow). is_of_service row.number handle.kind) handles)

-- those that leave, in list order
abbrev pub leaving : Flat → List Service
leaving f = filter (leaves f.handles) f.services

-- they leave, and the manager's registrations are notified of each
abbrev pub purged : Flat → Flat
purged f = record f {
  services = filter (λ (row : Service). not (leaves f.handles row)) f.services;
  registrations = all_noted (map event_of_leaving (leaving f)) f.registrations;
}

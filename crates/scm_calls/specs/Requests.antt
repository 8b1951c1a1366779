-- The bodies of requests: their shapes, what is made of their values, and the values of a request.
use Rattle.std.specs.Prelude.{List, [], ◌∷◌}
use Rattle.scm_model.specs.declared.flat.Status.{Status}
use Rattle.scm_model.specs.declared.calls.Request.{Request}
use Rattle.scm_model.specs.declared.calls.Request.TheVariants as request
use Rattle.scm_model.specs.declared.codes.TheConstants.{MAX_LOCK_STATUS_SIZE}
use Rattle.scm_shapes.specs.declared.item.Item.{Item}
use Rattle.scm_shapes.specs.declared.item.Item.TheVariants as item
use Rattle.scm_shapes.specs.declared.item.Value.{Value}
use Rattle.scm_shapes.specs.declared.item.Value.TheVariants as value
use Rattle.scm_shapes.specs.Shapes.{after, first_handle, first_number, first_text, first_some_text, first_words}
use Rattle.scm_calls.specs.declared.calls.Call.{Call}
use Rattle.scm_calls.specs.declared.calls.Call.TheVariants as call

-- a status is its seven numbers
abbrev pub status_shape : List Item
status_shape = item.Number ∷ item.Number ∷ item.Number ∷ item.Number ∷ item.Number ∷ item.Number ∷ item.Number ∷ []

abbrev pub status_from : List Value → Status
status_from vs = record {
  kind = first_number vs;
  state = first_number (after 1 vs);
  accepted = first_number (after 2 vs);
  win32 = first_number (after 3 vs);
  specific = first_number (after 4 vs);
  checkpoint = first_number (after 5 vs);
  hint = first_number (after 6 vs);
}

abbrev pub status_values : Status → List Value
status_values s = value.Number s.kind ∷ value.Number s.state ∷ value.Number s.accepted ∷ value.Number s.win32 ∷ value.Number s.specific ∷
    value.Number s.checkpoint ∷ value.Number s.hint ∷ []

-- the machine's name is read and not kept
abbrev pub plain_shape : Call → List Item
plain_shape call.Close = item.Handle ∷ []
plain_shape call.Control = item.Handle ∷ item.Number ∷ []
plain_shape call.Delete = item.Handle ∷ []
plain_shape call.Lock = item.Handle ∷ []
plain_shape call.QueryStatus = item.Handle ∷ []
plain_shape call.SetStatus = item.Handle ∷ status_shape
plain_shape call.Unlock = item.Handle ∷ []
plain_shape call.OpenManager = item.UnkeptText ∷ item.SomeText ∷ item.Number ∷ []
plain_shape call.OpenService = item.Handle ∷ item.Text ∷ item.Number ∷ []
plain_shape call.QueryLock = item.Handle ∷ item.NumberTo MAX_LOCK_STATUS_SIZE ∷ []
plain_shape call.Start = item.Handle ∷ item.Words ∷ []
plain_shape call.DisplayName = item.Handle ∷ item.Text ∷ item.Number ∷ []
plain_shape call.KeyName = item.Handle ∷ item.Text ∷ item.Number ∷ []

abbrev pub plain_from : Call → List Value → Request
plain_from call.Close vs = request.Close (first_handle vs)
plain_from call.Control vs = request.Control (first_handle vs) (first_number (after 1 vs))
plain_from call.Delete vs = request.Delete (first_handle vs)
plain_from call.Lock vs = request.Lock (first_handle vs)
plain_from call.QueryStatus vs = request.QueryStatus (first_handle vs)
plain_from call.SetStatus vs = request.SetStatus (first_handle vs) (status_from (after 1 vs))
plain_from call.Unlock vs = request.Unlock (first_handle vs)
plain_from call.OpenManager vs = request.OpenManager (first_some_text (after 1 vs)) (first_number (after 2 vs))
plain_from call.OpenService vs = request.OpenService (first_handle vs) (first_text (after 1 vs)) (first_number (after 2 vs))
plain_from call.QueryLock vs = request.QueryLock (first_handle vs) (first_number (after 1 vs))
plain_from call.Start vs = request.Start (first_handle vs) (first_words (after 1 vs))
plain_from call.DisplayName vs = request.DisplayName (first_handle vs) (first_text (after 1 vs)) (first_number (after 2 vs))
plain_from call.KeyName vs = request.KeyName (first_handle vs) (first_text (after 1 vs)) (first_number (after 2 vs))

-- no values of a request whose line isn't here
abbrev pub plain_values : Request → List Value
plain_values (request.Close handle) = value.Handle handle ∷ []
plain_values (request.Control handle control) = value.Handle handle ∷ value.Number control ∷ []
plain_values (request.Delete handle) = value.Handle handle ∷ []
plain_values (request.Lock handle) = value.Handle handle ∷ []
plain_values (request.QueryStatus handle) = value.Handle handle ∷ []
plain_values (request.SetStatus handle status) = value.Handle handle ∷ status_values status
plain_values (request.Unlock handle) = value.Handle handle ∷ []
plain_values (request.OpenManager database access) = value.UnkeptText ∷ value.SomeText database ∷ value.Number access ∷ []
plain_values (request.OpenService handle name access) = value.Handle handle ∷ value.Text name ∷ value.Number access ∷ []
plain_values (request.QueryLock handle size) = value.Handle handle ∷ value.Number size ∷ []
plain_values (request.Start handle words) = value.Handle handle ∷ value.Words words ∷ []
plain_values (request.DisplayName handle name size) = value.Handle handle ∷ value.Text name ∷ value.Number size ∷ []
plain_values (request.KeyName handle name size) = value.Handle handle ∷ value.Text name ∷ value.Number size ∷ []
plain_values _ = []

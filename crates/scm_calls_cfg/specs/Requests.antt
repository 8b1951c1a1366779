-- The bodies of requests on configurations: their shapes, what is made of their values, and the values of a request.
use Rattle.std.specs.Prelude.{List, [], ◌∷◌}
use Rattle.scm_model.specs.declared.calls.NewService.{NewService}
use Rattle.scm_model.specs.declared.calls.ChangeService.{ChangeService}
use Rattle.scm_model.specs.declared.calls.Request.{Request}
use Rattle.scm_model.specs.declared.calls.Request.TheVariants as request
use Rattle.scm_model.specs.declared.codes.TheConstants.{MAX_CONFIG_SIZE}
use Rattle.scm_shapes.specs.declared.item.Item.{Item}
use Rattle.scm_shapes.specs.declared.item.Item.TheVariants as item
use Rattle.scm_shapes.specs.declared.item.Value.{Value}
use Rattle.scm_shapes.specs.declared.item.Value.TheVariants as value
use Rattle.scm_shapes.specs.Shapes.{after, first_handle, first_number, first_text, first_some_text, first_some_number, first_some_bytes}
use Rattle.scm_shapes.specs.Shapes.{first_info}
use Rattle.scm_calls_cfg.specs.declared.calls.Call.{Call}
use Rattle.scm_calls_cfg.specs.declared.calls.Call.TheVariants as call

-- the password is read and not kept
abbrev pub config_shape : Call → List Item
config_shape call.Change = item.Handle ∷ item.Number ∷ item.Number ∷ item.Number ∷ item.SomeText ∷ item.SomeText ∷ item.SomeNumber ∷
    item.SomeBytes ∷ item.SomeText ∷ item.UnkeptBytes ∷ item.SomeText ∷ []
config_shape call.Create = item.Handle ∷ item.Text ∷ item.SomeText ∷ item.Number ∷ item.Number ∷ item.Number ∷ item.Number ∷ item.Text ∷
    item.SomeText ∷ item.SomeNumber ∷ item.SomeBytes ∷ item.SomeText ∷ item.UnkeptBytes ∷ []
config_shape call.QueryConfig = item.Handle ∷ item.NumberTo MAX_CONFIG_SIZE ∷ []
config_shape call.Change2 = item.Handle ∷ item.Info ∷ []
config_shape call.QueryConfig2 = item.Handle ∷ item.Number ∷ item.NumberTo MAX_CONFIG_SIZE ∷ []

abbrev pub change_from : List Value → ChangeService
change_from vs = record {
  handle = first_handle vs;
  kind = first_number (after 1 vs);
  start = first_number (after 2 vs);
  error = first_number (after 3 vs);
  path = first_some_text (after 4 vs);
  group = first_some_text (after 5 vs);
  tag = first_some_number (after 6 vs);
  needs = first_some_bytes (after 7 vs);
  account = first_some_text (after 8 vs);
  display = first_some_text (after 10 vs);
}

abbrev pub new_from : List Value → NewService
new_from vs = record {
  handle = first_handle vs;
  name = first_text (after 1 vs);
  display = first_some_text (after 2 vs);
  access = first_number (after 3 vs);
  kind = first_number (after 4 vs);
  start = first_number (after 5 vs);
  error = first_number (after 6 vs);
  path = first_text (after 7 vs);
  group = first_some_text (after 8 vs);
  tag = first_some_number (after 9 vs);
  needs = first_some_bytes (after 10 vs);
  account = first_some_text (after 11 vs);
}

abbrev pub config_from : Call → List Value → Request
config_from call.Change vs = request.Change (change_from vs)
config_from call.Create vs = request.Create (new_from vs)
config_from call.QueryConfig vs = request.QueryConfig (first_handle vs) (first_number (after 1 vs))
config_from call.Change2 vs = request.Change2 (first_handle vs) (first_info (after 1 vs))
config_from call.QueryConfig2 vs = request.QueryConfig2 (first_handle vs) (first_number (after 1 vs)) (first_number (after 2 vs))

abbrev pub change_values : ChangeService → List Value
change_values change =
    value.Handle change.handle ∷ value.Number change.kind ∷ value.Number change.start ∷ value.Number change.error ∷ value.SomeText
    change.path ∷ value.SomeText change.group ∷ value.SomeNumber change.tag ∷ value.SomeBytes change.needs
    ∷ value.SomeText change.account ∷ value.UnkeptBytes ∷ value.SomeText change.display ∷ []

abbrev pub new_values : NewService → List Value
new_values new =
    value.Handle new.handle ∷ value.Text new.name ∷ value.SomeText new.display ∷ value.Number new.access ∷ value.Number new.kind ∷
    value.Number new.start ∷ value.Number new.error ∷ value.Text new.path ∷ value.SomeText new.group
    ∷ value.SomeNumber new.tag ∷ value.SomeBytes new.needs ∷ value.SomeText new.account ∷ value.UnkeptBytes ∷ []

-- no values of a request whose line isn't here
abbrev pub config_values : Request → List Value
config_values (request.Change change) = change_values change
config_values (request.Create new) = new_values new
config_values (request.QueryConfig handle size) = value.Handle handle ∷ value.Number size ∷ []
config_values (request.Change2 handle asked) = value.Handle handle ∷ value.Info asked ∷ []
config_values (request.QueryConfig2 handle level size) = value.Handle handle ∷ value.Number level ∷ value.Number size ∷ []
config_values _ = []

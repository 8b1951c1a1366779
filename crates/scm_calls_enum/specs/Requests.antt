-- The bodies of requests for services and for what happens to them: their shapes, what is made of their values, and the values of a
-- request.
use Rattle.std.specs.Prelude.{List, [], ◌∷◌}
use Rattle.scm_model.specs.declared.calls.Request.{Request}
use Rattle.scm_model.specs.declared.calls.Request.TheVariants as request
use Rattle.scm_model.specs.declared.codes.TheConstants.{MAX_CONFIG_SIZE, MAX_ENUM_SIZE}
use Rattle.scm_shapes.specs.declared.item.Item.{Item}
use Rattle.scm_shapes.specs.declared.item.Item.TheVariants as item
use Rattle.scm_shapes.specs.declared.item.Value.{Value}
use Rattle.scm_shapes.specs.declared.item.Value.TheVariants as value
use Rattle.scm_shapes.specs.Shapes.{after, first_handle, first_number, first_some_number}
use Rattle.scm_calls_enum.specs.declared.calls.Call.{Call}
use Rattle.scm_calls_enum.specs.declared.calls.Call.TheVariants as call

abbrev pub enum_shape : Call → List Item
enum_shape call.EnumDependents = item.Handle ∷ item.Number ∷ item.NumberTo MAX_ENUM_SIZE ∷ []
enum_shape call.EnumServices = item.Handle ∷ item.Number ∷ item.Number ∷ item.NumberTo MAX_ENUM_SIZE ∷ item.SomeNumber ∷ []
enum_shape call.QueryStatusEx = item.Handle ∷ item.Number ∷ item.NumberTo MAX_CONFIG_SIZE ∷ []
enum_shape call.Notify = item.Handle ∷ item.Number ∷ []
enum_shape call.GetNotify = item.Handle ∷ []
enum_shape call.CloseNotify = item.Handle ∷ []

abbrev pub enum_from : Call → List Value → Request
enum_from call.EnumDependents vs = request.EnumDependents (first_handle vs) (first_number (after 1 vs)) (first_number (after 2 vs))
enum_from call.EnumServices vs = request.EnumServices (first_handle vs) (first_number (after 1 vs)) (first_number (after 2 vs))
    (first_number (after 3 vs)) (first_some_number (after 4 vs))
enum_from call.QueryStatusEx vs = request.QueryStatusEx (first_handle vs) (first_number (after 1 vs)) (first_number (after 2 vs))
enum_from call.Notify vs = request.Notify (first_handle vs) (first_number (after 1 vs))
enum_from call.GetNotify vs = request.GetNotify (first_handle vs)
enum_from call.CloseNotify vs = request.CloseNotify (first_handle vs)

-- no values of a request whose line isn't here
abbrev pub enum_values : Request → List Value
enum_values (request.EnumDependents handle states size) = value.Handle handle ∷ value.Number states ∷ value.Number size ∷ []
enum_values (request.EnumServices handle kinds states size resume) = value.Handle handle ∷ value.Number kinds ∷ value.Number states ∷
    value.Number size ∷ value.SomeNumber resume ∷ []
enum_values (request.QueryStatusEx handle level size) = value.Handle handle ∷ value.Number level ∷ value.Number size ∷ []
enum_values (request.Notify handle mask) = value.Handle handle ∷ value.Number mask ∷ []
enum_values (request.GetNotify handle) = value.Handle handle ∷ []
enum_values (request.CloseNotify handle) = value.Handle handle ∷ []
enum_values _ = []

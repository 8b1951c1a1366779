-- The bodies of requests for security descriptors: their shapes, what is made of their values, and the values of a request.
use Rattle.std.specs.Prelude.{List, [], ◌∷◌}
use Rattle.scm_model.specs.declared.calls.Request.{Request}
use Rattle.scm_model.specs.declared.calls.Request.TheVariants as request
use Rattle.scm_model.specs.declared.codes.TheConstants.{MAX_SECURITY_SIZE}
use Rattle.scm_shapes.specs.declared.item.Item.{Item}
use Rattle.scm_shapes.specs.declared.item.Item.TheVariants as item
use Rattle.scm_shapes.specs.declared.item.Value.{Value}
use Rattle.scm_shapes.specs.declared.item.Value.TheVariants as value
use Rattle.scm_shapes.specs.Shapes.{after, first_handle, first_number, first_sized_array}
use Rattle.scm_calls_sec.specs.declared.calls.Call.{Call}
use Rattle.scm_calls_sec.specs.declared.calls.Call.TheVariants as call

abbrev pub security_shape : Call → List Item
security_shape call.QuerySecurity = item.Handle ∷ item.Number ∷ item.NumberTo MAX_SECURITY_SIZE ∷ []
security_shape call.SetSecurity = item.Handle ∷ item.Number ∷ item.SizedArray MAX_SECURITY_SIZE ∷ []

abbrev pub security_from : Call → List Value → Request
security_from call.QuerySecurity vs = request.QuerySecurity (first_handle vs) (first_number (after 1 vs)) (first_number (after 2 vs))
security_from call.SetSecurity vs = request.SetSecurity (first_handle vs) (first_number (after 1 vs)) (first_sized_array (after 2 vs))

-- no values of a request whose line isn't here
abbrev pub security_values : Request → List Value
security_values (request.QuerySecurity handle parts size) = value.Handle handle ∷ value.Number parts ∷ value.Number size ∷ []
security_values (request.SetSecurity handle parts bytes) = value.Handle handle ∷ value.Number parts ∷ value.SizedArray bytes ∷ []
security_values _ = []

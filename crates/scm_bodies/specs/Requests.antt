-- The bodies of requests.
use Rattle.std.specs.Prelude.{ℕ, List, Option, Some, Result}
use Rattle.std.specs.List.{AllByRecursion}
use Rattle.scm_model.specs.declared.calls.Request.{Request}
use Rattle.ndr_body.specs.declared.fault.BodyFault.{BodyFault}
use Rattle.scm_shapes.specs.declared.item.Item.{Item}
use Rattle.scm_shapes.specs.declared.item.Value.{Value}
use Rattle.scm_shapes.specs.Shapes.{body_bytes}
use Rattle.scm_shapes.specs.Calls.{read_as, Spells}
use Rattle.scm_shapes.specs.Laws.{IsEncodable}
use Rattle.scm_calls.specs.Requests.{plain_shape, plain_from, plain_values}
use Rattle.scm_calls_cfg.specs.Requests.{config_shape, config_from, config_values}
use Rattle.scm_calls_enum.specs.Requests.{enum_shape, enum_from, enum_values}
use Rattle.scm_calls_sec.specs.Requests.{security_shape, security_from, security_values}
use Rattle.scm_bodies.specs.declared.bodies.Call.{Call}
use Rattle.scm_bodies.specs.declared.bodies.Call.TheVariants as call
use Rattle.scm_bodies.specs.Calls.{to_call}

-- the kinds of items in a body of a call, and what their values ask
abbrev pub shape_of : Call → List Item
shape_of (call.Plain asked) = plain_shape asked
shape_of (call.Config asked) = config_shape asked
shape_of (call.Enum asked) = enum_shape asked
shape_of (call.Security asked) = security_shape asked

abbrev pub request_from : Call → List Value → Request
request_from (call.Plain asked) vs = plain_from asked vs
request_from (call.Config asked) vs = config_from asked vs
request_from (call.Enum asked) vs = enum_from asked vs
request_from (call.Security asked) vs = security_from asked vs

-- what a body of a call asks, or the first fault
abbrev pub request_at : Call → List ℕ → Result Request BodyFault
request_at asked body = read_as (shape_of asked) (request_from asked) body

-- the values of a request, by the crate that has its call
abbrev pub values_in : Option Call → Request → List Value
values_in (Some (call.Plain asked)) r = plain_values r
values_in (Some (call.Config asked)) r = config_values r
values_in (Some (call.Enum asked)) r = enum_values r
values_in _ r = security_values r

abbrev pub values_of : Request → List Value
values_of r = values_in (to_call r) r

-- bytes are a body of a call that asks this
abbrev pub IsRequest : Call → List ℕ → Request → Type 0
IsRequest asked bytes r = Spells shape_of to_call values_of asked bytes r

-- the one form that is written
abbrev pub request_bytes : Request → List ℕ
request_bytes r = body_bytes (values_of r)

-- the parts of a request can stand in a body: numbers have their bits, and a text or bytes as many units as a count of 32 bits can say
abbrev pub AreCarried : Request → Type 0
AreCarried r = AllByRecursion IsEncodable (values_of r)

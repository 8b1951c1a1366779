-- Nothing is lost between requests or replies and the values of their bodies.
use Rattle.std.proofs.Common.{◌≡◌, ℕ, List, map, length, IsTrue, Option, Some, None, refl}
use Rattle.std.specs.Prelude.{IfSome, is_some}
use Rattle.std.specs.List.{AllByRecursion}
use Rattle.std.proofs.lemmas.Bool.{le-leb, leb-true}
use Rattle.scm_model.specs.declared.codes.TheConstants.{MAX_CONFIG_SIZE, MAX_ENUM_SIZE, MAX_LOCK_STATUS_SIZE, MAX_SECURITY_SIZE}
use Rattle.scm_model.specs.declared.codes.TheConstants.{SC_MAX_ARGUMENTS}
use Rattle.scm_model.specs.declared.calls.Request.{Request}
use Rattle.scm_model.specs.declared.calls.Request.TheVariants as request
use Rattle.scm_model.specs.declared.calls.Reply.{Reply}
use Rattle.scm_model.specs.declared.calls.Reply.TheVariants as reply
use Rattle.scm_model.specs.Ranges.{are_few, in_range}
use Rattle.scm_shapes.specs.declared.item.Value.{Value}
use Rattle.scm_shapes.specs.Shapes.{fitted}
use Rattle.scm_shapes.specs.HandleBodies.{is_handle_body, handle_body_of, handle_body_values}
use Rattle.scm_shapes.specs.Laws.{AreSent, CanHoldAll, IsEncodable, as_read}
use Rattle.ndr_body.specs.Laws.{IsSent}
use Rattle.scm_shapes.specs.Calls.{Codec, shape_in, made_in}
use Rattle.scm_calls.specs.declared.calls.Call.{Call as PlainCall}
use Rattle.scm_calls.specs.declared.calls.Call.TheVariants as plain
use Rattle.scm_calls.specs.declared.kinds.ReplyKind.{ReplyKind}
use Rattle.scm_calls.specs.declared.kinds.ReplyKind.TheVariants as kind
use Rattle.scm_calls.specs.Requests.{plain_shape, plain_from}
use Rattle.scm_calls.specs.Replies.{reply_shape, reply_from, reply_values, kind_of}
use Rattle.scm_calls_cfg.specs.declared.calls.Call.{Call as ConfigCall}
use Rattle.scm_calls_cfg.specs.declared.calls.Call.TheVariants as config
use Rattle.scm_calls_cfg.specs.Requests.{config_shape, config_from}
use Rattle.scm_calls_enum.specs.declared.calls.Call.{Call as EnumCall}
use Rattle.scm_calls_enum.specs.declared.calls.Call.TheVariants as enum
use Rattle.scm_calls_enum.specs.Requests.{enum_shape, enum_from}
use Rattle.scm_calls_sec.specs.declared.calls.Call.{Call as SecurityCall}
use Rattle.scm_calls_sec.specs.declared.calls.Call.TheVariants as security
use Rattle.scm_calls_sec.specs.Requests.{security_shape, security_from}
use Rattle.scm_bodies.specs.declared.bodies.Call.{Call}
use Rattle.scm_bodies.specs.declared.bodies.Call.TheVariants as call
use Rattle.scm_bodies.specs.Calls.{to_call}
use Rattle.scm_bodies.specs.Replies.{read_back}
use Rattle.scm_bodies.specs.Requests.{shape_of, request_from, values_of, AreCarried}

-- ## Requests

request_again : (r : Request) → made_in request_from (to_call r) (values_of r) r ≡ r
request_again (request.Close handle) = refl
request_again _ = refl

pub request_same : (r : Request) → map as_read (values_of r) ≡ values_of r
request_same (request.Close handle) = refl
request_same _ = refl

plain_kept : (c : PlainCall) (vs : List Value) → values_of (plain_from c vs) ≡ fitted (plain_shape c) vs
plain_kept plain.Close vs = refl
plain_kept _ vs = refl

config_kept : (c : ConfigCall) (vs : List Value) → values_of (config_from c vs) ≡ fitted (config_shape c) vs
config_kept config.Change vs = refl
config_kept _ vs = refl

enum_kept : (c : EnumCall) (vs : List Value) → values_of (enum_from c vs) ≡ fitted (enum_shape c) vs
enum_kept enum.EnumDependents vs = refl
enum_kept _ vs = refl

security_kept : (c : SecurityCall) (vs : List Value) → values_of (security_from c vs) ≡ fitted (security_shape c) vs
security_kept security.QuerySecurity vs = refl
security_kept _ vs = refl

request_kept : (c : Call) (vs : List Value) → values_of (request_from c vs) ≡ fitted (shape_of c) vs
request_kept (call.Plain c) vs = plain_kept c vs
request_kept (call.Config c) vs = config_kept c vs
request_kept (call.Enum c) vs = enum_kept c vs
request_kept (call.Security c) vs = security_kept c vs

plain_named : (c : PlainCall) (vs : List Value) → to_call (plain_from c vs) ≡ Some (call.Plain c)
plain_named plain.Close vs = refl
plain_named _ vs = refl

config_named : (c : ConfigCall) (vs : List Value) → to_call (config_from c vs) ≡ Some (call.Config c)
config_named config.Change vs = refl
config_named _ vs = refl

enum_named : (c : EnumCall) (vs : List Value) → to_call (enum_from c vs) ≡ Some (call.Enum c)
enum_named enum.EnumDependents vs = refl
enum_named _ vs = refl

security_named : (c : SecurityCall) (vs : List Value) → to_call (security_from c vs) ≡ Some (call.Security c)
security_named security.QuerySecurity vs = refl
security_named _ vs = refl

request_named : (c : Call) (vs : List Value) → to_call (request_from c vs) ≡ Some c
request_named (call.Plain c) vs = plain_named c vs
request_named (call.Config c) vs = config_named c vs
request_named (call.Enum c) vs = enum_named c vs
request_named (call.Security c) vs = security_named c vs

pub request_codec : Codec shape_of request_from to_call values_of
request_codec = record { again = request_again; kept = request_kept; named = request_named }

-- every request has a call
pub has_call : (r : Request) → IsTrue (is_some (to_call r))
has_call (request.Close handle) = refl
has_call _ = refl

content : {A : Type 0} (o : Option A) → IsTrue (is_some o) → (x : A) × (o ≡ Some x)
content None h = absurd cc
content (Some x) h = (x, refl)

pub of_a_call : (r : Request) → (c : Call) × (to_call r ≡ Some c)
of_a_call r = content (to_call r) (has_call r)

-- ## A handle and numbers

plain_by_handle : (c : PlainCall) (vs : List Value) → IsTrue (is_handle_body (plain_shape c))
    → plain_from c (handle_body_values (handle_body_of vs)) ≡ plain_from c vs
plain_by_handle plain.SetStatus vs h = absurd cc
plain_by_handle plain.OpenManager vs h = absurd cc
plain_by_handle plain.OpenService vs h = absurd cc
plain_by_handle plain.Start vs h = absurd cc
plain_by_handle plain.DisplayName vs h = absurd cc
plain_by_handle plain.KeyName vs h = absurd cc
plain_by_handle _ vs h = refl

config_by_handle : (c : ConfigCall) (vs : List Value) → IsTrue (is_handle_body (config_shape c))
    → config_from c (handle_body_values (handle_body_of vs)) ≡ config_from c vs
config_by_handle config.Change vs h = absurd cc
config_by_handle config.Create vs h = absurd cc
config_by_handle config.Change2 vs h = absurd cc
config_by_handle _ vs h = refl

enum_by_handle : (c : EnumCall) (vs : List Value) → IsTrue (is_handle_body (enum_shape c))
    → enum_from c (handle_body_values (handle_body_of vs)) ≡ enum_from c vs
enum_by_handle enum.EnumServices vs h = absurd cc
enum_by_handle _ vs h = refl

security_by_handle : (c : SecurityCall) (vs : List Value) → IsTrue (is_handle_body (security_shape c))
    → security_from c (handle_body_values (handle_body_of vs)) ≡ security_from c vs
security_by_handle security.QuerySecurity vs h = refl
security_by_handle security.SetSecurity vs h = absurd cc

-- a body of a handle and at most two numbers asks what these ask
pub asked_by_handle : (c : Call) (vs : List Value) → IsTrue (is_handle_body (shape_of c))
    → request_from c (handle_body_values (handle_body_of vs)) ≡ request_from c vs
asked_by_handle (call.Plain c) vs h = plain_by_handle c vs h
asked_by_handle (call.Config c) vs h = config_by_handle c vs h
asked_by_handle (call.Enum c) vs h = enum_by_handle c vs h
asked_by_handle (call.Security c) vs h = security_by_handle c vs h

-- ## Replies

reply_again : (r : Reply) → reply_from (kind_of r) (reply_values r) ≡ r
reply_again (reply.Code code) = refl
reply_again _ = refl

-- what is made of a reply's values as they are read
pub reply_back : (r : Reply) → reply_from (kind_of r) (map as_read (reply_values r)) ≡ read_back r
reply_back (reply.Code code) = refl
reply_back _ = refl

reply_kept : (k : ReplyKind) (vs : List Value) → reply_values (reply_from k vs) ≡ fitted (reply_shape k) vs
reply_kept kind.Code vs = refl
reply_kept _ vs = refl

reply_named : (k : ReplyKind) (vs : List Value) → Some (kind_of (reply_from k vs)) ≡ Some k
reply_named kind.Code vs = refl
reply_named _ vs = refl

pub reply_codec : Codec reply_shape reply_from (λ r. Some (kind_of r)) reply_values
reply_codec = record { again = reply_again; kept = reply_kept; named = reply_named }

-- ## Ranges

few : (words : Option (List (List ℕ))) → IfSome words AreSent → IsTrue (are_few words)
few None h = refl
few (Some words) h = le-leb (length words) SC_MAX_ARGUMENTS h.few

-- what a body of a call can hold is in its ranges
pub held_ranged : (r : Request) → CanHoldAll (shape_in shape_of (to_call r)) (values_of r) → IsTrue (in_range r)
held_ranged (request.QueryLock handle size) h = le-leb size MAX_LOCK_STATUS_SIZE h.1.0.in_range
held_ranged (request.QueryConfig handle size) h = le-leb size MAX_CONFIG_SIZE h.1.0.in_range
held_ranged (request.EnumDependents handle states size) h = le-leb size MAX_ENUM_SIZE h.1.1.0.in_range
held_ranged (request.EnumServices handle kinds states size resume) h = le-leb size MAX_ENUM_SIZE h.1.1.1.0.in_range
held_ranged (request.QueryStatusEx handle level size) h = le-leb size MAX_CONFIG_SIZE h.1.1.0.in_range
held_ranged (request.Change2 handle asked) h = h.1.0.in_range
held_ranged (request.QueryConfig2 handle level size) h = le-leb size MAX_CONFIG_SIZE h.1.1.0.in_range
held_ranged (request.Start handle words) h = few words h.1.0
held_ranged (request.QuerySecurity handle parts size) h = le-leb size MAX_SECURITY_SIZE h.1.1.0.in_range
held_ranged (request.SetSecurity handle parts bytes) h = le-leb (length bytes) MAX_SECURITY_SIZE h.1.1.0.in_range
held_ranged _ h = refl

words_held : (words : Option (List (List ℕ))) → IsTrue (are_few words) → IfSome words (λ words. AllByRecursion IsSent words)
    → IfSome words AreSent
words_held None range h = tt
words_held (Some words) range h = record { few = leb-true (length words) SC_MAX_ARGUMENTS range; sent = h }

-- and what is in them can be held, where its parts can stand in a body
pub ranged_held : (r : Request) → IsTrue (in_range r) → AreCarried r → CanHoldAll (shape_in shape_of (to_call r)) (values_of r)
ranged_held (request.QueryLock handle size) range h = (
  h.0,
  (
    record { in_range = leb-true size MAX_LOCK_STATUS_SIZE range; small = h.1.0 },
    tt,
  ),
)
ranged_held (request.QueryConfig handle size) range h = (
  h.0,
  (
    record { in_range = leb-true size MAX_CONFIG_SIZE range; small = h.1.0 },
    tt,
  ),
)
ranged_held (request.EnumDependents handle states size) range h = (
  h.0,
  (h.1.0, (record { in_range = leb-true size MAX_ENUM_SIZE range; small = h.1.1.0 }, tt)),
)
ranged_held (request.EnumServices handle kinds states size resume) range h =
    (h.0, (h.1.0, (h.1.1.0, (record { in_range = leb-true size MAX_ENUM_SIZE range; small = h.1.1.1.0 }, h.1.1.1.1))))
ranged_held (request.QueryStatusEx handle level size) range h = (
  h.0,
  (
    h.1.0,
    (record { in_range = leb-true size MAX_CONFIG_SIZE range; small = h.1.1.0 }, tt),
  ),
)
ranged_held (request.QuerySecurity handle parts size) range h = (
  h.0,
  (
    h.1.0,
    (record { in_range = leb-true size MAX_SECURITY_SIZE range; small = h.1.1.0 }, tt),
  ),
)
ranged_held (request.SetSecurity handle parts bytes) range h = (
  h.0,
  (
    h.1.0,
    (record { in_range = leb-true (length bytes) MAX_SECURITY_SIZE range; small = h.1.1.0 }, tt),
  ),
)
ranged_held (request.Change2 handle asked) range h = (h.0, (record { in_range = range; sent = h.1.0 }, tt))
ranged_held (request.QueryConfig2 handle level size) range h = (
  h.0,
  (
    h.1.0,
    (record { in_range = leb-true size MAX_CONFIG_SIZE range; small = h.1.1.0 }, tt),
  ),
)
ranged_held (request.Start handle words) range h = (h.0, (words_held words range h.1.0, tt))
ranged_held _ range h = h

pub reply_held : (r : Reply) → AllByRecursion IsEncodable (reply_values r) → CanHoldAll (reply_shape (kind_of r)) (reply_values r)
reply_held (reply.Code code) h = h
reply_held _ h = h

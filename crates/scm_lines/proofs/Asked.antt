-- What the bodies of requests and raises are read as.
use Rattle.std.proofs.Common.{ℕ, ◌≡◌, ◌<◌, ◌^◌, List, length, IsTrue, true, Ok, Some, refl, ap, ◌∙◌, subst}
use Rattle.std.specs.Prelude.{nat_lt}
use Rattle.std.specs.Result.{result_ok}
use Rattle.std.proofs.lemmas.Bool.{ltb-true}
use Rattle.scm_model.specs.declared.calls.Request.{Request}
use Rattle.scm_model.specs.declared.calls.Request.TheVariants as request
use Rattle.scm_model.specs.Opnums.{opnum}
use Rattle.scm_model.specs.Ranges.{in_range}
use Rattle.scm_shapes.specs.Calls.{shape_in}
use Rattle.scm_shapes.specs.Laws.{CanHoldAll}
use Rattle.scm_shapes.proofs.Calls.{held_same}
use Rattle.scm_calls.specs.Raises.{raise_at}
use Rattle.scm_calls.proofs.Raising.{raise_read}
use Rattle.scm_bodies.specs.Calls.{call_at as served_at, to_call}
use Rattle.scm_bodies.specs.Requests.{AreCarried, request_at, request_bytes, request_from, shape_of, values_of}
use Rattle.scm_bodies.proofs.Codecs.{of_a_call, ranged_held, request_codec, request_same}
use Rattle.scm_lines.specs.Lines.{request_in}
use Rattle.scm_lines.specs.Words.{◌>>=◌}

-- the opnum of a request is that of its call
served : (r : Request) → served_at (opnum r) ≡ to_call r
served (request.Close handle) = refl
served _ = refl

few : (r : Request) → nat_lt (opnum r) (2 ^ 16) ≡ true
few (request.Close handle) = refl
few _ = refl

pub opnum_small : (r : Request) → opnum r < 2 ^ 16
opnum_small r = ltb-true (opnum r) (2 ^ 16) (few r)

-- a request is read of the body that is written
pub asked_again : (r : Request) → IsTrue (in_range r) → AreCarried r → request_in (opnum r) (request_bytes r) ≡ Some r
unfolding request_in
asked_again r range carried =
    let asked = of_a_call r in
    let held = subst (λ o. CanHoldAll (shape_in shape_of o) (values_of r)) asked.1 (ranged_held r range carried) in
    let read : request_at asked.0 (request_bytes r) ≡ Ok r =
    held_same shape_of request_from to_call values_of request_codec asked.0 r asked.1 (request_same r) held in
    ap (λ o. o >>= λ call. result_ok (request_at call (request_bytes r))) (served r ∙ asked.1) ∙ ap result_ok read

pub raised_again : (subtype : List ℕ) → length subtype ≡ 16 → result_ok (raise_at subtype) ≡ Some subtype
raised_again subtype size = rw (raise_read subtype subtype (record { size = size; spelled = refl })) refl

-- A request that is refused is answered.
use Rattle.std.proofs.Common.{ℕ, [], arith, refl}
use Rattle.scm_model.specs.declared.calls.Request.{Request}
use Rattle.scm_model.specs.declared.calls.Request.TheVariants as request
use Rattle.scm_model.specs.Refused.{refused}
use Rattle.scm_calls.specs.Replies.{IsWhole}
use Rattle.scm_bodies.specs.Replies.{Answers}

-- no bytes fit in every size
no_bytes : (size : ℕ) → IsWhole size size []
no_bytes size = record { is = refl; whole = omega arith }

pub of_refused : (asked : Request) (code : ℕ) → Answers asked (refused asked code)
of_refused (request.EnumDependents handle states size) code = (refl, no_bytes size)
of_refused (request.EnumServices handle kinds states size resume) code = (refl, no_bytes size)
of_refused (request.QueryConfig2 handle level size) code = (refl, no_bytes size)
of_refused (request.QueryStatusEx handle level size) code = (refl, no_bytes size)
of_refused (request.QuerySecurity handle parts size) code = (refl, no_bytes size)
of_refused (request.DisplayName handle name size) code = (refl, omega arith)
of_refused (request.KeyName handle name size) code = (refl, omega arith)
of_refused asked code = (refl, tt)

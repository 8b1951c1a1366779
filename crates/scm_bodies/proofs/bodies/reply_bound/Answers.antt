use Rattle.std.proofs.Common.{Option, Some, ap, sym, ◌∙◌, arith}
use Rattle.std.specs.Prelude.{option_map}
use Rattle.scm_calls.specs.Replies.{kind_of, asked_size, longest}
use Rattle.scm_bodies.specs.declared.bodies.Call.{Call}
use Rattle.scm_bodies.specs.Calls.{to_call, reply_kind}
use Rattle.scm_bodies.proofs.Codecs.{of_a_call}
use Rattle.scm_bodies.proofs.Bounds.{bound_is, fits, reached}
use Rattle.scm_bodies.proofs.bodies.reply_bound.Goals as goal

pub returns-clause-bound : goal.returns-clause-bound
returns-clause-bound c = λ told answers.
    let r = c.args.request.now in
    omega (arith, c.bound_of.ensures, bound_is (to_call r) (kind_of told) (asked_size r) answers.0, fits told (asked_size r) answers.1)

pub returns-clause-reached : goal.returns-clause-reached
returns-clause-reached c =
    let r = c.args.request.now in
    let asked = of_a_call r in
    let told = reached (reply_kind asked.0) (asked_size r) in
    let named = ap (λ (o : Option Call). option_map reply_kind o) asked.1 ∙ ap (λ k. Some k) (sym told.1) in
    let is = bound_is (to_call r) (kind_of told.0) (asked_size r) named in
    (told.0, (named, told.2), omega (arith, c.bound_of.ensures, is, told.3, ap (λ k. longest k (asked_size r)) told.1))

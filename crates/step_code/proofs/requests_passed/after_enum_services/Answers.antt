use Rattle.std.proofs.Common.{refl}
use Rattle.std.proofs.lemmas.Option.{IfSome_then}
use Rattle.step_code.specs.Reading.{enum_services_at, n4_at, n8_at, some_at}
use Rattle.step_code.proofs.Passed.{onward}
use Rattle.step_code.proofs.requests_passed.after_enum_services.Goals as goal

pub returns : goal.returns
unfolding enum_services_at
returns c =
    IfSome_then c.after_some_n4.result c.after_some_n4.ensures (λ rest has.
    onward (n8_at c.args.bytes.now) _ c.in_ok-kinds.kinds.now rest.now c.in_ok-kinds.ensures (λ handle.
    onward (n4_at c.in_ok-kinds.kinds.now) _ c.in_ok-states.states.now rest.now c.in_ok-states.ensures (λ kinds.
    onward (n4_at c.in_ok-states.states.now) _ c.in_ok-size.size.now rest.now c.in_ok-size.ensures (λ states.
    onward (n4_at c.in_ok-size.size.now) _ c.in_ok-resume.resume.now rest.now c.in_ok-resume.ensures (λ size.
    onward (some_at n4_at c.in_ok-resume.resume.now) _ rest.now rest.now has (λ resume. (_, refl)))))))

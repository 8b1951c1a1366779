use Rattle.std.proofs.Common.{refl}
use Rattle.std.proofs.lemmas.Option.{IfSome_then}
use Rattle.step_code.specs.Reading.{common_at, create_at, n4_at, n8_at, some_at, text_at}
use Rattle.step_code.proofs.Passed.{onward}
use Rattle.step_code.proofs.requests_passed.after_create.Goals as goal

pub returns : goal.returns
unfolding create_at
returns c =
    IfSome_then c.after_common.result c.after_common.ensures (λ rest has.
    onward (n8_at c.args.bytes.now) _ c.in_ok-name.name.now rest.now c.in_ok-name.ensures (λ handle.
    onward (text_at c.in_ok-name.name.now) _ c.in_ok-display.display.now rest.now c.in_ok-display.ensures (λ name.
    onward (some_at text_at c.in_ok-display.display.now) _ c.in_ok-access.access.now rest.now c.in_ok-access.ensures (λ display.
    onward (n4_at c.in_ok-access.access.now) _ c.in_ok-kind.kind.now rest.now c.in_ok-kind.ensures (λ access.
    onward (n4_at c.in_ok-kind.kind.now) _ c.in_ok-start.start.now rest.now c.in_ok-start.ensures (λ kind.
    onward (n4_at c.in_ok-start.start.now) _ c.in_ok-error.error.now rest.now c.in_ok-error.ensures (λ start.
    onward (n4_at c.in_ok-error.error.now) _ c.in_ok-path.path.now rest.now c.in_ok-path.ensures (λ error.
    onward (text_at c.in_ok-path.path.now) _ c.in_ok-common.common.now rest.now c.in_ok-common.ensures (λ path.
    onward (common_at c.in_ok-common.common.now) _ rest.now rest.now has (λ common. (_, refl)))))))))))

use Rattle.std.proofs.Common.{refl}
use Rattle.std.proofs.lemmas.Option.{IfSome_then}
use Rattle.step_code.specs.Reading.{change_at, common_at, n4_at, n8_at, some_at, text_at}
use Rattle.step_code.proofs.Passed.{onward}
use Rattle.step_code.proofs.requests_passed.after_change.Goals as goal

pub returns : goal.returns
unfolding change_at
returns c =
    IfSome_then c.after_some_text-2.result c.after_some_text-2.ensures (λ rest has.
    onward (n8_at c.args.bytes.now) _ c.in_ok-kind.kind.now rest.now c.in_ok-kind.ensures (λ handle.
    onward (n4_at c.in_ok-kind.kind.now) _ c.in_ok-start.start.now rest.now c.in_ok-start.ensures (λ kind.
    onward (n4_at c.in_ok-start.start.now) _ c.in_ok-error.error.now rest.now c.in_ok-error.ensures (λ start.
    onward (n4_at c.in_ok-error.error.now) _ c.in_ok-path.path.now rest.now c.in_ok-path.ensures (λ error.
    onward (some_at text_at c.in_ok-path.path.now) _ c.in_ok-common.common.now rest.now c.in_ok-common.ensures (λ path.
    onward (common_at c.in_ok-common.common.now) _ c.in_ok-display.display.now rest.now c.in_ok-display.ensures (λ common.
    onward (some_at text_at c.in_ok-display.display.now) _ rest.now rest.now has (λ display. (_, refl)))))))))

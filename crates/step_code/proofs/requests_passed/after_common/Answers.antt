use Rattle.std.proofs.Common.{refl}
use Rattle.std.proofs.lemmas.Option.{IfSome_then}
use Rattle.step_code.specs.Reading.{byte_list_at, common_at, n4_at, some_at, text_at}
use Rattle.step_code.proofs.Passed.{onward}
use Rattle.step_code.proofs.requests_passed.after_common.Goals as goal

pub returns : goal.returns
unfolding common_at
returns c =
    IfSome_then c.after_some_text-2.result c.after_some_text-2.ensures (λ rest has.
    onward (some_at text_at c.args.bytes.now) _ c.in_ok-tag.tag.now rest.now c.in_ok-tag.ensures (λ group.
    onward (some_at n4_at c.in_ok-tag.tag.now) _ c.in_ok-needs.needs.now rest.now c.in_ok-needs.ensures (λ tag.
    onward (some_at byte_list_at c.in_ok-needs.needs.now) _ c.in_ok-account.account.now rest.now c.in_ok-account.ensures (λ needs.
    onward (some_at text_at c.in_ok-account.account.now) _ rest.now rest.now has (λ account. (_, refl))))))

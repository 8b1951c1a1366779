use Rattle.std.proofs.Common.{refl}
use Rattle.std.proofs.lemmas.Option.{IfSome_then}
use Rattle.step_code.specs.Reading.{list_at, n8_at, some_at, start_at, text_at}
use Rattle.step_code.proofs.Passed.{onward}
use Rattle.step_code.proofs.requests_passed.after_start.Goals as goal

pub returns : goal.returns
unfolding start_at
returns c =
    IfSome_then c.after_some_words.result c.after_some_words.ensures (λ rest has.
    onward (n8_at c.args.bytes.now) _ c.in_ok-words.words.now rest.now c.in_ok-words.ensures (λ handle.
    onward (some_at (list_at text_at) c.in_ok-words.words.now) _ rest.now rest.now has (λ words. (_, refl))))

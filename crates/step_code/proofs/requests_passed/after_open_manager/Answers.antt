use Rattle.std.proofs.Common.{refl}
use Rattle.std.proofs.lemmas.Option.{IfSome_then}
use Rattle.step_code.specs.Reading.{n4_at, open_manager_at, some_at, text_at}
use Rattle.step_code.proofs.Passed.{onward}
use Rattle.step_code.proofs.requests_passed.after_open_manager.Goals as goal

pub returns : goal.returns
unfolding open_manager_at
returns c =
    IfSome_then c.after_n4.result c.after_n4.ensures (λ rest has.
    onward (some_at text_at c.args.bytes.now) _ c.in_ok-access.access.now rest.now c.in_ok-access.ensures (λ database.
    onward (n4_at c.in_ok-access.access.now) _ rest.now rest.now has (λ access. (_, refl))))

use Rattle.std.proofs.lemmas.Option.{IfSome_then}
use Rattle.std.proofs.Common.{arith, refl}
use Rattle.scm_model.specs.declared.calls.Info.TheVariants as info
use Rattle.step_code.specs.Reading.{flag_at, list_at, n4_at, some_at, text_at, trigger_at}
use Rattle.step_code.proofs.Passed.{level_left, of_two}
use Rattle.step_code.proofs.requests_passed.after_level.Goals as goal

pub returns-in-0 : goal.returns-in-0
returns-in-0 c =
    IfSome_then c.after_some_text.result c.after_some_text.ensures
    (λ rest has. level_left (some_at text_at) info.Description 0 c.args.level c.args.bytes.now rest.now c.in-0.is (λ _. refl) has)

pub returns-in-4 : goal.returns-in-4
returns-in-4 c =
    IfSome_then c.after_counted_triggers.result c.after_counted_triggers.ensures
    (λ rest has. level_left (list_at trigger_at) info.Triggers 4 c.args.level c.args.bytes.now rest.now c.in-4.is (λ _. refl) has)

pub returns-in-2 : goal.returns-in-2
returns-in-2 c =
    IfSome_then c.after_flag.result c.after_flag.ensures (λ rest has. of_two 2 c.args.level (omega arith) (omega arith)
    (λ is. level_left flag_at info.Delayed 2 c.args.level c.args.bytes.now rest.now is (λ _. refl) has)
    (λ is. level_left flag_at info.OnExit 3 c.args.level c.args.bytes.now rest.now is (λ _. refl) has))

pub returns-in-5 : goal.returns-in-5
returns-in-5 c =
    IfSome_then c.after_n4.result c.after_n4.ensures (λ rest has. of_two 5 c.args.level (omega arith) (omega arith)
    (λ is. level_left n4_at info.Other 5 c.args.level c.args.bytes.now rest.now is (λ _. refl) has)
    (λ is. level_left n4_at info.Nothing 6 c.args.level c.args.bytes.now rest.now is (λ _. refl) has))

use Rattle.std.proofs.Common.{subst}
use Rattle.scm_book.specs.Passes.{Known}
use Rattle.scm_book.specs.Turns.{NamesNoOther, StepEnds}
use Rattle.scm_book.proofs.Passes.{as_tokens}
use Rattle.scm_book.proofs.turning.Shared.make_by.Goals as goal

pub make_at-ended-requires-clause-own : goal.make_at-ended-requires-clause-own
make_at-ended-requires-clause-own g c = subst (λ (k : Known). NamesNoOther k.names c.args.step.now.step) c.sit-seat.ensures.knows
    c.requires.own

pub returns-clause-ends : goal.returns-clause-ends
returns-clause-ends g c =
    as_tokens (λ (k k' : Known). StepEnds c.args.self.now.turn.opening k c.args.moment c.args.step.now.step c.make_at-ended.result k')
    c.sit-seat.ensures.knows c.stand.ensures.knows c.make_at-ended.ensures.ends

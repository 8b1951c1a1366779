use Rattle.std.proofs.Common.{Ok, subst}
use Rattle.scm_model.specs.declared.steps.Step.{Step}
use Rattle.scm_book.specs.Turns.{StepEnds, known}
use Rattle.scm_book.proofs.JoinsMade.{joins_as, told_number}
use Rattle.scm_book.proofs.turning.Shared.join_at.Goals as goal

pub caller_of-requires : goal.caller_of-requires
caller_of-requires g c =
    told_number c.args.self.now.turn.opening c.requires.opens (known c.args.seat.now)
    (known c.make_at.new.seat) c.args.moment c.args.principal c.in-Ok.told
    (subst (λ (s : Step). StepEnds c.args.self.now.turn.opening (known c.args.seat.now) c.args.moment s (Ok c.in-Ok.told)
    (known c.make_at.new.seat)) c.new-joined.ensures c.in-Ok.ensures.ends)

pub returns-in-Ok-clause-ends : goal.returns-in-Ok-clause-ends
returns-in-Ok-clause-ends g c =
    joins_as c.args.self.now.turn.opening c.requires.opens (known c.args.seat.now)
    (known c.make_at.new.seat) c.args.moment c.args.principal c.in-Ok.told c.caller_of.result
    (subst (λ (s : Step). StepEnds c.args.self.now.turn.opening (known c.args.seat.now) c.args.moment s (Ok c.in-Ok.told)
    (known c.make_at.new.seat)) c.new-joined.ensures c.in-Ok.ensures.ends) c.caller_of.ensures

use Rattle.std.proofs.Common.{ap, refl, subst, sym}
use Rattle.scm_book.specs.Called.{LeavesWhose, refusal_of}
use Rattle.scm_book.specs.Turns.{call_told, of_badge}
use Rattle.scm_book.proofs.CallsMade.{call_is, into_comes, none_told, untold_into}
use Rattle.scm_book.proofs.Coming.{may_call}
use Rattle.scm_book.proofs.InHandStill.{into_keeps}
use Rattle.scm_book.proofs.book.Book.call_into.Goals as goal

pub ask-ended-requires-clause-may : goal.ask-ended-requires-clause-may
ask-ended-requires-clause-may g c =
    may_call c.args.self.now.opening c.args.pass.now c.args.moment c.requires.caller c.args.request c.write.new.self.step
    (call_is (of_badge c.pass.inside.badge) c.args.pass.now c.pass.view_is c.pass.inside.caller c.pass.invariant.whose c.args.request
    c.write.new.self.step c.write.ensures) c.requires.ranged

pub ask-ended-requires-clause-stays : goal.ask-ended-requires-clause-stays
ask-ended-requires-clause-stays g c =
    subst LeavesWhose
    (sym (call_is (of_badge c.pass.inside.badge) c.args.pass.now c.pass.view_is c.pass.inside.caller c.pass.invariant.whose c.args.request
    c.write.new.self.step c.write.ensures)) (λ f n. refl)

pub returns-clause-calls : goal.returns-clause-calls
returns-clause-calls g c =
    let is = call_is (of_badge c.pass.inside.badge) c.args.pass.now c.pass.view_is c.pass.inside.caller c.pass.invariant.whose
    c.args.request c.write.new.self.step c.write.ensures in
    into_comes c.args.self.now.opening c.ask-ended.ensures.opens c.args.pass.now c.ask-ended.new.pass c.args.moment c.args.request
    c.write.new.self.step c.ask-ended.new.call.step is c.requires.start (call_told c.ask-ended.result c.ask-ended.new.answer)
    (λ none. ap (λ (d : _). d.step) (c.ask-ended.ensures.same
    (none_told c.ask-ended.result c.ask-ended.new.answer none))) c.call_end_into.result c.ask-ended.new.answer
    c.call_end_into.new.answer c.ask-ended.ensures.asks c.call_end_into.ensures

pub returns-clause-untold : goal.returns-clause-untold
returns-clause-untold g c =
    untold_into c.ask-ended.result (refusal_of c.ask-ended.new.call.step) c.call_end_into.result c.args.answer.now
    c.ask-ended.new.answer c.call_end_into.new.answer c.ask-ended.ensures.untold c.call_end_into.ensures

pub returns-clause-keeps : goal.returns-clause-keeps
returns-clause-keeps g c =
    let is = call_is (of_badge c.pass.inside.badge) c.args.pass.now c.pass.view_is c.pass.inside.caller c.pass.invariant.whose
    c.args.request c.write.new.self.step c.write.ensures in
    into_keeps c.args.self.now.opening c.ask-ended.ensures.opens c.args.pass.now c.ask-ended.new.pass c.args.moment c.args.request
    c.call_end_into.result c.call_end_into.new.answer
    (into_comes c.args.self.now.opening c.ask-ended.ensures.opens c.args.pass.now c.ask-ended.new.pass c.args.moment c.args.request
    c.write.new.self.step c.ask-ended.new.call.step is c.requires.start (call_told c.ask-ended.result c.ask-ended.new.answer)
    (λ none. ap (λ (d : _). d.step) (c.ask-ended.ensures.same
    (none_told c.ask-ended.result c.ask-ended.new.answer none))) c.call_end_into.result c.ask-ended.new.answer
    c.call_end_into.new.answer c.ask-ended.ensures.asks c.call_end_into.ensures)

use Rattle.std.proofs.Common.{ap, refl, subst, sym}
use Rattle.scm_model.specs.declared.steps.Step.{Step}
use Rattle.scm_book.specs.Called.{LeavesWhose}
use Rattle.scm_book.specs.Turns.{CallEnds, call_told, of_badge}
use Rattle.scm_book.proofs.CallsMade.{call_is, start_comes, none_told, told_begun}
use Rattle.scm_book.proofs.Coming.{may_call}
use Rattle.scm_book.proofs.InHandStill.{starts_keep}
use Rattle.scm_book.proofs.book.Book.begin_start.Goals as goal

pub ask-ended-requires-clause-may : goal.ask-ended-requires-clause-may
ask-ended-requires-clause-may g c =
    may_call c.args.self.now.opening c.args.pass.now c.args.moment c.requires.caller c.args.request c.write.new.self.step
    (call_is (of_badge c.pass.inside.badge) c.args.pass.now c.pass.view_is c.pass.inside.caller c.pass.invariant.whose c.args.request
    c.write.new.self.step c.write.ensures) c.requires.ranged

pub ask-ended-requires-clause-stays : goal.ask-ended-requires-clause-stays
ask-ended-requires-clause-stays g c =
    subst LeavesWhose
    (sym (call_is (of_badge c.pass.inside.badge) c.args.pass.now c.pass.view_is c.pass.inside.caller c.pass.invariant.whose c.args.request
    c.write.new.self.step c.write.ensures)) (λ f n. refl)

pub start_end-requires : goal.start_end-requires
start_end-requires g c =
    let is = call_is (of_badge c.pass.inside.badge) c.args.pass.now c.pass.view_is c.pass.inside.caller c.pass.invariant.whose
    c.args.request c.write.new.self.step c.write.ensures in
    let ended = call_told c.ask-ended.result c.ask-ended.new.answer in
    told_begun c.args.self.now.opening c.ask-ended.ensures.opens c.args.pass.now c.ask-ended.new.pass c.args.moment c.args.request
    c.requires.start ended
    (subst (λ (s : Step). CallEnds c.args.self.now.opening c.args.pass.now c.args.moment c.args.pass.now.caller s ended
    c.ask-ended.new.pass) is c.ask-ended.ensures.asks)

pub returns-clause-starts : goal.returns-clause-starts
returns-clause-starts g c =
    let is = call_is (of_badge c.pass.inside.badge) c.args.pass.now c.pass.view_is c.pass.inside.caller c.pass.invariant.whose
    c.args.request c.write.new.self.step c.write.ensures in
    let ended = call_told c.ask-ended.result c.ask-ended.new.answer in
    start_comes c.args.self.now.opening c.ask-ended.ensures.opens c.args.pass.now c.ask-ended.new.pass c.args.moment c.args.request
    c.write.new.self.step c.ask-ended.new.call.step is ended
    (λ none. ap (λ (d : _). d.step) (c.ask-ended.ensures.same
    (none_told c.ask-ended.result c.ask-ended.new.answer none))) c.start_end.result c.ask-ended.ensures.asks c.requires.caller
    c.requires.start c.start_end.ensures

pub returns-clause-keeps : goal.returns-clause-keeps
returns-clause-keeps g c =
    let is = call_is (of_badge c.pass.inside.badge) c.args.pass.now c.pass.view_is c.pass.inside.caller c.pass.invariant.whose
    c.args.request c.write.new.self.step c.write.ensures in
    let ended = call_told c.ask-ended.result c.ask-ended.new.answer in
    starts_keep c.args.self.now.opening c.ask-ended.ensures.opens c.args.pass.now c.ask-ended.new.pass c.args.moment c.args.request
    c.start_end.result
    (start_comes c.args.self.now.opening c.ask-ended.ensures.opens c.args.pass.now c.ask-ended.new.pass c.args.moment c.args.request
    c.write.new.self.step c.ask-ended.new.call.step is ended
    (λ none. ap (λ (d : _). d.step) (c.ask-ended.ensures.same
    (none_told c.ask-ended.result c.ask-ended.new.answer none))) c.start_end.result c.ask-ended.ensures.asks c.requires.caller
    c.requires.start c.start_end.ensures)

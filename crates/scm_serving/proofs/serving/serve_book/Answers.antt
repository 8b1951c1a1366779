use Rattle.std.proofs.Common.{ap, inl, ◌∙◌}
use Rattle.book_rule.specs.declared.view.Opening.{Opening}
use Rattle.scm_book.specs.Passes.{Known}
use Rattle.scm_book.specs.Ghosts.{ghosts_of}
use Rattle.scm_serving.proofs.Closing.{served_from}
use Rattle.scm_serving.proofs.serving.serve_book.Goals as goal

pub closed-requires-clause-whole : goal.closed-requires-clause-whole
closed-requires-clause-whole g c = ap (λ (o : Opening). o.records) c.in-Ok.ensures.ok.0

pub returns-in-Ok : goal.returns-in-Ok
returns-in-Ok g c =
    let ghosts = ghosts_of g.K.Keeper.held g.K.Keeper.faults g.K.Keeper.settled g.K.Keeper.crashes
    g.K.Keeper.are_crashes g.K.Keeper.asked in
    let made = c.in-Ok.ensures.ok in
    let served = c.serve_all-served in
    rw c.closed.ensures.admin (rw c.closed.ensures.user
    (inl (served_from ghosts
    (g.C.Clock.tells c.args.clock.now) c.in-Ok.field-0.book.opening _ made.0
    served.new.root c.gone-last.result c.now.result
    _ _ _ _ served.result.end c.closed.result.end c.closed.result.keeper c.requires.begins
    (ap (λ (k : Known). k.caller) served.ensures.goes.same ∙ ap (λ (k : Known). k.caller) made.1) c.gone-last.ensures.goes
    served.ensures.serves served.ensures.ends c.closed.ensures.closes)))

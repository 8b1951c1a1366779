use Rattle.std.proofs.Common.{false, inr, refl, subst}
use Rattle.std.specs.Prelude.{is_some}
use Rattle.scmd_top.specs.Groups.{groups_in}
use Rattle.scmd_top.specs.Parts.{lent}
use Rattle.scmd_top.specs.Serving.{HasSummary}
use Rattle.scmd_top.specs.Sides.{side}
use Rattle.scm_book.specs.Ghosts.{ghosts_of}
use Rattle.outside.specs.Asked.{text_of}
use Rattle.scmd_top.proofs.Filed.{opens_file}
use Rattle.scmd_top.proofs.Served.{can_end, has_listened, has_not_listened, served_asked, served_settled}
use Rattle.scmd_top.proofs.world.JobWorld.serve.Goals as goal

pub put_end-status-requires : goal.put_end-status-requires
put_end-status-requires g c =
    let opens = c.in-Ok.ensures.opens in
    let legal = can_end (ghosts_of g.K.Keeper.held g.K.Keeper.faults g.K.Keeper.settled g.K.Keeper.crashes g.K.Keeper.are_crashes g.K.Keeper.asked)
    (g.C.Clock.tells c.args.self.clock) (is_some c.args.path)
    (groups_in (lent c.args.names)) (side g.K.Keeper.held g.K.Keeper.faults c.args.self.keeper c.begin_at.new.keeper) c.args.export
    c.now-moment.result _ _ _ _ _ c.begin_at.new.keeper c.serve_over-end.result.1.keeper _ c.serve_over-end.result.0
    opens.opened opens.known c.serve_over-end.ensures.serves in
    record { legal = legal }

pub returns-in_default-clause-run : goal.returns-in_default-clause-run
returns-in_default-clause-run g c =
    let none = c.in_default.ensures in
    has_not_listened (ghosts_of g.K.Keeper.held g.K.Keeper.faults g.K.Keeper.settled g.K.Keeper.crashes g.K.Keeper.are_crashes g.K.Keeper.asked)
    (g.C.Clock.tells c.args.self.clock) (is_some c.args.path)
    (groups_in (lent c.args.names)) c.args.export c.args.admin_at c.args.user_at _ _ _ c.now-moment.result _
    c.args.self.keeper c.begin_at.new.keeper c.in-Ok.ensures.opens.opened c.in-Ok.ensures.stands (record { bytes = refl; faults = refl }) none.0 none.1 none.2

pub returns-in-Ok-listen_both-clause-run : goal.returns-in-Ok-listen_both-clause-run
returns-in-Ok-listen_both-clause-run g c =
    let opens = c.in-Ok.ensures.opens in
    has_listened (ghosts_of g.K.Keeper.held g.K.Keeper.faults g.K.Keeper.settled g.K.Keeper.crashes g.K.Keeper.are_crashes g.K.Keeper.asked)
    (g.C.Clock.tells c.args.self.clock) (is_some c.args.path)
    (groups_in (lent c.args.names)) c.args.export c.args.admin_at c.args.user_at _ _ _ c.put_end-status.result c.now-moment.result _
    c.args.self.keeper c.begin_at.new.keeper c.serve_over-end.result.1.keeper _ _ _ c.serve_over-end.result.0
    c.now-moment.ensures opens.opened opens.known c.in-Ok.ensures.stands c.in-Ok-listen_both.ensures.0 c.in-Ok-listen_both.ensures.1 c.serve_over-end.ensures.serves
    (subst (λ o. HasSummary c.in-Ok.field-0.opening c.serve_over-end.result.0
    (side g.O.Sink.held g.O.Sink.faults o c.put_end-status.new.output) c.put_end-status.result)
    c.serve_over-end.ensures.output c.put_end-status.ensures.written)

pub returns-in_default-clause-settled : goal.returns-in_default-clause-settled
returns-in_default-clause-settled g c = λ was. inr c.in-Ok.ensures.settled

pub returns-in-Ok-listen_both-clause-settled : goal.returns-in-Ok-listen_both-clause-settled
returns-in-Ok-listen_both-clause-settled g c = λ was.
    served_settled (ghosts_of g.K.Keeper.held g.K.Keeper.faults g.K.Keeper.settled g.K.Keeper.crashes g.K.Keeper.are_crashes g.K.Keeper.asked)
    (g.C.Clock.tells c.args.self.clock) _ _
    (record { good = 0; dirty = false; form = _ }) _ _ _ _
    c.args.self.keeper c.begin_at.new.keeper c.serve_over-end.result.1.keeper c.serve_over-end.result.0
    c.in-Ok.ensures.opens.opened.faults c.in-Ok.ensures.settled c.serve_over-end.ensures.serves

pub returns-in_default-clause-file : goal.returns-in_default-clause-file
returns-in_default-clause-file g c =
    opens_file (text_of c.args.path) (g.K.Keeper.asked c.args.self.keeper) (g.K.Keeper.asked c.begin_at.new.keeper)
    (g.K.Keeper.asked c.begin_at.new.keeper) 10 c.in-Ok.ensures.asked refl

pub returns-in-Ok-listen_both-clause-file : goal.returns-in-Ok-listen_both-clause-file
returns-in-Ok-listen_both-clause-file g c =
    opens_file (text_of c.args.path) (g.K.Keeper.asked c.args.self.keeper) (g.K.Keeper.asked c.begin_at.new.keeper)
    (g.K.Keeper.asked c.serve_over-end.result.1.keeper) c.put_end-status.result c.in-Ok.ensures.asked
    (served_asked (ghosts_of g.K.Keeper.held g.K.Keeper.faults g.K.Keeper.settled g.K.Keeper.crashes g.K.Keeper.are_crashes g.K.Keeper.asked)
    (g.C.Clock.tells c.args.self.clock) _ _ (record { good = 0; dirty = false; form = _ }) _ _ _ _
    c.begin_at.new.keeper c.serve_over-end.result.1.keeper c.serve_over-end.result.0 c.serve_over-end.ensures.serves)

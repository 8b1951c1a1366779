use Rattle.std.proofs.Common.{◌∙◌, refl}
use Rattle.conn_desk.specs.Along.{connection_at}
use Rattle.conn_desk.proofs.Walking.{Stretch, begins, one_more, one_stops, gave_item, fault_stops}
use Rattle.conn_desk.proofs.serving.drain.Goals as goal
use Rattle.conn_desk.proofs.serving.drain.Goals.{In-Ok}

pub loop-item-init : goal.loop-item-init
loop-item-init g c =
    let d = g.D.RequestHandler in
    record {
      ready = c.requires;
      on = begins d.called d.rests d.full (connection_at c.args.session.now c.args.desk.now (g.O.Sink.held c.args.output.now));
      faults = refl;
    }

pub returns-in-Err-answer-clause-fed : goal.returns-in-Err-answer-clause-fed
returns-in-Err-answer-clause-fed g c =
    let d = g.D.RequestHandler in
    one_stops d.called d.rests d.full (connection_at c.args.session.now c.args.desk.now (g.O.Sink.held c.args.output.now)) (Unit {0})
    (connection_at c.loop-item.session c.loop-item.desk (g.O.Sink.held c.loop-item.output))
    (connection_at c.next.new.self c.answer.new.desk (g.O.Sink.held c.answer.new.output))
    c.in-Ok-Some.item c.in-Err-answer.stop c.loop-item.invariant.on
    (gave_item c.loop-item.session c.next.new.self _ c.in-Ok-Some.item c.in-Ok-Some.field-0-is c.in-Ok-Some.ensures.gave)
    c.in-Err-answer.ensures.answered

-- the item is one of those that are answered
item_answered : (g : _) (c : In-Ok g) → Stretch g.D.RequestHandler.called
    (connection_at c.args.session.now c.args.desk.now (g.O.Sink.held c.args.output.now))
    (connection_at c.next.new.self c.answer.new.desk (g.O.Sink.held c.answer.new.output))
item_answered g c =
    let d = g.D.RequestHandler in
    one_more d.called d.rests d.full (connection_at c.args.session.now c.args.desk.now (g.O.Sink.held c.args.output.now))
    (connection_at c.loop-item.session c.loop-item.desk (g.O.Sink.held c.loop-item.output))
    (connection_at c.next.new.self c.answer.new.desk (g.O.Sink.held c.answer.new.output)) c.in-Ok-Some.item c.loop-item.invariant.on
    (gave_item c.loop-item.session c.next.new.self c.in-Ok-Some.field-0 c.in-Ok-Some.item c.in-Ok-Some.field-0-is
    c.in-Ok-Some.ensures.gave)
    c.in-Ok.ensures.answered

pub loop-item-preserved : goal.loop-item-preserved
loop-item-preserved g c = record {
  ready = c.in-Ok.ensures.ready;
  on = rw c.recycle.ensures (item_answered g (goal.at.loop-item-preserved g c).In-Ok);
  faults = c.in-Ok.ensures.cause.caused ∙ c.loop-item.invariant.faults;
}

pub returns-in-Err-clause-fed : goal.returns-in-Err-clause-fed
returns-in-Err-clause-fed g c =
    let d = g.D.RequestHandler in
    rw c.stop_of.ensures
    (fault_stops d.called d.rests d.full (connection_at c.args.session.now c.args.desk.now (g.O.Sink.held c.args.output.now)) (Unit {0})
    (connection_at c.loop-item.session c.loop-item.desk (g.O.Sink.held c.loop-item.output)) c.next.new.self c.in-Err.fault
    c.loop-item.invariant.on c.in-Err.ensures.says)

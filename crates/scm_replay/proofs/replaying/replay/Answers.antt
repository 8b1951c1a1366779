use Rattle.scm_replay.specs.Outcomes.{standing}
use Rattle.scm_replay.proofs.Ends.{begins}
use Rattle.scm_replay.proofs.Whole.{cause_fed, grows_fed, limits_fed, replays_fed}
use Rattle.scm_replay.proofs.replaying.replay.Goals as goal

pub returns-clause-replayed : goal.returns-clause-replayed
returns-clause-replayed g c =
    rw (c.replayed_as.ensures, c.is_empty-at_rest.ensures, c.feed_all-fed.new.eater.reading.pending.ok.0)
    (replays_fed g.O.Sink.held g.O.Sink.faults _ _ (g.I.Source.left c.args.input.now)
    (g.I.Source.left c.feed_all-fed.new.input) c.feed_all-fed.new.count c.feed_all-fed.result c.feed_all-fed.ensures.feeds
    c.feed_all-fed.ensures.most
    (begins c.args.manager.now.limits (standing c.args.manager.now) (g.O.Sink.held c.args.output.now) c.new.result.items
    c.new.ensures.items))

pub returns-clause-limits : goal.returns-clause-limits
returns-clause-limits g c =
    limits_fed g.O.Sink.held g.O.Sink.faults _ _ (g.I.Source.left c.args.input.now)
    (g.I.Source.left c.feed_all-fed.new.input) c.feed_all-fed.new.count c.feed_all-fed.result c.feed_all-fed.ensures.feeds

pub returns-clause-output : goal.returns-clause-output
returns-clause-output g c =
    grows_fed g.O.Sink.held g.O.Sink.faults _ _ (g.I.Source.left c.args.input.now)
    (g.I.Source.left c.feed_all-fed.new.input) c.feed_all-fed.new.count c.feed_all-fed.result c.feed_all-fed.ensures.feeds

pub returns-clause-cause : goal.returns-clause-cause
returns-clause-cause g c =
    rw c.replayed_as.ensures
    (cause_fed g.O.Sink.held g.O.Sink.faults _ _ (g.I.Source.left c.args.input.now)
    (g.I.Source.left c.feed_all-fed.new.input) c.feed_all-fed.new.count c.feed_all-fed.result c.is_empty-at_rest.result
    (g.I.Source.faults c.args.input.now) (g.I.Source.faults c.feed_all-fed.new.input) c.feed_all-fed.ensures.feeds
    c.feed_all-fed.ensures.cause)

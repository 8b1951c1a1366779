use Rattle.std.proofs.Common.{refl}
use Rattle.trail_audit.proofs.Ends.{begins}
use Rattle.trail_audit.proofs.Whole.{Standing, audits_fed, there}
use Rattle.trail_audit.proofs.auditing.audit.Goals as goal

pub returns-clause-audited : goal.returns-clause-audited
returns-clause-audited g c =
    let a : Standing = record { eater = record { pending = c.new-2.result; number = 1 }; place = c.in-Ok.auditor; output = tt } in
    rw (c.audited_as.ensures, c.whole_entries-entries.ensures)
    (audits_fed a _ (g.S.Source.left c.args.source.now) (g.S.Source.left c.feed_all-fed.new.input) c.feed_all-fed.new.count
    (begins (there a) c.in-Ok.ensures.at refl c.new-2.ensures.items) c.feed_all-fed.result c.feed_all-fed.ensures.feeds
    c.feed_all-fed.ensures.most)

use Rattle.trail_audit.proofs.Opened.{can_start}
use Rattle.trail_audit.proofs.auditor.Auditor.take_first.Goals as goal

pub begin-requires : goal.begin-requires
begin-requires c = can_start c.args.self.now.head.stage c.args.self.now.head.lists c.args.start c.requires.listing c.requires.sound

use Rattle.trail_audit.proofs.Entered.{made_so, ready_inside}
use Rattle.trail_audit.proofs.entering.Entering.make.Goals as goal

pub answer_entry-requires-clause-may : goal.answer_entry-requires-clause-may
answer_entry-requires-clause-may c =
    (ready_inside c.self.inside c.args.self.now c.args.entry.now.moment c.args.entry.now.step c.self.view_is c.requires).may

pub answer_entry-requires-clause-room : goal.answer_entry-requires-clause-room
answer_entry-requires-clause-room c =
    (ready_inside c.self.inside c.args.self.now c.args.entry.now.moment c.args.entry.now.step c.self.view_is c.requires).room

pub answer_entry-requires-clause-steps : goal.answer_entry-requires-clause-steps
answer_entry-requires-clause-steps c =
    (ready_inside c.self.inside c.args.self.now c.args.entry.now.moment c.args.entry.now.step c.self.view_is c.requires).steps

pub answer_entry-requires-clause-text : goal.answer_entry-requires-clause-text
answer_entry-requires-clause-text c =
    (ready_inside c.self.inside c.args.self.now c.args.entry.now.moment c.args.entry.now.step c.self.view_is c.requires).text

pub returns-clause-leads : goal.returns-clause-leads
returns-clause-leads c =
    made_so c.self.inside c.args.self.now c.answer_entry.new.manager c.args.entry.now.moment c.args.entry.now.step
    c.answer_entry.new.line.items c.has_room.result c.self.view_is c.self.invariant c.in_ok-answer_entry.ensures.line
    c.answer_entry.ensures.flat c.answer_entry.ensures.limits c.answer_entry.ensures.steps c.has_room.ensures

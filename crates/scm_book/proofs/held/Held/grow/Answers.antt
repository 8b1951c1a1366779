use Rattle.std.proofs.Common.{refl}
use Rattle.scm_book.proofs.Steps.{grown}
use Rattle.scm_book.proofs.held.Held.grow.Goals as goal

pub returns-clause-grows : goal.returns-clause-grows
returns-clause-grows g c =
    grown c.args.self.now _ c.args.moment c.args.step.now c.args.step.now c.args.note c.step_at.new.answer refl c.requires.note
    c.requires.may (record {
      past = c.push.ensures.past;
      entries = c.push.ensures.entries;
      text = c.push.ensures.text;
      first = c.push.ensures.first;
    }) refl
    c.step_at.ensures.answer c.step_at.ensures.flat c.step_at.ensures.limits c.step_at.ensures.steps
    c.step_at.ensures.text

use Rattle.std.proofs.Common.{ap, refl, subst}
use Rattle.scm_model.specs.declared.steps.Step.{Step}
use Rattle.scm_trail.specs.Trailed.{Extends}
use Rattle.scm_core.specs.Managed.{Managed}
use Rattle.scm_book.proofs.Firsts.{adds_launch, nothing_wanted, some_first}
use Rattle.scm_book.proofs.held.Held.take_launch.Goals as goal

pub push-requires-clause-room : goal.push-requires-clause-room
push-requires-clause-room g c = c.requires.room (some_first c.args.self.now.manager.flat.wanted c.in-Some.process c.in-Some.ensures.0)

pub returns-in-Some : goal.returns-in-Some
returns-in-Some g c = (
  adds_launch c.args.self.now _ c.args.moment c.in-Some.process c.in-Some.ensures.0 c.in-Some.ensures.3
      (subst (λ (step : Step). Extends c.args.self.now.trail c.push.new.self (c.args.moment, step)) c.note.ensures (record {
        past = c.push.ensures.past;
        entries = c.push.ensures.entries;
        text = c.push.ensures.text;
        first = c.push.ensures.first;
      }))
      refl c.push.ensures.room refl refl,
  record { lies = c.in-Some.ensures.1; rest = c.in-Some.ensures.2 },
)

pub returns-in-None : goal.returns-in-None
returns-in-None g c = (
  nothing_wanted c.args.self.now.manager.flat c.in-None.ensures.0,
  ap
      (λ (m : Managed). record c.args.self.now { manager = m }) c.in-None.ensures.1,
  c.in-None.ensures.2,
)

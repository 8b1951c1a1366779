use Rattle.std.proofs.Common.{ap, sym, ◌∙◌}
use Rattle.scm_listener.specs.InMemory.{ListeningMemory}
use Rattle.scm_listener.proofs.memory.MemoryListenerListener.accept.Goals as goal

pub returns-in-Some-clause-first : goal.returns-in-Some-clause-first
returns-in-Some-clause-first c = (
  c.in-Some.peer,
  ap (λ (l : ListeningMemory). l.waiting) (sym c.self.view_is) ∙ c.in-Some.ensures.items,
  record { bytes = c.new-source.ensures.left; reads = c.new-source.ensures.fails; writes = c.new-output.ensures.fails },
)

use Rattle.std.proofs.Common.{rules}
use Rattle.std.proofs.lemmas.Fn.{filter_same}
use Rattle.demo_service.proofs.sharing.stop.Goals as goal

pub returns : goal.returns
returns c = filter_same _ _ _ (λ number kept f k. search rules) _ _ c.retain.ensures.filtered

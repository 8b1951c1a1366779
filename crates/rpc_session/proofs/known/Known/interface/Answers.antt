use Rattle.std.proofs.Common.{sym, ap, ◌∙◌}
use Rattle.std.specs.FinMap as map
use Rattle.rpc_session.proofs.Steps.{get_listed}
use Rattle.rpc_session.proofs.known.Known.interface.Goals as goal

pub returns : goal.returns
returns c = c.table_at.ensures ∙ sym (get_listed c.self.inside.table.items c.args.id) ∙ ap (λ known. map.get known c.args.id) c.self.view_is

use Rattle.std.proofs.Common.{[], sym, subst, None}
use Rattle.rpc_session.specs.Items.{Gave, unbound}
use Rattle.rpc_session.proofs.Telling.{gave_new}
use Rattle.rpc_session.proofs.session.Session.new.Goals as goal

pub returns-clause-gave : goal.returns-clause-gave
returns-clause-gave c =
    subst (λ known. Gave [] [] (record { state = record { terms = None; known = known; unfinished = None }; held = c.new-2.result }))
    (sym c.new.ensures)
    (subst (λ held. Gave [] [] (record { state = unbound; held = held })) (sym c.new-2.ensures) gave_new)

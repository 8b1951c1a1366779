use Rattle.std.proofs.Common.{◌++◌, sym, subst, OnOk, OnErr, Result, Ok, Err}
use Rattle.rpc_session.specs.Items.{Gave, Seen, IsStuck}
use Rattle.rpc_session.proofs.Telling.{gave_fed, stuck_fed}
use Rattle.rpc_session.proofs.session.Session.feed.Goals as goal

on_ok : {T E A B : Type 0} → (r : Result T E) → (A → B) → OnOk r A → OnOk r B
on_ok (Ok x) f a = f a
on_ok (Err e) f a = tt

pub returns-clause-gave : goal.returns-clause-gave
returns-clause-gave c =
    let before : Seen = record { state = c.self.inside.state; held = c.self.inside.stream } in
    on_ok c.feed.result (λ fed stream given g.
    subst (λ held. Gave (stream ++ c.args.piece.now) given (record { state = c.self.inside.state; held = held })) (sym fed)
    (gave_fed stream c.args.piece.now given before (subst (Gave stream given) (sym c.self.view_is) g)))
    c.feed.ensures.ok

by_result : {T E A B P : Type 0} (r : Result T E) → OnOk r A → OnErr r B → (A → P) → (B → P) → P
by_result (Ok x) a b f g = f a
by_result (Err e) a b f g = g b

pub returns-clause-stuck : goal.returns-clause-stuck
returns-clause-stuck c = λ fault stuck.
    let before : Seen = record { state = c.self.inside.state; held = c.self.inside.stream } in
    let stood = subst (λ s. IsStuck s fault) (sym c.self.view_is) stuck in
    by_result c.feed.result c.feed.ensures.ok c.feed.ensures.err
    (λ fed. subst (λ held. IsStuck (record { state = c.self.inside.state; held = held }) fault) (sym fed)
    (stuck_fed before c.args.piece.now fault stood))
    (λ same. subst (λ held. IsStuck (record { state = c.self.inside.state; held = held }) fault) (sym same) stood)

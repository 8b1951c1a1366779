use Rattle.std.proofs.Common.{ℕ, Bool, ◌∙◌, ◌-◌, ◌^◌, ◌==◌, not, filter, length, min, ap, List}
use Rattle.dependency_index.specs.Naming.{active_in, names}
use Rattle.dependency_index.proofs.Shelves.{counted}
use Rattle.dependency_index.proofs.index.DependencyIndex.active_dependents.Goals as goal

pub returns-in-Some-clause-active : goal.returns-in-Some-clause-active
returns-in-Some-clause-active g c =
    let state_of = g.S.StateLook.state_of c.args.states.now in
    let rows = c.self.inside.rows.items in
    let name = c.in-Some.row.now.name in
    let test : ℕ → Bool = λ (service : ℕ). not (state_of service == 1) in
    rw (← c.self.view_is)
    (c.active_among.ensures.active
    ∙ ap (λ (l : List ℕ). min (length (filter test l)) (2 ^ 32 - 1)) (c.at.ensures.items ∙ c.self.invariant.lists.named name)
    ∙ ap (λ (n : ℕ). min n (2 ^ 32 - 1)) (counted (names name) test rows)
    ∙ ap (active_in rows state_of) c.in-Some.ensures)

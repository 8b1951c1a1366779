use Rattle.std.proofs.Common.{◌≡◌, ◌∙◌, ◌<◌, ◌≤◌, ℕ, List, ap, sym, subst, cond}
use Rattle.std.specs.List.{insert}
use Rattle.std.specs.List.Sorted.{IsNonDecreasingBy, IsPartitionPoint}
use Rattle.scm_model.specs.declared.flat.Registration.{Registration}
use Rattle.notify_queue.proofs.Ordered.{is_put, sorted_put}
use Rattle.notify_queue.proofs.rows.put_in.Goals as goal

-- where the rows of a service end, by what the code knows of it
ends_at : (rows seen : List Registration) (n s : ℕ) (row : Registration) → seen ≡ rows → s ≡ row.service
    → IsPartitionPoint (λ (r : Registration). r.service ≤ s) (λ (r : Registration). s < r.service) seen n
    → IsPartitionPoint (λ (r : Registration). r.service ≤ row.service) (λ (r : Registration). row.service < r.service) rows n
ends_at rows seen n s row same service ends =
    subst (λ (m : ℕ). IsPartitionPoint (λ (r : Registration). r.service ≤ m) (λ (r : Registration). m < r.service) rows n) service
    (subst (λ (rs : List Registration). IsPartitionPoint (λ (r : Registration). r.service ≤ s) (λ (r : Registration). s < r.service) rs n)
    same ends)

pub returns-clause-rows : goal.returns-clause-rows
returns-clause-rows c =
    let rows = c.args.rows.now.items in
    let n = c.end_of-end.result in
    c.insert-placed.ensures.items ∙ ap (λ b. cond b (insert rows n c.args.row) rows) (c.insert-placed.ensures.succeeds c.requires.room)
    ∙ is_put c.args.row rows n (rw c.as_slice.ensures.value at c.end_of-end.ensures.within)
    (ends_at rows c.as_slice.result.now n c.service.result c.args.row c.as_slice.ensures.value c.service.ensures c.end_of-end.ensures.ends)

pub returns-clause-sorted : goal.returns-clause-sorted
returns-clause-sorted c =
    let rows = c.args.rows.now.items in
    let n = c.end_of-end.result in
    subst (IsNonDecreasingBy (λ (row : Registration). row.service))
    (sym (c.insert-placed.ensures.items ∙ ap (λ b. cond b (insert rows n c.args.row) rows)
    (c.insert-placed.ensures.succeeds c.requires.room)))
    (sorted_put c.args.row rows n (rw c.as_slice.ensures.value at c.end_of-end.ensures.within) c.requires.sorted
    (ends_at rows c.as_slice.result.now n c.service.result c.args.row c.as_slice.ensures.value c.service.ensures c.end_of-end.ensures.ends))

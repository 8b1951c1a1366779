use Rattle.std.proofs.Common.{ℕ, ◌≡◌, ◌∙◌, ◌+◌, ◌≤◌, List, Option, ap, arith, drop, find, length, subst, sym, true}
use Rattle.std.specs.Prelude.{IfSome}
use Rattle.scm_model.specs.declared.flat.Need.{Need}
use Rattle.scm_model.specs.declared.flat.NeedRow.{NeedRow}
use Rattle.scm_model.specs.Needs.{numbers_of}
use Rattle.dependency_index.specs.Dependents.{all_named, is_behind, lesser}
use Rattle.dependency_index.proofs.Lists.{dropped_all}
use Rattle.dependency_index.proofs.Reaching.{lesser_none, need_merged, next_listed, nothing_named}
use Rattle.scm_text.specs.Numbers.{has}
use Rattle.dependency_index.proofs.dependents.next_named.Goals as goal

pub loop-need-preserved : goal.loop-need-preserved
loop-need-preserved c =
    let rows = c.args.index.now.rows in
    let behind = is_behind c.args.last in
    let rest = find behind (all_named rows (drop (c.loop-need.need-index + 1) c.args.needs.now)) in
    let first = c.first_behind.ensures ∙ ap (find behind) c.named_as.ensures.numbers in
    ap (λ (o : Option ℕ). lesser o rest) (c.lesser-next.ensures ∙ ap (lesser c.loop-need.next) first)
    ∙ sym (need_merged c.args.last c.loop-need.next rows c.args.needs.now c.loop-need.need-index c.need-item.result c.requires
    (omega arith) c.need-item.is)
    ∙ c.loop-need.invariant

-- where none is left
ended : (last next : Option ℕ) (rows : List NeedRow) (needs : List Need) (i : ℕ) → length needs ≤ i
    → lesser next (find (is_behind last) (all_named rows (drop i needs))) ≡ find (is_behind last) (all_named rows needs)
    → next ≡ find (is_behind last) (all_named rows needs)
ended last next rows needs i past is =
    sym (lesser_none next) ∙ ap (λ (ns : List ℕ). lesser next (find (is_behind last) ns))
    (sym (ap (all_named rows) (dropped_all needs i past) ∙ nothing_named rows)) ∙ is

pub returns-clause-next : goal.returns-clause-next
returns-clause-next c = ended c.args.last c.loop-need.next c.args.index.now.rows c.args.needs.now c.loop-need.need-index
    (omega arith) c.loop-need.invariant

pub returns-clause-listed : goal.returns-clause-listed
returns-clause-listed c =
    let rows = c.args.index.now.rows in
    let next = ended c.args.last c.loop-need.next rows c.args.needs.now c.loop-need.need-index (omega arith) c.loop-need.invariant in
    subst (λ (o : Option ℕ). IfSome o (λ number. has (numbers_of rows) number ≡ true)) (sym next)
    (next_listed (is_behind c.args.last) rows c.args.needs.now)

use Rattle.std.proofs.Common.{ℕ, ◌∙◌, List, ap, arith}
use Rattle.std.specs.Prelude.{fold, max}
use Rattle.record_table.specs.Recorded.{is_member, numbers_with}
use Rattle.scm_tables.specs.Tabled.{Tabled}
use Rattle.scm_tables.specs.Tags.{tag_in}
use Rattle.scm_tables.proofs.Numbered.{group_tag, in_order, with_number}
use Rattle.scm_tables.proofs.tables.Tables.next_tag.Goals as goal

pub returns : goal.returns
returns c =
    let services = c.args.self.now.flat.services in
    let group = c.args.group.now in
    let greatest = c.greatest_tag-greatest.ensures
    ∙ ap (λ (ns : List ℕ). fold (λ greatest number. max greatest (tag_in (with_number services number))) 0 ns) (c.members.ensures.numbers
    ∙ ap (λ (t : Tabled). numbers_with (is_member group) t.flat.services) c.self.view_is)
    ∙ group_tag services (in_order c.self.invariant c.self.view_is) group in
    omega (arith, c.saturating_add.ensures, greatest)

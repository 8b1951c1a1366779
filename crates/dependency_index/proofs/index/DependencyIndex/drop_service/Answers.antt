use Rattle.std.proofs.Common.{not}
use Rattle.scm_model.specs.declared.flat.NeedRow.{NeedRow}
use Rattle.dependency_index.specs.Kept.{is_row}
use Rattle.dependency_index.proofs.Shelves.{rising_filter, still_of}
use Rattle.dependency_index.proofs.index.DependencyIndex.drop_service.Goals as goal

pub invariant_of-self : goal.invariant_of-self
invariant_of-self c =
    let rows = c.self.inside.rows.items in
    record {
      once = c.take_out.ensures.once;
      rising = rw c.take_out.ensures.rows (rising_filter (λ (row : NeedRow). not (is_row c.args.service row)) rows
          c.self.invariant.rising);
      lists = rw c.take_out.ensures.rows (still_of _ _ _ c.forget_texts.ensures c.leave_lists-row.ensures.lists);
      room = rw c.take.ensures.after tt;
      next = rw c.take-2.ensures.after tt;
    }

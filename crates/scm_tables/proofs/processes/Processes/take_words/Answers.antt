use Rattle.std.proofs.Common.{◌∙◌, List, ap, sym}
use Rattle.scm_model.specs.declared.flat.Process.{Process}
use Rattle.scm_rules.specs.Owed.{owed_by_process}
use Rattle.start_plan.specs.Owed.{total}
use Rattle.scm_tables.proofs.Changing.{same_numbered, same_order}
use Rattle.scm_tables.proofs.processes.Processes.take_words.Goals as goal

pub invariant_of-self : goal.invariant_of-self
invariant_of-self c =
    record {
      rising = same_order _ _ c.take_words.ensures.processes _ c.self.invariant.rising;
      numbered = same_numbered _ _ c.take_words.ensures.processes _ c.self.invariant.numbered;
      owed = c.self.invariant.owed ∙ sym (ap (λ (rows : List Process). total owed_by_process rows) c.take_words.ensures.processes);
    }

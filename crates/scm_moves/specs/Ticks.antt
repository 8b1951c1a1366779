-- What a tick leaves.
use Rattle.std.specs.Prelude.{ℕ, ◌≡◌, false, max}
use Rattle.std.specs.List.{list_any}
use Rattle.scm_model.specs.declared.flat.Flat.{Flat}
use Rattle.scm_model.specs.declared.steps.Answer.{Answer}
use Rattle.scm_model.specs.declared.steps.Step.{Step}
use Rattle.scm_model.specs.declared.steps.Step.TheVariants.{Tick}
use Rattle.scm_model.specs.Entries.{Entry}
use Rattle.scm_rules.specs.Due.{is_due}

-- after a tick nothing is due at this moment
abbrev pub IsTicked : ℕ → Step → Flat → Type 0
IsTicked moment Tick after = list_any (is_due moment) after.dues ≡ false
IsTicked moment step after = Unit {0}

-- after a tick nothing is due up to its moment, or up to that which the state before had reached
abbrev pub LawOfTicks : Flat → Entry → Answer → Flat → Type 0
LawOfTicks before e told after = IsTicked (max before.moment e.0) e.1 after

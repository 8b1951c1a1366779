use Rattle.std.proofs.Common.{◌∙◌, ap, find}
use Rattle.std.specs.Prelude.{option_map, slice_get}
use Rattle.scm_tables.specs.Listed.{is_wanted_row, wanted_of}
use Rattle.scm_tables.specs.Processed.{Processed}
use Rattle.scm_tables.proofs.Changing.{wanted_shown}
use Rattle.scm_tables.proofs.processes.Processes.wanted_first.Goals as goal

pub returns : goal.returns
returns c =
    ap (option_map wanted_of) (c.wanted_first.ensures ∙ ap (find is_wanted_row) c.as_slice.ensures.value)
    ∙ wanted_shown c.self.inside.rows.items
    ∙ ap (λ (t : Processed). slice_get t.wanted 0) c.self.view_is

use Rattle.std.proofs.Common.{map, refl, ◌∙◌, ap}
use Rattle.row_slab.specs.Rowed.{altered_at}
use Rattle.record_table.specs.Recorded.{Recorded, number_of, with_config}
use Rattle.scm_model.specs.declared.flat.Service.{Service}
use Rattle.scm_model.specs.Changes.{configured_if}
use Rattle.scm_tables.specs.Turned.{typed}
use Rattle.scm_tables.proofs.Rising.{configured_elsewhere, configured_here}
use Rattle.scm_tables.proofs.Turns.{altered_twice}
use Rattle.scm_tables.proofs.service_rows.configure_in.Goals as goal

pub returns : goal.returns
returns c =
    let n = c.args.number in
    let config = c.args.config in
    ap (λ (t : Recorded). t.services) c.alter-found.ensures.table
    ∙ ap (λ (t : Recorded). map (altered_at number_of n (typed config.kind)) t.services) c.replace-before.ensures.table
    ∙ altered_twice n (with_config config) (typed config.kind) (configured_if n config) (λ (row : Service). refl) (configured_here n config)
    (configured_elsewhere n config) c.args.rows.now.services

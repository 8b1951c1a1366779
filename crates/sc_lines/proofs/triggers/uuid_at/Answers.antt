use Rattle.std.proofs.Common.{ap, ◌∙◌}
use Rattle.uuid.specs.Parts.{swap_fields}
use Rattle.sc_lines.specs.Triggers.{uuid_at}
use Rattle.sc_lines.proofs.triggers.uuid_at.Goals as goal

pub returns : goal.returns
unfolding uuid_at
returns c = c.from_bytes_le.ensures ∙ ap (λ bytes. swap_fields bytes) c.guid_at.ensures

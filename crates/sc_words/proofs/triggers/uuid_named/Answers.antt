use Rattle.std.proofs.Common.{◌∙◌}
use Rattle.sc_words.specs.Triggers.{uuid_named}
use Rattle.sc_words.proofs.Uuids.{ok_is}
use Rattle.sc_words.proofs.triggers.uuid_named.Goals as goal

pub returns : goal.returns
unfolding uuid_named
returns c = c.ok.ensures.value ∙ ok_is _ _ c.parse_str.ensures.ok c.parse_str.ensures.bytes

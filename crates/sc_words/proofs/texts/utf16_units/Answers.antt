use Rattle.std.proofs.Common.{ap, sym, ◌∙◌}
use Rattle.std.proofs.lemmas.Iterator.{YieldsList-from_chars}
use Rattle.std.proofs.lemmas.Iterator.Consumers.{YieldsList-end}
use Rattle.std.specs.List.{flat_map}
use Rattle.std.specs.Char.Escape.{encode_utf16}
use Rattle.sc_words.proofs.Lists.{map_same}
use Rattle.sc_words.proofs.texts.utf16_units.Goals as goal

pub returns : goal.returns
returns c =
    let t = YieldsList-end (YieldsList-from_chars c.args.word.now c.utf8.word cc) c.loop-character.yielded _ c.loop-character.yielded_by _ _
    c.in-None.is c.next.ensures.steps in
    c.loop-character.invariant ∙ ap (flat_map encode_utf16) (sym (map_same c.loop-character.yielded) ∙ t.0)

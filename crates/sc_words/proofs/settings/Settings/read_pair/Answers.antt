use Rattle.std.proofs.Common.{◌+◌, ap, sym, subst, ◌∙◌, arith}
use Rattle.sc_words.specs.Along.{IsPut}
use Rattle.sc_words.specs.Settings.{key_at, settings_from, with_value}
use Rattle.sc_words.proofs.Lists.{read_and, read_alone, read_two}
use Rattle.sc_words.proofs.Pairs.{no_key, no_value, pair_read}
use Rattle.sc_words.proofs.settings.Settings.read_pair.Goals as goal

pub returns-in_default : goal.returns-in_default
returns-in_default c =
    ap (settings_from c.args.verb c.args.place c.args.self.now) (read_and c.args.words.now c.args.place c.index-words-place.result
    c.requires c.index-words-place.is)
    ∙ no_key c.args.verb c.args.place c.args.self.now _ _ (ap (key_at c.args.verb c.args.self.now) (sym c.as_str.ensures)
    ∙ sym c.key_at.ensures ∙ c.in_default.is)

pub returns-then-place-words : goal.returns-then-place-words
returns-then-place-words c =
    ap (settings_from c.args.verb c.args.place c.args.self.now) (read_alone c.args.words.now c.args.place c.index-words-place.result
    c.requires c.index-words-place.is c.if-place-words.true)
    ∙ no_value c.args.verb c.args.place c.args.self.now _ c.in-Some.key (ap (key_at c.args.verb c.args.self.now) (sym c.as_str.ensures)
    ∙ sym c.key_at.ensures ∙ c.in-Some.is)

pub returns : goal.returns
returns c =
    let put = subst (λ value. IsPut (c.args.place + 1) (with_value c.in-Some.key value c.args.self.now) c.set.new.self c.set.result)
    c.as_str-2.ensures c.set.ensures in
    pair_read c.args.verb c.args.place c.args.words.now c.args.self.now c.set.new.self c.index-words-place.result
    c.index-words-place-2.result c.in-Some.key c.set.result
    (read_two c.args.words.now c.args.place c.index-words-place.result c.index-words-place-2.result
    (omega arith) c.index-words-place.is c.index-words-place-2.is)
    (ap (key_at c.args.verb c.args.self.now) (sym c.as_str.ensures) ∙ sym c.key_at.ensures ∙ c.in-Some.is) put

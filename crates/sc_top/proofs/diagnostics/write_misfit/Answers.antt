use Rattle.std.proofs.Common.{ap, subst, sym, ◌∙◌}
use Rattle.std.specs.Prelude.{option_map, slice_get}
use Rattle.outside.specs.Written.{Writes}
use Rattle.sc_top.specs.Diagnostics.{misfit}
use Rattle.sc_top.proofs.diagnostics.write_misfit.Goals as goal

pub returns-in-Some-clause-written : goal.returns-in-Some-clause-written
returns-in-Some-clause-written g c =
    let word = ap (option_map (λ word. word.now)) (sym c.in-Some.is) ∙ c.word_at.ensures in
    let e = ap (λ w. misfit w c.usage_for.result.now) word ∙ ap (misfit (slice_get c.args.words.now c.args.place)) c.usage_for.ensures in
    subst (λ text. Writes (g.E.Sink.held c.args.errors.now) (g.E.Sink.held c.write_wrong.new.errors) c.write_wrong.result text) e
    c.write_wrong.ensures.written

pub returns-in-None-clause-written : goal.returns-in-None-clause-written
returns-in-None-clause-written g c =
    let word = ap (option_map (λ word. word.now)) (sym c.in-None.is) ∙ c.word_at.ensures in
    let e = ap (λ w. misfit w c.usage_for-in-None.result.now) word ∙ ap
    (misfit (slice_get c.args.words.now c.args.place)) c.usage_for-in-None.ensures in
    subst (λ text. Writes (g.E.Sink.held c.args.errors.now) (g.E.Sink.held c.write_missing.new.errors) c.write_missing.result text) e
    c.write_missing.ensures.written

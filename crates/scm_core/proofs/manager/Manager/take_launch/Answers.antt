use Rattle.std.proofs.Common.{◌∙◌, ap, arith, sym}
use Rattle.scm_rules.specs.Launches.{first_wanted}
use Rattle.scm_tables.specs.Lines.{first_line}
use Rattle.scm_core.specs.Managed.{Managed}
use Rattle.scm_core.proofs.Taking.{emptied, taken_whole}
use Rattle.scm_core.proofs.manager.Manager.take_launch.Goals as goal

pub returns : goal.returns
returns c = (
  sym (ap (λ (m : Managed). first_wanted m.flat.wanted) c.self.view_is) ∙ sym c.in_ok-process.ensures,
  c.write_first_path.ensures ∙ ap (λ (m : Managed). record { units = (first_line m.flat m.flat.wanted).0; room = c.args.path.now.room })
      c.self.view_is,
  c.take_words-words.ensures.words ∙ ap (λ (m : Managed). (first_line m.flat m.flat.wanted).1) c.self.view_is,
  taken_whole c.args.self.now c.step-taken.new.self c.args.moment c.take_words-words.new.self.limits c.take_words-words.new.self.flat
      (c.take_words-words.ensures.limits ∙ ap (λ (m : Managed). m.limits) c.self.view_is)
      (c.take_words-words.ensures.flat ∙ ap (λ (m : Managed). emptied m.flat) c.self.view_is)
      c.step-taken.ensures.flat c.step-taken.ensures.limits
      (let s = c.step-taken.ensures.steps in let v = ap (λ (m : Managed). m.steps) c.self.view_is in omega (arith, s, v))
      (let t = c.step-taken.ensures.text in let v = ap (λ (m : Managed). m.text) c.self.view_is in omega (arith, t, v))
      c.step-taken.ensures.room,
)

use Rattle.std.proofs.Common.{◌≤◌, sym, subst, ◌∙◌, arith}
use Rattle.std.specs.Prelude.{IfSome}
use Rattle.sc_words.proofs.Counts.{one_more, no_more, all_done, all_taken}
use Rattle.sc_words.proofs.calls.progress_of.Goals as goal

pub loop-taken-preserved : goal.loop-taken-preserved
loop-taken-preserved c =
    let most : c.in-Some.more ≤ 1 = subst (λ o. IfSome o (λ n. n ≤ 1)) c.in-Some.is c.completes.ensures.bound in
    record {
      value =
          one_more c.args.methods.now c.args.heard.now c.loop-taken.done c.loop-taken.taken
          (omega arith) c.index-heard-taken.result c.in-Some.more c.loop-taken-test.true c.index-heard-taken.is
          (sym c.completes.ensures.value ∙ c.in-Some.is) c.loop-taken.invariant.value;
      bound = omega (arith, most);
    }

pub returns-then-done-methods-clause-value : goal.returns-then-done-methods-clause-value
returns-then-done-methods-clause-value c =
    all_done c.args.methods.now c.args.heard.now c.loop-taken.done c.loop-taken.taken (omega arith) c.loop-taken.invariant.value

pub returns-in_default-clause-value : goal.returns-in_default-clause-value
returns-in_default-clause-value c =
    no_more c.args.methods.now c.args.heard.now c.loop-taken.done c.loop-taken.taken
    (omega arith) c.index-heard-taken.result c.loop-taken-test.true c.index-heard-taken.is
    (sym c.completes.ensures.value ∙ c.in_default.is) c.loop-taken.invariant.value

pub returns-clause-value : goal.returns-clause-value
returns-clause-value c =
    all_taken c.args.methods.now c.args.heard.now c.loop-taken.done c.loop-taken.taken c.loop-taken-test.false c.loop-taken.auto.taken-end
    c.loop-taken.invariant.value

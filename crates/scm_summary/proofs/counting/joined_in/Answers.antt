use Rattle.std.proofs.Common.{List, ap, arith, length}
use Rattle.scm_model.specs.Entries.{Entry}
use Rattle.scm_summary.proofs.Counts.{joined_one}
use Rattle.scm_summary.proofs.counting.joined_in.Goals as goal

pub loop-front-preserved : goal.loop-front-preserved
loop-front-preserved c =
    let taken = rw c.in-Some.is at c.in_ok-front.ensures.ok in
    let one = joined_one c.loop-front.entries c.next_front.new.self c.in-Some.front taken in
    let shorter = ap (λ (es : List Entry). length es) taken.1 in
    let value = c.one_joined-count.ensures.value in
    let small = c.one_joined-count.ensures.small in
    let was = c.loop-front.invariant in
    let joined = was.joined in
    let few = was.few in record {
      joined = omega (arith, joined, one, value);
      few = omega (arith, few, shorter, small);
    }

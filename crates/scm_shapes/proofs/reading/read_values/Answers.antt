use Rattle.std.proofs.Common.{◌∙◌, [], ◌∷◌, length-append, arith}
use Rattle.std.proofs.lemmas.Result.{err_from_is_err_and}
use Rattle.scm_shapes.specs.Shapes.{values_at}
use Rattle.scm_shapes.proofs.Loop.{index_goes_on, index_ends, index_done}
use Rattle.scm_shapes.proofs.reading.read_values.Goals as goal

pub returns-in_err-value-clause-value : goal.returns-in_err-value-clause-value
returns-in_err-value-clause-value c =
    let p = err_from_is_err_and c.from_residual.result c.from_residual.ensures.1 in
    rw (p.1, p.2) (index_ends c.in_err-value.field-0.0 c.loop-item.values c.args.shape.now c.loop-item.item-index _ c.loop-item.reader.body
    c.loop-item.reader.place (values_at c.args.shape.now c.args.reader.now.body c.args.reader.now.place) c.loop-item-test.true
    c.in_err-value.ensures.value c.loop-item.invariant.so_far)

pub loop-item-preserved : goal.loop-item-preserved
loop-item-preserved c =
    let read = index_goes_on c.loop-item.values c.args.shape.now c.loop-item.item-index _ c.loop-item.reader.body c.loop-item.reader.place
    c.in_ok-value.value c.read_item.new.reader.place (values_at c.args.shape.now c.args.reader.now.body c.args.reader.now.place)
    c.loop-item-test.true c.in_ok-value.ensures.value c.loop-item.invariant.so_far in
    record {
      so_far = rw (c.in_ok-push.ensures.ok, c.in_ok-value.ensures.body) read;
      body = c.in_ok-value.ensures.body
          ∙ c.loop-item.invariant.body;
      count = rw c.in_ok-push.ensures.ok
          (omega (arith, c.loop-item.invariant.count, length-append c.loop-item.values (c.in_ok-value.value ∷ [])));
    }

pub returns-clause-value : goal.returns-clause-value
returns-clause-value c = index_done c.loop-item.values c.args.shape.now c.loop-item.item-index c.loop-item.reader.body
    c.loop-item.reader.place (values_at c.args.shape.now c.args.reader.now.body c.args.reader.now.place) c.loop-item-test.false
    c.loop-item.invariant.so_far

pub returns-in_err-push-clause-memory : goal.returns-in_err-push-clause-memory
returns-in_err-push-clause-memory c =
    λ plain. let found = c.in_err-push.ensures.enough (omega (arith, plain.few, c.loop-item.invariant.count, c.loop-item-test.true)) in
    absurd cc

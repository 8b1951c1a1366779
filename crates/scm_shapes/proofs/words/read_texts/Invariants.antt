use Rattle.std.proofs.Common.{◌≡◌, ◌-◌}
use Rattle.ndr_body.specs.Reading.{text_at}
use Rattle.scm_shapes.specs.Each.{each_at}
use Rattle.scm_shapes.proofs.Loop.{with_front}
use Rattle.scm_shapes.proofs.words.read_texts.Given as goal

abbrev pub invariant-loop : goal.invariant-loop
invariant-loop l = record {
  so_far : with_front l.texts (each_at text_at (l.count - l.counter) l.reader.body l.reader.place) ≡ each_at
      text_at l.count l.fn.reader.body l.fn.reader.place;
  body : l.reader.body ≡ l.fn.reader.body;
}

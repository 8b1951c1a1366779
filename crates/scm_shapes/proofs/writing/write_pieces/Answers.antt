use Rattle.std.proofs.Common.{map}
use Rattle.scm_shapes.specs.Shapes.{value_of}
use Rattle.scm_shapes.proofs.Back.{body_again}
use Rattle.scm_shapes.proofs.writing.write_pieces.Goals as goal

pub returns-clause-back : goal.returns-clause-back
returns-clause-back c = λ shape ranged. body_again shape (map value_of c.args.pieces.now) ranged

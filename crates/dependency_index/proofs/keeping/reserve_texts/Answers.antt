use Rattle.dependency_index.proofs.Staying.{still_texts}
use Rattle.dependency_index.proofs.keeping.reserve_texts.Goals as goal

pub returns-then-is_err-clause-kept : goal.returns-then-is_err-clause-kept
returns-then-is_err-clause-kept c = λ had. c.tidy_texts_unless_kept.ensures.kept
    (still_texts c.args.kept.now c.args.lists.now c.reserve_each-made.new.lists c.reserve_each-made.ensures.room had)

pub returns-else-is_err-clause-kept : goal.returns-else-is_err-clause-kept
returns-else-is_err-clause-kept c = λ had. still_texts c.args.kept.now c.args.lists.now c.reserve_each-made.new.lists
    c.reserve_each-made.ensures.room had

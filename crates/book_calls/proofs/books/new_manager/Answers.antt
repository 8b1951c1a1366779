use Rattle.std.proofs.Common.{subst, sym}
use Rattle.scm_rules.specs.Opening.{CanOpen}
use Rattle.scm_core.proofs.Opened.{opens_with_nothing}
use Rattle.book_calls.proofs.Coming.{opens_new}
use Rattle.book_calls.proofs.books.new_manager.Goals as goal

pub new-requires-3-clause-configs : goal.new-requires-3-clause-configs
new-requires-3-clause-configs c = subst (CanOpen _) (sym c.new-2.ensures) (opens_with_nothing _)

pub returns-clause-begins : goal.returns-clause-begins
returns-clause-begins c = opens_new c.args.limits c.new.result c.new-2.result 0 c.new-3.result
    (subst (CanOpen _) (sym c.new-2.ensures) (opens_with_nothing _)) c.new-3.ensures.flat c.new-3.ensures.limits

use Rattle.std.proofs.Common.{◌≡◌, ap, ◌∙◌}
use Rattle.scm_book.specs.Joins.{accompanied}
use Rattle.scm_book.specs.Passes.{Known}
use Rattle.scm_book.specs.Turns.{of_badge}
use Rattle.scm_book.proofs.Forks.{same_keeps}
use Rattle.scm_book.proofs.book.Book.join_runner.Goals as goal

pub returns-clause-keeps : goal.returns-clause-keeps
returns-clause-keeps g c =
    let is : of_badge c.accompany.new.by ≡ accompanied c.args.by.now = c.accompany.ensures.by ∙ ap accompanied c.by.view_is in
    same_keeps c.args.self.now.opening c.args.by.now (of_badge c.accompany.new.by) (ap (λ (k : Known). k.seen) is)
    (ap (λ (k : Known). k.names) is) (ap (λ (k : Known). k.caller) is)

use Rattle.std.proofs.Common.{ap, ◌∙◌}
use Rattle.book_rule.specs.Seats.{Identity}
use Rattle.scm_book.specs.Passes.{KeepsAll, Known}
use Rattle.scm_book.specs.Turns.{of_badge}
use Rattle.scm_book.proofs.InHand.{seen_outside}
use Rattle.scm_book.proofs.InHandStill.{joins_keep, learnt_keeps}
use Rattle.scm_book.proofs.JoinsMade.{joined_some}
use Rattle.scm_book.proofs.book.Book.join_alone.Goals as goal

pub returns-in-Ok-clause-keeps : goal.returns-in-Ok-clause-keeps
returns-in-Ok-clause-keeps g c =
    seen_outside (λ (b : Identity) (k : Known). KeepsAll b.opening k (of_badge c.join_by.new.badge)) c.self.inside.shared.turn
    c.args.self.now (of_badge c.root.inside.badge) c.args.root c.self.view_is c.root.view_is
    (joins_keep c.self.inside.shared.turn.opening c.self.invariant (of_badge c.root.inside.badge)
    (of_badge c.join_by.new.badge) c.args.moment c.args.principal c.in-Ok.caller (ap (λ (k : Known). k.caller) c.root.view_is
    ∙ c.requires.nobody) c.in-Ok.ensures.ends)

pub returns-in-Err-clause-keeps_back : goal.returns-in-Err-clause-keeps_back
returns-in-Err-clause-keeps_back g c =
    seen_outside (λ (b : Identity) (k : Known). KeepsAll b.opening k (of_badge c.join_by.new.badge)) c.self.inside.shared.turn
    c.args.self.now (of_badge c.root.inside.badge) c.args.root c.self.view_is c.root.view_is
    (learnt_keeps c.self.inside.shared.turn.opening c.self.invariant (of_badge c.root.inside.badge)
    (of_badge c.join_by.new.badge) c.in-Err.ensures.ends.0)

pub returns-in-Ok-clause-caller : goal.returns-in-Ok-clause-caller
returns-in-Ok-clause-caller g c =
    joined_some c.self.inside.shared.turn.opening c.self.invariant (of_badge c.root.inside.badge) c.args.moment c.args.principal
    c.in-Ok.caller (of_badge c.join_by.new.badge) c.in-Ok.ensures.ends.made

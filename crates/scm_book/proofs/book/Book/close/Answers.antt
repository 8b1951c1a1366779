use Rattle.std.proofs.Common.{◌∙◌, ap, refl, sym, subst}
use Rattle.book_rule.specs.Seats.{Identity}
use Rattle.scm_book.specs.Ghosts.{ghosts_of}
use Rattle.scm_book.specs.declared.book.Closed.{Closed}
use Rattle.scm_book.specs.Calls.{Closes}
use Rattle.scm_book.specs.Passes.{Known, knows, view_of}
use Rattle.scm_book.proofs.Closing.{closes}
use Rattle.scm_book.proofs.book.Book.close.Goals as goal

pub returns : goal.returns
returns g c =
    let ghosts = ghosts_of g.K.Keeper.held g.K.Keeper.faults g.K.Keeper.settled g.K.Keeper.crashes
    g.K.Keeper.are_crashes g.K.Keeper.asked in
    let closed : Closed _ = record {
      trail = c.close-manager.result.trail;
      recorder = c.close-manager.result.recorder;
      keeper = c.close-manager.result.keeper;
      services = c.services-services.result;
    } in
    subst (λ (b : Identity). Closes ghosts b.opening c.args.last closed) c.self.view_is
    (subst (λ (k : Known). Closes ghosts c.self.inside.shared.turn.opening k closed)
    ((λ i. knows (c.into_seat.ensures.0 i) (ap view_of (sym c.into_seat.ensures.2) i)) ∙ c.last.view_is)
    (closes ghosts c.self.inside.shared.turn c.into_seat.result c.close-manager.result
    c.close-manager.ensures
    closed refl refl refl c.services-services.ensures c.entries-entries.ensures.coded))

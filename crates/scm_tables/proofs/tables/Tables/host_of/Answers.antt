use Rattle.std.proofs.Common.{◌≡◌, ◌∙◌, None, Some, ap, find, sym, true}
use Rattle.start_plan.specs.Hosts.{is_sharing}
use Rattle.scm_tables.specs.Offering.{offers_among}
use Rattle.scm_tables.specs.Tabled.{Tabled}
use Rattle.scm_tables.proofs.Offers.{host_is}
use Rattle.scm_tables.proofs.tables.Tables.host_of.Goals as goal

pub first_offering-requires : goal.first_offering-requires
first_offering-requires c = c.self.invariant.rising.rising

pub returns-in_err-other : goal.returns-in_err-other
returns-in_err-other c =
    let f = c.args.self.now.flat in
    let row = c.args.row.now in
    let sharing : is_sharing row ≡ true = sym c.is_sharing.ensures ∙ c.if-not-is_sharing.false in
    let none = c.in_err-other.ensures ∙ ap (λ (t : Tabled). find (offers_among t.flat.processes row.config.path) t.flat.services)
    c.self.view_is in
    rw c.from_residual.ensures (host_is f row None sharing none)

pub returns : goal.returns
returns c =
    let f = c.args.self.now.flat in
    let row = c.args.row.now in
    let sharing : is_sharing row ≡ true = sym c.is_sharing.ensures ∙ c.if-not-is_sharing.false in
    let found = c.in_ok-other.ensures ∙ ap (λ (t : Tabled). find (offers_among t.flat.processes row.config.path) t.flat.services)
    c.self.view_is in
    host_is f row (Some c.in_ok-other.other.now) sharing found

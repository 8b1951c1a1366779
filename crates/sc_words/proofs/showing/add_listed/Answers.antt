use Rattle.std.proofs.Common.{◌≡◌, ◌++◌, OnOk, ap, append_assoc, subst, ◌∙◌}
use Rattle.sc_lines.specs.Listings.{listing_text}
use Rattle.sc_words.specs.Told.{count_line}
use Rattle.sc_words.specs.declared.calls.Method.TheVariants.{EnumDependentServices}
use Rattle.sc_words.proofs.showing.add_listed.Goals as goal

pub returns : goal.returns
returns c =
    let count = count_line EnumDependentServices c.args.returned in
    let listing = listing_text c.args.returned c.args.bytes.now in
    subst (λ text. OnOk c.add_listing.result (c.add_listing.new.text ≡ text))
    (ap (λ text. text ++ listing) c.in_ok-add_count.ensures ∙ append_assoc c.args.text.now count listing) c.add_listing.ensures

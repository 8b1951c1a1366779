use Rattle.std.proofs.Common.{◌≡◌, ◌++◌, drop}
use Rattle.sc_words.specs.Told.{pages_text}
use Rattle.sc_words.proofs.showing.add_pages.Given as goal

-- the text so far and the pages that are left
abbrev pub invariant-loop-page : goal.invariant-loop-page
invariant-loop-page l = l.text ++ pages_text (drop l.page-index l.heard) ≡ l.fn.text ++ pages_text l.heard

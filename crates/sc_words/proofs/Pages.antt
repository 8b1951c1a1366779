-- Pages that are printed in turn.
use Rattle.std.proofs.Common.{◌≡◌, ℕ, ◌+◌, ◌<◌, ◌≤◌, List, ◌++◌, length, drop, get_or, ap, sym, ◌∙◌, append_assoc, append-nil}
use Rattle.std.proofs.Math.ListN.{drop_of_length-le}
use Rattle.sc_words.specs.declared.calls.Heard.{Heard}
use Rattle.sc_words.specs.Told.{page_text, pages_text}
use Rattle.sc_words.proofs.Lists.{read_and}

-- one page more
pub page_more : (hs : List Heard) (place : ℕ) (page : Heard) (text now : List ℕ) → place < length hs → page ≡ get_or hs place page
    → now ≡ text ++ page_text page → now ++ pages_text (drop (place + 1) hs) ≡ text ++ pages_text (drop place hs)
unfolding pages_text
page_more hs place page text now within is grown =
    ap (λ t. t ++ pages_text (drop (place + 1) hs)) grown ∙ append_assoc text (page_text page) (pages_text (drop (place + 1) hs))
    ∙ ap (λ ys. text ++ pages_text ys) (sym (read_and hs place page within is))

-- all were printed
pub page_end : (hs : List Heard) (place : ℕ) (text : List ℕ) → length hs ≤ place → text ++ pages_text (drop place hs) ≡ text
unfolding pages_text
page_end hs place text past = ap (λ ys. text ++ pages_text ys) (drop_of_length-le hs past) ∙ append-nil text

-- What a crash leaves, where the keeper tells what it holds.
use Rattle.std.proofs.Common.{ℕ, ◌≡◌, ◌∙◌, ⊎_elim, List, [], ◌∷◌, ◌++◌, Option, None, Some, ap, append-nil, subst, sym}
use Rattle.std.specs.Prelude.{IfSome, option_map}
use Rattle.record_journal.specs.Bearing.{Bears, IsAmong, IsKept, KeptIn, PartOf, Stands, StandsIn, Stood}
use Rattle.record_journal.specs.Crashes.{AreCrashes, Crashes}
use Rattle.record_journal.specs.declared.journal.Journal.{Journal}
use Rattle.scm_history.specs.Outcomes.{Outcome}
use Rattle.journal_lasting.specs.Lasting.{HasLasted, TurnLeaves, stood_after}
use Rattle.journal_lasting.proofs.Lasting.{lasted_more, lasted_none}
use Rattle.scm_book.specs.Calls.{IsOnly}

-- at the opening
pub bears_first : (good : Option Stood) (j : Journal) (told : Option (List ℕ)) → Bears good j told
    → Bears (option_map (λ s. stood_after s []) good) j told
bears_first None j told bears = tt
bears_first (Some s) j told bears = bears

pub lasts_first : (good : Option Stood) (held : Option (List ℕ)) (settled : Type 0) (c : Crashes) → AreCrashes held c settled
    → StandsIn good c → IfSome good (λ s. HasLasted s c.moment [] c)
lasts_first None held settled c law stands = tt
lasts_first (Some s) held settled c law stands = lasted_none s held settled c law stands

-- one turn more
pub lasts_on : (good : Option Stood) (opened : ℕ) (outs : List Outcome) (o : Outcome) (j : Journal) (held now : Option (List ℕ))
    (settled : Type 0) (old new : Crashes) → AreCrashes now new settled → Bears (option_map (λ s. stood_after s outs) good) j held
    → IfSome good (λ s. HasLasted s opened outs old)
    → ((s : Stood) → Bears (Some s) j held → Stands s old → TurnLeaves s o old new)
    → IfSome good (λ s. HasLasted s opened (outs ++ o ∷ []) new)
lasts_on None opened outs o j held now settled old new law bears lasts turn = tt
lasts_on (Some s) opened outs o j held now settled old new law bears lasts turn =
    lasted_more s opened outs o now settled old new law lasts (turn (stood_after s outs) bears lasts.stands)

-- ## If nothing failed since the last change that was kept

-- what is kept has no tail
no_tail : (s : Stood) (x : List ℕ) → s.lost ≡ [] → IsKept s x → x ≡ s.bytes
no_tail s x none is = ⊎_elim
    (λ (no : is.tail ≡ []). is.holds ∙ (ap (λ (t : List ℕ). s.bytes ++ t) no ∙ append-nil s.bytes))
    (λ (part : PartOf s is.tail). absurd (subst (λ lost. IsAmong part.change lost) none part.lost))
    is.part

pub only_kept : (good : Option Stood) (outs : List Outcome) (opened : ℕ) (held : Option (List ℕ)) (c : Crashes)
    → KeptIn (option_map (λ s. stood_after s outs) good) held → IfSome good (λ s. HasLasted s opened outs c) → (s : Stood)
    → option_map (λ s. stood_after s outs) good ≡ Some s → s.lost ≡ [] → IsOnly held c.leaves
only_kept None outs opened held c kept lasts s is none = absurd cc
only_kept (Some t) outs opened None c kept lasts s is none = tt
only_kept (Some t) outs opened (Some now) c kept lasts s is none =
    let here : stood_after t outs ≡ s = cc in
    let lost : (stood_after t outs).lost ≡ [] = ap (λ (u : Stood). u.lost) here ∙ none in
    λ y left. no_tail (stood_after t outs) y lost (lasts.stands y left) ∙ sym (no_tail (stood_after t outs) now lost kept)

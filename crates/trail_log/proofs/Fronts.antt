-- Logs that have a front of the codes of a history.
use Rattle.std.proofs.Common.{◌≡◌, ◌∙◌, ℕ, List, [], ◌∷◌, ◌++◌, Option, None, Some, Bool, true, false, take, drop, sym, ap, subst}
use Rattle.std.proofs.Common.{append_assoc, take-append-drop}
use Rattle.std.proofs.lemmas.List.{append_cancel_right}
use Rattle.std.proofs.lemmas.List.Concat.{flat_map-append}
use Rattle.std.specs.List.{flat_map}
use Rattle.std.specs.Io.KnownBytes.{Keeps, append_known}
use Rattle.scm_model.specs.Entries.{Entry}
use Rattle.step_code.specs.Codes.{code_of}
use Rattle.scm_trail.specs.Trailed.{Extends, LetsGoIf, Stays, Trailed}
use Rattle.scm_trail.proofs.Histories.{ends_more, ends_same}
use Rattle.trail_log.specs.Recording.{HasFront, LetsFrontGo, Stands}
use Rattle.trail_log.proofs.Logs.{ends_gone, one_goes, same_goes}

-- the same of what comes before in both
keeps_front : (was held : Option (List ℕ)) (xs rest : List ℕ) → Keeps (append_known was (xs ++ rest)) (append_known held rest)
    → Keeps (append_known was xs) held
keeps_front None held xs rest kept = tt
keeps_front (Some ws) None xs rest kept = absurd kept
keeps_front (Some ws) (Some hs) xs rest kept = append_cancel_right hs (ws ++ xs) rest (kept ∙ sym (append_assoc ws xs rest))

-- what a log tells is at each moment a front of the codes
pub front_of : (was held : Option (List ℕ)) (log : List Entry) (t : Trailed) (at : ℕ) → Stands was log t at held → HasFront was log t held
front_of was held log t at stands =
    let gone = flat_map code_of stands.ends.front in
    let here = flat_map code_of t.entries in
    let rest = drop at here in
    let front = gone ++ take at here in
    let is : flat_map code_of log ≡ front ++ rest =
    ap (flat_map code_of) stands.ends.is ∙ flat_map-append code_of stands.ends.front t.entries
    ∙ ap (λ bs. gone ++ bs) (sym (take-append-drop at here)) ∙ sym (append_assoc gone (take at here) rest) in record {
      ends = stands.ends;
      front = front;
      begins = (rest, sym is);
      told = keeps_front was held front rest
          (subst (λ bs. Keeps (append_known was bs) (append_known held rest)) is stands.logged);
    }

pub front_more : (was held : Option (List ℕ)) (log : List Entry) (old new : Trailed) (e : Entry) → HasFront was log old held
    → Extends old new e → HasFront was (log ++ e ∷ []) new held
front_more was held log old new e has more =
    let one = flat_map code_of (e ∷ []) in record {
      ends = ends_more old new log e has.ends more;
      front = has.front;
      begins = (
        has.begins.0 ++ one,
        sym (append_assoc has.front has.begins.0 one) ∙ ap (λ bs. bs ++ one) has.begins.1
            ∙ sym (flat_map-append code_of log (e ∷ [])),
      );
      told = has.told;
    }

pub front_same : (was held : Option (List ℕ)) (log : List Entry) (old new : Trailed) → HasFront was log old held → Stays old new
    → HasFront was log new held
front_same was held log old new has same = record {
  ends = ends_same old new log has.ends same;
  front = has.front;
  begins = has.begins;
  told = has.told;
}

pub goes_if : (went : Bool) (old new : Trailed) → LetsGoIf went old new → LetsFrontGo old new
goes_if true old new goes = one_goes old new goes
goes_if false old new goes = same_goes old new goes

-- a log that takes nothing more has what it has, whatever is let go
pub front_gone : (was held : Option (List ℕ)) (log : List Entry) (old new : Trailed) → HasFront was log old held → LetsFrontGo old new
    → HasFront was log new held
front_gone was held log old new has goes = record {
  ends = ends_gone old new log has.ends goes;
  front = has.front;
  begins = has.begins;
  told = has.told;
}

-- A history's entries in each mode of a recorder.
use Rattle.std.proofs.Common.{◌≡◌, ◌∙◌, ℕ, inl, inr, List, [], ◌∷◌, ◌++◌, Option, None, Some, false, refl, sym, ap, subst}
use Rattle.std.proofs.Common.{append-nil, arith}
use Rattle.std.specs.Io.KnownBytes.{Keeps, append_known}
use Rattle.scm_model.specs.Entries.{Entry}
use Rattle.std.proofs.KnownBytes.{Keeps-refl}
use Rattle.scm_trail.specs.Trailed.{Ends, Extends, Stays, Trailed, no_entries}
use Rattle.scm_trail.proofs.Histories.{ends_more, ends_none, ends_same}
use Rattle.trail_log.specs.declared.recorder.Mode.{Mode}
use Rattle.trail_log.specs.declared.recorder.Mode.TheVariants.{Kept, Logged, Dropped}
use Rattle.trail_log.specs.declared.recorder.Recorder.{Recorder}
use Rattle.trail_log.specs.Recording.{IsWithin, Stands}
use Rattle.trail_log.specs.Recorders.{IsLogged, LoggedAs, WaitsOrStops, is_recording}
use Rattle.trail_log.proofs.Fronts.{front_more, front_of, front_same}
use Rattle.trail_log.proofs.Logs.{stands_more, stands_same}

-- ## One entry more, or none

pub logged_more : (mode : Mode) (was held : Option (List ℕ)) (log : List Entry) (at : ℕ) (old new : Trailed) (e : Entry)
    → LoggedAs mode was log old at held → Extends old new e → LoggedAs mode was (log ++ e ∷ []) new at held
logged_more Kept was held log at old new e has more = record {
  ends = ends_more old new log e has.ends more;
  whole = more.past ∙ has.whole;
  untouched = has.untouched;
}
logged_more Logged was held log at old new e stands more = stands_more was held log at old new e stands more
logged_more Dropped was held log at old new e has more = front_more was held log old new e has more

pub logged_same : (mode : Mode) (was held : Option (List ℕ)) (log : List Entry) (at : ℕ) (old new : Trailed)
    → LoggedAs mode was log old at held → Stays old new → LoggedAs mode was log new at held
logged_same Kept was held log at old new has same = record {
  ends = ends_same old new log has.ends same;
  whole = same.past ∙ has.whole;
  untouched = has.untouched;
}
logged_same Logged was held log at old new stands same = stands_same was held log at old new stands same
logged_same Dropped was held log at old new has same = front_same was held log old new has same

pub logged_ends : (mode : Mode) (was held : Option (List ℕ)) (log : List Entry) (at : ℕ) (t : Trailed) → LoggedAs mode was log t at held
    → Ends t log
logged_ends Kept was held log at t has = has.ends
logged_ends Logged was held log at t stands = stands.ends
logged_ends Dropped was held log at t has = has.ends

pub logged_whole : (mode : Mode) (was held : Option (List ℕ)) (log : List Entry) (at : ℕ) (t : Trailed) → LoggedAs mode was log t at held
    → is_recording mode ≡ false → t.past ≡ 0
logged_whole Kept was held log at t has off = has.whole
logged_whole Logged was held log at t stands off = absurd cc
logged_whole Dropped was held log at t has off = absurd cc

pub logged_within : (mode : Mode) (was held : Option (List ℕ)) (log : List Entry) (at : ℕ) (t : Trailed) → LoggedAs mode was log t at held
    → mode ≡ Logged → IsWithin at t.parts
logged_within Kept was held log at t has is = absurd cc
logged_within Logged was held log at t stands is = stands.within
logged_within Dropped was held log at t has is = absurd cc

none_more : (held : Option (List ℕ)) → Keeps (append_known held []) held
none_more None = tt
none_more (Some xs) = sym (append-nil xs)

-- an empty trail before its first entry
pub logged_none : (mode : Mode) (held : Option (List ℕ)) → LoggedAs mode held [] no_entries 0 held
logged_none Kept held = record { ends = ends_none; whole = refl; untouched = Keeps-refl held }
logged_none Logged held = record {
  ends = ends_none;
  within = omega arith;
  fits = omega arith;
  logged = Keeps-refl (append_known held []);
}
logged_none Dropped held = record { ends = ends_none; front = []; begins = ([], refl); told = none_more held }

-- ## A log that fails

pub logged_failed : {T : Type 0} (tells : T → Option (List ℕ)) (was : Option (List ℕ)) (log : List Entry) (t : Trailed) (old new : Recorder T)
    → old.mode ≡ Logged → WaitsOrStops old new → Stands was log t old.at (tells old.sink) → IsLogged tells was log t new
logged_failed tells was log t old new mode (inl same) stands =
    subst (λ r. IsLogged tells was log t r) (sym same) (subst (λ m. LoggedAs m was log t old.at (tells old.sink)) (sym mode) stands)
logged_failed tells was log t old new mode (inr stops) stands =
    subst (λ r. IsLogged tells was log t r) (sym stops) (front_of was (tells old.sink) log t old.at stands)

pub mode_failed : {T : Type 0} (old new : Recorder T) → old.mode ≡ Logged → WaitsOrStops old new
    → is_recording new.mode ≡ is_recording old.mode
mode_failed old new mode (inl same) = ap (λ r. is_recording r.mode) same
mode_failed old new mode (inr stops) = ap (λ r. is_recording r.mode) stops ∙ sym (ap is_recording mode)

pub sink_failed : {T : Type 0} (old new : Recorder T) → WaitsOrStops old new → new.sink ≡ old.sink
sink_failed old new (inl same) = ap (λ r. r.sink) same
sink_failed old new (inr stops) = ap (λ r. r.sink) stops

-- The trail and the log at the end of the longer history.
use Rattle.std.proofs.Common.{◌≡◌, ◌∙◌, ℕ, All, List, [], ◌∷◌, ◌++◌, Option, false, append_assoc, sym, ap, subst}
use Rattle.std.proofs.lemmas.List.Elements.{All-append, All-cons, All-head, All-nil, All-same, All-tail}
use Rattle.scm_model.specs.Entries.{Entry}
use Rattle.scm_trail.specs.Segments.{IsCoded}
use Rattle.scm_trail.specs.Trailed.{Ends, Extends, Stays, Trailed, no_entries}
use Rattle.history_log.specs.Logged.{Logged as LogState}
use Rattle.trail_log.specs.declared.recorder.Mode.TheVariants.{Logged}
use Rattle.trail_log.specs.declared.recorder.Recorder.{Recorder}
use Rattle.trail_log.specs.Recorders.{LoggedAs, is_recording}
use Rattle.trail_log.specs.Recording.{IsWithin, LetsFrontGo}
use Rattle.trail_log.proofs.Recorders.{logged_ends, logged_more, logged_none, logged_same, logged_whole, logged_within}
use Rattle.scm_book.specs.Recording.{HasCodedFront, IsRecorded}

pub recorded_more : (was : Option (List ℕ)) (log : List Entry) (t t' : Trailed) (r r' : Recorder LogState) (e : Entry)
    → IsRecorded was log t r → Extends t t' e → r' ≡ r → IsRecorded was (log ++ e ∷ []) t' r'
recorded_more was log t t' r r' e has more same = subst (λ x. IsRecorded was (log ++ e ∷ []) t' x) (sym same)
    (logged_more r.mode was r.sink.held log r.at t t' e has more)

pub recorded_same : (was : Option (List ℕ)) (log : List Entry) (t t' : Trailed) (r r' : Recorder LogState)
    → IsRecorded was log t r → Stays t t' → r' ≡ r → IsRecorded was log t' r'
recorded_same was log t t' r r' has stays same = subst (λ x. IsRecorded was log t' x) (sym same)
    (logged_same r.mode was r.sink.held log r.at t t' has stays)

pub recorded_within : (was : Option (List ℕ)) (log : List Entry) (t : Trailed) (r : Recorder LogState) → IsRecorded was log t r
    → r.mode ≡ Logged → IsWithin r.at t.parts
recorded_within was log t r has is = logged_within r.mode was r.sink.held log r.at t has is

pub recorded_ends : (was : Option (List ℕ)) (log : List Entry) (t : Trailed) (r : Recorder LogState) → IsRecorded was log t r → Ends t log
recorded_ends was log t r has = logged_ends r.mode was r.sink.held log r.at t has

pub recorded_whole : (was : Option (List ℕ)) (log : List Entry) (t : Trailed) (r : Recorder LogState) → IsRecorded was log t r
    → is_recording r.mode ≡ false → t.past ≡ 0
recorded_whole was log t r has off = logged_whole r.mode was r.sink.held log r.at t has off

pub recorded_none : (t : Trailed) (r : Recorder LogState) → t ≡ no_entries → r.at ≡ 0 → IsRecorded r.sink.held [] t r
recorded_none t r none zero =
    subst (λ (x : Trailed). LoggedAs r.mode r.sink.held [] x r.at r.sink.held) (sym none)
    (subst (λ (n : ℕ). LoggedAs r.mode r.sink.held [] no_entries n r.sink.held) (sym zero) (logged_none r.mode r.sink.held))

-- ## What was let go has codes

pub coded_none : (t : Trailed) → t ≡ no_entries → HasCodedFront [] t
coded_none t none = record { front = []; is = sym (ap (λ (x : Trailed). x.entries) none); coded = All-nil IsCoded }

pub coded_more : (log : List Entry) (t t' : Trailed) (e : Entry) → HasCodedFront log t → Extends t t' e → HasCodedFront (log ++ e ∷ []) t'
coded_more log t t' e has more = record {
  front = has.front;
  is = ap (λ l. l ++ e ∷ []) has.is ∙ append_assoc has.front t.entries (e ∷ []) ∙ ap (λ l. has.front ++ l) (sym more.entries);
  coded = has.coded;
}

pub coded_same : (log : List Entry) (t t' : Trailed) → HasCodedFront log t → Stays t t' → HasCodedFront log t'
coded_same log t t' has same = record {
  front = has.front;
  is = has.is ∙ ap (λ l. has.front ++ l) (sym same.entries);
  coded = has.coded;
}

first_coded : (xs ys : List Entry) → All IsCoded (xs ++ ys) → All IsCoded xs
first_coded [] ys all = All-nil IsCoded
first_coded (x ∷ xs) ys all =
    All-cons IsCoded x xs (All-head IsCoded x (xs ++ ys) all) (first_coded xs ys (All-tail IsCoded x (xs ++ ys) all))

pub coded_gone : (log : List Entry) (t t' : Trailed) → HasCodedFront log t → LetsFrontGo t t' → All IsCoded t.entries
    → HasCodedFront log t'
coded_gone log t t' has goes all = record {
  front = has.front ++ goes.gone;
  is = has.is ∙ ap (λ l. has.front ++ l) goes.entries ∙ sym (append_assoc has.front goes.gone t'.entries);
  coded = All-append IsCoded has.front goes.gone has.coded
      (first_coded goes.gone t'.entries (subst (All IsCoded) goes.entries all));
}

pub coded_all : (log : List Entry) (t : Trailed) → HasCodedFront log t → All IsCoded t.entries → All IsCoded log
coded_all log t has all =
    All-same IsCoded log (has.front ++ t.entries) has.is (All-append IsCoded has.front t.entries has.coded all)

-- What stands of a journal, whatever stood before.
use Rattle.std.proofs.Common.{◌≡◌, ⊎_elim, inl, inr, ℕ, ◌+◌, Bool, true, false, List, [], ◌++◌, length, take, Option, None, Some, Ok, Err, refl, sym}
use Rattle.std.proofs.Common.{ap, ◌∙◌, subst, append-nil, length-append}
use Rattle.std.specs.Prelude.{IfSome, option_map}
use Rattle.std.proofs.Math.Seq.{take-append_seam}
use Rattle.outside.specs.Written.{Begins}
use Rattle.outside.specs.declared.Failed.{Failed}
use Rattle.record_journal.specs.Crashes.{AreCrashes, Crashes, Crashing, EachLeaves, HasAdded, IsOldOr}
use Rattle.record_journal.specs.declared.journal.Journal.{Journal}
use Rattle.record_journal.specs.Format.{piece}
use Rattle.scm_model.specs.declared.steps.Change.{Change}
use Rattle.record_journal.specs.Keepers.{IsEmptied}
use Rattle.record_journal.specs.Bearing.{Bears, BearsLost, BearsMore, Borne, IsKept, KeptIn, MovesOn, PartOf, Puts, Stands, StandsIn, Stood, Tail}
use Rattle.record_journal.specs.Bearing.{broken, journal_grown, kept_of, piece_after, stood_in, with_change, with_lost}
use Rattle.scm_model.specs.declared.steps.Form.{Form}
use Rattle.scm_model.specs.declared.steps.Form.TheVariants.{Second}
use Rattle.record_journal.proofs.Moving.{same_moment, weaker}

-- what is kept are the bytes that the journal keeps
kept_by : (s : Stood) (tail : List ℕ) (n : ℕ) (dirty : Bool) (form : Form) → n ≡ length s.bytes → (dirty ≡ false → tail ≡ [])
    → kept_of (record { good = n; dirty = dirty; form = form }) (s.bytes ++ tail) ≡ s.bytes
kept_by s tail n false form is clean = ap (λ (t : List ℕ). s.bytes ++ t) (clean refl) ∙ append-nil s.bytes
kept_by s tail n true form is clean = ap (λ (n : ℕ). take n (s.bytes ++ tail)) is ∙ take-append_seam s.bytes tail

pub kept : (s : Stood) (now : List ℕ) (j : Journal) → Borne s j now → kept_of j now ≡ s.bytes
kept s now j borne = ap (kept_of j) borne.kept.holds ∙ kept_by s borne.kept.tail j.good j.dirty j.form borne.long borne.clean

abbrev own_piece : Journal → Change → List ℕ
own_piece j change = piece j.good j.form change

same_piece : (s : Stood) (now : List ℕ) (j : Journal) (change : Change) → Borne s j now → own_piece j change ≡ piece_after s change
same_piece s now j change borne = ap (λ (n : ℕ). piece n j.form change) borne.long
    ∙ ap (λ (f : Form). piece (length s.bytes) f change) borne.form

-- behind a piece more stands nothing
added : (s : Stood) (bytes now : List ℕ) (j : Journal) (change : Change) → now ≡ kept_of j bytes ++ own_piece j change → Borne s j bytes
    → Borne (with_change s change) (journal_grown j (own_piece j change)) now
added s bytes now j change is borne =
    let more = piece_after s change in
    let same = same_piece s bytes j change borne in
    record {
      kept = record {
        tail = [];
        holds = is ∙ (ap (λ (front : List ℕ). front ++ own_piece j change) (kept s bytes j borne)
            ∙ (ap (λ (piece : List ℕ). s.bytes ++ piece) same ∙ sym (append-nil (s.bytes ++ more))));
        part = inl refl;
      };
      clean = λ is. refl;
      long = ap (λ (n : ℕ). n + length (own_piece j change)) borne.long
          ∙ (ap (λ (piece : List ℕ). length s.bytes + length piece) same ∙ sym (length-append s.bytes more));
      form = refl;
    }

pub more : (change : Change) (j : Journal) (told told' : Option (List ℕ))
    → Puts {E = Failed} (piece j.good j.form change) j told told' (Ok tt)
    → BearsMore change j told (journal_grown j (piece j.good j.form change)) told'
unfolding BearsMore
more change j told told' puts None bears = tt
more change j (Some bytes) (Some now) puts (Some s) bears = added s bytes now j change puts bears
more change j None told' puts (Some s) bears = absurd bears
more change j (Some bytes) None puts (Some s) bears = absurd puts

-- a tail is one still when another append failed
pub tail_more : (s : Stood) (tail : List ℕ) (change : Change) → Tail s tail → Tail (with_lost s change) tail
tail_more s tail change = ⊎_elim (λ (none : tail ≡ []). inl none)
    (λ (part : PartOf s tail). inr (record { change = part.change; lost = inr part.lost; begins = part.begins }))

pub kept_more : (s : Stood) (x : List ℕ) (change : Change) → IsKept s x → IsKept (with_lost s change) x
kept_more s x change is = record { tail = is.tail; holds = is.holds; part = tail_more s is.tail change is.part }

left : (s : Stood) (bytes now : List ℕ) (j : Journal) (change : Change) → now ≡ bytes → Borne s j bytes
    → Borne (with_lost s change) (broken j) now
left s bytes now j change is borne = record {
  kept = record {
    tail = borne.kept.tail;
    holds = is ∙ borne.kept.holds;
    part = tail_more s borne.kept.tail change borne.kept.part;
  };
  clean = λ is. absurd cc;
  long = borne.long;
  form = borne.form;
}

-- a front of the piece stands behind what is kept
pub part_more : (s : Stood) (now front : List ℕ) (change : Change) → Begins front (piece_after s change) → now ≡ s.bytes ++ front
    → IsKept (with_lost s change) now
part_more s now front change begins is = record {
  tail = front;
  holds = is;
  part = inr (record { change = change; lost = inl refl; begins = begins });
}

own_part : (s : Stood) (bytes now front : List ℕ) (j : Journal) (change : Change) → Begins front (own_piece j change)
    → now ≡ kept_of j bytes ++ front → Borne s j bytes → IsKept (with_lost s change) now
own_part s bytes now front j change begins is borne = part_more s now front change
    (subst (λ (piece : List ℕ). Begins front piece) (same_piece s bytes j change borne) begins)
    (is ∙ ap (λ (kept : List ℕ). kept ++ front) (kept s bytes j borne))

part_left : (s : Stood) (bytes now front : List ℕ) (j : Journal) (change : Change) → Begins front (own_piece j change)
    → now ≡ kept_of j bytes ++ front → Borne s j bytes → Borne (with_lost s change) (broken j) now
part_left s bytes now front j change begins is borne = record {
  kept = own_part s bytes now front j change begins is borne;
  clean = λ is. absurd cc;
  long = borne.long;
  form = borne.form;
}

pub lost : (change : Change) (j : Journal) (told told' : Option (List ℕ)) (fault : Failed)
    → Puts (piece j.good j.form change) j told told' (Err fault)
    → BearsLost change j told (broken j) told'
unfolding BearsLost
lost change j told told' fault puts None bears = tt
lost change j (Some bytes) (Some now) fault puts (Some s) bears = ⊎_elim
    (λ (is : now ≡ bytes). left s bytes now j change is bears)
    (λ (p : (front : List ℕ) × Begins front (own_piece j change) × (now ≡ kept_of j bytes ++ front)).
    part_left s bytes now p.0 j change p.1 p.2 bears)
    puts
lost change j None told' fault puts (Some s) bears = absurd bears
lost change j (Some bytes) None fault puts (Some s) bears = absurd puts

-- ## At each moment of an append

moves_from : (change : Change) (j : Journal) (s : Stood) (bytes : List ℕ) (old new : Crashes) → Borne s j bytes → Stands s old
    → EachLeaves (IsOldOr old (HasAdded (own_piece j change) (kept_of j bytes))) old new
    → EachLeaves (IsKept (with_lost s change)) old new
moves_from change j s bytes old new borne stands goes =
    weaker (IsOldOr old (HasAdded (own_piece j change) (kept_of j bytes))) (IsKept (with_lost s change)) old new goes
    (λ y. ⊎_elim (λ (was : old.leaves y). kept_more s y change (stands y was))
    (λ (p : HasAdded (own_piece j change) (kept_of j bytes) y). own_part s bytes y p.0 j change p.1 p.2 borne))

pub moves : (change : Change) (j : Journal) (told : Option (List ℕ)) (old new : Crashes)
    → Crashing (λ x. HasAdded (piece j.good j.form change) (kept_of j x)) told old new
    → MovesOn change j told old new
unfolding MovesOn
moves change j (Some bytes) old new goes s bears stands = moves_from change j s bytes old new bears stands (goes bytes refl)
moves change j None old new goes s bears stands = absurd bears

pub moves_none : (change : Change) (j : Journal) (told : Option (List ℕ)) (c : Crashes) → MovesOn change j told c c
unfolding MovesOn
moves_none change j told c s bears stands =
    same_moment (IsKept (with_lost s change)) c (λ y here. kept_more s y change (stands y here))

-- ## For those that cite it

pub bears_more : (change : Change) (j j' : Journal) (told told' : Option (List ℕ)) → BearsMore change j told j' told' → (s : Option Stood)
    → Bears s j told → Bears (option_map (λ s. with_change s change) s) j' told'
unfolding BearsMore
bears_more change j j' told told' more s bears = more s bears

pub bears_lost : (change : Change) (j j' : Journal) (told told' : Option (List ℕ)) → BearsLost change j told j' told' → (s : Option Stood)
    → Bears s j told → Bears (option_map (λ s. with_lost s change) s) j' told'
unfolding BearsLost
bears_lost change j j' told told' lost s bears = lost s bears

pub moves_on : (change : Change) (j : Journal) (told : Option (List ℕ)) (old new : Crashes) → MovesOn change j told old new → (s : Stood)
    → Bears (Some s) j told → Stands s old → EachLeaves (IsKept (with_lost s change)) old new
unfolding MovesOn
moves_on change j told old new moves s bears stands = moves s bears stands

-- a settled keeper that bears something leaves just that
pub settled_stands : (s : Stood) (j : Journal) (held : Option (List ℕ)) (settled : Type 0) (c : Crashes) → AreCrashes held c settled
    → settled → Bears (Some s) j held → Stands s c
settled_stands s j None settled c law so bears = absurd bears
settled_stands s j (Some now) settled c law so bears = λ y left.
    subst (λ (z : List ℕ). IsKept s z) (sym (law.only_held so now y refl left)) bears.kept

-- so does one that holds a whole journal
pub settled_in : (form : Form) (held : Option (List ℕ)) (settled : Type 0) (c : Crashes) → AreCrashes held c settled → settled
    → StandsIn (stood_in form held) c
settled_in form None settled c law so = tt
settled_in form (Some now) settled c law so = λ y left. record {
  tail = [];
  holds = law.only_held so now y refl left ∙ sym (append-nil now);
  part = inl refl;
}

pub closed : (s : Option Stood) (j : Journal) (told : Option (List ℕ)) → Bears s j told → KeptIn s told
closed None j told bears = tt
closed (Some s) j None bears = bears
closed (Some s) j (Some now) bears = bears.kept

-- all that stands is kept
all_kept : (now : List ℕ) (good : ℕ) (form : Form) → good ≡ length now
    → Borne (record { bytes = now; form = form; lost = [] }) (record { good = good; dirty = false; form = form }) now
all_kept now good form all = record {
  kept = record { tail = []; holds = sym (append-nil now); part = inl refl };
  clean = λ is. refl;
  long = all;
  form = refl;
}

-- a keeper that was opened without a path bears the journal of nothing
pub bears_empty : (old told : Option (List ℕ)) → IsEmptied old told
    → Bears (stood_in Second told) (record { good = 0; dirty = false; form = Second }) told
bears_empty old (Some now) is = all_kept now 0 Second (sym (ap (λ (bytes : List ℕ). length bytes) is))
bears_empty old None is = tt

-- a journal whose bytes all are kept
pub bears_all : (told : Option (List ℕ)) (good : ℕ) (form : Form) → IfSome told (λ bytes. good ≡ length bytes)
    → Bears (stood_in form told) (record { good = good; dirty = false; form = form }) told
bears_all None good form all = tt
bears_all (Some now) good form all = all_kept now good form all

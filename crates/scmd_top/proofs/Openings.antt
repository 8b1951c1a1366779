-- The opening of a run, and what is said where there is none.
use Rattle.std.proofs.Common.{ℕ, ◌≡◌, ◌≢◌, ◌≤◌, ◌∙◌, ◌⊎◌, Bool, true, false, inl, inr, refl, sym, ap, subst, List, [], ◌∷◌}
use Rattle.std.proofs.Common.{take, Option, None, Some, Result, Ok, Err, arith}
use Rattle.std.specs.Prelude.{IfOk, IfSome, IsErrOf, OnOk, is_some}
use Rattle.std.specs.Io.KnownBytes.{Keeps}
use Rattle.outside.specs.Causes.{Rose}
use Rattle.scm_model.specs.declared.flat.Config.{Config}
use Rattle.scm_model.specs.declared.flat.Flat.{Flat}
use Rattle.scm_model.specs.declared.flat.Limits.{Limits}
use Rattle.scm_model.specs.declared.steps.Form.TheVariants.{Second}
use Rattle.scm_core.specs.Managed.{AreSmall, Managed}
use Rattle.scm_core.proofs.Opened.{opens_with_nothing}
use Rattle.scm_rules.specs.Opening.{CanOpen, IsOpening, opening}
use Rattle.scm_kept.specs.Replayed.{unmarked}
use Rattle.scm_kept.proofs.Opened.{of_opening}
use Rattle.record_journal.specs.Bearing.{Bears, stood_in}
use Rattle.record_journal.specs.Keepers.{IsEmptied, Settles}
use Rattle.record_journal.specs.Opening.{Restores, LeavesAt, LeavesAll}
use Rattle.record_journal.proofs.Standing.{bears_empty}
use Rattle.record_journal.specs.declared.journal.Journal.{Journal}
use Rattle.record_journal.specs.declared.opening.JournalFault.{JournalFault}
use Rattle.record_journal.specs.declared.opening.JournalFault.TheVariants as faults
use Rattle.record_journal.specs.declared.opening.Restored.{Restored}
use Rattle.record_journal.specs.declared.replaying.Replay.{Replay}
use Rattle.scm_restored.specs.Restored.{Comes, IsUnmoved, Manages}
use Rattle.scm_restored.specs.declared.Opened.{Opened}
use Rattle.opening_lines.specs.declared.opening.Opening.{Opening as Beginning}
use Rattle.scmd_top.specs.Opening.{FailsToOpen, HasBegun, HasOpened, IsCut, IsDamaged, IsNew, IsOpenable, IsRead, IsUnopened}
use Rattle.scmd_top.specs.Opening.{LeavesSettled, OpensJournal, OpensSettled, beginning_if, beginning_of, program_opening, status_of_fault}
use Rattle.trail_text.specs.Histories.{AreAuditable}
use Rattle.scmd_top.specs.Sides.{Side}
use Rattle.scmd_top.specs.Statuses.{program_limits}

-- ## The limits

pub small_limits : AreSmall program_limits
small_limits = search arith

pub auditable_limits : AreAuditable program_limits
auditable_limits = search arith

pub small : (m : Managed) → m.limits ≡ program_limits → AreSmall m.limits
small m e = subst AreSmall (sym e) small_limits

pub has_place : (m : Managed) → m.limits ≡ program_limits → 1 ≤ m.limits.callers
has_place m e = subst (λ (l : Limits). 1 ≤ l.callers) (sym e) (omega arith)

pub has_room : (m : Managed) → m.limits ≡ program_limits → 2 ≤ m.limits.steps
has_room m e = subst (λ (l : Limits). 2 ≤ l.steps) (sym e) (omega arith)

-- ## Without a path

abbrev empty_journal : Journal
empty_journal = record { good = 0; dirty = false; form = Second }

nothing_taken : (bytes : List ℕ) → [] ≡ take 0 bytes
nothing_taken [] = refl
nothing_taken (b ∷ bytes) = refl

emptied_cut : (old now : Option (List ℕ)) → IsEmptied old now → IsCut 0 old now
emptied_cut None now e = tt
emptied_cut (Some bytes) None e = absurd cc
emptied_cut (Some bytes) (Some now) e = ap Some (e ∙ nothing_taken bytes)

begins_empty : (m : Managed) (groups : List (List ℕ)) (moment : ℕ) → IsNew groups [] moment m → IsOpening m.limits m.flat
begins_empty m groups moment new =
    subst (λ (l : Limits). IsOpening l m.flat) (sym new.limits)
    (record { groups = groups; configs = []; moment = moment; can = opens_with_nothing program_limits; is = new.flat })

pub opens_empty_at : (keeper : Side) (groups : List (List ℕ)) (moment : ℕ) (m : Managed) (j : Journal) (copy : Option (List Config))
    → j ≡ empty_journal → IsEmptied keeper.told keeper.told_now → keeper.faults_now ≡ keeper.faults → IsNew groups [] moment m
    → IfSome copy (λ configs. configs ≡ [])
    → OpensJournal false groups keeper moment (Ok (record { manager = m; journal = j; configs = copy }))
opens_empty_at keeper groups moment m j copy is e same new copied = record {
  replay = record { configs = []; kept = 0; form = Second };
  read = refl;
  new = new;
  begins = begins_empty m groups moment new;
  cut = emptied_cut keeper.told keeper.told_now e;
  emptied = e;
  copied = copied;
  form = ap (λ (x : Journal). x.form) is;
  bears = subst (λ (x : Journal). Bears (stood_in x.form keeper.told_now) x keeper.told_now) (sym is)
      (bears_empty keeper.told keeper.told_now e);
  faults = same;
}

-- ## Over what stands under a path

cut_so : (old now : Option (List ℕ)) (r : Restored) → LeavesAll old now (Ok r) → IsCut r.journal.good old now
cut_so None now r h = tt
cut_so (Some bytes) None r h = absurd h
cut_so (Some bytes) (Some now) r h = ap Some h

left_cut : (old now : Option (List ℕ)) (r : Restored) → IfSome old (λ bytes. Restores bytes (Ok r)) → LeavesAll old now (Ok r)
    → LeavesAll old now (Err faults.Failed)
left_cut None now r a h = tt
left_cut (Some bytes) None r a h = absurd h
left_cut (Some bytes) (Some now) r a h = inr (record { configs = r.configs; kept = r.journal.good; form = r.journal.form }, a, h)

left_so : (old now : Option (List ℕ)) → LeavesAll old now (Err faults.OutOfMemory) → LeavesAll old now (Err faults.Failed)
left_so None now h = tt
left_so (Some bytes) None h = absurd h
left_so (Some bytes) (Some now) h = inl h

keeps_so : (old now : Option (List ℕ)) (place : ℕ) → LeavesAll old now (Err (faults.Damaged place)) → Keeps old now
keeps_so None now place h = tt
keeps_so (Some bytes) None place h = absurd h
keeps_so (Some bytes) (Some now) place h = h

opened_so : (keeper : Side) (groups : List (List ℕ)) (moment : ℕ) (o : Opened) (restored : Result Restored JournalFault)
    → IfSome keeper.told (λ bytes. Restores bytes restored)
    → LeavesAt true keeper.told keeper.told_now restored → Manages program_limits groups moment restored (Ok o)
    → IsOpening program_limits o.manager.flat
    → IsUnmoved program_limits o.manager → Bears (stood_in o.journal.form keeper.told_now) o.journal keeper.told_now
    → keeper.faults_now ≡ keeper.faults
    → HasOpened true groups keeper moment o
opened_so keeper groups moment o (Err fault) a l m begins u b same = absurd m
opened_so keeper groups moment o (Ok r) a l m begins u b same = record {
  replay = record { configs = r.configs; kept = r.journal.good; form = r.journal.form };
  read = a;
  new = record { flat = m.0; limits = u.limits_are; steps = u.steps; text = u.text };
  begins = subst (λ (l : Limits). IsOpening l o.manager.flat) (sym u.limits_are) begins;
  cut = cut_so keeper.told keeper.told_now r l;
  emptied = tt;
  copied = m.2;
  form = ap (λ (x : Journal). x.form) m.1;
  bears = b;
  faults = same;
}

unopened_as : (keeper : Side) (fault : JournalFault) → IfSome keeper.told (λ bytes. Restores bytes (Err fault))
    → LeavesAll keeper.told keeper.told_now (Err fault)
    → (fault ≡ faults.Failed → Rose keeper.faults keeper.faults_now) → IsUnopened true keeper fault
unopened_as keeper faults.Failed a l c = (l, c refl)
unopened_as keeper faults.OutOfMemory a l c = left_so keeper.told keeper.told_now l
unopened_as keeper (faults.Damaged place) a l c = (a, keeps_so keeper.told keeper.told_now place l)

unopened_so : (keeper : Side) (groups : List (List ℕ)) (moment : ℕ) (fault : JournalFault) (restored : Result Restored JournalFault)
    → IfSome keeper.told (λ bytes. Restores bytes restored)
    → LeavesAt true keeper.told keeper.told_now restored → Manages program_limits groups moment restored (Err fault)
    → (fault ≡ faults.Failed → Rose keeper.faults keeper.faults_now) → IsUnopened true keeper fault
unopened_so keeper groups moment fault (Err told) a l m c =
    subst (IsUnopened true keeper) (sym m) (unopened_as keeper told a l (λ e. c (m ∙ e)))
unopened_so keeper groups moment faults.OutOfMemory (Ok r) a l m c = left_cut keeper.told keeper.told_now r a l
unopened_so keeper groups moment faults.Failed (Ok r) a l m c = absurd m
unopened_so keeper groups moment (faults.Damaged place) (Ok r) a l m c = absurd m

pub opens_so : (keeper : Side) (groups : List (List ℕ)) (moment : ℕ) (result : Result Opened JournalFault)
    → Comes program_limits groups moment true keeper.told keeper.told_now result
    → IfOk result (λ o. IsOpening program_limits o.manager.flat) → IfOk result (λ o. IsUnmoved program_limits o.manager)
    → IfOk result (λ o. Bears (stood_in o.journal.form keeper.told_now) o.journal keeper.told_now)
    → (IsErrOf result faults.Failed → Rose keeper.faults keeper.faults_now)
    → OnOk result (keeper.faults_now ≡ keeper.faults) → OpensJournal true groups keeper moment result
opens_so keeper groups moment (Ok o) h begins u b c same = opened_so keeper groups moment o h.restored h.answer h.leaves h.manages begins u
    b same
opens_so keeper groups moment (Err fault) h begins u b c same = unopened_so keeper groups moment fault h.restored h.answer h.leaves
    h.manages (λ e. c (ap Err e))

-- ## What can be opened

-- the configurations of an opening state are some that a manager can begin with
can_open : (l : Limits) (groups : List (List ℕ)) (configs : List Config) (moment : ℕ) → IsOpening l (opening l groups configs moment)
    → CanOpen l configs
can_open l groups configs moment begins =
    let there : unmarked (opening l begins.groups begins.configs begins.moment).services ≡ begins.configs =
    of_opening l begins.groups begins.configs begins.moment in
    let here : unmarked (opening l groups configs moment).services ≡ configs = of_opening l groups configs moment in
    let both : unmarked (opening l groups configs moment).services
    ≡ unmarked (opening l begins.groups begins.configs begins.moment).services =
    ap (λ (f : Flat). unmarked f.services) begins.is in
    subst (CanOpen l) (sym there ∙ (sym both ∙ here)) begins.can

-- a manager began with what stood under the path
pub openable : (path : Bool) (groups : List (List ℕ)) (keeper : Side) (moment : ℕ) (o : Opened)
    (h : HasOpened path groups keeper moment o) → IsOpenable path keeper.told h.replay
openable path groups keeper moment o h = record {
  read = h.read;
  can = can_open program_limits groups h.replay.configs moment
      (subst (λ (l : Limits). IsOpening l (program_opening groups h.replay.configs moment)) h.new.limits
      (subst (λ (f : Flat). IsOpening o.manager.limits f) h.new.flat h.begins));
}

-- there was no memory for the groups: all is left as it was
left_untouched : (told : Option (List ℕ)) → LeavesAll told told (Err faults.Failed)
left_untouched None = tt
left_untouched (Some bytes) = inl refl

pub untouched_so : (keeper : Side) (groups : List (List ℕ)) (moment : ℕ) → keeper.told_now ≡ keeper.told
    → OpensJournal true groups keeper moment (Err faults.OutOfMemory)
untouched_so keeper groups moment same = subst (λ (now : Option (List ℕ)). LeavesAll keeper.told now (Err faults.Failed)) (sym same)
    (left_untouched keeper.told)

-- ## What is told of an opening

-- what an opening left is what is left where there is no memory for more
cut_left : (told now : Option (List ℕ)) (replay : Replay) → IsRead true told replay → IsCut replay.kept told now
    → LeavesAll told now (Err faults.Failed)
cut_left None now replay read cut = tt
cut_left (Some bytes) None replay read cut = absurd cc
cut_left (Some bytes) (Some now) replay read cut =
    let same : now ≡ take replay.kept bytes = cc in
    inr (replay, read, same)

pub lacks_more : (path : Bool) (groups : List (List ℕ)) (keeper : Side) (moment : ℕ) (o : Opened) → HasOpened path groups keeper moment o
    → IsUnopened path keeper faults.OutOfMemory
lacks_more false groups keeper moment o h = h.emptied
lacks_more true groups keeper moment o h = cut_left keeper.told keeper.told_now h.replay h.read h.cut

beginning_so : (groups : List (List ℕ)) (copy : Option (List Config)) (configs : List Config) (moment : ℕ) (export : Bool)
    → is_some copy ≡ export → IfSome copy (λ c. c ≡ configs) → beginning_of groups copy moment ≡ beginning_if export groups configs moment
beginning_so groups None configs moment export is same = ap (λ (b : Bool). beginning_if b groups configs moment) is
beginning_so groups (Some copy) configs moment export is same =
    ap (λ (cs : List Config). beginning_of groups (Some cs) moment) same
    ∙ ap (λ (b : Bool). beginning_if b groups configs moment) is

pub has_begun : (export path : Bool) (groups : List (List ℕ)) (keeper : Side) (moment : ℕ) (o : Opened) (begun : Option Beginning)
    → HasOpened path groups keeper moment o → is_some o.configs ≡ export → begun ≡ beginning_of groups o.configs moment
    → HasBegun export path groups keeper moment (record { manager = o.manager; journal = o.journal; opening = begun })
has_begun export path groups keeper moment o begun h is e = record {
  opened = record {
    replay = h.replay;
    read = h.read;
    new = h.new;
    begins = h.begins;
    cut = h.cut;
    emptied = h.emptied;
    copied = tt;
    form = h.form;
    bears = h.bears;
    faults = h.faults;
  };
  known = e ∙ beginning_so groups o.configs h.replay.configs moment export is h.copied;
}

-- ## A run without one

damaged_so : (told : Option (List ℕ)) (place : ℕ) → IfSome told (λ bytes. Restores bytes (Err (faults.Damaged place))) → IsDamaged true told
damaged_so None place h = tt
damaged_so (Some bytes) place h = (place, h)

-- memory ran out, or the journal was not opened
pub fails : (path : Bool) (keeper : Side) (fault : JournalFault) → IsUnopened path keeper fault
    → (status_of_fault fault ≡ 8) ⊎ FailsToOpen path keeper (status_of_fault fault)
fails false keeper faults.Failed h = inr (inl (refl, h.1))
fails true keeper faults.Failed h = inr (inl (refl, h.1))
fails path keeper faults.OutOfMemory h = inl refl
fails false keeper (faults.Damaged place) h = absurd h
fails true keeper (faults.Damaged place) h = inr (inr (refl, damaged_so keeper.told place h.0))

pub not_of_fault : (fault : JournalFault) → status_of_fault fault ≢ 5
not_of_fault faults.Failed = λ e. cc
not_of_fault (faults.Damaged place) = λ e. cc
not_of_fault faults.OutOfMemory = λ e. cc

pub not_9 : (fault : JournalFault) → status_of_fault fault ≢ 9
not_9 faults.Failed = λ e. cc
not_9 (faults.Damaged place) = λ e. cc
not_9 faults.OutOfMemory = λ e. cc

-- ## What is settled

-- a keeper that was opened, whatever was answered
pub opens_settled : {T : Type 0} (old : Type 0) (before now : ℕ) (result : Result T JournalFault) (settled : Type 0)
    → Settles before now result settled → OpensSettled old before now result settled
opens_settled old before now (Ok opened) settled is = is
opens_settled old before now (Err faults.Failed) settled is = is
opens_settled old before now (Err faults.OutOfMemory) settled is = λ was. is
opens_settled old before now (Err (faults.Damaged place)) settled is = is

-- there is no manager
pub unopened_settled : (old : Type 0) (before now : ℕ) (fault : JournalFault) (settled : Type 0)
    → OpensSettled {T = Opened} old before now (Err fault) settled → LeavesSettled old before now (status_of_fault fault) settled
unopened_settled old before now faults.Failed settled is = λ was. is
unopened_settled old before now faults.OutOfMemory settled is = λ was. is (was refl)
unopened_settled old before now (faults.Damaged place) settled is = λ was. is

-- Reading a journal, an entry at a time.
use Rattle.std.proofs.Common.{ℕ, suc, ◌≡◌, ◌∙◌, ◌<◌, ◌≤◌, ◌-◌, ◌+◌, Bool, true, false, cond, List, [], Option, None, Some, Ok, Err, length}
use Rattle.std.proofs.Common.{refl, sym, ap, subst, arith, Bor}
use Rattle.std.proofs.Common.{drop, eqb, take}
use Rattle.std.proofs.Math.Seq.{take-length}
use Rattle.std.proofs.lemmas.List.{length-drop}
use Rattle.std.specs.List.{starts_with}
use Rattle.std.specs.Prelude.{IfOk, Result, option_and_then}
use Rattle.scm_model.specs.declared.flat.Config.{Config}
use Rattle.scm_model.specs.declared.steps.Change.{Change}
use Rattle.record_journal.specs.Entries.{Entries, Goes, IsSaid, Reader, Whole, after_said, all_from, can_replay, entries}
use Rattle.record_journal.specs.Entries.{entries_from, first_of, followed, form_after, is_part_header, is_unfinished, last_of, none_more}
use Rattle.record_journal.specs.Entries.{read_journal}
use Rattle.record_journal.specs.Entries.{read_next, replay_of, replayable, said_in, whole_entry, with_said}
use Rattle.record_journal.specs.Format.{header, header_of}
use Rattle.record_journal.specs.Opening.{CanBegin, ReadAs}
use Rattle.record_journal.specs.Replay.{after_change}
use Rattle.scm_model.specs.declared.steps.Form.{Form}
use Rattle.scm_model.specs.declared.steps.Form.TheVariants.{First, Second}
use Rattle.record_journal.specs.declared.opening.JournalFault.{JournalFault}
use Rattle.record_journal.specs.declared.reading.Said.{Said}
use Rattle.record_journal.specs.declared.reading.Said.TheVariants.{Says, Turns}
use Rattle.record_journal.specs.declared.replaying.Next.{Next}
use Rattle.record_journal.specs.declared.replaying.Next.TheVariants as nexts
use Rattle.record_journal.specs.declared.replaying.Replay.{Replay}

-- ## An entry

pub said_done : (form : Form) (old new : List Config) (change : Change) → can_replay old change ≡ true → new ≡ after_change old change
    → IsSaid form old (replayable old (Says change)) new (Some form)
said_done form old new change can done = (Says change, ap (λ b. cond b (Some (Says change)) None) can, done, refl)

pub said_undone : (form : Form) (old new : List Config) (change : Change) → can_replay old change ≡ false
    → IsSaid form old (replayable old (Says change)) new None
said_undone form old new change cannot = ap (λ b. cond b (Some (Says change)) None) cannot

pub said_turn : (form : Form) (old : List Config) → IsSaid form old (replayable old Turns) old (Some Second)
said_turn form old = (Turns, refl, refl, refl)

-- what is read behind an entry is read over what the entry makes
one_more : (size : ℕ) (old : List Config) (said : Said) (read : Result Entries ℕ)
    → replay_of size old (with_said said read) ≡ replay_of size (after_said old said) read
one_more size old (Says change) (Ok entries) = refl
one_more size old (Says change) (Err left) = refl
one_more size old Turns read = refl

pub goes_on : (form : Form) (old new : List Config) (bytes : List ℕ) (whole : Whole) (after : Form) (rest : Bor (List ℕ))
    → whole_entry bytes ≡ Some whole
    → IsSaid form old (option_and_then (replayable old) (said_in form whole.kind whole.body)) new (Some after)
    → rest.now ≡ whole.rest → Goes form old bytes new (nexts.Rest after rest)
goes_on form old new bytes whole after rest is done same size later =
    ap (λ (o : Option Whole). replay_of size old (first_of later form old bytes o)) is
    ∙ ap (λ (o : Option Said). replay_of size old (followed later form old (length bytes) whole.rest o)) done.1
    ∙ one_more size old done.0 (later (form_after form done.0) (after_said old done.0) whole.rest)
    ∙ ap (λ (configs : List Config). replay_of size configs (later (form_after form done.0) configs whole.rest)) (sym done.2)
    ∙ ap (λ (f : Form). replay_of size new (later f new whole.rest)) (sym done.3)
    ∙ ap (λ (xs : List ℕ). replay_of size new (later after new xs)) (sym same)

pub is_damaged : (form : Form) (old new : List Config) (bytes : List ℕ) (whole : Whole) → whole_entry bytes ≡ Some whole
    → option_and_then (replayable old) (said_in form whole.kind whole.body) ≡ None → Goes form old bytes new nexts.Damaged
is_damaged form old new bytes whole is none size later =
    ap (λ (o : Option Whole). replay_of size old (first_of later form old bytes o)) is
    ∙ ap (λ (o : Option Said). replay_of size old (followed later form old (length bytes) whole.rest o)) none

ended_so : (size left : ℕ) (later : Reader) (form : Form) (old : List Config) (b : Bool)
    → replay_of size old (last_of form left b) ≡ read_next size left later form old (cond b nexts.Unfinished nexts.Damaged)
ended_so size left later form old true = refl
ended_so size left later form old false = refl

pub ends_before : (form : Form) (old : List Config) (bytes : List ℕ) (next : Next) → whole_entry bytes ≡ None
    → next ≡ cond (is_unfinished form bytes) nexts.Unfinished nexts.Damaged → Goes form old bytes old next
ends_before form old bytes next none is size later =
    ap (λ (o : Option Whole). replay_of size old (first_of later form old bytes o)) none
    ∙ ended_so size (length bytes) later form old (is_unfinished form bytes)
    ∙ ap (read_next size (length bytes) later form old) (sym is)

-- ## Entry after entry

abbrev Left : ℕ → ℕ → ℕ → Form → List Config → List ℕ → Result Replay ℕ
Left size count i form configs bytes = replay_of size configs (entries_from (count - i) form configs bytes)

-- an entry was looked at, in a turn that is within the count
looked : (size count i : ℕ) (form : Form) (old new : List Config) (bytes : List ℕ) (next : Next) → i < count → Goes form old bytes new next
    → Left size count i form old bytes ≡ read_next size (length bytes) (entries_from (count - (i + 1))) form new next
unfolding entries_from
looked size count i form old new bytes next lt goes =
    let k : count - i ≡ suc (count - (i + 1)) = omega (arith, lt) in
    ap (λ n. replay_of size old (entries_from n form old bytes)) k ∙ goes size (entries_from (count - (i + 1)))

pub starts : (size : ℕ) (form : Form) (configs : List Config) (bytes : List ℕ) → Left size (length bytes) 0 form configs bytes
    ≡ replay_of size configs (all_from form configs bytes)
starts size form configs bytes = ap (λ n. replay_of size configs (entries_from n form configs bytes)) (omega arith)

pub goes_behind : (size count i : ℕ) (form : Form) (old new : List Config) (bytes : List ℕ) (next : Next) (after : Form)
    (rest : Bor (List ℕ)) (all : Result Replay ℕ)
    → next ≡ nexts.Rest after rest → i < count → Goes form old bytes new next
    → Left size count i form old bytes ≡ all → Left size count (i + 1) after new rest.now ≡ all
goes_behind size count i form old new bytes next after rest all is lt goes so_far =
    sym (ap (read_next size (length bytes) (entries_from (count - (i + 1))) form new) is)
    ∙ sym (looked size count i form old new bytes next lt goes)
    ∙ so_far

pub ends_here : (size count i : ℕ) (form : Form) (old new : List Config) (bytes : List ℕ) (next : Next) (all : Result Replay ℕ)
    → next ≡ nexts.Unfinished → i < count → Goes form old bytes new next → Left size count i form old bytes ≡ all
    → all ≡ Ok (record { configs = new; kept = size - length bytes; form = form })
ends_here size count i form old new bytes next all is lt goes so_far =
    sym so_far ∙ looked size count i form old new bytes next lt goes
    ∙ ap (read_next size (length bytes) (entries_from (count - (i + 1))) form new) is

pub damaged_here : (size count i : ℕ) (form : Form) (old new : List Config) (bytes : List ℕ) (next : Next) (all : Result Replay ℕ)
    → next ≡ nexts.Damaged → i < count → Goes form old bytes new next → Left size count i form old bytes ≡ all
    → all ≡ Err (size - length bytes)
damaged_here size count i form old new bytes next all is lt goes so_far =
    sym so_far ∙ looked size count i form old new bytes next lt goes
    ∙ ap (read_next size (length bytes) (entries_from (count - (i + 1))) form new) is

pub none_left : (size count i : ℕ) (form : Form) (configs : List Config) (bytes : List ℕ) (all : Result Replay ℕ) → count ≤ i
    → Left size count i form configs bytes ≡ all → all ≡ Ok (record { configs = configs; kept = size - length bytes; form = form })
unfolding entries_from
none_left size count i form configs bytes all le so_far =
    let k : count - i ≡ 0 = omega (arith, le) in
    sym so_far ∙ ap (λ n. replay_of size configs (entries_from n form configs bytes)) k

-- what is read of the configurations that are taken out at the end
pub same_reads : (result : Result Replay JournalFault) (all read : Result Replay ℕ) → all ≡ read → ReadAs result read → ReadAs result all
same_reads result all read is reads = subst (ReadAs result) (sym is) reads

pub same_begins : (result : Result Replay JournalFault) (replay : Replay) → ReadAs result (Ok replay) → CanBegin replay.configs
    → IfOk result (λ (r : Replay). CanBegin r.configs)
same_begins (Ok read) replay is begins = let same : replay ≡ read = cc in subst (λ (r : Replay). CanBegin r.configs) same begins
same_begins (Err fault) replay is begins = tt

-- ## A header

-- what stands after a header
rest_of : (bytes : List ℕ) → take (length bytes - 8) (drop 8 bytes) ≡ drop 8 bytes
rest_of bytes = ap (λ n. take n (drop 8 bytes)) (sym (length-drop 8 bytes)) ∙ take-length (drop 8 bytes)

-- after the header of form 1 entries of it are read
pub reads_first : (bytes : List ℕ) → is_part_header bytes ≡ false → starts_with eqb bytes header ≡ false
    → starts_with eqb bytes (header_of First) ≡ true
    → read_journal bytes ≡ replay_of (length bytes) [] (all_from First [] (take (length bytes - 8) (drop 8 bytes)))
reads_first bytes part second first =
    let size = length bytes in
    let none : Result Entries ℕ = Err size in
    let old = all_from First [] (drop 8 bytes) in
    let new = all_from Second [] (drop 8 bytes) in
    let of_first = starts_with eqb bytes (header_of First) in
    let whole = cond (starts_with eqb bytes header) new (cond of_first old none) in
    ap (λ b. replay_of size [] (cond b (Ok (none_more Second size)) whole)) part
    ∙ ap (λ b. replay_of size [] (cond b new (cond of_first old none))) second
    ∙ ap (λ b. replay_of size [] (cond b old none)) first
    ∙ ap (λ (rest : List ℕ). replay_of size [] (all_from First [] rest)) (sym (rest_of bytes))

-- ## What is kept

kept_of : (size : ℕ) (read : Result Entries ℕ) (replay : Replay) → replay_of size [] read ≡ Ok replay → replay.kept ≤ size
kept_of size (Ok entries) replay is = let k : size - entries.left ≡ replay.kept = cc in omega (arith, k)
kept_of size (Err left) replay is = absurd cc

pub kept_within : (bytes : List ℕ) (replay : Replay) → read_journal bytes ≡ Ok replay → replay.kept ≤ length bytes
kept_within bytes replay is = kept_of (length bytes) (entries bytes) replay is

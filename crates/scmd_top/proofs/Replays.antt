-- A replay without faults ends with the status of its input, or for want of memory.
use Rattle.std.proofs.Common.{[], ◌∷◌, ◌≤◌, subst, ℕ, ◌≡◌, inl, inr, ◌⊎◌, true, false, ◌<◌, ◌^◌, List, ◌++◌, length, Option, None}
use Rattle.std.proofs.Common.{Some, refl, sym, ap, ◌∙◌, append_assoc, arith}
use Rattle.std.specs.Prelude.{IfSome}
use Rattle.outside.specs.Causes.{Rose}
use Rattle.scm_core.specs.Managed.{Managed}
use Rattle.scm_core.proofs.Opened.{opens_with_nothing}
use Rattle.scm_model.specs.declared.flat.Config.{Config}
use Rattle.scm_model.specs.declared.steps.Form.TheVariants.{Second}
use Rattle.record_journal.specs.declared.opening.JournalFault.{JournalFault}
use Rattle.record_journal.specs.declared.replaying.Replay.{Replay}
use Rattle.scm_restored.specs.declared.Opened.{Opened}
use Rattle.scm_replay.specs.Outcomes.{Standing, standing}
use Rattle.scm_replay.specs.Replay.{TextEnd, AtRest, Unfinished, BadLine, EndsBad, Told as Text, IsOpenText as IsOpen, IsReplayed}
use Rattle.scm_replay.specs.Replay.{IsReplayCaused, replay_told}
use Rattle.scm_replay.specs.declared.replayed.Replayed.{Replayed}
use Rattle.scm_replay.specs.declared.replayed.Replayed.TheVariants as answered
use Rattle.scmd_top.specs.Jobs.{EndsAsLines, EndsOver, HasAllReplayed, HasReplayed, LeavesReplayed, program_start}
use Rattle.scmd_top.specs.Jobs.{status_behind, status_of_replay}
use Rattle.scmd_top.specs.Opening.{FailsToOpen, HasOpened, IsNew, IsOpenable, IsUnopened, program_opening, status_of_fault}
use Rattle.scmd_top.specs.Sides.{IsUntouched, Side, Sides}
use Rattle.scmd_top.specs.Statuses.{program_limits}
use Rattle.scmd_top.proofs.Openings.{fails, openable}
use Rattle.conn_worker.proofs.Complete.{all_of, rest_of, shorter, too_long}

module _ (configs : List Config) where
  abbrev here : List ℕ → Text
  here bytes = replay_told program_limits (program_start configs) bytes

  -- what was read ends so, and it was all
  lines_so : (bytes read written : List ℕ) (ending : TextEnd) (now : Standing) → bytes ≡ read → length read < 2 ^ 40
      → here read ≡ record { text = written; ending = ending; at = now } → EndsAsLines configs bytes (status_behind ending)
  lines_so bytes read written ending now same small is = record {
    whole = λ _. inl (ap (λ (t : Text). status_behind t.ending) (sym is ∙ ap here (sym same)));
    worn = λ front b e _. absurd (too_long bytes front b e (omega (arith, small, ap length same)));
  }

  -- what a bad line ends is so, whatever follows
  bad_all : (now : Standing) (read written : List ℕ) → EndsBad program_limits (program_start configs) now read written
      → (more : List ℕ) → here (read ++ more) ≡ record { text = written; ending = BadLine; at = now }
  bad_all now read written h more =
      ap here (ap (λ z. z ++ more) h.stop.parts ∙ append_assoc h.answered (h.line ++ 10 ∷ h.rest) more
      ∙ ap (λ z. h.answered ++ z) (append_assoc h.line (10 ∷ h.rest) more))
      ∙ h.told (h.rest ++ more)

  -- a bad line is that of all that begins so
  lines_bad : (bytes read rest written : List ℕ) (now : Standing) → bytes ≡ read ++ rest → length read ≤ 2 ^ 40
      → ((more : List ℕ) → here (read ++ more) ≡ record { text = written; ending = BadLine; at = now }) → EndsAsLines configs bytes 11
  lines_bad bytes read rest written now e most all = record {
    whole = λ _. inl (ap (λ (t : Text). status_behind t.ending) (sym (all rest) ∙ ap here (sym e)));
    worn = λ front b same goes_on.
        let z = shorter read rest front b.0 (sym e ∙ b.1) (omega (arith, most, same)) in
        absurd (subst IsOpen (ap (λ (t : Text). t.ending) (ap here z.1 ∙ all z.0)) goes_on);
  }

  lines_worn : (bytes read rest : List ℕ) → bytes ≡ read ++ rest → length read ≡ 2 ^ 40 → EndsAsLines configs bytes 12
  lines_worn bytes read rest e same = record {
    whole = λ small. absurd (too_long bytes read (rest, e) same small);
    worn = λ _ _ _ _. inl refl;
  }

  lines_lack : (bytes : List ℕ) → EndsAsLines configs bytes 8
  lines_lack bytes = record { whole = λ _. inr refl; worn = λ _ _ _ _. inr refl }

  complete_lines : (how : Replayed) (now : Standing) (bytes : List ℕ) (left_now held held_now : Option (List ℕ))
      (source source_now sink sink_now : ℕ)
      → IsReplayed program_limits (program_start configs) now (Some bytes) left_now held held_now how
      → IsReplayCaused how source source_now sink sink_now
      → (Rose source source_now → ⊥) → (Rose sink sink_now → ⊥)
      → EndsAsLines configs bytes (status_of_replay how)
  complete_lines answered.Ended now bytes left_now held held_now source source_now sink sink_now p c no_read no_write =
      lines_so bytes p.read p.written AtRest now (all_of bytes p.read left_now p.consumed p.reached.0) p.reached.1 p.reached.2
  complete_lines answered.Truncated now bytes left_now held held_now source source_now sink sink_now p c no_read no_write =
      lines_so bytes p.read p.written Unfinished now (all_of bytes p.read left_now p.consumed p.reached.0) p.reached.1 p.reached.2
  complete_lines answered.BadLine now bytes left_now held held_now source source_now sink sink_now p c no_read no_write =
      let rest = rest_of bytes p.read left_now p.consumed in
      lines_bad bytes p.read rest.0 p.written now rest.1 p.most (bad_all now p.read p.written p.reached)
  complete_lines answered.Worn now bytes left_now held held_now source source_now sink sink_now p c no_read no_write =
      let rest = rest_of bytes p.read left_now p.consumed in
      lines_worn bytes p.read rest.0 rest.1 p.reached.0
  complete_lines answered.OutOfMemory now bytes left_now held held_now source source_now sink sink_now p c no_read no_write =
      lines_lack bytes
  complete_lines answered.ReadFault now bytes left_now held held_now source source_now sink sink_now p c no_read no_write =
      absurd (no_read c.0)
  complete_lines answered.WriteFault now bytes left_now held held_now source source_now sink sink_now p c no_read no_write =
      absurd (no_write c.1)

  pub lines_where : (how : Replayed) (now : Standing) (told left_now held held_now : Option (List ℕ)) (source source_now sink sink_now : ℕ)
      → IsReplayed program_limits (program_start configs) now told left_now held held_now how
      → IsReplayCaused how source source_now sink sink_now
      → IfSome told (λ bytes. (Rose source source_now → ⊥) → (Rose sink sink_now → ⊥) → EndsAsLines configs bytes (status_of_replay how))
  lines_where how now None left_now held held_now source source_now sink sink_now p c = tt
  lines_where how now (Some bytes) left_now held held_now source source_now sink sink_now p c =
      complete_lines how now bytes left_now held held_now source source_now sink sink_now p c

-- a replay over a new manager begins in the opening state
pub left_by : (configs : List Config) (m : Managed) (now : Standing) (left left_now held held_now : Option (List ℕ)) (how : Replayed)
    → IsNew [] configs 0 m
    → IsReplayed m.limits (standing m) now left left_now held held_now how
    → IsReplayed program_limits (program_start configs) now left left_now held held_now how
left_by configs m now left left_now held held_now how new h =
    subst (λ n. IsReplayed program_limits (record { flat = program_opening [] configs 0; steps = 0; text = n }) now left left_now held
    held_now how) new.text
    (subst (λ n. IsReplayed program_limits (record { flat = program_opening [] configs 0; steps = n; text = m.text }) now left left_now held
    held_now how) new.steps
    (subst (λ f. IsReplayed program_limits (record { flat = f; steps = m.steps; text = m.text }) now left left_now held held_now how)
    new.flat
    (subst (λ l. IsReplayed l (standing m) now left left_now held held_now how) new.limits h)))

-- without a path the keeper is as it was, and there is nothing
pub answered_alone : (how : Replayed) (s : Sides) → IsUntouched s.keeper
    → LeavesReplayed [] s.input.told s.input.told_now s.output.told s.output.told_now how
    → IsReplayCaused how s.input.faults s.input.faults_now s.output.faults s.output.faults_now → HasReplayed false s (status_of_replay how)
answered_alone how s untouched h c = record {
  replay = record { configs = []; kept = 0; form = Second };
  stood = record { read = refl; can = opens_with_nothing program_limits };
  how = how;
  status_is = refl;
  replayed = h;
  cause = c;
  keeper = untouched;
}

pub complete_alone : (how : Replayed) (s : Sides) → LeavesReplayed [] s.input.told s.input.told_now s.output.told s.output.told_now how
    → IsReplayCaused how s.input.faults s.input.faults_now s.output.faults s.output.faults_now
    → HasAllReplayed false s (status_of_replay how)
complete_alone how s h c =
    lines_where [] how h.now s.input.told s.input.told_now s.output.told s.output.told_now s.input.faults s.input.faults_now s.output.faults
    s.output.faults_now h.replayed c

-- ## Over what stands under a path

pub answered_over : (how : Replayed) (s : Sides) (o : Opened) (now : Standing) → HasOpened true [] s.keeper 0 o
    → IsReplayed o.manager.limits (standing o.manager) now s.input.told s.input.told_now s.output.told s.output.told_now how
    → IsReplayCaused how s.input.faults s.input.faults_now s.output.faults s.output.faults_now → HasReplayed true s (status_of_replay how)
answered_over how s o now h r c = inl (record {
  replay = h.replay;
  stood = openable true [] s.keeper 0 o h;
  how = how;
  status_is = refl;
  replayed = record { now = now; replayed = left_by h.replay.configs o.manager now _ _ _ _ how h.new r };
  cause = c;
  keeper = (h.cut, h.faults);
})

over_where : (told : Option (List ℕ)) (source source_now sink sink_now : ℕ) (keeper : Side) (replay : Replay) (status : ℕ)
    → IsOpenable true keeper.told replay
    → IfSome told (λ bytes. (Rose source source_now → ⊥) → (Rose sink sink_now → ⊥) → EndsAsLines replay.configs bytes status)
    → IfSome told (λ bytes. (Rose source source_now → ⊥) → (Rose sink sink_now → ⊥) → EndsOver true keeper bytes status)
over_where None source source_now sink sink_now keeper replay status stood h = tt
over_where (Some bytes) source source_now sink sink_now keeper replay status stood h =
    λ no_read no_write. inr (inr (replay, stood, h no_read no_write))

pub complete_over : (how : Replayed) (s : Sides) (o : Opened) (now : Standing) → HasOpened true [] s.keeper 0 o
    → IsReplayed o.manager.limits (standing o.manager) now s.input.told s.input.told_now s.output.told s.output.told_now how
    → IsReplayCaused how s.input.faults s.input.faults_now s.output.faults s.output.faults_now
    → HasAllReplayed true s (status_of_replay how)
complete_over how s o now h r c =
    over_where s.input.told s.input.faults s.input.faults_now s.output.faults s.output.faults_now s.keeper h.replay
    (status_of_replay how) (openable true [] s.keeper 0 o h)
    (lines_where h.replay.configs how now s.input.told s.input.told_now s.output.told s.output.told_now s.input.faults s.input.faults_now
    s.output.faults s.output.faults_now
    (left_by h.replay.configs o.manager now _ _ _ _ how h.new r) c)

unopened_where : (told : Option (List ℕ)) (source source_now sink sink_now : ℕ) (keeper : Side) (status : ℕ) → (status ≡ 8)
    ⊎ FailsToOpen true keeper status
    → IfSome told (λ bytes. (Rose source source_now → ⊥) → (Rose sink sink_now → ⊥) → EndsOver true keeper bytes status)
unopened_where None source source_now sink sink_now keeper status h = tt
unopened_where (Some bytes) source source_now sink sink_now keeper status (inl h) = λ no_read no_write. inl h
unopened_where (Some bytes) source source_now sink sink_now keeper status (inr h) = λ no_read no_write. inr (inl h)

pub not_opened : (s : Sides) (fault : JournalFault) → IsUnopened true s.keeper fault → IsUntouched s.input → IsUntouched s.output
    → HasReplayed true s (status_of_fault fault)
not_opened s fault h input output = inr (record { fault = fault; status_is = refl; unopened = h; input = input; output = output })

pub complete_unopened : (s : Sides) (fault : JournalFault) → IsUnopened true s.keeper fault → HasAllReplayed true s (status_of_fault fault)
complete_unopened s fault h =
    unopened_where s.input.told s.input.faults s.input.faults_now s.output.faults s.output.faults_now s.keeper (status_of_fault fault)
    (fails true s.keeper fault h)

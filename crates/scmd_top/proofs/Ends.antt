-- No job has the status of words that are none.
use Rattle.std.proofs.Common.{Bool, true, false, ℕ, ◌≡◌, ◌≢◌, ◌∙◌, ◌++◌, List, Option, inl, inr, sym, Ok, Err}
use Rattle.std.specs.Prelude.{Result, codes}
use Rattle.record_journal.specs.declared.keeper.KeepFault.TheVariants as keeps
use Rattle.record_journal.specs.declared.opening.JournalFault.{JournalFault}
use Rattle.scm_compacted.specs.declared.moving.MoveFault.{MoveFault}
use Rattle.scm_compacted.specs.declared.moving.MoveFault.TheVariants as faults
use Rattle.conn_desk.specs.declared.served.Served.{Served}
use Rattle.conn_desk.specs.declared.served.Served.TheVariants as served
use Rattle.scm_generate.specs.declared.generated.Generated.{Generated}
use Rattle.scm_generate.specs.declared.generated.Generated.TheVariants as printed
use Rattle.scm_replay.specs.declared.replayed.Replayed.{Replayed}
use Rattle.scm_replay.specs.declared.replayed.Replayed.TheVariants as answered
use Rattle.scmd_top.specs.declared.words.Job.{Job}
use Rattle.scmd_top.specs.declared.words.Job.TheVariants.{Audit, Pipe, Replay, Generate, Serve}
use Rattle.trail_audit.specs.declared.audited.Audited.{Audited}
use Rattle.trail_audit.specs.declared.audited.Audited.TheVariants as audited
use Rattle.scm_summary.specs.Lines.{numbered}
use Rattle.scmd_top.specs.Auditing.{HasVerdict, IsPrinted}
use Rattle.record_journal.specs.Crashes.{Crashes}
use Rattle.scmd_top.specs.Jobs.{HasAnswered, HasReplayed, HasRun, status_of_generate, status_of_replay}
use Rattle.scmd_top.specs.Opening.{HasNotOpened}
use Rattle.scmd_top.specs.Pipe.{status_of}
use Rattle.scmd_top.proofs.Openings.{not_of_fault}
use Rattle.opening_lines.specs.declared.opening.Opening.{Opening as Beginning}
use Rattle.scm_serving.specs.declared.serving.BookEnd.{BookEnd}
use Rattle.scm_serving.specs.declared.serving.BookEnd.TheVariants.{Ended, ListenFault, OutOfMemory}
use Rattle.scmd_top.specs.Serving.{HasSummary, IsPut, exported}
use Rattle.scmd_top.specs.Sides.{Ports, Side, Sides}
use Rattle.scmd_top.specs.Stores.{status_of_compact, status_of_move}

not_of_pipe : (how : Served) → status_of how ≢ 5
not_of_pipe served.Ended = λ e. cc
not_of_pipe served.ReadFault = λ e. cc
not_of_pipe served.WriteFault = λ e. cc
not_of_pipe served.Truncated = λ e. cc
not_of_pipe (served.BadPdu place _) = λ e. cc
not_of_pipe (served.TooLong length) = λ e. cc
not_of_pipe served.Full = λ e. cc
not_of_pipe served.Worn = λ e. cc
not_of_pipe served.OutOfMemory = λ e. cc

not_of_replay : (how : Replayed) → status_of_replay how ≢ 5
not_of_replay answered.Ended = λ e. cc
not_of_replay answered.ReadFault = λ e. cc
not_of_replay answered.WriteFault = λ e. cc
not_of_replay answered.Truncated = λ e. cc
not_of_replay answered.BadLine = λ e. cc
not_of_replay answered.Worn = λ e. cc
not_of_replay answered.OutOfMemory = λ e. cc

not_of_generate : (how : Generated) → status_of_generate how ≢ 5
not_of_generate printed.Ended = λ e. cc
not_of_generate printed.WriteFault = λ e. cc
not_of_generate printed.OutOfMemory = λ e. cc

not_printed : (text : List ℕ) (due : ℕ) (output : Side) (status : ℕ) → due ≢ 5 → IsPrinted text due output status → status ≢ 5
not_printed text due output status other (inl p) = λ e. other (sym p.0 ∙ e)
not_printed text due output status other (inr (inl p)) = λ e. absurd (cc (p.0, e))
not_printed text due output status other (inr (inr p)) = λ e. absurd (cc (p.0, e))

not_of_audit : (how : Audited) (output : Side) (status : ℕ) → HasVerdict how output status → status ≢ 5
not_of_audit (audited.Legal entries) output status v = not_printed (numbered (codes "legal ") entries) 0 output status (λ e. cc) v
not_of_audit (audited.NotLegal line) output status v = not_printed (numbered (codes "line ") line) 14 output status (λ e. cc) v
not_of_audit audited.ReadFault output status v = λ e. absurd (cc (v.0, e))
not_of_audit audited.Truncated output status v = λ e. absurd (cc (v.0, e))
not_of_audit audited.OutOfMemory output status v = λ e. absurd (cc (v.0, e))
not_of_audit audited.Worn output status v = λ e. absurd (cc (v.0, e))

not_10 : (status : ℕ) → status ≡ 10 → status ≢ 5
not_10 status is = λ e. cc

not_of_put : (text : List ℕ) (begun : Option Beginning) (output : Side) (status : ℕ) → IsPut text begun output status → status ≢ 5
not_of_put text begun output status (inl h) = λ e. absurd (cc (h.0, e))
not_of_put text begun output status (inr (inl h)) = λ e. absurd (cc (h.0, e))
not_of_put text begun output status (inr (inr h)) = λ e. absurd (cc (h.0, e))

not_of_serve : (begun : Option Beginning) (end : BookEnd) (output : Side) (status : ℕ) → HasSummary begun end output status → status ≢ 5
not_of_serve begun (Ended text trail) output status h =
    not_of_put (exported begun trail.entries ++ text) begun output status h.0
not_of_serve begun OutOfMemory output status h = λ e. absurd (cc (h.0, e))
not_of_serve begun ListenFault output status h = not_10 status h.0

not_answered : (path : Bool) (s : Sides) (status : ℕ) → HasAnswered path s status → status ≢ 5
not_answered path s status h = λ e. not_of_replay h.how (sym h.status_is ∙ e)

not_opened : (path : Bool) (s : Sides) (status : ℕ) → HasNotOpened path s status → status ≢ 5
not_opened path s status h = λ e. not_of_fault h.fault (sym h.status_is ∙ e)

not_replayed : (path : Bool) (s : Sides) (status : ℕ) → HasReplayed path s status → status ≢ 5
not_replayed false s status h = not_answered false s status h
not_replayed true s status (inl h) = not_answered true s status h
not_replayed true s status (inr h) = not_opened true s status h

pub not_5 : (tells : ℕ → Type 0) (path : Bool) (groups : List (List ℕ)) (job : Job) (s : Sides) (now : Crashes) (p : Ports) (status : ℕ)
    → HasRun tells path groups job s now p status → status ≢ 5
not_5 tells path groups (Pipe principal) s now p status (inl h) = λ e. not_of_pipe h.how (sym h.status_is ∙ e)
not_5 tells path groups (Pipe principal) s now p status (inr h) = not_opened path s status h
not_5 tells path groups Replay s now p status h = not_replayed path s status h
not_5 tells path groups (Generate services) s now p status h = λ e. not_of_generate h.0.how (sym h.0.status_is ∙ e)
not_5 tells path groups Audit s now p status h = not_of_audit h.0.how s.output status h.0.verdict
not_5 tells path groups (Serve admin user export) s now p status (inl h, untouched) = not_of_serve h.begun h.end s.output status h.written
not_5 tells path groups (Serve admin user export) s now p status (inr (inl h), untouched) = not_10 status h.status_is
not_5 tells path groups (Serve admin user export) s now p status (inr (inr h), untouched) = not_opened path s status h.0

-- ## Modes

pub not_of_compact : (how : Result (Unit {0}) JournalFault) → status_of_compact how ≢ 5
not_of_compact (Ok done) = λ e. cc
not_of_compact (Err fault) = not_of_fault fault

pub not_of_move : (how : Result (Unit {0}) MoveFault) → status_of_move how ≢ 5
not_of_move (Ok done) = λ e. cc
not_of_move (Err (faults.Journal fault)) = not_of_fault fault
not_of_move (Err (faults.Store keeps.Failed)) = λ e. cc
not_of_move (Err (faults.Store keeps.OutOfMemory)) = λ e. cc
not_of_move (Err faults.NotEmpty) = λ e. cc

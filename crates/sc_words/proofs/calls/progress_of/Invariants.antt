use Rattle.std.proofs.Common.{◌≡◌, ◌≤◌, drop, length}
use Rattle.sc_words.specs.Calls.{progress_of}
use Rattle.sc_words.proofs.Counts.{onto}
use Rattle.sc_words.proofs.calls.progress_of.Given as goal

-- the answers so far were taken
abbrev pub invariant-loop-taken : goal.invariant-loop-taken
invariant-loop-taken l = record {
  value : progress_of l.methods l.heard ≡ onto l.done l.taken (progress_of (drop l.done l.methods) (drop l.taken l.heard));
  bound : l.done ≤ length l.methods;
}

use Rattle.std.proofs.Common.{◌≡◌, ◌≤◌, length, take}
use Rattle.scm_book.specs.Passes.{HoldsProcess, IsOf}
use Rattle.scm_model.specs.declared.flat.Phase.TheVariants as phases
use Rattle.child_runner.specs.Reports.{GoesOn, child_parts}
use Rattle.child_runner.proofs.serving.Reporter.feed.Given as goal

-- the reports of the lines that end in the bytes so far were made
abbrev pub invariant-loop-byte : goal.invariant-loop-byte
invariant-loop-byte g l = record {
  kept : child_parts l.self.book.now l.self.clock.now l.self.process
      ≡ child_parts l.fn.self.book.now l.fn.self.clock.now l.fn.self.process;
  book : IsOf l.self.book.now l.pass;
  process : HoldsProcess l.self.book.now.opening l.pass l.self.process phases.Launched;
  line : length l.self.line ≤ 4096;
  on : GoesOn (g.C.Clock.tells l.fn.self.clock.now) l.fn.self.book.now.opening l.fn.self.process (take l.byte-index l.piece)
      l.fn.self.line l.self.line l.fn.pass l.pass;
}

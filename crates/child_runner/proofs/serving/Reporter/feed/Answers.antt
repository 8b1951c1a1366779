use Rattle.std.proofs.Common.{[], ◌∷◌, ◌∙◌, get_or, refl, subst}
use Rattle.child_runner.specs.Reports.{GoesOn, Stops}
use Rattle.child_runner.proofs.Stretches.{goes_nowhere, one_more, one_stops}
use Rattle.child_runner.proofs.serving.Reporter.feed.Goals as goal

pub loop-byte-init : goal.loop-byte-init
loop-byte-init g c = record {
  kept = refl;
  book = c.requires.book;
  process = c.requires.process;
  line = c.requires.line;
  on = goes_nowhere (g.C.Clock.tells c.args.self.now.clock.now) c.args.self.now.book.now.opening c.args.self.now.process
      c.args.self.now.line c.args.pass.now;
}

pub returns-in-Err-clause-fed : goal.returns-in-Err-clause-fed
returns-in-Err-clause-fed g c =
    one_stops (g.C.Clock.tells c.args.self.now.clock.now) c.args.self.now.book.now.opening c.args.self.now.process
    c.args.piece.now c.loop-byte.byte-index
    (get_or c.args.piece.now c.loop-byte.byte-index 0)
    c.args.self.now.line c.loop-byte.self.line c.take.new.self.line c.args.pass.now c.loop-byte.pass c.take.new.pass c.in-Err.fault
    c.loop-byte-test.true
    refl c.loop-byte.invariant.on
    (subst (λ x. Stops (g.C.Clock.tells x.clock) x.book.opening x.process (get_or c.args.piece.now c.loop-byte.byte-index 0 ∷ [])
    c.loop-byte.self.line c.take.new.self.line c.loop-byte.pass c.take.new.pass c.in-Err.fault) c.loop-byte.invariant.kept
    c.in-Err.ensures.fed)

pub returns-in-Err-clause-kept : goal.returns-in-Err-clause-kept
returns-in-Err-clause-kept g c = c.in-Err.ensures.kept ∙ c.loop-byte.invariant.kept

pub loop-byte-preserved : goal.loop-byte-preserved
loop-byte-preserved g c = record {
  kept = c.in-Ok.ensures.kept ∙ c.loop-byte.invariant.kept;
  book = c.in-Ok.ensures.book;
  process = c.in-Ok.ensures.process;
  line = c.in-Ok.ensures.line;
  on = one_more (g.C.Clock.tells c.args.self.now.clock.now) c.args.self.now.book.now.opening c.args.self.now.process
      c.args.piece.now c.loop-byte.byte-index
      (get_or c.args.piece.now c.loop-byte.byte-index 0)
      c.args.self.now.line c.loop-byte.self.line c.take.new.self.line c.args.pass.now c.loop-byte.pass c.take.new.pass
      c.loop-byte-test.true refl
      c.loop-byte.invariant.on
      (subst (λ x. GoesOn (g.C.Clock.tells x.clock) x.book.opening x.process (get_or c.args.piece.now c.loop-byte.byte-index 0 ∷ [])
      c.loop-byte.self.line c.take.new.self.line c.loop-byte.pass c.take.new.pass) c.loop-byte.invariant.kept c.in-Ok.ensures.fed);
}

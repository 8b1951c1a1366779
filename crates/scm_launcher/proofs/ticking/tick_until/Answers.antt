use Rattle.std.proofs.Common.{◌≡◌, [], false, refl}
use Rattle.std.proofs.lemmas.List.Elements.{All-nil}
use Rattle.scm_launcher.specs.Ticks.{no_room}
use Rattle.scm_launcher.proofs.Chains.{full_end, one_more, ticked}
use Rattle.scm_launcher.proofs.ticking.tick_until.Goals as goal

pub loop-init : goal.loop-init
loop-init g c = record {
  book = c.requires.book;
  ticks = record { ends = []; chain = refl; room = All-nil (λ end. no_room end ≡ false) };
}

pub returns-then-is_full-clause-ticks : goal.returns-then-is_full-clause-ticks
returns-then-is_full-clause-ticks g c =
    ticked (g.C.Clock.tells c.args.clock.now) c.args.book.now.opening c.args.pass.now c.loop.pass c.tick-end.new.pass c.now.result
    c.tick-end.result c.now.ensures c.tick-end.ensures.ends c.loop.invariant.ticks

pub returns-then-is_full-clause-ends : goal.returns-then-is_full-clause-ends
returns-then-is_full-clause-ends g c = full_end _ c.args.book.now.opening _ _ _ c.tick-end.result c.tick-end.ensures.ends cc

pub returns-then-asked-clause-ticks : goal.returns-then-asked-clause-ticks
returns-then-asked-clause-ticks g c =
    ticked (g.C.Clock.tells c.args.clock.now) c.args.book.now.opening c.args.pass.now c.loop.pass c.tick-end.new.pass c.now.result
    c.tick-end.result c.now.ensures c.tick-end.ensures.ends c.loop.invariant.ticks

pub loop-preserved : goal.loop-preserved
loop-preserved g c = record {
  book = c.tick-end.ensures.book;
  ticks = one_more (g.C.Clock.tells c.args.clock.now) c.args.book.now.opening c.args.pass.now c.loop.pass c.tick-end.new.pass c.now.result
      c.tick-end.result c.now.ensures c.tick-end.ensures.ends (let same = c.is_full.ensures in cc) c.loop.invariant.ticks;
}

use Rattle.std.proofs.Common.{[], ◌∷◌, ◌++◌, refl}
use Rattle.std.proofs.lemmas.List.Elements.{All-nil}
use Rattle.conn_worker.proofs.Waiting.{told_more, waits_more}
use Rattle.conn_worker.proofs.desk.wait.Goals as goal

pub loop-init : goal.loop-init
loop-init g c = record {
  book = c.requires.book;
  plan = c.requires.plan;
  turns = [];
  told = All-nil (g.C.Clock.tells c.args.clock.now);
  waits = refl;
}

pub returns-in-Some-look-clause-ends : goal.returns-in-Some-look-clause-ends
returns-in-Some-look-clause-ends g c =
    let before = c.loop.invariant in record {
      turns = before.turns;
      told = before.told;
      waited = c.loop.pass;
      waits = before.waits;
      ends = c.in-Some-look.ensures.looks;
    }

pub loop-preserved : goal.loop-preserved
loop-preserved g c =
    let before = c.loop.invariant in
    let still = c.in-None-look.ensures.looks in record {
      book = c.look.ensures.book;
      plan = still.has;
      turns = before.turns ++ still.moment ∷ [];
      told = told_more (g.C.Clock.tells c.args.clock.now) before.turns still.moment before.told still.told;
      waits = waits_more g.W.Waiter.silent c.args.book.now.opening c.args.plan before.turns still.moment c.args.pass.now c.loop.pass
          c.look.new.pass before.waits still.waits;
    }

use Rattle.std.proofs.Common.{◌∙◌, arith, refl}
use Rattle.scm_launcher.proofs.Seeing.{sees_none, sees_then}
use Rattle.scm_launcher.proofs.launcher.Launcher.launch_until.Goals as goal

pub loop-init : goal.loop-init
loop-init g c = record {
  book = c.requires.by;
  sees = sees_none c.args.self.now.book.now.opening c.args.by.now c.requires.nobody;
  path = refl;
  all = c.requires.all;
}

pub look-requires-clause-path : goal.look-requires-clause-path
look-requires-clause-path g c = omega (arith, c.requires.path, c.loop.invariant.path)

pub look-requires-clause-book : goal.look-requires-clause-book
look-requires-clause-book g c = λ _ _. c.loop.invariant.book

pub look-requires-clause-nobody : goal.look-requires-clause-nobody
look-requires-clause-nobody g c = λ _ _. c.loop.invariant.sees.nobody

pub reap-requires-clause-by : goal.reap-requires-clause-by
reap-requires-clause-by g c = c.look.ensures.book

pub reap-requires-clause-nobody : goal.reap-requires-clause-nobody
reap-requires-clause-nobody g c = c.look.ensures.sees.nobody

pub reap-requires-clause-all : goal.reap-requires-clause-all
reap-requires-clause-all g c = c.loop.invariant.all

pub returns-then-asked-clause-all : goal.returns-then-asked-clause-all
returns-then-asked-clause-all g c = c.loop.invariant.all

pub returns-then-asked-clause-book : goal.returns-then-asked-clause-book
returns-then-asked-clause-book g c = c.loop.invariant.book

pub returns-then-asked-clause-sees : goal.returns-then-asked-clause-sees
returns-then-asked-clause-sees g c = c.loop.invariant.sees

pub loop-preserved-in-Child : goal.loop-preserved-in-Child
loop-preserved-in-Child g c =
    let o = c.args.self.now.book.now.opening in
    record {
      book = c.begin.ensures.book;
      sees = sees_then o c.args.by.now c.reap.new.by c.begin.new.by
          (sees_then o c.args.by.now c.look.new.by c.reap.new.by
          (sees_then o c.args.by.now c.loop.by c.look.new.by c.loop.invariant.sees c.look.ensures.sees) c.reap.ensures.sees)
          c.begin.ensures.sees;
      path = c.look.ensures.path ∙ c.loop.invariant.path;
      all = c.begin.ensures.all;
    }

pub loop-preserved-in-Failed : goal.loop-preserved-in-Failed
loop-preserved-in-Failed g c = record {
  book = c.look.ensures.book;
  sees = sees_then c.args.self.now.book.now.opening c.args.by.now c.loop.by c.look.new.by c.loop.invariant.sees c.look.ensures.sees;
  path = c.look.ensures.path ∙ c.loop.invariant.path;
  all = c.loop.invariant.all;
}

pub loop-preserved : goal.loop-preserved
loop-preserved g c = record {
  book = c.look.ensures.book;
  sees = sees_then c.args.self.now.book.now.opening c.args.by.now c.loop.by c.look.new.by c.loop.invariant.sees c.look.ensures.sees;
  path = c.look.ensures.path ∙ c.loop.invariant.path;
  all = c.loop.invariant.all;
}

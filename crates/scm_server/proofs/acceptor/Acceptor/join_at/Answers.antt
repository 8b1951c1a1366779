use Rattle.std.proofs.Common.{subst}
use Rattle.book_rule.specs.Seats.{Identity}
use Rattle.scm_book.specs.Passes.{IsOf}
use Rattle.scm_server.specs.Workers.{out_at}
use Rattle.scm_server.proofs.Lists.{each_without, has_it}
use Rattle.scm_server.proofs.Workers.{done_so, done_there, still_of, to_short}
use Rattle.scm_server.proofs.acceptor.Acceptor.join_at.Goals as goal

pub take_back-one-requires-clause-spent : goal.take_back-one-requires-clause-spent
take_back-one-requires-clause-spent g c =
    let worker = c.remove-handle.result in
    subst (λ (b : Identity). IsOf b c.join.result.spent) (c.requires.stands.of worker
    (has_it _ _ worker c.requires.at c.remove-handle.ensures.value)).0 c.join.ensures.book

pub returns-clause-takes : goal.returns-clause-takes
returns-clause-takes g c =
    let worker = c.remove-handle.result in
    let of = c.requires.stands.of worker (has_it _ _ worker c.requires.at c.remove-handle.ensures.value) in
    let back = c.take_back-one.ensures in record {
      at = record {
        by = still_of c.args.book.now c.args.self.now.by c.join.result.spent _ c.requires.stands.by back.takes;
        of = each_without _ _ _ _ worker c.requires.at c.remove-handle.ensures.value c.remove-handle.ensures.by_index.2
            c.requires.stands.of;
      };
      only = back.only;
      goes = to_short (g.C.Clock.tells c.args.clock.now) c.args.book.now.opening c.args.self.now.by _ _ _ _ _ c.take_back-one.result
          c.args.self.now.is_short _ (done_there (g.C.Clock.tells c.args.clock.now) c.args.book.now c.join.result.spent _
          c.join.result.how c.take_back-one.result back.short c.args.self.now.by _ back.takes _ _ back.only
          back.noted (out_at g.N.In.Source.left g.N.Out.Sink.held g.N.In.Source.faults g.N.Out.Sink.faults) _ _ _ worker
          c.requires.at c.remove-handle.ensures.value c.remove-handle.ensures.by_index.2
          (done_so (g.C.Clock.tells) _ _ of.1 _ _ of.0 _ _ _ _ c.join.ensures)) c.is_either-self.ensures;
    }

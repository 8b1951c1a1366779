use Rattle.std.proofs.Common.{refl}
use Rattle.conn_worker.proofs.Answering.{reply_more}
use Rattle.conn_worker.proofs.desk.BookDeskRequestHandler.call.Goals as goal

pub returns-clause-answered : goal.returns-clause-answered
returns-clause-answered g c =
    reply_more _ _ c.ask.result c.ask.new.told (λ reply answered. record {
      heard = answered.heard;
      made = (refl, refl, answered.made);
      told = answered.told;
      answers = answered.answers;
    }) c.ask.ensures.answered

use Rattle.conn_worker.proofs.desk.look.Goals as goal

pub returns-in-Done-clause-looks : goal.returns-in-Done-clause-looks
returns-in-Done-clause-looks g c = record {
  moment = c.now.result;
  told = c.now.ensures;
  made = c.in-Done.ensures.ends;
}

pub returns-in-Again-clause-looks : goal.returns-in-Again-clause-looks
returns-in-Again-clause-looks g c =
    let looked = c.in-Again.ensures.ends in
    let turn = c.turn.ensures in record {
      moment = c.now-in-Again.result;
      told = c.now-in-Again.ensures;
      waits = record { looked = c.end_start.new.pass; learnt = looked.0; undecided = looked.1; turns = turn.turns };
      has = turn.plans c.args.plan (c.in-Again.ensures.keeps.plans c.args.plan c.requires.plan);
    }

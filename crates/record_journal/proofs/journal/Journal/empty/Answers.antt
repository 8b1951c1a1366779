use Rattle.std.proofs.Common.{[], refl, inl}
use Rattle.record_journal.proofs.journal.Journal.empty.Goals as goal

pub returns-clause-bears : goal.returns-clause-bears
returns-clause-bears c = record {
  kept = record { tail = []; holds = refl; part = inl refl };
  clean = λ is. refl;
  long = refl;
  form = refl;
}

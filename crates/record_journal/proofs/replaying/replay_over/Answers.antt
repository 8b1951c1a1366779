use Rattle.std.proofs.Common.{◌∙◌, Err, ap, refl, sym}
use Rattle.record_journal.proofs.Turns.{damaged_here, ends_here, goes_behind, none_left, same_reads, same_begins, starts}
use Rattle.record_journal.proofs.replaying.replay_over.Goals as goal

pub loop-init : goal.loop-init
loop-init c = record { begins = c.requires; left = starts c.args.size c.args.form c.args.configs.now c.args.entries.now }

pub returns-in-Ok-Unfinished-clause-reads : goal.returns-in-Ok-Unfinished-clause-reads
returns-in-Ok-Unfinished-clause-reads c =
    same_reads c.replay_with.result _ _
    (ends_here c.args.size _ c.loop.counter c.loop.now c.loop.configs c.replay_entry.new.configs c.loop.rest.now
    c.in-Ok-Unfinished.field-0 _ c.in-Ok-Unfinished.field-0-is c.loop-test.true c.in-Ok-Unfinished.ensures.goes c.loop.invariant.left)
    c.replay_with.ensures

pub returns-in-Ok-Unfinished-clause-begins : goal.returns-in-Ok-Unfinished-clause-begins
returns-in-Ok-Unfinished-clause-begins c = same_begins c.replay_with.result _ c.replay_with.ensures (c.in-Ok-Unfinished.ensures.begins refl)

pub returns-in-Ok-Damaged-clause-reads : goal.returns-in-Ok-Damaged-clause-reads
returns-in-Ok-Damaged-clause-reads c =
    damaged_here c.args.size _ c.loop.counter c.loop.now c.loop.configs c.replay_entry.new.configs c.loop.rest.now c.in-Ok-Damaged.field-0 _
    c.in-Ok-Damaged.field-0-is c.loop-test.true c.in-Ok-Damaged.ensures.goes c.loop.invariant.left
    ∙ ap (λ n. Err n) (sym c.place_in.ensures)

pub loop-preserved : goal.loop-preserved
loop-preserved c = record {
  begins = c.in-Ok-Rest.ensures.begins refl;
  left = goes_behind c.args.size _ c.loop.counter c.loop.now c.loop.configs c.replay_entry.new.configs c.loop.rest.now c.in-Ok-Rest.field-0
      c.in-Ok-Rest.next c.in-Ok-Rest.after _ c.in-Ok-Rest.field-0-is c.loop-test.true c.in-Ok-Rest.ensures.goes c.loop.invariant.left;
}

pub returns-clause-reads : goal.returns-clause-reads
returns-clause-reads c =
    same_reads c.replay_with-2.result _ _
    (none_left c.args.size _ c.loop.counter c.loop.now c.loop.configs c.loop.rest.now _ c.loop-test.false c.loop.invariant.left)
    c.replay_with-2.ensures

pub returns-clause-begins : goal.returns-clause-begins
returns-clause-begins c = same_begins c.replay_with-2.result _ c.replay_with-2.ensures c.loop.invariant.begins

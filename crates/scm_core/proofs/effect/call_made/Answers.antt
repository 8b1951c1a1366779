use Rattle.std.proofs.Common.{ap, rules, ◌∙◌}
use Rattle.scm_model.specs.declared.steps.Answer.TheVariants as answer
use Rattle.scm_core.specs.Room.{prepared_for}
use Rattle.scm_core.specs.declared.room.Prepared.{Prepared}
use Rattle.scm_core.proofs.Calling.{lock_flat, no_other, only_reads, read_flat}
use Rattle.std.specs.Prelude.{IsTrue}
use Rattle.scm_core.proofs.effect.call_made.Goals as goal

pub change-requires-clause-verdict : goal.change-requires-clause-verdict
change-requires-clause-verdict c =
    rw c.deref.ensures
    (ap (λ (p : Prepared). p.code)
    (c.requires.made ∙ ap (prepared_for c.args.tables.now.limits c.args.tables.now.flat c.args.caller) c.in-Change.is))

pub returns-in-Change-clause-answer : goal.returns-in-Change-clause-answer
returns-in-Change-clause-answer c = rw (c.in-Change.is, ← c.deref.ensures) (c.put_reply.ensures ∙ ap answer.Reply c.change.ensures.reply)

pub returns-in-Change-clause-flat : goal.returns-in-Change-clause-flat
returns-in-Change-clause-flat c = rw (c.in-Change.is, ← c.deref.ensures) c.change.ensures.flat

pub change2-requires-clause-verdict : goal.change2-requires-clause-verdict
change2-requires-clause-verdict c =
    ap (λ (p : Prepared). p.code)
    (c.requires.made ∙ ap (prepared_for c.args.tables.now.limits c.args.tables.now.flat c.args.caller) c.in-Change2.is)

pub returns-in-Change2-clause-answer : goal.returns-in-Change2-clause-answer
returns-in-Change2-clause-answer c = rw c.in-Change2.is (c.put_reply-in-Change2.ensures ∙ ap answer.Reply c.change2.ensures.reply)

pub returns-in-Change2-clause-flat : goal.returns-in-Change2-clause-flat
returns-in-Change2-clause-flat c = rw c.in-Change2.is c.change2.ensures.flat

pub set_security-requires-clause-verdict : goal.set_security-requires-clause-verdict
set_security-requires-clause-verdict c =
    ap (λ (p : Prepared). p.code)
    (c.requires.made ∙ ap (prepared_for c.args.tables.now.limits c.args.tables.now.flat c.args.caller) c.in-SetSecurity.is)

pub returns-in-SetSecurity-clause-answer : goal.returns-in-SetSecurity-clause-answer
returns-in-SetSecurity-clause-answer c =
    rw c.in-SetSecurity.is (c.put_reply-in-SetSecurity.ensures ∙ ap answer.Reply c.set_security.ensures.reply)

pub returns-in-SetSecurity-clause-flat : goal.returns-in-SetSecurity-clause-flat
returns-in-SetSecurity-clause-flat c = rw c.in-SetSecurity.is c.set_security.ensures.flat

pub taken-new-requires : goal.taken-new-requires
taken-new-requires c = (_, c.in-Create.is)

pub create-requires-clause-verdict : goal.create-requires-clause-verdict
create-requires-clause-verdict c =
    rw c.limits-limits.ensures
    (ap (λ (p : Prepared). p.code)
    (c.requires.made ∙ ap (prepared_for c.args.tables.now.limits c.args.tables.now.flat c.args.caller) c.taken-new.ensures))

pub returns-in-Create-clause-answer : goal.returns-in-Create-clause-answer
returns-in-Create-clause-answer c =
    rw (c.taken-new.ensures, ← c.limits-limits.ensures) (c.put_reply-in-Create.ensures ∙ ap answer.Reply c.create.ensures.reply)

pub returns-in-Create-clause-flat : goal.returns-in-Create-clause-flat
returns-in-Create-clause-flat c = rw (c.taken-new.ensures, ← c.limits-limits.ensures) c.create.ensures.flat

pub returns-in-QueryLock-clause-answer : goal.returns-in-QueryLock-clause-answer
returns-in-QueryLock-clause-answer c = rw c.in-QueryLock.is (c.put_reply-in-QueryLock.ensures ∙ ap answer.Reply c.query_lock.ensures)

pub returns-in-QueryLock-clause-flat : goal.returns-in-QueryLock-clause-flat
returns-in-QueryLock-clause-flat c =
    rw c.in-QueryLock.is (lock_flat c.args.tables.now.limits c.args.tables.now.flat c.args.caller _ _ c.args.kept)

pub returns-in-QueryConfig-clause-flat : goal.returns-in-QueryConfig-clause-flat
returns-in-QueryConfig-clause-flat c =
    let reads : IsTrue (only_reads c.args.request.now) = search rules in
    read_flat c.args.tables.now.limits c.args.tables.now.flat c.args.caller c.args.request.now c.args.kept reads

pub unreachable-requires : goal.unreachable-requires
unreachable-requires c =
    let w = c.in_default in
    no_other c.args.request.now c.requires.uses (record {
      change = w.not-Change;
      change2 = w.not-Change2;
      create = w.not-Create;
      query_lock = w.not-QueryLock;
      start = w.not-Start;
      query_config = w.not-QueryConfig;
      display_name = w.not-DisplayName;
      key_name = w.not-KeyName;
      enum_dependents = w.not-EnumDependents;
      enum_services = w.not-EnumServices;
      query_config2 = w.not-QueryConfig2;
      query_status_ex = w.not-QueryStatusEx;
      query_security = w.not-QuerySecurity;
      set_security = w.not-SetSecurity;
    })

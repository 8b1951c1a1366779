use Rattle.std.proofs.Common.{◌∙◌, ap}
use Rattle.scm_model.specs.declared.steps.Answer.TheVariants as answer
use Rattle.scm_core.proofs.Calling.{uses}
use Rattle.scm_core.proofs.effect.call_other.Goals as goal

pub returns-in-Close-clause-answer : goal.returns-in-Close-clause-answer
returns-in-Close-clause-answer c = rw c.in-Close.is (c.put_reply.ensures ∙ ap answer.Reply c.close.ensures.reply)

pub returns-in-Close-clause-flat : goal.returns-in-Close-clause-flat
returns-in-Close-clause-flat c = rw c.in-Close.is c.close.ensures.flat

pub returns-in-Control-clause-answer : goal.returns-in-Control-clause-answer
returns-in-Control-clause-answer c = rw c.in-Control.is (c.put_reply-in-Control.ensures ∙ ap answer.Reply c.control.ensures.reply)

pub returns-in-Control-clause-flat : goal.returns-in-Control-clause-flat
returns-in-Control-clause-flat c = rw c.in-Control.is c.control.ensures.flat

pub returns-in-Delete-clause-answer : goal.returns-in-Delete-clause-answer
returns-in-Delete-clause-answer c = rw c.in-Delete.is (c.put_reply-in-Delete.ensures ∙ ap answer.Reply c.delete.ensures.reply)

pub returns-in-Delete-clause-flat : goal.returns-in-Delete-clause-flat
returns-in-Delete-clause-flat c = rw c.in-Delete.is c.delete.ensures.flat

pub returns-in-Lock-clause-answer : goal.returns-in-Lock-clause-answer
returns-in-Lock-clause-answer c =
    rw (c.in-Lock.is, ← c.limits-limits.ensures) (c.put_reply-in-Lock.ensures ∙ ap answer.Reply c.lock.ensures.reply)

pub returns-in-Lock-clause-flat : goal.returns-in-Lock-clause-flat
returns-in-Lock-clause-flat c = rw (c.in-Lock.is, ← c.limits-limits.ensures) c.lock.ensures.flat

pub returns-in-SetStatus-clause-answer : goal.returns-in-SetStatus-clause-answer
returns-in-SetStatus-clause-answer c = rw c.in-SetStatus.is (c.put_reply-in-SetStatus.ensures ∙ ap answer.Reply c.set_status.ensures.reply)

pub returns-in-SetStatus-clause-flat : goal.returns-in-SetStatus-clause-flat
returns-in-SetStatus-clause-flat c = rw c.in-SetStatus.is c.set_status.ensures.flat

pub returns-in-Unlock-clause-answer : goal.returns-in-Unlock-clause-answer
returns-in-Unlock-clause-answer c = rw c.in-Unlock.is (c.put_reply-in-Unlock.ensures ∙ ap answer.Reply c.unlock.ensures.reply)

pub returns-in-Unlock-clause-flat : goal.returns-in-Unlock-clause-flat
returns-in-Unlock-clause-flat c = rw c.in-Unlock.is c.unlock.ensures.flat

pub returns-in-OpenManager-clause-answer : goal.returns-in-OpenManager-clause-answer
returns-in-OpenManager-clause-answer c =
    rw (c.in-OpenManager.is, ← c.limits-limits.ensures) (c.put_reply-in-OpenManager.ensures ∙ ap answer.Reply c.open_manager.ensures.reply)

pub returns-in-OpenManager-clause-flat : goal.returns-in-OpenManager-clause-flat
returns-in-OpenManager-clause-flat c = rw (c.in-OpenManager.is, ← c.limits-limits.ensures) c.open_manager.ensures.flat

pub returns-in-OpenService-clause-answer : goal.returns-in-OpenService-clause-answer
returns-in-OpenService-clause-answer c =
    rw (c.in-OpenService.is, ← c.limits-limits.ensures) (c.put_reply-in-OpenService.ensures ∙ ap answer.Reply c.open_service.ensures.reply)

pub returns-in-OpenService-clause-flat : goal.returns-in-OpenService-clause-flat
returns-in-OpenService-clause-flat c = rw (c.in-OpenService.is, ← c.limits-limits.ensures) c.open_service.ensures.flat

pub returns-in-Notify-clause-answer : goal.returns-in-Notify-clause-answer
returns-in-Notify-clause-answer c =
    rw (c.in-Notify.is, ← c.limits-limits.ensures) (c.put_reply-in-Notify.ensures ∙ ap answer.Reply c.notify.ensures.reply)

pub returns-in-Notify-clause-flat : goal.returns-in-Notify-clause-flat
returns-in-Notify-clause-flat c = rw (c.in-Notify.is, ← c.limits-limits.ensures) c.notify.ensures.flat

pub returns-in-GetNotify-clause-answer : goal.returns-in-GetNotify-clause-answer
returns-in-GetNotify-clause-answer c = rw c.in-GetNotify.is (c.put_reply-in-GetNotify.ensures ∙ ap answer.Reply c.get_notify.ensures.reply)

pub returns-in-GetNotify-clause-flat : goal.returns-in-GetNotify-clause-flat
returns-in-GetNotify-clause-flat c = rw c.in-GetNotify.is c.get_notify.ensures.flat

pub returns-in-CloseNotify-clause-answer : goal.returns-in-CloseNotify-clause-answer
returns-in-CloseNotify-clause-answer c =
    rw c.in-CloseNotify.is (c.put_reply-in-CloseNotify.ensures ∙ ap answer.Reply c.close_notify.ensures.reply)

pub returns-in-CloseNotify-clause-flat : goal.returns-in-CloseNotify-clause-flat
returns-in-CloseNotify-clause-flat c = rw c.in-CloseNotify.is c.close_notify.ensures.flat

pub lock-requires-clause-room : goal.lock-requires-clause-room
lock-requires-clause-room c = rw c.in-Lock.is at c.requires.room

pub open_manager-requires-clause-room : goal.open_manager-requires-clause-room
open_manager-requires-clause-room c = rw c.in-OpenManager.is at c.requires.room

pub open_service-requires-clause-room : goal.open_service-requires-clause-room
open_service-requires-clause-room c = rw c.in-OpenService.is at c.requires.room

pub notify-requires-clause-handles : goal.notify-requires-clause-handles
notify-requires-clause-handles c = (rw c.in-Notify.is at c.requires.room).0

pub notify-requires-clause-registrations : goal.notify-requires-clause-registrations
notify-requires-clause-registrations c = (rw c.in-Notify.is at c.requires.room).1

pub call_made-requires-clause-uses : goal.call_made-requires-clause-uses
call_made-requires-clause-uses c =
    let w = c.in_default in
    uses c.args.request.now (record {
      close = w.not-Close;
      control = w.not-Control;
      delete = w.not-Delete;
      lock = w.not-Lock;
      query_status = c.requires.other;
      set_status = w.not-SetStatus;
      unlock = w.not-Unlock;
      open_manager = w.not-OpenManager;
      open_service = w.not-OpenService;
      notify = w.not-Notify;
      get_notify = w.not-GetNotify;
      close_notify = w.not-CloseNotify;
    })

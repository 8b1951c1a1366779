use Rattle.std.proofs.Common.{◌≡◌, None, Option, Some, subst, sym}
use Rattle.std.specs.Prelude.{Bool, IfOk, if◌then◌else◌}
use Rattle.trail_text.specs.Audits.{At}
use Rattle.trail_audit.specs.declared.auditor.Auditor.{Auditor}
use Rattle.trail_audit.specs.Along.{at_of}
use Rattle.trail_audit.specs.Heads.{Takes, head_at, head_next}
use Rattle.trail_audit.proofs.Placed.{entry_left, opening_taken}
use Rattle.trail_audit.proofs.auditor.Auditor.take_early.Goals as goal

pub returns-then-branch-clause-leads : goal.returns-then-branch-clause-leads
returns-then-branch-clause-leads c =
    let a : Auditor = c.args.self.now in
    let b : Auditor = record {
      alloc = a.alloc;
      head = c.take_head.new.head;
      searched = c.take_head.new.searched;
      entering = a.entering;
      is_due = a.is_due;
      due = a.due;
    } in
    opening_taken a b c.args.line.now c.requires.none c.requires.none
    (subst (λ (right : Bool). Takes (head_next (head_at a.head) c.args.line.now) a.head b.head right) c.if-branch.true
    c.in_ok-take_head.ensures.ok)

pub returns-in-Some-clause-leads : goal.returns-in-Some-clause-leads
returns-in-Some-clause-leads c =
    let a : Auditor = c.args.self.now in
    let left = entry_left a c.take_head.new.head c.args.line.now c.in-Some.start c.requires.none
    (subst (λ (right : Bool). Takes (head_next (head_at a.head) c.args.line.now) a.head c.take_head.new.head right) c.if-branch.false
    c.in_ok-take_head.ensures.ok) (sym c.in-Some.ensures) in
    subst (λ (led : Option At). IfOk c.take_first.result (λ right. led ≡ (if right then Some (at_of c.take_first.new.self) else None)))
    (sym left) c.take_first.ensures.leads

-- Where an auditor stands after a line.
use Rattle.std.proofs.Common.{ℕ, ◌≡◌, Bool, true, false, not, cond, List, [], Option, Some, None, Result, refl, sym, ap, ◌∙◌, subst}
use Rattle.std.specs.Prelude.{IfNone, IfOk, bytes_eq, if◌then◌else◌}
use Rattle.scm_core.specs.Managed.{Managed}
use Rattle.scm_text.specs.declared.OutOfMemory.{OutOfMemory}
use Rattle.trail_text.specs.Audits.{At, BeforeAnswer, InEntries, next}
use Rattle.trail_audit.specs.declared.auditor.Auditor.{Auditor}
use Rattle.trail_audit.specs.declared.head.Head.{Head}
use Rattle.trail_audit.specs.declared.head.Start.{Start}
use Rattle.trail_audit.specs.Along.{CanGoOn, at_by, at_of, later_at}
use Rattle.trail_audit.specs.Heads.{IsSound, Takes, first_next, head_at, head_next, opening_of, start_of}
use Rattle.trail_audit.proofs.Opened.{entry_then, head_then, nothing_then}

-- ## Among the entries

pub due_taken : (right : Bool) (due line : List ℕ) (m : Managed) → right ≡ bytes_eq due line
    → next (later_at true due m) line ≡ (if right then Some (later_at (not right) due m) else None)
due_taken true due line m is = ap (λ b. cond b (Some (InEntries m.limits m.steps m.flat)) None) (sym is)
due_taken false due line m is = ap (λ b. cond b (Some (InEntries m.limits m.steps m.flat)) None) (sym is)

-- after the line of an entry its answer is due
pub entry_taken : (right : Bool) (led : Option At) (due : List ℕ) (m : Managed)
    → led ≡ (if right then Some (BeforeAnswer due m.limits m.steps m.flat) else None)
    → led ≡ (if right then Some (later_at right due m) else None)
entry_taken true led due m is = is
entry_taken false led due m is = is

-- ## Before them

early : (a : Auditor) → a.entering ≡ None → at_of a ≡ head_at a.head
early a none = ap (λ (e : Option Managed). at_by e a) none

pub early_on : (a : Auditor) → a.entering ≡ None → IsSound a.head → CanGoOn a
early_on a none ready = subst (λ (e : Option Managed). IfNone e (IsSound a.head)) (sym none) ready

-- a line of the opening was taken
pub opening_taken : (a b : Auditor) (line : List ℕ) → a.entering ≡ None → b.entering ≡ None
    → Takes (head_next (head_at a.head) line) a.head b.head true → next (at_of a) line ≡ Some (at_of b)
opening_taken a b line none still takes =
    ap (λ at. next at line) (early a none) ∙ head_then a.head.stage a.head.lists line (head_at b.head) takes.0
    ∙ ap (λ at. Some at) (sym (early b still))

-- a line that is none of the opening
pub entry_left : (a : Auditor) (head : Head) (line : List ℕ) (start : Start) → a.entering ≡ None
    → Takes (head_next (head_at a.head) line) a.head head false → start_of head.stage ≡ Some start
    → next (at_of a) line ≡ first_next (opening_of start head.lists) line
entry_left a head line start none takes is =
    ap (λ at. next at line) (early a none)
    ∙ entry_then a.head.stage a.head.lists line start (ap (λ (h : Head). start_of h.stage) (sym takes.1) ∙ is) takes.0
    ∙ ap (λ (h : Head). first_next (opening_of start h.lists) line) (sym takes.1)

pub nothing_left : (a : Auditor) (head : Head) (line : List ℕ) → a.entering ≡ None
    → Takes (head_next (head_at a.head) line) a.head head false → start_of head.stage ≡ None → next (at_of a) line ≡ None
nothing_left a head line none takes is =
    ap (λ at. next at line) (early a none)
    ∙ nothing_then a.head.stage a.head.lists line (ap (λ (h : Head). start_of h.stage) (sym takes.1) ∙ is) takes.0

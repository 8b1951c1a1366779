use Rattle.std.proofs.Common.{◌≡◌, ◌∙◌, None, Some, ap, false, sym, true}
use Rattle.std.specs.Prelude.{if◌then◌else◌}
use Rattle.trail_text.specs.Audits.{next}
use Rattle.trail_audit.specs.Along.{Point, at_of, point}
use Rattle.trail_audit.proofs.Stretches.{line_done, line_wrong}
use Rattle.trail_audit.proofs.feeding.end_line.Goals as goal

pub returns-then-not-right-clause-fed : goal.returns-then-not-right-clause-fed
returns-then-not-right-clause-fed c =
    let a : Point = point c.args.auditor.now c.args.reading.now in
    let wrong : c.in-Ok.right ≡ false = (let t = c.if-not-right.true in cc) in
    line_wrong a c.requires.clean
    (ap (λ line. next a.at line) (sym c.as_slice.ensures.value) ∙ c.in-Ok.ensures.leads
    ∙ ap (λ right. if right then Some (at_of c.take_line.new.self) else None) wrong)

pub returns-clause-fed : goal.returns-clause-fed
returns-clause-fed c =
    let a : Point = point c.args.auditor.now c.args.reading.now in
    let b : Point = point c.take_line.new.self c.next_line.new.reading in
    let may : c.in-Ok.right ≡ true = (let t = c.if-not-right.false in cc) in
    line_done a b c.requires.clean c.next_line.ensures.pending c.next_line.ensures.number
    (ap (λ line. next a.at line) (sym c.as_slice.ensures.value) ∙ c.in-Ok.ensures.leads
    ∙ ap (λ right. if right then Some (at_of c.take_line.new.self) else None) may)

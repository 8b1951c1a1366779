use Rattle.std.proofs.Common.{◌≡◌, ◌∙◌, ap, sym}
use Rattle.std.specs.Prelude.{List, ℕ, Option}
use Rattle.sec_desc.specs.declared.value.Descriptor.{Descriptor}
use Rattle.scm_rules.specs.Security.{asked_security, descriptor_in, set_security_verdict}
use Rattle.scm_core.specs.Room.{nothing_made}
use Rattle.scm_core.specs.declared.room.Prepared.{Prepared}
use Rattle.scm_core.proofs.Making.{made_right}
use Rattle.scm_core.proofs.room.make_for_security.Goals as goal

abbrev setting : ℕ → Option (List ℕ) → Prepared
setting code kept = record nothing_made { code = code; security = kept }

pub returns : goal.returns
returns c =
    let f = c.args.tables.now.flat in
    let given = c.in_ok-given.given in
    let read : descriptor_in c.args.bytes.now ≡ given = sym (c.in_ok-given.ensures.given ∙ ap descriptor_in c.as_slice.ensures) in
    let code = c.set_security_verdict-code.result in
    made_right (setting code) c.asked_security-security.result c.made_of_security.result _ _ c.made_of_security.ensures
    c.asked_security-security.ensures.bytes
    (ap (λ (d : Option Descriptor). setting (set_security_verdict f c.args.caller c.args.handle c.args.parts d)
    (asked_security f c.args.caller c.args.handle c.args.parts d)) read
    ∙ ap (λ n. setting n (asked_security f c.args.caller c.args.handle c.args.parts given)) (sym c.set_security_verdict-code.ensures))

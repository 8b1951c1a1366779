use Rattle.std.proofs.Common.{refl}
use Rattle.std.proofs.lemmas.Option.{IfSome_then}
use Rattle.step_code.specs.Reading.{byte_list_at, n4_at, n8_at, set_security_at}
use Rattle.step_code.proofs.Passed.{onward}
use Rattle.step_code.proofs.requests_passed.after_set_security.Goals as goal

pub returns : goal.returns
unfolding set_security_at
returns c =
    IfSome_then c.after_byte_list.result c.after_byte_list.ensures (λ rest has.
    onward (n8_at c.args.bytes.now) _ c.in_ok-parts.parts.now rest.now c.in_ok-parts.ensures (λ handle.
    onward (n4_at c.in_ok-parts.parts.now) _ c.in_ok-descriptor.descriptor.now rest.now c.in_ok-descriptor.ensures (λ parts.
    onward (byte_list_at c.in_ok-descriptor.descriptor.now) _ rest.now rest.now has (λ descriptor. (_, refl)))))

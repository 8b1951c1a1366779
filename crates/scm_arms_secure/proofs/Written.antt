-- The descriptor that a service gets is a written one.
use Rattle.std.proofs.Common.{ℕ, ◌≡◌, List, Option, Some, refl, subst, sym}
use Rattle.std.specs.Prelude.{IfSome}
use Rattle.scm_model.specs.declared.flat.Flat.{Flat}
use Rattle.scm_model.specs.declared.flat.Service.{Service}
use Rattle.scm_model.specs.Rows.{held_service}
use Rattle.sec_desc.specs.Writing.{IsWritten}
use Rattle.scm_rules.specs.Security.{IsSecured, asked_security, descriptor_in}
use Rattle.scm_rules.proofs.Secured.{made_written}

pub written_now : (f : Flat) (caller handle parts : ℕ) (bytes : List ℕ) (found : Option Service) (security : List ℕ)
    → found ≡ held_service f caller handle → IfSome found IsSecured
    → Some security ≡ asked_security f caller handle parts (descriptor_in bytes) → IsWritten security
written_now f caller handle parts bytes found security is secured made =
    subst (λ (o : Option (List ℕ)). IfSome o IsWritten) (sym made)
    (made_written parts bytes (descriptor_in bytes) (held_service f caller handle) refl
    (subst (λ (o : Option Service). IfSome o IsSecured) is secured))

-- What is made for a call of a value that there may be no memory for.
use Rattle.std.proofs.Common.{◌≡◌, ◌∙◌, ap, subst, sym}
use Rattle.std.specs.Prelude.{Result, Ok, Err, IfOk}
use Rattle.scm_text.specs.declared.OutOfMemory.{OutOfMemory}
use Rattle.scm_core.specs.declared.room.Prepared.{Prepared}
use Rattle.scm_core.specs.Room.{made_with}

pub made_right : {T : Type 0} (make : T → Prepared) (given : Result T OutOfMemory) (made : Result Prepared OutOfMemory) (value : T)
    (wanted : Prepared) → made ≡ made_with make given → IfOk given (λ x. x ≡ value) → wanted ≡ make value → IfOk made (λ p. p ≡ wanted)
made_right make (Ok x) made value wanted is right so =
    subst (λ (r : Result Prepared OutOfMemory). IfOk r (λ p. p ≡ wanted)) (sym is) (ap make right ∙ sym so)
made_right make (Err fault) made value wanted is right so =
    subst (λ (r : Result Prepared OutOfMemory). IfOk r (λ p. p ≡ wanted)) (sym is) tt

-- What a reader answers whose two clauses say when it is Ok, and with what.
use Rattle.std.proofs.Common.{◌≡◌, ◌↔◌, true≢false, refl, sym}
use Rattle.std.specs.Prelude.{Option, None, Some, Result, Ok, Err, IsOk, IfOk}
use Rattle.std.specs.Result.{result_ok}

pub ok_is : {A E : Type 0} (r : Result A E) (o : Option A) → (IsOk r ↔ ((x : A) × (o ≡ Some x))) → IfOk r (λ x. Some x ≡ o)
    → result_ok r ≡ o
ok_is (Ok x) o ok value = value
ok_is (Err e) None ok value = refl
ok_is (Err e) (Some x) ok value = absurd (true≢false (sym (ok.1 (x, refl))))

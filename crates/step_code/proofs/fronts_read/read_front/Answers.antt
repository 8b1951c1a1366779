use Rattle.std.proofs.Common.{IfOk, List, ap, option_map, subst, ℕ, ◌≡◌, ◌∙◌}
use Rattle.step_code.specs.Fronts.{front_at}
use Rattle.step_code.specs.declared.fronts_read.Front.{Front}
use Rattle.step_code.proofs.Fronts.{front_again}
use Rattle.step_code.proofs.fronts_read.read_front.Goals as goal

pub returns-clause-read_back : goal.returns-clause-read_back
returns-clause-read_back c = λ entry rest fits e.
    subst (λ x. IfOk c.decoded_front.result (λ read. option_map {U = Front × List ℕ} (λ f. (f.front, f.rest.now)) read ≡ x))
    (ap front_at e ∙ front_again entry rest fits) c.decoded_front.ensures

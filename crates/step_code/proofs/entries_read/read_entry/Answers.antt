use Rattle.std.proofs.Common.{IfOk, List, ap, arith, option_map, subst, ℕ, ◌≡◌, ◌∙◌}
use Rattle.scm_model.specs.Entries.{Entry}
use Rattle.step_code.specs.Reading.{entry_at}
use Rattle.step_code.proofs.Entries.{entry_again}
use Rattle.step_code.proofs.TakenEntries.{found_of}
use Rattle.step_code.proofs.entries_read.read_entry.Goals as goal

pub returns-clause-found : goal.returns-clause-found
returns-clause-found c =
    found_of (λ e. ((e.moment, e.step), e.rest.now)) c.decoded.result c.args.bytes.now (λ i. omega (arith, c.type_inv.bytes i))
    c.decoded.ensures

pub returns-clause-read_back : goal.returns-clause-read_back
returns-clause-read_back c = λ entry rest fits e.
    subst (λ x. IfOk c.decoded.result (λ read. option_map {U = Entry × List ℕ} (λ d. ((d.moment, d.step), d.rest.now)) read ≡ x))
    (ap entry_at e ∙ entry_again entry rest fits) c.decoded.ensures

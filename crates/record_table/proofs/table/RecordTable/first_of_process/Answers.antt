use Rattle.std.proofs.Common.{◌≡◌, ◌∙◌, List, Option, None, Some, ℕ, ap, map}
use Rattle.std.specs.Prelude.{option_map, slice_get}
use Rattle.number_pairs.specs.declared.pairs.Pair.{Pair}
use Rattle.scm_model.specs.Processes.{currents_in, is_by}
use Rattle.scm_model.specs.declared.flat.Service.{Service}
use Rattle.record_table.specs.Recorded.{first_with, service_at}
use Rattle.record_table.proofs.Finding.{first_is, first_row}
use Rattle.record_table.proofs.Processes.{first_number}
use Rattle.record_table.proofs.table.RecordTable.first_of_process.Goals as goal

abbrev numbers : List Pair → List ℕ
numbers pairs = map (λ (pair : Pair). pair.number) pairs

number_found : (found : Option Pair) (pairs : List Pair) (process : ℕ) (rows : List Service) → found ≡ slice_get pairs 0
    → numbers pairs ≡ currents_in process rows
    → option_map (λ (pair : Pair). pair.number) found ≡ first_with (is_by process) rows
number_found found pairs process rows first all =
    ap (option_map (λ (pair : Pair). pair.number)) first ∙ first_number pairs
    ∙ ap (λ (ns : List ℕ). slice_get ns 0) all ∙ first_is (is_by process) rows

pub returns-in-Some-clause-number : goal.returns-in-Some-clause-number
returns-in-Some-clause-number c =
    let process = c.args.process in
    rw (← c.self.view_is) (number_found (Some c.in-Some.pair.now) c.at.result.now process c.self.inside.rows.items c.in-Some.ensures.value
    (ap numbers c.at.ensures.pairs ∙ c.self.invariant.processes process))

pub returns-in-Some-clause-row : goal.returns-in-Some-clause-row
returns-in-Some-clause-row c =
    let process = c.args.process in
    let rows = c.self.inside.rows.items in
    rw (← c.self.view_is) (ap (service_at rows) (number_found (Some c.in-Some.pair.now) c.at.result.now process rows
    c.in-Some.ensures.value (ap numbers c.at.ensures.pairs ∙ c.self.invariant.processes process))
    ∙ first_row (is_by process) rows c.self.invariant.rising)

pub returns-in-None-clause-number : goal.returns-in-None-clause-number
returns-in-None-clause-number c =
    let process = c.args.process in
    rw (← c.self.view_is) (number_found None c.at.result.now process c.self.inside.rows.items c.in-None.ensures.value
    (ap numbers c.at.ensures.pairs ∙ c.self.invariant.processes process))

pub returns-in-None-clause-row : goal.returns-in-None-clause-row
returns-in-None-clause-row c =
    let process = c.args.process in
    let rows = c.self.inside.rows.items in
    rw (← c.self.view_is) (ap (service_at rows) (number_found None c.at.result.now process rows
    c.in-None.ensures.value (ap numbers c.at.ensures.pairs ∙ c.self.invariant.processes process))
    ∙ first_row (is_by process) rows c.self.invariant.rising)

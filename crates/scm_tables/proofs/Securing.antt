-- Services' security descriptors, and what a change of one keeps.
use Rattle.std.proofs.Common.{ℕ, ◌≡◌, ◌==◌, true, false, cond, List, refl}
use Rattle.std.specs.Prelude.{Result, Ok, Err}
use Rattle.failure_actions.specs.Failing.{on_failure}
use Rattle.scm_model.specs.declared.flat.Config.{Config}
use Rattle.scm_model.specs.declared.flat.Service.{Service}
use Rattle.scm_model.specs.declared.flat.Status.{Status}
use Rattle.scm_model.specs.Changes.{configured_if}
use Rattle.scm_rules.specs.Controls.{unasked_if}
use Rattle.scm_rules.specs.Failures.{counted_if}
use Rattle.scm_rules.specs.Needs.{need_row}
use Rattle.scm_rules.specs.Reports.{moved_by, reported_if}
use Rattle.scm_rules.specs.Security.{secured_if}
use Rattle.scm_rules.proofs.Secured.{secured_or}
use Rattle.start_plan.proofs.Rows.{started_or}
use Rattle.start_plan.specs.Entered.{started_if}
use Rattle.status_machine.specs.Moves.{take_report}
use Rattle.scm_tables.specs.Failed.{fallen_at}
use Rattle.scm_tables.proofs.Keeping.{fallen_or, unasked_or}

-- ## Changes that keep each descriptor

pub started_security : (number process : ℕ) (row : Service) → (started_if number process row).security ≡ row.security
started_security number process row = started_or (λ new. new.security ≡ row.security) number process row (λ e. refl) refl

pub fallen_security : (number code : ℕ) (row : Service) → (fallen_at number code row).security ≡ row.security
fallen_security number code row = fallen_or (λ new. new.security ≡ row.security) number code row refl refl

moved_security : (row : Service) (told : Result Status ℕ) → (moved_by row told).security ≡ row.security
moved_security row (Ok status) = refl
moved_security row (Err code) = refl

pub reported_security : (number : ℕ) (report : Status) (row : Service) → (reported_if number report row).security ≡ row.security
reported_security number report row =
    elim (row.number == number) as (λ b. (cond b (moved_by row (take_report row.status report)) row).security ≡ row.security)
    [ true ↦ moved_security row (take_report row.status report) | false ↦ refl ]

pub unasked_security : (number : ℕ) (row : Service) → (unasked_if number row).security ≡ row.security
unasked_security number row = unasked_or (λ new. new.security ≡ row.security) number row refl refl

pub counted_security : (number moment : ℕ) (row : Service) → (counted_if number moment row).security ≡ row.security
counted_security number moment row =
    elim (row.number == number) as (λ b. (cond b (record row {
      failures =
          (on_failure row.config row.failures row.last_failure moment).failures;
      last_failure = moment;
    }) row).security ≡ row.security)
    [ true ↦ refl | false ↦ refl ]

pub configured_security : (number : ℕ) (config : Config) (row : Service) → (configured_if number config row).security ≡ row.security
configured_security number config row =
    elim (row.number == number) as (λ b. (cond b (record row { config = config; status = record row.status { kind = config.kind } })
    row).security ≡ row.security)
    [ true ↦ refl | false ↦ refl ]

-- ## A descriptor that is set

pub secured_config : (number : ℕ) (security : List ℕ) (row : Service) → (secured_if number security row).config ≡ row.config
secured_config number security row = secured_or (λ new. new.config ≡ row.config) number security row refl refl

pub secured_number : (number : ℕ) (security : List ℕ) (row : Service) → (secured_if number security row).number ≡ row.number
secured_number number security row = secured_or (λ new. new.number ≡ row.number) number security row refl refl

pub secured_needs : (number : ℕ) (security : List ℕ) (row : Service) → need_row (secured_if number security row) ≡ need_row row
secured_needs number security row = secured_or (λ new. need_row new ≡ need_row row) number security row refl refl

pub secured_mark : (number : ℕ) (security : List ℕ) (row : Service) → (secured_if number security row).marked ≡ row.marked
secured_mark number security row = secured_or (λ new. new.marked ≡ row.marked) number security row refl refl

pub secured_state : (number : ℕ) (security : List ℕ) (row : Service) → (secured_if number security row).status.state ≡ row.status.state
secured_state number security row = secured_or (λ new. new.status.state ≡ row.status.state) number security row refl refl

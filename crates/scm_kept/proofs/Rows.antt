-- What leaves the configurations of the services that aren't marked.
use Rattle.std.proofs.Common.{ℕ, ◌≡◌, ◌∙◌, Bool, true, false, cond, not, List, [], ◌∷◌, filter, map, ap, refl, inl, inr}
use Rattle.std.specs.List.{AllZip}
use Rattle.scm_model.specs.declared.flat.Config.{Config}
use Rattle.scm_model.specs.declared.flat.HandleRow.{HandleRow}
use Rattle.scm_model.specs.declared.flat.Process.{Process}
use Rattle.scm_model.specs.declared.flat.Service.{Service}
use Rattle.scm_model.specs.Purge.{leaves}
use Rattle.scm_runs.proofs.Settling.{AreSettled, IsSettled}
use Rattle.scm_kept.specs.Replayed.{unmarked}

abbrev pub stays : Service → Bool
stays row = not row.marked

abbrev pub config_of : Service → Config
config_of row = row.config

-- one mark and one configuration
pub record IsBare (old new : Service) : Type 0 where
  pub mark : new.marked ≡ old.marked
  pub config : new.config ≡ old.config

pub bare_unmarked : (olds news : List Service) → AllZip IsBare olds news → unmarked news ≡ unmarked olds
bare_unmarked [] [] each = refl
bare_unmarked [] (new ∷ news) each = absurd each
bare_unmarked (old ∷ olds) [] each = absurd each
bare_unmarked (old ∷ olds) (new ∷ news) each =
    let rest = bare_unmarked olds news each.1 in
    ap (λ mark. map config_of (cond (not mark) (new ∷ filter stays news) (filter stays news))) each.0.mark
    ∙ elim old.marked as (λ mark. map config_of (cond (not mark) (new ∷ filter stays news) (filter stays news)) ≡ map config_of
    (cond (not mark) (old ∷ filter stays olds) (filter stays olds)))
    [ true ↦ rest | false ↦ ap (λ config. config ∷ unmarked news) each.0.config ∙ ap (λ configs. old.config ∷ configs) rest ]

-- ## Settling

one_settled : (next bound : ℕ) (listed : List Process) (old new : Service) → IsSettled next bound listed old new → IsBare old new
one_settled next bound listed old new (inl same) = record { mark = ap (λ (row : Service). row.marked) same; config = ap config_of same }
one_settled next bound listed old new (inr is) =
    record { mark = ap (λ (row : Service). row.marked) is.entered; config = ap config_of is.entered }

all_settled : (next bound : ℕ) (listed : List Process) (olds news : List Service) → AreSettled next bound listed olds news
    → AllZip IsBare olds news
all_settled next bound listed [] [] each = tt
all_settled next bound listed [] (new ∷ news) each = absurd each
all_settled next bound listed (old ∷ olds) [] each = absurd each
all_settled next bound listed (old ∷ olds) (new ∷ news) each =
    (one_settled next bound listed old new each.0, all_settled next bound listed olds news each.1)

pub settled_unmarked : (next bound : ℕ) (listed : List Process) (olds news : List Service) → AreSettled next bound listed olds news
    → unmarked news ≡ unmarked olds
settled_unmarked next bound listed olds news each = bare_unmarked olds news (all_settled next bound listed olds news each)

-- ## Services that leave

filtered_unmarked : (p : Service → Bool) → ((row : Service) → row.marked ≡ false → p row ≡ true) → (rows : List Service)
    → unmarked (filter p rows) ≡ unmarked rows
filtered_unmarked p passes [] = refl
filtered_unmarked p passes (row ∷ rows) =
    let rest = filtered_unmarked p passes rows in
    elim row.marked as (λ mark. row.marked ≡ mark → unmarked (filter p (row ∷ rows)) ≡ map config_of
    (cond (not mark) (row ∷ filter stays rows) (filter stays rows))) [
      | true ↦ λ e. elim (p row) as (λ b. unmarked (cond b (row ∷ filter p rows) (filter p rows)) ≡ unmarked rows) [
        | true ↦ rw e rest
        | false ↦ rest
      ]
      | false ↦ λ e. rw (passes row e, e) (ap (λ configs. row.config ∷ configs) rest)
    ] refl

unmarked_stays : (handles : List HandleRow) (row : Service) → row.marked ≡ false → not (leaves handles row) ≡ true
unmarked_stays handles row e = rw e refl

pub purged_unmarked : (handles : List HandleRow) (rows : List Service) →
    unmarked (filter (λ (row : Service). not (leaves handles row)) rows) ≡ unmarked rows
purged_unmarked handles rows = filtered_unmarked (λ (row : Service). not (leaves handles row)) (unmarked_stays handles) rows

-- A level of a configuration changes nothing by which services are known, started or needed.
use Rattle.std.proofs.Common.{ℕ, ◌≡◌, ◌∙◌, ◌==◌, true, false, cond, List, [], ◌∷◌, None, Some, map, ap, sym, refl, subst}
use Rattle.std.specs.Prelude.{All}
use Rattle.std.proofs.lemmas.List.Elements.{All-head, All-tail, All-weaker}
use Rattle.scm_model.specs.declared.flat.Config.{Config}
use Rattle.scm_model.specs.declared.flat.Flat.{Flat}
use Rattle.scm_model.specs.declared.flat.NeedRow.{NeedRow}
use Rattle.scm_model.specs.declared.flat.Service.{Service}
use Rattle.scm_model.specs.declared.calls.Info.{Info}
use Rattle.scm_model.specs.declared.calls.Info.TheVariants as info
use Rattle.scm_model.specs.Changes.{configured_if}
use Rattle.scm_rules.specs.Change2.{config_at, level_config}
use Rattle.scm_rules.specs.Needs.{need_row, need_row_of, need_rows}
use Rattle.scm_rules.proofs.Needed.{HasNoCycle, replaced}
use Rattle.scm_model.specs.Needs.{needs_of}
use Rattle.scm_model.specs.Walks.{IsAcyclic}
use Rattle.scm_runs.proofs.Configured.{IsFound}
use Rattle.scm_runs.proofs.Lists.{found_only}
use Rattle.scm_runs.proofs.Rows.{AreServices}

-- what a level leaves is as it was
pub level_leaves : (asked : Info) (old : Config) → config_at asked old ≡ record old {
  description = (config_at asked old).description;
  reset = (config_at asked old).reset;
  actions = (config_at asked old).actions;
  command = (config_at asked old).command;
  on_exit = (config_at asked old).on_exit;
  delayed = (config_at asked old).delayed;
  triggers = (config_at asked old).triggers;
}
level_leaves (info.Description text) old = refl
level_leaves (info.Failure reset command None) old = refl
level_leaves (info.Failure reset command (Some [])) old = refl
level_leaves (info.Failure reset command (Some (action ∷ actions))) old = refl
level_leaves (info.Delayed on) old = refl
level_leaves (info.OnExit on) old = refl
level_leaves (info.Triggers list) old = refl
level_leaves (info.Other level) old = refl
level_leaves (info.Nothing level) old = refl

pub name_left : (asked : Info) (row : Service) → (level_config asked row).name ≡ row.config.name
name_left asked row = ap (λ (config : Config). config.name) (level_leaves asked row.config)

pub display_left : (asked : Info) (row : Service) → (level_config asked row).display ≡ row.config.display
display_left asked row = ap (λ (config : Config). config.display) (level_leaves asked row.config)

pub kind_left : (asked : Info) (row : Service) → (level_config asked row).kind ≡ row.config.kind
kind_left asked row = ap (λ (config : Config). config.kind) (level_leaves asked row.config)

-- ## Needs

need_left : (number : ℕ) (asked : Info) (one row : Service) → ((row.number == number) ≡ true → row ≡ one)
    → need_row (configured_if number (level_config asked one) row) ≡ need_row row
need_left number asked one row only =
    elim (row.number == number) as (λ b. (row.number == number) ≡ b → need_row
    (cond b (replaced (level_config asked one) row) row) ≡ need_row row) [
      | true ↦ λ e. ap (need_row_of row.number) (level_leaves asked one.config)
          ∙ ap (λ (r : Service). need_row_of row.number r.config) (sym (only e))
      | false ↦ λ e. refl
    ] refl

rows_left : (change : Service → Service) (rows : List Service) → All (λ row. need_row (change row) ≡ need_row row) rows
    → need_rows (map change rows) ≡ need_rows rows
rows_left change [] same = refl
rows_left change (row ∷ rows) same =
    ap (λ (r : NeedRow). r ∷ need_rows (map change rows)) (All-head (λ r. need_row (change r) ≡ need_row r) row rows same)
    ∙ ap (λ (rs : List NeedRow). need_row row ∷ rs) (rows_left change rows (All-tail (λ r. need_row (change r) ≡ need_row r) row rows same))

-- the needs are those that they were
pub needs_left : (f : Flat) (asked : Info) (row : Service) → AreServices f.next.service f.next.process f.services → IsFound f row.number row
    → HasNoCycle (map (configured_if row.number (level_config asked row)) f.services)
needs_left f asked row s found =
    let change = configured_if row.number (level_config asked row) in
    let each = All-weaker (λ (r : Service). (r.number == row.number) ≡ true → r ≡ row) (λ (r : Service). need_row (change r) ≡ need_row r)
    (λ r only. need_left row.number asked row r only) f.services
    (found_only (λ (r : Service). r.number) row.number row f.services s.numbered.rising found) in
    subst (λ (g : List NeedRow). IsAcyclic (needs_of g)) (sym (rows_left change f.services each)) s.acyclic

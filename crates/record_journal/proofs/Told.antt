-- What is told of a change is whether it can be replayed.
use Rattle.std.proofs.Common.{ℕ, ◌≡◌, ◌∙◌, ◌<◌, ◌&&◌, not, ◌==◌, Bool, true, false, cond, List, [], ◌∷◌, ◌++◌, Some, filter, map, length}
use Rattle.std.proofs.Common.{refl, sym, ap, subst, nat_lt, lt-ltb}
use Rattle.std.specs.List.{AllByRecursion, list_any}
use Rattle.std.proofs.lemmas.List.{map-append}
use Rattle.std.proofs.lemmas.List.Elements.{All-from_recursion}
use Rattle.scm_text.specs.Fold.{same_text}
use Rattle.scm_model.specs.declared.flat.Config.{Config}
use Rattle.scm_model.specs.declared.flat.Service.{Service}
use Rattle.scm_model.specs.declared.steps.Change.TheVariants.{Created, Changed}
use Rattle.scm_model.specs.Changes.{configured_if, new_service}
use Rattle.scm_model.specs.Needs.{with_row}
use Rattle.scm_model.specs.Order.{is_cyclic}
use Rattle.row_slab.specs.Rowed.{AreRisingBy}
use Rattle.record_table.specs.Recorded.{change_at, first_with, is_named, number_of, with_config, without}
use Rattle.record_table.proofs.Rising.{rising_map, rising_push}
use Rattle.scm_rules.specs.Create.{new_status}
use Rattle.scm_rules.specs.Needs.{need_row_of, need_rows}
use Rattle.scm_rules.proofs.Needed.{rows_added, rows_configured}
use Rattle.record_journal.specs.Entries.{can_replay, has_name, is_fit, needs_in}
use Rattle.record_journal.specs.Opening.{CanBegin}
use Rattle.record_journal.specs.Replay.{replaced_by}
use Rattle.record_journal.specs.Services.{configs_of}
use Rattle.record_journal.proofs.Begins.{names_apart}
use Rattle.record_journal.proofs.ByName.{HasItsName, is_first, named_once, removed_configs, replaced_configs}
use Rattle.record_journal.proofs.Renumbered.{same_cycles}

pub created_told : (rows : List Service) (config : Config) (number : ℕ) (cyclic : Bool) → AreRisingBy number_of rows
    → AllByRecursion (λ (row : Service). row.number < number) rows
    → list_any (has_name config.name) (configs_of rows) ≡ false → length (configs_of rows) < 1024 → is_fit (configs_of rows) config ≡ true
    → cyclic ≡ is_cyclic (with_row (need_rows rows) (need_row_of number config))
    → not cyclic ≡ can_replay (configs_of rows) (Created config)
created_told rows config number cyclic rising above fresh few fit is =
    let new : Service = new_service number config (new_status config.kind) in
    let more : List Config = configs_of rows ++ config ∷ [] in
    let all : (not (list_any (has_name config.name) (configs_of rows)) && nat_lt (length (configs_of rows)) 1024 && is_fit
    (configs_of rows) config) ≡ true = rw (fresh, lt-ltb (length (configs_of rows)) 1024 few, fit) refl in
    let graph : need_rows (rows ++ new ∷ []) ≡ with_row (need_rows rows) (need_row_of number config) =
    rows_added rows new (All-from_recursion (λ (row : Service). row.number < number) rows above) in
    let whole : configs_of (rows ++ new ∷ []) ≡ more = map-append (λ (row : Service). row.config) rows (new ∷ []) in
    let cycles : is_cyclic (with_row (need_rows rows) (need_row_of number config)) ≡ is_cyclic (needs_in more) =
    ap is_cyclic (sym graph) ∙ same_cycles (rows ++ new ∷ []) (rising_push rows new rising above)
    ∙ ap (λ (configs : List Config). is_cyclic (needs_in configs)) whole in
    ap not (is ∙ cycles) ∙ ap (λ b. b && not (is_cyclic (needs_in more))) (sym all)

same_number : (n : ℕ) (config : Config) (row : Service) → (configured_if n config row).number ≡ row.number
same_number n config row =
    elim (row.number == n) as (λ b. (cond b (record row { config = config; status = record row.status { kind = config.kind } }) row).number
    ≡ row.number) [ true ↦ refl | false ↦ refl ]

named_so : (rows : List Service) (name : List ℕ) (number : ℕ) → AreRisingBy number_of rows → CanBegin (configs_of rows)
    → Some number ≡ first_with (is_named name) rows → AllByRecursion (HasItsName name number) rows
named_so rows name number rising begins named =
    let old = is_first (is_named name) rows number named rising in
    subst (λ n. AllByRecursion (HasItsName name n) rows) old.has
    (named_once name rows old.row rising (names_apart (configs_of rows) begins) old.found)

pub configured_told : (rows : List Service) (config : Config) (number : ℕ) (cyclic : Bool) → AreRisingBy number_of rows
    → CanBegin (configs_of rows) → Some number ≡ first_with (is_named config.name) rows
    → list_any (has_name config.name) (configs_of rows) ≡ true → is_fit (configs_of rows) config ≡ true
    → cyclic ≡ is_cyclic (with_row (need_rows rows) (need_row_of number config))
    → not cyclic ≡ can_replay (configs_of rows) (Changed config)
configured_told rows config number cyclic rising begins named there fit is =
    let old = is_first (is_named config.name) rows number named rising in
    let more : List Config = map (replaced_by config) (configs_of rows) in
    let all : (list_any (has_name config.name) (configs_of rows) && is_fit (configs_of rows) config) ≡ true = rw (there, fit) refl in
    let graph : need_rows (map (configured_if number config) rows) ≡ with_row (need_rows rows) (need_row_of number config) =
    rows_configured number config old.row rows old.at in
    let once = named_so rows config.name number rising begins named in
    let whole : configs_of (map (configured_if number config) rows) ≡ more =
    replaced_configs number config (λ (row : Service). record row { config = config; status = record row.status { kind = config.kind } })
    (λ row. refl) rows once in
    let cycles : is_cyclic (with_row (need_rows rows) (need_row_of number config)) ≡ is_cyclic (needs_in more) =
    ap is_cyclic (sym graph) ∙ same_cycles (map (configured_if number config) rows)
    (rising_map (configured_if number config) (same_number number config) rows rising)
    ∙ ap (λ (configs : List Config). is_cyclic (needs_in configs)) whole in
    ap not (is ∙ cycles) ∙ ap (λ b. b && not (is_cyclic (needs_in more))) (sym all)

pub configured : (rows : List Service) (config : Config) (number : ℕ) → AreRisingBy number_of rows → CanBegin (configs_of rows)
    → Some number ≡ first_with (is_named config.name) rows
    → configs_of (change_at number (with_config config) rows) ≡ map (replaced_by config) (configs_of rows)
configured rows config number rising begins named =
    replaced_configs number config (with_config config) (λ row. refl) rows (named_so rows config.name number rising begins named)

pub left_out : (rows : List Service) (name : List ℕ) (number : ℕ) → AreRisingBy number_of rows → CanBegin (configs_of rows)
    → Some number ≡ first_with (is_named name) rows
    → configs_of (without number rows) ≡ filter (λ (old : Config). not (same_text old.name name)) (configs_of rows)
left_out rows name number rising begins named =
    removed_configs number name rows (named_so rows name number rising begins named)

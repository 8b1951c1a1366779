-- No text of a configuration that is accepted is too long to be told of.
use Rattle.std.proofs.Common.{ℕ, ◌≡◌, ◌≤◌, ◌==◌, ◌||◌, ◌&&◌, true, false, not, eqb-true, List, [], ◌∷◌, length, None, refl, arith}
use Rattle.std.proofs.Common.{ltb-false}
use Rattle.std.specs.Prelude.{All, codes, nat_lt}
use Rattle.std.specs.List.{list_any}
use Rattle.std.specs.Char.Utf16.{has_unpaired_surrogate}
use Rattle.std.proofs.lemmas.List.{length-append}
use Rattle.std.proofs.lemmas.List.Concat.{length-flat_map}
use Rattle.std.proofs.lemmas.List.Elements.{All-weaker}
use Rattle.std.proofs.lemmas.List.Sums.{sum_by-le}
use Rattle.scm_model.specs.declared.flat.Config.{Config}
use Rattle.scm_model.specs.declared.flat.Need.{Need}
use Rattle.scm_model.specs.declared.flat.Need.TheVariants as needs
use Rattle.scm_model.specs.declared.flat.Action.{Action}
use Rattle.scm_model.specs.declared.flat.Flat.{Flat}
use Rattle.scm_model.specs.declared.flat.Service.{Service}
use Rattle.service_record.specs.Checks.{check_new, has_bad_lists, has_bad_names, has_bad_numbers, has_bad_texts, is_bad_account}
use Rattle.service_record.specs.Checks.{is_bad_line, is_bad_name, is_longer, name_of_need}
use Rattle.service_record.specs.Words.{has_word}
use Rattle.scm_rules.specs.QueryConfig.{shown_need, shown_needs}
use Rattle.scm_runs.specs.Sizes.{IsToldWhole}
use Rattle.scm_runs.proofs.Calls.{all_pass}
use Rattle.scm_runs.proofs.Lists.{none_any}
use Rattle.scm_runs.proofs.Sound.{Sound}
use Rattle.std.proofs.lemmas.Bool.{or_parts}

shown_short : (need : Need) → is_longer 256 (name_of_need need) ≡ false → length (shown_need need) ≤ 258
shown_short (needs.Service name) e = let short = ltb-false 256 (length name) e in let long = length-append name (codes "/") in omega arith
shown_short (needs.Group name) e =
    let short = ltb-false 256 (length name) e in
    let long = length-append name (codes "/") in
    omega arith

needs_short : (rows : List Need) → length rows ≤ 512 → list_any (λ need. is_longer 256 (name_of_need need)) rows ≡ false
    → length (shown_needs rows) ≤ 132096
needs_short rows few short =
    let each = All-weaker (λ need. is_longer 256 (name_of_need need) ≡ false) (λ need. length (shown_need need) ≤ 258) shown_short rows
    (none_any (λ need. is_longer 256 (name_of_need need)) rows short) in
    let long = length-flat_map shown_need rows in
    let least = sum_by-le (λ need. length (shown_need need)) 258 rows each in
    omega arith

pub record AreShort (config : Config) : Type 0 where
  pub name : length config.name ≤ 256
  pub display : length config.display ≤ 256
  pub path : length config.path ≤ 2048
  pub group : length config.group ≤ 256
  pub needs : length (shown_needs config.needs) ≤ 132096
  pub command : length config.command ≤ 2048

line_short : (line : List ℕ) → is_bad_line line ≡ false → length line ≤ 2048
line_short line fine =
    ltb-false 2048 (length line) (or_parts (not (has_word line)) (is_longer 2048 line)
    (or_parts (not (has_word line) || is_longer 2048 line) (has_unpaired_surrogate line) fine).0).1

-- a line that may be empty
short_or_none : (line : List ℕ) → (not (length line == 0) && is_bad_line line) ≡ false → length line ≤ 2048
short_or_none line fine =
    elim (length line == 0) as (λ b. (length line == 0) ≡ b → (not b && is_bad_line line) ≡ false → length line ≤ 2048)
    [ true ↦ λ e h. (let none = eqb-true (length line) 0 e in omega (arith, none)) | false ↦ λ e h. line_short line h ] refl fine

pub are_short : (config : Config) → check_new config None ≡ 0 → AreShort config
unfolding check_new
are_short config e =
    let p = all_pass ((has_bad_names config, 123) ∷ (has_bad_numbers config || has_bad_texts config || has_bad_lists config, 87) ∷
    (is_bad_account None, 1057) ∷ []) (refl, (refl, (refl, tt))) e in
    let names = or_parts (is_bad_name config.name) (is_longer 256 config.display) p.0 in
    let name = or_parts (length config.name == 0) (is_longer 256 config.name)
    (or_parts (length config.name == 0 || is_longer 256 config.name) _ names.0).0 in
    let parts = or_parts (has_bad_numbers config || has_bad_texts config) (has_bad_lists config) p.1.0 in
    let lines = or_parts (is_bad_line config.path || is_longer 256 config.group || is_longer 2048 config.description) _
    (or_parts (has_bad_numbers config) (has_bad_texts config) parts.0).1 in
    let texts = or_parts (is_bad_line config.path || is_longer 256 config.group) (is_longer 2048 config.description) lines.0 in
    let line = or_parts (is_bad_line config.path) (is_longer 256 config.group) texts.0 in
    let lists = or_parts (nat_lt 512 (length config.needs) || list_any (λ need. is_longer 256 (name_of_need need)) config.needs)
    (nat_lt 64 (length config.actions))
    (or_parts _ (list_any (λ (action : Action). nat_lt 3 action.what) config.actions)
    (or_parts _ (nat_lt 64 (length config.triggers)) parts.1).0).0 in
    let many = or_parts (nat_lt 512 (length config.needs)) (list_any (λ need. is_longer 256 (name_of_need need)) config.needs) lists.0 in
    record {
      name = ltb-false 256 (length config.name) name.1;
      display = ltb-false 256 (length config.display) names.1;
      path = line_short config.path line.0;
      group = ltb-false 256 (length config.group) line.1;
      needs = needs_short config.needs (ltb-false 512 (length config.needs) many.0) many.1;
      command = short_or_none config.command lines.1;
    }

pub all_short : (f : Flat) → Sound f → All (λ (row : Service). AreShort row.config) f.services
all_short f s = All-weaker (λ (row : Service). check_new row.config None ≡ 0) (λ (row : Service). AreShort row.config)
    (λ row e. are_short row.config e) f.services s.services.configs

whole : (row : Service) → check_new row.config None ≡ 0 → IsToldWhole row
whole row e =
    let short = are_short row.config e in
    let name = short.name in
    let display = short.display in
    let path = short.path in
    let group = short.group in
    let needs = short.needs in
    record { config = omega arith; name = omega arith; display = omega arith }

pub told_whole : (f : Flat) → Sound f → All IsToldWhole f.services
told_whole f s = All-weaker (λ (row : Service). check_new row.config None ≡ 0) IsToldWhole whole f.services s.services.configs

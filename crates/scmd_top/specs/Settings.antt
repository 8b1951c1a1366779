-- The options of a job, in any order, each at most once: `--name value` or `--name=value`, and `--export`, which has no value.
use Rattle.std.specs.Prelude.{ℕ, ◌&&◌, ◌==◌, Bool, false, true, not, nat_eq, nat_le, nat_lt, codes, List, [], ◌∷◌, length, Option, None}
use Rattle.std.specs.Prelude.{Some, option_and_then, option_map, if◌then◌else◌}
use Rattle.std.specs.Cmp.Lexicographic.{pointwise}
use Rattle.std.specs.List.{after_first, before_first, position_or_len}
use Rattle.scm_lines.specs.Words.{decimal_at, ◌>>=◌}
use Rattle.scm_model.specs.declared.flat.Principal.{Principal}
use Rattle.scm_model.specs.declared.flat.Principal.TheVariants.{Admin, User}
use Rattle.scmd_top.specs.declared.settings.Setting.{Setting}
use Rattle.scmd_top.specs.declared.settings.Setting.TheVariants.{AdminPort, UserPort, AdminTake, UserTake, As, File, Groups, Store}
use Rattle.scmd_top.specs.declared.settings.Settings.{Settings}

-- ## Names

abbrev pub is_word : List ℕ → List ℕ → Bool
is_word = pointwise nat_eq

abbrev pub setting_named : List ℕ → Option Setting
setting_named word =
    if is_word word (codes "--admin") then Some AdminPort
    else if is_word word (codes "--user") then Some UserPort
    else if is_word word (codes "--take-admin") then Some AdminTake
    else if is_word word (codes "--take-user") then Some UserTake
    else if is_word word (codes "--as") then Some As
    else if is_word word (codes "--db") then Some File
    else if is_word word (codes "--store") then Some Store
    else if is_word word (codes "--groups") then Some Groups
    else None

abbrev pub is_equals : ℕ → Bool
is_equals b = b == 61

-- a name and a value that stand in one word
abbrev pub named_value : List ℕ → Option (List ℕ × List ℕ)
named_value word =
    if nat_lt (position_or_len is_equals word) (length word) then Some (before_first is_equals word, after_first is_equals word) else None

-- ## Values

abbrev pub port_of : ℕ → Option ℕ
port_of number = if nat_le 1 number && nat_le number 65535 then Some number else None

abbrev pub count_in : ℕ → Option ℕ
count_in number = if nat_le number 4294967295 then Some number else None

abbrev pub principal_named : List ℕ → Option Principal
principal_named value =
    if is_word value (codes "admin") then Some Admin else
    if is_word value (codes "user") then Some User else None

-- a name of a file or a store and a list of groups aren't empty, and don't begin as an option does, with `-`
abbrev pub is_plain : List ℕ → Bool
is_plain [] = false
is_plain (b ∷ value) = not (b == 45)

-- a value, where none was given before
abbrev pub once : {A : Type 0} → (before : Option A) → (value : Option A) → Option A
once None value = value
once (Some before) value = None

abbrev pub with_option : Settings → Setting → List ℕ → Option Settings
with_option s AdminPort value = option_map (λ (n : ℕ). record s { admin = Some n; waits = None })
    (once s.admin (option_and_then port_of (decimal_at value)))
with_option s UserPort value = option_map (λ (n : ℕ). record s { user = Some n; waits = None })
    (once s.user (option_and_then port_of (decimal_at value)))
with_option s AdminTake value = option_map (λ (n : ℕ). record s { take_admin = Some n; waits = None })
    (once s.take_admin (option_and_then count_in (decimal_at value)))
with_option s UserTake value = option_map (λ (n : ℕ). record s { take_user = Some n; waits = None })
    (once s.take_user (option_and_then count_in (decimal_at value)))
with_option s As value = option_map (λ (p : Principal). record s { principal = Some p; waits = None })
    (once s.principal (principal_named value))
with_option s File value = if not s.file && is_plain value then Some (record s { file = true; waits = None }) else None
with_option s Store value = if not s.store && is_plain value then Some (record s { store = true; waits = None }) else None
with_option s Groups value = if not s.groups && is_plain value then Some (record s { groups = true; waits = None }) else None

-- ## Words

abbrev pub no_options : Settings
no_options = record {
  admin = None;
  user = None;
  take_admin = None;
  take_user = None;
  principal = None;
  file = false;
  store = false;
  groups = false;
  export = false;
  waits = None;
}

-- the option without a value, where it wasn't given before
abbrev pub with_export : Settings → Option Settings
with_export s = if s.export then None else Some (record s { export = true })

-- a name that stands alone in its word: of an option whose value is the next word, or that has none
abbrev pub with_alone : Settings → (word : List ℕ) → Option Settings
with_alone s word =
    if is_word word (codes "--export") then with_export s
    else option_map (λ (name : Setting). record s { waits = Some name }) (setting_named word)

-- a name, with its value or alone
abbrev pub with_name : Settings → (word : List ℕ) → Option (List ℕ × List ℕ) → Option Settings
with_name s word None = with_alone s word
with_name s word (Some pair) = setting_named pair.0 >>= λ name. with_option s name pair.1

-- one word further
abbrev pub with_word : Settings → Option Setting → List ℕ → Option Settings
with_word s None word = with_name s word (named_value word)
with_word s (Some name) word = with_option s name word

abbrev pub options_from : Settings → List (List ℕ) → Option Settings
options_from s [] = Some s
options_from s (word ∷ words) = with_word s s.waits word >>= λ now. options_from now words

-- ## Values that are texts

-- the value of an option in one word
abbrev pub value_in : (option : List ℕ) → Option (List ℕ × List ℕ) → Option (List ℕ)
value_in option None = None
value_in option (Some pair) = if is_word pair.0 option then Some pair.1 else None

abbrev pub or_else : {A : Type 0} → Option A → Option A → Option A
or_else None other = other
or_else (Some a) other = Some a

-- Which value the words of a job have for an option, of which one may wait for its value: no value of another option is written as an
-- option
-- is.
abbrev pub value_from : (option : List ℕ) → (waits : Bool) → List (List ℕ) → Option (List ℕ)
value_from option waits [] = None
value_from option true (word ∷ words) = Some word
value_from option false (word ∷ words) = or_else (value_in option (named_value word)) (value_from option (is_word word option) words)

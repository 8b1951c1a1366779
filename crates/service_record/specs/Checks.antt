-- The rules that a configuration has to keep.
use Rattle.std.specs.Prelude.{ℕ, Bool, false, not, ◌&&◌, ◌||◌, ◌==◌, nat_le, nat_lt, codes, List, [], ◌∷◌, length, Option, None, Some}
use Rattle.std.specs.List.{list_any}
use Rattle.std.specs.Char.Utf16.{has_unpaired_surrogate}
use Rattle.scm_text.specs.Fold.{same_text}
use Rattle.scm_model.specs.Refused.{first_refusal}
use Rattle.scm_model.specs.declared.flat.Config.{Config}
use Rattle.scm_model.specs.declared.flat.Action.{Action}
use Rattle.scm_model.specs.declared.flat.Need.{Need}
use Rattle.scm_model.specs.declared.flat.Need.TheVariants as needs
use Rattle.scm_model.specs.declared.codes.TheConstants.{ERROR_INVALID_NAME, ERROR_INVALID_PARAMETER, ERROR_INVALID_SERVICE_ACCOUNT}
use Rattle.scm_model.specs.declared.codes.TheConstants.{SERVICE_AUTO_START, SERVICE_DISABLED, SERVICE_ERROR_CRITICAL}
use Rattle.scm_model.specs.declared.codes.TheConstants.{SERVICE_WIN32_OWN_PROCESS, SERVICE_WIN32_SHARE_PROCESS}
use Rattle.service_record.specs.Words.{has_word}

abbrev pub is_longer : ℕ → List ℕ → Bool
is_longer units text = nat_lt units (length text)

-- a name is no name of a service: it is empty, longer than 256 units, or has / or \
abbrev pub is_bad_name : List ℕ → Bool
is_bad_name name = length name == 0 || is_longer 256 name || list_any (λ u. u == 47 || u == 92) name

abbrev pub has_bad_names : Config → Bool
has_bad_names config = is_bad_name config.name || is_longer 256 config.display

-- the type, the start or the error control is none that a service has; a delayed start is an automatic one
abbrev pub has_bad_numbers : Config → Bool
has_bad_numbers config =
    not (config.kind == SERVICE_WIN32_OWN_PROCESS || config.kind == SERVICE_WIN32_SHARE_PROCESS)
    || not (nat_le SERVICE_AUTO_START config.start && nat_le config.start SERVICE_DISABLED)
    || nat_lt SERVICE_ERROR_CRITICAL config.error
    || (config.delayed && not (config.start == SERVICE_AUTO_START))

-- a command line that can't be run
abbrev pub is_bad_line : List ℕ → Bool
is_bad_line line = not (has_word line) || is_longer 2048 line || has_unpaired_surrogate line

abbrev pub has_bad_texts : Config → Bool
has_bad_texts config =
    is_bad_line config.path
    || is_longer 256 config.group
    || is_longer 2048 config.description
    || (not (length config.command == 0) && is_bad_line config.command)

abbrev pub name_of_need : Need → List ℕ
name_of_need (needs.Service name) = name
name_of_need (needs.Group name) = name

abbrev pub has_bad_lists : Config → Bool
has_bad_lists config =
    nat_lt 512 (length config.needs) || list_any (λ need. is_longer 256 (name_of_need need)) config.needs
    || nat_lt 64 (length config.actions) || list_any (λ (action : Action). nat_lt 3 action.what) config.actions
    || nat_lt 64 (length config.triggers)

-- services run as LocalSystem
abbrev pub is_bad_account : Option (List ℕ) → Bool
is_bad_account None = false
is_bad_account (Some account) = not (length account == 0) && not (same_text account (codes "LocalSystem"))

-- what a new service's configuration is refused with, or 0
unfoldable pub check_new : Config → Option (List ℕ) → ℕ
check_new config account = first_refusal (
    (has_bad_names config, ERROR_INVALID_NAME)
    ∷ (has_bad_numbers config || has_bad_texts config || has_bad_lists config, ERROR_INVALID_PARAMETER)
    ∷ (is_bad_account account, ERROR_INVALID_SERVICE_ACCOUNT)
    ∷ [])

-- the same of a configuration that replaces another
abbrev pub check_change : Config → Config → Option (List ℕ) → ℕ
check_change old new account = check_new new account

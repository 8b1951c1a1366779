-- What contracts see of a table of services.
use Rattle.std.specs.Prelude.{ℕ, Bool, not, ◌==◌, List, [], ◌∷◌, ◌++◌, Option, None, Some, filter, find, map, option_and_then}
use Rattle.std.specs.Prelude.{option_map}
use Rattle.scm_text.specs.Fold.{same_text}
use Rattle.scm_model.specs.declared.flat.Config.{Config}
use Rattle.scm_model.specs.declared.flat.Service.{Service}
use Rattle.scm_model.specs.declared.flat.Status.{Status}
use Rattle.row_slab.specs.Rowed.{altered_at}
use Rattle.record_table.specs.declared.texts.Spare.{Spare}

-- the services in order of number, and the texts of the service that there is room for
pub record Recorded : Type 0 where
  pub services : List Service
  pub spare : Option Spare

-- ## Services and their texts

abbrev pub number_of : Service → ℕ
number_of row = row.number

abbrev pub has_number : ℕ → Service → Bool
has_number number row = row.number == number

abbrev pub is_named : List ℕ → Service → Bool
is_named name row = same_text row.config.name name

abbrev pub is_displayed : List ℕ → Service → Bool
is_displayed display row = same_text row.config.display display

abbrev pub is_member : List ℕ → Service → Bool
is_member group row = same_text row.config.group group

-- the numbers of the services that pass, in order
abbrev pub numbers_with : (Service → Bool) → List Service → List ℕ
numbers_with passes rows = map number_of (filter passes rows)

-- the number of the first service that passes
abbrev pub first_with : (Service → Bool) → List Service → Option ℕ
first_with passes rows = option_map number_of (find passes rows)

-- the service with a number, if there is a number
abbrev pub service_at : List Service → Option ℕ → Option Service
service_at rows number = option_and_then (λ (n : ℕ). find (has_number n) rows) number

-- the configuration of the service with a number
abbrev pub config_of_number : List Service → ℕ → Option Config
config_of_number rows number = option_map (λ (row : Service). row.config) (find (has_number number) rows)

-- the security descriptor of the service with a number
abbrev pub security_of_number : List Service → ℕ → Option (List ℕ)
security_of_number rows number = option_map (λ (row : Service). row.security) (find (has_number number) rows)

-- the process of the service that was found, and 0 if none was
abbrev pub process_in : Option Service → ℕ
process_in None = 0
process_in (Some row) = row.process

abbrev pub with_config : Config → Service → Service
with_config config row = record row { config = config }

abbrev pub with_security : List ℕ → Service → Service
with_security security row = record row { security = security }

-- what changes of a service while it lives
abbrev pub lived : Status → Bool → ℕ → ℕ → ℕ → Bool → Service → Service
lived status marked process failures last_failure asked row = record row {
  status = status;
  marked = marked;
  process = process;
  failures = failures;
  last_failure = last_failure;
  asked = asked;
}

-- the service with a number changes
abbrev pub change_at : ℕ → (Service → Service) → List Service → List Service
change_at number change rows = map (altered_at number_of number change) rows

-- the services but for the one with a number
abbrev pub without : ℕ → List Service → List Service
without number rows = filter (λ (row : Service). not (has_number number row)) rows

abbrev pub spare_of : Config → Spare
spare_of config = record { name = config.name; display = config.display; group = config.group }

-- ## Tables

abbrev pub empty : Recorded
empty = record { services = []; spare = None }

abbrev pub reserved : Recorded → Config → Recorded
reserved table config = record { services = table.services; spare = Some (spare_of config) }

abbrev pub unreserved : Recorded → Recorded
unreserved table = record { services = table.services; spare = None }

abbrev pub inserted : Recorded → Service → Recorded
inserted table service = record { services = table.services ++ service ∷ []; spare = None }

-- the texts that there is room for, unless a service had the number
abbrev pub spare_where : Option Service → Option Spare → Option Spare
spare_where None spare = spare
spare_where (Some row) spare = None

abbrev pub removed : Recorded → ℕ → Recorded
removed table number = record {
  services = without number table.services;
  spare = spare_where (find (has_number number) table.services) table.spare;
}

abbrev pub replaced : Recorded → ℕ → Config → Recorded
replaced table number config = record {
  services = change_at number (with_config config) table.services;
  spare = spare_where (find (has_number number) table.services) table.spare;
}

-- the texts that there is room for stay
abbrev pub altered : Recorded → ℕ → (Service → Service) → Recorded
altered table number change = record { services = change_at number change table.services; spare = table.spare }

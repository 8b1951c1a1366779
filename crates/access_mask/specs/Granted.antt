-- What is granted of the rights that were asked for.
use Rattle.std.specs.Prelude.{ℕ, Bool, true, false, Option, None, Some, bit_or, if◌then◌else◌}
use Rattle.access_mask.specs.declared.granting.Mapping.{Mapping}
use Rattle.scm_model.specs.declared.flat.Principal.{Principal}
use Rattle.scm_model.specs.declared.flat.Principal.TheVariants.{Admin, User}
use Rattle.scm_model.specs.declared.codes.TheConstants.{GENERIC_ALL, GENERIC_EXECUTE, GENERIC_READ, GENERIC_WRITE, MAXIMUM_ALLOWED}
use Rattle.scm_model.specs.declared.codes.TheConstants.{SC_MANAGER_ALL_ACCESS, SC_MANAGER_CONNECT, SERVICE_ALL_ACCESS, SERVICE_SET_STATUS}
use Rattle.scm_text.specs.Numbers.{has_bits, without_bits}

-- what the generic rights stand for: of the manager where true, else of a service
abbrev pub mapping_of : Bool → Mapping
mapping_of true = record { read = 0x20014; write = 0x20022; execute = 0x20009; everything = SC_MANAGER_ALL_ACCESS }
mapping_of false = record { read = 0x2008D; write = 0x20002; execute = 0x20170; everything = SERVICE_ALL_ACCESS }

-- every right that a principal can have: on the manager where true, else on a service
abbrev pub rights_of : Principal → Bool → ℕ
rights_of Admin true = SC_MANAGER_ALL_ACCESS
rights_of Admin false = bit_or SERVICE_ALL_ACCESS SERVICE_SET_STATUS
rights_of User true = 0x20015
rights_of User false = 0x2008D

-- what a generic bit stands for, where it is asked for
abbrev pub mapped : ℕ → ℕ → ℕ → ℕ
mapped desired generic mapping = if has_bits desired generic then mapping else 0

abbrev pub map_by : Mapping → ℕ → ℕ
map_by mapping desired =
    bit_or (without_bits desired 0xF0000000) (
    bit_or (mapped desired GENERIC_READ mapping.read) (
    bit_or (mapped desired GENERIC_WRITE mapping.write) (
    bit_or (mapped desired GENERIC_EXECUTE mapping.execute) (mapped desired GENERIC_ALL mapping.everything))))

-- each generic bit replaced by what it stands for
abbrev pub map_generic : Bool → ℕ → ℕ
map_generic manager desired = map_by (mapping_of manager) desired

-- whether each bit but that one is among the rights
abbrev pub is_allowed : ℕ → ℕ → Bool
is_allowed mask rights = has_bits rights (without_bits mask MAXIMUM_ALLOWED)

-- all rights where they are asked for, else those that are asked for
abbrev pub chosen : ℕ → ℕ → ℕ
chosen mask rights = if has_bits mask MAXIMUM_ALLOWED then rights else mask

-- a handle of the manager can connect besides
abbrev pub connected : Bool → ℕ → ℕ
connected manager mask = if manager then bit_or mask SC_MANAGER_CONNECT else mask

-- none where a bit that is asked for is no right of the principal
abbrev pub granted_of : ℕ → ℕ → Bool → Option ℕ
granted_of mask rights manager = if is_allowed mask rights then Some (connected manager (chosen mask rights)) else None

-- the rights of a new handle, of the manager where true, else of a service
abbrev pub granted : Principal → Bool → ℕ → Option ℕ
granted principal manager desired = granted_of (map_generic manager desired) (rights_of principal manager) manager

-- What a security descriptor as text sets.
use Rattle.std.specs.Prelude.{ℕ, ◌+◌, Bool, true, false, ◌||◌, List, Option, option_map, is_some, bit_or, if◌then◌else◌}
use Rattle.std.specs.Result.{result_ok}
use Rattle.sec_desc.specs.declared.codes.TheConstants.{DACL_SECURITY_INFORMATION, GROUP_SECURITY_INFORMATION}
use Rattle.sec_desc.specs.declared.codes.TheConstants.{OWNER_SECURITY_INFORMATION, WRITE_DAC, WRITE_OWNER}
use Rattle.sec_desc.specs.declared.value.Descriptor.{Descriptor}
use Rattle.sec_desc.specs.Writing.{descriptor_bytes}
use Rattle.scm_text.specs.Numbers.{has_bits}
use Rattle.sddl.specs.Reading.{sddl_of}
use Rattle.sc_words.specs.declared.security.NewSecurity.{NewSecurity}

abbrev pub bit_if : {A : Type 0} → Option A → ℕ → ℕ
bit_if part bit = if is_some part then bit else 0

-- the parts that a descriptor has, a bit each
abbrev pub parts_of : Descriptor → ℕ
parts_of d =
    bit_or (bit_or (bit_if d.owner OWNER_SECURITY_INFORMATION) (bit_if d.group GROUP_SECURITY_INFORMATION))
    (bit_if d.list DACL_SECURITY_INFORMATION)

-- its parts, and no others
abbrev pub new_security : Descriptor → NewSecurity
new_security d = record { parts = parts_of d; bytes = descriptor_bytes d (parts_of d) }

unfoldable pub security_named : List ℕ → Option NewSecurity
security_named word = option_map new_security (result_ok (sddl_of word))

abbrev pub right_by : (owner list : Bool) → ℕ
right_by true true = WRITE_OWNER + WRITE_DAC
right_by true false = WRITE_OWNER
right_by false true = WRITE_DAC
right_by false false = 0

-- the rights that setting these parts needs
abbrev pub right_of_parts : ℕ → ℕ
right_of_parts parts =
    right_by (has_bits parts OWNER_SECURITY_INFORMATION || has_bits parts GROUP_SECURITY_INFORMATION)
    (has_bits parts DACL_SECURITY_INFORMATION)

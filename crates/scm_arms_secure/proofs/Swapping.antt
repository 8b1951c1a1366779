-- Parts that are exchanged twice.
use Rattle.std.proofs.Common.{ℕ, Bool, true, false, ◌≡◌, cond, refl}
use Rattle.scm_text.specs.Numbers.{has_bits}
use Rattle.sec_desc.specs.declared.codes.TheConstants.{DACL_SECURITY_INFORMATION, GROUP_SECURITY_INFORMATION, OWNER_SECURITY_INFORMATION}
use Rattle.sec_desc.specs.declared.value.Descriptor.{Descriptor}
use Rattle.scm_rules.specs.Security.{replaced}

-- what was exchanged is exchanged back
twice : {A : Type 0} (asked : Bool) (own other : A) → cond asked (cond asked own other) (cond asked other own) ≡ own
twice true own other = refl
twice false own other = refl

-- a second exchange of the same parts undoes the first
pub swapped_back : (parts : ℕ) (given own : Descriptor) → replaced parts (replaced parts given own) (replaced parts own given) ≡ given
swapped_back parts given own =
    rw (
      twice (has_bits parts OWNER_SECURITY_INFORMATION) given.owner own.owner,
      twice (has_bits parts GROUP_SECURITY_INFORMATION) given.group own.group,
      twice (has_bits parts DACL_SECURITY_INFORMATION) given.list own.list,
    ) refl

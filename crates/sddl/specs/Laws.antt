-- What writing and reading have to do with each other.
use Rattle.std.specs.Prelude.{true, ◌≡◌, ◌<◌, ◌^◌, All, IfSome, Ok}
use Rattle.sec_desc.specs.declared.value.Ace.{Ace}
use Rattle.sec_desc.specs.declared.value.Sid.{Sid}
use Rattle.sec_desc.specs.declared.value.Descriptor.{Descriptor}
use Rattle.sddl.specs.Reading.{sddl_of}
use Rattle.sddl.specs.Writing.{sddl_text}
use Rattle.scm_text.specs.Numbers.{has_bits}

-- a value of the type has no other authority
abbrev pub HasBytes : Sid → Type 0
HasBytes sid = All (λ byte. byte < 2 ^ 8) sid.authority

-- each flag has letters: all but 0x20
pub record HasLetters (ace : Ace) : Type 0 where
  pub flags : has_bits 0xDF ace.flags ≡ true
  pub sid : HasBytes ace.sid

pub record HasText (d : Descriptor) : Type 0 where
  pub owner : IfSome d.owner HasBytes
  pub group : IfSome d.group HasBytes
  pub list : IfSome d.list (All HasLetters)

abbrev pub IsReadBack : Descriptor → Type 0
IsReadBack d = sddl_of (sddl_text d) ≡ Ok d

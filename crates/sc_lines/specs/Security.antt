-- A security descriptor as text.
use Rattle.std.specs.Prelude.{ℕ, List, [], ◌++◌, Result, Ok, Err, codes}
use Rattle.sec_desc.specs.declared.value.Descriptor.{Descriptor}
use Rattle.sec_desc.specs.Reading.{described}
use Rattle.sddl.specs.Writing.{sddl_text}

abbrev pub descriptor_line : Result Descriptor ℕ → List ℕ
descriptor_line (Ok descriptor) = sddl_text descriptor ++ codes "\n"
descriptor_line (Err place) = []

-- the descriptor that the bytes are, in a line; nothing if they aren't one
abbrev pub security_text : List ℕ → List ℕ
security_text bytes = descriptor_line (described bytes)

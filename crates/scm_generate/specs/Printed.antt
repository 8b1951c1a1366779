-- What became of a text that was to be printed.
use Rattle.std.specs.Prelude.{ℕ, ◌≡◌, List, Option}
use Rattle.std.specs.Io.KnownBytes.{Appends}
use Rattle.outside.specs.Causes.{Rose}
use Rattle.outside.specs.Written.{AppendsFront}
use Rattle.scm_generate.specs.declared.generated.Generated.{Generated}
use Rattle.scm_generate.specs.declared.generated.Generated.TheVariants.{Ended, WriteFault, OutOfMemory}

-- all of it was written, or a front of it; where there was no memory, nothing
abbrev pub Prints : (text : List ℕ) → (held held_now : Option (List ℕ)) → Generated → Type 0
Prints text held held_now Ended = Appends held held_now text
Prints text held held_now WriteFault = AppendsFront held held_now text
Prints text held held_now OutOfMemory = held_now ≡ held

-- where there was memory, all steps were made
abbrev pub IfMade : Generated → Type 0 → Type 0
IfMade Ended P = P
IfMade WriteFault P = P
IfMade OutOfMemory P = Unit {0}

-- the sink's count rose where it is said to have failed, and is the same at each other end
abbrev pub IsPrintCaused : Generated → (faults faults_now : ℕ) → Type 0
IsPrintCaused WriteFault faults faults_now = Rose faults faults_now
IsPrintCaused _ faults faults_now = faults_now ≡ faults

-- A summary is written, or memory ran out, where the sink doesn't fail.
use Rattle.std.proofs.Common.{inl, inr, refl}
use Rattle.scm_generate.specs.Printed.{IsPrintCaused}
use Rattle.scm_generate.specs.declared.generated.Generated.{Generated}
use Rattle.scm_generate.specs.declared.generated.Generated.TheVariants as printed
use Rattle.scmd_top.specs.Jobs.{HasSummedUp, status_of_generate}
use Rattle.scmd_top.specs.Sides.{Side}

pub summed_up : (how : Generated) (s : Side) → IsPrintCaused how s.faults s.faults_now → HasSummedUp s (status_of_generate how)
summed_up printed.Ended s c = λ no_write. inl refl
summed_up printed.WriteFault s c = λ no_write. absurd (no_write c)
summed_up printed.OutOfMemory s c = λ no_write. inr refl

use Rattle.scm_arms_secure.proofs.Bases.{never_bad}
use Rattle.scm_arms_secure.proofs.descriptors.read.Goals as goal

pub unreachable-requires : goal.unreachable-requires
unreachable-requires c = never_bad c.args.bytes.now c.read_descriptor.result c.in-Err-Bad.field-0 _ c.requires c.in-Err-Bad.is
    c.in-Err-Bad.field-0-is c.read_descriptor.ensures.place

use Rattle.std.proofs.Common.{subst, sym}
use Rattle.sec_desc.specs.Writing.{IsWritable}
use Rattle.scm_rules.proofs.Secured.{base_fits}
use Rattle.scm_arms_secure.proofs.descriptors.base_bytes.Goals as goal

pub write_descriptor-bytes-requires : goal.write_descriptor-bytes-requires
write_descriptor-bytes-requires c =
    subst IsWritable (sym c.in_ok-descriptor.ensures) (base_fits c.args.security.now c.requires).writable

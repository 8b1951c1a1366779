use Rattle.std.proofs.Common.{subst, sym}
use Rattle.sec_desc.specs.Writing.{IsWritable}
use Rattle.scm_rules.proofs.Secured.{base_fits, replaced_writable}
use Rattle.scm_arms_secure.proofs.descriptors.new_security.Goals as goal

pub write_descriptor-bytes-requires : goal.write_descriptor-bytes-requires
write_descriptor-bytes-requires c =
    subst IsWritable (sym c.swap_parts.ensures.old)
    (replaced_writable c.args.parts c.in_ok-descriptor.descriptor c.args.given.now
    (subst IsWritable (sym c.in_ok-descriptor.ensures) (base_fits c.args.security.now c.requires.written).writable) c.requires.given)

use Rattle.std.specs.Prelude.{refl}
use Rattle.sec_desc.specs.Numbers.{bytes_16, bytes_32}
use Rattle.sec_desc.specs.Writing.{ace_front, acl_front, header_bytes, packed, sid_bytes, size_of_aces}
use Rattle.scm_arms_secure.proofs.descriptors.default_bytes.Goals as goal

pub returns : goal.returns
unfolding packed header_bytes acl_front ace_front size_of_aces sid_bytes bytes_16 bytes_32
returns c = refl

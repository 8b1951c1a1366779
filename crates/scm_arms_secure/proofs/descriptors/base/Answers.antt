use Rattle.std.proofs.Common.{eqb-true, sym, ◌∙◌}
use Rattle.std.proofs.lemmas.Bool.{eqb-false}
use Rattle.scm_arms_secure.proofs.Bases.{base_empty, base_kept, default_is_read, kept_is_read}
use Rattle.scm_arms_secure.proofs.descriptors.base.Goals as goal

pub read-requires : goal.read-requires
read-requires c = default_is_read _ c.default_bytes-default.ensures

pub returns-then-is_empty : goal.returns-then-is_empty
returns-then-is_empty c =
    base_empty c.args.security.now _ c.read.result (eqb-true _ _ (sym c.is_empty.ensures ∙ c.if-is_empty.true))
    c.default_bytes-default.ensures c.read.ensures

pub read-requires-else-is_empty : goal.read-requires-else-is_empty
read-requires-else-is_empty c =
    kept_is_read c.args.security.now c.requires (eqb-false _ _ (sym c.is_empty.ensures ∙ c.if-is_empty.false))

pub returns-else-is_empty : goal.returns-else-is_empty
returns-else-is_empty c =
    base_kept c.args.security.now c.read-else-is_empty.result c.requires (eqb-false _ _ (sym c.is_empty.ensures ∙ c.if-is_empty.false))
    c.read-else-is_empty.ensures

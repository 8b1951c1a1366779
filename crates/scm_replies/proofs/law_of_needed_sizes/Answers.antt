use Rattle.std.proofs.Common.{◌∷◌}
use Rattle.scm_runs.proofs.Along.{along}
use Rattle.scm_runs.proofs.Histories.{at_entry, legal_made}
use Rattle.scm_replies.proofs.Counted.{IsFew, few_begun, few_keeps}
use Rattle.scm_replies.proofs.Returned.{ReturnsThere, gives, low_front}
use Rattle.scm_replies.proofs.Uuids.{uuids_front}
use Rattle.scm_replies.proofs.law_of_needed_sizes.Goals as goal

pub returns : goal.returns
returns c =
    let l = c.args.limits.now in
    let f = c.args.opening.now in
    let es = c.args.steps.now in
    let small = c.requires.small in
    let legal = c.requires.legal in
    let begins = c.requires.begins in
    let made = legal_made l f es legal in
    let steps = along (IsFew l) ReturnsThere l (few_keeps l) (gives l small.services) f es (few_begun l f begins) made in
    λ front e rest told split is.
    at_entry ReturnsThere l f es steps front e rest told split is
    (low_front l f es front (e ∷ rest) small begins split) (uuids_front l f es front (e ∷ rest) c.requires.uuids split)

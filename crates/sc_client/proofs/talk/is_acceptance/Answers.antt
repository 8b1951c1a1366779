use Rattle.std.proofs.Common.{take, ap, ◌∙◌}
use Rattle.std.specs.Prelude.{bytes_eq}
use Rattle.sc_client.proofs.Fragments.{take_least}
use Rattle.sc_client.proofs.talk.is_acceptance.Goals as goal

pub returns : goal.returns
returns c =
    c.eq.ensures
    ∙ ap (λ xs. bytes_eq xs c.as_slice.result.now) (c.split_at.ensures.front ∙ ap (λ k. take k c.args.results.now) c.min.ensures
    ∙ take_least 24 c.args.results.now)
    ∙ ap (bytes_eq (take 24 c.args.results.now)) c.as_slice.ensures

-- What a connection was sent, where the dialer tells what its peer sends: the command's bytes and no others.
use Rattle.std.proofs.Common.{◌≡◌, ◌∙◌, ℕ, List, [], ◌∷◌, ◌++◌, Option, None, Some, ap, subst}
use Rattle.std.specs.Prelude.{Result}
use Rattle.std.specs.Io.KnownBytes.{Appends}
use Rattle.sc_client.specs.declared.fault.ClientFault.{ClientFault}
use Rattle.sc_dial.specs.Connections.{PastConnection}
use Rattle.sc_top.specs.Runs.{IsCalled}
use Rattle.sc_words.specs.declared.calls.Heard.{Heard}
use Rattle.sc_words.specs.declared.command.Command.{Command}

after_nothing : (now : Option (List ℕ)) (bytes : List ℕ) → Appends (Some []) now bytes → now ≡ Some bytes
after_nothing None bytes none = absurd none
after_nothing (Some now) bytes same = ap (λ (xs : List ℕ). Some xs) same

-- What follows needs that the connection was fresh.
-- Of one that may have begun with bytes that nobody tells, nothing could be said.
pub sent_exactly : (c : Command) (peer : List ℕ) (past : List PastConnection) (past_now : Option (List PastConnection))
    (result : Result (List Heard) ClientFault) → (called : IsCalled c (Some peer) (Some past) past_now result)
    → past_now ≡ Some (past ++ record { address = Some c.address; left = called.left; written = Some called.run.text } ∷ [])
sent_exactly c peer past past_now result called =
    let sent : called.written ≡ Some called.run.text =
    after_nothing called.written called.run.text
    (subst (λ (began : Option (List ℕ)). Appends began called.written called.run.text) called.fresh called.run.written) in
    called.given ∙ ap
    (λ (written : Option (List ℕ)). Some (past ++ record { address = Some c.address; left = called.left; written = written } ∷ [])) sent

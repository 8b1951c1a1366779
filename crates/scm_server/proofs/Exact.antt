-- What a connection was written, where its listener tells what its peers send: just what it was answered.
use Rattle.std.proofs.Common.{◌≡◌, ◌∙◌, ℕ, List, [], Option, None, Some, ap, subst}
use Rattle.std.specs.Io.KnownBytes.{Appends}
use Rattle.outside.specs.Written.{IsFresh}
use Rattle.scm_model.specs.declared.calls.Reply.{Reply}
use Rattle.scm_model.specs.declared.flat.Principal.{Principal}
use Rattle.scm_model.specs.Entries.{Entry}
use Rattle.rpc_session.specs.declared.state.Incoming.{Incoming}
use Rattle.book_rule.specs.declared.view.Opening.{Opening}
use Rattle.conn_desk.specs.declared.asked.DecodedRequest.{DecodedRequest}
use Rattle.conn_desk.specs.declared.served.Served.{Served}
use Rattle.scm_server.specs.Handling.{Handed, WasRefused, WasServed}

after_nothing : (now : Option (List ℕ)) (bytes : List ℕ) → Appends (Some []) now bytes → now ≡ Some bytes
after_nothing None bytes none = absurd none
after_nothing (Some now) bytes same = ap (λ (xs : List ℕ). Some xs) same

is_told : (given began now : Option (List ℕ)) (peer bytes : List ℕ) → given ≡ Some peer → IsFresh given began → Appends began now bytes
    → now ≡ Some bytes
is_told given began now peer bytes told fresh appended =
    let empty : began ≡ Some [] = subst (λ (g : Option (List ℕ)). IsFresh g began) told fresh in
    after_nothing now bytes (subst (λ (b : Option (List ℕ)). Appends b now bytes) empty appended)

-- What follows needs that the connection was fresh.
-- Of one that may have begun with bytes that nobody tells, nothing could be said.
pub served_exactly : (full : List Entry → DecodedRequest → Type 0) (stood : List Entry) (h : Handed) (done : List Incoming)
    (heard : List (Option Reply)) (how : Served) (peer : List ℕ) → h.given ≡ Some peer → (s : WasServed full stood h done heard how)
    → h.past.written ≡ Some s.written
served_exactly full stood h done heard how peer told s = is_told h.given h.began h.past.written peer s.written told s.fresh s.appended

pub refused_exactly : (o : Opening) (log : List Entry) (principal : Principal) (h : Handed) (peer : List ℕ) → h.given ≡ Some peer
    → WasRefused o log principal h → h.past.written ≡ Some []
refused_exactly o log principal h peer told r =
    r.unwritten ∙ subst (λ (g : Option (List ℕ)). IsFresh g h.began) told r.fresh

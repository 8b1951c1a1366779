-- A desk that counts.
use Rattle.std.specs.Prelude.{◌≡◌, ◌+◌, Option, Some}
use Rattle.scm_model.specs.declared.calls.Reply.{Reply}
use Rattle.conn_desk.specs.declared.asked.DecodedRequest.{DecodedRequest}
use Rattle.conn_desk.specs.Bodies.{refusal_with}
use Rattle.wire_tests.specs.declared.counter.Counter.{Counter}

-- a request is refused by the count of those before it, and is counted
abbrev pub Counted : Counter → Counter → DecodedRequest → Option Reply → Type 0
Counted d e request heard = (e ≡ record d { asked = d.asked + 1 }) × (heard ≡ Some (refusal_with request d.asked))

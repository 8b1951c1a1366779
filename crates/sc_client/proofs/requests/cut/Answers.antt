use Rattle.std.proofs.Common.{sym}
use Rattle.std.proofs.Math.ListN.{drop_of_length-le}
use Rattle.std.proofs.lemmas.List.{take_all}
use Rattle.sc_client.proofs.requests.cut.Goals as goal

pub returns-then-rest-le-ROOM-clause-front : goal.returns-then-rest-le-ROOM-clause-front
returns-then-rest-le-ROOM-clause-front c = sym (take_all 1408 c.args.rest.now c.if-rest-le-ROOM.true)

pub returns-then-rest-le-ROOM-clause-back : goal.returns-then-rest-le-ROOM-clause-back
returns-then-rest-le-ROOM-clause-back c = sym (drop_of_length-le c.args.rest.now c.if-rest-le-ROOM.true)

-- The lines that answer.
use Rattle.std.specs.Prelude.{ℕ, Bool, true, false, List, [], ◌∷◌, ◌++◌, codes, decimal}
use Rattle.hex.specs.Hex.{encode_lower}
use Rattle.scm_model.specs.declared.flat.Order.{Order}
use Rattle.scm_model.specs.declared.steps.Answer.{Answer}
use Rattle.scm_model.specs.declared.steps.Answer.TheVariants as answers
use Rattle.scm_bodies.specs.Replies.{reply_bytes}

-- a line, ended by a line feed
abbrev pub line_with : List ℕ → List ℕ → List ℕ
line_with front rest = front ++ rest ++ 10 ∷ []

-- an order that was taken; for a shared process it has the number of the service too
abbrev pub order_text : Order → Bool → List ℕ
order_text order true = codes "control " ++ (decimal order.service ++ 32 ∷ decimal order.code)
order_text order false = codes "control " ++ decimal order.code

-- what a step answered
abbrev pub told_text : Answer → List ℕ
told_text (answers.Caller number) = codes "caller " ++ decimal number
told_text (answers.Reply reply) = codes "reply " ++ encode_lower (reply_bytes reply)
told_text (answers.Begun plan) = codes "plan " ++ decimal plan
told_text (answers.Launch process) = codes "launch " ++ decimal process
told_text (answers.Control order) = order_text order false
told_text (answers.Refused code) = codes "refused " ++ decimal code
told_text answers.Stale = codes "stale"
told_text answers.Done = codes "done"

-- the line for an order that was taken
abbrev pub order_line : Order → Bool → List ℕ
order_line order shared = order_text order shared ++ 10 ∷ []

-- the line that tells what a step answered
abbrev pub told_line : Answer → List ℕ
told_line answer = told_text answer ++ 10 ∷ []

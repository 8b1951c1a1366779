-- What becomes of requests at a desk, calls and raises alike. A desk says by three relations what they may do: called leads from it to
-- what an answered request makes of it, by what was heard of the request (a reply, or that there was no memory for one), rests to what
-- one without an answer leaves, and full says that it has no room for a request.
use Rattle.std.specs.Prelude.{ℕ, ◌≡◌, ◌⊎◌, List, [], ◌∷◌, Option}
use Rattle.conn_desk.specs.declared.asked.DecodedRequest.{DecodedRequest}
use Rattle.conn_desk.specs.declared.asked.DecodedRequest.TheVariants as asks
use Rattle.scm_model.specs.declared.calls.Reply.{Reply}
use Rattle.scm_model.specs.declared.calls.Reply.TheVariants as reply
use Rattle.scm_model.specs.declared.steps.Answer.{Answer}
use Rattle.scm_model.specs.declared.steps.Answer.TheVariants as answers
use Rattle.scm_bodies.specs.Replies.{Answers}
use Rattle.conn_desk.specs.declared.desk.HandlerError.{HandlerError}
use Rattle.conn_desk.specs.declared.desk.HandlerError.TheVariants as lacks
use Rattle.conn_desk.specs.Bodies.{reply_to}

-- a reply to what is asked: one of the call's kind, in its size, or a code
abbrev pub IsAnswer : DecodedRequest → Reply → Type 0
IsAnswer (asks.Call request) told = Answers request told
IsAnswer (asks.Raise subtype) told = (code : ℕ) × (told ≡ reply.Code code)

-- a request was made, and this reply answers it
pub record CallAnswered {D : Type 0} (called : D → D → DecodedRequest → Option Reply → Type 0) (d e : D) (request : DecodedRequest)
    (reply : Reply) : Type 0 where
  pub heard : Option Reply
  pub made : called d e request heard
  pub told : reply_to request heard ≡ reply
  pub answers : IsAnswer request reply

-- the answer is a reply, and the reply is so
abbrev pub HasReply : Answer → (Reply → Type 0) → Type 0
HasReply (answers.Reply reply) P = P reply
HasReply told P = ⊥

-- the desk is as it was, or what a request without an answer left
abbrev pub IsLeft : {D : Type 0} → (D → D → Type 0) → D → D → Type 0
IsLeft rests d e = (e ≡ d) ⊎ rests d e

-- why a request has no answer: the desk found no room for it, or there was no memory
abbrev pub Unanswered : {D : Type 0} → (rests : D → D → Type 0) → (full : D → DecodedRequest → Type 0) → D → D → DecodedRequest
    → HandlerError → Type 0
Unanswered rests full d e request lacks.Full = rests d e × full e request
Unanswered rests full d e request lacks.OutOfMemory = IsLeft rests d e

-- requests that were answered lead from d to e, and this was heard of each
abbrev pub Chain : {D : Type 0} → (D → D → DecodedRequest → Option Reply → Type 0) → D → D → List DecodedRequest → List (Option Reply)
    → Type 0
Chain called d e [] [] = e ≡ d
Chain {D} called d e (request ∷ requests) (heard ∷ more) = (mid : D) × called d mid request heard × Chain called mid e requests more
Chain called d e [] (heard ∷ more) = ⊥
Chain called d e (request ∷ requests) [] = ⊥

-- as many of one as of the other
abbrev pub AsMany : {A B : Type 0} → List A → List B → Type 0
AsMany [] [] = Unit {0}
AsMany (x ∷ xs) (y ∷ ys) = AsMany xs ys
AsMany [] (y ∷ ys) = ⊥
AsMany (x ∷ xs) [] = ⊥

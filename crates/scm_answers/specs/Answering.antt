-- Every reply answers its request.
use Rattle.std.specs.Prelude.{ℕ, ◌≡◌, List, Option}
use Rattle.scm_model.specs.declared.flat.Flat.{Flat}
use Rattle.scm_model.specs.declared.calls.Reply.{Reply}
use Rattle.scm_model.specs.declared.calls.Reply.TheVariants as reply
use Rattle.scm_model.specs.declared.calls.Request.{Request}
use Rattle.scm_model.specs.declared.calls.Request.TheVariants as request
use Rattle.scm_model.specs.declared.steps.Answer.{Answer}
use Rattle.scm_model.specs.declared.steps.Answer.TheVariants as answer
use Rattle.scm_model.specs.declared.steps.Step.{Step}
use Rattle.scm_model.specs.declared.steps.Step.TheVariants.{Call, EndStart, Raised}
use Rattle.scm_model.specs.Entries.{Entry}
use Rattle.scm_model.specs.Refused.{refused}
use Rattle.scm_bodies.specs.Replies.{Answers}

-- a reply, if there is one, answers the request
abbrev pub RepliesTo : Request → Answer → Type 0
RepliesTo asked (answer.Reply told) = Answers asked told
RepliesTo asked told = Unit {0}

abbrev pub HasNoReply : Answer → Type 0
HasNoReply (answer.Reply told) = ⊥
HasNoReply told = Unit {0}

abbrev pub IsCode : Reply → Type 0
IsCode told = (code : ℕ) × (told ≡ reply.Code code)

abbrev pub TellsCode : Answer → Type 0
TellsCode (answer.Reply told) = IsCode told
TellsCode told = Unit {0}

-- the reply to a call answers its request, the reply at the end of a start answers a start, and the reply to a raise is a code; no
-- other step has a reply
abbrev pub RepliesRightly : Step → Answer → Type 0
RepliesRightly (Call caller asked append) told = RepliesTo asked told
RepliesRightly (EndStart caller plan) told =
    (handle : ℕ) (words : Option (List (List ℕ))) → RepliesTo (request.Start handle words) told
RepliesRightly (Raised caller subtype) told = TellsCode told
RepliesRightly step told = HasNoReply told

abbrev pub LawOfAnswering : Flat → Entry → Answer → Flat → Type 0
LawOfAnswering before e told after = RepliesRightly e.1 told

-- if a call is refused with no more than a code, this reply too answers the request
abbrev pub RefusalsAnswer : Type 0
RefusalsAnswer = (asked : Request) (code : ℕ) → Answers asked (refused asked code)

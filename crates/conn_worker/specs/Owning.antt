-- A pass's own entries, and those that became of its requests.
use Rattle.std.specs.Prelude.{ℕ, Bool, ◌≡◌, ◌⊎◌, ◌++◌, All, true, false, List, [], ◌∷◌, length, map, Option, None, Some, if◌then◌else◌}
use Rattle.std.specs.List.{AllZip}
use mathlib.Core.List.{IsPrefix}
use Rattle.scm_model.specs.declared.codes.TheConstants.{ERROR_SERVICE_NO_THREAD}
use Rattle.scm_model.specs.declared.calls.Reply.{Reply}
use Rattle.scm_model.specs.declared.calls.Reply.TheVariants as replies
use Rattle.scm_model.specs.declared.calls.Request.{Request}
use Rattle.scm_model.specs.declared.steps.Answer.{Answer}
use Rattle.scm_model.specs.declared.steps.Answer.TheVariants as answers
use Rattle.scm_model.specs.declared.steps.Kept.{Kept}
use Rattle.scm_model.specs.declared.steps.Step.{Step}
use Rattle.scm_model.specs.declared.steps.Step.TheVariants.{Call, EndStart, LaunchFailed, LaunchTaken, NoMemory, Raised}
use Rattle.scm_model.specs.Entries.{Entry}
use Rattle.scm_rules.specs.Histories.{answer}
use Rattle.scm_rules.specs.Room.{is_owed}
use Rattle.scm_history.specs.Owned.{Made as Told, made_of}
use Rattle.book_rule.specs.declared.view.Opening.{Opening}
use Rattle.scm_book.specs.Passes.{IsSame, Known, room_behind}
use Rattle.conn_desk.specs.declared.asked.DecodedRequest.{DecodedRequest}
use Rattle.conn_desk.specs.declared.asked.DecodedRequest.TheVariants as asks

-- ## Places

-- the entry at a place of a history, and what it was told
pub record StandsAt (o : Opening) (log : List Entry) (place : ℕ) (one : Told) : Type 0 where
  pub front : List Entry
  pub rest : List Entry
  pub is : log ≡ front ++ one.entry ∷ rest
  pub at : place ≡ length front
  pub told : answer o.limits o.first log place ≡ Some one.told

-- these stand at the places, in order
abbrev pub StandAt : Opening → List Entry → List ℕ → List Told → Type 0
StandAt o log [] [] = Unit {0}
StandAt o log (place ∷ places) (one ∷ more) = StandsAt o log place one × StandAt o log places more
StandAt o log [] (one ∷ more) = ⊥
StandAt o log (place ∷ places) [] = ⊥

-- the pass's own entries
abbrev pub Owns : Opening → Known → List Told → Type 0
Owns o k own = StandAt o k.seen k.own own

-- the pass has these own entries more, and no other; where it is alone nobody else made any
pub record Adds (o : Opening) (k : Known) (entries : List Told) (k' : Known) : Type 0 where
  pub longer : IsPrefix k.seen k'.seen
  pub own : (before : List Told) → Owns o k before → Owns o k' (before ++ entries)
  pub alone : k.alone ≡ true → k'.seen ≡ k.seen ++ map (λ (one : Told). one.entry) entries
  pub same : IsSame k k'

-- ## Room

-- the limits had room for a step in the state before this place
pub record HadRoom (o : Opening) (log : List Entry) (place : ℕ) (step : Step) : Type 0 where
  pub front : List Entry
  pub within : IsPrefix front log
  pub at : place ≡ length front
  pub room : room_behind o front step ≡ true

-- they had room for each of these steps in the state before its place
abbrev pub StepsHadRoom : Opening → List Entry → List ℕ → List Step → Type 0
StepsHadRoom o log places steps = AllZip (HadRoom o log) places steps

-- the places of those entries that aren't owed: each is what became of a request, or a joining
abbrev pub unowed_places : List ℕ → List Told → List ℕ
unowed_places [] entries = []
unowed_places (place ∷ places) [] = []
unowed_places (place ∷ places) (one ∷ entries) =
    if is_owed one.entry.1 then unowed_places places entries else place ∷ unowed_places places entries

-- ## Moments

-- at moments that the clock tells
abbrev pub AreTold : (ℕ → Type 0) → List Told → Type 0
AreTold tells entries = All (λ (one : Told). tells one.entry.0) entries

-- ## The entries of a request

-- a call, told this
pub record IsCall (caller : ℕ) (asked : Request) (told : Answer) (one : Told) : Type 0 where
  pub moment : ℕ
  pub append : Kept
  pub is : one ≡ made_of (moment, Call caller asked append) told

-- a launch that was taken, and its failure with 1054
pub record IsFailure (taken failed : Told) : Type 0 where
  pub process : ℕ
  pub moment : ℕ
  pub takes : taken ≡ made_of (moment, LaunchTaken) (answers.Launch process)
  pub fails : failed ≡ made_of (moment, LaunchFailed process ERROR_SERVICE_NO_THREAD) answers.Done

-- such failures, one after another
abbrev pub AreFailures : List Told → Type 0
AreFailures [] = Unit {0}
AreFailures (one ∷ []) = ⊥
AreFailures (taken ∷ failed ∷ more) = IsFailure taken failed × AreFailures more

-- what the turns of a waiter made: nothing where it is silent
abbrev pub AreOfTurns : (silent : Bool) → List Told → Type 0
AreOfTurns true entries = entries ≡ []
AreOfTurns false entries = AreFailures entries

-- the call alone, told the reply
abbrev pub IsAtOnce : ℕ → Request → Reply → List Told → Type 0
IsAtOnce caller asked reply entries = (one : Told) × IsCall caller asked (answers.Reply reply) one × (entries ≡ one ∷ [])

-- the call that began a start, what the turns made, and the start's end, told the reply
pub record HasWaited (silent : Bool) (caller : ℕ) (asked : Request) (reply : Reply) (entries : List Told) : Type 0 where
  pub plan : ℕ
  pub call : Told
  pub calls : IsCall caller asked (answers.Begun plan) call
  pub turns : List Told
  pub of_turns : AreOfTurns silent turns
  pub moment : ℕ
  pub is : entries ≡ call ∷ turns ++ made_of (moment, EndStart caller plan) (answers.Reply reply) ∷ []

-- the raise alone, told a code, which is the reply
pub record IsRaise (caller : ℕ) (subtype : List ℕ) (reply : Reply) (entries : List Told) : Type 0 where
  pub moment : ℕ
  pub code : ℕ
  pub is_code : reply ≡ replies.Code code
  pub is : entries ≡ made_of (moment, Raised caller subtype) (answers.Reply reply) ∷ []

-- the entries of a request that was told a reply
abbrev pub AreOfTold : (silent : Bool) → ℕ → DecodedRequest → Reply → List Told → Type 0
AreOfTold silent caller (asks.Call request) reply entries = IsAtOnce caller request reply entries
    ⊎ HasWaited silent caller request reply entries
AreOfTold silent caller (asks.Raise subtype) reply entries = IsRaise caller subtype reply entries

-- the entries of a caller's request, by what was heard of it
abbrev pub AreOf : (silent : Bool) → ℕ → DecodedRequest → Option Reply → List Told → Type 0
AreOf silent caller asked (Some reply) entries = AreOfTold silent caller asked reply entries
AreOf silent caller asked None entries = (moment : ℕ) × (entries ≡ made_of (moment, NoMemory caller) answers.Done ∷ [])

-- those of its requests, one after another
abbrev pub AreOfAll : (silent : Bool) → ℕ → List DecodedRequest → List (Option Reply) → List Told → Type 0
AreOfAll silent caller [] [] entries = entries ≡ []
AreOfAll silent caller (asked ∷ more) (heard ∷ others) entries =
    (first : List Told) × (rest : List Told) × (entries ≡ first ++ rest) × AreOf silent caller asked heard first
    × AreOfAll silent caller more others rest
AreOfAll silent caller [] (heard ∷ others) entries = ⊥
AreOfAll silent caller (asked ∷ more) [] entries = ⊥

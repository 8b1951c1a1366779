-- What a pass's requests are told answers them.
use Rattle.std.proofs.Common.{◌≡◌, ◌∙◌, ◌⊎◌, ℕ, Bool, Result, Ok, Err, List, [], Option, None, Some, true, false, inl, inr, refl, sym, subst}
use Rattle.std.specs.Prelude.{IsErrOf, OnOk}
use Rattle.scm_model.specs.declared.calls.Reply.{Reply}
use Rattle.scm_model.specs.declared.calls.Reply.TheVariants as replies
use Rattle.scm_model.specs.declared.calls.Request.{Request}
use Rattle.scm_model.specs.declared.calls.Request.TheVariants as request
use Rattle.scm_model.specs.declared.steps.Answer.{Answer}
use Rattle.scm_model.specs.declared.steps.Answer.TheVariants as answers
use Rattle.scm_model.specs.declared.steps.Kept.TheVariants as appended
use Rattle.scm_model.specs.declared.steps.Step.{Step}
use Rattle.scm_model.specs.declared.steps.Step.TheVariants.{Call, EndStart, Raised}
use Rattle.scm_bodies.specs.Replies.{Answers}
use Rattle.scm_runs.proofs.Along.{along}
use Rattle.scm_runs.proofs.Calls.{keeps}
use Rattle.scm_runs.proofs.Histories.{at_entry, legal_made}
use Rattle.scm_runs.proofs.Sound.{Sound, begun}
use Rattle.scm_answers.specs.Answering.{LawOfAnswering, RepliesRightly, IsCode}
use Rattle.scm_answers.proofs.Calls.{of_refused}
use Rattle.scm_answers.proofs.Steps.{gives}
use Rattle.book_rule.specs.declared.view.Opening.{Opening}
use Rattle.scm_book.specs.Called.{AnsweredSo, RaiseWants, RaisedSo, RepliesSo, WantsMemory, called, is_start, raised_by}
use Rattle.scm_book.specs.Holds.{Opens}
use Rattle.scm_book.specs.declared.fault.MakeFault.{MakeFault}
use Rattle.scm_book.specs.declared.fault.MakeFault.TheVariants as makes
use Rattle.scm_book.specs.Passes.{FindsFault, Known, Learnt, Made, MadeSo, room_behind}
use Rattle.conn_desk.specs.declared.asked.DecodedRequest.TheVariants as asks
use Rattle.conn_desk.specs.declared.desk.HandlerError.{HandlerError}
use Rattle.conn_desk.specs.declared.desk.HandlerError.TheVariants as lacks
use Rattle.conn_desk.specs.Desks.{CallAnswered, HasReply}
use Rattle.conn_worker.specs.Connecting.{unanswered}
use Rattle.conn_worker.specs.Serving.{IsServed}
use Rattle.conn_worker.specs.Waiting.{WaitsAndEnds}
use Rattle.conn_worker.proofs.Waiting.{waits_caller}

for_start : (asked : Request) (reply : Reply) → is_start asked ≡ true →
    ((handle : ℕ) (words : Option (List (List ℕ))) → Answers (request.Start handle words) reply) → Answers asked reply
for_start (request.Start handle words) reply start answers = answers handle words
for_start asked reply start answers = absurd cc

module _ (o : Opening) (opens : Opens o) where
  rightly : (k k' : Known) (moment : ℕ) (step : Step) (told : Answer) → Made o k moment step told k' → RepliesRightly step told
  rightly k k' moment step told made =
      at_entry LawOfAnswering o.limits o.first k'.seen
      (along Sound LawOfAnswering o.limits (keeps o.limits) (gives o.limits) o.first k'.seen (begun o.limits o.first opens.begins)
      (legal_made o.limits o.first k'.seen made.legal))
      made.before (moment, step) [] told made.seen made.answer

  of_reply : (k k' : Known) (moment : ℕ) (asked : Request) (reply : Reply) → MadeSo o k moment (called k asked) (answers.Reply reply) k'
      → Answers asked reply
  of_reply k k' moment asked reply made = rightly k k' moment (Call k.caller asked made.append) (answers.Reply reply) made.made

  of_end : (k k' : Known) (moment caller plan : ℕ) (asked : Request) (reply : Reply) → is_start asked ≡ true
      → Made o k moment (EndStart caller plan) (answers.Reply reply) k' → Answers asked reply
  of_end k k' moment caller plan asked reply start made = for_start asked reply start
      (rightly k k' moment (EndStart caller plan) (answers.Reply reply) made)

  module _ (silent : Bool) (tells : ℕ → Type 0) (k : Known) (moment : ℕ) (told : tells moment) (asked : Request) where
    -- a request that was answered at once
    pub at_once : (k' : Known) (reply : Reply) → AnsweredSo o k moment asked reply k'
        → CallAnswered (IsServed silent tells o) k k' (asks.Call asked) reply
    at_once k' reply (inl made) = record {
      heard = Some reply;
      made = inl (record { moment = moment; told = told; made = made });
      told = refl;
      answers = of_reply k k' moment asked reply made;
    }
    at_once k' reply (inr wants) = record {
      heard = None;
      made = record { moment = moment; told = told; wants = subst (λ (r : Reply). WantsMemory o k moment asked r k') wants.refused wants };
      told = sym wants.refused;
      answers = subst (Answers asked) (sym wants.refused) (of_refused asked 8);
    }

    -- the same of a reply that lies in its place
    pub at_once_in : (k' : Known) (lies : Answer) → RepliesSo o k moment asked lies k'
        → HasReply lies (CallAnswered (IsServed silent tells o) k k' (asks.Call asked))
    at_once_in k' (answers.Reply reply) so = at_once k' reply so
    at_once_in k' lies so = absurd so

    -- a start that waited
    pub waited_for : (begun k' : Known) (plan : ℕ) (reply : Reply) → is_start asked ≡ true
        → MadeSo o k moment (called k asked) (answers.Begun plan) begun → WaitsAndEnds silent tells o plan begun reply k'
        → CallAnswered (IsServed silent tells o) k k' (asks.Call asked) reply
    waited_for begun k' plan reply start made ends = record {
      heard = Some reply;
      made = inr (record { moment = moment; told = told; plan = plan; begun = begun; made = made; ends = ends });
      told = refl;
      answers = of_end ends.waited k' ends.ends.moment ends.waited.caller plan asked reply start ends.ends.made;
    }

-- ## Raises

-- what a raise was told is a code
pub a_code : (o : Opening) (k k' : Known) (moment : ℕ) (subtype : List ℕ) (reply : Reply) → RaisedSo o k moment subtype reply k'
    ⊎ RaiseWants o k moment subtype reply k' → IsCode reply
a_code o k k' moment subtype reply (inl made) = (made.code, made.is)
a_code o k k' moment subtype reply (inr wants) = (8, wants.refused)

raise_at_once : (tells : ℕ → Type 0) (o : Opening) (k k' : Known) (moment : ℕ) → tells moment → (subtype : List ℕ) (code : ℕ)
    → RaisedSo o k moment subtype (replies.Code code) k' ⊎ RaiseWants o k moment subtype (replies.Code code) k'
    → CallAnswered (IsServed true tells o) k k' (asks.Raise subtype) (replies.Code code)
raise_at_once tells o k k' moment told subtype code (inl made) = record {
  heard = Some (replies.Code code);
  made = record { moment = moment; told = told; made = made };
  told = refl;
  answers = (code, refl);
}
raise_at_once tells o k k' moment told subtype code (inr wants) = record {
  heard = None;
  made = record { moment = moment; told = told; wants = subst (λ (r : Reply). RaiseWants o k moment subtype r k') wants.refused wants };
  told = sym wants.refused;
  answers = (code, refl);
}

-- a raise, whose reply is this code
pub raise_answered : (tells : ℕ → Type 0) (o : Opening) (k k' : Known) (moment : ℕ) → tells moment
    → (subtype : List ℕ) (reply : Reply) (code : ℕ) → reply ≡ replies.Code code
    → RaisedSo o k moment subtype reply k' ⊎ RaiseWants o k moment subtype reply k'
    → CallAnswered (IsServed true tells o) k k' (asks.Raise subtype) (replies.Code code)
raise_answered tells o k k' moment told subtype reply code is raised =
    raise_at_once tells o k k' moment told subtype code
    (subst (λ (r : Reply). RaisedSo o k moment subtype r k' ⊎ RaiseWants o k moment subtype r k') is raised)

pub raised_caller : (o : Opening) (k k' : Known) (moment : ℕ) (subtype : List ℕ) (reply : Reply) → RaisedSo o k moment subtype reply k'
    ⊎ RaiseWants o k moment subtype reply k' → k'.caller ≡ k.caller
raised_caller o k k' moment subtype reply (inl raised) = raised.made.made.caller
raised_caller o k k' moment subtype reply (inr wants) = wants.made.made.caller

-- there is no room for the raise as the pass is now
pub raise_full : {T : Type 0} (o : Opening) (k k' : Known) (subtype : List ℕ) (fault : MakeFault)
    → FindsFault o k (raised_by k subtype) fault k'
    → (answered : HandlerError) → answered ≡ unanswered fault → IsErrOf {T = T} (Err answered) lacks.Full
    → room_behind o k'.seen (raised_by k' subtype) ≡ false
raise_full o k k' subtype makes.Full finds answered is full =
    subst (λ (c : ℕ). room_behind o k'.seen (Raised c subtype) ≡ false) (sym finds.learnt.caller) finds.full
raise_full o k k' subtype makes.OutOfMemory finds answered is full = absurd (cc (is, full))

-- ## The caller stays

pub answered_caller : (o : Opening) (k k' : Known) (moment : ℕ) (asked : Request) (reply : Reply) → AnsweredSo o k moment asked reply k'
    → k'.caller ≡ k.caller
answered_caller o k k' moment asked reply (inl made) = made.made.caller
answered_caller o k k' moment asked reply (inr wants) = wants.made.made.caller

pub told_caller : (o : Opening) (k k' : Known) (moment : ℕ) (asked : Request) (lies : Answer) → RepliesSo o k moment asked lies k'
    → k'.caller ≡ k.caller
told_caller o k k' moment asked (answers.Reply reply) so = answered_caller o k k' moment asked reply so
told_caller o k k' moment asked lies so = absurd so

pub unmade_caller : (o : Opening) (k k' : Known) (asked : Request) (fault : MakeFault) → FindsFault o k (called k asked) fault k'
    → k'.caller ≡ k.caller
unmade_caller o k k' asked makes.Full finds = finds.learnt.caller
unmade_caller o k k' asked makes.OutOfMemory finds = finds.learnt.caller

pub unmade_learnt : (o : Opening) (k k' : Known) (asked : Request) (fault : MakeFault) → FindsFault o k (called k asked) fault k'
    → Learnt o k k'
unmade_learnt o k k' asked makes.Full finds = finds.learnt
unmade_learnt o k k' asked makes.OutOfMemory finds = finds.learnt

-- a reply that is put into its place lies there
pub put_there : (P : Reply → Type 0) (lies : Answer) (reply : Reply) → lies ≡ answers.Reply reply → P reply → HasReply lies P
put_there P lies reply is holds = subst (λ (a : Answer). HasReply a P) (sym is) holds

-- if the reply that lies in its place is so, it is also what follows from that
pub reply_more : {T E : Type 0} (P Q : Reply → Type 0) (r : Result T E) (lies : Answer) → ((reply : Reply) → P reply → Q reply)
    → OnOk r (HasReply lies P) → OnOk r (HasReply lies Q)
reply_more P Q (Ok x) (answers.Reply reply) more holds = more reply holds
reply_more P Q (Ok x) lies more holds = absurd holds
reply_more P Q (Err fault) lies more holds = tt

pub ended_caller : (silent : Bool) (tells : ℕ → Type 0) (o : Opening) (plan : ℕ) (k : Known) (reply : Reply) (k' : Known)
    → WaitsAndEnds silent tells o plan k reply k' → k'.caller ≡ k.caller
ended_caller silent tells o plan k reply k' ends = ends.ends.made.caller ∙ waits_caller silent o plan ends.turns k ends.waited ends.waits

-- ## Full

-- there is no room for the call as the pass is now
pub full_now : {T : Type 0} (o : Opening) (k k' : Known) (asked : Request) (fault : MakeFault) → FindsFault o k (called k asked) fault k'
    → (answered : HandlerError) → answered ≡ unanswered fault → IsErrOf {T = T} (Err answered) lacks.Full
    → room_behind o k'.seen (called k' asked) ≡ false
full_now o k k' asked makes.Full finds answered is full =
    subst (λ (c : ℕ). room_behind o k'.seen (Call c asked appended.NotAsked) ≡ false) (sym finds.learnt.caller) finds.full
full_now o k k' asked makes.OutOfMemory finds answered is full = absurd (cc (is, full))

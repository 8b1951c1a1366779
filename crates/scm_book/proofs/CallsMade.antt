-- What a caller's calls come to.
use Rattle.std.proofs.Common.{◌≡◌, ◌≢◌, ℕ, inl, inr, ⊎_elim, true, false, List, [], ◌∷◌, ◌++◌, Option, None, Some, Result, Ok, Err, refl}
use Rattle.std.proofs.Common.{sym, ap, ◌∙◌, subst}
use Rattle.std.specs.Prelude.{OnErr}
use Rattle.scm_model.specs.declared.codes.TheConstants.{ERROR_NOT_ENOUGH_MEMORY}
use Rattle.scm_model.specs.declared.calls.Reply.{Reply}
use Rattle.scm_model.specs.declared.calls.Request.{Request}
use Rattle.scm_model.specs.declared.calls.Request.TheVariants as request
use Rattle.scm_model.specs.declared.flat.Flat.{Flat}
use Rattle.scm_model.specs.declared.flat.Service.{Service}
use Rattle.scm_model.specs.declared.steps.Answer.{Answer}
use Rattle.scm_model.specs.declared.steps.Answer.TheVariants as answers
use Rattle.scm_model.specs.declared.steps.Kept.{Kept}
use Rattle.scm_model.specs.declared.steps.Kept.TheVariants as appended
use Rattle.scm_model.specs.declared.steps.Step.{Step}
use Rattle.scm_model.specs.declared.steps.Step.TheVariants.{Call, NoMemory}
use Rattle.scm_model.specs.Entries.{Entry, with_kept}
use Rattle.scm_model.specs.Refused.{refused}
use Rattle.start_plan.specs.Decided.{plan_caller}
use Rattle.scm_rules.specs.Histories.{state}
use Rattle.scm_runs.proofs.Along.{along}
use Rattle.scm_runs.proofs.Calls.{keeps}
use Rattle.scm_runs.proofs.Histories.{at_entry, legal_made}
use Rattle.scm_runs.proofs.Sound.{Sound, begun}
use Rattle.scm_history.specs.Begun.{BeginsOwn, IsPlanFor, LawOfBegun}
use Rattle.scm_history.specs.Shapes.{IsAnswered, IsReplied}
use Rattle.scm_history.proofs.Beginnings.{gives as begins}
use Rattle.book_rule.specs.declared.view.Opening.{Opening}
use Rattle.book_rule.specs.Seats.{Identity}
use Rattle.scm_book.specs.declared.answers.CallEnd.{CallEnd}
use Rattle.scm_book.specs.declared.answers.CallEnd.TheVariants as calls
use Rattle.scm_book.specs.declared.answers.StartEnd.{StartEnd}
use Rattle.scm_book.specs.declared.answers.StartEnd.TheVariants as starts
use Rattle.scm_book.specs.declared.turning.Recorded.{Recorded}
use Rattle.scm_book.specs.declared.turning.Recorded.TheVariants as recorded
use Rattle.scm_book.specs.declared.fault.MakeFault.{MakeFault}
use Rattle.scm_book.specs.declared.fault.MakeFault.TheVariants as makes
use Rattle.scm_book.specs.Called.{CallTold, CallToldInto, Calls, CallsInto, IfTold, IsBegun, IsReply, LeavesWhose, RepliesSo, StartTold}
use Rattle.scm_book.specs.Called.{StartsAs, WantsMemory, called, is_start, refusal_of}
use Rattle.scm_book.specs.Holds.{Opens}
use Rattle.scm_book.specs.Naming.{whose_after}
use Rattle.scm_book.specs.Passes.{Known, MadeSo, room_behind}
use Rattle.scm_book.specs.Turns.{CallEnds, call_told}
use Rattle.scm_book.proofs.Coming.{shaped}
use Rattle.scm_book.proofs.InHand.{seen_outside}

-- ## What a call is told

plain_reply : (f : Flat) (asked : Request) (told : Answer) → is_start asked ≡ false → IsAnswered f asked told → IsReply told
plain_reply f (request.Start handle words) told other shape = absurd cc
plain_reply f asked told other shape = (shape.said, shape.is)

reply_or_plan : (f : Flat) (asked : Request) (told : Answer) → is_start asked ≡ true → IsAnswered f asked told → IsBegun told
reply_or_plan f (request.Start handle words) told start shape = ⊎_elim
    (λ (replied : IsReplied (request.Start handle words) told). subst IsBegun (sym replied.is) (starts.Answered replied.said, refl))
    (λ (waits : told ≡ answers.Begun f.next.plan). subst IsBegun (sym waits) (starts.Waiting f.next.plan, refl)) shape
reply_or_plan f asked told start shape = absurd cc

-- whose plan it is that a start is told
plan_for : (f : Flat) (number caller : ℕ) (found : Option Service) → IsPlanFor f number caller found
    → plan_caller f.plans number ≡ Some caller
plan_for f number caller None bad = absurd bad
plan_for f number caller (Some row) is = is.callers

own_plan : (before after : Flat) (caller plan : ℕ) (asked : Request) (append : Kept) → is_start asked ≡ true
    → BeginsOwn before (Call caller asked append) (answers.Begun plan) after → plan_caller after.plans plan ≡ Some caller
own_plan before after caller plan (request.Start handle words) append start own = plan_for after plan caller _ own
own_plan before after caller plan asked append start own = absurd cc

module _ (o : Opening) (opens : Opens o) (k k' : Known) (moment : ℕ) (asked : Request) where
  pub told_reply : is_start asked ≡ false → (r : Result (Option Answer) MakeFault) → CallEnds o k moment k.caller (called k asked) r k'
      → IfTold IsReply r
  told_reply other (Ok (Some told)) made =
      plain_reply (state o.limits o.first made.made.before) asked told other
      (shaped o opens k k' moment (Call k.caller asked made.append) told made.made)
  told_reply other (Ok None) none = tt
  told_reply other (Err fault) ends = tt

  pub told_begun : is_start asked ≡ true → (r : Result (Option Answer) MakeFault) → CallEnds o k moment k.caller (called k asked) r k'
      → IfTold IsBegun r
  told_begun start (Ok (Some told)) made =
      reply_or_plan (state o.limits o.first made.made.before) asked told start
      (shaped o opens k k' moment (Call k.caller asked made.append) told made.made)
  told_begun start (Ok None) none = tt
  told_begun start (Err fault) ends = tt

  -- ## What the call comes to

  wants : (told : Answer) (made : MadeSo o k moment (NoMemory k.caller) told k') → room_behind o made.made.before (called k asked) ≡ true
      → WantsMemory o k moment asked (refused asked ERROR_NOT_ENOUGH_MEMORY) k'
  wants told made room =
      let both = subst (λ (a : Answer). (so : MadeSo o k moment (NoMemory k.caller) a k')
      × (room_behind o so.made.before (called k asked) ≡ true)) (shaped o opens k k' moment (NoMemory k.caller) told made.made)
      (made, room) in
      record { made = both.0; room = both.1; refused = refl }

  pub calls_so : (r : Result (Option Answer) MakeFault) (end : CallEnd) → CallEnds o k moment k.caller (called k asked) r k'
      → CallTold r (refused asked ERROR_NOT_ENOUGH_MEMORY) end → Calls o k moment asked k' end
  calls_so (Ok (Some told)) end made said =
      subst (Calls o k moment asked k') (sym said.2) (inl (subst (λ (a : Answer). MadeSo o k moment (called k asked) a k') said.1 made))
  calls_so (Ok None) end none said = subst (Calls o k moment asked k') (sym said) (inr (wants none.0 none.1 none.2))
  calls_so (Err makes.Full) end ends said = subst (Calls o k moment asked k') (sym said) (record { learnt = ends.0; full = ends.1 })
  calls_so (Err makes.OutOfMemory) end ends said = subst (Calls o k moment asked k') (sym said) (record { learnt = ends.0; free = ends.1 })

  -- the same where the reply is put into its place
  pub into_so : (r : Result (Option Answer) MakeFault) (end : Result (Unit {0}) MakeFault) (lay lies : Answer) → IfTold IsReply r
      → CallEnds o k moment k.caller (called k asked) r k'
      → CallToldInto r (refused asked ERROR_NOT_ENOUGH_MEMORY) end lay lies → CallsInto o k moment asked k' end lies
  into_so (Ok (Some told)) end lay lies reply made said =
      subst (λ (e : Result (Unit {0}) MakeFault). CallsInto o k moment asked k' e lies) (sym said.0)
      (subst (λ (a : Answer). RepliesSo o k moment asked a k') (sym (said.1 ∙ reply.1))
      (inl (subst (λ (a : Answer). MadeSo o k moment (called k asked) a k') reply.1 made)))
  into_so (Ok None) end lay lies reply none said =
      subst (λ (e : Result (Unit {0}) MakeFault). CallsInto o k moment asked k' e lies) (sym said.0)
      (subst (λ (a : Answer). RepliesSo o k moment asked a k') (sym said.1) (inr (wants none.0 none.1 none.2)))
  into_so (Err makes.Full) end lay lies reply ends said =
      subst (λ (e : Result (Unit {0}) MakeFault). CallsInto o k moment asked k' e lies) (sym said.0)
      (record { learnt = ends.0; full = ends.1 })
  into_so (Err makes.OutOfMemory) end lay lies reply ends said =
      subst (λ (e : Result (Unit {0}) MakeFault). CallsInto o k moment asked k' e lies) (sym said.0)
      (record { learnt = ends.0; free = ends.1 })

  plan_there : (plan : ℕ) → is_start asked ≡ true → (made : MadeSo o k moment (called k asked) (answers.Begun plan) k')
      → plan_caller (state o.limits o.first k'.seen).plans plan ≡ Some k.caller
  plan_there plan start made =
      let e : Entry = (moment, Call k.caller asked made.append) in
      let before : List Entry = made.made.before in
      subst (λ (l : List Entry). plan_caller (state o.limits o.first l).plans plan ≡ Some k.caller) (sym made.made.seen)
      (own_plan (state o.limits o.first before) (state o.limits o.first (before ++ e ∷ [])) k.caller plan asked made.append start
      (at_entry LawOfBegun o.limits o.first k'.seen
      (along Sound LawOfBegun o.limits (keeps o.limits) (begins o.limits) o.first k'.seen (begun o.limits o.first opens.begins)
      (legal_made o.limits o.first k'.seen made.made.legal))
      before e [] (answers.Begun plan) made.made.seen made.made.answer))

  pub starts_so : k.caller ≢ 0 → is_start asked ≡ true → (r : Result (Option Answer) MakeFault) (end : StartEnd)
      → CallEnds o k moment k.caller (called k asked) r k'
      → StartTold r (refused asked ERROR_NOT_ENOUGH_MEMORY) end → StartsAs o k moment asked k' end
  starts_so some start (Ok (Some (answers.Reply reply))) end made said = subst (StartsAs o k moment asked k') (sym said) (inl made)
  starts_so some start (Ok (Some (answers.Begun plan))) end made said = subst (StartsAs o k moment asked k') (sym said) (record {
    made = made;
    has = record {
      caller = λ none. some (sym made.made.caller ∙ none);
      there = plan_there plan start made ∙ ap (λ (c : ℕ). Some c) (sym made.made.caller);
    };
  })
  starts_so some start (Ok (Some told)) end made said = absurd said
  starts_so some start (Ok None) end none said = subst (StartsAs o k moment asked k') (sym said) (inr (wants none.0 none.1 none.2))
  starts_so some start (Err makes.Full) end ends said = subst (StartsAs o k moment asked k') (sym said)
      (record { learnt = ends.0; full = ends.1 })
  starts_so some start (Err makes.OutOfMemory) end ends said = subst (StartsAs o k moment asked k') (sym said)
      (record { learnt = ends.0; free = ends.1 })

-- ## Whose the pass is

whose_kept : (f : Flat) (caller : ℕ) (step : Step) (now : Kept) → whose_after f caller (with_kept step now) ≡ whose_after f caller step
whose_kept f caller (Call by asked append) now = refl
whose_kept f caller step now = refl

-- a step by which nobody joins or goes leaves the pass whose it was
pub caller_still : (o : Opening) (k k' : Known) (moment caller : ℕ) (step : Step) → LeavesWhose step
    → (r : Result (Option Answer) MakeFault) → CallEnds o k moment caller step r k' → k'.caller ≡ k.caller
caller_still o k k' moment caller step stays (Ok (Some told)) made =
    let f = state o.limits o.first made.made.before in made.made.caller ∙ (whose_kept f k.caller step made.append ∙ stays f k.caller)
caller_still o k k' moment caller step stays (Ok None) none = none.1.made.caller
caller_still o k k' moment caller step stays (Err fault) ends = ends.0.caller

-- ## As a book makes it, whose turn and pass lie within what contracts see

pub asks_so : (b b' : Identity) (from k k' : Known) → b ≡ b' → (same : from ≡ k) → (moment caller : ℕ) → caller ≡ from.caller
    → (step : Step) (r : Result (Option Answer) MakeFault)
    → CallEnds b.opening from moment caller step r k' → CallEnds b'.opening k moment k.caller step r k'
asks_so b b' from k k' book same moment caller whose step r ends =
    let mine : caller ≡ k.caller = whose ∙ ap (λ (x : Known). x.caller) same in
    seen_outside (λ (x : Identity) (y : Known). CallEnds x.opening y moment k.caller step r k') b b' from k book same
    (subst (λ (c : ℕ). CallEnds b.opening from moment c step r k') mine ends)

-- the step is the pass's call, whose caller its token tells
pub call_is : (from k : Known) → from ≡ k → (caller : ℕ) → caller ≡ from.caller → (asked : Request) (step : Step)
    → step ≡ Call caller asked appended.NotAsked → step ≡ called k asked
call_is from k same caller whose asked step is = is ∙ ap (λ (n : ℕ). Call n asked appended.NotAsked) (whose
    ∙ ap (λ (x : Known). x.caller) same)

-- where there was no memory for a call, that is what was recorded
pub none_told : (r : Result Recorded MakeFault) (told : Answer) → call_told r told ≡ Ok None → r ≡ Ok recorded.NoMemory
none_told (Ok recorded.Call) told is = absurd cc
none_told (Ok recorded.NoMemory) told is = refl
none_told (Err fault) told is = absurd cc

-- ## A refusal is read off the step behind the call, which is as it was where there was no memory

refusal_late : (asked : Request) (k : Known) (step step' : Step) → step ≡ called k asked → step' ≡ step
    → refusal_of step' ≡ refused asked ERROR_NOT_ENOUGH_MEMORY
refusal_late asked k step step' is same = ap (λ (s : Step). refusal_of s) (same ∙ is)

told_late : (asked : Request) (k : Known) (step step' : Step) → step ≡ called k asked → (r : Result (Option Answer) MakeFault)
    → (r ≡ Ok None → step' ≡ step) → (end : CallEnd)
    → CallTold r (refusal_of step') end → CallTold r (refused asked ERROR_NOT_ENOUGH_MEMORY) end
told_late asked k step step' is (Ok (Some told)) same end said = said
told_late asked k step step' is (Ok None) same end said = said ∙ ap (λ (reply : Reply). calls.Answered reply)
    (refusal_late asked k step step' is (same refl))
told_late asked k step step' is (Err makes.Full) same end said = said
told_late asked k step step' is (Err makes.OutOfMemory) same end said = said

begun_late : (asked : Request) (k : Known) (step step' : Step) → step ≡ called k asked → (r : Result (Option Answer) MakeFault)
    → (r ≡ Ok None → step' ≡ step) → (end : StartEnd)
    → StartTold r (refusal_of step') end → StartTold r (refused asked ERROR_NOT_ENOUGH_MEMORY) end
begun_late asked k step step' is (Ok (Some told)) same end said = said
begun_late asked k step step' is (Ok None) same end said = said ∙ ap (λ (reply : Reply). starts.Answered reply)
    (refusal_late asked k step step' is (same refl))
begun_late asked k step step' is (Err makes.Full) same end said = said
begun_late asked k step step' is (Err makes.OutOfMemory) same end said = said

pub call_comes : (o : Opening) → Opens o → (k k' : Known) (moment : ℕ) (asked : Request) (step step' : Step) → step ≡ called k asked
    → (r : Result (Option Answer) MakeFault) → (r ≡ Ok None → step' ≡ step) → (end : CallEnd)
    → CallEnds o k moment k.caller step r k' → CallTold r (refusal_of step') end → Calls o k moment asked k' end
call_comes o opens k k' moment asked step step' is r same end ends told =
    calls_so o opens k k' moment asked r end (subst (λ (s : Step). CallEnds o k moment k.caller s r k') is ends)
    (told_late asked k step step' is r same end told)

into_late : (asked : Request) (k : Known) (step step' : Step) → step ≡ called k asked → (r : Result (Option Answer) MakeFault)
    → (r ≡ Ok None → step' ≡ step) → (end : Result (Unit {0}) MakeFault) (lay lies : Answer)
    → CallToldInto r (refusal_of step') end lay lies → CallToldInto r (refused asked ERROR_NOT_ENOUGH_MEMORY) end lay lies
into_late asked k step step' is (Ok (Some told)) same end lay lies said = said
into_late asked k step step' is (Ok None) same end lay lies said =
    (said.0, said.1 ∙ ap (λ (reply : Reply). answers.Reply reply) (refusal_late asked k step step' is (same refl)))
into_late asked k step step' is (Err makes.Full) same end lay lies said = said
into_late asked k step step' is (Err makes.OutOfMemory) same end lay lies said = said

pub into_comes : (o : Opening) → Opens o → (k k' : Known) (moment : ℕ) (asked : Request) (step step' : Step) → step ≡ called k asked
    → is_start asked ≡ false → (r : Result (Option Answer) MakeFault) → (r ≡ Ok None → step' ≡ step)
    → (end : Result (Unit {0}) MakeFault) (lay lies : Answer) → CallEnds o k moment k.caller step r k'
    → CallToldInto r (refusal_of step') end lay lies → CallsInto o k moment asked k' end lies
into_comes o opens k k' moment asked step step' is other r same end lay lies ends told =
    let made : CallEnds o k moment k.caller (called k asked) r k' = subst (λ (s : Step). CallEnds o k moment k.caller s r k') is ends in
    into_so o opens k k' moment asked r end lay lies (told_reply o opens k k' moment asked other r made) made
    (into_late asked k step step' is r same end lay lies told)

module _ (o : Opening) (k k' : Known) (moment : ℕ) (asked : Request) where
  -- the reply that a call put into its place, by value
  pub replied_into : (told : Answer) → CallsInto o k moment asked k' (Ok tt) told → IsReply told
  replied_into (answers.Reply reply) so = (reply, refl)
  replied_into told so = absurd so

  pub reply_taken : (told : Answer) (reply : Reply) → told ≡ answers.Reply reply → CallsInto o k moment asked k' (Ok tt) told
      → Calls o k moment asked k' (calls.Answered reply)
  reply_taken told reply is so = subst (λ (a : Answer). RepliesSo o k moment asked a k') is so

-- what lay in the place of the answer stays there if no step is made
pub untold_into : (ended : Result Recorded MakeFault) (refusal : Reply) (end : Result (Unit {0}) MakeFault) (before lay lies : Answer)
    → OnErr ended (lay ≡ before) → CallToldInto (call_told ended lay) refusal end lay lies → OnErr end (lies ≡ before)
untold_into (Ok recorded.Call) refusal end before lay lies same said =
    subst (λ (e : Result (Unit {0}) MakeFault). OnErr e (lies ≡ before)) (sym said.0) tt
untold_into (Ok recorded.NoMemory) refusal end before lay lies same said =
    subst (λ (e : Result (Unit {0}) MakeFault). OnErr e (lies ≡ before)) (sym said.0) tt
untold_into (Err fault) refusal end before lay lies same said =
    subst (λ (e : Result (Unit {0}) MakeFault). OnErr e (lies ≡ before)) (sym said.0) (said.1 ∙ same)

pub start_comes : (o : Opening) → Opens o → (k k' : Known) (moment : ℕ) (asked : Request) (step step' : Step) → step ≡ called k asked
    → (r : Result (Option Answer) MakeFault) → (r ≡ Ok None → step' ≡ step) → (end : StartEnd)
    → CallEnds o k moment k.caller step r k' → k.caller ≢ 0 → is_start asked ≡ true → StartTold r (refusal_of step') end
    → StartsAs o k moment asked k' end
start_comes o opens k k' moment asked step step' is r same end ends some start told =
    starts_so o opens k k' moment asked some start r end (subst (λ (s : Step). CallEnds o k moment k.caller s r k') is ends)
    (begun_late asked k step step' is r same end told)

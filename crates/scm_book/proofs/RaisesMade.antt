-- What a raise comes to.
use Rattle.std.proofs.Common.{◌≡◌, ℕ, inl, inr, true, List, Option, None, Some, Result, Ok, Err, refl, sym, ap, ◌∙◌, subst}
use Rattle.scm_model.specs.declared.codes.TheConstants.{ERROR_NOT_ENOUGH_MEMORY}
use Rattle.scm_model.specs.declared.calls.Reply.{Reply}
use Rattle.scm_model.specs.declared.calls.Reply.TheVariants as replies
use Rattle.scm_model.specs.declared.steps.Answer.{Answer}
use Rattle.scm_model.specs.declared.steps.Answer.TheVariants as answers
use Rattle.scm_model.specs.declared.steps.Step.{Step}
use Rattle.scm_model.specs.declared.steps.Step.TheVariants.{NoMemory, Raised}
use Rattle.book_rule.specs.declared.view.Opening.{Opening}
use Rattle.scm_book.specs.declared.answers.CallEnd.{CallEnd}
use Rattle.scm_book.specs.declared.answers.CallEnd.TheVariants as calls
use Rattle.scm_book.specs.declared.fault.MakeFault.{MakeFault}
use Rattle.scm_book.specs.declared.fault.MakeFault.TheVariants as makes
use Rattle.scm_book.specs.Called.{CallTold, IfTold, IsReply, RaiseWants, RaisedSo, Raises, raised_by, refusal_of}
use Rattle.scm_book.specs.Holds.{Opens}
use Rattle.scm_book.specs.Passes.{Known, MadeSo, room_behind}
use Rattle.scm_book.specs.Turns.{CallEnds}
use Rattle.scm_book.proofs.Coming.{shaped}

reply_same : {a b : Reply} → answers.Reply a ≡ answers.Reply b → a ≡ b
reply_same same = cc

module _ (o : Opening) (opens : Opens o) (k k' : Known) (moment : ℕ) (subtype : List ℕ) where
  pub told_code : (r : Result (Option Answer) MakeFault) → CallEnds o k moment k.caller (raised_by k subtype) r k' → IfTold IsReply r
  told_code (Ok (Some told)) made =
      let shape = shaped o opens k k' moment (Raised k.caller subtype) told made.made in (replies.Code shape.code, shape.is)
  told_code (Ok None) none = tt
  told_code (Err fault) ends = tt

  wants : (told : Answer) (made : MadeSo o k moment (NoMemory k.caller) told k')
      → room_behind o made.made.before (raised_by k subtype) ≡ true → RaiseWants o k moment subtype
      (replies.Code ERROR_NOT_ENOUGH_MEMORY) k'
  wants told made room =
      let both = subst (λ (a : Answer). (so : MadeSo o k moment (NoMemory k.caller) a k')
      × (room_behind o so.made.before (raised_by k subtype) ≡ true)) (shaped o opens k k' moment (NoMemory k.caller) told made.made)
      (made, room) in
      record { made = both.0; room = both.1; refused = refl }

  answered : (told : Answer) (made : MadeSo o k moment (raised_by k subtype) told k')
      → RaisedSo o k moment subtype (replies.Code (shaped o opens k k' moment (Raised k.caller subtype) told made.made).code) k'
  answered told made =
      let shape = shaped o opens k k' moment (Raised k.caller subtype) told made.made in
      record { made = subst (λ (a : Answer). MadeSo o k moment (raised_by k subtype) a k') shape.is made; code = shape.code; is = refl }

  pub raises_so : (r : Result (Option Answer) MakeFault) (end : CallEnd) → CallEnds o k moment k.caller (raised_by k subtype) r k'
      → CallTold r (replies.Code ERROR_NOT_ENOUGH_MEMORY) end → Raises o k moment subtype k' end
  raises_so (Ok (Some told)) end made said =
      let shape = shaped o opens k k' moment (Raised k.caller subtype) told made.made in
      let same : answers.Reply (replies.Code shape.code) ≡ answers.Reply said.0 = sym shape.is ∙ said.1 in
      subst (Raises o k moment subtype k') (sym (said.2 ∙ ap (λ (reply : Reply). calls.Answered reply) (sym (reply_same same))))
      (inl (answered told made))
  raises_so (Ok None) end none said = subst (Raises o k moment subtype k') (sym said) (inr (wants none.0 none.1 none.2))
  raises_so (Err makes.Full) end ends said = subst (Raises o k moment subtype k') (sym said) (record { learnt = ends.0; full = ends.1 })
  raises_so (Err makes.OutOfMemory) end ends said = subst (Raises o k moment subtype k') (sym said)
      (record { learnt = ends.0; free = ends.1 })

-- the step is the pass's raise, whose caller its token tells
pub raise_is : (from k : Known) → from ≡ k → (caller : ℕ) → caller ≡ from.caller → (subtype : List ℕ) (step : Step)
    → step ≡ Raised caller subtype → step ≡ raised_by k subtype
raise_is from k same caller whose subtype step is = is ∙ ap (λ (n : ℕ). Raised n subtype) (whose ∙ ap (λ (x : Known). x.caller) same)

told_late : (k : Known) (subtype : List ℕ) (step step' : Step) → step ≡ raised_by k subtype → (r : Result (Option Answer) MakeFault)
    → (r ≡ Ok None → step' ≡ step) → (end : CallEnd)
    → CallTold r (refusal_of step') end → CallTold r (replies.Code ERROR_NOT_ENOUGH_MEMORY) end
told_late k subtype step step' is (Ok (Some told)) same end said = said
told_late k subtype step step' is (Ok None) same end said = said ∙ ap (λ (s : Step). calls.Answered (refusal_of s)) (same refl ∙ is)
told_late k subtype step step' is (Err makes.Full) same end said = said
told_late k subtype step step' is (Err makes.OutOfMemory) same end said = said

pub raise_comes : (o : Opening) → Opens o → (k k' : Known) (moment : ℕ) (subtype : List ℕ) (step step' : Step) → step ≡ raised_by k subtype
    → (r : Result (Option Answer) MakeFault) → (r ≡ Ok None → step' ≡ step) → (end : CallEnd)
    → CallEnds o k moment k.caller step r k' → CallTold r (refusal_of step') end → Raises o k moment subtype k' end
raise_comes o opens k k' moment subtype step step' is r same end ends told =
    raises_so o opens k k' moment subtype r end (subst (λ (s : Step). CallEnds o k moment k.caller s r k') is ends)
    (told_late k subtype step step' is r same end told)

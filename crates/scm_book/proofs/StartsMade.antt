-- What a look after a start that waits comes to.
use Rattle.std.proofs.Common.{◌≡◌, ℕ, Option, None, Some, refl, sym, subst}
use Rattle.std.specs.Prelude.{IfSome}
use Rattle.scm_model.specs.declared.calls.Reply.TheVariants as reply
use Rattle.scm_model.specs.declared.steps.Answer.{Answer}
use Rattle.scm_model.specs.declared.steps.Answer.TheVariants as answers
use Rattle.scm_model.specs.declared.steps.Step.TheVariants.{EndStart}
use Rattle.book_rule.specs.declared.view.Opening.{Opening}
use Rattle.scm_book.specs.declared.answers.EndLook.{EndLook}
use Rattle.scm_book.specs.declared.answers.EndLook.TheVariants as looks
use Rattle.scm_book.specs.Called.{IsReply}
use Rattle.scm_book.specs.Holds.{Opens}
use Rattle.scm_book.specs.Looks.{EndTold}
use Rattle.scm_book.specs.Passes.{HasPlan, Known, Made}
use Rattle.scm_book.specs.Starts.{AlwaysThere, EndKeeps, EndLooks, Ends, IsThere}
use Rattle.scm_book.proofs.Coming.{shaped}
use Rattle.scm_book.proofs.InHandStill.{end_keeps, learnt_keeps}
use Rattle.scm_book.proofs.Lasting.{keeps_seen}

-- a pass's plan is there behind all that goes on from what it has seen
pub always_there : (o : Opening) → Opens o → (k : Known) (caller plan : ℕ) → caller ≡ k.caller → HasPlan o k plan
    → AlwaysThere o k caller plan
always_there o opens k caller plan whose has log longer runs claims =
    let kept = (keeps_seen o opens k (record k { seen = log }) longer runs.legal claims refl refl).plans plan has in
    subst (λ (c : ℕ). IsThere o log k.names c plan) (sym whose) (record {
      mine = claims.caller has.caller;
      lives = claims.lives has.caller;
      there = kept.there;
    })

module _ (o : Opening) (opens : Opens o) (k k' : Known) (moment caller plan : ℕ) (whose : caller ≡ k.caller) where
  -- who answers a start is told a reply
  pub end_told : (r : Option Answer) → Ends o k moment caller plan k' r → IfSome r IsReply
  end_told (Some told) made = let ended = shaped o opens k k' moment (EndStart caller plan) told made in (reply.Code ended.code, ended.is)
  end_told None looked = tt

  pub looks_so : (r : Option Answer) (end : EndLook) → Ends o k moment caller plan k' r → EndTold r end → EndLooks o k moment plan k' end
  looks_so (Some told) end made said = subst (EndLooks o k moment plan k') (sym said.2)
      (subst (λ (c : ℕ). Made o k moment (EndStart c plan) (answers.Reply said.0) k') whose
      (subst (λ (a : Answer). Made o k moment (EndStart caller plan) a k') said.1 made))
  looks_so None end looked said = subst (EndLooks o k moment plan k') (sym said) looked

-- what the pass has in hand it has still
pub looks_keep : (o : Opening) → Opens o → (k k' : Known) (moment plan : ℕ) (end : EndLook) → EndLooks o k moment plan k' end
    → EndKeeps o plan k k' end
looks_keep o opens k k' moment plan (looks.Done reply) made = end_keeps o opens k k' moment plan (answers.Reply reply) made
looks_keep o opens k k' moment plan looks.Again looked = learnt_keeps o opens k k' looked.0

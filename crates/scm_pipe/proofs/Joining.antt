-- The joining of the one caller of a book.
use Rattle.std.proofs.Common.{ℕ, ◌≡◌, ◌∙◌, ◌≤◌, ◌++◌, true, List, [], ◌∷◌, length, refl, sym, ap, subst, arith}
use Rattle.std.specs.Prelude.{nat_lt}
use Rattle.std.proofs.lemmas.Bool.{false≢true}
use Rattle.scm_model.specs.declared.flat.Config.{Config}
use Rattle.scm_model.specs.declared.flat.Flat.{Flat}
use Rattle.scm_model.specs.declared.flat.Limits.{Limits}
use Rattle.scm_model.specs.declared.flat.Principal.{Principal}
use Rattle.scm_model.specs.declared.steps.Answer.TheVariants as answers
use Rattle.scm_model.specs.declared.steps.Step.TheVariants.{Joined}
use Rattle.scm_model.specs.Entries.{Entry, text_in}
use Rattle.scm_rules.specs.Histories.{state}
use Rattle.scm_rules.specs.Opening.{IsOpening, opening}
use Rattle.scm_rules.specs.Room.{has_room}
use Rattle.scm_rules.specs.Steps.{step_of}
use Rattle.scm_runs.proofs.Histories.{state_none}
use Rattle.book_rule.specs.declared.view.Opening.{Opening}
use Rattle.scm_book.specs.declared.answers.JoinFault.{JoinFault}
use Rattle.scm_book.specs.declared.answers.JoinFault.TheVariants as joins
use Rattle.scm_book.specs.declared.fault.MakeFault.TheVariants as makes
use Rattle.scm_book.specs.Joins.{BecomesCaller, JoinCause, JoinCauseAt}
use Rattle.scm_book.specs.Passes.{Known, Learnt}
use Rattle.scm_pipe.specs.Histories.{the_caller}
use Rattle.scm_pipe.specs.Piping.{CanJoin, IsRoot}
use Rattle.scm_pipe.proofs.Walking.{Steps, steps}

-- ## There is room for it

place_of : (n : ℕ) → 1 ≤ n → nat_lt 0 n ≡ true
place_of n some = grind (arith, some)

has_place_at : (l : Limits) (f : Flat) → IsOpening l f → 1 ≤ l.callers → nat_lt (length (state l f []).callers) l.callers ≡ true
has_place_at l f opens some =
    subst (λ (g : Flat). nat_lt (length g.callers) l.callers ≡ true) (sym (state_none l f ∙ opens.is)) (place_of l.callers some)

room_in : (l : Limits) (groups : List (List ℕ)) (configs : List Config) (moment : ℕ) (principal : Principal) → 2 ≤ l.steps
    → has_room l (opening l groups configs moment) 0 (text_in []) (Joined principal) ≡ true
room_in l groups configs moment principal some = grind (arith, some)

has_room_at : (l : Limits) (f : Flat) (principal : Principal) → IsOpening l f → 2 ≤ l.steps
    → has_room l (state l f []) 0 (text_in []) (Joined principal) ≡ true
has_room_at l f principal opens some =
    subst (λ (g : Flat). has_room l g 0 (text_in []) (Joined principal) ≡ true) (sym (state_none l f ∙ opens.is))
    (room_in l opens.groups opens.configs opens.moment principal some)

pub can_join : (o begun : Opening) (principal : Principal) → o ≡ begun → IsOpening begun.limits begun.first → 1 ≤ begun.limits.callers
    → 2 ≤ begun.limits.steps → CanJoin o principal
can_join o begun principal is opens places steps =
    subst (λ (x : Opening). CanJoin x principal) (sym is) (record {
      opens = opens;
      place = has_place_at begun.limits begun.first opens places;
      room = has_room_at begun.limits begun.first principal opens steps;
    })

-- so memory alone is wanting where it fails
why : (o : Opening) (log : List Entry) (principal : Principal) (fault : JoinFault) → CanJoin o principal → log ≡ []
    → JoinCauseAt o log principal fault → fault ≡ joins.Unmade makes.OutOfMemory
why o log principal joins.TooMany can none cause = absurd (false≢true (sym
    (subst (λ (es : List Entry). JoinCauseAt o es principal joins.TooMany) none cause) ∙ can.place))
why o log principal (joins.Unmade makes.Full) can none cause = absurd (false≢true (sym
    (subst (λ (es : List Entry). JoinCauseAt o es principal (joins.Unmade makes.Full)) none cause).1 ∙ can.room))
why o log principal (joins.Unmade makes.OutOfMemory) can none cause = refl

pub lacks_memory : (o : Opening) (root k : Known) (principal : Principal) (fault : JoinFault) → CanJoin o principal → IsRoot root
    → Learnt o root k → JoinCause o k principal fault → fault ≡ joins.Unmade makes.OutOfMemory
lacks_memory o root k principal fault can is learnt cause = why o k.seen principal fault can (learnt.alone is.alone ∙ is.seen) cause

-- ## The caller

-- the first that joins is caller 1
first_joins : (l : Limits) (f : Flat) (m : ℕ) (principal : Principal) → IsOpening l f
    → (step_of l f m (Joined principal)).answer ≡ answers.Caller 1
first_joins l f m principal opens =
    subst (λ (g : Flat). (step_of l g m (Joined principal)).answer ≡ answers.Caller 1) (sym opens.is) refl

same_caller : (a b : ℕ) → answers.Caller a ≡ answers.Caller b → a ≡ b
same_caller a b is = cc

-- a pass that is alone at an empty history, behind its joining
pub record HasJoined (tells : ℕ → Type 0) (principal : Principal) (k : Known) : Type 0 where
  pub moment : ℕ
  pub told : tells moment
  pub seen : k.seen ≡ (moment, Joined principal) ∷ []
  pub caller : k.caller ≡ the_caller
  pub alone : k.alone ≡ true

pub has_joined : (tells : ℕ → Type 0) (o : Opening) (root k : Known) (m : ℕ) (principal : Principal) → CanJoin o principal → IsRoot root
    → tells m → BecomesCaller o root m principal k → HasJoined tells principal k
has_joined tells o root k m principal can is so made =
    let here : state o.limits o.first root.seen ≡ o.first = ap (λ (es : List Entry). state o.limits o.first es) is.seen
    ∙ state_none o.limits o.first in
    let step : Steps tells o root k m (Joined principal) o.first (answers.Caller k.caller) =
    steps tells o root k m (Joined principal) (answers.Caller k.caller) o.first is.alone here made.made in record {
      moment = m;
      told = so;
      seen = step.seen ∙ ap (λ (es : List Entry). es ++ (m, Joined principal) ∷ []) is.seen;
      caller = same_caller k.caller 1 (step.answers ∙ first_joins o.limits o.first m principal can.opens);
      alone = step.alone;
    }

-- What the clauses of the book come to for who calls it.
use Rattle.std.proofs.Common.{◌≡◌, ◌≢◌, ℕ, List, Result, Ok, Err, inl, inr, sym, ap, ◌∙◌, subst}
use Rattle.std.specs.Prelude.{IfOk}
use Rattle.scm_text.specs.declared.OutOfMemory.{OutOfMemory}
use Rattle.scm_model.specs.declared.calls.Request.{Request}
use Rattle.scm_model.specs.declared.flat.Config.{Config}
use Rattle.scm_model.specs.declared.flat.Limits.{Limits}
use Rattle.scm_rules.specs.Opening.{CanOpen, IsOpening, opening}
use Rattle.scm_core.specs.Managed.{Managed}
use Rattle.book_rule.specs.declared.view.Opening.{Opening}
use Rattle.book_rule.specs.Seats.{Identity}
use Rattle.scm_book.specs.declared.answers.CallEnd.{CallEnd}
use Rattle.scm_book.specs.declared.answers.CallEnd.TheVariants as calls
use Rattle.scm_book.specs.declared.fault.MakeFault.TheVariants as makes
use Rattle.scm_book.specs.Called.{Calls, Raises}
use Rattle.scm_book.specs.Joins.{TakesIn, accompanied, fresh}
use Rattle.scm_book.specs.Passes.{IsOf, Known}

-- a call leaves the pass the caller's
pub calls_stay : (o : Opening) (k : Known) (moment : ℕ) (asked : Request) (k' : Known) (end : CallEnd) → Calls o k moment asked k' end
    → k'.caller ≡ k.caller
calls_stay o k moment asked k' (calls.Answered reply) (inl made) = made.made.caller
calls_stay o k moment asked k' (calls.Answered reply) (inr lacks) = lacks.made.made.caller
calls_stay o k moment asked k' (calls.Unmade makes.Full) finds = finds.learnt.caller
calls_stay o k moment asked k' (calls.Unmade makes.OutOfMemory) finds = finds.learnt.caller

-- so does a raise
pub raises_stay : (o : Opening) (k : Known) (moment : ℕ) (subtype : List ℕ) (k' : Known) (end : CallEnd) → Raises o k moment subtype k' end
    → k'.caller ≡ k.caller
raises_stay o k moment subtype k' (calls.Answered reply) (inl so) = so.made.made.caller
raises_stay o k moment subtype k' (calls.Answered reply) (inr lacks) = lacks.made.made.caller
raises_stay o k moment subtype k' (calls.Unmade makes.Full) finds = finds.learnt.caller
raises_stay o k moment subtype k' (calls.Unmade makes.OutOfMemory) finds = finds.learnt.caller

pub some_still : (m n : ℕ) → n ≡ m → m ≢ 0 → n ≢ 0
some_still m n same some = λ none. some (sym same ∙ none)

-- ## Passes of one book

pub taken_of : (b : Identity) (by spent by' : Known) → IsOf b by → TakesIn by spent by' → IsOf b by'
taken_of b by spent by' of takes = subst (IsOf b) (sym takes.same) (record { table = of.table; opening = of.opening })

pub fresh_of : (b : Identity) (k k' : Known) → IsOf b k → k' ≡ fresh k → IsOf b k'
fresh_of b k k' of is = subst (IsOf b) (sym is) (record { table = of.table; opening = of.opening })

pub accompanied_of : (b : Identity) (k k' : Known) → IsOf b k → k' ≡ accompanied k → IsOf b k'
accompanied_of b k k' of is = subst (IsOf b) (sym is) (record { table = of.table; opening = of.opening })

-- ## A manager of nobody and nothing

pub opens_new : (l : Limits) (groups : List (List ℕ)) (configs : List Config) (moment : ℕ) (r : Result Managed OutOfMemory)
    → CanOpen l configs
    → IfOk r (λ m. m.flat ≡ opening l groups configs moment) → IfOk r (λ m. m.limits ≡ l) → IfOk r (λ m. IsOpening m.limits m.flat)
opens_new l groups configs moment (Ok m) can flat limits = record {
  groups = groups;
  configs = configs;
  moment = moment;
  can = subst (λ (k : Limits). CanOpen k configs) (sym limits) can;
  is = flat ∙ ap (λ (k : Limits). opening k groups configs moment) (sym limits);
}
opens_new l groups configs moment (Err fault) can flat limits = tt

-- Seats that are made beside others, and taken in.
use Rattle.std.proofs.Common.{◌≡◌, ℕ, List, Option, Some, Box, ap, sym, subst, ◌∙◌}
use Rattle.std.specs.declared.alloc.Global.{Global}
use Rattle.scm_model.specs.declared.steps.Name.{Name}
use Rattle.scm_model.specs.declared.steps.Name.TheVariants as names
use Rattle.scm_model.specs.Entries.{Entry}
use Rattle.start_plan.specs.Decided.{plan_caller}
use Rattle.scm_rules.specs.Histories.{state}
use Rattle.scm_history.specs.Phases.{phase_of}
use Rattle.book_rule.specs.declared.view.Opening.{Opening}
use Rattle.book_rule.specs.Ways.{Has}
use Rattle.atomic_table.specs.declared.shared.Seat.{Seat}
use Rattle.book_rule.specs.declared.view.View.{View}
use Rattle.book_rule.specs.Seats.{Forks, Identity, Merges, StillClaims, Waits}
use Rattle.scm_book.specs.Ghosts.{Ghosts}
use Rattle.scm_book.specs.declared.held.Held.{Held}
use Rattle.scm_book.specs.Joins.{TakesIn, accompanied, fresh}
use Rattle.scm_book.specs.Holds.{Opens, way_of}
use Rattle.scm_book.specs.Passes.{KeepsAll, Known, knows, seen_state}
use Rattle.scm_book.specs.Turns.{known}
use Rattle.scm_book.proofs.Lasting.{keeps_within}
use Rattle.scm_book.proofs.Passes.{claims_in}

module _ {K : Type 0} (b : Identity) (s s' r : Seat (Option (Box (Held K) Global)) View) (waits : Waits b s) where
  pub beside_waits : Forks s s' r → Waits b s'
  beside_waits forks = record {
    of = record { table = forks.table ∙ waits.of.table; opening = ap (λ m. m.0.opening) forks.me ∙ waits.of.opening };
    away = ap (λ m. m.0.stage) forks.me ∙ waits.away;
    empty = ap (λ m. m.1) forks.me ∙ waits.empty;
  }

  pub new_waits : Forks s s' r → Waits b r
  new_waits forks = record {
    of = record { table = forks.new_table ∙ waits.of.table; opening = ap (λ m. m.0.opening) forks.new_me ∙ waits.of.opening };
    away = ap (λ m. m.0.stage) forks.new_me;
    empty = ap (λ m. m.1) forks.new_me;
  }

  pub merged_waits : Merges s r s' → Waits b s'
  merged_waits merges = record {
    of = record { table = merges.table ∙ waits.of.table; opening = ap (λ m. m.0.opening) merges.me ∙ waits.of.opening };
    away = ap (λ m. m.0.stage) merges.me ∙ waits.away;
    empty = ap (λ m. m.1) merges.me;
  }

-- ## What is in hand still

-- who has seen the same has the same in hand
pub same_keeps : (o : Opening) (k k' : Known) → k'.seen ≡ k.seen → k'.names ≡ k.names → k'.caller ≡ k.caller → KeepsAll o k k'
same_keeps o k k' seen own whose = record {
  processes = λ process phase holds. record {
    named = subst (λ (ns : List Name). Has (names.Process process) ns) (sym own) holds.named;
    listed = subst (λ (l : List Entry). phase_of (state o.limits o.first l) process ≡ Some phase) (sym seen) holds.listed;
  };
  plans = λ plan has. record {
    caller = λ none. has.caller (sym whose ∙ none);
    there = subst (λ (c : ℕ). plan_caller (seen_state o k').plans plan ≡ Some c) (sym whose)
        (subst (λ (l : List Entry). plan_caller (state o.limits o.first l).plans plan ≡ Some k.caller) (sym seen) has.there);
  };
}

pub keeps_on : (o : Opening) (k mid k' : Known) → KeepsAll o k mid → KeepsAll o mid k' → KeepsAll o k k'
keeps_on o k mid k' first then = record {
  processes = λ process phase holds. then.processes process phase (first.processes process phase holds);
  plans = λ plan has. then.plans plan (first.plans plan has);
}

module _ {K : Type 0} (ghosts : Ghosts K) (b : Identity) (opens : Opens b.opening)
    (s s' r : Seat (Option (Box (Held K) Global)) View) where
  pub merged_keeps : Merges s r s' → StillClaims (way_of ghosts) b s s' → KeepsAll b.opening (known s) (known s')
  merged_keeps merges still = keeps_within b.opening opens (known s) (known s') merges.this still.log still.within still.run.legal
      (claims_in ghosts b.opening still.log s.table_id s.me.0 still.claims)
      (ap (λ m. m.0.names) merges.me) (ap (λ m. m.0.caller) merges.me)

-- ## What they have seen

module _ {K : Type 0} (s s' r : Seat (Option (Box (Held K) Global)) View) where
  pub accompanied_is : Forks s s' r → known s' ≡ accompanied (known s)
  accompanied_is forks = λ i. knows (forks.table i) (forks.me i).0

  pub fresh_is : Forks s s' r → known r ≡ fresh (known s)
  fresh_is forks = λ i. knows (forks.new_table i) (forks.new_me i).0

  pub takes_in : Merges s r s' → TakesIn (known s) (known r) (known s')
  takes_in merges = record { same = λ i. knows (merges.table i) (merges.me i).0; this = merges.this; that = merges.that }

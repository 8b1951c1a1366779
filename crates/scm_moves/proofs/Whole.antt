-- Both laws hold in each step from a state that a run reaches.
use Rattle.std.proofs.Common.{ℕ, List, sym, subst}
use Rattle.std.proofs.lemmas.List.Elements.{All-nil}
use Rattle.scm_model.specs.declared.flat.Config.{Config}
use Rattle.scm_model.specs.declared.flat.Flat.{Flat}
use Rattle.scm_model.specs.declared.flat.HandleRow.{HandleRow}
use Rattle.scm_model.specs.declared.flat.Limits.{Limits}
use Rattle.scm_rules.specs.Opening.{IsOpening, opening, services_from}
use Rattle.scm_runs.proofs.Along.{Gives, Keeps}
use Rattle.scm_runs.proofs.Clear.{Clear, clear_begun, clear_keeps, is_valid_clear}
use Rattle.scm_moves.specs.Controls.{LawOfControls}
use Rattle.scm_moves.specs.Moves.{LawOfMoves}
use Rattle.scm_moves.proofs.Controlled.{controls}
use Rattle.scm_moves.proofs.Known.{IsOfOne, Known, known}
use Rattle.scm_moves.proofs.Moved.{ended, moved}
use Rattle.scm_moves.proofs.Stale.{refused, stale, unheard}

-- what is true of every state
pub record Whole (l : Limits) (f : Flat) : Type 0 where
  pub clear : Clear l f
  pub known : Known f

-- there are no handles
opened_known : (l : Limits) (groups : List (List ℕ)) (configs : List Config) (moment : ℕ) → Known (opening l groups configs moment)
opened_known l groups configs moment = record {
  opened = All-nil (λ (row : HandleRow). IsOfOne (services_from 1 configs) row.kind);
}

pub whole_begun : (l : Limits) (f : Flat) → IsOpening l f → Whole l f
whole_begun l f o = record {
  clear = clear_begun l f o;
  known = subst Known (sym o.is) (opened_known l o.groups o.configs o.moment);
}

pub whole_keeps : (l : Limits) → Keeps (Whole l) l
whole_keeps l f e whole ok = record {
  clear = clear_keeps l f e whole.clear ok;
  known = known l f e.0 e.1 whole.known;
}

pub gives_moves : (l : Limits) → Gives (Whole l) (LawOfMoves l) l
gives_moves l f e whole ok =
    let valid = is_valid_clear l f whole.clear in
    record {
      moved = moved l f e.0 e.1 whole.clear.sound valid ok;
      stale = stale l f e.0 e.1 valid;
      refused = λ code. refused l f e.0 e.1 code valid;
      ended = λ number. ended l f e.0 e.1 number whole.clear.sound valid ok;
      unheard = λ code. unheard l f e.0 e.1 code valid;
    }

pub gives_controls : (l : Limits) → Gives (Whole l) (LawOfControls l) l
gives_controls l f e whole ok = controls l f e (is_valid_clear l f whole.clear) whole.known ok

use Rattle.std.proofs.Common.{ℕ, ◌-◌, ◌∙◌, cond, not, sym, ap, refl, eqb}
use Rattle.std.proofs.lemmas.Bool.{eq-eqb}
use Rattle.scm_model.specs.declared.flat.HandleRow.{HandleRow}
use Rattle.scm_model.specs.Rows.{is_of_service}
use Rattle.handle_table.specs.Handled.{matches, is_owned_by, is_row_of}
use Rattle.handle_table.proofs.Counting.{one_at_least, lowered, stays_none, below_filter}
use Rattle.handle_table.proofs.table.HandleTable.remove.Goals as goal

pub invariant_of-self : goal.invariant_of-self
invariant_of-self c =
    let same = c.remove.ensures.items ∙ stays_none (matches c.args.number) c.self.inside.rows.items (sym c.in_err-row.ensures.row) in
    rw same (record {
      services = c.self.invariant.services;
      callers = c.self.invariant.callers;
      below = c.self.invariant.below;
    })

pub lower_kind-requires : goal.lower_kind-requires
lower_kind-requires c = λ (service : ℕ) is.
    rw (c.self.invariant.services service) (one_at_least (is_row_of service) c.self.inside.rows.items c.in_ok-row.row c.args.number
    (sym c.in_ok-row.ensures.row) is)

pub lower-requires : goal.lower-requires
lower-requires c =
    rw (c.self.invariant.callers c.in_ok-row.row.caller)
    (one_at_least (is_owned_by c.in_ok-row.row.caller) c.self.inside.rows.items c.in_ok-row.row c.args.number (sym c.in_ok-row.ensures.row)
    (eq-eqb c.in_ok-row.row.caller c.in_ok-row.row.caller refl))

pub invariant_of-self-2 : goal.invariant_of-self-2
invariant_of-self-2 c =
    let rows = c.self.inside.rows.items in
    let gone = c.in_ok-row.row in
    let found = sym c.in_ok-row.ensures.row in
    let rising = c.len-len.ensures.rising in
    rw c.remove.ensures.items (record {
      services = λ (service : ℕ).
          c.lower_kind.ensures.counts service
          ∙ ap (λ m. cond (is_of_service service gone.kind) (m - 1) m) (c.self.invariant.services service)
          ∙ sym (lowered (is_row_of service) rows gone c.args.number rising found);
      callers = λ (caller : ℕ).
          c.lower.ensures.counts caller ∙ ap (λ m. cond (eqb gone.caller caller) (m - 1) m) (c.self.invariant.callers caller)
          ∙ sym (lowered (is_owned_by caller) rows gone c.args.number rising found);
      below = below_filter c.self.inside.next (λ (row : HandleRow). not (matches c.args.number row)) rows c.self.invariant.below;
    })

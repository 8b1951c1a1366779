use Rattle.std.proofs.Common.{ℕ, ◌+◌, ◌∙◌, cond, sym, ap, refl, eqb, arith}
use Rattle.scm_model.specs.declared.flat.HandleRow.{HandleRow}
use Rattle.scm_model.specs.Rows.{is_of_service}
use Rattle.handle_table.specs.Handled.{is_owned_by, is_row_of}
use Rattle.handle_table.proofs.Counting.{raised, few, below_pushed}
use Rattle.handle_table.proofs.table.HandleTable.add.Goals as goal

pub raise_kind-requires-clause-fits : goal.raise_kind-requires-clause-fits
raise_kind-requires-clause-fits c = λ (service : ℕ).
    omega (
      arith,
      c.self.invariant.services service,
      few (is_row_of service) c.self.inside.rows.items,
      c.len-len.ensures.len,
      c.len-len.ensures.small,
    )

pub raise-requires-clause-fits : goal.raise-requires-clause-fits
raise-requires-clause-fits c =
    omega (
      arith,
      c.self.invariant.callers c.args.caller,
      few (is_owned_by c.args.caller) c.self.inside.rows.items,
      c.len-len.ensures.len,
      c.len-len.ensures.small,
    )

pub invariant_of-self : goal.invariant_of-self
invariant_of-self c =
    let rows = c.self.inside.rows.items in
    let new : HandleRow = record { number = c.self.inside.next; caller = c.args.caller; kind = c.args.kind; granted = c.args.granted } in
    rw c.push.ensures (record {
      services = λ (service : ℕ).
          c.raise_kind.ensures service ∙ ap (λ m. cond (is_of_service service c.args.kind) (m + 1) m) (c.self.invariant.services service)
          ∙ sym (raised (is_row_of service) rows new);
      callers = λ (caller : ℕ).
          c.raise.ensures.counts caller ∙ ap (λ m. cond (eqb c.args.caller caller) (m + 1) m) (c.self.invariant.callers caller)
          ∙ sym (raised (is_owned_by caller) rows new);
      below = below_pushed c.self.inside.next rows new c.self.invariant.below refl;
    })

use Rattle.std.proofs.Common.{Bor, Option, ◌≡◌, ◌∙◌, sym, ap, refl, find, Some, None, is_some}
use Rattle.scm_model.specs.declared.flat.HandleRow.{HandleRow}
use Rattle.handle_table.specs.Handled.{is_handle}
use Rattle.handle_table.proofs.Counting.{stays_none, his_row, is_none_of}
use Rattle.std.specs.Prelude.{option_copied, true, IfNone}
use Rattle.handle_table.proofs.table.HandleTable.close.Goals as goal

copied : (o : Option (Bor HandleRow)) → is_some (option_copied o) ≡ is_some o
copied None = refl
copied (Some row) = refl

found_some : (P : Type 0) (found : Option HandleRow) → is_some found ≡ true → IfNone found P
found_some P None e = absurd (cc e)
found_some P (Some row) e = tt

pub returns-then-is_some-clause-none : goal.returns-then-is_some-clause-none
returns-then-is_some-clause-none c =
    let is = sym (ap is_some c.find.ensures.row) ∙ copied c.find.result ∙ sym c.if-is_some.ensures in
    let found = c.remove.ensures.row ∙ (his_row c.args.caller c.args.number c.args.self.now.rows c.find.ensures.rising is).0 in
    found_some (c.remove.new.self ≡ c.args.self.now) c.remove.result (ap is_some found ∙ is)

pub returns-then-is_some-clause-row : goal.returns-then-is_some-clause-row
returns-then-is_some-clause-row c =
    c.remove.ensures.row ∙ (his_row c.args.caller c.args.number c.args.self.now.rows c.find.ensures.rising
    (sym (ap is_some c.find.ensures.row) ∙ copied c.find.result ∙ sym c.if-is_some.ensures)).0

pub returns-then-is_some-clause-rows : goal.returns-then-is_some-clause-rows
returns-then-is_some-clause-rows c = c.remove.ensures.rows ∙ (his_row c.args.caller c.args.number c.args.self.now.rows c.find.ensures.rising
    (sym (ap is_some c.find.ensures.row) ∙ copied c.find.result ∙ sym c.if-is_some.ensures)).1

pub returns-else-is_some-clause-rows : goal.returns-else-is_some-clause-rows
returns-else-is_some-clause-rows c = sym (stays_none (is_handle c.args.caller c.args.number) c.args.self.now.rows
    (is_none_of (find (is_handle c.args.caller c.args.number) c.args.self.now.rows) (sym (ap is_some c.find.ensures.row)
    ∙ copied c.find.result ∙ sym c.if-is_some.ensures)))

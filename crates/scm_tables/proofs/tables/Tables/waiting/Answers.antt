use Rattle.std.proofs.Common.{ℕ, ◌≡◌, ◌+◌, ◌∙◌, Option, None, Some, ap, filter, length, refl}
use Rattle.std.specs.Prelude.{option_map}
use Rattle.std.proofs.lemmas.Option.{same_Some}
use Rattle.scm_model.specs.declared.flat.Process.{Process}
use Rattle.scm_rules.specs.Controls.{is_asked_by}
use Rattle.scm_rules.specs.Launches.{process_of}
use Rattle.scm_tables.specs.Tabled.{Tabled}
use Rattle.scm_tables.proofs.tables.Tables.waiting.Goals as goal

abbrev orders_of : Option Process → Option ℕ
orders_of found = option_map (λ (row : Process). length row.controls) found

-- so many more than the orders
more : (found : Option Process) (orders count : ℕ) → Some orders ≡ orders_of found
    → Some (orders + count) ≡ option_map (λ (row : Process). length row.controls + count) found
more None orders count e = absurd (cc e)
more (Some row) orders count e = ap (λ (n : ℕ). Some (n + count)) (same_Some orders (length row.controls) e)

none_more : (found : Option Process) (count : ℕ) → None ≡ orders_of found
    → None ≡ option_map (λ (row : Process). length row.controls + count) found
none_more None count e = refl
none_more (Some row) count e = absurd (cc e)

pub count_asked_in-requires : goal.count_asked_in-requires
count_asked_in-requires c = c.self.invariant.rising.rising

pub returns-in-Some : goal.returns-in-Some
returns-in-Some c =
    let process = c.args.process in
    let found = process_of c.args.self.now.flat process in
    let count = c.count_asked_in.ensures.count
    ∙ ap (λ (t : Tabled). length (filter (is_asked_by process) t.flat.services)) c.self.view_is in
    more found c.in-Some.orders c.count_asked_in.result
    (c.in-Some.ensures ∙ ap (λ (t : Tabled). orders_of (process_of t.flat process)) c.self.view_is)
    ∙ ap (λ (n : ℕ). option_map (λ (row : Process). length row.controls + n) found) count

pub returns-in-None : goal.returns-in-None
returns-in-None c =
    let process = c.args.process in
    let f = c.args.self.now.flat in
    none_more (process_of f process) (length (filter (is_asked_by process) f.services))
    (c.in-None.ensures ∙ ap (λ (t : Tabled). orders_of (process_of t.flat process)) c.self.view_is)

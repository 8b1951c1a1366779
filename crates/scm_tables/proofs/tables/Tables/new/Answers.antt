use Rattle.scm_tables.proofs.Marks.{opened_marks}
use Rattle.scm_tables.specs.Inside.{all_numbers}
use Rattle.scm_tables.specs.Processed.{Processed}
use Rattle.std.proofs.Common.{ℕ, rules, ◌≡◌, ◌∙◌, ◌+◌, List, ap, arith, sym, subst, length, refl, All}
use Rattle.start_triggers.specs.Order.{auto_rows}
use Rattle.scm_model.specs.declared.flat.Due.{Due}
use Rattle.scm_model.specs.declared.flat.Next.{Next}
use Rattle.scm_model.specs.declared.flat.Service.{Service}
use Rattle.scm_rules.specs.Opening.{automatic_starts, empty_at, opening, services_from, starts_from}
use Rattle.scm_rules.specs.Security.{IsSecured}
use Rattle.scm_tables.specs.Tabled.{HasShort}
use Rattle.scm_tables.specs.Tabled.{AreByNumber}
use Rattle.scm_model.specs.declared.flat.NeedRow.{NeedRow}
use Rattle.scm_model.specs.Needs.{needs_of}
use Rattle.scm_model.specs.Walks.{IsAcyclic}
use Rattle.scm_rules.specs.Needs.{need_rows}
use Rattle.scm_tables.proofs.Opened.{same_flat, opened_length, opened_places, opened_texts, opened_rising}
use Rattle.scm_rules.proofs.Secured.{opened_secured}
use Rattle.scm_tables.proofs.tables.Tables.new.Goals as goal

pub invariant_of-result : goal.invariant_of-result
invariant_of-result c =
    let rows = c.in_ok-services-2.services.services in
    let same : rows ≡ c.in_ok-services.services.items = c.in_ok-services-2.ensures in
    let is : rows ≡ services_from 1 c.args.configs = same ∙ c.in_ok-services.ensures in
    let count : c.len-3.result ≡ length c.args.configs = omega (
      arith,
      c.len-3.ensures,
      ap (λ (all : List Service). length all) c.in_ok-services.ensures,
      opened_length 1 c.args.configs,
    ) in
    let rising = subst (AreByNumber (length c.args.configs + 1)) (sym is) (opened_rising c.args.configs) in
    let graph = c.in_ok-index.ensures ∙ ap need_rows (c.as_slice-2.ensures.value ∙ sym same) in
    record {
      rising = subst (λ (n : ℕ). AreByNumber n rows) (sym (ap (λ (n : Next). n.service) c.first_numbers-next.ensures))
          (subst (λ (n : ℕ). AreByNumber (n + 1) rows) (sym count) rising);
      texts = subst (All HasShort) (sym is) (opened_texts 1 c.args.configs c.requires);
      secured = subst (All IsSecured) (sym is) (opened_secured 1 c.args.configs);
      index = graph;
      needs = λ t. subst (λ (g : List NeedRow). IsAcyclic (needs_of g)) graph (c.is_acyclic-acyclic.ensures t);
      marked = rw (c.reserve.ensures.items, c.new-leaving.ensures, is) (sym (opened_marks 1 c.args.configs));
      marks = omega (arith, c.in_ok-reserve.ensures.ok, ap (λ (all : List Service). length all) same);
      room = c.in_ok-processes.ensures.room;
      plans = rw c.none.ensures.plans tt;
      pending = search rules;
      untried = search rules;
      dues = opened_places c.args.moment c.args.groups.now {rows = c.in_ok-dues.dues.rows} {capacity = c.in_ok-dues.dues.capacity} {next =
          length c.args.configs + 1} rising
          (c.in_ok-dues.ensures.rows ∙ ap (λ all. starts_from 1 c.args.moment (auto_rows all c.args.groups.now)) (c.as_slice.ensures.value
          ∙ sym same))
          (let room = c.in_ok-dues.ensures.room in let count = ap (λ (all : List Service). length all) (c.as_slice.ensures.value
          ∙ sym same) in omega (arith, room, count));
      rooms = record { starts_fit = search rules; commands_fit = search rules };
    }

pub returns-clause-flat : goal.returns-clause-flat
returns-clause-flat c =
    let is : c.in_ok-services.services.items ≡ services_from 1 c.args.configs = c.in_ok-services.ensures in
    let count : c.len-3.result ≡ length c.args.configs = omega (
      arith,
      c.len-3.ensures,
      ap (λ (rows : List Service). length rows) is,
      opened_length 1 c.args.configs,
    ) in
    let dues : c.in_ok-dues.dues.rows ≡ automatic_starts c.args.groups.now c.args.configs c.args.moment =
    c.in_ok-dues.ensures.rows ∙ ap (λ (rows : List Service). starts_from 1 c.args.moment (auto_rows rows c.args.groups.now))
    (c.as_slice.ensures.value ∙ is) in
    let given : c.in_ok-dues.dues.next ≡ length (automatic_starts c.args.groups.now c.args.configs c.args.moment) + 1 =
    c.in_ok-dues.ensures.next ∙ ap (λ (rows : List Due). length rows + 1) dues in
    let next : all_numbers c.first_numbers-next.result c.new.result.next c.in_ok-processes.processes.next c.in_ok-dues.dues.next ≡
    (opening c.args.limits c.args.groups.now c.args.configs c.args.moment).next =
    ap (λ n. all_numbers c.first_numbers-next.result n c.in_ok-processes.processes.next c.in_ok-dues.dues.next) c.new.ensures.next
    ∙ ap (λ (t : Processed). all_numbers c.first_numbers-next.result 1 t.next c.in_ok-dues.dues.next) c.in_ok-processes.ensures.none
    ∙ ap (λ (n : Next). record n { due = c.in_ok-dues.dues.next }) c.first_numbers-next.ensures
    ∙ ap (λ (n : ℕ). record (empty_at 0).next { service = n + 1; due = c.in_ok-dues.dues.next }) count
    ∙ ap (λ (n : ℕ). record (empty_at 0).next { service = length c.args.configs + 1; due = n }) given in
    same_flat _ _ _ _ _ _ _ _ _ _ _ _ _ (c.in_ok-services-2.ensures ∙ is) c.new.ensures.rows
    (ap (λ (t : Processed). t.processes) c.in_ok-processes.ensures.none)
    (ap (λ (t : Processed). t.wanted) c.in_ok-processes.ensures.none) c.none.ensures.plans (search rules) dues (search rules)
    (search rules) refl next refl

pub index_of-requires : goal.index_of-requires
index_of-requires c =
    let is : c.in_ok-services.services.items ≡ services_from 1 c.args.configs = c.in_ok-services.ensures in
    rw c.as_slice-2.ensures.value (subst (AreByNumber (length c.args.configs + 1)) (sym is) (opened_rising c.args.configs)).rising

pub table_of-requires : goal.table_of-requires
table_of-requires c = (subst (AreByNumber (length c.args.configs + 1)) (sym c.in_ok-services.ensures) (opened_rising c.args.configs)).rising

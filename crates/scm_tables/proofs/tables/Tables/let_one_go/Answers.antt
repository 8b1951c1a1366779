use Rattle.std.proofs.Common.{◌≡◌, ◌==◌, ◌∙◌, ap, arith, filter, not, subst, sym}
use Rattle.std.proofs.lemmas.List.Elements.{All-filter}
use Rattle.scm_model.specs.declared.flat.Service.{Service}
use Rattle.scm_model.specs.Purge.{purged}
use Rattle.scm_rules.proofs.Needed.{fewer}
use Rattle.number_lists.specs.Rising.{without_number}
use Rattle.record_table.specs.Recorded.{Recorded}
use Rattle.scm_rules.specs.Security.{IsSecured}
use Rattle.scm_tables.specs.Inside.{tabled}
use Rattle.scm_tables.specs.Tabled.{HasShort, Tabled}
use Rattle.scm_tables.proofs.NeedRows.{rows_without}
use Rattle.scm_model.specs.declared.flat.NeedRow.{NeedRow}
use Rattle.scm_tables.proofs.Marks.{few_without, leaver, marks_without, no_leaver, nobody_leaves, one_left, one_less}
use Rattle.scm_tables.proofs.Placed.{left_keeps}
use Rattle.scm_tables.proofs.Sleeping.{pending_left}
use Rattle.scm_tables.proofs.Rising.{rising_filter}
use Rattle.scm_tables.proofs.Wording.{found_has}
use Rattle.scm_tables.proofs.tables.Tables.let_one_go.Goals as goal

pub note_leaving-requires : goal.note_leaving-requires
note_leaving-requires c =
    rw c.get.ensures (found_has HasShort (λ (row : Service). row.number == c.in-Some.number) c.self.inside.services.services
    c.self.invariant.texts)

pub invariant_of-self-2 : goal.invariant_of-self-2
invariant_of-self-2 c =
    let gone = ap (λ (r : Recorded). r.services) c.remove-gone.ensures.table in
    let kept = c.self.invariant in
    let number = c.in-Some.number in
    record {
      rising = rw gone (rising_filter _ _ _ kept.rising);
      texts = rw gone (All-filter _ HasShort _ kept.texts);
      secured = rw gone (All-filter _ IsSecured _ kept.secured);
      index = rw (c.drop_service.ensures, gone) (ap (filter (λ (row : NeedRow). not (row.number == number))) kept.index
          ∙ rows_without number _);
      needs = λ t. rw gone (fewer _ _ kept.rising.rising (kept.needs t));
      marked = rw gone (c.in-Some.ensures.items ∙ ap (λ ns. without_number ns number) kept.marked ∙ sym (marks_without number _));
      marks = rw gone (omega (arith, few_without number c.self.inside.services.services, kept.marks, c.in-Some.ensures.held));
      room = kept.room;
      plans = kept.plans;
      pending = rw gone (pending_left c.self.inside.handles.rows c.self.inside.services.services c.self.inside.leaving.items number _
          c.in-Some.ensures.first kept.pending);
      untried = kept.untried;
      dues = rw gone (left_keeps _ kept.dues);
      rooms = kept.rooms;
    }

-- nobody leaves
pub returns-in_default-clause-none : goal.returns-in_default-clause-none
returns-in_default-clause-none c = λ no.
    let t = c.self.inside in
    let told = c.in_default.ensures.first in
    let none = no_leaver t.handles.rows t.services.services t.leaving.items c.self.invariant.rising.rising c.self.invariant.marked told in
    subst (λ (now : Tabled). (tabled t).flat ≡ purged now.flat) c.self.view_is (nobody_leaves (tabled t).flat none)

pub returns-clause-rest : goal.returns-clause-rest
returns-clause-rest c =
    let gone = ap (λ (r : Recorded). r.services) c.remove-gone.ensures.table in
    let t = c.self.inside in
    let rising = c.self.invariant.rising.rising in
    let told = c.in-Some.ensures.first in
    let first = leaver t.handles.rows t.services.services t.leaving.items c.in-Some.number rising c.self.invariant.marked told in
    rw (← c.self.view_is, gone, c.note_leaving.ensures.rows, c.get.ensures)
    (one_left (tabled t).flat c.in-Some.number rising first)

pub returns-clause-fewer : goal.returns-clause-fewer
returns-clause-fewer c = λ yes.
    let gone = ap (λ (r : Recorded). r.services) c.remove-gone.ensures.table in
    let t = c.self.inside in
    let told = c.in-Some.ensures.first in
    let first = leaver t.handles.rows t.services.services t.leaving.items c.in-Some.number c.self.invariant.rising.rising
    c.self.invariant.marked told in
    rw (← c.self.view_is, gone) (one_less t.handles.rows t.services.services c.in-Some.number first)

use Rattle.std.proofs.Common.{◌≡◌, ◌∙◌, ◌<◌, ◌≤◌, ◌++◌, List, ap, arith, length, refl, drop, sym, subst}
use Rattle.std.specs.List.Sorted.{IsPartitionPoint}
use Rattle.std.proofs.lemmas.List.{take-append-drop}
use Rattle.std.proofs.lemmas.List.Edits.{map_over_more}
use Rattle.scm_model.specs.declared.flat.Registration.{Registration}
use Rattle.scm_model.specs.Notices.{Event, notified}
use Rattle.notify_queue.proofs.Ordered.{all_told, begin_before_end, front_noted}
use Rattle.notify_queue.proofs.rows.note_in.Goals as goal

pub loop-at-init : goal.loop-at-init
loop-at-init c =
    let event : Event = record { service = c.args.service; bit = c.args.bit; status = c.args.status; name = c.args.name.now } in
    let rows = c.args.rows.now.items in
    let n = c.begin_of-begin.result in
    let within : n ≤ length rows = rw c.as_slice.ensures.value at c.begin_of-begin.ensures.within in
    let begins = subst (λ (rs : List Registration). IsPartitionPoint (λ (row : Registration). row.service < c.args.service)
    (λ (row : Registration). c.args.service ≤ row.service) rs n) c.as_slice.ensures.value c.begin_of-begin.ensures.begins in
    record {
      rows = sym (ap (λ (xs : List Registration). xs ++ drop n rows) (front_noted event rows n within begins.0) ∙ take-append-drop n rows);
      len = refl;
      capacity = refl;
    }

pub loop-at-preserved : goal.loop-at-preserved
loop-at-preserved c =
    let event : Event = record { service = c.args.service; bit = c.args.bit; status = c.args.status; name = c.args.name.now } in
    let end : c.end_of-end.result ≤ length c.args.rows.now.items = rw c.as_slice-2.ensures.value at c.end_of-end.ensures.within in
    let within : c.loop-at.at < length c.args.rows.now.items = omega (arith, end) in
    record {
      rows = rw c.note.ensures
          (map_over_more (notified event) c.args.rows.now.items c.loop-at.rows.items c.loop-at.at c.index_mut.result.now within
          c.loop-at.invariant.rows c.index_mut.ensures.value);
      len = c.loop-at.invariant.len;
      capacity = c.loop-at.invariant.capacity;
    }

pub returns-clause-rows : goal.returns-clause-rows
returns-clause-rows c =
    let event : Event = record { service = c.args.service; bit = c.args.bit; status = c.args.status; name = c.args.name.now } in
    let rows = c.args.rows.now.items in
    let within : c.begin_of-begin.result ≤ length rows = rw c.as_slice.ensures.value at c.begin_of-begin.ensures.within in
    let begins = subst (λ (rs : List Registration). IsPartitionPoint (λ (row : Registration). row.service < c.args.service)
    (λ (row : Registration). c.args.service ≤ row.service) rs c.begin_of-begin.result) c.as_slice.ensures.value
    c.begin_of-begin.ensures.begins in
    let ends = subst (λ (rs : List Registration). IsPartitionPoint (λ (row : Registration). row.service ≤ c.args.service)
    (λ (row : Registration). c.args.service < row.service) rs c.end_of-end.result) c.as_slice-2.ensures.value c.end_of-end.ensures.ends
    in
    let order = begin_before_end c.args.service rows c.begin_of-begin.result c.end_of-end.result within begins ends in
    let done : c.loop-at.at ≡ c.end_of-end.result = omega (arith, order) in
    c.loop-at.invariant.rows ∙ rw done (all_told event rows c.end_of-end.result ends.1)

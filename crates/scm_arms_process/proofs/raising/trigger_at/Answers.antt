use Rattle.std.proofs.Common.{◌∙◌, ◌+◌, ap, arith, subst, sym, ℕ}
use Rattle.std.specs.Prelude.{slice_get}
use Rattle.scm_tables.specs.Firing.{HasPlanNumbers, HasStarts}
use Rattle.scm_arms_process.specs.Raised.{action_in, started_at}
use Rattle.scm_arms_process.proofs.Triggers.{less_room, starts_one, triggers_none, triggers_some}
use Rattle.scm_arms_process.proofs.raising.trigger_at.Goals as goal

pub act_at-requires-clause-room : goal.act_at-requires-clause-room
act_at-requires-clause-room c =
    let t = c.args.tables.now in
    let found = slice_get t.flat.services c.args.place in
    let is = sym (c.action_of.ensures ∙ ap (action_in c.args.subtype.now) c.row_at.ensures.row) ∙ c.in-Some.is in
    subst (λ (n : ℕ). HasStarts n t) (starts_one c.args.subtype.now c.in-Some.action found is) c.requires.room

pub act_at-requires-clause-numbers : goal.act_at-requires-clause-numbers
act_at-requires-clause-numbers c =
    let t = c.args.tables.now in
    let found = slice_get t.flat.services c.args.place in
    let is = sym (c.action_of.ensures ∙ ap (action_in c.args.subtype.now) c.row_at.ensures.row) ∙ c.in-Some.is in
    subst (λ (n : ℕ). HasPlanNumbers n t.flat) (starts_one c.args.subtype.now c.in-Some.action found is) c.requires.numbers

pub returns-in-Some-clause-flat : goal.returns-in-Some-clause-flat
returns-in-Some-clause-flat c =
    let t = c.args.tables.now in
    let found = slice_get t.flat.services c.args.place in
    let is = sym (c.action_of.ensures ∙ ap (action_in c.args.subtype.now) c.row_at.ensures.row) ∙ c.in-Some.is in
    c.act_at.ensures.flat ∙ triggers_some t.limits c.args.subtype.now c.in-Some.action found t.flat is

pub returns-in-Some-clause-left : goal.returns-in-Some-clause-left
returns-in-Some-clause-left c count has =
    let t = c.args.tables.now in
    let found = slice_get t.flat.services c.args.place in
    let is = sym (c.action_of.ensures ∙ ap (action_in c.args.subtype.now) c.row_at.ensures.row) ∙ c.in-Some.is in
    c.act_at.ensures.left count (subst (λ (n : ℕ). HasStarts (n + count) t) (starts_one c.args.subtype.now c.in-Some.action found is) has)

pub returns-in-None-clause-flat : goal.returns-in-None-clause-flat
returns-in-None-clause-flat c =
    let t = c.args.tables.now in
    let is = sym (c.action_of.ensures ∙ ap (action_in c.args.subtype.now) c.row_at.ensures.row) ∙ c.in-None.is in
    triggers_none t.limits c.args.subtype.now (slice_get t.flat.services c.args.place) t.flat is

pub returns-in-None-clause-left : goal.returns-in-None-clause-left
returns-in-None-clause-left c count has = less_room (started_at c.args.subtype.now c.args.tables.now.flat.services c.args.place
    + count) count c.args.tables.now (omega arith) has

-- What is asked at a level is read exactly where it stands, is in its ranges, and is read back where it is written.
use Rattle.std.proofs.Common.{◌≡◌, ℕ, ◌<◌, ◌≤◌, ◌^◌, Bool, true, false, not, cond, eqb, List, [], ◌∷◌, length, map, Option, Some, None, Ok}
use Rattle.std.proofs.Common.{refl, sym, ap, subst, ◌∙◌, arith}
use Rattle.std.specs.Prelude.{◌||◌, is_some, unwrap_or, IfSome, IsTrue}
use Rattle.std.specs.List.{AllByRecursion}
use Rattle.std.proofs.lemmas.Bool.{eqb-true, eq-eqb, ne_eqb, le-leb, leb-true}
use Rattle.scm_model.specs.declared.flat.Action.{Action}
use Rattle.scm_model.specs.declared.calls.Info.{Info}
use Rattle.scm_model.specs.declared.calls.Info.TheVariants as info
use Rattle.scm_model.specs.declared.calls.TriggerIn.{TriggerIn}
use Rattle.scm_model.specs.declared.codes.TheConstants.{SC_MAX_ACTIONS, SC_MAX_TRIGGERS}
use Rattle.scm_model.specs.Ranges.{is_level, info_in_range}
use Rattle.ndr_body.specs.Reading.{aligned, number_at, text_at, some_text_at, uuid_at}
use Rattle.ndr_body.specs.Writing.{Draft, put_number, put_text, put_some_text, put_uuid}
use Rattle.ndr_body.specs.Spelled.{IsNumber, IsText, IsUuid, IsPointed, Stands}
use Rattle.ndr_body.specs.Laws.{IsPutAs, IsSent}
use Rattle.ndr_body.proofs.Spelled.{IsBytes, bind_ok, done, ok_is}
use Rattle.ndr_body.proofs.SpelledTexts.{text_spelled, text_read}
use Rattle.ndr_body.proofs.SpelledPointers.{uuid_spelled, uuid_read, some_text_spelled, some_text_read}
use Rattle.ndr_body.proofs.Written.{number_put, text_put, any_text_put, uuid_put}
use Rattle.ndr_body.proofs.Chains.{text_sent, pointed_sent}
use Rattle.scm_shapes.specs.declared.levels.FailureHead.{FailureHead}
use Rattle.scm_shapes.specs.declared.levels.TriggerHead.{TriggerHead}
use Rattle.scm_shapes.specs.Each.{each_at, EachStands}
use Rattle.scm_shapes.specs.Ranges.{within_at, WithinStands}
use Rattle.scm_shapes.specs.Laws.{IsInfo}
use Rattle.scm_shapes.specs.Parts.{Reads, made_at, both_at, checked_at, unkept_at, if_at, for_each_at, same_at, nonzero, nonzero_at}
use Rattle.scm_shapes.specs.Parts.{ThenStands, BothStand, Holds, CheckedStands, IfStands, ForEachStands, SameStands, NonzeroStands}
use Rattle.scm_shapes.specs.Parts.{put_pointer, put_flag, put_if, put_all}
use Rattle.scm_shapes.specs.Levels.{failure_head, failure_head_at, FailureHeadStands, action_of, action_at, ActionStands, actions_at}
use Rattle.scm_shapes.specs.Levels.{ActionsStand, failure_tail_at, FailureTailStands, failure_info, failure_at, FailureStands, trigger_head}
use Rattle.scm_shapes.specs.Levels.{trigger_head_at, TriggerHeadStands, trigger_from, trigger_at, TriggerStands, trigger_heads_at}
use Rattle.scm_shapes.specs.Levels.{TriggerHeadsStand, listed_triggers_at, ListedTriggersStand, is_listed, listing_at, ListingStands}
use Rattle.scm_shapes.specs.Levels.{triggers_of, triggers_at, TriggersStand, level_of, referent_at, ReferentStands, served_at, level_at}
use Rattle.scm_shapes.specs.Levels.{LevelStands, info_at, InfoStands, count_of, put_failure_head, put_action, put_actions, put_failure}
use Rattle.scm_shapes.specs.Levels.{put_trigger_head, put_subtype, put_trigger_list, put_listing, put_triggers, put_referent_of}
use Rattle.scm_shapes.specs.Levels.{put_level, put_info, IsActionSent, IsTriggerSent}
use Rattle.scm_shapes.proofs.Parts.{Exactly, number_exactly, within_exactly, made_exactly, then_exactly, both_exactly, checked_exactly}
use Rattle.scm_shapes.proofs.Parts.{same_exactly, nonzero_exactly, if_exactly, for_each_exactly, counted_exactly, made_put, then_put}
use Rattle.scm_shapes.proofs.Parts.{both_put, checked_put, same_put, within_put, pointer_put, flag_put, nothing_put, if_put, each_put}
use Rattle.scm_shapes.proofs.Parts.{for_each_put}

-- ## Failures are read where they stand

text_exactly : (body : List ℕ) → IsBytes body → Exactly text_at (Stands IsText) body
text_exactly body fits = record {
  found = λ place v after e. text_spelled body (aligned place) (aligned place) (v, after) fits e;
  read = λ place v after s. text_read body (aligned place) (aligned place) v after s;
}

uuid_exactly : (body : List ℕ) → Exactly uuid_at (Stands IsUuid) body
uuid_exactly body = record {
  found = λ place v after e. uuid_spelled body (aligned place) (v, after) e;
  read = λ place v after s. uuid_read body (aligned place) v after s;
}

some_text_exactly : (body : List ℕ) → IsBytes body → Exactly some_text_at (Stands (IsPointed IsText)) body
some_text_exactly body fits = record {
  found = λ place v after e. some_text_spelled body (aligned place) (v, after) fits e;
  read = λ place v after s. some_text_read body (aligned place) v after s;
}

failure_head_exactly : (body : List ℕ) → IsBytes body → Exactly failure_head_at FailureHeadStands body
failure_head_exactly body fits =
    let bool = nonzero_exactly body fits in
    let number = number_exactly body fits in
    made_exactly failure_head _ _ body (both_exactly _ _ _ _ body number
    (both_exactly _ _ _ _ body bool (both_exactly _ _ _ _ body bool
    (both_exactly _ _ _ _ body (within_exactly SC_MAX_ACTIONS body fits) bool))))

action_exactly : (body : List ℕ) → IsBytes body → Exactly action_at ActionStands body
action_exactly body fits = made_exactly action_of _ _ body (both_exactly _ _ _ _ body (number_exactly body fits) (number_exactly body fits))

actions_exactly : (count : ℕ) (body : List ℕ) → IsBytes body → Exactly (actions_at count) (ActionsStand count) body
actions_exactly count body fits = made_exactly (λ (v : ℕ × List Action). v.1) _ _ body
    (both_exactly _ _ _ _ body (same_exactly count body fits) (counted_exactly _ _ count body (action_exactly body fits)))

failure_tail_exactly : (head : FailureHead) (body : List ℕ) → IsBytes body → Exactly (failure_tail_at head) (FailureTailStands head) body
failure_tail_exactly head body fits =
    let text = text_exactly body fits in
    both_exactly _ _ _ _ body (made_exactly (λ (kept : Option (List ℕ)). tt) _ _ body (if_exactly head.reboot _ _ body text))
    (both_exactly _ _ _ _ body (if_exactly head.command _ _ body text)
    (if_exactly head.listed _ _ body (actions_exactly head.count body fits)))

failure_exactly : (body : List ℕ) → IsBytes body → Exactly failure_at FailureStands body
unfolding failure_at
failure_exactly body fits = made_exactly failure_info _ _ body (then_exactly _ _ failure_tail_at FailureTailStands body
    (failure_head_exactly body fits) (λ head. failure_tail_exactly head body fits))

-- ## Triggers are read where they stand

trigger_head_exactly : (body : List ℕ) → IsBytes body → Exactly trigger_head_at TriggerHeadStands body
trigger_head_exactly body fits =
    let number = number_exactly body fits in
    made_exactly trigger_head _ _ body (both_exactly _ _ _ _ body number
    (both_exactly _ _ _ _ body number (both_exactly _ _ _ _ body (nonzero_exactly body fits)
    (both_exactly _ _ _ _ body number (same_exactly 0 body fits)))))

trigger_exactly : (head : TriggerHead) (body : List ℕ) → Exactly (trigger_at head) (TriggerStands head) body
trigger_exactly head body = made_exactly (trigger_from head) _ _ body (if_exactly head.named _ _ body (uuid_exactly body))

trigger_heads_exactly : (count : ℕ) (body : List ℕ) → IsBytes body → Exactly (trigger_heads_at count) (TriggerHeadsStand count) body
trigger_heads_exactly count body fits = made_exactly (λ (v : ℕ × List TriggerHead). v.1) _ _ body
    (both_exactly _ _ _ _ body (same_exactly count body fits) (counted_exactly _ _ count body (trigger_head_exactly body fits)))

listed_exactly : (count : ℕ) (body : List ℕ) → IsBytes body → Exactly (listed_triggers_at count) (ListedTriggersStand count) body
listed_exactly count body fits =
    made_exactly (λ (v : List TriggerHead × List TriggerIn). v.1) _ _ body
    (then_exactly (trigger_heads_at count) (TriggerHeadsStand count) (for_each_at trigger_at) (ForEachStands TriggerStands) body
    (trigger_heads_exactly count body fits)
    (λ heads. for_each_exactly trigger_at TriggerStands heads body (λ head. trigger_exactly head body)))

listing_exactly : (body : List ℕ) → IsBytes body → Exactly listing_at ListingStands body
listing_exactly body fits =
    then_exactly (within_at SC_MAX_TRIGGERS) (WithinStands SC_MAX_TRIGGERS)
    (λ (count : ℕ). both_at (checked_at (is_listed count) nonzero_at) (same_at 0))
    (λ (count : ℕ). BothStand (CheckedStands (is_listed count) NonzeroStands) (SameStands 0)) body
    (within_exactly SC_MAX_TRIGGERS body fits) (λ count. both_exactly _ _ _ _ body
    (checked_exactly (is_listed count) _ _ body (nonzero_exactly body fits)) (same_exactly 0 body fits))

triggers_exactly : (body : List ℕ) → IsBytes body → Exactly triggers_at TriggersStand body
unfolding triggers_at
triggers_exactly body fits =
    made_exactly triggers_of _ _ body
    (then_exactly listing_at ListingStands (λ (listing : ℕ × (Bool × ℕ)). if_at listing.1.0 (listed_triggers_at listing.0))
    (λ (listing : ℕ × (Bool × ℕ)). IfStands listing.1.0 (ListedTriggersStand listing.0)) body (listing_exactly body fits)
    (λ listing. if_exactly listing.1.0 _ _ body (listed_exactly listing.0 body fits)))

-- ## Every level

-- what is asked at a level, and where it stands
abbrev Points : ℕ → List ℕ → ℕ → Info → ℕ → Type 0
Points level body place asked after = (level_of asked ≡ level) × ReferentStands asked body place after

failure_points : (body : List ℕ) (place : ℕ) (asked : Info) (after : ℕ) → FailureStands body place asked after
    → Points 2 body place asked after
failure_points body place asked after h = subst (λ (i : Info). FailureStands body place i after → Points 2 body place i after) (sym h.is)
    (λ h. (refl, h)) h

made_points : {A : Type 0} (make : A → Info) (read_at : Reads A) (level : ℕ) (body : List ℕ) (place : ℕ) (asked : Info) (after : ℕ)
    → ((content : A) → read_at body place ≡ Ok (content, after) → Points level body place (make content) after)
    → made_at make read_at body place ≡ Ok (asked, after) → Points level body place asked after
made_points {A = A} make read_at level body place asked after law e =
    let a = bind_ok (read_at body place) (λ x. Ok (make x.0, x.1)) (asked, after) e in
    let pair : Info × ℕ = (make a.0.0, a.0.1) in
    let same : pair ≡ (asked, after) = ok_is pair (asked, after) a.2 in
    let ends : a.0.1 ≡ after = ap (λ (p : Info × ℕ). p.1) same in
    let read : read_at body place ≡ Ok (a.0.0, after) = a.1 ∙ ap (λ (n : ℕ). done (a.0.0, n)) ends in
    subst (λ (i : Info). Points level body place i after) (ap (λ (p : Info × ℕ). p.0) same) (law a.0.0 read)

-- which of five numbers a level is
by_level : (level : ℕ) (b1 b2 b3 b4 b5 : Bool) → eqb level 1 ≡ b1 → eqb level 2 ≡ b2 → eqb level 3 ≡ b3 → eqb level 4 ≡ b4
    → eqb level 8 ≡ b5 → (b1 || b2 || b3 || b4 || b5) ≡ true
    → (P : ℕ → Type 0) → P 1 → P 2 → P 3 → P 4 → P 8 → P level
by_level level true b2 b3 b4 b5 e1 e2 e3 e4 e5 e P p1 p2 p3 p4 p8 = subst P (sym (eqb-true level 1 e1)) p1
by_level level false true b3 b4 b5 e1 e2 e3 e4 e5 e P p1 p2 p3 p4 p8 = subst P (sym (eqb-true level 2 e2)) p2
by_level level false false true b4 b5 e1 e2 e3 e4 e5 e P p1 p2 p3 p4 p8 = subst P (sym (eqb-true level 3 e3)) p3
by_level level false false false true b5 e1 e2 e3 e4 e5 e P p1 p2 p3 p4 p8 = subst P (sym (eqb-true level 4 e4)) p4
by_level level false false false false true e1 e2 e3 e4 e5 e P p1 p2 p3 p4 p8 = subst P (sym (eqb-true level 8 e5)) p8
by_level level false false false false false e1 e2 e3 e4 e5 e P p1 p2 p3 p4 p8 = absurd cc

abbrev Pointing : List ℕ → ℕ → Info → ℕ → ℕ → Type 0
Pointing body place asked after level = referent_at level body place ≡ Ok (asked, after) → Points level body place asked after

referent_found : (level : ℕ) (body : List ℕ) (place : ℕ) (asked : Info) (after : ℕ) → IsBytes body → is_level level ≡ true
    → referent_at level body place ≡ Ok (asked, after) → Points level body place asked after
unfolding referent_at
referent_found level body place asked after fits served =
    by_level level (eqb level 1) (eqb level 2) (eqb level 3) (eqb level 4) (eqb level 8) refl refl refl refl refl served
    (Pointing body place asked after)
    (λ e. made_points info.Description some_text_at 1 body place asked after
    (λ text read. (refl, (some_text_exactly body fits).found place text after read)) e)
    (λ e. failure_points body place asked after ((failure_exactly body fits).found place asked after e))
    (λ e. made_points info.Delayed nonzero_at 3 body place asked after (λ on read.
    (refl, (nonzero_exactly body fits).found place on after read)) e)
    (λ e. made_points info.OnExit nonzero_at 4 body place asked after (λ on read.
    (refl, (nonzero_exactly body fits).found place on after read)) e)
    (λ e. made_points info.Triggers triggers_at 8 body place asked after
    (λ list read. (refl, (triggers_exactly body fits).found place list after read)) e)

referent_read : (body : List ℕ) (place : ℕ) (asked : Info) (after : ℕ) → IsBytes body → ReferentStands asked body place after
    → referent_at (level_of asked) body place ≡ Ok (asked, after)
unfolding referent_at
referent_read body place (info.Description text) after fits h = rw ((some_text_exactly body fits).read place text after h) refl
referent_read body place (info.Failure reset command actions) after fits h =
    (failure_exactly body fits).read place (info.Failure reset command actions) after h
referent_read body place (info.Delayed on) after fits h = rw ((nonzero_exactly body fits).read place on after h) refl
referent_read body place (info.OnExit on) after fits h = rw ((nonzero_exactly body fits).read place on after h) refl
referent_read body place (info.Triggers list) after fits h = rw ((triggers_exactly body fits).read place list after h) refl
referent_read body place (info.Other level) after fits h = absurd h
referent_read body place (info.Nothing level) after fits h = absurd h

-- what stands after a level
abbrev Levels : ℕ → List ℕ → ℕ → Info → ℕ → Type 0
Levels level body place asked after = (level_of asked ≡ level) × LevelStands asked body place after

levels_pointed : (level : ℕ) (body : List ℕ) (place middle : ℕ) (asked : Info) (after : ℕ) → NonzeroStands body place true middle
    → Points level body middle asked after → Levels level body place asked after
levels_pointed level body place middle (info.Description text) after points h = (h.0, (middle, points, h.1))
levels_pointed level body place middle (info.Failure reset command actions) after points h = (h.0, (middle, points, h.1))
levels_pointed level body place middle (info.Delayed on) after points h = (h.0, (middle, points, h.1))
levels_pointed level body place middle (info.OnExit on) after points h = (h.0, (middle, points, h.1))
levels_pointed level body place middle (info.Triggers list) after points h = (h.0, (middle, points, h.1))
levels_pointed level body place middle (info.Other other) after points h = absurd h.1
levels_pointed level body place middle (info.Nothing other) after points h = absurd h.1

points_exactly : (level : ℕ) (body : List ℕ) → IsBytes body → is_level level ≡ true → Exactly (referent_at level) (Points level) body
points_exactly level body fits served = record {
  found = λ place asked after e. referent_found level body place asked after fits served e;
  read = λ place asked after h. subst (λ (n : ℕ). referent_at n body place ≡ Ok (asked, after)) h.0
      (referent_read body place asked after fits h.1);
}

zero_by : (n : ℕ) (b : Bool) → eqb n 0 ≡ b → false ≡ not b → n ≡ 0
zero_by n true e z = eqb-true n 0 e
zero_by n false e z = absurd cc

zero_is : (n : ℕ) → false ≡ nonzero n → n ≡ 0
zero_is n e = zero_by n (eqb n 0) refl e

-- a pointer that is 0 asks for nothing, another for what it points to
served_by : (level : ℕ) (body : List ℕ) (place middle after : ℕ) (points : Bool) (asked : Option Info) → is_level level ≡ true
    → NonzeroStands body place points middle → IfStands points (Points level) body middle asked after
    → Levels level body place (unwrap_or asked (info.Nothing level)) after
served_by level body place middle after true (Some asked) served n h = levels_pointed level body place middle asked after n h
served_by level body place middle after true None served n h = absurd h
served_by level body place middle after false (Some asked) served n h = absurd h
served_by level body place middle after false None served n h =
    let zero : Stands IsNumber body place 0 middle = subst (λ (m : ℕ). Stands IsNumber body place m middle)
    (zero_is n.content n.is) n.there in
    (refl, (served, subst (λ (m : ℕ). Stands IsNumber body place 0 m) (sym h) zero))

served_found : (level : ℕ) (body : List ℕ) (place : ℕ) (asked : Info) (after : ℕ) → IsBytes body → is_level level ≡ true
    → served_at level body place ≡ Ok (asked, after) → Levels level body place asked after
unfolding served_at
served_found level body place asked after fits served e =
    let law = made_exactly (λ (v : Bool × Option Info). unwrap_or v.1 (info.Nothing level)) _ _ body
    (then_exactly nonzero_at NonzeroStands (λ (points : Bool). if_at points (referent_at level))
    (λ (points : Bool). IfStands points (Points level)) body (nonzero_exactly body fits)
    (λ points. if_exactly points _ _ body (points_exactly level body fits served))) in
    let h = law.found place asked after e in
    subst (λ (i : Info). Levels level body place i after) (sym h.is) (served_by level body place h.there.middle after h.content.0
    h.content.1 served h.there.first h.there.second)

level_by : (b : Bool) (level : ℕ) (body : List ℕ) (place : ℕ) (asked : Info) (after : ℕ) → IsBytes body → is_level level ≡ b
    → cond b (served_at level) (λ bytes start. Ok (info.Other level, start)) body place ≡ Ok (asked, after)
    → Levels level body place asked after
level_by true level body place asked after fits served e = served_found level body place asked after fits served e
level_by false level body place asked after fits served e =
    let pair : Info × ℕ = (info.Other level, place) in
    subst (λ (p : Info × ℕ). Levels level body place p.0 p.1) (ok_is pair (asked, after) e) (refl, (served, refl))

pointed_read : (body : List ℕ) (place : ℕ) (asked : Info) (after : ℕ) → IsBytes body → is_level (level_of asked) ≡ true → (middle : ℕ)
    × NonzeroStands body place true middle × ReferentStands asked body middle after
    → level_at (level_of asked) body place ≡ Ok (asked, after)
unfolding level_at served_at
pointed_read body place asked after fits served h = rw (
  served,
  (nonzero_exactly body fits).read place true h.0 h.1,
  referent_read body h.0 asked after fits h.2,
) refl

level_read : (body : List ℕ) (place : ℕ) (asked : Info) (after : ℕ) → IsBytes body → LevelStands asked body place after
    → level_at (level_of asked) body place ≡ Ok (asked, after)
unfolding level_at served_at
level_read body place (info.Other level) after fits h = rw (h.0, h.1) refl
level_read body place (info.Nothing level) after fits h = rw (h.0, (number_exactly body fits).read place 0 after h.1) refl
level_read body place (info.Description text) after fits h = pointed_read body place (info.Description text) after fits refl h
level_read body place (info.Failure reset command actions) after fits h =
    pointed_read body place (info.Failure reset command actions) after fits refl h
level_read body place (info.Delayed on) after fits h = pointed_read body place (info.Delayed on) after fits refl h
level_read body place (info.OnExit on) after fits h = pointed_read body place (info.OnExit on) after fits refl h
level_read body place (info.Triggers list) after fits h = pointed_read body place (info.Triggers list) after fits refl h

level_exactly : (level : ℕ) (body : List ℕ) → IsBytes body → Exactly (level_at level) (Levels level) body
unfolding level_at
level_exactly level body fits = record {
  found = λ place asked after e. level_by (is_level level) level body place asked after fits refl e;
  read = λ place asked after h. subst (λ (n : ℕ). level_at n body place ≡ Ok (asked, after)) h.0
      (level_read body place asked after fits h.1);
}

abbrev Parts : List ℕ → ℕ → ℕ × (ℕ × Info) → ℕ → Type 0
Parts = ThenStands (Stands IsNumber) (λ (level : ℕ). BothStand (SameStands level) (Levels level))

parts_exactly : (body : List ℕ) → IsBytes body → Exactly info_at (Holds (λ (v : ℕ × (ℕ × Info)). v.1.1) Parts) body
unfolding info_at
parts_exactly body fits =
    made_exactly (λ (v : ℕ × (ℕ × Info)). v.1.1) _ _ body
    (then_exactly number_at (Stands IsNumber) (λ (level : ℕ). both_at (same_at level) (level_at level))
    (λ (level : ℕ). BothStand (SameStands level) (Levels level)) body (number_exactly body fits)
    (λ level. both_exactly (same_at level) (SameStands level) (level_at level) (Levels level) body (same_exactly level body fits)
    (level_exactly level body fits)))

stands_of : (body : List ℕ) (place : ℕ) (v : ℕ × (ℕ × Info)) (after : ℕ) → Parts body place v after → InfoStands body place v.1.1 after
stands_of body place v after h =
    let s = h.second in
    let level : v.0 ≡ level_of v.1.1 = sym s.second.0 in
    let again : v.1.0 ≡ level_of v.1.1 = eqb-true v.1.0 v.0 s.first.passes ∙ level in
    record {
      middle = h.middle;
      level_stands = subst (λ (n : ℕ). Stands IsNumber body place n h.middle) level h.first;
      after_again = s.middle;
      again_stands = subst (λ (n : ℕ). Stands IsNumber body h.middle n s.middle) again s.first.there;
      stands = s.second.1;
    }

parts_of : (body : List ℕ) (place : ℕ) (asked : Info) (after : ℕ) → InfoStands body place asked after
    → Holds (λ (v : ℕ × (ℕ × Info)). v.1.1) Parts body place asked after
parts_of body place asked after h =
    let n = level_of asked in
    record {
      content = (n, (n, asked));
      is = refl;
      there = record {
        middle = h.middle;
        first = h.level_stands;
        second = record {
          middle = h.after_again;
          first = record { passes = eq-eqb n n refl; there = h.again_stands };
          second = (refl, h.stands);
        };
      };
    }

pub info_exactly : (body : List ℕ) → IsBytes body → Exactly info_at InfoStands body
info_exactly body fits = record {
  found = λ place asked after e. let h = (parts_exactly body fits).found place asked after e in
      subst (λ (i : Info). InfoStands body place i after) (sym h.is) (stands_of body place h.content after h.there);
  read = λ place asked after h. (parts_exactly body fits).read place asked after (parts_of body place asked after h);
}

-- ## What is read is in its ranges

if_sent : (body : List ℕ) (place : ℕ) (b : Bool) (text : Option (List ℕ)) (after : ℕ) → IfStands b (Stands IsText) body place text after
    → IfSome text IsSent
if_sent body place true (Some text) after h = text_sent h.item text h.is
if_sent body place true None after h = absurd h
if_sent body place false (Some text) after h = absurd h
if_sent body place false None after h = tt

action_sent : (body : List ℕ) (place : ℕ) (action : Action) (after : ℕ) → ActionStands body place action after → IsActionSent action
action_sent body place action after h = rw h.is (record { what = h.there.first.is.small; delay = h.there.second.is.small })

actions_sent : (body : List ℕ) (place : ℕ) (actions : List Action) (after : ℕ) → EachStands ActionStands body place actions after
    → AllByRecursion IsActionSent actions
actions_sent body place [] after h = tt
actions_sent body place (action ∷ actions) after h = (action_sent body place action h.0 h.1, actions_sent body h.0 actions after h.2)

-- actions that are listed, of which there are few
abbrev AreActions : Option (List Action) → Type 0
AreActions actions = IsTrue (info_in_range (info.Failure 0 None actions)) × IfSome actions (λ listed. AllByRecursion IsActionSent listed)

if_actions : (count : ℕ) (body : List ℕ) (place : ℕ) (b : Bool) (actions : Option (List Action)) (after : ℕ) → count ≤ SC_MAX_ACTIONS
    → IfStands b (ActionsStand count) body place actions after → AreActions actions
if_actions count body place true (Some actions) after few h =
    let c = h.there.second in
    let all : AllByRecursion IsActionSent h.content.1 = actions_sent body h.there.middle h.content.1 after c.stand in
    let n : length h.content.1 ≤ SC_MAX_ACTIONS = omega (arith, few, c.counted) in
    rw h.is (le-leb (length h.content.1) SC_MAX_ACTIONS n, all)
if_actions count body place true None after few h = absurd h
if_actions count body place false (Some actions) after few h = absurd h
if_actions count body place false None after few h = (refl, tt)

failure_ranged : (body : List ℕ) (place : ℕ) (asked : Info) (after : ℕ) → FailureStands body place asked after → IsInfo asked
failure_ranged body place asked after h =
    let head = h.there.first in
    let numbers = head.there in
    let tail = h.there.second in
    let few : h.content.0.count ≤ SC_MAX_ACTIONS = rw head.is numbers.second.second.second.first.in_range in
    let small : h.content.0.reset < 2 ^ 32 = rw head.is numbers.first.is.small in
    let command = if_sent body tail.middle h.content.0.command h.content.1.1.0 tail.second.middle tail.second.first in
    let actions = if_actions h.content.0.count body tail.second.middle h.content.0.listed h.content.1.1.1 after few tail.second.second in
    rw h.is (record { in_range = actions.0; sent = (small, (command, actions.1)) })

-- the numbers of a trigger
record IsHeadSmall (head : TriggerHead) : Type 0 where
  kind : head.kind < 2 ^ 32
  action : head.action < 2 ^ 32
  items : head.items < 2 ^ 32

head_small : (body : List ℕ) (place : ℕ) (head : TriggerHead) (after : ℕ) → TriggerHeadStands body place head after → IsHeadSmall head
head_small body place head after h =
    let t = h.there in
    rw h.is (record { kind = t.first.is.small; action = t.second.first.is.small; items = t.second.second.second.first.is.small })

heads_small : (body : List ℕ) (place : ℕ) (heads : List TriggerHead) (after : ℕ) → EachStands TriggerHeadStands body place heads after
    → AllByRecursion IsHeadSmall heads
heads_small body place [] after h = tt
heads_small body place (head ∷ heads) after h = (head_small body place head h.0 h.1, heads_small body h.0 heads after h.2)

if_uuid : (body : List ℕ) (place : ℕ) (b : Bool) (subtype : Option (List ℕ)) (after : ℕ)
    → IfStands b (Stands IsUuid) body place subtype after → IfSome subtype (λ uuid. length uuid ≡ 16)
if_uuid body place true (Some uuid) after h = h.is.size
if_uuid body place true None after h = absurd h
if_uuid body place false (Some uuid) after h = absurd h
if_uuid body place false None after h = tt

trigger_sent : (body : List ℕ) (place : ℕ) (head : TriggerHead) (trigger : TriggerIn) (after : ℕ) → IsHeadSmall head
    → TriggerStands head body place trigger after → IsTriggerSent trigger
trigger_sent body place head trigger after small h = rw h.is (record {
  kind = small.kind;
  action = small.action;
  subtype = if_uuid body place head.named h.content after h.there;
  items = small.items;
})

triggers_sent : (body : List ℕ) (place : ℕ) (heads : List TriggerHead) (triggers : List TriggerIn) (after : ℕ)
    → AllByRecursion IsHeadSmall heads → ForEachStands TriggerStands heads body place triggers after
    → AllByRecursion IsTriggerSent triggers × (length triggers ≡ length heads)
triggers_sent body place [] [] after small h = (tt, refl)
triggers_sent body place (head ∷ heads) (trigger ∷ triggers) after small h =
    let more = triggers_sent body h.0 heads triggers after small.1 h.2 in
    ((trigger_sent body place head trigger h.0 small.0 h.1, more.0), omega (arith, more.1))
triggers_sent body place [] (trigger ∷ triggers) after small h = absurd h
triggers_sent body place (head ∷ heads) [] after small h = absurd h

-- triggers of which there are few
abbrev AreTriggers : List TriggerIn → Type 0
AreTriggers triggers = AllByRecursion IsTriggerSent triggers × (length triggers ≤ SC_MAX_TRIGGERS)

listed_ranged : (count : ℕ) (body : List ℕ) (place : ℕ) (triggers : List TriggerIn) (after : ℕ) → count ≤ SC_MAX_TRIGGERS
    → ListedTriggersStand count body place triggers after → AreTriggers triggers
listed_ranged count body place triggers after few h =
    let t = h.there in
    let heads = t.first in
    let c = heads.there.second in
    let small : AllByRecursion IsHeadSmall h.content.0 = rw heads.is (heads_small body heads.there.middle heads.content.1 t.middle c.stand)
    in
    let counted : length h.content.0 ≡ count = rw heads.is c.counted in
    let all = triggers_sent body t.middle h.content.0 h.content.1 after small t.second in
    rw h.is (all.0, omega (arith, few, counted, all.1))

if_triggers : (count : ℕ) (body : List ℕ) (place : ℕ) (b : Bool) (triggers : Option (List TriggerIn)) (after : ℕ) → count ≤ SC_MAX_TRIGGERS
    → IfStands b (ListedTriggersStand count) body place triggers after → AreTriggers (unwrap_or triggers [])
if_triggers count body place true (Some triggers) after few h = listed_ranged count body place triggers after few h
if_triggers count body place true None after few h = absurd h
if_triggers count body place false (Some triggers) after few h = absurd h
if_triggers count body place false None after few h = (tt, omega arith)

triggers_ranged : (body : List ℕ) (place : ℕ) (triggers : List TriggerIn) (after : ℕ) → TriggersStand body place triggers after
    → AreTriggers triggers
triggers_ranged body place triggers after h =
    let t = h.there in
    rw h.is (if_triggers h.content.0.0 body t.middle h.content.0.1.0 h.content.1 after t.first.first.in_range t.second)

level_ranged : (body : List ℕ) (place : ℕ) (asked : Info) (after : ℕ) → level_of asked < 2 ^ 32 → LevelStands asked body place after
    → IsInfo asked
level_ranged body place (info.Other level) after lt h = record { in_range = rw h.0 refl; sent = lt }
level_ranged body place (info.Nothing level) after lt h = record { in_range = h.0; sent = lt }
level_ranged body place (info.Description text) after lt h = record { in_range = refl; sent = pointed_sent h.2.item text h.2.is }
level_ranged body place (info.Failure reset command actions) after lt h =
    failure_ranged body h.0 (info.Failure reset command actions) after h.2
level_ranged body place (info.Delayed on) after lt h = record { in_range = refl; sent = tt }
level_ranged body place (info.OnExit on) after lt h = record { in_range = refl; sent = tt }
level_ranged body place (info.Triggers list) after lt h = let t = triggers_ranged body h.0 list after h.2 in
    record { in_range = le-leb (length list) SC_MAX_TRIGGERS t.1; sent = t.0 }

pub info_ranged : (body : List ℕ) (place : ℕ) (asked : Info) (after : ℕ) → InfoStands body place asked after → IsInfo asked
info_ranged body place asked after h = level_ranged body h.after_again asked after h.level_stands.is.small h.stands

-- ## What is written is read back

some_put : {A : Type 0} (P : A → Type 0) (read_at : Reads A) (put : A → Draft → Draft) (o : Option A)
    → ((v : A) → P v → IsPutAs read_at (put v) v) → IfSome o P → IsPutAs (if_at (is_some o) read_at) (put_if put o) o
some_put P read_at put None law h = if_put read_at put None tt
some_put P read_at put (Some v) law h = if_put read_at put (Some v) (law v h)

all_put : {A : Type 0} (P Q : A → Type 0) (vs : List A) → ((v : A) → P v → Q v) → AllByRecursion P vs → AllByRecursion Q vs
all_put P Q [] law h = tt
all_put P Q (v ∷ vs) law h = (law v h.0, all_put P Q vs law h.1)

abbrev failure_numbers : ℕ → Option (List ℕ) → Option (List Action) → ℕ × (Bool × (Bool × (ℕ × Bool)))
failure_numbers reset command actions = (reset, (false, (is_some command, (count_of actions, is_some actions))))

failure_head_put : (reset : ℕ) (command : Option (List ℕ)) (actions : Option (List Action)) → reset < 2 ^ 32
    → count_of actions ≤ SC_MAX_ACTIONS → IsPutAs failure_head_at (put_failure_head reset command actions)
    (failure_head (failure_numbers reset command actions))
unfolding put_failure_head
failure_head_put reset command actions lt few =
    let count = within_put SC_MAX_ACTIONS (count_of actions) few (omega (arith, few)) in
    made_put failure_head _ _ (failure_numbers reset command actions)
    (both_put _ _ _ _ _ _ (number_put reset lt) (both_put _ _ _ _ _ _ (pointer_put false)
    (both_put _ _ _ _ _ _ (pointer_put (is_some command)) (both_put _ _ _ _ _ _ count (pointer_put (is_some actions))))))

action_put : (action : Action) → IsActionSent action → IsPutAs action_at (put_action action) action
unfolding put_action
action_put action h = made_put action_of _ _ (action.what, action.delay)
    (both_put _ _ _ _ _ _ (number_put action.what h.what) (number_put action.delay h.delay))

map_same : (actions : List Action) → map (λ action. action) actions ≡ actions
map_same [] = refl
map_same (action ∷ actions) = ap (λ (l : List Action). action ∷ l) (map_same actions)

actions_put : (actions : List Action) → length actions ≤ SC_MAX_ACTIONS → AllByRecursion IsActionSent actions
    → IsPutAs (actions_at (length actions)) (put_actions actions) actions
unfolding put_actions
actions_put actions few sent =
    let n = length actions in
    let laws = all_put IsActionSent (λ (action : Action). IsPutAs action_at (put_action action) action) actions action_put sent in
    let each : IsPutAs (each_at action_at n) (put_all put_action actions) actions =
    subst (λ (l : List Action). IsPutAs (each_at action_at n) (put_all put_action actions) l) (map_same actions)
    (each_put action_at put_action (λ (action : Action). action) actions laws) in
    made_put (λ (v : ℕ × List Action). v.1) _ _ (n, actions) (both_put _ _ _ _ _ _ (same_put n (omega (arith, few))) each)

actions_if_put : (actions : Option (List Action)) → count_of actions ≤ SC_MAX_ACTIONS
    → IfSome actions (λ listed. AllByRecursion IsActionSent listed) → IsPutAs (if_at (is_some actions) (actions_at (count_of actions)))
    (put_if put_actions actions) actions
actions_if_put None few sent = if_put (actions_at 0) put_actions None tt
actions_if_put (Some actions) few sent = if_put (actions_at (length actions)) put_actions (Some actions) (actions_put actions few sent)

few_actions : (reset : ℕ) (command : Option (List ℕ)) (actions : Option (List Action))
    → IsTrue (info_in_range (info.Failure reset command actions)) → count_of actions ≤ SC_MAX_ACTIONS
few_actions reset command None h = omega arith
few_actions reset command (Some actions) h = leb-true (length actions) SC_MAX_ACTIONS h

failure_put : (reset : ℕ) (command : Option (List ℕ)) (actions : Option (List Action)) → IsInfo (info.Failure reset command actions)
    → IsPutAs failure_at (put_failure reset command actions) (info.Failure reset command actions)
unfolding failure_at put_failure
failure_put reset command actions h =
    let few = few_actions reset command actions h.in_range in
    let head = failure_head (failure_numbers reset command actions) in
    let none = made_put (λ (kept : Option (List ℕ)). tt) (if_at false text_at) (λ (d : Draft). d) None
    (nothing_put (if_at false text_at) None (λ body place. refl)) in
    let text = some_put IsSent text_at put_text command text_put h.sent.1.0 in
    let tail = both_put (unkept_at (if_at false text_at)) _ _ _ tt (command, actions) none
    (both_put _ _ _ _ _ _ text (actions_if_put actions few h.sent.1.1)) in
    made_put failure_info _ _ (head, (tt, (command, actions))) (then_put failure_head_at failure_tail_at _ _ _ _
    (failure_head_put reset command actions h.sent.0 few) tail)

abbrev head_of : TriggerIn → TriggerHead
head_of trigger = trigger_head (trigger.kind, (trigger.action, (is_some trigger.subtype, (trigger.items, 0))))

trigger_head_put : (trigger : TriggerIn) → IsTriggerSent trigger → IsPutAs trigger_head_at (put_trigger_head trigger) (head_of trigger)
unfolding put_trigger_head
trigger_head_put trigger h =
    made_put trigger_head _ _ (trigger.kind, (trigger.action, (is_some trigger.subtype, (trigger.items, 0))))
    (both_put _ _ _ _ _ _ (number_put trigger.kind h.kind) (both_put _ _ _ _ _ _ (number_put trigger.action h.action)
    (both_put _ _ _ _ _ _ (pointer_put (is_some trigger.subtype)) (both_put _ _ _ _ _ _ (number_put trigger.items h.items)
    (same_put 0 (omega arith))))))

trigger_put : (trigger : TriggerIn) → IsTriggerSent trigger → IsPutAs (trigger_at (head_of trigger)) (put_subtype trigger) trigger
unfolding put_subtype
trigger_put trigger h = made_put (trigger_from (head_of trigger)) _ _ trigger.subtype
    (some_put (λ (uuid : List ℕ). length uuid ≡ 16) uuid_at put_uuid trigger.subtype uuid_put h.subtype)

listed_put : (triggers : List TriggerIn) → length triggers ≤ SC_MAX_TRIGGERS → AllByRecursion IsTriggerSent triggers
    → IsPutAs (listed_triggers_at (length triggers)) (put_trigger_list triggers) triggers
unfolding put_trigger_list
listed_put triggers few sent =
    let n = length triggers in
    let heads = each_put trigger_head_at put_trigger_head head_of triggers
    (all_put IsTriggerSent (λ (trigger : TriggerIn). IsPutAs trigger_head_at (put_trigger_head trigger) (head_of trigger)) triggers
    trigger_head_put sent) in
    let tails = for_each_put trigger_at put_subtype head_of triggers (all_put IsTriggerSent
    (λ (trigger : TriggerIn). IsPutAs (trigger_at (head_of trigger)) (put_subtype trigger) trigger) triggers trigger_put sent) in
    let counted = made_put (λ (v : ℕ × List TriggerHead). v.1) _ _ (n, map head_of triggers)
    (both_put (same_at n) (each_at trigger_head_at n) _ _ n (map head_of triggers) (same_put n (omega (arith, few))) heads) in
    made_put (λ (v : List TriggerHead × List TriggerIn). v.1) _ _ (map head_of triggers, triggers)
    (then_put (trigger_heads_at n) (for_each_at trigger_at) _ _ (map head_of triggers) triggers counted tails)

listing_put : (count : ℕ) (listed : Bool) → count ≤ SC_MAX_TRIGGERS → is_listed count listed ≡ true
    → IsPutAs listing_at (put_listing count listed) (count, (listed, 0))
unfolding put_listing
listing_put count listed few fits =
    then_put (within_at SC_MAX_TRIGGERS) (λ (count : ℕ). both_at (checked_at (is_listed count) nonzero_at) (same_at 0)) _ _ count
    (listed, 0) (within_put SC_MAX_TRIGGERS count few (omega (arith, few)))
    (both_put _ _ _ _ _ _ (checked_put (is_listed count) nonzero_at (put_pointer listed) listed fits (pointer_put listed))
    (same_put 0 (omega arith)))

abbrev listed_at : ℕ × (Bool × ℕ) → Reads (Option (List TriggerIn))
listed_at listing = if_at listing.1.0 (listed_triggers_at listing.0)

triggers_put : (triggers : List TriggerIn) → length triggers ≤ SC_MAX_TRIGGERS → AllByRecursion IsTriggerSent triggers
    → IsPutAs triggers_at (put_triggers triggers) triggers
unfolding triggers_at put_triggers
triggers_put [] few sent =
    made_put triggers_of _ _ ((0, (false, 0)), None) (then_put listing_at listed_at (put_listing 0 false) (λ (d : Draft). d)
    (0, (false, 0)) None (listing_put 0 false (omega arith) refl) (nothing_put (listed_at (0, (false, 0))) None (λ body place. refl)))
triggers_put (trigger ∷ triggers) few sent =
    let list : List TriggerIn = trigger ∷ triggers in
    let n = length list in
    let some : eqb n 0 ≡ false = ne_eqb n 0 (λ e. omega (arith, e)) in
    let listed = made_put (λ (l : List TriggerIn). Some l) (listed_triggers_at n) (put_trigger_list list) list
    (listed_put list few sent) in
    let law = made_put triggers_of _ _ ((n, (true, 0)), Some list) (then_put listing_at listed_at (put_listing n true)
    (put_trigger_list list) (n, (true, 0)) (Some list) (listing_put n true few refl) listed) in
    record {
      read = λ d rest referent. rw some (law.read d rest referent);
      extends = λ d. rw some (law.extends d);
      next = λ d referent. rw some (law.next d referent);
    }

-- a level that isn't one is not served
other_not : (b : Bool) → IsTrue (not b) → b ≡ true → ⊥
other_not true range served = absurd cc
other_not false range served = absurd cc

not_served : (level : ℕ) → IsTrue (info_in_range (info.Other level)) → is_level level ≡ true → ⊥
not_served level range served = other_not (is_level level) range served

never : (level : ℕ) → IsTrue (info_in_range (info.Nothing level)) → is_level level ≡ false → ⊥
never level range other = absurd cc

-- what is put after a pointer is read there
pointed_put : (asked : Info) (put : Draft → Draft) → IsPutAs (referent_at (level_of asked)) put asked
    → IsPutAs (served_at (level_of asked)) (λ d. put (put_pointer true d)) asked
unfolding served_at
pointed_put asked put law =
    let level = level_of asked in
    made_put (λ (v : Bool × Option Info). unwrap_or v.1 (info.Nothing level)) _ _ (true, Some asked)
    (then_put nonzero_at (λ (points : Bool). if_at points (referent_at level)) (put_pointer true) put true (Some asked) (pointer_put true)
    (made_put (λ (i : Info). Some i) (referent_at level) put asked law))

referent_put : (asked : Info) → IsInfo asked → is_level (level_of asked) ≡ true
    → IsPutAs (served_at (level_of asked)) (put_level asked) asked
unfolding served_at referent_at put_level put_referent_of
referent_put (info.Other level) h served = absurd (not_served level h.in_range served)
referent_put (info.Nothing level) h served =
    made_put (λ (v : Bool × Option Info). unwrap_or v.1 (info.Nothing level)) _ _ (false, None)
    (then_put nonzero_at (λ (points : Bool). if_at points (referent_at level)) (put_pointer false) (λ (d : Draft). d) false None
    (pointer_put false) (nothing_put (if_at false (referent_at level)) None (λ body place. refl)))
referent_put (info.Description text) h served = pointed_put (info.Description text) (put_some_text text)
    (made_put info.Description some_text_at (put_some_text text) text (any_text_put text h.sent))
referent_put (info.Failure reset command actions) h served = pointed_put (info.Failure reset command actions)
    (put_failure reset command actions) (failure_put reset command actions h)
referent_put (info.Delayed on) h served = pointed_put (info.Delayed on) (put_flag on)
    (made_put info.Delayed nonzero_at (put_flag on) on (flag_put on))
referent_put (info.OnExit on) h served = pointed_put (info.OnExit on) (put_flag on)
    (made_put info.OnExit nonzero_at (put_flag on) on (flag_put on))
referent_put (info.Triggers list) h served = pointed_put (info.Triggers list) (put_triggers list)
    (made_put info.Triggers triggers_at (put_triggers list) list (triggers_put list
    (leb-true (length list) SC_MAX_TRIGGERS h.in_range) h.sent))

level_small : (asked : Info) → IsInfo asked → level_of asked < 2 ^ 32
level_small (info.Other level) h = h.sent
level_small (info.Nothing level) h = h.sent
level_small (info.Description text) h = omega arith
level_small (info.Failure reset command actions) h = omega arith
level_small (info.Delayed on) h = omega arith
level_small (info.OnExit on) h = omega arith
level_small (info.Triggers list) h = omega arith

other_put : (asked : Info) → IsInfo asked → is_level (level_of asked) ≡ false → IsPutAs (level_at (level_of asked)) (put_level asked) asked
unfolding level_at put_level
other_put (info.Other level) h other = nothing_put (level_at level) (info.Other level) (λ body place. rw other refl)
other_put (info.Nothing level) h other = absurd (never level h.in_range other)
other_put (info.Description text) h other = absurd cc
other_put (info.Failure reset command actions) h other = absurd cc
other_put (info.Delayed on) h other = absurd cc
other_put (info.OnExit on) h other = absurd cc
other_put (info.Triggers list) h other = absurd cc

level_put_by : (asked : Info) → IsInfo asked → (b : Bool) → is_level (level_of asked) ≡ b
    → IsPutAs (level_at (level_of asked)) (put_level asked) asked
unfolding level_at
level_put_by asked h true served = let law = referent_put asked h served in
    record { read = λ d rest referent. rw served (law.read d rest referent); extends = law.extends; next = law.next }
level_put_by asked h false other = other_put asked h other

level_put : (asked : Info) → IsInfo asked → IsPutAs (level_at (level_of asked)) (put_level asked) asked
level_put asked h = level_put_by asked h (is_level (level_of asked)) refl

pub info_put : (asked : Info) → IsInfo asked → IsPutAs info_at (put_info asked) asked
unfolding info_at put_info
info_put asked h =
    let n = level_of asked in
    let lt = level_small asked h in
    made_put (λ (v : ℕ × (ℕ × Info)). v.1.1) _ _ (n, (n, asked))
    (then_put number_at (λ (level : ℕ). both_at (same_at level) (level_at level)) (put_number n)
    (λ (d : Draft). put_level asked (put_number n d)) n (n, asked) (number_put n lt)
    (both_put (same_at n) (level_at n) (put_number n) (put_level asked) n asked (same_put n lt) (level_put asked h)))

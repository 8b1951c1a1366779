-- What a turn comes to, as contracts see the pass.
use Rattle.std.proofs.Common.{◌≡◌, ℕ, true, List, [], ◌∷◌, ◌++◌, length, Option, None, Some, Result, Ok, Err, Box, box_value, sym, ap, ◌∙◌}
use Rattle.std.proofs.Common.{subst, arith}
use Rattle.std.specs.declared.alloc.Global.{Global}
use mathlib.Core.List.{IsPrefix}
use Rattle.atomic_table.specs.Seated.{TableId}
use Rattle.atomic_table.specs.declared.badge.Badge.{Badge}
use Rattle.atomic_table.specs.declared.shared.Seat.{Seat}
use Rattle.scm_model.specs.declared.steps.Answer.{Answer}
use Rattle.scm_model.specs.declared.steps.Name.{Name}
use Rattle.scm_model.specs.declared.steps.Step.{Step}
use Rattle.scm_model.specs.declared.steps.Step.TheVariants.{EndStart, NoMemory}
use Rattle.scm_model.specs.Entries.{Entry, with_kept}
use Rattle.scm_rules.specs.Histories.{Legal, answer, state}
use Rattle.book_rule.specs.declared.view.Opening.{Opening}
use Rattle.book_rule.specs.declared.view.View.{View}
use Rattle.book_rule.specs.Ways.{Claims, MadeAt, NamedAt}
use Rattle.book_rule.specs.Rule.{ClaimsOf}
use Rattle.book_rule.specs.Seats.{Enters, Holding, Identity, Waits}
use Rattle.book_rule.specs.Views.{having_left, having_made, having_seen}
use Rattle.book_rule.proofs.Prefixes.{prefix_length}
use Rattle.scm_book.specs.Ghosts.{Ghosts, nothing_seen}
use Rattle.scm_book.specs.declared.fault.MakeFault.{MakeFault}
use Rattle.scm_book.specs.declared.fault.StepFault.{StepFault}
use Rattle.scm_book.specs.declared.held.Held.{Held}
use Rattle.scm_book.specs.Holds.{Holds, Runs, way_of}
use Rattle.scm_book.specs.Passes.{ClaimsIn, Known, Learnt, Made, MadeSo, knows, room_behind, view_of}
use Rattle.scm_book.specs.Starts.{AlwaysThere, DidEnd, Ends, IsThere, IsUndecided}
use Rattle.scm_book.specs.Turns.{AlwaysMay, CallEnds, Did, DidCall, DidSo, DidStep, HasTurn, IsSeated, LeftIt, MakeCause, MayMake}
use Rattle.scm_book.specs.Turns.{NamesNoOther, StepCause, StepEnds, known, of_badge}

-- ## What a keeper tells plays no part in what a seat claims

module _ {K J : Type 0} (ghosts : Ghosts K) (ghosts' : Ghosts J) where
  made_as : (o : Opening) (log : List Entry) (k : ℕ) (n : Name) → MadeAt (way_of ghosts) o log k n
      → MadeAt (way_of ghosts') o log k n
  made_as o log k n at = record { front = at.front; entry = at.entry; rest = at.rest; is = at.is; place = at.place; made = at.made }

  named_as : (log : List Entry) (k : ℕ) (n : Name) → NamedAt (way_of ghosts) log k n
      → NamedAt (way_of ghosts') log k n
  named_as log k n at = record { front = at.front; entry = at.entry; rest = at.rest; is = at.is; place = at.place; named = at.named }

module _ {K J : Type 0} (ghosts : Ghosts K) (ghosts' : Ghosts J) where
  claims_as : (o : Opening) (log : List Entry) (whose : ℕ) (names : List Name) (own : List ℕ) (seen : List Entry)
      → Claims (way_of ghosts) o log whose names own seen
      → Claims (way_of ghosts') o log whose names own seen
  claims_as o log whose names own seen claims = record {
    within = claims.within;
    made = λ n has. let one = claims.made n has in (
      one.0,
      one.1,
      made_as ghosts ghosts' o log one.0 n
          one.2,
    );
    all = λ k n mine at. claims.all k n mine (made_as ghosts' ghosts o log k n at);
    named = λ n has k at. claims.named n has k (named_as ghosts' ghosts log k n at);
    caller = claims.caller;
    lives = claims.lives;
  }

module _ {K : Type 0} (ghosts : Ghosts K) where
  -- who has seen more claims the same
  claims_seen : (o : Opening) (log : List Entry) (whose : ℕ) (names : List Name) (own : List ℕ) (seen : List Entry) → IsPrefix seen log
      → Claims (way_of ghosts) o log whose names own seen
      → Claims (way_of ghosts) o log whose names own log
  claims_seen o log whose names own seen longer claims = record {
    within = λ k mine. let low = claims.within k mine in let up = prefix_length seen log longer in omega arith;
    made = claims.made;
    all = claims.all;
    named = claims.named;
    caller = claims.caller;
    lives = claims.lives;
  }

  pub claims_in : (o : Opening) (log : List Entry) (table : TableId) (v : View) → ClaimsOf (way_of ghosts) o log v
      → ClaimsIn o log (knows table v)
  claims_in o log table v claims = claims_as ghosts nothing_seen o log v.caller v.names v.own v.seen claims

  module _ (b : Identity) (s s1 : Seat (Option (Box (Held K) Global)) View) (h : Box (Held K) Global)
      (enters : Enters (way_of ghosts) b s s1 h) where
    sees : s1.me.0 ≡ having_seen s.me.0 enters.log
    sees = ap (λ m. m.0) enters.me

    holding : Waits b s → Holding b s1
    holding waits = record {
      of = record { table = enters.table ∙ waits.of.table; opening = ap (λ m. m.0.opening) enters.me ∙ waits.of.opening };
      looked = ap (λ m. m.0.stage) enters.me;
      out = ap (λ m. m.1) enters.me;
    }

    entered_holds : Holds ghosts b.opening s1.me.0.seen (box_value h)
    entered_holds = subst (λ (v : View). Holds ghosts b.opening v.seen (box_value h)) (sym sees) enters.learns.fits

    entered_runs : Runs b.opening s1.me.0.seen
    entered_runs = subst (λ (v : View). Runs b.opening v.seen) (sym sees) enters.learns.run

    pub entered_flat : (box_value h).manager.flat ≡ state b.opening.limits b.opening.first s1.me.0.seen
    entered_flat = entered_holds.manager

    pub has_turn : Waits b s → HasTurn ghosts b s1 (box_value h)
    has_turn waits = record { seat = holding waits; holds = entered_holds; runs = entered_runs }

    -- what always may come may come now
    pub may_now : (moment : ℕ) (step : Step) → AlwaysMay b.opening (known s) moment step
        → MayMake b.opening s1.me.0.seen s1.me.0.names moment step
    may_now moment step may = subst (λ (v : View). MayMake b.opening v.seen v.names moment step) (sym sees)
        (may enters.log enters.learns.longer enters.learns.run (claims_in b.opening enters.log s.table_id s.me.0 enters.learns.claims))

    -- a plan that is always there is there now
    pub there_now : (caller plan : ℕ) → AlwaysThere b.opening (known s) caller plan
        → IsThere b.opening s1.me.0.seen s1.me.0.names caller plan
    there_now caller plan there = subst (λ (v : View). IsThere b.opening v.seen v.names caller plan) (sym sees)
        (there enters.log enters.learns.longer enters.learns.run (claims_in b.opening enters.log s.table_id s.me.0 enters.learns.claims))

    pub did_made : (s2 : Seat (Option (Box (Held K) Global)) View) (moment : ℕ) (step : Step) (told : Answer)
        → Did (way_of ghosts) b s1 s2 moment step told → Made b.opening (known s) moment step told (known s2)
    did_made s2 moment step told did =
        let log : List Entry = enters.log in
        let e : Entry = (moment, step) in
        let now : s2.me.0 ≡ having_left (having_made (way_of ghosts) b.opening (having_seen s.me.0 log) e) =
        ap (λ m. m.0) did.me ∙ ap (λ (v : View). having_left (having_made (way_of ghosts) b.opening v e)) sees in
        let seen : s2.me.0.seen ≡ log ++ e ∷ [] = ap (λ (v : View). v.seen) now in record {
          before = log;
          longer = enters.learns.longer;
          seen = seen;
          legal = subst (Legal b.opening.limits b.opening.first) (sym (seen ∙ ap (λ (v : View). v.seen ++ e ∷ []) (sym sees)))
              did.run.legal;
          own = ap (λ (v : View). v.own) now;
          names = ap (λ (v : View). v.names) now;
          caller = ap (λ (v : View). v.caller) now;
          answer = subst (λ (l : List Entry). answer b.opening.limits b.opening.first l (length log) ≡ Some told) (sym seen)
              (subst (λ (v : View). answer b.opening.limits b.opening.first (v.seen ++ e ∷ []) (length v.seen) ≡ Some told) sees
              did.answer);
          until = claims_in b.opening log s.table_id s.me.0 enters.learns.claims;
          claims = claims_in b.opening s2.me.0.seen s2.table_id s2.me.0 did.claims;
          alone = λ is. (enters.learns.alone is).seen;
          same = record {
            table = did.table ∙ enters.table;
            opening = ap (λ (v : View). v.opening) now;
            alone = ap (λ (v : View). v.alone) now;
          };
        }

    pub did_so : (s2 : Seat (Option (Box (Held K) Global)) View) (moment : ℕ) (step : Step) (told : Answer)
        → DidSo (way_of ghosts) b s1 s2 moment step told → MadeSo b.opening (known s) moment step told (known s2)
    unfolding did_made
    did_so s2 moment step told did = record {
      append = did.append;
      made = did_made s2 moment (with_kept step did.append) told did.did;
      room = subst (λ (v : View). room_behind b.opening v.seen step ≡ true) sees did.free;
    }

    -- it stands right after all that the seat saw as it entered
    pub so_behind : (s2 : Seat (Option (Box (Held K) Global)) View) (moment : ℕ) (step : Step) (told : Answer)
        → (did : DidSo (way_of ghosts) b s1 s2 moment step told)
        → (did_so s2 moment step told did).made.before ≡ enters.log
    unfolding did_made did_so
    so_behind s2 moment step told did = λ i. enters.log

    pub left_learnt : (s2 : Seat (Option (Box (Held K) Global)) View) → LeftIt s1 s2 → Learnt b.opening (known s) (known s2)
    left_learnt s2 left =
        let now : s2.me.0 ≡ having_left (having_seen s.me.0 enters.log) = ap (λ m. m.0) left.me ∙ ap having_left sees in
        let seen : s2.me.0.seen ≡ enters.log = ap (λ (v : View). v.seen) now in record {
          longer = subst (IsPrefix s.me.0.seen) (sym seen) enters.learns.longer;
          legal = subst (Legal b.opening.limits b.opening.first) (sym seen) enters.learns.run.legal;
          own = ap (λ (v : View). v.own) now;
          names = ap (λ (v : View). v.names) now;
          caller = ap (λ (v : View). v.caller) now;
          until = subst (λ (l : List Entry). ClaimsIn b.opening l (known s)) (sym seen)
              (claims_in b.opening enters.log s.table_id s.me.0 enters.learns.claims);
          claims = claims_in b.opening s2.me.0.seen s2.table_id s2.me.0
              (subst (λ (v : View). ClaimsOf (way_of ghosts) b.opening v.seen v) (sym now)
              (claims_seen b.opening enters.log s.me.0.caller s.me.0.names s.me.0.own s.me.0.seen enters.learns.longer
              enters.learns.claims));
          alone = λ is. seen ∙ (enters.learns.alone is).seen;
          same = record {
            table = left.table ∙ enters.table;
            opening = ap (λ (v : View). v.opening) now;
            alone = ap (λ (v : View). v.alone) now;
          };
        }

    -- what was made within the turn, or wasn't
    left_seen : (s2 : Seat (Option (Box (Held K) Global)) View) → LeftIt s1 s2 → s1.me.0.seen ≡ s2.me.0.seen
    left_seen s2 left = ap (λ m. m.0.seen) (sym left.me)

    pub did_step : (s2 : Seat (Option (Box (Held K) Global)) View) (moment : ℕ) (step : Step) (r : Result Answer StepFault)
        → DidStep ghosts b s1 s2 moment step r → StepEnds b.opening (known s) moment step r (known s2)
    unfolding did_so left_learnt
    did_step s2 moment step (Ok told) did = did_so s2 moment step told did
    did_step s2 moment step (Err fault) did = (
      left_learnt s2 did.0,
      subst (λ (l : List Entry). StepCause b.opening l moment step fault)
          (left_seen s2 did.0) did.1,
    )

    pub did_call : (s2 : Seat (Option (Box (Held K) Global)) View) (moment caller : ℕ) (call : Step) (r : Result (Option Answer) MakeFault)
        → DidCall ghosts b s1 s2 moment caller call r
        → CallEnds b.opening (known s) moment caller call r (known s2)
    unfolding did_made did_so left_learnt
    did_call s2 moment caller call (Ok (Some told)) did = did_so s2 moment call told did
    did_call s2 moment caller call (Ok None) did =
        (did.0, did_so s2 moment (NoMemory caller) did.0 did.1, subst (λ (v : View). room_behind b.opening v.seen call ≡ true) sees did.2)
    did_call s2 moment caller call (Err fault) did = (
      left_learnt s2 did.0,
      subst (λ (l : List Entry). MakeCause b.opening l call fault) (left_seen s2 did.0) did.1,
    )

    pub did_end : (s2 : Seat (Option (Box (Held K) Global)) View) (moment caller plan : ℕ) (r : Option Answer)
        → DidEnd ghosts b s1 s2 moment caller plan r → Ends b.opening (known s) moment caller plan (known s2) r
    unfolding did_made left_learnt
    did_end s2 moment caller plan (Some told) did = did_made s2 moment (EndStart caller plan) told did
    did_end s2 moment caller plan None did = (
      left_learnt s2 did.0,
      subst (λ (l : List Entry). IsUndecided b.opening l plan)
          (left_seen s2 did.0) did.1,
    )

    -- whom it may name it may name still
    pub names_now : (step : Step) → NamesNoOther s.me.0.names step → NamesNoOther s1.me.0.names step
    names_now step = subst (λ (v : View). NamesNoOther v.names step) (sym sees)

    -- after a call the seat waits again
    pub left_waits : (s2 : Seat (Option (Box (Held K) Global)) View) → Waits b s → LeftIt s1 s2 → Waits b s2
    left_waits s2 waits left = record {
      of = record {
        table = left.table ∙ (enters.table ∙ waits.of.table);
        opening = ap (λ m. m.0.opening) left.me
            ∙ (holding waits).of.opening;
      };
      away = ap (λ m. m.0.stage) left.me;
      empty = ap (λ m. m.1) left.me;
    }

    pub did_waits : (s2 : Seat (Option (Box (Held K) Global)) View) (moment : ℕ) (step : Step) (told : Answer) → Waits b s
        → Did (way_of ghosts) b s1 s2 moment step told → Waits b s2
    did_waits s2 moment step told waits did = record {
      of = record {
        table = did.table ∙ (enters.table ∙ waits.of.table);
        opening = ap (λ m. m.0.opening) did.me
            ∙ (holding waits).of.opening;
      };
      away = ap (λ m. m.0.stage) did.me;
      empty = ap (λ m. m.1) did.me;
    }

-- ## A token that becomes a seat, and a seat that becomes a token

module _ {K : Type 0} (b : Identity) (old r : Badge View) (s : Seat (Option (Box (Held K) Global)) View) (same : r ≡ old)
    (seated : IsSeated b old) (table : s.table_id ≡ r.table_id) (views : r.views ≡ s.me.0 ∷ []) where
  view_is : view_of old.views ≡ s.me.0
  view_is = ap (λ (t : Badge View). view_of t.views) (sym same) ∙ ap view_of views

  table_is : old.table_id ≡ s.table_id
  table_is = ap (λ (t : Badge View). t.table_id) (sym same) ∙ sym table

  pub known_is : of_badge old ≡ known s
  known_is = λ i. knows (table_is i) (view_is i)

  pub seat_waits : s.me.1 ≡ [] → Waits b s
  seat_waits empty = record {
    of = record { table = sym table_is ∙ seated.of.table; opening = ap (λ (v : View). v.opening) (sym view_is) ∙ seated.of.opening };
    away = ap (λ (v : View). v.stage) (sym view_is) ∙ seated.rests.away;
    empty = empty;
  }

module _ {K : Type 0} (b : Identity) (new : Badge View) (s : Seat (Option (Box (Held K) Global)) View) (table : new.table_id ≡ s.table_id)
    (views : new.views ≡ s.me.0 ∷ []) where
  pub known_back : known s ≡ of_badge new
  known_back = λ i. knows (sym table i) (ap view_of (sym views) i)

  pub seated_back : Waits b s → IsSeated b new
  seated_back waits = record {
    rests = record {
      one = views ∙ ap (λ (v : View). v ∷ []) (ap view_of (sym views));
      away = ap (λ (vs : List View). (view_of vs).stage) views ∙ waits.away;
    };
    of = record { table = table ∙ waits.of.table; opening = ap (λ (vs : List View). (view_of vs).opening) views ∙ waits.of.opening };
  }

-- what holds of what seats know holds of what their tokens know
module _ {from s s' to : Known} where
  pub as_tokens : (P : Known → Known → Type 0) → from ≡ s → s' ≡ to → P s s' → P from to
  as_tokens P before after holds = subst (λ (k : Known). P k to) (sym before) (subst (P s) after holds)

-- a seat that had the turn and gave it up waits again
pub settled_waits : {K : Type 0} (b : Identity) (s s' : Seat (Option (Box (Held K) Global)) View) (v : View) → Holding b s
    → s'.table_id ≡ s.table_id → s'.me ≡ (having_left v, []) → v.opening ≡ s.me.0.opening → Waits b s'
settled_waits b s s' v holding table me same = record {
  of = record { table = table ∙ holding.of.table; opening = ap (λ m. m.0.opening) me ∙ (same ∙ holding.of.opening) };
  away = ap (λ m. m.0.stage) me;
  empty = ap (λ m. m.1) me;
}

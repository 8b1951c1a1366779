-- What a join is told, whose pass it then is, and what two seats have then seen.
use Rattle.std.proofs.Common.{◌≡◌, ◌≢◌, ℕ, true, false, List, [], ◌∷◌, Option, Result, Ok, Err, Box, box_value, refl, sym, ap, ◌∙◌, subst}
use Rattle.std.specs.declared.alloc.Global.{Global}
use Rattle.std.specs.Prelude.{IfOk}
use mathlib.Core.List.{IsPrefix}
use Rattle.atomic_table.specs.declared.shared.Seat.{Seat}
use Rattle.scm_model.specs.declared.flat.Principal.{Principal}
use Rattle.scm_model.specs.declared.steps.Answer.{Answer}
use Rattle.scm_model.specs.declared.steps.Answer.TheVariants as answers
use Rattle.scm_model.specs.declared.steps.Step.{Step}
use Rattle.scm_model.specs.declared.steps.Step.TheVariants.{Joined}
use Rattle.scm_model.specs.Entries.{Entry, with_kept}
use Rattle.scm_rules.specs.Histories.{Legal, state}
use Rattle.book_rule.specs.declared.view.Opening.{Opening}
use Rattle.book_rule.specs.declared.view.View.{View}
use Rattle.book_rule.specs.declared.view.Stage.TheVariants.{Away}
use Rattle.book_rule.specs.Seats.{Enters, Forks, HandsOver, Holding, Identity, IsOneMore, Merges, StillClaims, Waits}
use Rattle.book_rule.specs.Views.{emptied, having_left, in_company, longer, newcomer}
use Rattle.book_rule.proofs.Owning.{claims_none}
use Rattle.book_rule.proofs.Prefixes.{longer_is, prefix_trans}
use Rattle.scm_book.specs.Ghosts.{Ghosts}
use Rattle.scm_book.specs.declared.answers.JoinFault.{JoinFault}
use Rattle.scm_book.specs.declared.fault.StepFault.{StepFault}
use Rattle.scm_book.specs.declared.fault.StepFault.TheVariants as steps
use Rattle.scm_book.specs.declared.held.Held.{Held}
use Rattle.scm_book.specs.declared.joining.MadeBeside.{MadeBeside}
use Rattle.scm_book.specs.Holds.{Opens, way_of}
use Rattle.scm_book.specs.Joins.{DidBeside, JoinCauseAt, Joins, JoinsAs, Watches, fresh, join_told}
use Rattle.scm_book.specs.Passes.{ClaimsIn, KeepsAll, Known, Learnt, MadeSo, knows}
use Rattle.scm_book.specs.Turns.{StepCause, known}
use Rattle.scm_book.proofs.Coming.{first_caller, shaped}
use Rattle.scm_book.proofs.Forks.{keeps_on, merged_keeps}
use Rattle.scm_book.proofs.Lasting.{keeps_seen}
use Rattle.scm_book.proofs.Passes.{claims_in, did_so, settled_waits, so_behind}
use Rattle.scm_book.proofs.Turns.{Stands}

-- ## What is told

same_number : (a b : ℕ) → answers.Caller a ≡ answers.Caller b → a ≡ b
same_number a b is = cc

module _ (o : Opening) (opens : Opens o) (k k' : Known) (moment : ℕ) (principal : Principal) where
  -- a join is told a caller's number
  pub told_number : (told : Answer) → MadeSo o k moment (Joined principal) told k' → (number : ℕ) × (told ≡ answers.Caller number)
  told_number told made = (
    (state o.limits o.first made.made.before).next.caller,
    shaped o opens k k' moment (Joined principal) told made.made,
  )

  -- whose number it was told is whose pass it then is
  pub joins_as : (told : Answer) (number : ℕ) → MadeSo o k moment (Joined principal) told k' → told ≡ answers.Caller number
      → JoinsAs o k moment principal k' number
  joins_as told number made is = record {
    made = subst (λ (t : Answer). MadeSo o k moment (Joined principal) t k') is made;
    caller = made.made.caller ∙ same_number (state o.limits o.first made.made.before).next.caller number
        (sym (shaped o opens k k' moment (Joined principal) told made.made) ∙ is);
  }

-- whose pass it is has a number
pub joined_some : (o : Opening) → Opens o → (k : Known) (moment : ℕ) (principal : Principal) (number : ℕ) (k' : Known)
    → MadeSo o k moment (Joined principal) (answers.Caller number) k' → k'.caller ≢ 0
joined_some o opens k moment principal number k' made =
    subst (λ (n : ℕ). n ≢ 0) (sym made.made.caller) (first_caller o opens made.made.before _
    (subst (Legal o.limits o.first) made.made.seen made.made.legal))

pub joins_some : (o : Opening) → Opens o → (by by' : Known) (moment : ℕ) (principal : Principal) (r : Result Known JoinFault)
    → IfOk r (Joins o by moment principal by') → IfOk r (λ k. k.caller ≢ 0)
joins_some o opens by by' moment principal (Ok k) joins = joined_some o opens (fresh by) moment principal k.caller k joins.made
joins_some o opens by by' moment principal (Err fault) joins = tt

-- why the step of a join isn't made is why nobody joins
pub join_cause : (o : Opening) (log : List Entry) (moment : ℕ) (principal : Principal) (fault : StepFault)
    → StepCause o log moment (Joined principal) fault → JoinCauseAt o log principal (join_told fault)
join_cause o log moment principal steps.NotNow cause = cause
join_cause o log moment principal (steps.Unmade fault) cause = cause

-- who learnt that nobody joined has watched it
pub learnt_watches : (o : Opening) (k k' : Known) → Learnt o k k' → Watches o k k'
learnt_watches o k k' learnt = record {
  same = λ i. record {
    table = learnt.same.table i;
    opening = learnt.same.opening i;
    caller = learnt.caller i;
    names = learnt.names i;
    seen = k'.seen;
    own = learnt.own i;
    alone = k'.alone;
  };
  longer = learnt.longer;
  legal = learnt.legal;
}

-- ## A seat that is made with the turn held

module _ {K : Type 0} (b : Identity) (s s' r : Seat (Option (Box (Held K) Global)) View) (holding : Holding b s)
    (hands : HandsOver s s' r) where
  pub new_holds : Holding b r
  new_holds = record {
    of = record { table = hands.new_table ∙ holding.of.table; opening = ap (λ m. m.0.opening) hands.new_me ∙ holding.of.opening };
    looked = ap (λ m. m.0.stage) hands.new_me ∙ holding.looked;
    out = ap (λ m. m.1) hands.new_me ∙ holding.out;
  }

  pub old_waits : Waits b s'
  old_waits = settled_waits b s s' (in_company s.me.0) holding hands.table hands.me refl

-- what stands after what the old seat saw stands after what the new one did
pub one_more : {K : Type 0} (ghosts : Ghosts K) (b : Identity) (v v' : View)
    (h : Box (Held K) Global) → v' ≡ v → Stands (way_of ghosts) b v (box_value h)
    → IsOneMore (way_of ghosts) b v' h
one_more ghosts b v v' h is stands = subst (λ (x : View). IsOneMore (way_of ghosts) b x h) (sym is)
    (record { entry = stands.entry; last = stands.last; names = stands.names; follows = stands.follows; fits = stands.fits })

-- ## A caller that joins beside another

module _ {K : Type 0} (ghosts : Ghosts K) (b : Identity)
    (s s1 s2 : Seat (Option (Box (Held K) Global)) View) (h : Box (Held K) Global)
    (enters : Enters (way_of ghosts) b s s1 h) (moment : ℕ) (step : Step) (new : MadeBeside K)
    (beside : DidBeside ghosts b s1 s2 moment step new) where
  -- the new seat, as it would be had it been made before the turn was taken
  abbrev begun : Seat (Option (Box (Held K) Global)) View
  begun = record s { me = (newcomer s.me.0, []) }

  enters_new : Enters (way_of ghosts) b begun beside.holder h
  enters_new = record {
    table = beside.hands.new_table ∙ enters.table;
    log = enters.log;
    learns = record {
      longer = enters.learns.longer;
      run = enters.learns.run;
      claims = claims_none (way_of ghosts) b.opening enters.log (newcomer s.me.0) refl refl refl;
      alone = λ is. absurd cc;
      fits = enters.learns.fits;
    };
    me = beside.hands.new_me ∙ (λ i. (emptied (enters.me i).0, (enters.me i).1));
  }

  waits_is : s2.me.0 ≡ record s.me.0 { seen = enters.log; alone = false; stage = Away }
  waits_is = ap (λ m. m.0) beside.hands.me ∙ ap (λ m. having_left (in_company m.0)) enters.me

  made_beside : MadeSo b.opening (fresh (known s)) moment step new.told (known new.seat)
  made_beside = did_so ghosts b begun beside.holder h enters_new new.seat moment step new.told beside.did

  behind : made_beside.made.before ≡ enters.log
  unfolding enters_new made_beside
  behind = so_behind ghosts b begun beside.holder h enters_new new.seat moment step new.told beside.did

  begins : IsPrefix enters.log new.seat.me.0.seen
  begins = subst (λ (l : List Entry). IsPrefix l new.seat.me.0.seen) behind
      ((moment, with_kept step made_beside.append) ∷ [], sym made_beside.made.seen)

  module _ (now w s3 : Seat (Option (Box (Held K) Global)) View) (forks : Forks new.seat now w) (merges : Merges s2 w s3) where
    sees_new : s3.me.0.seen ≡ new.seat.me.0.seen
    sees_new = ap (λ m. m.0.seen) merges.me ∙ ((λ i. longer (waits_is i).seen (forks.new_me i).0.seen)
        ∙ longer_is enters.log new.seat.me.0.seen begins)

    now_is : s3.me.0 ≡ record s.me.0 { seen = longer s2.me.0.seen w.me.0.seen; alone = false; stage = Away }
    now_is = ap (λ m. m.0) merges.me ∙ (λ i. record (waits_is i) { seen = longer s2.me.0.seen w.me.0.seen })

    table_is : s3.table_id ≡ s.table_id
    table_is = merges.table ∙ (beside.hands.table ∙ enters.table)

    pub watches : Watches b.opening (known s) (known s3)
    watches = record {
      same = λ i. knows (table_is i) (record (now_is i) { seen = s3.me.0.seen; alone = s3.me.0.alone });
      longer = subst (IsPrefix s.me.0.seen) (sym sees_new)
          (prefix_trans s.me.0.seen enters.log new.seat.me.0.seen enters.learns.longer begins);
      legal = subst (Legal b.opening.limits b.opening.first) (sym sees_new) made_beside.made.legal;
    }

    pub keeps_beside : Opens b.opening → StillClaims (way_of ghosts) b s2 s3 → KeepsAll b.opening (known s) (known s3)
    keeps_beside opens still =
        let seen : enters.log ≡ s2.me.0.seen = sym (ap (λ (v : View). v.seen) waits_is) in
        keeps_on b.opening (known s) (known s2) (known s3)
        (keeps_seen b.opening opens (known s) (known s2) (subst (IsPrefix s.me.0.seen) seen enters.learns.longer)
        (subst (Legal b.opening.limits b.opening.first) seen enters.learns.run.legal)
        (subst (λ (l : List Entry). ClaimsIn b.opening l (known s)) seen
        (claims_in ghosts b.opening enters.log s.table_id s.me.0 enters.learns.claims))
        (ap (λ (v : View). v.names) waits_is) (ap (λ (v : View). v.caller) waits_is))
        (merged_keeps ghosts b opens s2 s3 w merges still)

    -- the witness changes nothing
    stays_so : known new.seat ≡ known now
    stays_so =
        let company : new.seat.me.0.alone ≡ false = made_beside.made.same.alone in
        (λ i. record (known new.seat) { alone = company i }) ∙ (λ i. knows (sym forks.table i) (sym forks.me i).0)

module _ {K : Type 0} (ghosts : Ghosts K) (b : Identity) (opens : Opens b.opening)
    (s s1 s2 : Seat (Option (Box (Held K) Global)) View) (h : Box (Held K) Global)
    (enters : Enters (way_of ghosts) b s s1 h) (moment : ℕ) (principal : Principal) (new : MadeBeside K)
    (beside : DidBeside ghosts b s1 s2 moment (Joined principal) new) where
  pub told_new : new.told ≡ answers.Caller new.seat.me.0.caller
  told_new =
      let made = made_beside ghosts b s s1 s2 h enters moment (Joined principal) new beside in
      shaped b.opening opens (fresh (known s)) (known new.seat) moment (Joined principal) new.told made.made
      ∙ ap answers.Caller (sym made.made.caller)

  module _ (now w s3 : Seat (Option (Box (Held K) Global)) View) (forks : Forks new.seat now w) (merges : Merges s2 w s3) (p : Known)
      (is : known now ≡ p) where
    passes : known new.seat ≡ p
    passes = stays_so ghosts b s s1 s2 h enters moment (Joined principal) new beside now w s3 forks merges ∙ is

    -- the number that was told is the new pass's
    pub told_is : (number : ℕ) → new.told ≡ answers.Caller number → number ≡ p.caller
    told_is number told = same_number number new.seat.me.0.caller (sym told ∙ told_new) ∙ ap (λ (k : Known). k.caller) passes

    pub joined_beside : Joins b.opening (known s) moment principal (known s3) p
    joined_beside =
        let made = made_beside ghosts b s s1 s2 h enters moment (Joined principal) new beside in
        let alone : s.me.0.alone ≡ true → made.made.before ≡ s.me.0.seen =
        λ was. behind ghosts b s s1 s2 h enters moment (Joined principal) new beside ∙ (enters.learns.alone was).seen in
        let both : (made : MadeSo b.opening (fresh (known s)) moment (Joined principal) (answers.Caller new.seat.me.0.caller)
        (known new.seat)) × (s.me.0.alone ≡ true → made.made.before ≡ s.me.0.seen) =
        subst (λ (t : Answer). (made : MadeSo b.opening (fresh (known s)) moment (Joined principal) t (known new.seat))
        × (s.me.0.alone ≡ true → made.made.before ≡ s.me.0.seen)) told_new (made, alone) in
        subst (Joins b.opening (known s) moment principal (known s3)) passes (record {
          made = both.0;
          seen = sees_new ghosts b s s1 s2 h enters moment (Joined principal) new beside now w s3 forks merges;
          company = ap (λ m. m.0.alone) merges.me ∙ ap (λ (v : View). v.alone)
              (waits_is ghosts b s s1 s2 h enters moment (Joined principal) new beside);
          alone = both.1;
        })

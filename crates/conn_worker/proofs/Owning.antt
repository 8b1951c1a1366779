-- Which own entries each step of a pass adds, and those of a chain of requests.
use Rattle.std.proofs.Common.{◌≡◌, ◌∙◌, ◌+◌, ℕ, Bool, true, false, cond, List, [], ◌∷◌, ◌++◌, length, map, Option, None, Some, inl, inr}
use Rattle.std.proofs.Common.{refl, sym, ap, subst, append_assoc, append-nil, length-append, arith}
use Rattle.std.specs.Prelude.{All}
use Rattle.std.proofs.lemmas.List.Elements.{All-append, All-cons, All-head, All-nil, All-tail}
use mathlib.Core.List.{IsPrefix, map-append}
use Rattle.scm_model.specs.declared.calls.Reply.{Reply}
use Rattle.scm_model.specs.declared.steps.Answer.{Answer}
use Rattle.scm_model.specs.declared.steps.Answer.TheVariants as answers
use Rattle.scm_model.specs.declared.steps.Step.{Step}
use Rattle.scm_model.specs.declared.steps.Step.TheVariants.{Call, EndStart, LaunchFailed, LaunchTaken, NoMemory, Raised}
use Rattle.scm_model.specs.Entries.{Entry}
use Rattle.scm_rules.specs.Histories.{answer, state}
use Rattle.scm_rules.specs.Room.{is_owed}
use Rattle.scm_rules.specs.Steps.{step_of}
use Rattle.scm_runs.proofs.Histories.{told}
use Rattle.scm_history.specs.Owned.{Made as Told, made_of}
use Rattle.book_rule.specs.declared.view.Opening.{Opening}
use Rattle.book_rule.proofs.Prefixes.{prefix_self, prefix_snoc, prefix_trans}
use Rattle.scm_book.specs.Called.{RaisedSo}
use Rattle.scm_book.specs.Passes.{Known, Learnt, Made, MadeSo, room_behind}
use Rattle.conn_desk.specs.declared.asked.DecodedRequest.{DecodedRequest}
use Rattle.conn_desk.specs.declared.asked.DecodedRequest.TheVariants as asks
use Rattle.conn_desk.specs.Desks.{Chain}
use Rattle.conn_worker.specs.Owning.{Adds, AreFailures, AreOf, AreOfAll, AreOfTurns, AreTold, StepsHadRoom, HadRoom, Owns, StandAt}
use Rattle.conn_worker.specs.Owning.{StandsAt}
use Rattle.conn_worker.specs.Owning.{unowed_places}
use Rattle.conn_worker.specs.Serving.{IsServed, Wants, step_for}
use Rattle.conn_worker.specs.Waiting.{FailsLaunch, Turns, Waits, WaitsOnce}

-- ## Places stay

pub stays_at : (o : Opening) (log more : List Entry) (place : ℕ) (one : Told) → StandsAt o log place one
    → StandsAt o (log ++ more) place one
stays_at o log more place one stands =
    let l = o.limits in
    let f = o.first in
    let e = one.entry in
    let whole : log ++ more ≡ stands.front ++ e ∷ (stands.rest ++ more) = ap (λ (es : List Entry). es ++ more) stands.is
    ∙ append_assoc stands.front (e ∷ stands.rest) more in
    let first : answer l f log place ≡ Some (step_of l (state l f stands.front) e.0 e.1).answer =
    (λ i. answer l f (stands.is i) (stands.at i)) ∙ told l f stands.front e stands.rest in
    let then : answer l f (log ++ more) place ≡ Some (step_of l (state l f stands.front) e.0 e.1).answer =
    (λ i. answer l f (whole i) (stands.at i)) ∙ told l f stands.front e (stands.rest ++ more) in
    record { front = stands.front; rest = stands.rest ++ more; is = whole; at = stands.at; told = then ∙ (sym first ∙ stands.told) }

pub stay_at : (o : Opening) (log more : List Entry) (places : List ℕ) (own : List Told) → StandAt o log places own
    → StandAt o (log ++ more) places own
stay_at o log more [] [] stand = tt
stay_at o log more (place ∷ places) (one ∷ own) stand = (stays_at o log more place one stand.0, stay_at o log more places own stand.1)
stay_at o log more [] (one ∷ own) stand = absurd stand
stay_at o log more (place ∷ places) [] stand = absurd stand

stay_behind : (o : Opening) (log longer : List Entry) (places : List ℕ) (own : List Told) → IsPrefix log longer → StandAt o log places own
    → StandAt o longer places own
stay_behind o log longer places own is stand = subst (λ (es : List Entry). StandAt o es places own) is.1
    (stay_at o log is.0 places own stand)

stand_more : (o : Opening) (log : List Entry) (places : List ℕ) (own : List Told) (place : ℕ) (one : Told) → StandAt o log places own
    → StandsAt o log place one → StandAt o log (places ++ place ∷ []) (own ++ one ∷ [])
stand_more o log [] [] place one stand stands = (stands, tt)
stand_more o log (first ∷ places) (other ∷ own) place one stand stands = (stand.0, stand_more o log places own place one stand.1 stands)
stand_more o log [] (other ∷ own) place one stand stands = absurd stand
stand_more o log (first ∷ places) [] place one stand stands = absurd stand

-- ## What is added

entry_of : Told → Entry
entry_of one = one.entry

pub adds_made : (o : Opening) (k k' : Known) (moment : ℕ) (step : Step) (told : Answer) → Made o k moment step told k'
    → Adds o k (made_of (moment, step) told ∷ []) k'
adds_made o k k' moment step told made =
    let one : Told = made_of (moment, step) told in
    let longer : IsPrefix k.seen k'.seen = subst (IsPrefix k.seen) (sym made.seen)
    (prefix_snoc k.seen made.before (moment, step) made.longer) in
    let at : StandsAt o k'.seen (length made.before) one = record {
      front = made.before;
      rest = [];
      is = made.seen;
      at = refl;
      told = made.answer;
    } in
    record {
      longer = longer;
      own = λ before stand. subst (λ (places : List ℕ). StandAt o k'.seen places (before ++ one ∷ [])) (sym made.own)
          (stand_more o k'.seen k.own before (length made.before) one (stay_behind o k.seen k'.seen k.own before longer stand) at);
      alone = λ alone. made.seen ∙ ap (λ (es : List Entry). es ++ (moment, step) ∷ []) (made.alone alone);
      same = made.same;
    }

pub adds_learnt : (o : Opening) (k k' : Known) → Learnt o k k' → Adds o k [] k'
adds_learnt o k k' learnt = record {
  longer = learnt.longer;
  own = λ before stand. subst (λ (own : List Told). StandAt o k'.seen k'.own own) (sym (append-nil before))
      (subst (λ (places : List ℕ). StandAt o k'.seen places before) (sym learnt.own)
      (stay_behind o k.seen k'.seen k.own before learnt.longer stand));
  alone = λ alone. learnt.alone alone ∙ sym (append-nil k.seen);
  same = learnt.same;
}

adds_none : (o : Opening) (k : Known) → Adds o k [] k
adds_none o k = record {
  longer = prefix_self k.seen;
  own = λ before stand. subst (λ (own : List Told). StandAt o k.seen k.own own) (sym (append-nil before)) stand;
  alone = λ alone. sym (append-nil k.seen);
  same = record { table = refl; opening = refl; alone = refl };
}

pub adds_then : (o : Opening) (k m k' : Known) (xs ys : List Told) → Adds o k xs m → Adds o m ys k' → Adds o k (xs ++ ys) k'
adds_then o k m k' xs ys first then = record {
  longer = prefix_trans k.seen m.seen k'.seen first.longer then.longer;
  own = λ before stand. subst (Owns o k') (append_assoc before xs ys) (then.own (before ++ xs) (first.own before stand));
  alone = λ alone.
      let one : m.seen ≡ k.seen ++ map (λ (t : Told). t.entry) xs = first.alone alone in
      let two : k'.seen ≡ m.seen ++ map (λ (t : Told). t.entry) ys = then.alone (first.same.alone ∙ alone) in
      let both : map (λ (t : Told). t.entry) (xs ++ ys) ≡ map (λ (t : Told). t.entry) xs
      ++ map (λ (t : Told). t.entry) ys = map-append (λ (t : Told). t.entry) xs ys in
      two ∙ (ap (λ (es : List Entry). es ++ map (λ (t : Told). t.entry) ys) one
      ∙ (append_assoc k.seen (map (λ (t : Told). t.entry) xs) (map (λ (t : Told). t.entry) ys)
      ∙ ap (λ (es : List Entry). k.seen ++ es) (sym both)));
  same = record {
    table = then.same.table ∙ first.same.table;
    opening = then.same.opening ∙ first.same.opening;
    alone = then.same.alone ∙ first.same.alone;
  };
}

-- a want of memory stands in the place of a request for which there was room
pub record Lacked (o : Opening) (k : Known) (moment : ℕ) (asked : DecodedRequest) (k' : Known) : Type 0 where
  pub made : Made o k moment (NoMemory k.caller) answers.Done k'
  pub room : room_behind o made.before (step_for k.caller asked) ≡ true

pub want_made : (o : Opening) (k k' : Known) (moment : ℕ) (asked : DecodedRequest) → Wants o k moment asked k' → Lacked o k moment asked k'
want_made o k k' moment (asks.Call request) wants = record { made = wants.made.made; room = wants.room }
want_made o k k' moment (asks.Raise subtype) wants = record { made = wants.made.made; room = wants.room }

-- ## Room

pub had_room : (o : Opening) (k k' : Known) (moment : ℕ) (step : Step) (told : Answer) (made : Made o k moment step told k') (needed : Step)
    → room_behind o made.before needed ≡ true
    → HadRoom o k'.seen (length made.before) needed
had_room o k k' moment step told made needed room = record {
  front = made.before;
  within = subst (IsPrefix made.before) (sym made.seen) (prefix_snoc made.before made.before (moment, step) (prefix_self made.before));
  at = refl;
  room = room;
}

pub had_behind : (o : Opening) (log longer : List Entry) (place : ℕ) (step : Step) → IsPrefix log longer → HadRoom o log place step
    → HadRoom o longer place step
had_behind o log longer place step is had = record {
  front = had.front;
  within = prefix_trans had.front log longer had.within is;
  at = had.at;
  room = had.room;
}

pub found_behind : (o : Opening) (log longer : List Entry) (places : List ℕ) (steps : List Step) → IsPrefix log longer
    → StepsHadRoom o log places steps → StepsHadRoom o longer places steps
found_behind o log longer [] [] is found = tt
found_behind o log longer (place ∷ places) (step ∷ steps) is found = (
  had_behind o log longer place step is found.0,
  found_behind o log longer places steps is found.1,
)
found_behind o log longer [] (step ∷ steps) is found = absurd found
found_behind o log longer (place ∷ places) [] is found = absurd found

found_then : (o : Opening) (log : List Entry) (places more : List ℕ) (steps others : List Step) → StepsHadRoom o log places steps
    → StepsHadRoom o log more others
    → StepsHadRoom o log (places ++ more) (steps ++ others)
found_then o log [] more [] others first then = then
found_then o log (place ∷ places) more (step ∷ steps) others first then = (first.0, found_then o log places more steps others first.1 then)
found_then o log [] more (step ∷ steps) others first then = absurd first
found_then o log (place ∷ places) more [] others first then = absurd first

-- ## Places of what isn't owed

picked_more : (owed : Bool) (place : ℕ) (xs ys zs : List ℕ) → xs ≡ ys ++ zs → cond owed xs (place ∷ xs) ≡ cond owed ys (place ∷ ys) ++ zs
picked_more true place xs ys zs is = is
picked_more false place xs ys zs is = ap (λ (ps : List ℕ). place ∷ ps) is

unowed_more : (ps qs : List ℕ) (xs ys : List Told) → length ps ≡ length xs → unowed_places (ps ++ qs) (xs ++ ys) ≡ unowed_places ps xs
    ++ unowed_places qs ys
unowed_more [] qs [] ys same = refl
unowed_more (p ∷ ps) qs (x ∷ xs) ys same =
    picked_more (is_owed x.entry.1) p (unowed_places (ps ++ qs) (xs ++ ys)) (unowed_places ps xs) (unowed_places qs ys)
    (unowed_more ps qs xs ys (omega (arith, same)))
unowed_more [] qs (x ∷ xs) ys same = absurd (omega (arith, same))
unowed_more (p ∷ ps) qs [] ys same = absurd (omega (arith, same))

abbrev pub IsOwed : Told → Type 0
IsOwed one = is_owed one.entry.1 ≡ true

picked_none : (owed : Bool) (place : ℕ) (xs : List ℕ) → owed ≡ true → xs ≡ [] → cond owed xs (place ∷ xs) ≡ []
picked_none true place xs is none = none
picked_none false place xs is none = absurd cc

unowed_none : (ps : List ℕ) (xs : List Told) → All IsOwed xs → unowed_places ps xs ≡ []
unowed_none [] xs all = refl
unowed_none (p ∷ ps) [] all = refl
unowed_none (p ∷ ps) (x ∷ xs) all =
    picked_none (is_owed x.entry.1) p (unowed_places ps xs) (All-head IsOwed x xs all) (unowed_none ps xs (All-tail IsOwed x xs all))

-- ## What turns made

no_turns : (silent : Bool) → AreOfTurns silent []
no_turns true = refl
no_turns false = tt

failed_turns : (silent : Bool) (entries : List Told) → silent ≡ false → AreFailures entries → AreOfTurns silent entries
failed_turns true entries loud failures = absurd cc
failed_turns false entries loud failures = failures

failures_then : (xs ys : List Told) → AreFailures xs → AreFailures ys → AreFailures (xs ++ ys)
failures_then [] ys first then = then
failures_then (one ∷ []) ys first then = absurd first
failures_then (taken ∷ failed ∷ xs) ys first then = (first.0, failures_then xs ys first.1 then)

turns_then : (silent : Bool) (xs ys : List Told) → AreOfTurns silent xs → AreOfTurns silent ys → AreOfTurns silent (xs ++ ys)
turns_then true xs ys first then = ap (λ (es : List Told). es ++ ys) first ∙ then
turns_then false xs ys first then = failures_then xs ys first then

-- ## At moments that the clock tells, by the same caller

pub record Makes (tells : ℕ → Type 0) (o : Opening) (k : Known) (entries : List Told) (places : List ℕ) (k' : Known) : Type 0 where
  pub adds : Adds o k entries k'
  pub told : AreTold tells entries
  pub caller : k'.caller ≡ k.caller
  pub own : k'.own ≡ k.own ++ places
  pub as_many : length places ≡ length entries

module _ (tells : ℕ → Type 0) (o : Opening) where
  pub makes_none : (k k' : Known) → k' ≡ k → Makes tells o k [] [] k'
  makes_none k k' same = subst (λ (x : Known). Makes tells o k [] [] x) (sym same) (record {
    adds = adds_none o k;
    told = All-nil (λ (one : Told). tells one.entry.0);
    caller = refl;
    own = sym (append-nil k.own);
    as_many = refl;
  })

  pub makes_learnt : (k k' : Known) → Learnt o k k' → Makes tells o k [] [] k'
  makes_learnt k k' learnt = record {
    adds = adds_learnt o k k' learnt;
    told = All-nil (λ (one : Told). tells one.entry.0);
    caller = learnt.caller;
    own = learnt.own ∙ sym (append-nil k.own);
    as_many = refl;
  }

  makes_one : (k k' : Known) (moment : ℕ) (step : Step) (told : Answer) → tells moment → (made : Made o k moment step told k')
      → k'.caller ≡ k.caller
      → Makes tells o k (made_of (moment, step) told ∷ []) (length made.before ∷ []) k'
  makes_one k k' moment step told so made caller = record {
    adds = adds_made o k k' moment step told made;
    told = All-cons (λ (one : Told). tells one.entry.0) (made_of (moment, step) told) [] so (All-nil (λ (one : Told). tells one.entry.0));
    caller = caller;
    own = made.own;
    as_many = refl;
  }

  pub makes_then : (k m k' : Known) (xs ys : List Told) (ps qs : List ℕ) → Makes tells o k xs ps m → Makes tells o m ys qs k'
      → Makes tells o k (xs ++ ys) (ps ++ qs) k'
  makes_then k m k' xs ys ps qs first then = record {
    adds = adds_then o k m k' xs ys first.adds then.adds;
    told = All-append (λ (one : Told). tells one.entry.0) xs ys first.told then.told;
    caller = then.caller ∙ first.caller;
    own = then.own ∙ (ap (λ (own : List ℕ). own ++ qs) first.own ∙ append_assoc k.own ps qs);
    as_many =
        let places : length (ps ++ qs) ≡ length ps + length qs = length-append ps qs in
        let entries : length (xs ++ ys) ≡ length xs + length ys = length-append xs ys in
        let one : length ps ≡ length xs = first.as_many in
        let two : length qs ≡ length ys = then.as_many in omega arith;
  }

  module _ (silent : Bool) where
    -- ## Turns

    pub record Turned (k k' : Known) : Type 0 where
      pub entries : List Told
      pub places : List ℕ
      pub makes : Makes tells o k entries places k'
      pub of_turns : AreOfTurns silent entries
      pub owed : All IsOwed entries

    -- without a step
    turned_none : (k k' : Known) → Makes tells o k [] [] k' → Turned k k'
    turned_none k k' makes = record { entries = []; places = []; makes = makes; of_turns = no_turns silent; owed = All-nil IsOwed }

    of_turn : (k k' : Known) (moment : ℕ) → tells moment → Turns silent o k moment k' → Turned k k'
    of_turn k k' moment so (inl (inl same)) = turned_none k k' (makes_none k k' same)
    of_turn k k' moment so (inl (inr learnt)) = turned_none k k' (makes_learnt k k' learnt)
    of_turn k k' moment so (inr may) =
        let fails : FailsLaunch o k moment k' = may.1 in
        let taken : Told = made_of (moment, LaunchTaken) (answers.Launch fails.process) in
        let failed : Told = made_of (moment, LaunchFailed fails.process 1054) answers.Done in record {
          entries = taken ∷ failed ∷ [];
          places = length fails.takes.before ∷ length fails.fails.before ∷ [];
          makes = makes_then k fails.taken k' (taken ∷ []) (failed ∷ []) (length fails.takes.before ∷ []) (length fails.fails.before ∷ [])
              (makes_one k fails.taken moment LaunchTaken (answers.Launch fails.process) so fails.takes fails.takes.caller)
              (makes_one fails.taken k' moment (LaunchFailed fails.process 1054) answers.Done so fails.fails fails.fails.caller);
          of_turns = failed_turns silent (taken ∷ failed ∷ []) may.0 (
            record {
              process = fails.process;
              moment = moment;
              takes = refl;
              fails = refl;
            },
            tt,
          );
          owed = All-cons IsOwed taken (failed ∷ []) refl (All-cons IsOwed failed [] refl (All-nil IsOwed));
        }

    of_waits : (plan : ℕ) (moments : List ℕ) (k k' : Known) → All tells moments → Waits silent o plan moments k k' → Turned k k'
    of_waits plan [] k k' all same = turned_none k k' (makes_none k k' same)
    of_waits plan (moment ∷ moments) k k' all waits =
        let once : WaitsOnce silent o plan k moment waits.0 = waits.1 in
        let first : Turned once.looked waits.0 = of_turn once.looked waits.0 moment (All-head tells moment moments all) once.turns in
        let rest : Turned waits.0 k' = of_waits plan moments waits.0 k' (All-tail tells moment moments all) waits.2 in record {
          entries = first.entries ++ rest.entries;
          places = first.places ++ rest.places;
          makes = makes_then k waits.0 k' first.entries rest.entries first.places rest.places
              (makes_then k once.looked waits.0 [] first.entries [] first.places (makes_learnt k once.looked once.learnt) first.makes)
              rest.makes;
          of_turns = turns_then silent first.entries rest.entries first.of_turns rest.of_turns;
          owed = All-append IsOwed first.entries rest.entries first.owed rest.owed;
        }

    -- ## Requests

    pub record Did (k k' : Known) (asked : DecodedRequest) (heard : Option Reply) : Type 0 where
      pub entries : List Told
      pub places : List ℕ
      pub makes : Makes tells o k entries places k'
      pub of : AreOf silent k.caller asked heard entries
      pub found : StepsHadRoom o k'.seen (unowed_places places entries) (step_for k.caller asked ∷ [])

    of_served : (k k' : Known) (asked : DecodedRequest) (heard : Option Reply) → IsServed silent tells o k k' asked heard
        → Did k k' asked heard
    of_served k k' asked None wanted =
        let want = want_made o k k' wanted.moment asked wanted.wants in record {
          entries = made_of (wanted.moment, NoMemory k.caller) answers.Done ∷ [];
          places = length want.made.before ∷ [];
          makes = makes_one k k' wanted.moment (NoMemory k.caller) answers.Done wanted.told want.made want.made.caller;
          of = (wanted.moment, refl);
          found = (had_room o k k' wanted.moment (NoMemory k.caller) answers.Done want.made (step_for k.caller asked) want.room, tt);
        }
    of_served k k' (asks.Raise subtype) (Some reply) raised =
        let made : RaisedSo o k raised.moment subtype reply k' = raised.made in
        let step : Made o k raised.moment (Raised k.caller subtype) (answers.Reply reply) k' = made.made.made in record {
          entries = made_of (raised.moment, Raised k.caller subtype) (answers.Reply reply) ∷ [];
          places = length step.before ∷ [];
          makes = makes_one k k' raised.moment (Raised k.caller subtype) (answers.Reply reply) raised.told step step.caller;
          of = record { moment = raised.moment; code = made.code; is_code = made.is; is = refl };
          found = (
            had_room o k k' raised.moment (Raised k.caller subtype) (answers.Reply reply) step
                (Raised k.caller subtype) made.made.room,
            tt,
          );
        }
    of_served k k' (asks.Call asked) (Some reply) (inl at_once) =
        let made = at_once.made in
        let one : Told = made_of (at_once.moment, Call k.caller asked made.append) (answers.Reply reply) in record {
          entries = one ∷ [];
          places = length made.made.before ∷ [];
          makes = makes_one k k' at_once.moment (Call k.caller asked made.append)
              (answers.Reply reply) at_once.told made.made made.made.caller;
          of = inl (one, record { moment = at_once.moment; append = made.append; is = refl }, refl);
          found = (
            had_room o k k' at_once.moment (Call k.caller asked made.append) (answers.Reply reply) made.made
                (step_for k.caller (asks.Call asked)) made.room,
            tt,
          );
        }
    of_served k k' (asks.Call asked) (Some reply) (inr waited) =
        let made = waited.made in
        let ends = waited.ends in
        let last = ends.ends in
        let one : Told = made_of (waited.moment, Call k.caller asked made.append) (answers.Begun waited.plan) in
        let turns : Turned waited.begun ends.waited = of_waits waited.plan ends.turns waited.begun ends.waited ends.told ends.waits in
        let same : ends.waited.caller ≡ k.caller = turns.makes.caller ∙ made.made.caller in
        let close : Told = made_of (last.moment, EndStart k.caller waited.plan) (answers.Reply reply) in
        let end : Made o ends.waited last.moment (EndStart k.caller waited.plan) (answers.Reply reply) k' =
        subst (λ (c : ℕ). Made o ends.waited last.moment (EndStart c waited.plan) (answers.Reply reply) k') same last.made in record {
          entries = one ∷ turns.entries ++ close ∷ [];
          places = length made.made.before ∷ turns.places ++ length end.before ∷ [];
          makes = makes_then k waited.begun k' (one ∷ []) (turns.entries ++ close ∷ []) (length made.made.before ∷ []) (turns.places
              ++ length end.before ∷ [])
              (makes_one k waited.begun waited.moment (Call k.caller asked made.append)
              (answers.Begun waited.plan) waited.told made.made made.made.caller)
              (makes_then waited.begun ends.waited k' turns.entries (close ∷ []) turns.places (length end.before ∷ []) turns.makes
              (makes_one ends.waited k' last.moment (EndStart k.caller waited.plan) (answers.Reply reply) last.told end end.caller));
          of = inr (record {
            plan = waited.plan;
            call = one;
            calls = record { moment = waited.moment; append = made.append; is = refl };
            turns = turns.entries;
            of_turns = turns.of_turns;
            moment = last.moment;
            is = refl;
          });
          found = subst (λ (ps : List ℕ). StepsHadRoom o k'.seen (length made.made.before ∷ ps) (step_for k.caller (asks.Call asked) ∷ []))
              (sym (unowed_none (turns.places ++ length end.before ∷ []) (turns.entries ++ close ∷ [])
              (All-append IsOwed turns.entries (close ∷ []) turns.owed (All-cons IsOwed close [] refl (All-nil IsOwed))))) (
                had_behind o waited.begun.seen k'.seen (length made.made.before) (step_for k.caller (asks.Call asked))
                    (prefix_trans waited.begun.seen ends.waited.seen k'.seen turns.makes.adds.longer
                    (adds_made o ends.waited k' last.moment (EndStart k.caller waited.plan) (answers.Reply reply) end).longer)
                    (had_room o k waited.begun waited.moment (Call k.caller asked made.append) (answers.Begun waited.plan) made.made
                    (step_for k.caller (asks.Call asked)) made.room),
                tt,
              );
        }

    pub record DidAll (k k' : Known) (requests : List DecodedRequest) (heard : List (Option Reply)) : Type 0 where
      pub entries : List Told
      pub places : List ℕ
      pub makes : Makes tells o k entries places k'
      pub of : AreOfAll silent k.caller requests heard entries
      pub found : StepsHadRoom o k'.seen (unowed_places places entries) (map (step_for k.caller) requests)

    pub of_chain : (k k' : Known) (requests : List DecodedRequest) (heard : List (Option Reply))
        → Chain (IsServed silent tells o) k k' requests heard → DidAll k k' requests heard
    of_chain k k' [] [] same = record { entries = []; places = []; makes = makes_none k k' same; of = refl; found = tt }
    of_chain k k' (asked ∷ requests) (told ∷ heard) chain =
        let first : Did k chain.0 asked told = of_served k chain.0 asked told chain.1 in
        let rest : DidAll chain.0 k' requests heard = of_chain chain.0 k' requests heard chain.2 in record {
          entries = first.entries ++ rest.entries;
          places = first.places ++ rest.places;
          makes = makes_then k chain.0 k' first.entries rest.entries first.places rest.places first.makes rest.makes;
          of = (
            first.entries,
            rest.entries,
            refl,
            first.of,
            subst (λ (c : ℕ). AreOfAll silent c requests heard rest.entries)
                first.makes.caller rest.of,
          );
          found =
              let one : List ℕ = unowed_places first.places first.entries in
              let more : List ℕ = unowed_places rest.places rest.entries in
              let then : StepsHadRoom o k'.seen more (map (step_for k.caller) requests) =
              subst (λ (c : ℕ). StepsHadRoom o k'.seen more (map (step_for c) requests)) first.makes.caller rest.found in
              subst (λ (ps : List ℕ). StepsHadRoom o k'.seen ps (step_for k.caller asked ∷ map (step_for k.caller) requests))
              (sym (unowed_more first.places rest.places first.entries rest.entries first.makes.as_many))
              (found_then o k'.seen one more (step_for k.caller asked ∷ []) (map (step_for k.caller) requests)
              (found_behind o chain.0.seen k'.seen one (step_for k.caller asked ∷ []) rest.makes.adds.longer first.found) then);
        }
    of_chain k k' [] (told ∷ heard) chain = absurd chain
    of_chain k k' (asked ∷ requests) [] chain = absurd chain

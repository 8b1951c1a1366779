-- Controls that a pass takes one after another, and their lines.
use Rattle.std.proofs.Common.{◌≡◌, ◌≤◌, ◌∙◌, ◌+◌, ℕ, List, [], ◌∷◌, ◌++◌, length, Option, None, Some, true, inl, inr, refl, sym, ap, subst}
use Rattle.std.proofs.Common.{append_assoc, append-nil, cond, eq-eqb, length-append, arith}
use Rattle.std.specs.List.{AllZip}
use Rattle.std.specs.Io.KnownBytes.{Appends}
use Rattle.std.proofs.KnownBytes.{Appends-nil, Appends-trans}
use Rattle.std.proofs.lemmas.Grind.{flat_map-append}
use mathlib.Core.List.{IsPrefix}
use Rattle.scm_model.specs.declared.flat.Order.{Order}
use Rattle.scm_model.specs.declared.steps.Answer.TheVariants as answers
use Rattle.scm_model.specs.declared.steps.Step.TheVariants.{ControlTaken}
use Rattle.scm_model.specs.Entries.{Entry}
use Rattle.scm_model.specs.Rows.{service_of}
use Rattle.scm_text.specs.TextWithRoom.{TextWithRoom}
use Rattle.scm_rules.specs.Histories.{answer, state}
use Rattle.scm_rules.specs.Steps.{step_of}
use Rattle.scm_runs.proofs.Histories.{told}
use Rattle.book_rule.specs.declared.view.Opening.{Opening}
use Rattle.book_rule.proofs.Prefixes.{prefix_length, prefix_self, prefix_snoc, prefix_trans}
use Rattle.scm_book.specs.declared.fault.MakeFault.{MakeFault}
use Rattle.scm_book.specs.declared.fault.MakeFault.TheVariants as makes
use Rattle.scm_book.specs.Passes.{FindsFault, FindsNoMemory, FindsNoRoom, KeepsAll, Known, Learnt, Made, may_behind, room_behind}
use Rattle.scm_book.specs.declared.controlling.HandedOrder.{HandedOrder}
use Rattle.scm_book.specs.Reporting.{HandsOver, TakesOrder, name_in, waiting_behind, with_name_for}
use Rattle.child_runner.specs.declared.sending.ControlsSent.{ControlsSent}
use Rattle.child_runner.specs.declared.sending.ControlsSent.TheVariants as sent
use Rattle.child_runner.specs.Sending.{AreLines, AreRisingFrom, FeedCause, GoesOn, Handed, HasReason, IsBehindOwn, MayEnd, Sends, Takes}
use Rattle.child_runner.specs.Sending.{TookAt}
use Rattle.child_runner.specs.Sending.{WritesLine, control_lines, handed_of, order_line, unsent}

-- ## Lines

lines_append : (orders more : List Handed) → control_lines (orders ++ more) ≡ control_lines orders ++ control_lines more
lines_append orders more = flat_map-append order_line orders more

line_of_one : (order : Handed) → control_lines (order ∷ []) ≡ order_line order
line_of_one order = append-nil (order_line order)

whole_behind : (orders more : List Handed) (text : List ℕ) → text ≡ control_lines more → control_lines orders
    ++ text ≡ control_lines (orders ++ more)
whole_behind orders more text is = ap (λ t. control_lines orders ++ t) is ∙ sym (lines_append orders more)

-- lines behind those of controls that came before
lines_behind : (how : ControlsSent) (orders more : List Handed) (text : List ℕ) → AreLines how more text
    → AreLines how (orders ++ more) (control_lines orders ++ text)
lines_behind sent.WriteFault orders more text lines = record {
  whole = orders ++ lines.whole;
  last = lines.last;
  front = lines.front;
  orders_are = ap (λ cs. orders ++ cs) lines.orders_are ∙ sym (append_assoc orders lines.whole (lines.last ∷ []));
  begins = lines.begins;
  text_is = ap (λ t. control_lines orders ++ t) lines.text_is
      ∙ (sym (append_assoc (control_lines orders) (control_lines lines.whole) lines.front)
      ∙ ap (λ t. t ++ lines.front) (sym (lines_append orders lines.whole)));
}
lines_behind sent.OutOfMemory orders more text (inl is) = inl (whole_behind orders more text is)
lines_behind sent.OutOfMemory orders more text (inr lacks) = inr (record {
  whole = orders ++ lacks.whole;
  last = lacks.last;
  orders_are = ap (λ cs. orders ++ cs) lacks.orders_are ∙ sym (append_assoc orders lacks.whole (lacks.last ∷ []));
  text_is = whole_behind orders lacks.whole text lacks.text_is;
})
lines_behind sent.Over orders more text is = whole_behind orders more text is
lines_behind sent.Shut orders more text is = whole_behind orders more text is
lines_behind sent.Full orders more text is = whole_behind orders more text is

-- ## What a pass has in hand

pub keeps_self : (o : Opening) (k : Known) → KeepsAll o k k
keeps_self o k = record { processes = λ process phase has. has; plans = λ plan has. has }

pub keeps_then : (o : Opening) (k m k' : Known) → KeepsAll o k m → KeepsAll o m k' → KeepsAll o k k'
keeps_then o k m k' first then = record {
  processes = λ process phase has. then.processes process phase (first.processes process phase has);
  plans = λ plan has. then.plans plan (first.plans plan has);
}

zip_append : (R : ℕ → Handed → Type 0) (xs ys : List ℕ) (vs ws : List Handed) → AllZip R xs vs → AllZip R ys ws
    → AllZip R (xs ++ ys) (vs ++ ws)
zip_append R [] ys [] ws first then = then
zip_append R (x ∷ xs) ys (v ∷ vs) ws first then = (first.0, zip_append R xs ys vs ws first.1 then)
zip_append R [] ys (v ∷ vs) ws first then = absurd first
zip_append R (x ∷ xs) ys [] ws first then = absurd first

-- ## Places

rises_from : (least more : ℕ) (places : List ℕ) → least ≤ more → AreRisingFrom more places → AreRisingFrom least places
rises_from least more [] few rising = tt
rises_from least more (place ∷ places) few rising = (let from : more ≤ place = rising.0 in omega arith, rising.1)

-- ## Controls that are taken

module _ (tells : ℕ → Type 0) (o : Opening) (process : ℕ) where
  took_still : (log more : List Entry) (place : ℕ) (order : Handed) → TookAt tells o process log place order
      → TookAt tells o process (log ++ more) place order
  took_still log more place order took =
      let l = o.limits in
      let f = o.first in
      let e : Entry = (took.moment, ControlTaken process) in
      let whole : log ++ more ≡ took.front ++ e ∷ (took.rest ++ more) = ap (λ (es : List Entry). es ++ more) took.is
      ∙ append_assoc took.front (e ∷ took.rest) more in
      let first : answer l f log place ≡ Some (step_of l (state l f took.front) e.0 e.1).answer = (λ i. answer l f (took.is i) (took.at i))
      ∙ told l f took.front e took.rest in
      let then : answer l f (log ++ more) place ≡ Some (step_of l (state l f took.front) e.0 e.1).answer =
      (λ i. answer l f (whole i) (took.at i)) ∙ told l f took.front e (took.rest ++ more) in
      record {
        front = took.front;
        moment = took.moment;
        rest = took.rest ++ more;
        is = whole;
        at = took.at;
        told = took.told;
        answered =
            then ∙ (sym first ∙ took.answered);
        room = took.room;
        shared = took.shared;
        named = took.named;
      }

  all_still : (log more : List Entry) (places : List ℕ) (orders : List Handed) → AllZip (TookAt tells o process log) places orders
      → AllZip (TookAt tells o process (log ++ more)) places orders
  all_still log more [] [] all = tt
  all_still log more (place ∷ places) (order ∷ orders) all = (took_still log more place order all.0, all_still log more places orders all.1)
  all_still log more [] (order ∷ orders) all = absurd all
  all_still log more (place ∷ places) [] all = absurd all

  all_behind : (log longer : List Entry) (places : List ℕ) (orders : List Handed) → IsPrefix log longer
      → AllZip (TookAt tells o process log) places orders
      → AllZip (TookAt tells o process longer) places orders
  all_behind log longer places orders is all = subst (λ (es : List Entry). AllZip (TookAt tells o process es) places orders) is.1
      (all_still log is.0 places orders all)

  took_within : (log : List Entry) (place : ℕ) (order : Handed) → TookAt tells o process log place order → place + 1 ≤ length log
  took_within log place order took =
      let e : Entry = (took.moment, ControlTaken process) in
      let all : length log ≡ length (took.front ++ e ∷ took.rest) = ap length took.is in
      let parts : length (took.front ++ e ∷ took.rest) ≡ length took.front + length (e ∷ took.rest) =
      length-append took.front (e ∷ took.rest) in
      let at : place ≡ length took.front = took.at in omega arith

  -- places of what was seen before, and then places behind that
  rises_then : (log : List Entry) (least : ℕ) (places : List ℕ) (orders : List Handed) (more : List ℕ) → least ≤ length log
      → AllZip (TookAt tells o process log) places orders
      → AreRisingFrom least places → AreRisingFrom (length log) more → AreRisingFrom least (places ++ more)
  rises_then log least [] [] more few all first then = rises_from least (length log) more few then
  rises_then log least (place ∷ places) (order ∷ orders) more few all first then =
      (first.0, rises_then log (place + 1) places orders more (took_within log place order all.0) all.1 first.1 then)
  rises_then log least [] (order ∷ orders) more few all first then = absurd all
  rises_then log least (place ∷ places) [] more few all first then = absurd all

  pub takes_none : (k : Known) → Takes tells o process k [] k
  takes_none k = record {
    longer = prefix_self k.seen;
    legal = λ legal. legal;
    places = [];
    own = sym (append-nil k.own);
    rising = tt;
    took = tt;
    names = refl;
    caller = refl;
    claims = λ claims. claims;
    alone = λ alone. omega arith;
    same = record { table = refl; opening = refl; alone = refl };
  }

  pub takes_learnt : (k k' : Known) → Learnt o k k' → Takes tells o process k [] k'
  takes_learnt k k' learnt = record {
    longer = learnt.longer;
    legal = λ legal. learnt.legal;
    places = [];
    own = learnt.own ∙ sym (append-nil k.own);
    rising = tt;
    took = tt;
    names = learnt.names;
    caller = learnt.caller;
    claims = λ claims. learnt.claims;
    alone = λ alone. let is : length k'.seen ≡ length k.seen = ap length (learnt.alone alone) in omega arith;
    same = learnt.same;
  }

  -- the name that lies in the room, for a service that is to start
  name_for : (order : Order) (name : List ℕ) (room room' : TextWithRoom) → room' ≡ with_name_for order name room → order.code ≡ 0
      → room'.units ≡ name
  name_for order name room room' is start =
      ap (λ (t : TextWithRoom). t.units) is ∙ ap (λ b. cond b name room.units) (eq-eqb order.code 0 start)

  made_takes : (k k' : Known) (moment : ℕ) (room room' : TextWithRoom) (handed : HandedOrder) → tells moment
      → (made : Made o k moment (ControlTaken process) (answers.Control handed.order) k')
      → room_behind o made.before (ControlTaken process) ≡ true
      → HandsOver (state o.limits o.first made.before) process room room' handed
      → Takes tells o process k (handed_of handed.order handed.shared room'.units ∷ []) k'
  made_takes k k' moment room room' handed told made free hands = record {
    longer = subst (IsPrefix k.seen) (sym made.seen) (prefix_snoc k.seen made.before (moment, ControlTaken process) made.longer);
    legal = λ legal. made.legal;
    places = length made.before ∷ [];
    own = made.own;
    rising = (prefix_length k.seen made.before made.longer, tt);
    took = (
      record {
        front = made.before;
        moment = moment;
        rest = [];
        is = made.seen;
        at = refl;
        told = told;
        answered = made.answer;
        room = free;
        shared = hands.shared;
        named = name_for handed.order (name_in (service_of (state o.limits o.first made.before) handed.order.service)) room room'
            hands.name;
      },
      tt,
    );
    names = made.names ∙ append-nil k.names;
    caller = made.caller;
    claims = λ claims. made.claims;
    alone = λ alone.
        let all : length k'.seen ≡ length (made.before ++ (moment, ControlTaken process) ∷ []) = ap length made.seen in
        let parts : length (made.before ++ (moment, ControlTaken process) ∷ []) ≡ length made.before
        + 1 = length-append made.before ((moment, ControlTaken process) ∷ []) in
        let before : length made.before ≡ length k.seen = ap length (made.alone alone) in omega arith;
    same = made.same;
  }

  pub takes_one : (k k' : Known) (moment : ℕ) (room room' : TextWithRoom) (handed : HandedOrder) → tells moment
      → TakesOrder o k moment process room room' handed k'
      → Takes tells o process k (handed_of handed.order handed.shared room'.units ∷ []) k'
  takes_one k k' moment room room' handed told takes =
      made_takes k k' moment room room' handed told takes.so.made takes.so.room takes.hands

  takes_then : (k m k' : Known) (orders more : List Handed) → Takes tells o process k orders m → Takes tells o process m more k'
      → Takes tells o process k (orders ++ more) k'
  takes_then k m k' orders more first then = record {
    longer = prefix_trans k.seen m.seen k'.seen first.longer then.longer;
    legal = λ legal. then.legal (first.legal legal);
    places = first.places ++ then.places;
    own = then.own ∙ (ap (λ (own : List ℕ). own ++ then.places) first.own ∙ append_assoc k.own first.places then.places);
    rising = rises_then m.seen (length k.seen) first.places orders then.places (prefix_length k.seen m.seen first.longer) first.took
        first.rising then.rising;
    took = zip_append (TookAt tells o process k'.seen) first.places then.places orders more
        (all_behind m.seen k'.seen first.places orders then.longer first.took) then.took;
    names = then.names ∙ first.names;
    caller = then.caller ∙ first.caller;
    claims = λ claims. then.claims (first.claims claims);
    alone = λ alone.
        let one : length m.seen ≡ length k.seen + length orders = first.alone alone in
        let two : length k'.seen ≡ length m.seen + length more = then.alone (first.same.alone ∙ alone) in
        let both : length (orders ++ more) ≡ length orders + length more = length-append orders more in omega arith;
    same = record {
      table = then.same.table ∙ first.same.table;
      opening = then.same.opening ∙ first.same.opening;
      alone = then.same.alone ∙ first.same.alone;
    };
  }

  -- ## Turns, one behind another

  pub goes_none : (k : Known) (held : Option (List ℕ)) (faults : ℕ) → GoesOn tells o process k held held faults faults k
  goes_none k held faults = record { orders = []; takes = takes_none k; appended = Appends-nil held; kept = refl }

  pub goes_learnt : (k k' : Known) (held : Option (List ℕ)) (faults : ℕ) → Learnt o k k'
      → GoesOn tells o process k held held faults faults k'
  goes_learnt k k' held faults learnt = record { orders = []; takes = takes_learnt k k' learnt; appended = Appends-nil held; kept = refl }

  appends_lines : (held mid now : Option (List ℕ)) (orders : List Handed) (text : List ℕ) → Appends held mid (control_lines orders)
      → Appends mid now text
      → Appends held now (control_lines orders ++ text)
  appends_lines held mid now orders text first then = Appends-trans held mid now (control_lines orders) text first then

  module _ (k m k' : Known) (held mid now : Option (List ℕ)) (faults faults_mid faults_now : ℕ)
      (first : GoesOn tells o process k held mid faults faults_mid m) where
    pub goes_then : GoesOn tells o process m mid now faults_mid faults_now k' → GoesOn tells o process k held now faults faults_now k'
    goes_then then = record {
      orders = first.orders ++ then.orders;
      takes = takes_then k m k' first.orders then.orders first.takes then.takes;
      appended = subst (Appends held now) (sym (lines_append first.orders then.orders))
          (appends_lines held mid now first.orders (control_lines then.orders) first.appended then.appended);
      kept = then.kept ∙ first.kept;
    }

    pub sends_then : (may_ask : Type 0) (how : ControlsSent) → Sends tells o process may_ask m mid now faults_mid faults_now how k'
        → Sends tells o process may_ask k held now faults faults_now how k'
    sends_then may_ask how then = record {
      orders = first.orders ++ then.orders;
      takes = takes_then k m k' first.orders then.orders first.takes then.takes;
      text = control_lines first.orders ++ then.text;
      lines = lines_behind how first.orders then.orders then.text then.lines;
      appended = appends_lines held mid now first.orders then.text first.appended then.appended;
      reason = then.reason;
      cause = subst (λ (count : ℕ). FeedCause how count faults_now) first.kept then.cause;
    }

  -- ## One turn

  -- it ended, and wrote nothing
  module _ (may_ask : Type 0) (k k' : Known) (held : Option (List ℕ)) (faults : ℕ) where
    abbrev Ends : ControlsSent → Type 0
    Ends how = Sends tells o process may_ask k held held faults faults how k'

    ends_so : (how : ControlsSent) → Takes tells o process k [] k' → AreLines how [] [] → HasReason tells o process may_ask how k'
        → FeedCause how faults faults → Ends how
    ends_so how takes lines reason cause = record {
      orders = [];
      takes = takes;
      text = [];
      lines = lines;
      appended = Appends-nil held;
      reason = reason;
      cause = cause;
    }

    pub shut : k' ≡ k → may_ask → Ends sent.Shut
    shut same asks = ends_so sent.Shut (subst (λ (x : Known). Takes tells o process k [] x) (sym same) (takes_none k)) refl asks refl

    behind_own : Learnt o k k' → IsBehindOwn k'
    behind_own learnt = learnt.claims.within

    pub over : Learnt o k k' → waiting_behind o k'.seen process ≡ None → Ends sent.Over
    over learnt none = ends_so sent.Over (takes_learnt k k' learnt) refl (behind_own learnt, none) refl

    full : (moment : ℕ) → tells moment → FindsNoRoom o k (ControlTaken process) k'
        → may_behind o k'.seen moment (ControlTaken process) ≡ true → Ends sent.Full
    full moment told finds may =
        ends_so sent.Full (takes_learnt k k' finds.learnt) refl (
          behind_own finds.learnt,
          record { full = finds.full; moment = moment; told = told; may = may },
        ) refl

    -- there was no memory for a name
    pub no_name : k' ≡ k → Ends sent.OutOfMemory
    no_name same = ends_so sent.OutOfMemory (subst (λ (x : Known). Takes tells o process k [] x) (sym same) (takes_none k))
        (inl refl) tt refl

    no_memory : FindsNoMemory o k (ControlTaken process) k' → Ends sent.OutOfMemory
    no_memory finds = ends_so sent.OutOfMemory (takes_learnt k k' finds.learnt) (inl refl) tt refl

    -- there was no room or no memory for the step
    pub unmade : (moment : ℕ) → tells moment → (fault : MakeFault) → FindsFault o k (ControlTaken process) fault k'
        → may_behind o k'.seen moment (ControlTaken process) ≡ true → (how : ControlsSent) → how ≡ unsent fault → Ends how
    unmade moment told makes.Full finds may how is = subst Ends (sym is) (full moment told finds may)
    unmade moment told makes.OutOfMemory finds may how is = subst Ends (sym is) (no_memory finds)

  -- a control was taken, and this became of its line
  module _ (may_ask : Type 0) (k k' : Known) (order : Handed) (held held_now : Option (List ℕ)) (faults faults_now : ℕ)
      (takes : Takes tells o process k (order ∷ []) k') where
    pub line_ends : (end : Option ControlsSent) → WritesLine order held held_now faults faults_now end
        → MayEnd tells o process may_ask k held held_now faults faults_now end k'
    line_ends None line = record {
      orders = order ∷ [];
      takes = takes;
      appended = subst (Appends held held_now) (sym (line_of_one order)) line.0;
      kept = line.1;
    }
    line_ends (Some sent.WriteFault) line = record {
      orders = order ∷ [];
      takes = takes;
      text = line.0.front;
      lines = record { whole = []; last = order; front = line.0.front; orders_are = refl; begins = line.0.begins; text_is = refl };
      appended = line.0.held;
      reason = tt;
      cause = (line.1, line.2);
    }
    line_ends (Some sent.OutOfMemory) line = record {
      orders = order ∷ [];
      takes = takes;
      text = [];
      lines = inr (record { whole = []; last = order; orders_are = refl; text_is = refl });
      appended = subst (λ (now : Option (List ℕ)). Appends held now []) (sym line.0) (Appends-nil held);
      reason = tt;
      cause = line.1;
    }
    line_ends (Some sent.Over) line = absurd line
    line_ends (Some sent.Shut) line = absurd line
    line_ends (Some sent.Full) line = absurd line

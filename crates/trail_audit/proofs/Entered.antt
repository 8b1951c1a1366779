-- What the line of an entry comes to at a manager, test by test.
use Rattle.std.proofs.Common.{ℕ, ◌≡◌, ◌+◌, ◌^◌, ◌<◌, ◌&&◌, ◌∙◌, Bool, true, false, not, cond, List, Option, None, Some}
use Rattle.std.proofs.Common.{ap, arith, refl, subst, sym}
use Rattle.std.specs.Prelude.{IfOk, Result, Ok, Err, bytes_eq, is_none, is_some, nat_le}
use Rattle.scm_model.specs.declared.flat.Flat.{Flat}
use Rattle.scm_model.specs.declared.flat.Limits.{Limits}
use Rattle.scm_model.specs.declared.steps.Kept.{Kept}
use Rattle.scm_model.specs.declared.steps.Step.{Step}
use Rattle.scm_model.specs.declared.steps.Step.TheVariants.{Joined, Call, Tick, Raised}
use Rattle.scm_model.specs.Entries.{Entry, unkept, with_kept}
use Rattle.scm_model.specs.Texts.{text_of}
use Rattle.scm_text.specs.declared.OutOfMemory.{OutOfMemory}
use Rattle.scm_core.specs.Managed.{Managed, WasMadeFor}
use Rattle.scm_rules.specs.Owed.{owed}
use Rattle.scm_rules.specs.Steps.{keeps_right, may, may_come, step_of}
use Rattle.scm_rules.specs.Verdicts.{change_of}
use Rattle.scm_lines.specs.declared.line.Line.{Line}
use Rattle.scm_lines.specs.Entries.{line_of}
use Rattle.scm_lines.specs.Lines.{LeavesFound, line_at}
use Rattle.scm_lines.specs.Words.{◌>>=◌}
use Rattle.scm_replay.specs.Outcomes.{kept_as, step_in}
use Rattle.scm_replay.proofs.Admitted.{may_made, same_text}
use Rattle.trail_text.specs.Audits.{At, BeforeAnswer, entry_in, entry_next, step_next}
use Rattle.trail_text.specs.Histories.{answer_line}
use Rattle.trail_audit.specs.declared.entering.Entering.TheInside.{Inside}
use Rattle.trail_audit.specs.Entered.{IsCounted, IsReady, admitted, entry_at, if_may, if_said, made_next}

-- ## Whether an entry may come

come_kept : (l : Limits) (f : Flat) (moment : ℕ) (step : Step) (append : Kept)
    → may_come l f moment (with_kept step append) ≡ may_come l f moment step
come_kept l f moment (Call caller asked told) append = refl
come_kept l f moment step append = refl

none_by : {A B : Type 0} (b : Bool) (x : A) (f : A → Option B) → f x ≡ None → (cond b None (Some x) >>= f) ≡ None
none_by true x f none = refl
none_by false x f none = none

-- a step that may not come is no entry
pub may_not : (l : Limits) (f : Flat) (line : Line) → may_come l f line.moment line.step ≡ false → admitted l f line ≡ None
may_not l f line never =
    let append = kept_as (is_some (change_of l f line.step)) line.fails in
    let comes = come_kept l f line.moment line.step append ∙ never in
    none_by (line.fails && is_none (change_of l f line.step)) (line.moment, step_in l f line) (if_may l f)
    (ap (λ b. cond (b && keeps_right l f (step_in l f line)) (Some (line.moment, step_in l f line)) None) comes)

none_is_not : {A : Type 0} (o : Option A) → is_none o ≡ not (is_some o)
none_is_not None = refl
none_is_not (Some x) = refl

-- nor is one whose append failed without a change
pub fails_nothing : (l : Limits) (f : Flat) (line : Line) (changes : Bool) → changes ≡ is_some (change_of l f line.step)
    → line.fails ≡ true → changes ≡ false → admitted l f line ≡ None
fails_nothing l f line changes is fails none =
    let nothing = none_is_not (change_of l f line.step) ∙ ap not (sym is ∙ none) in
    ap (λ b. cond (b && is_none (change_of l f line.step)) None (Some (line.moment, step_in l f line)) >>= if_may l f) fails
    ∙ ap (λ b. cond b None (Some (line.moment, step_in l f line)) >>= if_may l f) nothing

-- each other one is one
pub is_admitted : (l : Limits) (f : Flat) (line : Line) → may_come l f line.moment line.step ≡ true
    → (line.fails && not (is_some (change_of l f line.step))) ≡ false → admitted l f line ≡ Some (line.moment, step_in l f line)
is_admitted l f line comes tells =
    ap (λ b. cond (line.fails && b) None (Some (line.moment, step_in l f line)) >>= if_may l f) (none_is_not (change_of l f line.step))
    ∙ ap (λ b. cond b None (Some (line.moment, step_in l f line)) >>= if_may l f) tells
    ∙ ap (λ b. cond b (Some (line.moment, step_in l f line)) None) (may_made l f line.moment line.step line.fails comes)

-- the step that a line says, as it is told what becomes of its change
step_told : (l : Limits) (f : Flat) (line : Line) (changes : Bool) (append : Kept) (step : Step)
    → changes ≡ is_some (change_of l f line.step) → append ≡ kept_as changes line.fails → step ≡ with_kept line.step append
    → step ≡ step_in l f line
step_told l f line changes append step changed kept is =
    is ∙ ap (with_kept line.step) (kept ∙ ap (λ b. kept_as b line.fails) changed)

pub admits : (l : Limits) (f : Flat) (line : Line) (changes : Bool) (append : Kept) (step : Step)
    → may_come l f line.moment line.step ≡ true → (line.fails && not changes) ≡ false
    → changes ≡ is_some (change_of l f line.step) → append ≡ kept_as changes line.fails → step ≡ with_kept line.step append
    → admitted l f line ≡ Some (line.moment, step)
admits l f line changes append step comes tells changed kept is =
    is_admitted l f line comes (ap (λ b. line.fails && not b) (sym changed) ∙ tells)
    ∙ ap (λ s. Some (line.moment, s)) (sym (step_told l f line changes append step changed kept is))

-- ## What a step needs

room_for : (room : Option Step) (step : Step) (append : Kept) → room ≡ Some (unkept step) → WasMadeFor room (with_kept step append)
room_for room (Call caller asked told) append is = is
room_for room (Joined principal) append is = is
room_for room Tick append is = is
room_for room (Raised caller subtype) append is = is
room_for room step append is = tt

-- the step of an entry is made at once where room was made for the line's
pub readied : (m : Managed) (line : Line) (changes : Bool) (append : Kept) (step : Step) → m.room ≡ Some (unkept line.step)
    → may_come m.limits m.flat line.moment line.step ≡ true
    → changes ≡ is_some (change_of m.limits m.flat line.step) → append ≡ kept_as changes line.fails → step ≡ with_kept line.step append
    → m.steps < 2 ^ 50 → m.text + text_of line.step < 2 ^ 63
    → IsReady m line.moment step
readied m line changes append step room comes changed kept is steps text =
    let same = ap text_of is ∙ same_text line.step append in
    record {
      may = ap (may m.limits m.flat line.moment) (step_told m.limits m.flat line changes append step changed kept is)
          ∙ may_made m.limits m.flat line.moment line.step line.fails comes;
      room = subst (WasMadeFor m.room) (sym is) (room_for m.room line.step append room);
      steps = steps;
      text = omega (arith, text, same);
    }

-- ## Whose line a text is

pub found_none : {A : Type 0} (found : Bool) (x : A) (o : Option A) → LeavesFound found x o → found ≡ false → o ≡ None
found_none true x o is fails = absurd cc
found_none false x o is fails = is

pub found_some : {A : Type 0} (found : Bool) (x : A) (o : Option A) → LeavesFound found x o → found ≡ true → o ≡ Some x
found_some true x o is holds = is
found_some false x o is holds = absurd cc

pub not_read : (l : Limits) (f : Flat) (text : List ℕ) → line_at text ≡ None → entry_at l f text ≡ None
not_read l f text none = ap (λ o. o >>= admitted l f >>= if_said text) none

pub not_entered : (l : Limits) (f : Flat) (text : List ℕ) (line : Line) → line_at text ≡ Some line → admitted l f line ≡ None
    → entry_at l f text ≡ None
not_entered l f text line is none = ap (λ o. o >>= admitted l f >>= if_said text) is ∙ ap (λ o. o >>= if_said text) none

found_if : {A : Type 0} (b : Bool) (x : A) (o : Option A) → o ≡ cond b (Some x) None → LeavesFound b x o
found_if true x o is = is
found_if false x o is = is

-- it is the entry's, if it is written so
pub found_as : (l : Limits) (f : Flat) (text : List ℕ) (line : Line) (e : Entry) (result : Result Bool OutOfMemory)
    → line_at text ≡ Some line → admitted l f line ≡ Some e → IfOk result (λ is. is ≡ bytes_eq (line_of e) text)
    → IfOk result (λ found. LeavesFound found e (entry_at l f text))
found_as l f text line e (Ok is) read fit written =
    found_if is e (entry_at l f text)
    (ap (λ o. o >>= admitted l f >>= if_said text) read ∙ ap (λ o. o >>= if_said text) fit
    ∙ ap (λ b. cond b (Some e) None) (sym written))
found_as l f text line e (Err why) read fit written = tt

-- ## Where it leads

by_tests : {A B : Type 0} (said comes fits : Bool) (e : A) (x : B) (f : A → Option A) (g : A → Option B)
    → f e ≡ cond said (Some e) None → g e ≡ cond fits (Some x) None
    → cond (said && comes && fits) (Some x) None ≡ (cond comes (Some e) None >>= f >>= g)
by_tests true true fits e x f g first second = sym (ap (λ o. o >>= g) first ∙ second)
by_tests true false fits e x f g first second = refl
by_tests false true fits e x f g first second = sym (ap (λ o. o >>= g) first)
by_tests false false fits e x f g first second = refl

by_entry : (l : Limits) (steps : ℕ) (f : Flat) (text : List ℕ) (o : Option Entry)
    → (o >>= entry_next l steps f text) ≡ (o >>= if_may l f >>= if_said text >>= made_next l steps f)
by_entry l steps f text None = refl
by_entry l steps f text (Some e) =
    by_tests (bytes_eq (line_of e) text) (may l f e.0 e.1) (nat_le (steps + 1 + owed (step_of l f e.0 e.1).flat) l.steps) e
    (BeforeAnswer (answer_line l f e) l (steps + 1) (step_of l f e.0 e.1).flat) (if_said text) (made_next l steps f) refl refl

by_line : (l : Limits) (steps : ℕ) (f : Flat) (text : List ℕ) (o : Option Line)
    → (o >>= entry_in l f >>= entry_next l steps f text) ≡ (o >>= admitted l f >>= if_said text >>= made_next l steps f)
by_line l steps f text None = refl
by_line l steps f text (Some line) = by_entry l steps f text (entry_in l f line)

-- a line leads on as its entry does
leads_by : (l : Limits) (steps : ℕ) (f : Flat) (text : List ℕ)
    → step_next l steps f text ≡ (entry_at l f text >>= made_next l steps f)
leads_by l steps f text = by_line l steps f text (line_at text)

pub leads_nowhere : (m p : Managed) (text : List ℕ) → m ≡ p → entry_at m.limits m.flat text ≡ None
    → step_next p.limits p.steps p.flat text ≡ None
leads_nowhere m p text same none =
    subst (λ (q : Managed). step_next q.limits q.steps q.flat text ≡ None) same
    (leads_by m.limits m.steps m.flat text ∙ ap (λ o. o >>= made_next m.limits m.steps m.flat) none)

-- where its entry leads over the room for its step, the line leads
leads_on : (m n p : Managed) (text : List ℕ) (e : Entry) (now : Option At) → m ≡ p → n.limits ≡ m.limits → n.steps ≡ m.steps
    → n.flat ≡ m.flat → entry_at m.limits m.flat text ≡ Some e → made_next n.limits n.steps n.flat e ≡ now
    → step_next p.limits p.steps p.flat text ≡ now
leads_on m n p text e now same limits steps flat found leads =
    subst (λ (q : Managed). step_next q.limits q.steps q.flat text ≡ now) same
    (leads_by m.limits m.steps m.flat text ∙ ap (λ o. o >>= made_next m.limits m.steps m.flat) found
    ∙ sym (ap (λ (l : Limits). made_next l n.steps n.flat e) limits ∙ ap (λ (k : ℕ). made_next m.limits k n.flat e) steps
    ∙ ap (λ (f : Flat). made_next m.limits m.steps f e) flat)
    ∙ leads)

pub leads_as : (m n p : Managed) (text : List ℕ) (e : Entry) (result : Result Bool OutOfMemory) (now : Bool → Option At) → m ≡ p
    → n.limits ≡ m.limits → n.steps ≡ m.steps → n.flat ≡ m.flat → entry_at m.limits m.flat text ≡ Some e
    → IfOk result (λ right. made_next n.limits n.steps n.flat e ≡ now right)
    → IfOk result (λ right. step_next p.limits p.steps p.flat text ≡ now right)
leads_as m n p text e (Ok right) now same limits steps flat found leads =
    leads_on m n p text e (now right) same limits steps flat found leads
leads_as m n p text e (Err why) now same limits steps flat found leads = tt

-- ## What the step leaves

-- what may be made of the view may be made of the manager inside
pub ready_inside : (inside : Inside) (p : Managed) (moment : ℕ) (step : Step) → inside.manager ≡ p → IsReady p moment step
    → IsReady inside.manager moment step
ready_inside inside p moment step same ready = subst (λ (m : Managed). IsReady m moment step) (sym same) ready

pub counted_on : (inside : Inside) (n : Managed) → IsCounted inside → n.limits ≡ inside.manager.limits
    → n.steps ≡ inside.manager.steps + 1 → IsCounted (record inside { manager = n; entries = inside.entries + 1 })
counted_on inside n counted limits steps = record {
  entries = ap (λ (k : ℕ). k + 1) counted.entries ∙ sym steps;
  most = counted.most ∙ ap (λ (l : Limits). l.steps) (sym limits);
  small = counted.small;
}

abbrev answered : Bool → (due : List ℕ) → Limits → (steps : ℕ) → Flat → Option At
answered right due l steps f = cond right (Some (BeforeAnswer due l steps f)) None

-- the step of an entry was made, its answer is due, and it was seen whether what is owed has room
pub made_so : (inside : Inside) (p n : Managed) (moment : ℕ) (step : Step) (due : List ℕ) (fits : Bool) → inside.manager ≡ p
    → IsCounted inside
    → due ≡ answer_line inside.manager.limits inside.manager.flat (moment, step)
    → n.flat ≡ (step_of inside.manager.limits inside.manager.flat moment step).flat
    → n.limits ≡ inside.manager.limits → n.steps ≡ inside.manager.steps + 1
    → fits ≡ nat_le (inside.entries + 1 + owed n.flat) inside.most
    → made_next p.limits p.steps p.flat (moment, step) ≡ cond fits (Some (BeforeAnswer due n.limits n.steps n.flat)) None
made_so inside p n moment step due fits same counted told flat limits steps is =
    let m = inside.manager in
    let right : fits ≡ nat_le (m.steps + 1 + owed (step_of m.limits m.flat moment step).flat) m.limits.steps =
    is ∙ ap (λ (k : ℕ). nat_le (k + 1 + owed n.flat) inside.most) counted.entries
    ∙ ap (λ (k : ℕ). nat_le (m.steps + 1 + owed n.flat) k) counted.most
    ∙ ap (λ (f : Flat). nat_le (m.steps + 1 + owed f) m.limits.steps) flat in
    subst (λ (q : Managed). made_next q.limits q.steps q.flat (moment, step) ≡ answered fits due n.limits n.steps n.flat) same
    (λ i. answered (sym right i) (sym told i) (sym limits i) (sym steps i) (sym flat i))

-- Histories of rolls, and what stands in a longer one.
use Rattle.std.proofs.Common.{◌≡◌, ◌≢◌, ℕ, ◌+◌, ◌<◌, ◌≤◌, eqb, Bool, true, false, ◌||◌, cond, List, [], ◌∷◌, ◌++◌, length, ◌⊎◌, inl, inr}
use Rattle.std.proofs.Common.{⊎_elim, refl, sym, ap, ◌∙◌, subst, arith, append_assoc, append-nil, length-append, map, ne_eqb, eqb-true}
use Rattle.std.proofs.Common.{eq-eqb, Option, None, Some, Result, Ok, Err, OnOk}
use Rattle.std.specs.List.{last_or}
use Rattle.std.proofs.lemmas.List.{map-append}
use mathlib.Core.List.{IsPrefix}
use Rattle.scm_model.specs.Entries.{Entry}
use Rattle.scm_model.specs.declared.steps.Name.{Name}
use Rattle.scm_model.specs.declared.steps.Name.TheVariants.{Caller}
use Rattle.scm_model.specs.declared.steps.Step.{Step}
use Rattle.scm_model.specs.declared.steps.Step.TheVariants.{Joined, Gone, NoMemory}
use Rattle.book_rule.specs.Ways.{Has}
use Rattle.book_rule.proofs.Places.{snoc_cases}
use Rattle.book_rule_tests.specs.declared.roll.Line.{Line}
use Rattle.book_rule_tests.specs.Rolls.{step_of_what, entry_of, joins, callers_in, caller_told_of, entries_naming, is_going, has_gone, May}
use Rattle.book_rule_tests.specs.Rolls.{IsLegal, names_in, made_by, MOST, Rolled, EndsAt, Adds, Forgets}

pub callers_append : (xs ys : List Entry) → callers_in (xs ++ ys) ≡ callers_in xs + callers_in ys
callers_append [] ys = omega arith
callers_append (x ∷ xs) ys = let r = callers_append xs ys in omega arith

-- a roll of one line more
pub callers_line : (lines : List Line) (line : Line) → callers_in (map entry_of (lines ++ line ∷ [])) ≡ callers_in (map entry_of lines)
    + joins (step_of_what line.what)
callers_line lines line =
    let more = ap callers_in (map-append entry_of lines (line ∷ [])) in
    let r = callers_append (map entry_of lines) (entry_of line ∷ []) in omega arith

-- a longer history has as many callers at least
pub callers_front : (log front rest : List Entry) → log ≡ front ++ rest → callers_in front ≤ callers_in log
callers_front log front rest is = let r = ap callers_in is in let s = callers_append front rest in omega arith

-- whom an entry names has joined before
pub named_below : (front : List Entry) (step : Step) → May front step → caller_told_of step ≤ callers_in front
named_below front (NoMemory c) may = may.joined
named_below front (Gone c) may = may.joined
named_below front step may = omega arith

pub named_in : (step : Step) (c : ℕ) → c ≢ 0 → caller_told_of step ≡ c → Has (Caller c) (names_in step)
named_in (NoMemory d) c some_one is = inl (ap Caller (sym is))
named_in (Gone d) c some_one is = inl (ap Caller (sym is))
named_in step c some_one is = absurd (some_one (sym is))

pub named_is : (front : List Entry) (step : Step) (n : Name) → May front step → Has n (names_in step) → (c : ℕ) × (n ≡ Caller c)
    × (caller_told_of step ≡ c)
named_is front (NoMemory d) n may (inl is) = (d, is, refl)
named_is front (NoMemory d) n may (inr bad) = absurd bad
named_is front (Gone d) n may (inl is) = (d, is, refl)
named_is front (Gone d) n may (inr bad) = absurd bad
named_is front step n may has = absurd has

-- whom an entry makes has the number behind all before
pub made_is : (front : List Entry) (step : Step) (n : Name) → Has n (made_by front step) → (n ≡ Caller (callers_in front + 1))
    × (joins step ≡ 1)
made_is front (Joined p) n (inl is) = (is, refl)
made_is front (Joined p) n (inr bad) = absurd bad
made_is front step n has = absurd has

pick : (b : Bool) (x : Entry) (xs ys : List Entry) → cond b (x ∷ xs) xs ++ ys ≡ cond b (x ∷ (xs ++ ys)) (xs ++ ys)
pick true x xs ys = refl
pick false x xs ys = refl

pub of_append : (c : ℕ) (xs ys : List Entry) → entries_naming c (xs ++ ys) ≡ entries_naming c xs ++ entries_naming c ys
of_append c [] ys = refl
of_append c (x ∷ xs) ys = ap (λ (l : List Entry). cond (eqb (caller_told_of x.1) c) (x ∷ l) l) (of_append c xs ys)
    ∙ sym (pick (eqb (caller_told_of x.1) c) x (entries_naming c xs) (entries_naming c ys))

-- where no entry names a caller, it has none
pub of_quiet : (c : ℕ) (log : List Entry) → ((front : List Entry) (e : Entry) (rest : List Entry) → log ≡ front ++ e ∷ rest
    → caller_told_of e.1 ≢ c) → entries_naming c log ≡ []
of_quiet c [] none = refl
of_quiet c (e ∷ es) none =
    let not : eqb (caller_told_of e.1) c ≡ false = ne_eqb (caller_told_of e.1) c (none [] e es refl) in
    ap (λ (b : Bool). cond b (e ∷ entries_naming c es) (entries_naming c es)) not
    ∙ of_quiet c es (λ front d rest is. none (e ∷ front) d rest (ap (λ (l : List Entry). e ∷ l) is))

pub of_last : (c : ℕ) (e : Entry) → caller_told_of e.1 ≡ c → entries_naming c (e ∷ []) ≡ e ∷ []
of_last c e is = ap (λ (b : Bool). cond b (e ∷ []) []) (eq-eqb (caller_told_of e.1) c is)

or_last : (a b : Bool) → (a || (b || false)) ≡ (a || b)
or_last true b = refl
or_last false true = refl
or_last false false = refl

or_more : (a b c : Bool) → (a || (b || c)) ≡ ((a || b) || c)
or_more true b c = refl
or_more false b c = refl

pub gone_append : (c : ℕ) (xs ys : List Entry) → has_gone c (xs ++ ys) ≡ (has_gone c xs || has_gone c ys)
gone_append c [] ys = refl
gone_append c (x ∷ xs) ys = ap (λ (b : Bool). is_going c x.1 || b) (gone_append c xs ys)
    ∙ or_more (is_going c x.1) (has_gone c xs) (has_gone c ys)

pub gone_snoc : (c : ℕ) (log : List Entry) (e : Entry) → has_gone c (log ++ e ∷ []) ≡ (has_gone c log || is_going c e.1)
gone_snoc c log e = gone_append c log (e ∷ []) ∙ or_last (has_gone c log) (is_going c e.1)

-- behind its going nobody lives
pub gone_stays : (c : ℕ) (xs ys : List Entry) → has_gone c xs ≡ true → has_gone c (xs ++ ys) ≡ true
gone_stays c xs ys is = gone_append c xs ys ∙ ap (λ (b : Bool). b || has_gone c ys) is

leaves_named : (c : ℕ) (step : Step) → is_going c step ≡ true → caller_told_of step ≡ c
leaves_named c (Gone d) is = eqb-true d c is
leaves_named c step is = absurd cc

pub or_cases : (a b : Bool) → (a || b) ≡ true → (a ≡ true) ⊎ (b ≡ true)
or_cases true b is = inl refl
or_cases false b is = inr is

-- who has gone had joined
gone_joined_at : (c : ℕ) (log : List Entry) → IsLegal log → (front rest : List Entry) → log ≡ front ++ rest → has_gone c rest ≡ true
    → c ≤ callers_in log
gone_joined_at c log legal front [] is gone = absurd cc
gone_joined_at c log legal front (e ∷ es) is gone =
    ⊎_elim
    (λ (left : is_going c e.1 ≡ true).
    let named = leaves_named c e.1 left in
    let le = named_below front e.1 (legal.each front e es is) in
    let more = callers_front log front (e ∷ es) is in omega arith)
    (λ (later : has_gone c es ≡ true). gone_joined_at c log legal (front ++ e ∷ []) es (is ∙ sym (append_assoc front (e ∷ []) es)) later)
    (or_cases (is_going c e.1) (has_gone c es) gone)

pub gone_joined : (c : ℕ) (log : List Entry) → IsLegal log → has_gone c log ≡ true → c ≤ callers_in log
gone_joined c log legal gone = gone_joined_at c log legal [] log refl gone

-- who hasn't joined hasn't gone
pub not_gone : (c : ℕ) (log : List Entry) → IsLegal log → callers_in log < c → (b : Bool) → has_gone c log ≡ b → b ≡ false
not_gone c log legal late true is = absurd (let le = gone_joined c log legal is in omega arith)
not_gone c log legal late false is = refl

-- who hasn't joined has no entries
pub of_late : (c : ℕ) (log : List Entry) → IsLegal log → callers_in log < c → entries_naming c log ≡ []
of_late c log legal late = of_quiet c log (λ front e rest is same. let le = named_below front e.1 (legal.each front e rest is) in
    let more = callers_front log front (e ∷ rest) is in absurd (omega arith))

legal_snoc_at : (log : List Entry) (e : Entry) → IsLegal log → May log e.1 → (front : List Entry) (d : Entry) (rest : List Entry) → log
    ++ e ∷ [] ≡ front ++ d ∷ rest → May front d.1
legal_snoc_at log e legal may front d rest is =
    ⊎_elim (λ (t : (log ≡ front) × (e ≡ d)). subst (λ (x : List Entry × Entry). May x.0 x.1.1) (λ i. (t.0 i, t.1 i)) may)
    (λ (t : (more : List Entry) × (log ≡ front ++ d ∷ more)). legal.each front d t.0 t.1)
    (snoc_cases log front e d rest is)

pub legal_snoc : (log : List Entry) (e : Entry) → IsLegal log → May log e.1 → length log < MOST → IsLegal (log ++ e ∷ [])
legal_snoc log e legal may room = record { each = legal_snoc_at log e legal may; short = let l = length-append log (e ∷ []) in omega arith }

-- whoever an entry of a legal history names lives there, or is nobody
lives_there : (front : List Entry) (step : Step) (c : ℕ) → c ≢ 0 → May front step → caller_told_of step ≡ c → has_gone c front ≡ false
lives_there front (NoMemory d) c some_one may is = subst (λ (x : ℕ). has_gone x front ≡ false) is may.stays
lives_there front (Gone d) c some_one may is = subst (λ (x : ℕ). has_gone x front ≡ false) is may.stays
lives_there front step c some_one may is = absurd (some_one (sym is))

names_none : (c : ℕ) (log front : List Entry) (e : Entry) (rest log' : List Entry) → c ≢ 0 → IsLegal log' → has_gone c log ≡ true
    → log' ≡ log ++ (front ++ e ∷ rest) → caller_told_of e.1 ≡ c → ⊥
names_none c log front e rest log' some_one legal gone is same =
    let may = legal.each (log ++ front) e rest (is ∙ sym (append_assoc log front (e ∷ rest))) in
    let lives = lives_there (log ++ front) e.1 c some_one may same in
    let left = gone_stays c log front gone in cc

-- a caller that has gone is named no more
pub of_gone : (c : ℕ) (log log' : List Entry) → c ≢ 0 → IsLegal log' → has_gone c log ≡ true → IsPrefix log log'
    → entries_naming c log' ≡ entries_naming c log
of_gone c log log' some_one legal gone p =
    let none : entries_naming c p.0 ≡ [] = of_quiet c p.0 (λ front e rest is same. names_none c log front e rest log' some_one legal gone
    (sym p.1 ∙ ap (λ (l : List Entry). log ++ l) is) same) in
    ap (entries_naming c) (sym p.1) ∙ (of_append c log p.0 ∙ (ap (λ (l : List Entry). entries_naming c log ++ l) none
    ∙ append-nil (entries_naming c log)))

joins_few : (step : Step) → joins step ≤ 1
joins_few (Joined p) = omega arith
joins_few step = omega arith

-- ## Rolls that forget

last_snoc : (o : Option Entry) (es : List Entry) (e : Entry) → last_or o (es ++ e ∷ []) ≡ Some e
last_snoc o [] e = refl
last_snoc o (x ∷ xs) e = last_snoc (Some x) xs e

pub ends_more : (log : List Entry) (r r' : Rolled) (e : Entry) → EndsAt log r → Adds r e r' → EndsAt (log ++ e ∷ []) r'
ends_more log r r' e ends adds = record {
  front = ends.front ++ adds.front;
  is = ap (λ l. l ++ e ∷ []) ends.is ∙ append_assoc ends.front r.held (e ∷ []) ∙ ap (λ l. ends.front ++ l) adds.is
      ∙ sym (append_assoc ends.front adds.front r'.held);
  past = let p = adds.past in let q = ends.past in omega (arith, p, q, length-append ends.front adds.front);
  callers = let c = adds.callers in let d = ends.callers in let m = callers_append log (e ∷ []) in omega (arith, c, d, m);
}

pub ends_still : (log : List Entry) (r r' : Rolled) → EndsAt log r → Forgets r r' → EndsAt log r'
ends_still log r r' ends forgets = record {
  front = ends.front ++ forgets.front;
  is = ends.is ∙ ap (λ l. ends.front ++ l) forgets.is ∙ sym (append_assoc ends.front forgets.front r'.held);
  past = let p = forgets.past in let q = ends.past in omega (arith, p, q, length-append ends.front forgets.front);
  callers = forgets.callers ∙ ends.callers;
}

pub ends_short : (log : List Entry) (r : Rolled) → EndsAt log r → r.past + length r.held < MOST → length log < MOST
ends_short log r ends few =
    let l = ap (λ (l : List Entry). length l) ends.is in
    let p = ends.past in
    omega (arith, l, p, few, length-append ends.front r.held)

pub forgets_none : (old new : Rolled) → new ≡ old → Forgets old new
forgets_none old new is = record {
  front = [];
  is = ap (λ (r : Rolled). r.held) (sym is);
  past = let p = ap (λ (r : Rolled). r.past) is in omega (arith, p);
  callers = ap (λ (r : Rolled). r.callers) is;
}

pub adds_after : (old mid new : Rolled) (e : Entry) → Forgets old mid → new.past ≡ mid.past → new.held ≡ mid.held ++ e ∷ []
    → new.callers ≡ mid.callers + joins e.1 → Adds old e new
adds_after old mid new e forgets past held callers = record {
  front = forgets.front;
  is = ap (λ l. l ++ e ∷ []) forgets.is ∙ append_assoc forgets.front mid.held (e ∷ []) ∙ ap (λ l. forgets.front ++ l) (sym held);
  past = past ∙ forgets.past;
  callers = let f = forgets.callers in omega (arith, callers, f);
  last = ap (λ (es : List Entry). last_or None es) held ∙ last_snoc None mid.held e;
}

pub ok_adds : {T E : Type 0} (r : Result T E) (old mid new : Rolled) (e : Entry) → Forgets old mid → OnOk r (new.past ≡ mid.past)
    → OnOk r (new.held ≡ mid.held ++ e ∷ []) → OnOk r (new.callers ≡ mid.callers + joins e.1) → OnOk r (Adds old e new)
ok_adds (Ok x) old mid new e forgets past held callers = adds_after old mid new e forgets past held callers
ok_adds (Err x) old mid new e forgets past held callers = tt

-- what a roll keeps beside its lines
pub line_kept : (lines lines' : List Line) (line : Line) (past callers n : ℕ) → lines' ≡ lines ++ line ∷ []
    → callers ≤ past + length lines → past + length lines < MOST → n ≡ joins (step_of_what line.what)
    → (callers + n ≤ past + length lines') × (past + length lines' ≤ MOST)
line_kept lines lines' line past callers n is few room made =
    let longer = ap length is ∙ length-append lines (line ∷ []) in
    let one = joins_few (step_of_what line.what) in (omega arith, omega arith)

-- The parts of a history's text.
use Rattle.std.proofs.Common.{◌≡◌, ℕ, ◌+◌, ◌<◌, ◌≤◌, ◌^◌, List, [], ◌∷◌, ◌++◌, length, map, refl, sym, ap, subst, arith, append_assoc}
use Rattle.std.proofs.Common.{append-nil}
use Rattle.std.specs.Prelude.{IsTrue, Option, Some}
use Rattle.std.specs.Io.KnownBytes.{Appends}
use Rattle.std.proofs.lemmas.Grind.{flat_map-append}
use Rattle.outside.specs.Written.{AppendsFront}
use Rattle.outside.proofs.Sending.{Sent, sent_none, sent_more, sent_failed, sent_all}
use Rattle.scm_model.specs.declared.flat.Flat.{Flat}
use Rattle.scm_model.specs.declared.flat.Limits.{Limits}
use Rattle.scm_model.specs.declared.steps.Step.{Step}
use Rattle.scm_model.specs.declared.steps.Step.TheVariants.{Joined, Call, Raised, Tick}
use Rattle.scm_model.specs.Entries.{Entry, unkept}
use Rattle.scm_rules.specs.Histories.{Legal}
use Rattle.scm_rules.specs.Runs.{IsLegal}
use Rattle.scm_rules.specs.Steps.{may, step_of}
use Rattle.scm_core.specs.Managed.{Managed, WasMadeFor}
use Rattle.scm_lines.specs.Entries.{line_of}
use Rattle.opening_lines.specs.declared.opening.Opening.{Opening}
use Rattle.opening_lines.specs.Heads.{config_line, group_line, head_lines, limits_line, moment_line}
use Rattle.trail_text.specs.Histories.{AreAuditable, answer_line, ended, entry_lines, first_of, told}
use Rattle.trail_export.specs.Exports.{HasStepped, entry_text}

both_ended : (lines more : List (List ℕ)) → ended (lines ++ more) ≡ ended lines ++ ended more
both_ended lines more = flat_map-append (λ line. line ++ 10 ∷ []) lines more

-- the head, then the entries
pub told_is : (o : Opening) (h : List Entry)
    → told o h ≡ ended (head_lines o) ++ ended (entry_lines o.limits (first_of o) h)
told_is o h = both_ended (head_lines o) (entry_lines o.limits (first_of o) h)

-- ## The head

abbrev pub limits_text : Opening → List ℕ
limits_text o = limits_line o.limits ++ 10 ∷ []

abbrev pub moment_text : Opening → List ℕ
moment_text o = moment_line o.moment ++ 10 ∷ []

abbrev pub groups_text : Opening → List ℕ
groups_text o = ended (map group_line o.groups)

abbrev pub configs_text : Opening → List ℕ
configs_text o = ended (map config_line o.configs)

abbrev pub head_text : Opening → List ℕ
head_text o = ended (head_lines o)

head_is : (o : Opening) → head_text o ≡ limits_text o ++ (moment_text o ++ (groups_text o ++ configs_text o))
head_is o = ap (λ rest. limits_text o ++ (moment_text o ++ rest)) (both_ended (map group_line o.groups) (map config_line o.configs))

-- a front of the limits' line was written, or all of it
pub limits_failed : (o : Opening) (old one : Option (List ℕ)) → AppendsFront old one (limits_text o) → AppendsFront old one (head_text o)
limits_failed o old one a = sent_failed old old one (head_text o) (head_text o) (limits_text o)
    (moment_text o ++ (groups_text o ++ configs_text o)) (sent_none old (head_text o)) (head_is o) a

limits_sent : (o : Opening) (old one : Option (List ℕ)) → Appends old one (limits_text o)
    → Sent old one (head_text o) (moment_text o ++ (groups_text o ++ configs_text o))
limits_sent o old one a = sent_more old old one (head_text o) (head_text o) (limits_text o)
    (moment_text o ++ (groups_text o ++ configs_text o)) (sent_none old (head_text o)) (head_is o) a

-- and of the moment's
pub moment_failed : (o : Opening) (old one two : Option (List ℕ)) → Appends old one (limits_text o)
    → AppendsFront one two (moment_text o) → AppendsFront old two (head_text o)
moment_failed o old one two first a = sent_failed old one two (head_text o) (moment_text o ++ (groups_text o ++ configs_text o))
    (moment_text o) (groups_text o ++ configs_text o) (limits_sent o old one first) refl a

moment_sent : (o : Opening) (old one two : Option (List ℕ)) → Appends old one (limits_text o) → Appends one two (moment_text o)
    → Sent old two (head_text o) (groups_text o ++ configs_text o)
moment_sent o old one two first a = sent_more old one two (head_text o) (moment_text o ++ (groups_text o ++ configs_text o))
    (moment_text o) (groups_text o ++ configs_text o) (limits_sent o old one first) refl a

-- and of the groups'
pub groups_failed : (o : Opening) (old one two three : Option (List ℕ)) → Appends old one (limits_text o)
    → Appends one two (moment_text o) → AppendsFront two three (groups_text o) → AppendsFront old three (head_text o)
groups_failed o old one two three first second a = sent_failed old two three (head_text o) (groups_text o ++ configs_text o)
    (groups_text o) (configs_text o) (moment_sent o old one two first second) refl a

pub groups_sent : (o : Opening) (old one two three : Option (List ℕ)) → Appends old one (limits_text o)
    → Appends one two (moment_text o) → Appends two three (groups_text o) → Sent old three (head_text o) (configs_text o)
groups_sent o old one two three first second a = sent_more old two three (head_text o) (groups_text o ++ configs_text o)
    (groups_text o) (configs_text o) (moment_sent o old one two first second) refl a

-- ## The entries

-- the room that was made is the step's
pub prepared_for : (room : Option Step) (step : Step) → room ≡ Some (unkept step) → WasMadeFor room step
prepared_for room (Call caller asked append) is = is
prepared_for room (Joined principal) is = is
prepared_for room Tick is = is
prepared_for room (Raised caller subtype) is = is
prepared_for room step is = tt

pub legal_made : (l : Limits) (f : Flat) (h : List Entry) → Legal l f h → IsLegal l f h
unfolding Legal
legal_made l f h legal = legal.made

pub legal_few : (l : Limits) (f : Flat) (h : List Entry) → AreAuditable l → Legal l f h → length h ≤ 2 ^ 24
unfolding Legal
legal_few l f h small legal = omega (arith, legal.fits h [] (sym (append-nil h)), small.steps)

two_ended : (one other : List ℕ) (lines : List (List ℕ))
    → ended (one ∷ other ∷ lines) ≡ ((one ++ 10 ∷ []) ++ (other ++ 10 ∷ [])) ++ ended lines
two_ended one other lines = sym (append_assoc (one ++ 10 ∷ []) (other ++ 10 ∷ []) (ended lines))

-- the lines of an entry, then those of the others
entry_and : (l : Limits) (f : Flat) (e : Entry) (es : List Entry)
    → ended (entry_lines l f (e ∷ es)) ≡ entry_text l f e ++ ended (entry_lines l (step_of l f e.0 e.1).flat es)
entry_and l f e es = two_ended (line_of e) (answer_line l f e) (entry_lines l (step_of l f e.0 e.1).flat es)

-- where the writing of entries stands: a manager that can make those that are left, and what was written before them
pub record IsUnderWay (whole : List ℕ) (old now : Option (List ℕ)) (m : Managed) (left : List Entry) : Type 0 where
  pub sent : Sent old now whole (ended (entry_lines m.limits m.flat left))
  pub legal : IsLegal m.limits m.flat left
  pub steps : m.steps + length left ≤ 2 ^ 50

pub under_way : (held : Option (List ℕ)) (m : Managed) (h left : List Entry) → left ≡ h → IsLegal m.limits m.flat h
    → m.steps + length h ≤ 2 ^ 50 → IsUnderWay (ended (entry_lines m.limits m.flat h)) held held m left
under_way held m h left is legal steps =
    subst (λ es. IsUnderWay (ended (entry_lines m.limits m.flat h)) held held m es) (sym is)
    (record { sent = sent_none held (ended (entry_lines m.limits m.flat h)); legal = legal; steps = steps })

-- there is no memory for the next one
pub way_ends : (whole : List ℕ) (old now : Option (List ℕ)) (m : Managed) (left : List Entry) → IsUnderWay whole old now m left
    → AppendsFront old now whole
way_ends whole old now m left way = record {
  front = way.sent.front;
  begins = (ended (entry_lines m.limits m.flat left), way.sent.split);
  held = way.sent.held;
}

pub all_entries_sent : (whole : List ℕ) (old now : Option (List ℕ)) (m : Managed) (left : List Entry) → left ≡ []
    → IsUnderWay whole old now m left → Appends old now whole
all_entries_sent whole old now m left none way = sent_all old now whole (ended (entry_lines m.limits m.flat left)) way.sent
    (ap (λ es. length (ended (entry_lines m.limits m.flat es))) none)

module _ (whole : List ℕ) (old mid : Option (List ℕ)) (m : Managed) (left : List Entry) (e : Entry) (es : List Entry) (is : left ≡ e ∷ es)
    (way : IsUnderWay whole old mid m left) where
  before : IsUnderWay whole old mid m (e ∷ es)
  before = subst (IsUnderWay whole old mid m) is way

  pub may_next : IsTrue (may m.limits m.flat e.0 e.1)
  may_next = before.legal.0

  pub can_count : m.steps < 2 ^ 50
  can_count = omega (arith, before.steps)

  -- a front of the lines of the next entry was written, or all of them
  pub entry_failed : (new : Option (List ℕ)) → AppendsFront mid new (entry_text m.limits m.flat e) → AppendsFront old new whole
  entry_failed new a = sent_failed old mid new whole (ended (entry_lines m.limits m.flat (e ∷ es))) (entry_text m.limits m.flat e)
      (ended (entry_lines m.limits (step_of m.limits m.flat e.0 e.1).flat es)) before.sent (entry_and m.limits m.flat e es) a

  pub entry_sent : (new : Option (List ℕ)) (n : Managed) → HasStepped m e n → Appends mid new (entry_text m.limits m.flat e)
      → IsUnderWay whole old new n es
  entry_sent new n stepped a =
      let f = (step_of m.limits m.flat e.0 e.1).flat in
      let sent : Sent old new whole (ended (entry_lines m.limits f es)) =
      sent_more old mid new whole (ended (entry_lines m.limits m.flat (e ∷ es))) (entry_text m.limits m.flat e)
      (ended (entry_lines m.limits f es)) before.sent (entry_and m.limits m.flat e es) a in
      record {
        sent =
            subst (λ (l : Limits). Sent old new whole (ended (entry_lines l n.flat es))) (sym stepped.limits)
            (subst (λ (g : Flat). Sent old new whole (ended (entry_lines m.limits g es))) (sym stepped.flat) sent);
        legal =
            subst (λ (l : Limits). IsLegal l n.flat es) (sym stepped.limits)
            (subst (λ (g : Flat). IsLegal m.limits g es) (sym stepped.flat) before.legal.1);
        steps = omega (arith, before.steps, stepped.steps);
      }

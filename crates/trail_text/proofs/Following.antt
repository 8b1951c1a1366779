-- The lines that may follow where some lead, and that they lead on.
use Rattle.std.proofs.Common.{ℕ, ◌≡◌, ◌+◌, ◌&&◌, Bool, true, false, List, [], ◌∷◌, ◌++◌, length, map, Option, Some, None}
use Rattle.std.proofs.Common.{refl, sym, ap, ◌∙◌, subst, arith, append-nil, append_assoc, length-append}
use Rattle.std.specs.Prelude.{bytes_eq, nat_le, option_map}
use Rattle.std.specs.List.{AllByRecursion}
use Rattle.std.specs.Option.{option_or}
use Rattle.std.proofs.lemmas.Bool.{le-leb}
use Rattle.scm_model.specs.declared.flat.Config.{Config}
use Rattle.scm_model.specs.declared.flat.Flat.{Flat}
use Rattle.scm_model.specs.declared.flat.Limits.{Limits}
use Rattle.scm_model.specs.Entries.{Entry}
use Rattle.scm_rules.specs.Opening.{CanOpen}
use Rattle.scm_rules.specs.Steps.{step_of}
use Rattle.scm_lines.specs.declared.line.Line.{Line}
use Rattle.scm_lines.specs.Entries.{line_of, said}
use Rattle.scm_lines.specs.Lines.{line_at}
use Rattle.scm_lines.specs.Words.{◌>>=◌}
use Rattle.opening_lines.specs.declared.opening.Opening.{Opening}
use Rattle.opening_lines.specs.Heads.{config_at, config_line, group_at, group_line, head_lines, limits_at, limits_line, moment_at}
use Rattle.opening_lines.specs.Heads.{moment_line}
use Rattle.trail_text.specs.Histories.{AreAuditable, IsSaid, IsStart, answer_line, entry_lines, first_of}
use Rattle.trail_text.specs.Audits.{At, BeforeAnswer, BeforeLimits, BeforeMoment, InConfigs, InEntries, InGroups, are_small}
use Rattle.trail_text.specs.Audits.{can_add, config_next, entries_at, from_moment, if_added, if_small, next}
use Rattle.trail_text.specs.Audits.{reached_from, step_next, with_config, with_group}
use Rattle.trail_text.proofs.Entering.{due_after, entry_leads}
use Rattle.trail_text.proofs.Legality.{Goes}
use Rattle.trail_text.proofs.Lists.{at_middle, first_same, rest_same}
use Rattle.trail_text.proofs.Openings.{adds_last, can_open_front}
use Rattle.trail_text.proofs.Reading.{config_no_group, same_bytes, some_if, step_no_config, step_no_group}

-- ## What completes a text

-- the lines left of an opening and of a history of so many entries
pub record Completes (whole : Opening) (entries : ℕ) (front lines : List (List ℕ)) : Type 0 where
  pub start : IsStart whole
  pub history : List Entry
  pub count : length history ≡ entries
  pub goes : Goes whole.limits 0 (first_of whole) history
  pub are_said : AllByRecursion IsSaid history
  pub parts : front ++ entry_lines whole.limits (first_of whole) history ≡ lines

-- the lines left of a history of so many entries, after an answer or none
pub record EntriesFollow (l : Limits) (steps : ℕ) (f : Flat) (entries : ℕ) (front lines : List (List ℕ)) : Type 0 where
  pub history : List Entry
  pub count : steps + length history ≡ entries
  pub goes : Goes l steps f history
  pub are_said : AllByRecursion IsSaid history
  pub parts : front ++ entry_lines l f history ≡ lines

abbrev pub with_rest : Opening → List (List ℕ) → List Config → Opening
with_rest o groups configs = record o { groups = o.groups ++ groups; configs = o.configs ++ configs }

abbrev pub with_configs : Opening → List Config → Opening
with_configs o configs = record o { configs = o.configs ++ configs }

-- lines that end a text of so many entries where some lead
abbrev pub Follows : At → ℕ → List (List ℕ) → Type 0
Follows BeforeLimits n lines = (whole : Opening) × Completes whole n (head_lines whole) lines
Follows (BeforeMoment l) n lines =
    (whole : Opening) × (whole.limits ≡ l)
    × Completes whole n (moment_line whole.moment ∷ (map group_line whole.groups ++ map config_line whole.configs)) lines
Follows (InGroups o) n lines =
    (groups : List (List ℕ)) × (configs : List Config)
    × Completes (with_rest o groups configs) n (map group_line groups ++ map config_line configs) lines
Follows (InConfigs o) n lines = (configs : List Config) × Completes (with_configs o configs) n (map config_line configs) lines
Follows (InEntries l steps f) n lines = EntriesFollow l steps f n [] lines
Follows (BeforeAnswer due l steps f) n lines = EntriesFollow l steps f n (due ∷ []) lines

pub uncons : (whole : Opening) (n : ℕ) (x : List ℕ) (front : List (List ℕ)) (line : List ℕ) (lines : List (List ℕ))
    → Completes whole n (x ∷ front) (line ∷ lines) → (x ≡ line) × Completes whole n front lines
uncons whole n x front line lines c =
    let more = front ++ entry_lines whole.limits (first_of whole) c.history in (
      first_same x line more lines c.parts,
      record {
        start = c.start;
        history = c.history;
        count = c.count;
        goes = c.goes;
        are_said = c.are_said;
        parts = rest_same x line more lines c.parts;
      },
    )

pub consed : (whole : Opening) (n : ℕ) (x : List ℕ) (front : List (List ℕ)) (line : List ℕ) (lines : List (List ℕ)) → x ≡ line
    → Completes whole n front lines → Completes whole n (x ∷ front) (line ∷ lines)
consed whole n x front line lines is c = record {
  start = c.start;
  history = c.history;
  count = c.count;
  goes = c.goes;
  are_said = c.are_said;
  parts = ap (λ more. x ∷ more) c.parts ∙ ap (λ y. y ∷ lines) is;
}

-- ## Where no group follows

pub no_rest : (o : Opening) (configs : List Config) → with_rest o [] configs ≡ with_configs o configs
no_rest o configs = ap (λ groups. record o { groups = groups; configs = o.configs ++ configs }) (append-nil o.groups)

pub no_configs : (o : Opening) → with_configs o [] ≡ o
no_configs o = ap (λ configs. record o { configs = configs }) (append-nil o.configs)

pub later_configs : (o : Opening) (c : Config) (cs : List Config) → with_configs (with_config o c) cs ≡ with_configs o (c ∷ cs)
later_configs o c cs = ap (λ configs. record o { configs = configs }) (append_assoc o.configs (c ∷ []) cs)

pub later_groups : (o : Opening) (g : List ℕ) (gs : List (List ℕ)) (cs : List Config)
    → with_rest (with_group o g) gs cs ≡ with_rest o (g ∷ gs) cs
later_groups o g gs cs = ap (λ groups. record o { groups = groups; configs = o.configs ++ cs }) (append_assoc o.groups (g ∷ []) gs)

-- ## Onwards

-- where a line leads that may come, and what follows
abbrev pub Leads : Option At → ℕ → List (List ℕ) → Type 0
Leads led n lines = (now : At) × (led ≡ Some now) × Follows now n lines

entries_lead : (l : Limits) (steps : ℕ) (f : Flat) (n : ℕ) (line : List ℕ) (lines : List (List ℕ)) (history : List Entry)
    → steps + length history ≡ n → Goes l steps f history → AllByRecursion IsSaid history → entry_lines l f history ≡ line ∷ lines
    → Leads (step_next l steps f line) n lines × ((s : Line) × (line_at line ≡ Some s))
entries_lead l steps f n line lines [] count goes all parts = absurd cc
entries_lead l steps f n line lines (e ∷ es) count goes all parts =
    let later = answer_line l f e ∷ entry_lines l (step_of l f e.0 e.1).flat es in
    let is = first_same (line_of e) line later lines parts in
    let leads = entry_leads l steps f e (record { said = all.0; may = goes.0; fits = goes.1 }) in (
      (
        due_after l steps f e,
        subst (λ text. step_next l steps f text ≡ Some (due_after l steps f e)) is leads,
        record {
          history = es;
          count = omega (arith, count);
          goes = goes.2;
          are_said = all.1;
          parts = rest_same (line_of e) line later lines parts;
        },
      ),
      (said e, ap line_at (sym is) ∙ all.0),
    )

config_leads : (o : Opening) (config : Config) (configs : List Config) (line : List ℕ) → IsStart (with_configs o (config ∷ configs))
    → config_line config ≡ line → (config_at line ≡ Some config) × (config_next o line ≡ Some (InConfigs (with_config o config)))
config_leads o config configs line start is =
    let said = ap config_at (sym is) ∙ at_middle (λ c. config_at (config_line c) ≡ Some c) o.configs config configs start.configs in
    let front = can_open_front o.limits (o.configs ++ config ∷ []) configs
    (subst (CanOpen o.limits) (sym (append_assoc o.configs (config ∷ []) configs)) start.can) in
    let passes = adds_last o.limits o.configs config start.small.services front in
    (said, ap (λ r. r >>= if_added o) said ∙ some_if (can_add o config) (InConfigs (with_config o config)) passes)

configs_lead : (o : Opening) (n : ℕ) (line : List ℕ) (lines : List (List ℕ)) (configs : List Config)
    → Completes (with_configs o configs) n (map config_line configs) (line ∷ lines)
    → Leads (option_or (config_next o line) (step_next o.limits 0 (first_of o) line)) n lines × (group_at line ≡ None)
configs_lead o n line lines [] c =
    let d = subst (λ whole. Completes whole n [] (line ∷ lines)) (no_configs o) c in
    let leads = entries_lead o.limits 0 (first_of o) n line lines d.history (omega (arith, d.count)) d.goes d.are_said d.parts in
    let none = step_no_config line leads.1.0 leads.1.1 in (
      (
        leads.0.0,
        ap (λ r. option_or (r >>= if_added o) (step_next o.limits 0 (first_of o) line)) none ∙ leads.0.1,
        leads.0.2,
      ),
      step_no_group line leads.1.0 leads.1.1,
    )
configs_lead o n line lines (config ∷ configs) c =
    let d = uncons (with_configs o (config ∷ configs)) n (config_line config) (map config_line configs) line lines c in
    let led = config_leads o config configs line c.start d.0 in (
      (
        InConfigs (with_config o config),
        ap (λ r. option_or r (step_next o.limits 0 (first_of o) line)) led.1,
        (configs, subst (λ whole. Completes whole n (map config_line configs) lines) (sym (later_configs o config configs)) d.1),
      ),
      config_no_group line config led.0,
    )

groups_lead : (o : Opening) (n : ℕ) (line : List ℕ) (lines groups : List (List ℕ)) (configs : List Config)
    → Completes (with_rest o groups configs) n (map group_line groups ++ map config_line configs) (line ∷ lines)
    → Leads (next (InGroups o) line) n lines
groups_lead o n line lines [] configs c =
    let led = configs_lead o n line lines configs
    (subst (λ whole. Completes whole n (map config_line configs) (line ∷ lines)) (no_rest o configs) c) in (
      led.0.0,
      ap (λ r. option_or (option_map (λ group. InGroups (with_group o group)) r)
          (option_or (config_next o line) (step_next o.limits 0 (first_of o) line))) led.1 ∙ led.0.1,
      led.0.2,
    )
groups_lead o n line lines (group ∷ groups) configs c =
    let front = map group_line groups ++ map config_line configs in
    let d = uncons (with_rest o (group ∷ groups) configs) n (group_line group) front line lines c in
    let said = ap group_at (sym d.0) ∙ at_middle (λ g. group_at (group_line g) ≡ Some g) o.groups group groups c.start.groups in (
      InGroups (with_group o group),
      ap (λ r. option_or (option_map (λ group. InGroups (with_group o group)) r)
          (option_or (config_next o line) (step_next o.limits 0 (first_of o) line))) said,
      (
        groups,
        configs,
        subst (λ whole. Completes whole n front lines) (sym (later_groups o group groups configs)) d.1,
      ),
    )

all_both : (a b : Bool) → a ≡ true → b ≡ true → (a && b) ≡ true
all_both true true h k = refl
all_both true false h k = absurd cc
all_both false b h k = absurd cc

small_is : (l : Limits) → AreAuditable l → are_small l ≡ true
small_is l small =
    all_both _ _ (all_both _ _ (all_both _ _ (all_both _ _ (all_both _ _ (all_both _ _ (all_both _ _
    (le-leb l.services 1024 small.services) (le-leb l.handles 1024 small.handles)) (le-leb l.registrations 64 small.registrations))
    (le-leb l.callers 64 small.callers)) (le-leb l.processes 128 small.processes)) (le-leb l.controls 16 small.controls))
    (le-leb l.steps 16777216 small.steps)) (le-leb l.text 268435456 small.text)

limits_lead : (n : ℕ) (line : List ℕ) (lines : List (List ℕ)) (whole : Opening) → Completes whole n (head_lines whole) (line ∷ lines)
    → Leads (next BeforeLimits line) n lines
limits_lead n line lines whole c =
    let front = moment_line whole.moment ∷ (map group_line whole.groups ++ map config_line whole.configs) in
    let d = uncons whole n (limits_line whole.limits) front line lines c in (
      BeforeMoment whole.limits,
      ap (λ r. r >>= if_small) (ap limits_at (sym d.0) ∙ c.start.limits)
          ∙ some_if (are_small whole.limits) (BeforeMoment whole.limits) (small_is whole.limits c.start.small),
      (whole, refl, d.1),
    )

from_whole : (l : Limits) (whole : Opening) → whole.limits ≡ l → whole ≡ with_rest (from_moment l whole.moment) whole.groups whole.configs
from_whole l whole is =
    ap (λ k. record { limits = k; groups = whole.groups; configs = whole.configs; moment = whole.moment }) is

moment_leads : (l : Limits) (n : ℕ) (line : List ℕ) (lines : List (List ℕ)) (whole : Opening) → whole.limits ≡ l
    → Completes whole n (moment_line whole.moment ∷ (map group_line whole.groups ++ map config_line whole.configs)) (line ∷ lines)
    → Leads (next (BeforeMoment l) line) n lines
moment_leads l n line lines whole is c =
    let front = map group_line whole.groups ++ map config_line whole.configs in
    let d = uncons whole n (moment_line whole.moment) front line lines c in (
      InGroups (from_moment l whole.moment),
      ap (option_map (λ moment. InGroups (from_moment l moment))) (ap moment_at (sym d.0) ∙ c.start.moment),
      (whole.groups, whole.configs, subst (λ w. Completes w n front lines) (from_whole l whole is) d.1),
    )

answer_leads : (due : List ℕ) (l : Limits) (steps : ℕ) (f : Flat) (n : ℕ) (line : List ℕ) (lines : List (List ℕ))
    → EntriesFollow l steps f n (due ∷ []) (line ∷ lines) → Leads (next (BeforeAnswer due l steps f) line) n lines
answer_leads due l steps f n line lines c =
    let later = entry_lines l f c.history in (
      InEntries l steps f,
      some_if (bytes_eq due line) (InEntries l steps f) (same_bytes due line (first_same due line later lines c.parts)),
      record {
        history = c.history;
        count = c.count;
        goes = c.goes;
        are_said = c.are_said;
        parts = rest_same due line later lines c.parts;
      },
    )

forward : (at : At) (n : ℕ) (line : List ℕ) (lines : List (List ℕ)) → Follows at n (line ∷ lines) → Leads (next at line) n lines
forward BeforeLimits n line lines h = limits_lead n line lines h.0 h.1
forward (BeforeMoment l) n line lines h = moment_leads l n line lines h.0 h.1 h.2
forward (InGroups o) n line lines h = groups_lead o n line lines h.0 h.1 h.2
forward (InConfigs o) n line lines h = (configs_lead o n line lines h.0 h.1).0
forward (InEntries l steps f) n line lines h = (entries_lead l steps f n line lines h.history h.count h.goes h.are_said h.parts).0
forward (BeforeAnswer due l steps f) n line lines h = answer_leads due l steps f n line lines h

-- a front of what follows leads somewhere, where its rest follows
pub leads_on : (front rest : List (List ℕ)) (at : At) (n : ℕ) → Follows at n (front ++ rest) → Leads (reached_from at front) n rest
leads_on [] rest at n h = (at, refl, h)
leads_on (line ∷ front) rest at n h =
    let led = forward at n line (front ++ rest) h in
    let later = leads_on front rest led.0 n led.2 in
    (later.0, ap (λ r. r >>= λ now. reached_from now front) led.1 ∙ later.1, later.2)

-- ## The end

no_entries : (l : Limits) (f : Flat) (front : List (List ℕ)) (history : List Entry) → front ++ entry_lines l f history ≡ []
    → length history ≡ 0
no_entries l f front [] parts = refl
no_entries l f front (e ∷ es) parts =
    absurd (omega (arith, ap length parts, length-append front (entry_lines l f (e ∷ es))))

no_line : (x : List ℕ) (lines : List (List ℕ)) → (x ∷ lines) ≡ [] → ⊥
no_line x lines is = cc

-- where no line follows, the text has as many entries as it has there
pub ends_here : (at : At) (n : ℕ) → Follows at n [] → entries_at at ≡ Some n
ends_here BeforeLimits n h =
    absurd (no_line (limits_line h.0.limits) _ h.1.parts)
ends_here (BeforeMoment l) n h =
    absurd (no_line (moment_line h.0.moment) _ h.2.parts)
ends_here (InGroups o) n h =
    let whole = with_rest o h.0 h.1 in
    let none = no_entries whole.limits (first_of whole) (map group_line h.0 ++ map config_line h.1) h.2.history h.2.parts in
    ap (λ k. Some k) (sym none ∙ h.2.count)
ends_here (InConfigs o) n h =
    let whole = with_configs o h.0 in
    let none = no_entries whole.limits (first_of whole) (map config_line h.0) h.1.history h.1.parts in
    ap (λ k. Some k) (sym none ∙ h.1.count)
ends_here (InEntries l steps f) n h =
    let none = no_entries l f [] h.history h.parts in
    ap (λ k. Some k) (omega (arith, none, h.count))
ends_here (BeforeAnswer due l steps f) n h = absurd (no_line due (entry_lines l f h.history) h.parts)

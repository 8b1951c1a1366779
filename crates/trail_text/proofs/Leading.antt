-- What leads somewhere is right there, and what follows where it leads follows before it.
use Rattle.std.proofs.Common.{inl, inr, ℕ, ◌≡◌, ◌+◌, ◌≤◌, true, List, [], ◌∷◌, ◌++◌, map, Option, Some, None, refl, sym, ap, ◌∙◌}
use Rattle.std.proofs.Common.{subst, arith}
use Rattle.std.specs.Prelude.{bytes_eq, nat_le}
use Rattle.std.specs.Option.{option_or}
use Rattle.std.proofs.lemmas.Bool.{and_parts, leb-true}
use Rattle.dependency_index.proofs.Cycles.{ends_acyclic}
use Rattle.scm_model.specs.declared.flat.Config.{Config}
use Rattle.scm_model.specs.declared.flat.Flat.{Flat}
use Rattle.scm_model.specs.declared.flat.Limits.{Limits}
use Rattle.scm_rules.specs.Opening.{CanOpen}
use Rattle.scm_rules.specs.Owed.{owed}
use Rattle.scm_core.specs.Managed.{AreSmall}
use Rattle.scm_lines.specs.Entries.{line_of}
use Rattle.scm_lines.specs.Words.{◌>>=◌}
use Rattle.opening_lines.specs.declared.opening.Opening.{Opening}
use Rattle.opening_lines.specs.Heads.{AreInRange, config_at, config_line, group_at, group_line, head_lines, limits_at, limits_line}
use Rattle.opening_lines.specs.Heads.{moment_at, moment_line}
use Rattle.opening_lines.proofs.Again.{limits_again, moment_again}
use Rattle.trail_text.specs.Histories.{AreAuditable, IsStart, first_of}
use Rattle.trail_text.specs.Audits.{At, BeforeAnswer, BeforeLimits, BeforeMoment, InConfigs, InEntries, InGroups, are_small}
use Rattle.trail_text.specs.Audits.{can_add, config_next, entries_at, from_moment, group_next, if_added, if_small, next}
use Rattle.trail_text.specs.Audits.{reached_from, step_next, with_config, with_group}
use Rattle.trail_text.proofs.Entering.{led_by_entry}
use Rattle.trail_text.proofs.Following.{Completes, EntriesFollow, Follows, consed, later_configs, later_groups, no_configs, no_rest}
use Rattle.trail_text.proofs.Following.{with_configs, with_rest}
use Rattle.trail_text.proofs.Lists.{at_end, either, mapped}
use Rattle.trail_text.proofs.Openings.{one_more}
use Rattle.trail_text.proofs.Reading.{bind_some, bytes_same, config_is, group_is, if_some, limits_is, moment_is, same_some}

-- the limits are small, and the limit of steps has room for what is owed after so many steps
pub record HasRoom (l : Limits) (steps : ℕ) (f : Flat) : Type 0 where
  pub small : AreAuditable l
  pub room : steps + owed f ≤ l.steps

-- what is so wherever lines lead
abbrev pub Fine : At → Type 0
Fine BeforeLimits = Unit {0}
Fine (BeforeMoment l) = AreAuditable l
Fine (InGroups o) = IsStart o
Fine (InConfigs o) = IsStart o
Fine (InEntries l steps f) = HasRoom l steps f
Fine (BeforeAnswer due l steps f) = HasRoom l steps f

-- what leads somewhere is fine there, and what follows there follows before it
abbrev Led : At → List ℕ → At → Type 0
Led at line now = Fine now × ((n : ℕ) (lines : List (List ℕ)) → Follows now n lines → Follows at n (line ∷ lines))

-- ## Entries

entry_led : (l : Limits) (steps : ℕ) (f : Flat) (line : List ℕ) (now : At) → AreAuditable l → step_next l steps f line ≡ Some now
    → Led (InEntries l steps f) line now
entry_led l steps f line now small led =
    let e = led_by_entry l steps f line now led in
    subst (Led (InEntries l steps f) line) (sym e.due) (
      record { small = small; room = e.enters.fits },
      λ n lines h. record {
        history = e.entry ∷ h.history;
        count = omega (arith, h.count);
        goes = (e.enters.may, e.enters.fits, h.goes);
        are_said = (e.enters.said, h.are_said);
        parts = ap (λ more. line_of e.entry ∷ more) h.parts ∙ ap (λ x. x ∷ lines) e.is;
      },
    )

answer_led : (due : List ℕ) (l : Limits) (steps : ℕ) (f : Flat) (line : List ℕ) (now : At) → HasRoom l steps f
    → next (BeforeAnswer due l steps f) line ≡ Some now → Led (BeforeAnswer due l steps f) line now
answer_led due l steps f line now has led =
    let a = if_some (bytes_eq due line) (InEntries l steps f) now led in
    let is = bytes_same due line a.0 in
    subst (Led (BeforeAnswer due l steps f) line) a.1 (
      has,
      λ n lines h. record {
        history = h.history;
        count = h.count;
        goes = h.goes;
        are_said = h.are_said;
        parts = ap (λ more. due ∷ more) h.parts ∙ ap (λ x. x ∷ lines) is;
      },
    )

-- ## The head

-- entries that follow an opening complete it
completed : (o : Opening) (n : ℕ) (lines : List (List ℕ)) → IsStart o → EntriesFollow o.limits 0 (first_of o) n [] lines
    → Completes o n [] lines
completed o n lines start h = record {
  start = start;
  history = h.history;
  count = omega (arith, h.count);
  goes = h.goes;
  are_said = h.are_said;
  parts = h.parts;
}

with_one : (o : Opening) (c : Config) → IsStart o → can_add o c ≡ true → config_at (config_line c) ≡ Some c → IsStart (with_config o c)
with_one o c start passes said = record {
  small = start.small;
  can = one_more o.limits o.configs c start.small.services start.can passes;
  limits = start.limits;
  moment = start.moment;
  groups = start.groups;
  configs = at_end (λ c. config_at (config_line c) ≡ Some c) o.configs c start.configs said;
}

configs_led : (o : Opening) (line : List ℕ) (now : At) → IsStart o
    → option_or (config_next o line) (step_next o.limits 0 (first_of o) line) ≡ Some now → Led (InConfigs o) line now
configs_led o line now start led = elim (either (config_next o line) (step_next o.limits 0 (first_of o) line) now led) [
  | inl is_config ↦
      let a = bind_some (config_at line) (if_added o) now is_config in
      let b = if_some (can_add o a.0) (InConfigs (with_config o a.0)) now a.2 in
      let is = config_is line a.0 a.1 in
      subst (Led (InConfigs o) line) b.1 (
        with_one o a.0 start b.0 (ap config_at is ∙ a.1),
        λ n lines h. (
          a.0 ∷ h.0,
          consed (with_configs o (a.0 ∷ h.0)) n (config_line a.0) (map config_line h.0) line lines is
              (subst (λ whole. Completes whole n (map config_line h.0) lines) (later_configs o a.0 h.0) h.1),
        ),
      )
  | inr is_step ↦
      let e = entry_led o.limits 0 (first_of o) line now start.small is_step in (
        e.0,
        λ n lines h. (
          [],
          subst (λ whole. Completes whole n [] (line ∷ lines)) (sym (no_configs o))
              (completed o n (line ∷ lines) start (e.1 n lines h)),
        ),
      )
]

with_one_group : (o : Opening) (g : List ℕ) → IsStart o → group_at (group_line g) ≡ Some g → IsStart (with_group o g)
with_one_group o g start said = record {
  small = start.small;
  can = start.can;
  limits = start.limits;
  moment = start.moment;
  groups = at_end (λ g. group_at (group_line g) ≡ Some g) o.groups g start.groups said;
  configs = start.configs;
}

groups_led : (o : Opening) (line : List ℕ) (now : At) → IsStart o → next (InGroups o) line ≡ Some now → Led (InGroups o) line now
groups_led o line now start led =
    elim (either (group_next o line) (option_or (config_next o line) (step_next o.limits 0 (first_of o) line)) now led) [
      | inl is_group ↦
          let a = mapped (λ group. InGroups (with_group o group)) (group_at line) now is_group in
          let is = group_is line a.0 a.1 in
          subst (Led (InGroups o) line) a.2 (
            with_one_group o a.0 start (ap group_at is ∙ a.1),
            λ n lines h. (
              a.0 ∷ h.0,
              h.1,
              consed (with_rest o (a.0 ∷ h.0) h.1) n (group_line a.0) (map group_line h.0 ++ map config_line h.1) line lines is
                  (subst (λ whole. Completes whole n (map group_line h.0 ++ map config_line h.1) lines)
                  (later_groups o a.0 h.0 h.1) h.2),
            ),
          )
      | inr later ↦
          let e = configs_led o line now start later in (
            e.0,
            λ n lines h. let k = e.1 n lines h in (
              [],
              k.0,
              subst (λ whole. Completes whole n (map config_line k.0) (line ∷ lines)) (sym (no_rest o k.0)) k.1,
            ),
          )
    ]

-- a manager can have such limits
pub manageable : (l : Limits) → AreAuditable l → AreSmall l
manageable l small = record {
  services = small.services;
  handles = small.handles;
  registrations = small.registrations;
  callers = small.callers;
  processes = small.processes;
  controls = small.controls;
  steps = omega (arith, small.steps);
  text = omega (arith, small.text);
}

pub is_small : (l : Limits) → are_small l ≡ true → AreAuditable l
is_small l passes =
    let g = and_parts _ (nat_le l.text 268435456) passes in
    let f = and_parts _ (nat_le l.steps 16777216) g.0 in
    let e = and_parts _ (nat_le l.controls 16) f.0 in
    let d = and_parts _ (nat_le l.processes 128) e.0 in
    let c = and_parts _ (nat_le l.callers 64) d.0 in
    let b = and_parts _ (nat_le l.registrations 64) c.0 in
    let a = and_parts (nat_le l.services 1024) (nat_le l.handles 1024) b.0 in
    record {
      services = leb-true l.services 1024 a.0;
      handles = leb-true l.handles 1024 a.1;
      registrations = leb-true l.registrations 64 b.1;
      callers = leb-true l.callers 64 c.1;
      processes = leb-true l.processes 128 d.1;
      controls = leb-true l.controls 16 e.1;
      steps = leb-true l.steps 16777216 f.1;
      text = leb-true l.text 268435456 g.1;
    }

limits_led : (line : List ℕ) (now : At) → next BeforeLimits line ≡ Some now → Led BeforeLimits line now
limits_led line now led =
    let a = bind_some (limits_at line) if_small now led in
    let b = if_some (are_small a.0) (BeforeMoment a.0) now a.2 in
    let is = limits_is line a.0 a.1 in
    subst (Led BeforeLimits line) b.1 (
      is_small a.0 b.0,
      λ n lines h. (
        h.0,
        consed h.0 n (limits_line h.0.limits) (moment_line h.0.moment ∷ (map group_line h.0.groups ++ map config_line h.0.configs))
            line lines (ap limits_line h.1 ∙ is) h.2,
      ),
    )

pub can_begin_empty : (l : Limits) → CanOpen l []
can_begin_empty l = record {
  few = omega arith;
  names = λ i j d lt within. absurd (omega (arith, within));
  displays = λ i j d lt within. absurd (omega (arith, within));
  checked = λ k d lt. absurd (omega (arith, lt));
  acyclic = ends_acyclic [] refl;
}

in_range : (l : Limits) → AreAuditable l → AreInRange l
in_range l small = record {
  services = omega (arith, small.services);
  handles = omega (arith, small.handles);
  registrations = omega (arith, small.registrations);
  callers = omega (arith, small.callers);
  processes = omega (arith, small.processes);
  controls = omega (arith, small.controls);
  steps = omega (arith, small.steps);
  text = omega (arith, small.text);
}

starts_at : (l : Limits) (moment : ℕ) → AreAuditable l → moment_at (moment_line moment) ≡ Some moment → IsStart (from_moment l moment)
starts_at l moment small said = record {
  small = small;
  can = can_begin_empty l;
  limits = limits_again l (in_range l small);
  moment = said;
  groups = tt;
  configs = tt;
}

moment_led : (l : Limits) (line : List ℕ) (now : At) → AreAuditable l → next (BeforeMoment l) line ≡ Some now → Led (BeforeMoment l) line now
moment_led l line now small led =
    let a = mapped (λ moment. InGroups (from_moment l moment)) (moment_at line) now led in
    let is = moment_is line a.0 a.1 in
    subst (Led (BeforeMoment l) line) a.2 (
      starts_at l a.0 small (ap moment_at is ∙ a.1),
      λ n lines h. (
        with_rest (from_moment l a.0) h.0 h.1,
        refl,
        consed (with_rest (from_moment l a.0) h.0 h.1) n (moment_line a.0) (map group_line h.0 ++ map config_line h.1) line lines is h.2,
      ),
    )

-- ## Back

back : (at : At) (line : List ℕ) (now : At) → Fine at → next at line ≡ Some now → Led at line now
back BeforeLimits line now fine led = limits_led line now led
back (BeforeMoment l) line now fine led = moment_led l line now fine led
back (InGroups o) line now fine led = groups_led o line now fine led
back (InConfigs o) line now fine led = configs_led o line now fine led
back (InEntries l steps f) line now fine led = entry_led l steps f line now fine.small led
back (BeforeAnswer due l steps f) line now fine led = answer_led due l steps f line now fine led

-- lines that lead somewhere are fine there, and what follows there follows them
pub led_back : (lines : List (List ℕ)) (at now : At) → Fine at → reached_from at lines ≡ Some now
    → Fine now × ((n : ℕ) (rest : List (List ℕ)) → Follows now n rest → Follows at n (lines ++ rest))
led_back [] at now fine led =
    subst (λ x. Fine x × ((n : ℕ) (rest : List (List ℕ)) → Follows x n rest → Follows at n rest)) (same_some at now led)
    (fine, λ n rest h. h)
led_back (line ∷ lines) at now fine led =
    let a = bind_some (next at line) (λ now. reached_from now lines) now led in
    let b = back at line a.0 fine a.1 in
    let c = led_back lines a.0 now b.0 a.2 in
    (c.0, λ n rest h. b.1 n (lines ++ rest) (c.1 n rest h))

-- ## Ends

whole_start : (o : Opening) (front : List (List ℕ)) → IsStart o → Completes o 0 front (front ++ [])
whole_start o front start = record { start = start; history = []; count = refl; goes = tt; are_said = tt; parts = refl }

abbrev least : Limits
least = record { services = 0; handles = 0; registrations = 0; callers = 0; processes = 0; controls = 0; steps = 0; text = 0 }

least_small : AreAuditable least
least_small = record {
  services = omega arith;
  handles = omega arith;
  registrations = omega arith;
  callers = omega arith;
  processes = omega arith;
  controls = omega arith;
  steps = omega arith;
  text = omega arith;
}

no_entry_more : (l : Limits) (steps : ℕ) (f : Flat) (front : List (List ℕ)) → EntriesFollow l steps f steps front (front ++ [])
no_entry_more l steps f front = record { history = []; count = omega arith; goes = tt; are_said = tt; parts = refl }

-- an opening to which nothing is added, in groups or in configurations
in_groups : (o : Opening) → IsStart o → Follows (InGroups o) 0 []
in_groups o start =
    ([], [], subst (λ whole. Completes whole 0 [] []) (sym (no_rest o [] ∙ no_configs o)) (whole_start o [] start))

in_configs : (o : Opening) → IsStart o → Follows (InConfigs o) 0 []
in_configs o start = ([], subst (λ whole. Completes whole 0 [] []) (sym (no_configs o)) (whole_start o [] start))

-- wherever lines lead some lines end a text
pub completion : (at : At) → Fine at → (n : ℕ) × (rest : List (List ℕ)) × Follows at n rest
completion BeforeLimits fine =
    let o = from_moment least 0 in
    (0, head_lines o ++ [], (o, whole_start o (head_lines o) (starts_at least 0 least_small (moment_again 0 (omega arith)))))
completion (BeforeMoment l) fine =
    let o = from_moment l 0 in
    (0, moment_line 0 ∷ [], (o, refl, whole_start o (moment_line 0 ∷ []) (starts_at l 0 fine (moment_again 0 (omega arith)))))
completion (InGroups o) fine = (0, [], in_groups o fine)
completion (InConfigs o) fine = (0, [], in_configs o fine)
completion (InEntries l steps f) fine = (steps, [], no_entry_more l steps f [])
completion (BeforeAnswer due l steps f) fine = (steps, due ∷ [], no_entry_more l steps f (due ∷ []))

-- where a text may end, nothing has to follow
pub whole_here : (at : At) (n : ℕ) → Fine at → entries_at at ≡ Some n → Follows at n []
whole_here BeforeLimits n fine is = absurd cc
whole_here (BeforeMoment l) n fine is = absurd cc
whole_here (InGroups o) n fine is = subst (λ k. Follows (InGroups o) k []) (same_some 0 n is) (in_groups o fine)
whole_here (InConfigs o) n fine is = subst (λ k. Follows (InConfigs o) k []) (same_some 0 n is) (in_configs o fine)
whole_here (InEntries l steps f) n fine is =
    subst (λ k. EntriesFollow l steps f k [] []) (same_some steps n is) (no_entry_more l steps f [])
whole_here (BeforeAnswer due l steps f) n fine is = absurd cc

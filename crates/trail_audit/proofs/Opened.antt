-- What a line of the opening makes of what was read before it.
use Rattle.std.proofs.Common.{ℕ, ◌≡◌, ◌+◌, Bool, true, false, cond, List, [], ◌∷◌, ◌++◌, length, Option, Some, None, Result, refl, sym, ap, ◌∙◌}
use Rattle.std.proofs.Common.{subst, arith, length-append}
use Rattle.std.specs.Prelude.{IfOk, option_map}
use Rattle.std.specs.Option.{option_or}
use Rattle.scm_model.specs.declared.flat.Config.{Config}
use Rattle.scm_model.specs.declared.flat.Limits.{Limits}
use Rattle.scm_lines.specs.Words.{◌>>=◌}
use Rattle.scm_rules.specs.Opening.{CanOpen}
use Rattle.scm_text.specs.declared.OutOfMemory.{OutOfMemory}
use Rattle.record_journal.specs.Opening.{CanBegin}
use Rattle.opening_lines.specs.declared.opening.Opening.{Opening}
use Rattle.opening_lines.specs.Heads.{config_at, group_at, limits_at, moment_at}
use Rattle.trail_text.specs.Audits.{At, BeforeLimits, BeforeMoment, InConfigs, InGroups, are_small, can_add, config_next, from_moment}
use Rattle.trail_text.specs.Audits.{group_next, if_added, if_small, next, with_config, with_group}
use Rattle.trail_text.specs.Histories.{AreAuditable}
use Rattle.trail_text.proofs.Leading.{can_begin_empty, is_small}
use Rattle.trail_text.proofs.Openings.{begins, one_more}
use Rattle.trail_text.proofs.Reading.{some_if}
use Rattle.trail_audit.specs.declared.head.Head.{Head}
use Rattle.trail_audit.specs.declared.head.Lists.{Lists}
use Rattle.trail_audit.specs.declared.head.Stage.{Stage}
use Rattle.trail_audit.specs.declared.head.Stage.TheVariants as stages
use Rattle.trail_audit.specs.declared.head.Start.{Start}
use Rattle.trail_audit.specs.Heads.{CanStart, IsSound, IsSoundAt, IsUnlisted, Takes, first_next, head_at, head_next, opening_of, stage_at, start_of}

-- ## Limits and the moment

pub limits_taken : (line : List ℕ) (l : Limits) (old new : Head) → IsUnlisted old.lists → limits_at line ≡ Some l → are_small l ≡ true
    → new.stage ≡ stages.BeforeMoment l → new.lists ≡ old.lists → Takes (next BeforeLimits line) old new true
limits_taken line l old new unlisted says small stage lists = (
  ap (λ r. r >>= if_small) says ∙ some_if (are_small l) (BeforeMoment l) small ∙ ap (λ s. Some (stage_at s new.lists)) (sym stage),
  subst (λ s. IsSoundAt s new.lists) (sym stage) (is_small l small, subst IsUnlisted (sym lists) unlisted),
)

pub limits_great : (line : List ℕ) (l : Limits) → limits_at line ≡ Some l → are_small l ≡ false → next BeforeLimits line ≡ None
limits_great line l says great = ap (λ r. r >>= if_small) says ∙ ap (λ b. cond b (Some (BeforeMoment l)) None) great

-- the opening begins after the moment
begun_at : (start : Start) (lists : Lists) → IsUnlisted lists → from_moment start.limits start.moment ≡ opening_of start lists
begun_at start lists unlisted = λ i. record {
  limits = start.limits;
  moment = start.moment;
  groups = sym unlisted.groups i;
  configs = sym unlisted.configs i;
}

pub starts_empty : (l : Limits) (lists : Lists) → AreAuditable l → IsUnlisted lists → CanStart l lists
starts_empty l lists small unlisted = record {
  small = small;
  can = subst (CanOpen l) (sym unlisted.configs) (can_begin_empty l);
  services = unlisted.services ∙ ap length (sym unlisted.configs);
}

pub moment_taken : (line : List ℕ) (start : Start) (old new : Head) → AreAuditable start.limits → IsUnlisted old.lists
    → moment_at line ≡ Some start.moment → new.stage ≡ stages.InGroups start → new.lists ≡ old.lists
    → Takes (next (BeforeMoment start.limits) line) old new true
moment_taken line start old new small unlisted says stage lists =
    let empty = subst IsUnlisted (sym lists) unlisted in (
      ap (option_map (λ moment. InGroups (from_moment start.limits moment))) says
          ∙ ap (λ o. Some (InGroups o)) (begun_at start new.lists empty)
          ∙ ap (λ s. Some (stage_at s new.lists)) (sym stage),
      subst (λ s. IsSoundAt s new.lists) (sym stage) (starts_empty start.limits new.lists small empty),
    )

-- ## Groups

pub group_taken : (line group : List ℕ) (start : Start) (old new : Head) → CanStart start.limits old.lists → group_at line ≡ Some group
    → new.stage ≡ stages.InGroups start → new.lists.groups ≡ old.lists.groups ++ group ∷ [] → new.lists.configs ≡ old.lists.configs
    → new.lists.services ≡ old.lists.services → Takes (group_next (opening_of start old.lists) line) old new true
group_taken line group start old new starts says stage groups configs services = (
  ap (option_map (λ g. InGroups (with_group (opening_of start old.lists) g))) says
      ∙ (λ i. Some (InGroups (record {
        limits = start.limits;
        moment = start.moment;
        groups = sym groups i;
        configs = sym configs i;
      })))
      ∙ ap (λ s. Some (stage_at s new.lists)) (sym stage),
  subst (λ s. IsSoundAt s new.lists) (sym stage) (record {
    small = starts.small;
    can = subst (CanOpen start.limits) (sym configs) starts.can;
    services = services ∙ starts.services ∙ ap length (sym configs);
  }),
)

-- ## Configurations

pub begins_at : (l : Limits) (lists : Lists) → CanStart l lists → CanBegin lists.configs
begins_at l lists starts = begins l lists.configs starts.small.services starts.can

pub config_taken : (config : Config) (start : Start) (old new : Head) → CanStart start.limits old.lists
    → can_add (opening_of start old.lists) config ≡ true
    → new.stage ≡ stages.InConfigs start → new.lists.groups ≡ old.lists.groups → new.lists.configs ≡ old.lists.configs ++ config ∷ []
    → new.lists.services ≡ old.lists.services + 1 → Takes (if_added (opening_of start old.lists) config) old new true
config_taken config start old new starts passes stage groups configs services =
    let o = opening_of start old.lists in (
      some_if (can_add o config) (InConfigs (with_config o config)) passes
          ∙ (λ i. Some (InConfigs (record {
            limits = start.limits;
            moment = start.moment;
            groups = sym groups i;
            configs = sym configs i;
          })))
          ∙ ap (λ s. Some (stage_at s new.lists)) (sym stage),
      subst (λ s. IsSoundAt s new.lists) (sym stage) (record {
        small = starts.small;
        can = subst (CanOpen start.limits) (sym configs)
            (one_more start.limits old.lists.configs config starts.small.services starts.can passes);
        services = omega (arith, services, starts.services, ap length configs, length-append old.lists.configs (config ∷ []));
      }),
    )

pub config_refused : (config : Config) (o : Opening) → can_add o config ≡ false → if_added o config ≡ None
config_refused config o fails = ap (λ b. cond b (Some (InConfigs (with_config o config))) None) fails

-- ## Either

pub first_of_two : (led other : Option At) (old new : Head) → Takes led old new true → Takes (option_or led other) old new true
first_of_two led other old new takes = (ap (λ r. option_or r other) takes.0, takes.1)

pub second_of_two : (led : Option At) (other : Head → Option At) (old mid new : Head) (r : Result Bool OutOfMemory) → led ≡ None → mid ≡ old
    → IfOk r (Takes (other mid) mid new) → IfOk r (Takes (option_or led (other old)) old new)
second_of_two led other old mid new r none same takes =
    subst (λ (x : Option At). IfOk r (Takes (option_or x (other old)) old new)) (sym none)
    (subst (λ (h : Head). IfOk r (Takes (other h) h new)) same takes)

-- ## Before the first entry

-- a line of the opening
pub head_then : (stage : Stage) (lists : Lists) (line : List ℕ) (now : At) → head_next (stage_at stage lists) line ≡ Some now
    → next (stage_at stage lists) line ≡ Some now
head_then stages.BeforeLimits lists line now led = led
head_then (stages.BeforeMoment limits) lists line now led = led
head_then (stages.InGroups start) lists line now led =
    let o = opening_of start lists in
    both_or (group_next o line) (config_next o line) (first_next o line) ∙ ap (λ r. option_or r (first_next o line)) led
  where
    both_or : (g c f : Option At) → option_or g (option_or c f) ≡ option_or (option_or g c) f
    both_or None c f = refl
    both_or (Some x) c f = refl
head_then (stages.InConfigs start) lists line now led = ap (λ r. option_or r (first_next (opening_of start lists) line)) led

none_or : (g c f : Option At) → option_or g c ≡ None → option_or g (option_or c f) ≡ f
none_or None c f none = ap (λ r. option_or r f) none
none_or (Some x) c f none = absurd cc

-- a line that is none of the opening is that of the first entry
pub entry_then : (stage : Stage) (lists : Lists) (line : List ℕ) (start : Start) → start_of stage ≡ Some start
    → head_next (stage_at stage lists) line ≡ None → next (stage_at stage lists) line ≡ first_next (opening_of start lists) line
entry_then stages.BeforeLimits lists line start is none = absurd cc
entry_then (stages.BeforeMoment limits) lists line start is none = absurd cc
entry_then (stages.InGroups own) lists line start is none =
    let o = opening_of own lists in
    none_or (group_next o line) (config_next o line) (first_next o line) none
    ∙ ap (λ (s : Option Start). first_at s lists line (first_next o line)) is
  where
    first_at : Option Start → Lists → List ℕ → Option At → Option At
    first_at None lists line other = other
    first_at (Some s) lists line other = first_next (opening_of s lists) line
entry_then (stages.InConfigs own) lists line start is none =
    let o = opening_of own lists in
    ap (λ r. option_or r (first_next o line)) none
    ∙ ap (λ (s : Option Start). first_at s lists line (first_next o line)) is
  where
    first_at : Option Start → Lists → List ℕ → Option At → Option At
    first_at None lists line other = other
    first_at (Some s) lists line other = first_next (opening_of s lists) line

-- no entry comes before the moment
pub nothing_then : (stage : Stage) (lists : Lists) (line : List ℕ) → start_of stage ≡ None → head_next (stage_at stage lists) line ≡ None
    → next (stage_at stage lists) line ≡ None
nothing_then stages.BeforeLimits lists line is none = none
nothing_then (stages.BeforeMoment limits) lists line is none = none
nothing_then (stages.InGroups start) lists line is none = absurd cc
nothing_then (stages.InConfigs start) lists line is none = absurd cc

-- ## Once the lists have begun

pub can_start : (stage : Stage) (lists : Lists) (start : Start) → start_of stage ≡ Some start → IsSoundAt stage lists
    → CanStart start.limits lists
can_start stages.BeforeLimits lists start is sound = absurd cc
can_start (stages.BeforeMoment limits) lists start is sound = absurd cc
can_start (stages.InGroups own) lists start is sound =
    let e : own ≡ start = cc in subst (λ (s : Start). CanStart s.limits lists) e sound
can_start (stages.InConfigs own) lists start is sound =
    let e : own ≡ start = cc in subst (λ (s : Start). CanStart s.limits lists) e sound

pub still_sound : (stage : Stage) (lists : Lists) (start : Start) → start_of stage ≡ Some start → CanStart start.limits lists
    → IsSoundAt stage lists
still_sound stages.BeforeLimits lists start is starts = absurd cc
still_sound (stages.BeforeMoment limits) lists start is starts = absurd cc
still_sound (stages.InGroups own) lists start is starts =
    let e : start ≡ own = cc in subst (λ (s : Start). CanStart s.limits lists) e starts
still_sound (stages.InConfigs own) lists start is starts =
    let e : start ≡ own = cc in subst (λ (s : Start). CanStart s.limits lists) e starts

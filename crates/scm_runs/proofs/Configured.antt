-- A service that gets another configuration under its name keeps what is true of every state.
use Rattle.std.proofs.Common.{ℕ, ◌≡◌, ◌∙◌, ◌<◌, ◌==◌, ◌||◌, ◌&&◌, Bool, true, false, not, cond, List, Option, None, Some, find, map, ap}
use Rattle.std.proofs.Common.{sym, refl, subst, arith, eqb-true}
use Rattle.std.specs.Prelude.{All, AllPairs, is_some}
use Rattle.std.proofs.lemmas.Cmp.{lists_equiv, nat_eq_equiv, on_equiv}
use Rattle.std.proofs.lemmas.List.Elements.{All-map, All-weaker}
use Rattle.scm_text.specs.Fold.{fold_unit, same_text}
use Rattle.scm_model.specs.declared.flat.Config.{Config}
use Rattle.scm_model.specs.declared.flat.Flat.{Flat}
use Rattle.scm_model.specs.declared.flat.Process.{Process}
use Rattle.scm_model.specs.declared.flat.Service.{Service}
use Rattle.scm_model.specs.Rows.{is_shown_by_another}
use Rattle.scm_model.specs.Changes.{configured_if, reconfigured}
use Rattle.service_record.specs.Checks.{check_new}
use Rattle.scm_rules.specs.Change.{display_or}
use Rattle.scm_rules.specs.Valid.{HasListed, IsAskedRight}
use Rattle.scm_runs.proofs.Lists.{found_only, found_passes, none_any, pairs_map}
use Rattle.scm_rules.proofs.Needed.{HasNoCycle, replaced}
use Rattle.scm_rules.proofs.Secured.{secured_map}
use Rattle.scm_runs.proofs.Numbers.{numbered_map}
use Rattle.scm_runs.proofs.Processes.{StartsStill, beside, starts_kept, still_same}
use Rattle.scm_runs.proofs.Rows.{AreServices, HasKind, IsChecked, IsStoppedWithout}
use Rattle.scm_runs.proofs.Sound.{Sound}

-- ## Rows

same_swap : (x y : List ℕ) → same_text x y ≡ same_text y x
same_swap = (lists_equiv (on_equiv fold_unit nat_eq_equiv)).symm

-- a row with the number has the text
abbrev pub HasText : ℕ → (Service → List ℕ) → List ℕ → Service → Type 0
HasText number text given row = (row.number == number) ≡ true → text row ≡ given

-- a row with another number has another display name
abbrev ShowsAnother : ℕ → Config → Service → Type 0
ShowsAnother number config row = (row.number == number) ≡ false → same_text row.config.display config.display ≡ false

abbrev pub name : Service → List ℕ
name row = row.config.name

abbrev display : Service → List ℕ
display row = row.config.display

abbrev AreOther : (Service → List ℕ) → Service → Service → Type 0
AreOther text a b = same_text (text a) (text b) ≡ false

pub number_kept : (number : ℕ) (config : Config) (row : Service) → (configured_if number config row).number ≡ row.number
number_kept number config row = elim (row.number == number) as (λ b. (cond b (replaced config row) row).number ≡ row.number) [
  | true ↦ refl
  | false ↦ refl
]

pub name_kept : (number : ℕ) (config : Config) (row : Service) → HasText number name config.name row
    → (configured_if number config row).config.name ≡ row.config.name
name_kept number config row has =
    elim (row.number == number) as (λ b. (row.number == number) ≡ b → (cond b (replaced config row) row).config.name ≡ row.config.name)
    [ true ↦ λ e. sym (has e) | false ↦ λ e. refl ] refl

display_kept : (number : ℕ) (config : Config) (row : Service) → HasText number display config.display row
    → (configured_if number config row).config.display ≡ row.config.display
display_kept number config row has =
    elim (row.number == number) as (λ b. (row.number == number) ≡ b → (cond b (replaced config row) row).config.display ≡
    row.config.display)
    [ true ↦ λ e. sym (has e) | false ↦ λ e. refl ] refl

check_kept : (number : ℕ) (config : Config) (row : Service) → check_new config None ≡ 0 → check_new row.config None ≡ 0
    → check_new (configured_if number config row).config None ≡ 0
check_kept number config row new old =
    elim (row.number == number) as (λ b. check_new (cond b (replaced config row) row).config None ≡ 0) [ true ↦ new | false ↦ old ]

kind_kept : (number : ℕ) (config : Config) (row : Service) → row.status.kind ≡ row.config.kind
    → (configured_if number config row).status.kind ≡ (configured_if number config row).config.kind
kind_kept number config row old =
    elim (row.number == number) as (λ b. (cond b (replaced config row) row).status.kind ≡ (cond b (replaced config row) row).config.kind)
    [ true ↦ refl | false ↦ old ]

stopped_kept : (number : ℕ) (config : Config) (row : Service) → (row.status.state == 1) ≡ (row.process == 0)
    → ((configured_if number config row).status.state == 1) ≡ ((configured_if number config row).process == 0)
stopped_kept number config row old =
    elim (row.number == number) as (λ b. ((cond b (replaced config row) row).status.state == 1) ≡
    ((cond b (replaced config row) row).process == 0))
    [ true ↦ old | false ↦ old ]

security_kept : (number : ℕ) (config : Config) (row : Service) → (configured_if number config row).security ≡ row.security
security_kept number config row =
    elim (row.number == number) as (λ b. (cond b (replaced config row) row).security ≡ row.security) [ true ↦ refl | false ↦ refl ]

-- ## Pairs

others_kept : (u v x y : List ℕ) → u ≡ x → v ≡ y → same_text x y ≡ false → same_text u v ≡ false
others_kept u v x y e g other = subst (λ t. same_text t v ≡ false) (sym e) (subst (λ t. same_text x t ≡ false) (sym g) other)

-- a new display name that no other row shows
display_apart : (number : ℕ) (config : Config) (a b : Service) → ShowsAnother number config a → ShowsAnother number config b
    → AreOther display a b × (a.number < b.number)
    → AreOther display (configured_if number config a) (configured_if number config b)
display_apart number config a b p q pair =
    elim (a.number == number) as (λ x. (a.number == number) ≡ x → AreOther display (cond x (replaced config a) a)
    (configured_if number config b)) [
      | true ↦ λ e. (elim (b.number == number) as (λ y. (b.number == number) ≡ y
          → same_text config.display (display (cond y (replaced config b) b)) ≡ false) [
            | true ↦ λ g. absurd (let i = eqb-true a.number number e in let j = eqb-true b.number number g in
                let lt = pair.1 in omega arith)
            | false ↦ λ g. same_swap config.display b.config.display ∙ q g
          ] refl)
      | false ↦ λ e. (elim (b.number == number) as (λ y. (b.number == number) ≡ y
          → same_text a.config.display (display (cond y (replaced config b) b)) ≡ false) [
            | true ↦ λ g. p e
            | false ↦ λ g. pair.0
          ] refl)
    ] refl

-- ## The service

-- the row that a number finds
abbrev pub IsFound : Flat → ℕ → Service → Type 0
IsFound f number row = find (λ (r : Service). r.number == number) f.services ≡ Some row

pub names_found : (f : Flat) (number : ℕ) (row : Service) (config : Config) → AreServices f.next.service f.next.process f.services
    → IsFound f number row → config.name ≡ row.config.name → All (HasText number name config.name) f.services
names_found f number row config s found same k d lt is =
    ap name (found_only (λ (r : Service). r.number) number row f.services s.numbered.rising found k d lt is) ∙ sym same

displays_found : (f : Flat) (number : ℕ) (row : Service) (config : Config) → AreServices f.next.service f.next.process f.services
    → IsFound f number row → config.display ≡ row.config.display → All (HasText number display config.display) f.services
displays_found f number row config s found same k d lt is =
    ap display (found_only (λ (r : Service). r.number) number row f.services s.numbered.rising found k d lt is) ∙ sym same

-- who shows a text neither as its name nor as its display name has another display name
shows_another : (here named shown : Bool) → (not here && (named || shown)) ≡ false → here ≡ false → shown ≡ false
shows_another true named shown free other = absurd (cc)
shows_another false true shown free other = absurd (cc)
shows_another false false shown free other = free

others_shown : (f : Flat) (number : ℕ) (row : Service) (config : Config) (text : List ℕ) → IsFound f number row → config.display ≡ text
    → is_shown_by_another f row.number text ≡ false → All (ShowsAnother number config) f.services
others_shown f number row config text found same free =
    let is = eqb-true row.number number (found_passes (λ (r : Service). r.number == number) row f.services found) in
    let here : is_shown_by_another f number config.display ≡ false = subst (λ n. is_shown_by_another f n config.display ≡ false) is
    (subst (λ t. is_shown_by_another f row.number t ≡ false) (sym same) free) in
    All-weaker (λ (r : Service). (not (r.number == number) && (same_text r.config.name config.display
    || same_text r.config.display config.display)) ≡ false)
    (ShowsAnother number config) (λ r h. shows_another (r.number == number) (same_text r.config.name config.display)
    (same_text r.config.display config.display) h) f.services
    (none_any (λ (r : Service). not (r.number == number) && (same_text r.config.name config.display
    || same_text r.config.display config.display)) f.services here)

displays_apart : (f : Flat) (number : ℕ) (row : Service) (config : Config) (asked : Option (List ℕ))
    → AreServices f.next.service f.next.process f.services → IsFound f number row → config.display ≡ display_or row.config asked
    → (is_some asked && is_shown_by_another f row.number (display_or row.config asked)) ≡ false
    → AllPairs (AreOther display) (map (configured_if number config) f.services)
displays_apart f number row config None s found same free =
    pairs_map (HasText number display config.display) (AreOther display) (AreOther display) (configured_if number config)
    (λ a b p q h. others_kept _ _ a.config.display b.config.display (display_kept number config a p) (display_kept number config b q) h)
    f.services (displays_found f number row config s found same) s.displays
displays_apart f number row config (Some asked) s found same free =
    pairs_map (ShowsAnother number config) (λ a b. AreOther display a b × (a.number < b.number)) (AreOther display)
    (configured_if number config) (display_apart number config) f.services
    (others_shown f number row config (display_or row.config (Some asked)) found same free)
    (λ i j d lt within. (s.displays i j d lt within, s.numbered.rising i j d lt within))

-- a service keeps its process
listed_kept : (number : ℕ) (config : Config) (processes : List Process) (row : Service) → HasListed processes row
    → HasListed processes (configured_if number config row)
listed_kept number config processes row old = elim (row.number == number) as (λ b. HasListed processes (cond b (replaced config row) row))
    [ true ↦ old | false ↦ old ]

start_still : (number : ℕ) (config : Config) (process : Process) (row : Service)
    → StartsStill process (configured_if number config) row
start_still number config process row = still_same process (configured_if number config) row
    (elim (row.number == number) as (λ b. (cond b (replaced config row) row).number ≡ row.number) [ true ↦ refl | false ↦ refl ])
    (elim (row.number == number) as (λ b. (cond b (replaced config row) row).process ≡ row.process) [ true ↦ refl | false ↦ refl ])
    (elim (row.number == number) as (λ b. (cond b (replaced config row) row).status.state ≡ row.status.state)
    [ true ↦ refl | false ↦ refl ])

asked_kept : (number : ℕ) (config : Config) (processes : List Process) (row : Service) → IsAskedRight processes row
    → IsAskedRight processes (configured_if number config row)
asked_kept number config processes row old = elim (row.number == number) as (λ b. IsAskedRight processes (cond b (replaced config row) row))
    [ true ↦ old | false ↦ old ]

process_kept : (number : ℕ) (config : Config) (next : ℕ) (row : Service) → row.process < next
    → (configured_if number config row).process < next
process_kept number config next row old = elim (row.number == number) as (λ b. (cond b (replaced config row) row).process < next)
    [ true ↦ old | false ↦ old ]

configured_rows : (f : Flat) (number : ℕ) (row : Service) (config : Config) (asked : Option (List ℕ))
    → AreServices f.next.service f.next.process f.services → IsFound f number row → config.name ≡ row.config.name
    → config.display ≡ display_or row.config asked
    → (is_some asked && is_shown_by_another f row.number (display_or row.config asked)) ≡ false → check_new config None ≡ 0
    → HasNoCycle (map (configured_if number config) f.services)
    → AreServices f.next.service f.next.process (map (configured_if number config) f.services)
configured_rows f number row config asked s found name_same display_same free checked acyclic = record {
  numbered = numbered_map (λ (r : Service). r.number) f.next.service (configured_if number config)
      (number_kept number config) f.services s.numbered;
  first = s.first;
  first_process = s.first_process;
  names = pairs_map (HasText number name config.name) (AreOther name) (AreOther name) (configured_if number config)
      (λ a b p q h. others_kept _ _ a.config.name b.config.name (name_kept number config a p) (name_kept number config b q) h) f.services
      (names_found f number row config s found name_same) s.names;
  displays = displays_apart f number row config asked s found display_same free;
  configs = All-map IsChecked (configured_if number config) f.services (λ k d lt. check_kept number config _ checked (s.configs k d lt));
  kinds = All-map HasKind (configured_if number config) f.services (λ k d lt. kind_kept number config _ (s.kinds k d lt));
  stopped = All-map IsStoppedWithout (configured_if number config) f.services (λ k d lt. stopped_kept number config _ (s.stopped k d lt));
  secured = secured_map (configured_if number config) (security_kept number config) f.services s.secured;
  current = All-map (λ (r : Service). r.process < f.next.process) (configured_if number config) f.services
      (λ k d lt. process_kept number config f.next.process _ (s.current k d lt));
  acyclic = acyclic;
}

pub configured : (f : Flat) (number : ℕ) (row : Service) (config : Config) (asked : Option (List ℕ)) → Sound f → IsFound f number row
    → config.name ≡ row.config.name → config.display ≡ display_or row.config asked
    → (is_some asked && is_shown_by_another f row.number (display_or row.config asked)) ≡ false → check_new config None ≡ 0
    → HasNoCycle (reconfigured f number config).services → Sound (reconfigured f number config)
configured f number row config asked s found name_same display_same free checked acyclic = record {
  services = configured_rows f number row config asked s.services found name_same display_same free checked acyclic;
  handles = s.handles;
  processes = beside f.next.process f.processes f.wanted f.services _ s.processes
      (All-map (HasListed f.processes) (configured_if number config) f.services
      (λ k d lt. listed_kept number config f.processes _ (s.processes.listed k d lt)))
      (starts_kept f.processes (configured_if number config) f.services (start_still number config) s.processes.starting)
      (All-map (IsAskedRight f.processes) (configured_if number config) f.services
      (λ k d lt. asked_kept number config f.processes _ (s.processes.asked k d lt)));
  plans = s.plans;
  dues = s.dues;
  deadlines = s.deadlines;
  registrations = s.registrations;
}

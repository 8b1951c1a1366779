-- The first service that lives in a shared process.
use Rattle.std.proofs.Common.{ℕ, ◌≡◌, ◌∙◌, ◌<◌, ◌≤◌, ◌+◌, ◌==◌, ◌&&◌, ◌||◌, not, nat_lt, suc, Bool, true, false, cond, List, [], ◌∷◌}
use Rattle.std.proofs.Common.{Option, None, Some, find, refl, ap, sym, arith, take, get_or, length, eq-eqb, eqb-true, inl, inr}
use Rattle.std.specs.Prelude.{All, AllPairs, is_none, is_some, option_map}
use Rattle.std.specs.List.{AllByRecursion, list_any}
use Rattle.std.proofs.lemmas.Bool.{cases_Bool, ne_eqb}
use Rattle.std.proofs.lemmas.Bool.Decides.{nat_tests}
use Rattle.std.proofs.lemmas.List.Folds.{list_any_more}
use Rattle.scm_model.specs.declared.flat.Flat.{Flat}
use Rattle.scm_model.specs.declared.flat.Limits.{Limits}
use Rattle.scm_model.specs.declared.flat.Process.{Process}
use Rattle.scm_model.specs.declared.flat.Service.{Service}
use Rattle.scm_model.specs.Processes.{is_by, is_shared}
use Rattle.scm_model.specs.Ready.{is_ready}
use Rattle.scm_model.specs.Rows.{service_of}
use Rattle.start_plan.specs.Hosts.{host, host_at, is_sharing, offers}
use Rattle.start_plan.specs.Moves.{cause_at, entering_at, is_full, may_enter}
use Rattle.start_plan.specs.declared.field.Entering.TheVariants as entering
use Rattle.scm_tables.specs.Listed.{process_shown, processes_in}
use Rattle.scm_tables.specs.Offering.{earlier, lives_among, lives_in, offers_among, shares_path}
use Rattle.scm_tables.specs.declared.process_rows.ProcessRow.{ProcessRow}
use Rattle.scm_tables.proofs.Falling.{Rises, rises}

-- ## The earlier of two

found_above : (n : ℕ) (q : Service → Bool) (rows : List Service) (row : Service)
    → AllByRecursion (λ (other : Service). n < other.number) rows → find q rows ≡ Some row → n < row.number
found_above n q [] row above found = absurd (cc found)
found_above n q (one ∷ rows) row above found =
    elim (q one) as (λ b. cond b (Some one) (find q rows) ≡ Some row → n < row.number) [
      | true ↦ λ h. let same : one ≡ row = cc h in rw (sym same) above.0
      | false ↦ λ h. found_above n q rows row above.1 h
    ] found

less : (a b : ℕ) → a < b → nat_lt a b ≡ true
less a b lt = grind (arith, nat_tests)

not_less : (a b : ℕ) → a < b → nat_lt b a ≡ false
not_less a b lt = grind (arith, nat_tests)

first_stays : (row : Service) (other : Option Service) → ((later : Service) → other ≡ Some later → row.number < later.number)
    → earlier (Some row) other ≡ Some row
first_stays row None later = refl
first_stays row (Some other) later =
    ap (λ b. cond b (Some other) (Some row)) (not_less row.number other.number (later other refl))

first_comes : (row : Service) (other : Option Service) → ((later : Service) → other ≡ Some later → row.number < later.number)
    → earlier other (Some row) ≡ Some row
first_comes row None later = refl
first_comes row (Some other) later = ap (λ b. cond b (Some row) (Some other)) (less row.number other.number (later other refl))

first_twice : (row : Service) → earlier (Some row) (Some row) ≡ Some row
first_twice row = elim (nat_lt row.number row.number) as (λ b. cond b (Some row) (Some row) ≡ Some row) [ true ↦ refl | false ↦ refl ]

-- the first of those that pass one test or the other
found_either : (p q : Service → Bool) (rows : List Service) → Rises rows
    → find (λ (row : Service). p row || q row) rows ≡ earlier (find p rows) (find q rows)
found_either p q [] rising = refl
found_either p q (row ∷ rows) rising =
    elim (p row) as (λ b. cond (b || q row) (Some row) (find (λ (r : Service). p r || q r) rows)
    ≡ earlier (cond b (Some row) (find p rows)) (cond (q row) (Some row) (find q rows))) [
      | true ↦ sym (elim (q row) as (λ b. earlier (Some row) (cond b (Some row) (find q rows)) ≡ Some row) [
        | true ↦ first_twice row
        | false ↦ first_stays row (find q rows) (λ later found. found_above row.number q rows later rising.0 found)
      ])
      | false ↦ elim (q row) as (λ b. cond b (Some row) (find (λ (r : Service). p r || q r) rows)
          ≡ earlier (find p rows) (cond b (Some row) (find q rows))) [
            | true ↦ sym (first_comes row (find p rows) (λ later found. found_above row.number p rows later rising.0 found))
            | false ↦ found_either p q rows rising.1
          ]
    ]

-- tests that have the same results find the same
found_same : (p q : Service → Bool) → ((row : Service) → p row ≡ q row) → (rows : List Service) → find p rows ≡ find q rows
found_same p q same [] = refl
found_same p q same (row ∷ rows) =
    ap (λ b. cond b (Some row) (find p rows)) (same row) ∙ ap (λ o. cond (q row) (Some row) o) (found_same p q same rows)

none_found : (rows : List Service) → find (λ (row : Service). false) rows ≡ None
none_found [] = refl
none_found (row ∷ rows) = none_found rows

-- ## Process by process

-- the first service of a path in some processes
abbrev pub first_of : List ProcessRow → List ℕ → List Service → Option Service
first_of processes path rows = find (λ (row : Service). lives_among (processes_in processes) row && shares_path path row) rows

pub first_of_none : (path : List ℕ) (rows : List Service) → first_of [] path rows ≡ None
first_of_none path rows = none_found rows

-- a process that isn't shared has none
pub none_offered : (process : ProcessRow) (path : List ℕ) (rows : List Service) → process.shared ≡ false
    → find (λ (row : Service). lives_in (process_shown process) row && shares_path path row) rows ≡ None
none_offered process path rows alone =
    found_same (λ row. lives_in (process_shown process) row && shares_path path row) (λ row. false) (λ row. rw alone refl) rows
    ∙ none_found rows

-- one that is has those whose process it is
pub all_offered : (process : ProcessRow) (path : List ℕ) (rows : List Service) → process.shared ≡ true
    → find (λ (row : Service). is_by process.number row && shares_path path row) rows
    ≡ find (λ (row : Service). lives_in (process_shown process) row && shares_path path row) rows
all_offered process path rows shared =
    found_same (λ row. is_by process.number row && shares_path path row)
    (λ row. lives_in (process_shown process) row && shares_path path row) (λ row. rw shared refl) rows

so_far : (processes : List ProcessRow) (row : Service)
    → lives_among (processes_in processes) row ≡ list_any (λ (process : ProcessRow). lives_in (process_shown process) row) processes
so_far [] row = refl
so_far (process ∷ processes) row = ap (λ b. lives_in (process_shown process) row || b) (so_far processes row)

either_and : (a b c : Bool) → ((a && c) || (b && c)) ≡ ((a || b) && c)
either_and true b true = refl
either_and true true false = refl
either_and true false false = refl
either_and false b c = refl

-- the same with one process more
pub first_of_more : (processes : List ProcessRow) (i : ℕ) (process : ProcessRow) (path : List ℕ) (rows : List Service)
    → AllPairs (λ (a b : Service). a.number < b.number) rows → i < length processes → process ≡ get_or processes i process
    → earlier (first_of (take i processes) path rows)
    (find (λ (row : Service). lives_in (process_shown process) row && shares_path path row) rows)
    ≡ first_of (take (i + 1) processes) path rows
first_of_more processes i process path rows rising within is =
    let test = λ (row : Service) (p : ProcessRow). lives_in (process_shown p) row in
    let before = λ (row : Service). lives_among (processes_in (take i processes)) row && shares_path path row in
    let here = λ (row : Service). lives_in (process_shown process) row && shares_path path row in
    let after = λ (row : Service). lives_among (processes_in (take (i + 1) processes)) row && shares_path path row in
    let same : (row : Service) → (before row || here row) ≡ after row = λ row.
    either_and (lives_among (processes_in (take i processes)) row) (test row process) (shares_path path row)
    ∙ ap (λ b. b && shares_path path row)
    (ap (λ b. b || test row process) (so_far (take i processes) row)
    ∙ ap (λ (p : ProcessRow). list_any (test row) (take i processes) || test row p) is
    ∙ sym (list_any_more (test row) processes i process within)
    ∙ sym (so_far (take (i + 1) processes) row)) in
    sym (found_either before here rows (rises rows rising)) ∙ found_same (λ row. before row || here row) after same rows

-- ## Process by number

-- numbers rise from above this one
abbrev AreAbove : ℕ → List ProcessRow → Type 0
AreAbove n [] = Unit {0}
AreAbove n (process ∷ processes) = (n < process.number) × AreAbove process.number processes

are_above : (n : ℕ) (processes : List ProcessRow) → AllPairs (λ (a b : ProcessRow). a.number < b.number) processes
    → All (λ (process : ProcessRow). n < process.number) processes → AreAbove n processes
are_above n [] rising above = tt
are_above n (process ∷ processes) rising above = (
  above 0 process (omega arith),
  are_above process.number processes (λ i j d lt within. rising (suc i) (suc j) d (omega arith) (omega arith))
      (λ k d lt. rising 0 (suc k) d (omega arith) (omega arith)),
)

no_other : (a b c : Bool) → ((a && (b && false)) || c) ≡ c
no_other true true c = refl
no_other true false c = refl
no_other false b c = refl

this_one : (shared : Bool) → ((shared && true) || false) ≡ shared
this_one true = refl
this_one false = refl

none_lives : (n : ℕ) (processes : List ProcessRow) (row : Service) → AreAbove n processes → row.process ≤ n
    → lives_among (processes_in processes) row ≡ false
none_lives n [] row above low = refl
none_lives n (process ∷ processes) row above low =
    let other = ne_eqb row.process process.number (omega (arith, above.0, low)) in
    rw other (no_other process.shared (not (process.number == 0)) (lives_among (processes_in processes) row))
    ∙ none_lives process.number processes row above.1 (omega (arith, above.0, low))

-- whether a service lives in a shared one is whether its process is shared
lives_by_number : (n : ℕ) (processes : List ProcessRow) (row : Service) → AreAbove n processes
    → lives_among (processes_in processes) row
    ≡ is_shared (find (λ (process : Process). process.number == row.process) (processes_in processes))
lives_by_number n [] row above = refl
lives_by_number n (process ∷ processes) row above =
    elim (cases_Bool (process.number == row.process)) [
      | inl is ↦
          let same : process.number ≡ row.process = eqb-true process.number row.process is in
          let some = ne_eqb process.number 0 (omega (arith, above.0)) in
          let others = none_lives process.number processes row above.1 (omega (arith, same)) in
          rw (is, eq-eqb row.process process.number (sym same), some, others) (this_one process.shared)
      | inr out ↦
          let other = ne_eqb row.process process.number (λ same. absurd (cc (out, eq-eqb process.number row.process (sym same)))) in
          rw out (rw other (no_other process.shared (not (process.number == 0)) (lives_among (processes_in processes) row))
          ∙ lives_by_number process.number processes row above.1)
    ]

and_swap : (a b : Bool) → (a && b) ≡ (b && a)
and_swap true true = refl
and_swap true false = refl
and_swap false true = refl
and_swap false false = refl

pub offered : (processes : List ProcessRow) (path : List ℕ) (rows : List Service)
    → AllPairs (λ (a b : ProcessRow). a.number < b.number) processes → All (λ (process : ProcessRow). 1 ≤ process.number) processes
    → first_of processes path rows ≡ find (offers_among (processes_in processes) path) rows
offered processes path rows rising some =
    let above = are_above 0 processes rising (λ k d lt. omega (arith, some k d lt)) in
    found_same (λ row. lives_among (processes_in processes) row && shares_path path row) (offers_among (processes_in processes) path)
    (λ row. and_swap (lives_among (processes_in processes) row) (shares_path path row)
    ∙ ap (λ b. shares_path path row && b) (lives_by_number 0 processes row above)) rows

-- the process of the first that offers one is the host
pub host_is : (f : Flat) (row : Service) (found : Option Service) → is_sharing row ≡ true
    → found ≡ find (offers_among f.processes row.config.path) f.services
    → option_map (λ (other : Service). other.process) found ≡ host_at f (Some row)
host_is f row found sharing is =
    ap (option_map (λ (other : Service). other.process)) is
    ∙ sym (ap (λ b. cond b (option_map (λ (other : Service). other.process) (find (offers f row.config.path) f.services)) None) sharing)

-- ## Room for a new process

no_cause : (m d u p k : Bool) → entering_at (cond m 1072 (cond d 1058 (cond u 1068 (cond p 1054 0)))) k ≡ entering.Yes → p ≡ false
no_cause true d u p k can = absurd cc
no_cause false true u p k can = absurd cc
no_cause false false true p k can = absurd cc
no_cause false false false true k can = absurd cc
no_cause false false false false k can = refl

fits_new : (full : Bool) (o : Option ℕ) → (full && is_none o) ≡ false → o ≡ None → full ≡ false
fits_new full None fits none = elim full as (λ b. (b && true) ≡ false → b ≡ false) [ true ↦ λ e. e | false ↦ λ e. e ] fits
fits_new full (Some process) fits none = absurd cc

fits_at : (l : Limits) (f : Flat) (o : Option Service) → entering_at (cause_at l f false o) (is_some f.lock) ≡ entering.Yes
    → host_at f o ≡ None → is_full l f ≡ false
fits_at l f None can none = absurd cc
fits_at l f (Some row) can none =
    fits_new (is_full l f) (host_at f (Some row))
    (no_cause row.marked (row.config.start == 4) (not (is_ready f row) || not (row.status.state == 1) || false)
    (is_full l f && is_none (host_at f (Some row))) (is_some f.lock) can) none

-- a service that may enter and has no host finds room for a process
pub room_left : (l : Limits) (f : Flat) (service : ℕ) → may_enter l f service ≡ entering.Yes → host f service ≡ None
    → is_full l f ≡ false
room_left l f service can none = fits_at l f (service_of f service) can none

-- A journal grows by the entries of its changes.
use Rattle.std.proofs.Common.{◌≡◌, ℕ, ◌<◌, ◌≤◌, List, [], ◌∷◌, ◌++◌, length, length-append, Some, sym, ap, ◌∙◌, append_assoc, append-nil}
use Rattle.std.proofs.Common.{fold, arith}
use Rattle.std.proofs.lemmas.Grind.{common_steps, flat_map-append}
use Rattle.std.specs.List.{flat_map}
use Rattle.scm_model.specs.declared.steps.Change.{Change}
use Rattle.record_journal.specs.Bearing.{and_change, and_changes, stood}
use Rattle.record_journal.specs.Format.{entry_bytes, entry_in, front_at, header, journal_bytes, piece, switch, turn_from}
use Rattle.scm_model.specs.declared.steps.Form.{Form}
use Rattle.scm_model.specs.declared.steps.Form.TheVariants.{First, Second}

no_front : (kept : ℕ) (form : Form) → 0 < kept → front_at kept form ≡ turn_from form
no_front kept form lt = grind (arith, common_steps)

is_long : (change : Change) (changes : List Change) → 0 < length (journal_bytes (change ∷ changes))
unfolding entry_in
is_long change changes = omega arith

one : (old : List Change) (change : Change) → journal_bytes old ++ piece (length (journal_bytes old)) Second change ≡ journal_bytes (old
    ++ change ∷ [])
unfolding piece
one [] change = sym (append-nil (header ++ entry_bytes change))
one (first ∷ old) change =
    ap (λ (front : List ℕ). journal_bytes (first ∷ old) ++ (front ++ entry_bytes change))
    (no_front (length (journal_bytes (first ∷ old))) Second (is_long first old))
    ∙ (append_assoc header (flat_map entry_bytes (first ∷ old)) (entry_bytes change)
    ∙ ap (λ (entries : List ℕ). header ++ entries) (sym (flat_map-append entry_bytes (first ∷ old) (change ∷ [])
    ∙ ap (λ (last : List ℕ). flat_map entry_bytes (first ∷ old) ++ last) (append-nil (entry_bytes change)))))

pub grown : (old more : List Change) → and_changes (Some (stood Second (journal_bytes old))) more
    ≡ Some (stood Second (journal_bytes (old ++ more)))
grown old [] = ap (λ (all : List Change). Some (stood Second (journal_bytes all))) (sym (append-nil old))
grown old (change ∷ more) =
    ap (λ (bytes : List ℕ). fold and_change (Some (stood Second bytes)) more) (one old change)
    ∙ (grown (old ++ change ∷ []) more
    ∙ ap (λ (all : List Change). Some (stood Second (journal_bytes all))) (append_assoc old (change ∷ []) more))

-- ## Behind a journal of form 1

later : (bytes : List ℕ) (change : Change) → 1 ≤ length bytes → piece (length bytes) Second change ≡ entry_bytes change
unfolding piece
later bytes change some = ap (λ (front : List ℕ). front ++ entry_bytes change) (no_front (length bytes) Second (omega (arith, some)))

first : (bytes : List ℕ) (change : Change) → 1 ≤ length bytes → piece (length bytes) First change ≡ switch ++ entry_bytes change
unfolding piece
first bytes change some = ap (λ (front : List ℕ). front ++ entry_bytes change) (no_front (length bytes) First (omega (arith, some)))

pub entries_more : (bytes : List ℕ) (more : List Change) → 1 ≤ length bytes
    → and_changes (Some (stood Second bytes)) more ≡ Some (stood Second (bytes ++ flat_map entry_bytes more))
entries_more bytes [] some = ap (λ (all : List ℕ). Some (stood Second all)) (sym (append-nil bytes))
entries_more bytes (change ∷ more) some =
    let one = bytes ++ entry_bytes change in
    let long = length-append bytes (entry_bytes change) in
    ap (λ (piece : List ℕ). fold and_change (Some (stood Second (bytes ++ piece))) more) (later bytes change some)
    ∙ entries_more one more (omega (arith, long, some))
    ∙ ap (λ (all : List ℕ). Some (stood Second all)) (append_assoc bytes (entry_bytes change) (flat_map entry_bytes more))

pub ended_first : (bytes : List ℕ) (change : Change) (more : List Change) → 1 ≤ length bytes
    → and_changes (Some (stood First bytes)) (change ∷ more)
    ≡ Some (stood Second (bytes ++ switch ++ flat_map entry_bytes (change ∷ more)))
ended_first bytes change more some =
    let entry = entry_bytes change in
    let one = bytes ++ (switch ++ entry) in
    let rest = flat_map entry_bytes more in
    let long = length-append bytes (switch ++ entry) in
    ap (λ (piece : List ℕ). fold and_change (Some (stood Second (bytes ++ piece))) more) (first bytes change some)
    ∙ entries_more one more (omega (arith, long, some))
    ∙ ap (λ (all : List ℕ). Some (stood Second (all ++ rest))) (sym (append_assoc bytes switch entry))
    ∙ ap (λ (all : List ℕ). Some (stood Second all)) (append_assoc (bytes ++ switch) entry rest)

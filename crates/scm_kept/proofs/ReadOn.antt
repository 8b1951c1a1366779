-- A journal is read behind what was read before.
use Rattle.std.proofs.Common.{ℕ, zero, suc, ◌≡◌, ◌≢◌, ◌∙◌, ◌≤◌, ◌-◌, ◌+◌, Bool, true, false, cond, List, [], ◌∷◌, ◌++◌, None, Some, Ok, Err}
use Rattle.std.proofs.Common.{take, drop, length, length-append, append_assoc, refl, sym, ap, subst, arith, nat_lt, ltb-false, ne_eqb, eqb}
use Rattle.std.proofs.Common.{⊎_elim, inl, inr, ◌⊎◌}
use Rattle.std.specs.Prelude.{Result, option_and_then}
use Rattle.std.specs.Int.{w32, from_le_bytes}
use Rattle.std.specs.List.{starts_with}
use Rattle.std.proofs.lemmas.Bool.Decides.{Decides-eqb}
use Rattle.std.proofs.lemmas.List.{append-nil, length-take-le, nil_from_length, take-append-drop, take_all, take_at}
use Rattle.std.proofs.lemmas.Slice.Eq.{starts_is}
use Rattle.scm_model.specs.declared.flat.Config.{Config}
use Rattle.scm_model.specs.declared.steps.Change.{Change}
use Rattle.scm_model.specs.declared.steps.Form.{Form}
use Rattle.scm_model.specs.declared.steps.Form.TheVariants.{First, Second}
use Rattle.service_record.specs.Reading.{Item, take_number}
use Rattle.record_journal.specs.Bearing.{Stood, piece_after, stood}
use Rattle.record_journal.specs.Entries.{Entries, Whole, after_said, all_from, can_replay, entries, entries_from, first_of, followed}
use Rattle.record_journal.specs.Entries.{form_after, if_read, is_part_header, is_unfinished, last_of, none_more, read_journal, replay_of}
use Rattle.record_journal.specs.Entries.{replayable, said_in, whole_entry, with_body, with_change, with_said}
use Rattle.record_journal.specs.Format.{HasEntry, entry_bytes, entry_in, header, header_of, piece, switch, turn_from}
use Rattle.record_journal.specs.Replay.{after_change, replayed}
use Rattle.record_journal.specs.declared.reading.Said.{Said}
use Rattle.record_journal.specs.declared.reading.Said.TheVariants.{Says, Turns}
use Rattle.record_journal.specs.declared.replaying.Replay.{Replay}
use Rattle.record_journal.proofs.Back.{body_back, entry_back, headed, header_long, replayed_both, switch_back, with_are, with_changes}
use Rattle.record_journal.proofs.Readers.{number_before}
use Rattle.scm_kept.specs.Read.{IsJournalOf, IsReadAgain, IsReadOn}

-- ## An entry, whatever stands behind it

body_before : (kind : ℕ) (body x : List ℕ) (size : ℕ) → length body ≡ size
    → with_body kind (Some (size, body ++ x)) ≡ Some (record { kind = kind; body = body; rest = x })
body_before kind body x size is = ap (λ n. with_body kind (Some (n, body ++ x))) (sym is) ∙ body_back kind body x

-- what a whole entry is made of
record Parted (bytes : List ℕ) (whole : Whole) : Type 0 where
  front : List ℕ
  parts : bytes ≡ front ++ whole.rest
  some : 1 ≤ length front
  any : (x : List ℕ) → whole_entry (front ++ x) ≡ Some (record { kind = whole.kind; body = whole.body; rest = x })

parted_at : (kind : ℕ) (p body rest : List ℕ) → length p ≡ 4 → length body ≡ from_le_bytes w32 p
    → Parted (kind ∷ p ++ (body ++ rest)) (record { kind = kind; body = body; rest = rest })
parted_at kind p body rest four size = record {
  front = kind ∷ p ++ body;
  parts = ap (λ (xs : List ℕ). kind ∷ xs) (sym (append_assoc p body rest));
  some = omega arith;
  any = λ x.
      ap (λ (xs : List ℕ). with_body kind (if_read (take_number xs))) (append_assoc p body x)
      ∙ ap (λ (r : Item ℕ). with_body kind (if_read r)) (number_before p (body ++ x) four)
      ∙ body_before kind body x (from_le_bytes w32 p) size;
}

with_size : (kind : ℕ) (p r : List ℕ) (whole : Whole) → length p ≡ 4 → with_body kind (Some (from_le_bytes w32 p, r)) ≡ Some whole
    → Parted (kind ∷ p ++ r) whole
with_size kind p r whole four is =
    let size = from_le_bytes w32 p in
    elim (nat_lt (length r) size) as (λ b. nat_lt (length r) size ≡ b →
    cond b None (Some (record { kind = kind; body = take size r; rest = drop size r })) ≡ Some whole → Parted (kind ∷ p ++ r) whole) [
      | true ↦ λ e none. absurd cc
      | false ↦ λ e some.
          let enough = ltb-false (length r) size e in
          let made = parted_at kind p (take size r) (drop size r) four (length-take-le size r enough) in
          let same : record { kind = kind; body = take size r; rest = drop size r } ≡ whole = cc in
          subst (λ (w : Whole). Parted (kind ∷ p ++ r) w) same (subst (λ (xs : List ℕ). Parted (kind ∷ p ++ xs)
          (record { kind = kind; body = take size r; rest = drop size r })) (take-append-drop size r) made)
    ] refl is

parted : (bytes : List ℕ) (whole : Whole) → whole_entry bytes ≡ Some whole → Parted bytes whole
parted [] whole is = absurd cc
parted (kind ∷ bytes) whole is =
    elim (nat_lt (length bytes) 4) as (λ b. nat_lt (length bytes) 4 ≡ b
    → with_body kind (if_read (cond b (Err (length bytes)) (Ok (from_le_bytes w32 (take 4 bytes), drop 4 bytes)))) ≡ Some whole
    → Parted (kind ∷ bytes) whole) [
      | true ↦ λ e none. absurd cc
      | false ↦ λ e some.
          let enough = ltb-false (length bytes) 4 e in
          subst (λ (xs : List ℕ). Parted (kind ∷ xs) whole) (take-append-drop 4 bytes)
          (with_size kind (take 4 bytes) (drop 4 bytes) whole (length-take-le 4 bytes enough) some)
    ] refl is

-- ## Entry after entry, whatever stands behind them

-- so many turns more
unfoldable pub further : ℕ → ℕ → ℕ
further zero m = m
further (suc n) m = suc (further n m)

further_is : (n m : ℕ) → further n m ≡ n + m
unfolding further
further_is zero m = omega arith
further_is (suc n) m = let rest = further_is n m in omega (arith, rest)

-- entries stand at the front, and are read so whatever stands behind them
record Reaches (form : Form) (configs : List Config) (bytes : List ℕ) (read : Entries) : Type 0 where
  front : List ℕ
  last : List ℕ
  parts : bytes ≡ front ++ last
  left : length last ≡ read.left
  count : ℕ
  few : count ≤ length front
  any : (m : ℕ) (x : List ℕ) → entries_from (further count m) form configs (front ++ x)
      ≡ with_changes read.changes (entries_from m read.form (replayed configs read.changes) x)

ok_is : {A : Type 0} (x y : A) → ◌≡◌ {A = Result A ℕ} (Ok x) (Ok y) → x ≡ y
ok_is x y e = cc

here : (form : Form) (configs : List Config) (bytes : List ℕ) (read : Entries)
    → ◌≡◌ {A = Result Entries ℕ} (Ok (none_more form (length bytes))) (Ok read) → Reaches form configs bytes read
unfolding with_changes further
here form configs bytes read is =
    subst (λ (r : Entries). Reaches form configs bytes r) (ok_is (none_more form (length bytes)) read is) (record {
      front = [];
      last = bytes;
      parts = refl;
      left = refl;
      count = 0;
      few = omega arith;
      any = λ m x. refl;
    })

-- what is read with an entry before it
abbrev and_before : Said → Entries → Entries
and_before (Says change) later = record later { changes = change ∷ later.changes }
and_before Turns later = later

later_read : (said : Said) (read : Result Entries ℕ) (all : Entries) → with_said said read ≡ Ok all → (later : Entries)
    × (read ≡ Ok later) × (and_before said later ≡ all)
later_read (Says change) (Ok later) all is = (later, refl, ok_is _ all is)
later_read (Says change) (Err left) all is = absurd cc
later_read Turns (Ok later) all is = (later, refl, ok_is _ all is)
later_read Turns (Err left) all is = absurd cc

-- an entry is read before others
entry_first : (n : ℕ) (form : Form) (configs : List Config) (bytes : List ℕ) (whole : Whole) (said : Said) (front x : List ℕ)
    → (p : Parted bytes whole) → option_and_then (replayable configs) (said_in form whole.kind whole.body) ≡ Some said
    → entries_from (suc n) form configs ((p.front ++ front) ++ x)
    ≡ with_said said (entries_from n (form_after form said) (after_said configs said) (front ++ x))
unfolding entries_from
entry_first n form configs bytes whole said front x p done =
    let all = p.front ++ (front ++ x) in
    ap (entries_from (suc n) form configs) (append_assoc p.front front x)
    ∙ ap (first_of (entries_from n) form configs all) (p.any (front ++ x))
    ∙ ap (followed (entries_from n) form configs (length all) (front ++ x)) done

all_parts : (bytes a b rest last : List ℕ) → bytes ≡ a ++ rest → rest ≡ b ++ last → bytes ≡ (a ++ b) ++ last
all_parts bytes a b rest last first second = first ∙ ap (λ (xs : List ℕ). a ++ xs) second ∙ sym (append_assoc a b last)

one_longer : (a b : List ℕ) (count : ℕ) → 1 ≤ length a → count ≤ length b → suc count ≤ length (a ++ b)
one_longer a b count some few = let long = length-append a b in omega (arith, long, some, few)

behind : (form : Form) (configs : List Config) (bytes : List ℕ) (whole : Whole) (said : Said) (later : Entries) → Parted bytes whole
    → option_and_then (replayable configs) (said_in form whole.kind whole.body) ≡ Some said
    → Reaches (form_after form said) (after_said configs said) whole.rest later → Reaches form configs bytes (and_before said later)
unfolding with_changes further
behind form configs bytes whole (Says change) later p done r = record {
  front = p.front ++ r.front;
  last = r.last;
  parts = all_parts bytes p.front r.front whole.rest r.last p.parts r.parts;
  left = r.left;
  count = suc r.count;
  few = one_longer p.front r.front r.count p.some r.few;
  any = λ m x.
      entry_first (further r.count m) form configs bytes whole (Says change) r.front x p done ∙ ap (with_change change) (r.any m x);
}
behind form configs bytes whole Turns later p done r = record {
  front = p.front ++ r.front;
  last = r.last;
  parts = all_parts bytes p.front r.front whole.rest r.last p.parts r.parts;
  left = r.left;
  count = suc r.count;
  few = one_longer p.front r.front r.count p.some r.few;
  any = λ m x. entry_first (further r.count m) form configs bytes whole Turns r.front x p done ∙ r.any m x;
}

-- what ends a journal that is read
last_is : (form : Form) (left : ℕ) (b : Bool) (read : Entries) → last_of form left b ≡ Ok read
    → ◌≡◌ {A = Result Entries ℕ} (Ok (none_more form left)) (Ok read)
last_is form left true read is = is
last_is form left false read is = absurd cc

reaches : (n : ℕ) (form : Form) (configs : List Config) (bytes : List ℕ) (read : Entries) → entries_from n form configs bytes ≡ Ok read
    → Reaches form configs bytes read
unfolding entries_from
reaches zero form configs bytes read is = here form configs bytes read is
reaches (suc n) form configs bytes read is =
    elim (whole_entry bytes) as (λ o. whole_entry bytes ≡ o → first_of (entries_from n) form configs bytes o ≡ Ok read
    → Reaches form configs bytes read) [
      | None ↦ λ e ended. here form configs bytes read (last_is form (length bytes) (is_unfinished form bytes) read ended)
      | Some whole ↦ λ e goes.
          elim (option_and_then (replayable configs) (said_in form whole.kind whole.body)) as (λ o. option_and_then (replayable configs)
          (said_in form whole.kind whole.body) ≡ o
          → followed (entries_from n) form configs (length bytes) whole.rest o ≡ Ok read → Reaches form configs bytes read) [
            | None ↦ λ d bad. absurd cc
            | Some said ↦ λ d good.
                let after = form_after form said in
                let now = after_said configs said in
                let p = later_read said (entries_from n after now whole.rest) read good in
                subst (λ (r : Entries). Reaches form configs bytes r) p.2
                (behind form configs bytes whole said p.0 (parted bytes whole e) d (reaches n after now whole.rest p.0 p.1))
          ] refl goes
    ] refl is

-- ## A journal

-- a header, and entries that come to these configurations and end in this form
pub record IsStanding (bytes : List ℕ) (form : Form) (configs : List Config) : Type 0 where
  pub first : Form
  pub front : List ℕ
  pub changes : List Change
  pub count : ℕ
  pub headed : bytes ≡ header_of first ++ front
  pub few : count ≤ length front
  pub any : (m : ℕ) (x : List ℕ) → entries_from (further count m) first [] (front ++ x)
      ≡ with_changes changes (entries_from m form configs x)
  pub comes : replayed [] changes ≡ configs

-- what stands is read with what stands behind it
pub standing_with : (bytes : List ℕ) (form : Form) (configs : List Config) (x : List ℕ) (more : List Change) (left : ℕ) (after : Form)
    → IsStanding bytes form configs
    → ((m : ℕ) → length x ≤ m → entries_from m form configs x ≡ Ok (record { changes = more; left = left; form = after }))
    → read_journal (bytes ++ x) ≡ Ok (record { configs = replayed configs more; kept = length (bytes ++ x) - left; form = after })
standing_with bytes form configs x more left after s reads =
    let rest = s.front ++ x in
    let m = length rest - s.count in
    let long = length-append s.front x in
    let few = s.few in
    let are = further_is s.count m in
    let all : further s.count m ≡ length rest = omega (arith, long, few, are) in
    let enough : length x ≤ m = omega (arith, long, few) in
    let read : all_from s.first [] rest ≡ Ok (record { changes = s.changes ++ more; left = left; form = after }) =
    ap (λ n. entries_from n s.first [] rest) (sym all) ∙ s.any m x ∙ ap (with_changes s.changes) (reads m enough)
    ∙ with_are s.changes more left after in
    let whole : bytes ++ x ≡ header_of s.first ++ rest = ap (λ (xs : List ℕ). xs ++ x) s.headed
    ∙ append_assoc (header_of s.first) s.front x in
    let size = length (bytes ++ x) in
    ap (λ (xs : List ℕ). replay_of size [] (entries xs)) whole
    ∙ ap (replay_of size []) (headed s.first rest ∙ read)
    ∙ ap (λ (cs : List Config). Ok (record { configs = cs; kept = size - left; form = after }))
    (replayed_both [] s.changes more ∙ ap (λ (cs : List Config). replayed cs more) s.comes)

-- a read that leaves nothing keeps all
none_left : (bytes : List ℕ) (form : Form) (configs : List Config)
    → read_journal bytes ≡ Ok (record { configs = configs; kept = length bytes - 0; form = form }) → IsJournalOf (stood form bytes) configs
none_left bytes form configs is = is ∙ ap (λ n. Ok (record { configs = configs; kept = n; form = form })) (omega arith)

nothing_more : (m : ℕ) (form : Form) (configs : List Config) → entries_from m form configs [] ≡ Ok (none_more form 0)
unfolding entries_from
nothing_more zero form configs = refl
nothing_more (suc m) form configs = refl

standing_read : (bytes : List ℕ) (form : Form) (configs : List Config) → IsStanding bytes form configs
    → IsJournalOf (stood form bytes) configs
standing_read bytes form configs s =
    subst (λ (xs : List ℕ). IsJournalOf (stood form xs) configs) (append-nil bytes)
    (none_left (bytes ++ []) form configs (standing_with bytes form configs [] [] 0 form s (λ m enough. nothing_more m form configs)))

long_entry : (change : Change) → 1 ≤ length (entry_bytes change)
unfolding entry_in
long_entry change = omega arith

entry_read : (m : ℕ) (configs : List Config) (change : Change) → HasEntry change → can_replay configs change ≡ true
    → length (entry_bytes change) ≤ m
    → entries_from m Second configs (entry_bytes change) ≡ Ok (record { changes = change ∷ []; left = 0; form = Second })
entry_read zero configs change entry can enough = absurd (let some = long_entry change in omega (arith, enough, some))
entry_read (suc m) configs change entry can enough =
    ap (entries_from (suc m) Second configs) (sym (append-nil (entry_bytes change)))
    ∙ entry_back m Second configs change [] entry can
    ∙ ap (with_change change) (nothing_more m Second (after_change configs change))

-- an entry, before which another form ends
turn_read : (form : Form) (m : ℕ) (configs : List Config) (change : Change) → HasEntry change → can_replay configs change ≡ true
    → length (turn_from form ++ entry_bytes change) ≤ m
    → entries_from m form configs (turn_from form ++ entry_bytes change) ≡ Ok (record { changes = change ∷ []; left = 0; form = Second })
turn_read Second m configs change entry can enough = entry_read m configs change entry can enough
turn_read First zero configs change entry can enough =
    absurd (let long = length-append switch (entry_bytes change) in omega (arith, enough, long))
turn_read First (suc m) configs change entry can enough =
    let long = length-append switch (entry_bytes change) in
    switch_back m configs (entry_bytes change) ∙ entry_read m configs change entry can (omega (arith, enough, long))

standing_more : (bytes : List ℕ) (form : Form) (configs : List Config) (change : Change) → IsStanding bytes form configs → HasEntry change
    → can_replay configs change ≡ true
    → IsJournalOf (stood Second (bytes ++ (turn_from form ++ entry_bytes change))) (after_change configs change)
standing_more bytes form configs change s entry can =
    none_left (bytes ++ (turn_from form ++ entry_bytes change)) Second (after_change configs change)
    (standing_with bytes form configs (turn_from form ++ entry_bytes change) (change ∷ []) 0 Second s
    (λ m enough. turn_read form m configs change entry can enough))

-- ## What was read

-- nothing of a journal
abbrev nothing_read : Replay
nothing_read = record { configs = []; kept = 0; form = Second }

abbrev WasRead : List ℕ → Replay → Type 0
WasRead bytes replay = (replay ≡ nothing_read) ⊎ IsStanding (take replay.kept bytes) replay.form replay.configs

replay_is : (size : ℕ) (read : Result Entries ℕ) (replay : Replay) → replay_of size [] read ≡ Ok replay → (e : Entries) × (read ≡ Ok e)
    × (record { configs = replayed [] e.changes; kept = size - e.left; form = e.form } ≡ replay)
replay_is size (Ok e) replay is = (e, refl, ok_is _ replay is)
replay_is size (Err left) replay is = absurd cc

of_header : (first : Form) (rest : List ℕ) (replay : Replay)
    → replay_of (length (header_of first ++ rest)) [] (all_from first [] rest) ≡ Ok replay → WasRead (header_of first ++ rest) replay
of_header first rest replay is =
    let head = header_of first in
    let p = replay_is (length (head ++ rest)) (all_from first [] rest) replay is in
    let r = reaches (length rest) first [] rest p.0 p.1 in
    let parts : head ++ rest ≡ (head ++ r.front) ++ r.last = ap (λ (xs : List ℕ). head ++ xs) r.parts
    ∙ sym (append_assoc head r.front r.last) in
    let long = length-append (head ++ r.front) r.last in
    let size = ap length parts in
    let left = r.left in
    let kept : length (head ++ r.front) ≡ length (head ++ rest) - p.0.left = omega (arith, long, size, left) in
    let front : take (length (head ++ rest) - p.0.left) (head ++ rest) ≡ head ++ r.front =
    ap (take (length (head ++ rest) - p.0.left)) parts ∙ take_at (head ++ r.front) r.last (length (head ++ rest) - p.0.left) kept in
    subst (λ (q : Replay). WasRead (head ++ rest) q) p.2
    (inr (record {
      first = first;
      front = r.front;
      changes = p.0.changes;
      count = r.count;
      headed = front;
      few = r.few;
      any = r.any;
      comes = refl;
    }))

-- a whole header of a form stands at the front
of_whole : (first : Form) (bytes : List ℕ) (replay : Replay) → starts_with eqb bytes (header_of first) ≡ true
    → replay_of (length bytes) [] (all_from first [] (drop 8 bytes)) ≡ Ok replay → WasRead bytes replay
of_whole first bytes replay starts is =
    let found = (starts_is Decides-eqb bytes (header_of first) (starts_with eqb bytes (header_of first)) refl).0 starts in
    let whole : bytes ≡ header_of first ++ drop 8 bytes =
    found ∙ ap (λ n. header_of first ++ drop n bytes) (header_long first) in
    subst (λ (xs : List ℕ). WasRead xs replay) (sym whole)
    (of_header first (drop 8 bytes) replay
    (subst (λ (xs : List ℕ). replay_of (length xs) [] (all_from first [] (drop 8 bytes)) ≡ Ok replay) whole is))

of_part : (bytes : List ℕ) (replay : Replay) → replay_of (length bytes) [] (Ok (none_more Second (length bytes))) ≡ Ok replay
    → WasRead bytes replay
of_part bytes replay is =
    inl (sym (ok_is (record { configs = []; kept = length bytes - length bytes; form = Second }) replay is)
    ∙ ap (λ n. record { configs = []; kept = n; form = Second }) (omega arith))

was_read : (bytes : List ℕ) (replay : Replay) → read_journal bytes ≡ Ok replay → WasRead bytes replay
was_read bytes replay is =
    let left = length bytes in
    let second = all_from Second [] (drop 8 bytes) in
    let first = all_from First [] (drop 8 bytes) in
    elim (is_part_header bytes) as (λ b. replay_of left [] (cond b (Ok (none_more Second left))
    (cond (starts_with eqb bytes header) second (cond (starts_with eqb bytes (header_of First)) first (Err left)))) ≡ Ok replay
    → WasRead bytes replay) [
      | true ↦ λ part. of_part bytes replay part
      | false ↦ λ other.
          elim (starts_with eqb bytes header) as (λ b. starts_with eqb bytes header ≡ b
          → replay_of left [] (cond b second (cond (starts_with eqb bytes (header_of First)) first (Err left))) ≡ Ok replay
          → WasRead bytes replay) [
            | true ↦ λ starts read. of_whole Second bytes replay starts read
            | false ↦ λ starts old.
                elim (starts_with eqb bytes (header_of First)) as (λ b. starts_with eqb bytes (header_of First) ≡ b
                → replay_of left [] (cond b first (Err left)) ≡ Ok replay → WasRead bytes replay) [
                  | true ↦ λ begins read. of_whole First bytes replay begins read
                  | false ↦ λ begins bad. absurd cc
                ] refl old
          ] refl other
    ] is

pub read_again : (bytes : List ℕ) (replay : Replay) → IsReadAgain bytes replay
read_again bytes replay is =
    ⊎_elim
    (λ (none : replay ≡ nothing_read).
    subst (λ (q : Replay). IsJournalOf (stood q.form (take q.kept bytes)) q.configs) (sym none) refl)
    (λ (s : IsStanding (take replay.kept bytes) replay.form replay.configs).
    standing_read (take replay.kept bytes) replay.form replay.configs s)
    (was_read bytes replay is)

-- ## One change more

-- a journal is begun
pub record IsNew (bytes : List ℕ) (configs : List Config) : Type 0 where
  pub none : bytes ≡ []
  pub empty : configs ≡ []

pub stands : (s : Stood) (configs : List Config) → IsJournalOf s configs → IsNew s.bytes configs ⊎ IsStanding s.bytes s.form configs
stands s configs is =
    let read : Replay = record { configs = configs; kept = length s.bytes; form = s.form } in
    ⊎_elim
    (λ (same : read ≡ nothing_read).
    inl (record { none = nil_from_length s.bytes (ap (λ (r : Replay). r.kept) same); empty = ap (λ (r : Replay). r.configs) same }))
    (λ (t : IsStanding (take (length s.bytes) s.bytes) s.form configs).
    inr (subst (λ (xs : List ℕ). IsStanding xs s.form configs) (take_all (length s.bytes) s.bytes (omega arith)) t))
    (was_read s.bytes read is)

first_piece : (form : Form) (change : Change) → piece 0 form change ≡ header ++ entry_bytes change
unfolding piece
first_piece form change = refl

pub new_piece : (s : Stood) (change : Change) → s.bytes ≡ [] → piece_after s change ≡ header ++ entry_bytes change
new_piece s change none = ap (λ (xs : List ℕ). piece (length xs) s.form change) none ∙ first_piece s.form change

later_piece : (n : ℕ) (form : Form) (change : Change) → n ≢ 0 → piece n form change ≡ turn_from form ++ entry_bytes change
unfolding piece
later_piece n form change some = rw (ne_eqb n 0 some) refl

pub standing_piece : (s : Stood) (configs : List Config) (change : Change) → IsStanding s.bytes s.form configs
    → piece_after s change ≡ turn_from s.form ++ entry_bytes change
standing_piece s configs change t =
    let long = length-append (header_of t.first) t.front in
    let eight = header_long t.first in
    let all = ap length t.headed in
    later_piece (length s.bytes) s.form change (λ q. absurd (omega (arith, q, all, long, eight)))

-- a header alone
pub header_stands : IsStanding header Second []
unfolding with_changes further
header_stands = record {
  first = Second;
  front = [];
  changes = [];
  count = 0;
  headed = refl;
  few = omega arith;
  any = λ m x. refl;
  comes = refl;
}

pub one_more : (s : Stood) (configs : List Config) (change : Change) → IsJournalOf s configs → HasEntry change
    → can_replay configs change ≡ true
    → IsJournalOf (stood Second (s.bytes ++ piece_after s change)) (after_change configs change)
one_more s configs change is entry can =
    ⊎_elim
    (λ (new : IsNew s.bytes configs).
    let all : s.bytes ++ piece_after s change ≡ header ++ entry_bytes change =
    ap (λ (xs : List ℕ). xs ++ piece_after s change) new.none ∙ new_piece s change new.none in
    let first : can_replay [] change ≡ true = subst (λ (cs : List Config). can_replay cs change ≡ true) new.empty can in
    subst (λ (cs : List Config). IsJournalOf (stood Second (s.bytes ++ piece_after s change)) (after_change cs change)) (sym new.empty)
    (subst (λ (xs : List ℕ). IsJournalOf (stood Second xs) (after_change [] change)) (sym all)
    (standing_more header Second [] change header_stands entry first)))
    (λ (t : IsStanding s.bytes s.form configs).
    subst (λ (xs : List ℕ). IsJournalOf (stood Second (s.bytes ++ xs)) (after_change configs change))
    (sym (standing_piece s configs change t)) (standing_more s.bytes s.form configs change t entry can))
    (stands s configs is)

pub read_on : (s : Stood) (configs : List Config) (changes : List Change) → IsReadOn s configs changes
read_on s configs [] is can = is
read_on s configs (change ∷ changes) is can =
    read_on (stood Second (s.bytes ++ piece_after s change)) (after_change configs change) changes
    (one_more s configs change is can.0 can.1) can.2

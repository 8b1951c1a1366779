-- What the calls of a disk in memory tell.
use Rattle.std.proofs.Common.{◌≡◌, inl, inr, ⊎_elim, ◌⊎◌, ℕ, ◌≤◌, Bool, true, false, List, [], ◌∷◌, ◌++◌, length, Result, Ok, Err, Some}
use Rattle.std.proofs.Common.{refl, sym, ap, subst, arith}
use Rattle.std.specs.Prelude.{OnOk, is_err}
use Rattle.std.proofs.lemmas.List.{length-take}
use Rattle.std.proofs.lemmas.Result.{on_ok_weaker}
use Rattle.journal_disk.specs.Files.{Files, TornFile, file, written}
use Rattle.journal_disk.specs.Images.{DiskState, Elapses, Looks, Opens, Syncs, Writes}
use Rattle.journal_disk.specs.Calls.{InMemory, IsTaken, as_call, is_to_fail, next_fate, past_onto}
use Rattle.journal_disk.specs.Past.{Call, Opened, Read, Sized, Synced, Wrote, disk_state, remains, now_left, now_of, reached}
use Rattle.journal_disk.specs.declared.calls.TakenCall.{TakenCall}
use Rattle.journal_disk.specs.declared.calls.DiskFate.{DiskFate}
use Rattle.journal_disk.specs.declared.calls.DiskFate.TheVariants.{Succeeds, Fails}
use Rattle.journal_disk.proofs.Putting.{torn_piece, torn_none}

-- a call more is the newest
pub past_more : (past : List Call) (calls : List TakenCall) (taken : TakenCall)
    → past_onto past (calls ++ taken ∷ []) ≡ as_call taken ∷ past_onto past calls
past_more past [] taken = refl
past_more past (x ∷ calls) taken = past_more (as_call x ∷ past) calls taken

goes_on : (first : Files) (past : List Call) (call : Call) → Elapses (disk_state first past) (disk_state first (call ∷ past))
goes_on first past call = record {
  later = omega arith;
  nothing_else = λ t c le left. ⊎_elim (λ now. inr now.1) inl left;
  keeps = λ t c le left. inr left;
}

stays : (first : Files) (past : List Call) → Elapses (disk_state first past) (disk_state first past)
stays first past = record {
  later = omega arith;
  nothing_else = λ t c le left. inl left;
  keeps = λ t c le left. left;
}

at_disk : (P : DiskState → Type 0) (f g : Files) (p q : List Call) → g ≡ f → q ≡ p → P (disk_state f p) → P (disk_state g q)
at_disk P f g p q same more h = subst (λ g. P (disk_state g q)) (sym same) (subst (λ q. P (disk_state f q)) (sym more) h)

-- ## Looks

looks_none : (f : Files) (p : List Call) → Looks (disk_state f p) (disk_state f p)
looks_none f p = record { time = stays f p; seen = refl; leaves = λ c now. now }

pub sized : (f g : Files) (p q : List Call) (n : ℕ) (fate : DiskFate) → g ≡ f → (q ≡ Sized n fate ∷ p) ⊎ (q ≡ p)
    → Looks (disk_state f p) (disk_state g q)
sized f g p q n fate same (inl more) =
    at_disk (λ d. Looks (disk_state f p) d) f g (Sized n fate ∷ p) q same more
    (record { time = goes_on f p (Sized n fate); seen = refl; leaves = λ c now. now })
sized f g p q n fate same (inr more) = at_disk (λ d. Looks (disk_state f p) d) f g p q same more (looks_none f p)

pub was_read : (f g : Files) (p q : List Call) (n at size : ℕ) (fate : DiskFate) → g ≡ f → (q ≡ Read n at size fate ∷ p) ⊎ (q ≡ p)
    → Looks (disk_state f p) (disk_state g q)
was_read f g p q n at size fate same (inl more) =
    at_disk (λ d. Looks (disk_state f p) d) f g (Read n at size fate ∷ p) q same more
    (record { time = goes_on f p (Read n at size fate); seen = refl; leaves = λ c now. now })
was_read f g p q n at size fate same (inr more) = at_disk (λ d. Looks (disk_state f p) d) f g p q same more (looks_none f p)

pub either : {A B C D : Type 0} → (A × B) ⊎ (C × D) → A ⊎ C
either (inl h) = inl h.0
either (inr h) = inr h.0

-- ## Writes

pub reached_short : (fate : DiskFate) (bytes : List ℕ) → length (reached fate bytes) ≤ length bytes
reached_short Succeeds bytes = omega arith
reached_short (Fails done) bytes = omega (arith, length-take done bytes)

wrote_more : {E : Type 0} (f : Files) (p : List Call) (n at : ℕ) (bytes : List ℕ) (fate : DiskFate) (r : Result (Unit {0}) E)
    → at ≤ length (file (now_of f p) n) → OnOk r (fate ≡ Succeeds)
    → Writes n at bytes (disk_state f p) (disk_state f (Wrote n at bytes fate ∷ p)) r
wrote_more f p n at bytes fate r within all = record {
  time = goes_on f p (Wrote n at bytes fate);
  told = tt;
  leaves = λ c left.
      ⊎_elim
      (λ is. (
        now_of f p,
        now_left f p,
        subst (λ d. TornFile n at (length bytes) (now_of f p) d) (sym is)
            (torn_piece n at (length bytes) (reached fate bytes) (now_of f p) within (reached_short fate bytes)),
      ))
      (λ was. was) left;
  ok = on_ok_weaker r (λ e. ap (λ (fate : DiskFate). Some (written n at (reached fate bytes) (now_of f p))) e) all;
}

pub wrote : {E : Type 0} (f g : Files) (p q : List Call) (n at : ℕ) (bytes : List ℕ) (fate : DiskFate) (r : Result (Unit {0}) E) → g ≡ f
    → q ≡ Wrote n at bytes fate ∷ p → at ≤ length (file (now_of f p) n) → OnOk r (fate ≡ Succeeds)
    → Writes n at bytes (disk_state f p) (disk_state g q) r
wrote f g p q n at bytes fate r same more within all =
    at_disk (λ d. Writes n at bytes (disk_state f p) d r) f g (Wrote n at bytes fate ∷ p) q same more
    (wrote_more f p n at bytes fate r within all)

pub not_written : {E : Type 0} (f g : Files) (p q : List Call) (n at : ℕ) (bytes : List ℕ) (d : E) → g ≡ f → q ≡ p
    → Writes n at bytes (disk_state f p) (disk_state g q) (Err d)
not_written {E} f g p q n at bytes d same more =
    let r : Result (Unit {0}) E = Err d in
    at_disk (λ e. Writes n at bytes (disk_state f p) e r) f g p q same more (record {
      time = stays f p;
      told = tt;
      leaves = λ c left. (c, left, torn_none n at (length bytes) c);
      ok = tt;
    })

-- ## Syncs

synced_more : {E : Type 0} (f : Files) (p : List Call) (fate : DiskFate) (r : Result (Unit {0}) E) → is_err r ≡ is_to_fail fate
    → Syncs (disk_state f p) (disk_state f (Synced fate ∷ p)) r
synced_more f p Succeeds (Ok done) e = record {
  looks = record { time = goes_on f p (Synced Succeeds); seen = refl; leaves = λ c is. subst (λ d. remains f p d) (sym is) (now_left f p) };
  ok = λ c is. is;
}
synced_more f p Succeeds (Err d) e = absurd cc
synced_more f p (Fails done) (Ok u) e = absurd cc
synced_more f p (Fails done) (Err d) e = record {
  looks = record { time = goes_on f p (Synced (Fails done)); seen = refl; leaves = λ c now. now };
  ok = tt;
}

synced_none : {E : Type 0} (f : Files) (p : List Call) (r : Result (Unit {0}) E) → is_err r ≡ true
    → Syncs (disk_state f p) (disk_state f p) r
synced_none f p (Ok done) failed = absurd cc
synced_none f p (Err d) failed = record { looks = looks_none f p; ok = tt }

pub synced : {E : Type 0} (a b : InMemory) (r : Result (Unit {0}) E) → IsTaken Synced a b (is_err r)
    → Syncs (disk_state a.first a.past) (disk_state b.first b.past) r
synced a b r taken =
    ⊎_elim
    (λ h. at_disk (λ d. Syncs (disk_state a.first a.past) d r) a.first b.first (Synced (next_fate a.fates) ∷ a.past) b.past taken.first h.0
    (synced_more a.first a.past (next_fate a.fates) r h.1))
    (λ h. at_disk (λ d. Syncs (disk_state a.first a.past) d r) a.first b.first a.past b.past taken.first h.0
    (synced_none a.first a.past r h.1))
    taken.recorded

-- ## Openings

opened_same : {E : Type 0} (f : Files) (p : List Call) (path : Bool) (call : Call) (r : Result (Unit {0}) E)
    → ((path ≡ true) ⊎ is_err r ≡ true) → Looks (disk_state f p) (disk_state f (call ∷ p))
    → Opens path (disk_state f p) (disk_state f (call ∷ p)) r
opened_same f p path call r why looks = record {
  time = looks.time;
  told = tt;
  leaves = λ c now. inl (looks.leaves c now);
  same = λ h. looks.seen;
  emptied = λ none. nothing _ path r why none;
  nothing_left = λ none. nothing _ path r why none;
}
  where
    nothing : {E : Type 0} (X : Type 0) (path : Bool) (r : Result (Unit {0}) E) → ((path ≡ true) ⊎ is_err r ≡ true) → path ≡ false
        → OnOk r X
    nothing X true r why none = absurd cc
    nothing X false (Ok done) (inl e) none = absurd cc
    nothing X false (Ok done) (inr failed) none = absurd cc
    nothing X false (Err d) why none = tt

opened_more : {E : Type 0} (f : Files) (p : List Call) (path : Bool) (fate : DiskFate) (r : Result (Unit {0}) E)
    → is_err r ≡ is_to_fail fate → Opens path (disk_state f p) (disk_state f (Opened path fate ∷ p)) r
opened_more f p true fate r e =
    opened_same f p true (Opened true fate) r (inl refl)
    (record { time = goes_on f p (Opened true fate); seen = refl; leaves = λ c now. now })
opened_more f p false Succeeds (Ok done) e = record {
  time = goes_on f p (Opened false Succeeds);
  told = tt;
  leaves = λ c is. inr (refl, is);
  same = λ h. ⊎_elim (λ path. absurd cc) (λ failed. let e = failed.1 in absurd cc) h;
  emptied = λ none. refl;
  nothing_left = λ none c is. is;
}
opened_more f p false Succeeds (Err d) e = absurd cc
opened_more f p false (Fails done) (Ok u) e = absurd cc
opened_more f p false (Fails done) (Err d) e =
    opened_same f p false (Opened false (Fails done)) (Err d) (inr refl)
    (record { time = goes_on f p (Opened false (Fails done)); seen = refl; leaves = λ c now. now })

opened_none : {E : Type 0} (f : Files) (p : List Call) (path : Bool) (r : Result (Unit {0}) E) → is_err r ≡ true
    → Opens path (disk_state f p) (disk_state f p) r
opened_none f p path (Ok done) failed = absurd cc
opened_none f p path (Err d) failed = record {
  time = stays f p;
  told = tt;
  leaves = λ c now. inl now;
  same = λ h. refl;
  emptied = λ none. tt;
  nothing_left = λ none. tt;
}

pub opened : {E : Type 0} (a b : InMemory) (path : Bool) (r : Result (Unit {0}) E) → IsTaken (Opened path) a b (is_err r)
    → Opens path (disk_state a.first a.past) (disk_state b.first b.past) r
opened a b path r taken =
    ⊎_elim
    (λ h. at_disk (λ d. Opens path (disk_state a.first a.past) d r) a.first b.first
    (Opened path (next_fate a.fates) ∷ a.past) b.past taken.first h.0 (opened_more a.first a.past path (next_fate a.fates) r h.1))
    (λ h. at_disk (λ d. Opens path (disk_state a.first a.past) d r) a.first b.first a.past b.past taken.first h.0
    (opened_none a.first a.past path r h.1))
    taken.recorded

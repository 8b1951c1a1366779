-- What a log holds, and then the codes that it lacks.
use Rattle.std.proofs.Common.{◌≡◌, ℕ, ◌+◌, ◌≤◌, List, [], ◌∷◌, ◌++◌, length, take, drop, refl, sym, ap, ◌∙◌, subst, arith}
use Rattle.std.proofs.Common.{append_assoc, append-nil, drop-drop, length-append, length-drop, take-append-drop}
use Rattle.std.proofs.lemmas.List.{drop-append-le, drop_all}
use Rattle.std.specs.Prelude.{Bool, false, Option, Some, None, Result, Ok, Err, IfOk, OnOk, option_map, slice_get}
use Rattle.std.proofs.lemmas.List.Concat.{flat_map-append}
use Rattle.std.specs.List.{flat_map}
use Rattle.std.specs.Io.KnownBytes.{Appends, Keeps, append_known}
use Rattle.std.proofs.KnownBytes.{Keeps-refl, Keeps-trans, append_known-moved}
use Rattle.scm_model.specs.Entries.{Entry}
use Rattle.step_code.specs.Codes.{code_of}
use Rattle.scm_trail.specs.Trailed.{Ends, Extends, LetsGo, Stays, Trailed}
use Rattle.scm_trail.proofs.Histories.{ends_more, ends_same}
use Rattle.trail_log.specs.Recording.{IsWithin, LetsFrontGo, Stands, first_codes, held_codes, unlogged}

pub passed_more : (old mid new : Option (List ℕ)) (bytes : List ℕ) (count more : ℕ)
    → Keeps (append_known old bytes) (append_known mid (drop count bytes)) → Appends mid new (take more (drop count bytes))
    → Keeps (append_known old bytes) (append_known new (drop (count + more) bytes))
passed_more old mid new bytes count more kept taken =
    let rest = drop count bytes in
    let cut : rest ≡ take more rest ++ drop (count + more) bytes =
    sym (take-append-drop more rest) ∙ ap (λ l. take more rest ++ l) (drop-drop more count bytes) in
    Keeps-trans (append_known old bytes) (append_known mid rest) (append_known new (drop (count + more) bytes)) kept
    (append_known-moved mid new (take more rest) (drop (count + more) bytes) rest taken cut)

-- the same with more after both
keeps_before : (old new : Option (List ℕ)) (a b r : List ℕ) → Keeps (append_known old a) (append_known new b)
    → Keeps (append_known old (a ++ r)) (append_known new (b ++ r))
keeps_before None new a b r kept = tt
keeps_before (Some xs) None a b r kept = absurd kept
keeps_before (Some xs) (Some ys) a b r kept = sym (append_assoc ys b r) ∙ ap (λ l. l ++ r) kept ∙ append_assoc xs a r

nil_taken : (old new : Option (List ℕ)) (at : ℕ) → Keeps (append_known old (drop at [])) (append_known new (drop 0 (drop at [])))
    → Keeps (append_known old (drop at [])) (append_known new (drop (at + 0) []))
nil_taken old new at kept = subst (λ n. Keeps (append_known old (drop at [])) (append_known new (drop n []))) (let e : at ≡ at + 0 = omega arith in e) kept

-- so much of the first part's codes was taken
pub first_taken : (old new : Option (List ℕ)) (parts : List (List Entry)) (at count : ℕ) → at ≤ length (first_codes parts)
    → count ≤ length (drop at (first_codes parts))
    → Keeps (append_known old (drop at (first_codes parts))) (append_known new (drop count (drop at (first_codes parts))))
    → Keeps (append_known old (unlogged at parts)) (append_known new (unlogged (at + count) parts))
first_taken old new [] at count within most kept =
    let none : count ≡ 0 = omega (arith, most, length-drop {A = ℕ} at []) in
    subst (λ n. Keeps (append_known old (drop at [])) (append_known new (drop (at + n) []))) (sym none) (nil_taken old new at (subst (λ n. Keeps (append_known old (drop at [])) (append_known new (drop n (drop at [])))) none kept))
first_taken old new (part ∷ parts) at count within most kept =
    let c = flat_map code_of part in
    let r = held_codes parts in
    let left = drop-append-le at c r within in
    let more : at + count ≤ length c = omega (arith, within, most, length-drop at c) in
    let right = drop-append-le (at + count) c r more in
    let same : drop count (drop at c) ≡ drop (at + count) c = drop-drop count at c in
    let one = subst (λ l. Keeps (append_known old (drop at c)) (append_known new l)) same kept in
    let all = keeps_before old new (drop at c) (drop (at + count) c) r one in
    subst (λ l. Keeps (append_known old l) (append_known new (drop (at + count) (c ++ r)))) (sym left)
    (subst (λ l. Keeps (append_known old (drop at c ++ r)) (append_known new l)) (sym right) all)

pub nothing_taken : (held : Option (List ℕ)) (parts : List (List Entry)) (at : ℕ)
    → Keeps (append_known held (unlogged at parts)) (append_known held (unlogged (at + 0) parts))
nothing_taken held parts at =
    let same : at ≡ at + 0 = omega arith in
    subst (λ n. Keeps (append_known held (unlogged at parts)) (append_known held (unlogged n parts))) same
    (Keeps-refl (append_known held (unlogged at parts)))

-- ## The first part goes

pub gone_unlogged : (part : List Entry) (parts : List (List Entry)) (at : ℕ) → at ≡ length (flat_map code_of part)
    → unlogged at (part ∷ parts) ≡ unlogged 0 parts
gone_unlogged part parts at is =
    let c = flat_map code_of part in
    drop-append-le at c (held_codes parts) (omega (arith, is)) ∙ ap (λ l. l ++ held_codes parts) (drop_all at c (omega (arith, is)))

left_nil : (xs ys : List Entry) → xs ++ ys ≡ [] → xs ≡ []
left_nil [] ys is = refl
left_nil (x ∷ xs) ys is = absurd cc

no_codes : (parts : List (List Entry)) → flat_map (λ (part : List Entry). part) parts ≡ [] → held_codes parts ≡ []
no_codes [] none = refl
no_codes ([] ∷ parts) none = no_codes parts none
no_codes ((e ∷ es) ∷ parts) none = absurd (let n = left_nil (e ∷ es) (flat_map (λ (part : List Entry). part) parts) none in cc)

pub all_logged : (parts : List (List Entry)) (at : ℕ) → length (first_codes parts) ≤ at
    → flat_map (λ (part : List Entry). part) (drop 1 parts) ≡ [] → unlogged at parts ≡ []
all_logged [] at past none = drop_all at [] (omega arith)
all_logged (part ∷ parts) at past none =
    let c = flat_map code_of part in
    let same : c ++ held_codes parts ≡ c = ap (λ l. c ++ l) (no_codes parts none) ∙ append-nil c in
    ap (drop at) same ∙ drop_all at c past

-- ## What was let go

pub same_goes : (old new : Trailed) → new ≡ old → LetsFrontGo old new
same_goes old new is = record {
  gone = [];
  entries = ap (λ (t : Trailed). t.entries) (sym is);
  past = let p = ap (λ (t : Trailed). t.past) is in omega (arith, p);
  text = ap (λ (t : Trailed). t.text) is;
  room = ap (λ (t : Trailed). t.room) is;
  text_room = ap (λ (t : Trailed). t.text_room) is;
}

pub one_goes : (old new : Trailed) → LetsGo old new → LetsFrontGo old new
one_goes old new g = record { gone = g.part; entries = g.entries; past = g.past; text = g.text; room = g.room; text_room = g.text_room }

pub more_goes : (old mid new : Trailed) → LetsFrontGo old mid → LetsFrontGo mid new → LetsFrontGo old new
more_goes old mid new g h = record {
  gone = g.gone ++ h.gone;
  entries = g.entries ∙ ap (λ l. g.gone ++ l) h.entries ∙ sym (append_assoc g.gone h.gone new.entries);
  past = let a = g.past in let b = h.past in omega (arith, a, b, length-append g.gone h.gone);
  text = h.text ∙ g.text;
  room = h.room ∙ g.room;
  text_room = h.text_room ∙ g.text_room;
}

pub some_first : (parts : List (List Entry)) (codes : List ℕ) → Some codes ≡ option_map (flat_map code_of) (slice_get parts 0)
    → codes ≡ first_codes parts
some_first [] codes is = absurd cc
some_first (part ∷ parts) codes is = cc

-- ## The history, its end, and its log

first_within : (parts : List (List Entry)) → length (first_codes parts) ≤ length (held_codes parts)
first_within [] = omega arith
first_within (part ∷ parts) = omega (arith, length-append (flat_map code_of part) (held_codes parts))

pub stands_more : (was held : Option (List ℕ)) (log : List Entry) (at : ℕ) (old new : Trailed) (e : Entry) → Stands was log old at held
    → Extends old new e → Stands was (log ++ e ∷ []) new at held
stands_more was held log at old new e stands more =
    let before = flat_map code_of old.entries in
    let one = flat_map code_of (e ∷ []) in
    let codes : flat_map code_of new.entries ≡ before ++ one = ap (flat_map code_of) more.entries ∙ flat_map-append code_of old.entries (e ∷ []) in
    let left : drop at (flat_map code_of new.entries) ≡ drop at before ++ one = ap (drop at) codes ∙ drop-append-le at before one stands.fits in
    let all : flat_map code_of (log ++ e ∷ []) ≡ flat_map code_of log ++ one = flat_map-append code_of log (e ∷ []) in record {
      ends = ends_more old new log e stands.ends more;
      within = let w = stands.within in let f = more.first in omega (arith, w, f);
      fits = let f = stands.fits in let l = ap (λ (bs : List ℕ). length bs) codes in omega (arith, f, l, length-append before one);
      logged = subst (λ l. Keeps (append_known was l) (append_known held (drop at (flat_map code_of new.entries)))) (sym all)
          (subst (λ l. Keeps (append_known was (flat_map code_of log ++ one)) (append_known held l)) (sym left)
          (keeps_before was held (flat_map code_of log) (drop at before) one stands.logged));
    }

pub stands_same : (was held : Option (List ℕ)) (log : List Entry) (at : ℕ) (old new : Trailed) → Stands was log old at held → Stays old new
    → Stands was log new at held
stands_same was held log at old new stands same = record {
  ends = ends_same old new log stands.ends same;
  within = let w = stands.within in let f = same.first in omega (arith, w, f);
  fits = subst (λ (es : List Entry). at ≤ length (flat_map code_of es)) (sym same.entries) stands.fits;
  logged = subst (λ (es : List Entry). Keeps (append_known was (flat_map code_of log)) (append_known held (drop at (flat_map code_of es))))
      (sym same.entries) stands.logged;
}

pub ends_gone : (old new : Trailed) (log : List Entry) → Ends old log → LetsFrontGo old new → Ends new log
ends_gone old new log ends goes = record {
  front = ends.front ++ goes.gone;
  is = ends.is ∙ ap (λ l. ends.front ++ l) goes.entries ∙ sym (append_assoc ends.front goes.gone new.entries);
  past = let a = ends.past in let b = goes.past in omega (arith, a, b, length-append ends.front goes.gone);
  text = goes.text ∙ ends.text;
}

pub stands_written : (was held held' : Option (List ℕ)) (log : List Entry) (at at' : ℕ) (old new : Trailed) → Stands was log old at held
    → held_codes old.parts ≡ flat_map code_of old.entries → held_codes new.parts ≡ flat_map code_of new.entries
    → LetsFrontGo old new → IsWithin at' new.parts
    → Keeps (append_known held (unlogged at old.parts)) (append_known held' (unlogged at' new.parts)) → Stands was log new at' held'
stands_written was held held' log at at' old new stands before after goes within kept = record {
  ends = ends_gone old new log stands.ends goes;
  within = within;
  fits = let l = ap (λ (bs : List ℕ). length bs) after in omega (arith, within, l, first_within new.parts);
  logged = subst (λ (bs : List ℕ). Keeps (append_known was (flat_map code_of log)) (append_known held' (drop at' bs))) after
      (Keeps-trans (append_known was (flat_map code_of log)) (append_known held (unlogged at old.parts))
      (append_known held' (unlogged at' new.parts))
      (subst (λ (bs : List ℕ). Keeps (append_known was (flat_map code_of log)) (append_known held (drop at bs))) (sym before) stands.logged)
      kept);
}

nothing_left : (was held : Option (List ℕ)) (a b : List ℕ) → b ≡ [] → Keeps (append_known was a) (append_known held b)
    → Keeps (append_known was a) held
nothing_left None held a b none kept = tt
nothing_left (Some xs) None a b none kept = absurd kept
nothing_left (Some xs) (Some ys) a b none kept = sym (append-nil ys) ∙ ap (λ l. ys ++ l) (sym none) ∙ kept

whole_at : (held held' : Option (List ℕ)) (at at' : ℕ) (old new : Trailed) → held_codes old.parts ≡ flat_map code_of old.entries
    → Keeps (append_known held (unlogged at old.parts)) (append_known held' (unlogged at' new.parts)) → unlogged at' new.parts ≡ []
    → (was : Option (List ℕ)) (log : List Entry) → Stands was log old at held → Keeps (append_known was (flat_map code_of log)) held'
whole_at held held' at at' old new before kept none was log stands =
    nothing_left was held' (flat_map code_of log) (unlogged at' new.parts) none
    (Keeps-trans (append_known was (flat_map code_of log)) (append_known held (unlogged at old.parts))
    (append_known held' (unlogged at' new.parts))
    (subst (λ (bs : List ℕ). Keeps (append_known was (flat_map code_of log)) (append_known held (drop at bs))) (sym before) stands.logged)
    kept)

pub written_whole : {T E : Type 0} (r : Result T E) (held held' : Option (List ℕ)) (at at' : ℕ) (old new : Trailed)
    → held_codes old.parts ≡ flat_map code_of old.entries
    → Keeps (append_known held (unlogged at old.parts)) (append_known held' (unlogged at' new.parts)) → OnOk r (unlogged at' new.parts ≡ [])
    → OnOk r ((was : Option (List ℕ)) (log : List Entry) → Stands was log old at held → Keeps (append_known was (flat_map code_of log)) held')
written_whole (Ok x) held held' at at' old new before kept none = whole_at held held' at at' old new before kept none
written_whole (Err x) held held' at at' old new before kept none = tt

pub segment_whole : {E : Type 0} (r : Result Bool E) (held held' : Option (List ℕ)) (at at' : ℕ) (old new : Trailed)
    → held_codes old.parts ≡ flat_map code_of old.entries
    → Keeps (append_known held (unlogged at old.parts)) (append_known held' (unlogged at' new.parts))
    → IfOk r (λ more. more ≡ false → unlogged at' new.parts ≡ [])
    → IfOk r (λ more. more ≡ false → (was : Option (List ℕ)) (log : List Entry) → Stands was log old at held
    → Keeps (append_known was (flat_map code_of log)) held')
segment_whole (Ok x) held held' at at' old new before kept none = λ is. whole_at held held' at at' old new before kept (none is)
segment_whole (Err x) held held' at at' old new before kept none = tt

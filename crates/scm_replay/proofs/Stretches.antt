-- Stretches of an input, one after another.
use Rattle.std.proofs.Common.{inl, ℕ, ◌≡◌, ◌+◌, ◌<◌, take, take-add, drop, length, arith, List, [], ◌∷◌, ◌++◌, Err, refl, sym, ap, ◌∙◌}
use Rattle.std.proofs.Common.{subst, append_assoc, append-nil}
use Rattle.std.proofs.KnownBytes.{Appends-nil, Appends-trans}
use Rattle.std.proofs.lemmas.List.{take_more, drop_more, take-append-drop}
use Rattle.scm_model.specs.declared.flat.Limits.{Limits}
use Rattle.scm_replay.specs.declared.stop.Stop.{Stop}
use Rattle.scm_replay.specs.declared.stop.Stop.TheVariants as stop
use Rattle.std.specs.Prelude.{slice_index}
use Rattle.scm_replay.specs.Replay.{IsOneLine, Told, text_behind, replayed_from}
use Rattle.scm_core.specs.Managed.{Managed}
use Rattle.scm_replay.specs.Along.{Point, GoesOn, LinesFed, Halts, HaltsIn, IsFeed, Keeps}

behind_both : (x y : List ℕ) (t : Told) → text_behind x (text_behind y t) ≡ text_behind (x ++ y) t
behind_both x y t = ap (λ z. record { text = z; ending = t.ending; at = t.at }) (sym (append_assoc x y t.text))

is_feed : (why : Stop) → IsFeed why 10
is_feed stop.BadLine = refl
is_feed stop.WriteFault = refl
is_feed stop.OutOfMemory = tt

module _ (l : Limits) where
  -- nothing yet
  pub goes_nowhere : (a : Point) → IsOneLine a.pending → GoesOn l [] a a
  goes_nowhere a clean = record {
    lines = [];
    text = [];
    parts = append-nil a.pending;
    written = Appends-nil a.held;
    told = λ more. refl;
    clean = clean;
  }

  -- two stretches
  pub goes_further : (xs ys : List ℕ) (a m b : Point) → GoesOn l xs a m → GoesOn l ys m b → GoesOn l (xs ++ ys) a b
  goes_further xs ys a m b p q = record {
    lines = p.lines ++ q.lines;
    text = p.text ++ q.text;
    parts =
        sym (append_assoc a.pending xs ys) ∙ ap (λ z. z ++ ys) p.parts ∙ append_assoc p.lines m.pending ys ∙ ap (λ z. p.lines ++ z) q.parts
        ∙ sym (append_assoc p.lines q.lines b.pending);
    written = Appends-trans a.held m.held b.held p.text q.text p.written q.written;
    told = λ more.
        ap (replayed_from l a.at a.number) (append_assoc p.lines q.lines more) ∙ p.told (q.lines ++ more)
        ∙ ap (text_behind p.text) (q.told more)
        ∙ behind_both p.text q.text (replayed_from l b.at b.number more);
    clean = q.clean;
  }

  -- a byte at which a line stops the run
  halts_at : (a b : Point) (byte : ℕ) (why : Stop) → IsOneLine a.pending → IsOneLine b.pending → IsFeed why byte
      → Halts l a.number a.pending a.at b.at a.held b.held why → HaltsIn l (byte ∷ []) a b why
  halts_at a b byte why clean still feed halts = record {
    before = [];
    byte = byte;
    rest = [];
    point = a;
    parts = refl;
    on = goes_nowhere a clean;
    feed = feed;
    halts = halts;
    clean = still;
  }

  -- a line stops the run
  pub line_stops : (a b : Point) (why : Stop) → IsOneLine a.pending → IsOneLine b.pending
      → Halts l a.number a.pending a.at b.at a.held b.held why → HaltsIn l (10 ∷ []) a b why
  line_stops a b why clean still halts = halts_at a b 10 why clean still (is_feed why) halts

  -- there is no memory for some bytes more
  pub bytes_lost : (a b : Point) (bytes : List ℕ) → 0 < length bytes → IsOneLine a.pending → IsOneLine b.pending → b.at ≡ a.at
      → b.held ≡ a.held
      → HaltsIn l bytes a b stop.OutOfMemory
  bytes_lost a b [] some clean still at held = absurd (omega (arith, some))
  bytes_lost a b (byte ∷ rest) some clean still at held = record {
    before = [];
    byte = byte;
    rest = rest;
    point = a;
    parts = refl;
    on = goes_nowhere a clean;
    feed = tt;
    halts = (inl at, held);
    clean = still;
  }

  -- a part of a piece stops the run
  pub stops_there : (piece xs ys zs : List ℕ) (a m b : Point) (why : Stop) → piece ≡ xs ++ (ys ++ zs)
      → GoesOn l xs a m → HaltsIn l ys m b why → HaltsIn l piece a b why
  stops_there piece xs ys zs a m b why e p q = record {
    before = xs ++ q.before;
    byte = q.byte;
    rest = q.rest ++ zs;
    point = q.point;
    parts =
        e ∙ ap (λ y. xs ++ (y ++ zs)) q.parts ∙ ap (λ y. xs ++ y) (append_assoc q.before (q.byte ∷ q.rest) zs)
        ∙ sym (append_assoc xs q.before (q.byte ∷ (q.rest ++ zs)));
    on = goes_further xs q.before a m q.point p q.on;
    feed = q.feed;
    halts = q.halts;
    clean = q.clean;
  }

  -- the bytes up to a line feed, and it
  pub line_more : (bytes : List ℕ) (place : ℕ) (a m b : Point) → place < length bytes → slice_index bytes place ≡ 10
      → GoesOn l (take place bytes) a m → GoesOn l (10 ∷ []) m b → GoesOn l (take (place + 1) bytes) a b
  line_more bytes place a m b lt at p q =
      subst (λ xs. GoesOn l xs a b) (ap (λ y. take place bytes ++ y ∷ []) (sym at) ∙ sym (take_more bytes place 0 lt))
      (goes_further (take place bytes) (10 ∷ []) a m b p q)

  -- the run stops at a line feed
  pub line_lost : (bytes : List ℕ) (place : ℕ) (a m b : Point) (why : Stop) → place < length bytes → slice_index bytes place ≡ 10
      → GoesOn l (take place bytes) a m → HaltsIn l (10 ∷ []) m b why → HaltsIn l bytes a b why
  line_lost bytes place a m b why lt at p q =
      stops_there bytes (take place bytes) (10 ∷ []) (drop (place + 1) bytes) a m b why
      (sym (take-append-drop place bytes) ∙ ap (λ r. take place bytes ++ r) (drop_more bytes place 0 lt
      ∙ ap (λ y. y ∷ drop (place + 1) bytes) at)) p q

  -- so many bytes more of a piece
  pub front_more : (piece : List ℕ) (taken more : ℕ) (a m b : Point)
      → GoesOn l (take taken piece) a m → GoesOn l (take more (drop taken piece)) m b → GoesOn l (take (taken + more) piece) a b
  front_more piece taken more a m b p q =
      subst (λ xs. GoesOn l xs a b) (sym (take-add taken more piece)) (goes_further (take taken piece)
      (take more (drop taken piece)) a m b p q)

  -- what is left of a piece stops the run
  pub rest_stops : (piece : List ℕ) (taken : ℕ) (a m b : Point) (why : Stop)
      → GoesOn l (take taken piece) a m → HaltsIn l (drop taken piece) m b why → HaltsIn l piece a b why
  rest_stops piece taken a m b why p q =
      stops_there piece (take taken piece) (drop taken piece) [] a m b why
      (sym (take-append-drop taken piece) ∙ ap (λ r. take taken piece ++ r) (sym (append-nil (drop taken piece)))) p q

-- what a manager keeps over two stretches
pub keeps_more : (o m n : Managed) (most more : ℕ) → Keeps o m most → Keeps m n more → Keeps o n (most + more)
keeps_more o m n most more p q = record {
  limits = q.limits ∙ p.limits;
  text = λ small. q.text (p.text small);
  steps = omega (arith, p.steps, q.steps);
}

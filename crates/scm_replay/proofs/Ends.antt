-- How a run ends.
use Rattle.std.proofs.Common.{inl, inr, ℕ, ◌≡◌, ◌+◌, ◌<◌, ◌≤◌, ◌^◌, ◌==◌, Bool, true, false, cond, List, [], ◌∷◌, ◌++◌, length, refl, sym}
use Rattle.std.proofs.Common.{ap, ◌∙◌, subst, append_assoc, append-nil, arith, length-append}
use Rattle.std.specs.Prelude.{◌⊎◌, Option}
use Rattle.std.specs.Io.KnownBytes.{Appends, Consumes, IsAtEnd}
use Rattle.std.proofs.KnownBytes.{Appends-nil, Appends-trans, Consumes-nil}
use Rattle.feed_loop.specs.declared.fed.ReadEnd.TheVariants as fed
use Rattle.outside.specs.Written.{Begins}
use Rattle.scm_model.specs.declared.flat.Limits.{Limits}
use Rattle.scm_replay.specs.declared.replayed.Replayed.{Replayed}
use Rattle.scm_replay.specs.declared.replayed.Replayed.TheVariants as ended
use Rattle.scm_replay.specs.declared.stop.Stop.{Stop}
use Rattle.scm_replay.specs.declared.stop.Stop.TheVariants as stop
use Rattle.scm_replay.specs.Answers.{answer_line}
use Rattle.scm_replay.specs.Outcomes.{Standing, goes_on, outcome_at}
use Rattle.scm_replay.specs.Replay.{AtRest, BadLine, EndsBad, IsAnswered, IsCut, IsLeft, IsOpenText, IsReplayed, ReachedLine, StopsIn, Told}
use Rattle.scm_replay.specs.Replay.{Unfinished, text_behind, text_end, ends_text, replay_told, replayed_from, with_line}
use Rattle.scm_replay.specs.Along.{Point, GoesOn, HaltsIn, replayed_as}
use Rattle.scm_replay.proofs.Bad.{bad_at}
use Rattle.scm_replay.proofs.Lines.{clean_none, rest_alone, told_behind, whole_line}
use Rattle.scm_replay.proofs.Stretches.{goes_further, goes_nowhere}

-- where a run begins
abbrev pub beginning : Standing → Option (List ℕ) → Point
beginning s held = record { at = s; number = 1; pending = []; held = held }

-- nothing was read
pub begins : (l : Limits) (s : Standing) (held : Option (List ℕ)) (pending : List ℕ) → pending ≡ []
    → GoesOn l [] (beginning s held) (record { at = s; number = 1; pending = pending; held = held })
begins l s held pending e =
    subst (λ p. GoesOn l [] (beginning s held) (record { at = s; number = 1; pending = p; held = held })) (sym e)
    (goes_nowhere l (beginning s held) clean_none)

open_if : (b : Bool) → IsOpenText (cond b AtRest Unfinished)
open_if true = tt
open_if false = tt

end_if : (rest : List ℕ) (b : Bool) → (length rest == 0) ≡ b → text_end rest ≡ cond b AtRest Unfinished
end_if rest b e = ap (λ x. cond x AtRest Unfinished) e

if_bad : (b : Bool) (text : List ℕ) (more other : Told) → b ≡ false → text_behind text (cond b more other) ≡ text_behind text other
if_bad false text more other e = refl
if_bad true text more other e = absurd cc

-- ## Lines that are answered, and the one behind them

at_if : (b : Bool) (x y : Told) (s : Standing) → x.at ≡ s → y.at ≡ s → (cond b x y).at ≡ s
at_if true x y s p q = p
at_if false x y s p q = q

begins_cut : (text front answer after all : List ℕ) → Begins front answer → all ≡ text ++ (answer ++ after) → Begins (text ++ front) all
begins_cut text front answer after all h e = (
  h.0 ++ after,
  e ∙ ap (λ z. text ++ (z ++ after)) h.1 ∙ ap (λ z. text ++ z) (append_assoc front h.0 after)
      ∙ sym (append_assoc text front (h.0 ++ after)),
)

one_of : (x a b c d : Standing) → (x ≡ a) ⊎ (x ≡ b) → a ≡ c → b ≡ d → (x ≡ c) ⊎ (x ≡ d)
one_of x a b c d (inl e) p q = inl (e ∙ p)
one_of x a b c d (inr e) p q = inr (e ∙ q)

module _ (l : Limits) (s : Standing) (held : Option (List ℕ)) where
  -- all that was read is answered
  so_far : (read : List ℕ) (m : Point) (on : GoesOn l read (beginning s held) m)
      → replay_told l s read ≡ record { text = on.text; ending = text_end m.pending; at = m.at }
  so_far read m on =
      ap (replay_told l s) on.parts ∙ on.told m.pending
      ∙ ap (text_behind on.text) (rest_alone l m.at m.number m.pending on.clean)
      ∙ ap (λ t. record { text = t; ending = text_end m.pending; at = m.at }) (append-nil on.text)

  -- its whole lines alone
  lines_alone : (read : List ℕ) (m : Point) (on : GoesOn l read (beginning s held) m)
      → replay_told l s on.lines ≡ record { text = on.text; ending = AtRest; at = m.at }
  lines_alone read m on =
      ap (replay_told l s) (sym (append-nil on.lines)) ∙ on.told []
      ∙ ap (text_behind on.text) (rest_alone l m.at m.number [] clean_none)
      ∙ ap (λ t. record { text = t; ending = AtRest; at = m.at }) (append-nil on.text)

  -- these, and the next line
  line_more : (read : List ℕ) (m : Point) (on : GoesOn l read (beginning s held) m) (more : List ℕ)
      → replay_told l s (on.lines ++ (m.pending ++ 10 ∷ more))
      ≡ text_behind on.text (told_behind l m.at m.number m.pending (replayed_from l (outcome_at l m.at m.pending).1 (m.number + 1) more))
  line_more read m on more = on.told (m.pending ++ 10 ∷ more) ∙ ap (text_behind on.text)
      (whole_line l m.at m.number m.pending more on.clean)

  line_at : (read : List ℕ) (m : Point) (on : GoesOn l read (beginning s held) m)
      → (replay_told l s (with_line on.lines m.pending)).at ≡ (outcome_at l m.at m.pending).1
  line_at read m on =
      let x = (outcome_at l m.at m.pending).1 in
      ap (λ (t : Told). t.at) (line_more read m on [])
      ∙ at_if (goes_on (outcome_at l m.at m.pending).0) (replayed_from l x (m.number + 1) []) (ends_text BadLine x) x
      (ap (λ (t : Told). t.at) (rest_alone l x (m.number + 1) [] clean_none)) refl

  -- the run ends where all that was read is answered
  all_read : (left left_now : Option (List ℕ)) (read : List ℕ) (m : Point) (how : Replayed) (on : GoesOn l read (beginning s held) m)
      → Consumes left left_now read → length read ≤ 2 ^ 40 → ReachedLine l s m.at how read left_now on.text
      → IsReplayed l s m.at left left_now held m.held how
  all_read left left_now read m how on consumed most reached = record {
    read = read;
    written = on.text;
    consumed = consumed;
    most = most;
    appended = on.written;
    reached = reached;
  }

  answered : (read : List ℕ) (m : Point) (on : GoesOn l read (beginning s held) m) → IsAnswered l s m.at read on.text
  answered read m on = record {
    text = sym (ap (λ (t : Told). t.text) (so_far read m on));
    goes_on = subst IsOpenText (sym (ap (λ (t : Told). t.ending) (so_far read m on))) (open_if (length m.pending == 0));
    at = sym (ap (λ (t : Told). t.at) (so_far read m on));
  }

  -- enough bytes were read
  pub worn : (left left_now : Option (List ℕ)) (read : List ℕ) (m : Point) → GoesOn l read (beginning s held) m
      → Consumes left left_now read → length read ≡ 2 ^ 40 → IsReplayed l s m.at left left_now held m.held ended.Worn
  worn left left_now read m on consumed e = all_read left left_now read m ended.Worn on consumed (omega (arith, e)) (e, answered read m on)

  -- the source ended
  pub source_ends : (left left_now : Option (List ℕ)) (read : List ℕ) (m : Point) (rest : Bool) → GoesOn l read (beginning s held) m
      → Consumes left left_now read → IsAtEnd left_now → length read < 2 ^ 40 → (length m.pending == 0) ≡ rest
      → IsReplayed l s m.at left left_now held m.held (replayed_as fed.Ended rest)
  source_ends left left_now read m true on consumed out lt e =
      all_read left left_now read m ended.Ended on consumed (omega (arith, lt))
      (out, lt, so_far read m on ∙ ap (λ x. record { text = on.text; ending = x; at = m.at }) (end_if m.pending true e))
  source_ends left left_now read m false on consumed out lt e =
      all_read left left_now read m ended.Truncated on consumed (omega (arith, lt))
      (out, lt, so_far read m on ∙ ap (λ x. record { text = on.text; ending = x; at = m.at }) (end_if m.pending false e))

  -- a read failed
  pub read_fails : (left left_now : Option (List ℕ)) (read : List ℕ) (m : Point) → GoesOn l read (beginning s held) m
      → Consumes left left_now read → length read < 2 ^ 40 → IsReplayed l s m.at left left_now held m.held ended.ReadFault
  read_fails left left_now read m on consumed lt = all_read left left_now read m ended.ReadFault on consumed (omega (arith, lt))
      (lt, answered read m on)

  -- ## A line at which it stops

  stops_in : (all read : List ℕ) (m : Point) (beyond : List ℕ) (on : GoesOn l read (beginning s held) m)
      → all ≡ read ++ beyond → length beyond ≤ 4096 → StopsIn l s all on.lines m.pending beyond
  stops_in all read m beyond on e little = record {
    parts = e ∙ ap (λ z. z ++ beyond) on.parts ∙ append_assoc on.lines m.pending beyond;
    one_line = on.clean;
    little = little;
    whole = ap (λ (t : Told). t.ending) (lines_alone read m on);
  }

  is_bad : (all read : List ℕ) (m b : Point) (rest : List ℕ) (on : GoesOn l read (beginning s held) m)
      → all ≡ read ++ 10 ∷ rest → length (10 ∷ rest) ≤ 4096
      → goes_on (outcome_at l m.at m.pending).0 ≡ false → b.at ≡ (outcome_at l m.at m.pending).1
      → EndsBad l s b.at all (on.text ++ answer_line m.number (outcome_at l m.at m.pending).0)
  is_bad all read m b rest on e little bad at =
      let out = outcome_at l m.at m.pending in
      let text = answer_line m.number out.0 in
      record {
        answered = on.lines;
        line = m.pending;
        rest = rest;
        stop = stops_in all read m (10 ∷ rest) on e little;
        told = λ more.
            line_more read m on more
            ∙ ap (text_behind on.text) (if_bad (goes_on out.0) text (replayed_from l out.1 (m.number + 1) more)
            (ends_text BadLine out.1) bad)
            ∙ ap (λ t. record { text = on.text ++ t; ending = BadLine; at = out.1 }) (append-nil text)
            ∙ ap (λ x. record { text = on.text ++ text; ending = BadLine; at = x }) (sym at);
        as_before = at ∙ bad_at l m.at m.pending bad ∙ sym (ap (λ (t : Told). t.at) (lines_alone read m on));
      }

  is_cut : (all read : List ℕ) (m b : Point) (rest front : List ℕ) (on : GoesOn l read (beginning s held) m)
      → all ≡ read ++ 10 ∷ rest → length (10 ∷ rest) ≤ 4096
      → b.at ≡ (outcome_at l m.at m.pending).1 → Begins front (answer_line m.number (outcome_at l m.at m.pending).0)
      → IsCut l s b.at all (on.text ++ front)
  is_cut all read m b rest front on e little at begins =
      let text = answer_line m.number (outcome_at l m.at m.pending).0 in
      let stop = stops_in all read m (10 ∷ rest) on e little in
      record {
        answered = on.lines;
        line = m.pending;
        rest = rest;
        stop = stop;
        begun = (front, ap (λ t. t ++ front) (sym (ap (λ (t : Told). t.text) (lines_alone read m on))));
        cut = begins_cut on.text front text _ _ begins (ap (λ (t : Told). t.text) (line_more read m on []));
        front = begins_cut on.text front text _ _ begins
            (ap (λ (t : Told). t.text) (ap (replay_told l s) stop.parts ∙ line_more read m on rest));
        at = at ∙ sym (line_at read m on);
      }

  is_left : (all read : List ℕ) (m b : Point) (beyond : List ℕ) (on : GoesOn l read (beginning s held) m)
      → all ≡ read ++ beyond → length beyond ≤ 4096
      → (b.at ≡ m.at) ⊎ (b.at ≡ (outcome_at l m.at m.pending).1)
      → IsLeft l s b.at all on.text
  is_left all read m b beyond on e little at =
      let stop = stops_in all read m beyond on e little in
      record {
        answered = on.lines;
        line = m.pending;
        beyond = beyond;
        stop = stop;
        text = sym (ap (λ (t : Told). t.text) (lines_alone read m on));
        front = (_, ap (λ (t : Told). t.text) (ap (replay_told l s) stop.parts ∙ on.told (m.pending ++ beyond)));
        at = one_of b.at _ _ _ _ at (sym (ap (λ (t : Told). t.at) (lines_alone read m on))) (sym (line_at read m on));
      }

  -- ## The last read

  module _ (left left_now : Option (List ℕ)) (read more : List ℕ) (m b : Point) (on : GoesOn l read (beginning s held) m)
      (consumed : Consumes left left_now (read ++ more)) (most : length read + length more ≤ 2 ^ 40) (little : length more ≤ 4096) where
    stopped : (how : Replayed) (written : List ℕ) → Appends held b.held written → ReachedLine l s b.at how (read ++ more) left_now written
        → IsReplayed l s b.at left left_now held b.held how
    stopped how written appended reached = record {
      read = read ++ more;
      written = written;
      consumed = consumed;
      most = omega (arith, most, length-append read more);
      appended = appended;
      reached = reached;
    }

    before : (why : Stop) (t : HaltsIn l more m b why) → GoesOn l (read ++ t.before) (beginning s held) t.point
    before why t = goes_further l read t.before (beginning s held) m t.point on t.on

    parts : (why : Stop) (t : HaltsIn l more m b why) → read ++ more ≡ (read ++ t.before) ++ t.byte ∷ t.rest
    parts why t = ap (λ z. read ++ z) t.parts ∙ sym (append_assoc read t.before (t.byte ∷ t.rest))

    short : (why : Stop) (t : HaltsIn l more m b why) → length (t.byte ∷ t.rest) ≤ 4096
    short why t = omega (arith, little, ap length t.parts, length-append t.before (t.byte ∷ t.rest))

    pub bad_line : HaltsIn l more m b stop.BadLine → IsReplayed l s b.at left left_now held b.held ended.BadLine
    bad_line t =
        let go = before stop.BadLine t in
        stopped ended.BadLine _ (Appends-trans held t.point.held b.held go.text _ go.written t.halts.2)
        (is_bad (read ++ more) (read ++ t.before) t.point b t.rest go
        (parts stop.BadLine t ∙ ap (λ x. (read ++ t.before) ++ x ∷ t.rest) t.feed) (short stop.BadLine t) t.halts.0 t.halts.1)

    pub write_fault : HaltsIn l more m b stop.WriteFault → IsReplayed l s b.at left left_now held b.held ended.WriteFault
    write_fault t =
        let go = before stop.WriteFault t in
        let written = t.halts.1 in
        stopped ended.WriteFault _ (Appends-trans held t.point.held b.held go.text _ go.written written.held)
        (is_cut (read ++ more) (read ++ t.before) t.point b t.rest written.front go
        (parts stop.WriteFault t ∙ ap (λ x. (read ++ t.before) ++ x ∷ t.rest) t.feed) (short stop.WriteFault t) t.halts.0 written.begins)

    pub no_memory : HaltsIn l more m b stop.OutOfMemory → IsReplayed l s b.at left left_now held b.held ended.OutOfMemory
    no_memory t =
        let go = before stop.OutOfMemory t in
        stopped ended.OutOfMemory go.text (subst (λ x. Appends held x go.text) (sym t.halts.1) go.written)
        (is_left (read ++ more) (read ++ t.before) t.point b (t.byte ∷ t.rest) go
        (parts stop.OutOfMemory t) (short stop.OutOfMemory t) t.halts.0)

    pub stops_so : (why : Stop) (rest : Bool) → HaltsIn l more m b why →
        IsReplayed l s b.at left left_now held b.held (replayed_as (fed.Stopped why) rest)
    stops_so stop.BadLine rest t = bad_line t
    stops_so stop.WriteFault rest t = write_fault t
    stops_so stop.OutOfMemory rest t = no_memory t

-- there was no memory to begin
pub nothing_read : (l : Limits) (s : Standing) (left held : Option (List ℕ)) → IsReplayed l s s left left held held ended.OutOfMemory
nothing_read l s left held =
    let nowhere : GoesOn l [] (beginning s held) (beginning s held) = record {
      lines = [];
      text = [];
      parts = refl;
      written = Appends-nil held;
      told = λ more. refl;
      clean = clean_none;
    } in record {
      read = [];
      written = [];
      consumed = Consumes-nil left;
      most = omega arith;
      appended = Appends-nil held;
      reached = is_left l s held [] [] (beginning s held) (beginning s held) [] nowhere refl (omega arith) (inl refl);
    }

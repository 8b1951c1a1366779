-- A whole run of a client.
use Rattle.std.proofs.Common.{◌≡◌, ℕ, ◌+◌, ◌*◌, ◌≤◌, Bool, true, false, List, [], ◌∷◌, ◌++◌, length, refl, sym, ap, ◌∙◌, subst}
use Rattle.std.proofs.Common.{append_assoc, append-nil}
use Rattle.std.specs.Prelude.{Option, None, Some, Result, Ok, Err, is_err}
use Rattle.std.proofs.lemmas.Bool.{true≢false}
use Rattle.std.specs.Io.KnownBytes.{Appends, Consumes}
use Rattle.std.proofs.KnownBytes.{Appends-nil, Appends-trans, Consumes-nil, Consumes-trans}
use Rattle.outside.specs.Causes.{HasCause}
use Rattle.outside.specs.Written.{AppendsFront, Begins, Writes}
use Rattle.sc_words.specs.declared.calls.Heard.{Heard}
use Rattle.sc_words.specs.declared.command.Command.{Command}
use Rattle.sc_client.specs.declared.fault.ClientFault.{ClientFault}
use Rattle.sc_client.specs.declared.fault.ClientFault.TheVariants as faults
use Rattle.sc_client.specs.declared.held.Held.{Held}
use Rattle.sc_client.specs.declared.talk.Talk.{Talk}
use Rattle.sc_client.specs.Along.{CutOff, Turn, Turned, told_with}
use Rattle.sc_client.specs.Requests.{bind_text}
use Rattle.sc_client.specs.Runs.{EndsSo, IsOpen, IsRun}
use Rattle.sc_client.specs.Talks.{Bad, Early, Over, talk_of, not_bound, is_over}
use Rattle.sc_client.proofs.Following.{text_to_come, over_to_come, bind_first}

-- how far a run came
pub record SoFar (c : Command) (t : Talk) (h : Held) (left left_now held held_now : Option (List ℕ)) : Type 0 where
  pub read : List ℕ
  pub text : List ℕ
  pub consumed : Consumes left left_now read
  pub written : Appends held held_now text
  pub same : (more : List ℕ) → talk_of c (read ++ more) ≡ told_with c t h text more

-- the bind is written
pub begun : (c : Command) (t : Talk) (h : Held) (left held held_now : Option (List ℕ)) → t ≡ not_bound
    → h ≡ record { bytes = []; place = 0 } → Appends held held_now bind_text
    → SoFar c t h left left held held_now
unfolding talk_of told_with
begun c t h left held held_now e f w = record {
  read = [];
  text = bind_text;
  consumed = Consumes-nil left;
  written = w;
  same = λ more. ap (λ v. told_with c v (record { bytes = []; place = 0 }) bind_text more) (sym e)
      ∙ ap (λ k. told_with c t k bind_text more) (sym f);
}

module _ (c : Command) (t u : Talk) (h k : Held) (left mid left_now held between held_now : Option (List ℕ))
    (s : SoFar c t h left mid held between) where
  -- one turn more
  pub turned : Turned c t u h k mid left_now between held_now → SoFar c u k left left_now held held_now
  turned x = record {
    read = s.read ++ x.read;
    text = s.text ++ x.written;
    consumed = Consumes-trans left mid left_now s.read x.read s.consumed x.consumed;
    written = Appends-trans held between held_now s.text x.written s.written x.appended;
    same = λ more. ap (talk_of c) (append_assoc s.read x.read more) ∙ s.same (x.read ++ more) ∙ x.same s.text more;
  }

  unread : Consumes mid left_now [] → Consumes left left_now s.read
  unread x = subst (Consumes left left_now) (append-nil s.read) (Consumes-trans left mid left_now s.read [] s.consumed x)

  unwritten : Appends between held_now [] → Appends held held_now s.text
  unwritten x = subst (Appends held held_now) (append-nil s.text) (Appends-trans held between held_now s.text [] s.written x)

  open_now : ((text : List ℕ) → told_with c t h text [] ≡ record { talk = t; text = text; ending = Early }) → IsOpen c s.read s.text
  open_now e = record { talk = t; told = ap (talk_of c) (sym (append-nil s.read)) ∙ s.same [] ∙ e s.text }

  -- a turn failed
  pub failed : (fault : ClientFault) → Turn c t u h k mid left_now between held_now (Err fault)
      → IsRun c left left_now held held_now (Err fault)
  failed (faults.BadReply place) x = record {
    read = s.read;
    text = s.text;
    consumed = unread x.0;
    written = unwritten x.1;
    reached = record { talk = t; told = λ more. s.same more ∙ x.2 s.text more };
  }
  failed faults.Truncated x = record {
    read = s.read;
    text = s.text;
    consumed = unread x.0;
    written = unwritten x.2;
    reached = (x.1, open_now x.3);
  }
  failed faults.ReadFault x = record {
    read = s.read;
    text = s.text;
    consumed = unread x.0;
    written = unwritten x.1;
    reached = open_now x.2;
  }
  failed faults.WriteFault x = record {
    read = s.read;
    text = s.text ++ x.appended.front;
    consumed = unread x.consumed;
    written = Appends-trans held between held_now s.text x.appended.front s.written x.appended.held;
    reached =
        let all = text_to_come c x.talk x.rest (s.text ++ x.written) [] in
        let due = ap (λ f. f.text) (ap (talk_of c) (sym (append-nil s.read)) ∙ s.same [] ∙ x.same s.text []) in
        let front = x.appended.begins in (
          front.0 ++ all.0,
          due ∙ all.1 ∙ ap (λ w. (s.text ++ w) ++ all.0) front.1 ∙ ap (λ w. w ++ all.0) (sym (append_assoc s.text x.appended.front front.0))
              ∙ append_assoc (s.text ++ x.appended.front) front.0 all.0,
        );
  }
  failed faults.OutOfMemory x = record {
    read = s.read ++ x.0.0;
    text = s.text;
    consumed = Consumes-trans left mid left_now s.read x.0.0 s.consumed x.0.1;
    written = unwritten x.1;
    reached =
        let all = text_to_come c t h s.text [] in
        (s.read, (x.0.0, refl), (all.0, ap (λ f. f.text) (ap (talk_of c) (sym (append-nil s.read)) ∙ s.same []) ∙ all.1));
  }

  -- too many turns
  pub worn : (fault : ClientFault) → fault ≡ faults.OutOfMemory → IsRun c left mid held between (Err fault)
  worn fault e = subst (λ f. IsRun c left mid held between (Err f)) (sym e) (record {
    read = s.read;
    text = s.text;
    consumed = s.consumed;
    written = s.written;
    reached =
        let all = text_to_come c t h s.text [] in
        (s.read, ([], sym (append-nil s.read)), (all.0, ap (λ f. f.text) (ap (talk_of c) (sym (append-nil s.read)) ∙ s.same []) ∙ all.1));
  })

  -- all is answered
  pub done : (heard : List Heard) → is_over c t ≡ true → t.heard ≡ heard → IsRun c left mid held between (Ok heard)
  done heard e all = record {
    read = s.read;
    text = s.text;
    consumed = s.consumed;
    written = s.written;
    reached = (record { talk = t; told = λ more. s.same more ∙ over_to_come c t h s.text more e }, all);
  }

-- no memory for the bind
pub no_bind : (c : Command) (left held : Option (List ℕ)) (fault : ClientFault) → fault ≡ faults.OutOfMemory
    → IsRun c left left held held (Err fault)
no_bind c left held fault e = subst (λ f. IsRun c left left held held (Err f)) (sym e) (record {
  read = [];
  text = [];
  consumed = Consumes-nil left;
  written = Appends-nil held;
  reached = ([], ([], refl), ((talk_of c []).text, refl));
})

-- the bind wasn't written
pub unbound_yet : (c : Command) (left held held_now : Option (List ℕ)) → AppendsFront held held_now bind_text
    → IsRun c left left held held_now (Err faults.WriteFault)
unbound_yet c left held held_now x = record {
  read = [];
  text = x.front;
  consumed = Consumes-nil left;
  written = x.held;
  reached =
      let all = bind_first c in
      (x.begins.0 ++ all.0, all.1 ∙ ap (λ w. w ++ all.0) x.begins.1 ∙ append_assoc x.front x.begins.0 all.0);
}

-- ## What was written

pub wrote : {E : Type 0} (old new : Option (List ℕ)) (r : Result (Unit {0}) E) (bytes all : List ℕ) → bytes ≡ all → Writes old new r bytes
    → is_err r ≡ false → Appends old new all
wrote old new (Ok x) bytes all e w is = subst (Appends old new) e w
wrote old new (Err x) bytes all e w is = absurd (true≢false is)

pub wrote_front : {E : Type 0} (old new : Option (List ℕ)) (r : Result (Unit {0}) E) (bytes all : List ℕ) → bytes ≡ all
    → Writes old new r bytes → is_err r ≡ true → AppendsFront old new all
wrote_front old new (Ok x) bytes all e w is = absurd (true≢false (sym is))
wrote_front old new (Err x) bytes all e w is = subst (AppendsFront old new) e w

pub unfailed : {E : Type 0} (before now : ℕ) (r : Result (Unit {0}) E) → HasCause before now r → is_err r ≡ false → now ≡ before
unfailed before now (Ok x) h is = h.kept
unfailed before now (Err x) h is = absurd (true≢false is)

pub not_over_yet : (c : Command) (t : Talk) → t ≡ not_bound → is_over c t ≡ false
unfolding is_over
not_over_yet c t e = ap (is_over c) e

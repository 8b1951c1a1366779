-- A connection at which nothing failed ends as its input does.
use Rattle.std.proofs.Common.{[], ◌∷◌, ◌≤◌, subst, ℕ, Bool, ◌≡◌, inl, inr, ◌<◌, ◌^◌, List, ◌++◌, length, Option, None, Some, refl, sym, ap}
use Rattle.std.proofs.Common.{◌∙◌, append-nil, length-append, arith}
use Rattle.std.proofs.lemmas.Bool.{false≢true}
use Rattle.std.specs.Io.KnownBytes.{Appends, Consumes, IsAtEnd}
use Rattle.outside.specs.Causes.{Rose}
use Rattle.outside.specs.Written.{Begins}
use Rattle.scm_model.specs.declared.calls.Reply.{Reply}
use Rattle.scm_model.specs.declared.steps.Answer.TheVariants as answers
use Rattle.scm_model.specs.declared.steps.Step.TheVariants.{Gone}
use Rattle.rpc_session.specs.declared.state.Incoming.{Incoming}
use Rattle.rpc_session.specs.Items.{StreamEnd, AtRest, Unfinished, BadPdu, TooLong, Told, items}
use Rattle.book_rule.specs.declared.view.Opening.{Opening}
use Rattle.scm_book.specs.Passes.{Known, Learnt}
use Rattle.conn_desk.specs.declared.asked.DecodedRequest.{DecodedRequest}
use Rattle.conn_desk.specs.declared.served.Served.{Served}
use Rattle.conn_desk.specs.declared.served.Served.TheVariants as served
use Rattle.conn_desk.specs.Connection.{AllBefore, AllServed, FirstServed, HasNoRoom, IsOpenEnd, IsServedFor, Reached}
use Rattle.conn_worker.specs.Complete.{AnswersAll, EndsAs, FindsRoom, HadRoomThroughout, IsComplete, end_as}
use Rattle.conn_desk.specs.Bodies.{asked, spoken}
use Rattle.conn_desk.specs.Desks.{Chain}
use Rattle.conn_desk.specs.Serves.{Leaves}
use Rattle.conn_worker.specs.Connecting.{Connects, HasNoRoomFor}
use Rattle.conn_worker.specs.Serving.{IsServed}
use Rattle.conn_worker.proofs.Fronts.{front_of_all}
use Rattle.conn_worker.proofs.Owning.{adds_made}

-- ## Bytes

pub rest_of : (bytes read : List ℕ) (left : Option (List ℕ)) → Consumes (Some bytes) left read → Begins read bytes
rest_of bytes read None h = absurd h
rest_of bytes read (Some rest) h = (rest, h)

pub all_of : (bytes read : List ℕ) (left : Option (List ℕ)) → Consumes (Some bytes) left read → IsAtEnd left → bytes ≡ read
all_of bytes read None h e = absurd h
all_of bytes read (Some rest) h e = h ∙ ap (λ x. read ++ x) e ∙ append-nil read

tail_of : {A : Type 0} → List A → List A
tail_of [] = []
tail_of (x ∷ xs) = xs

same_tail : (x y : ℕ) (xs ys : List ℕ) → x ∷ xs ≡ y ∷ ys → xs ≡ ys
unfolding tail_of
same_tail x y xs ys e = ap tail_of e

same_head : (x y : ℕ) (xs ys : List ℕ) → x ∷ xs ≡ y ∷ ys → x ≡ y
same_head x y xs ys e = cc

-- the shorter of two fronts is a front of the longer
pub shorter : (a x b y : List ℕ) → a ++ x ≡ b ++ y → length a ≤ length b → Begins a b
shorter [] x b y e h = (b, refl)
shorter (p ∷ a) x [] y e h = absurd (omega (arith, h))
shorter (p ∷ a) x (q ∷ b) y e h =
    let more = shorter a x b y (same_tail p q _ _ e) (omega (arith, h)) in
    (more.0, ap (λ t. t ∷ b) (sym (same_head p q _ _ e)) ∙ ap (λ t. p ∷ t) more.1)

-- a long front doesn't fit in little input
pub too_long : (bytes front : List ℕ) → Begins front bytes → length front ≡ 2 ^ 40 → length bytes < 2 ^ 40 → ⊥
too_long bytes front b e small = omega (arith, e, small, ap length b.1, length-append front b.0)

-- ## Ends

-- what was read ends so, and it was all
ends_so : (bytes read : List ℕ) (done : List Incoming) (ending : StreamEnd) → bytes ≡ read → length read < 2 ^ 40
    → items read ≡ record { items = done; ending = ending } → EndsAs bytes (end_as ending)
ends_so bytes read done ending same small is = record {
  whole = λ _. inl (ap (λ (t : Told). end_as t.ending) (sym is ∙ ap items (sym same)));
  worn = λ front b e _. absurd (too_long bytes front b e (omega (arith, small, ap length same)));
}

-- a bad end is that of all that begins so
ends_bad : (bytes read : List ℕ) (done : List Incoming) (ending : StreamEnd) → Begins read bytes → length read ≤ 2 ^ 40
    → ((more : List ℕ) → items (read ++ more) ≡ record { items = done; ending = ending }) → (IsOpenEnd ending → ⊥)
    → EndsAs bytes (end_as ending)
ends_bad bytes read done ending begins most all bad = record {
  whole = λ _. inl (ap (λ (t : Told). end_as t.ending) (sym (all begins.0) ∙ ap items (sym begins.1)));
  worn = λ front b same goes_on.
      let z = shorter read begins.0 front b.0 (sym begins.1 ∙ b.1) (omega (arith, most, same)) in
      absurd (bad (subst IsOpenEnd (ap (λ (t : Told). t.ending) (ap items z.1 ∙ all z.0)) goes_on));
}

ends_worn : (bytes read : List ℕ) → Begins read bytes → length read ≡ 2 ^ 40 → EndsAs bytes served.Worn
ends_worn bytes read begins same = record {
  whole = λ small. absurd (too_long bytes read begins same small);
  worn = λ _ _ _ _. inl refl;
}

pub lacks : (bytes : List ℕ) → EndsAs bytes served.OutOfMemory
lacks bytes = record { whole = λ _. inr refl; worn = λ _ _ _ _. inr refl }

-- Whatever a connection is full for: where there was room it ends as its input does.
module _ {D : Type 0} (full : D → DecodedRequest → Type 0) (at : D) (bytes read : List ℕ) (done : List Incoming)
    (heard : List (Option Reply)) (written : List ℕ) (left_now : Option (List ℕ))
    (consumed : Consumes (Some bytes) left_now read) (most : length read ≤ 2 ^ 40) (source source_now sink sink_now : ℕ) where
  pub ends_as : (how : Served) → Reached full at how read left_now done heard written → IsServedFor how source source_now sink sink_now
      → (Rose source source_now → ⊥) → (Rose sink sink_now → ⊥) → (how ≡ served.Full → HasNoRoom full at read done → ⊥) → EndsAs bytes how
  ends_as served.Ended reached cause no_read no_write room = ends_so bytes read done AtRest
      (all_of bytes read left_now consumed reached.0) reached.1 reached.2.all
  ends_as served.Truncated reached cause no_read no_write room = ends_so bytes read done Unfinished
      (all_of bytes read left_now consumed reached.0) reached.1 reached.2.all
  ends_as (served.BadPdu place kind) reached cause no_read no_write room =
      ends_bad bytes read done (BadPdu place kind) (rest_of bytes read left_now consumed) most reached.all (λ h. h)
  ends_as (served.TooLong length) reached cause no_read no_write room =
      ends_bad bytes read done (TooLong length) (rest_of bytes read left_now consumed) most reached.all (λ h. h)
  ends_as served.Full reached cause no_read no_write room = absurd (room refl reached.1)
  ends_as served.OutOfMemory reached cause no_read no_write room = lacks bytes
  ends_as served.ReadFault reached cause no_read no_write room = absurd (no_read cause.0)
  ends_as served.WriteFault reached cause no_read no_write room = absurd (no_write cause.1)
  ends_as served.Worn reached cause no_read no_write room = ends_worn bytes read (rest_of bytes read left_now consumed) reached.0

-- One that ended as all of its input does answered all items of that.
module _ {D : Type 0} (full : D → DecodedRequest → Type 0) (at : D) (bytes read : List ℕ) (done : List Incoming)
    (heard : List (Option Reply)) (written : List ℕ) (left_now : Option (List ℕ)) (consumed : Consumes (Some bytes) left_now read) where
  abbrev AreAll : Type 0
  AreAll = (done ≡ (items bytes).items) × (written ≡ spoken done heard)

  all_at_end : (ending : StreamEnd) → IsAtEnd left_now → AllServed read done ending heard written → AreAll
  all_at_end ending end served =
      let same : bytes ≡ read = all_of bytes read left_now consumed end in
      (ap (λ (t : Told). t.items) (sym served.all ∙ ap items (sym same)), served.text)

  all_at_bad : (ending : StreamEnd) → AllBefore read done ending heard written → AreAll
  all_at_bad ending served =
      let begins = rest_of bytes read left_now consumed in
      (ap (λ (t : Told). t.items) (sym (served.all begins.0) ∙ ap items (sym begins.1)), served.text)

  pub all_at : (ending : StreamEnd) → Reached full at (end_as ending) read left_now done heard written → AreAll
  all_at AtRest reached = all_at_end AtRest reached.0 reached.2
  all_at Unfinished reached = all_at_end Unfinished reached.0 reached.2
  all_at (BadPdu place kind) reached = all_at_bad (BadPdu place kind) reached
  all_at (TooLong length) reached = all_at_bad (TooLong length) reached

-- a connection that is full met a request for which there was no room
pub where_full : {D : Type 0} (full : D → DecodedRequest → Type 0) (at : D) (read : List ℕ) (left_now : Option (List ℕ))
    (done : List Incoming) (heard : List (Option Reply)) (written : List ℕ) (how : Served)
    → Reached full at how read left_now done heard written → how ≡ served.Full → HasNoRoom full at read done
where_full full at read left_now done heard written how reached is =
    let met : FirstServed read done heard written × HasNoRoom full at read done =
    subst (λ (h : Served). Reached full at h read left_now done heard written) is reached in met.1

-- ## A connection

module _ (silent : Bool) (tells : ℕ → Type 0) (o : Opening) (k k' : Known) (left_now held held_now : Option (List ℕ)) where
  -- there was room for the next request
  not_full : (bytes : List ℕ) (how : Served) (c : Connects silent tells o k k' (Some bytes) left_now held held_now how)
      → HadRoomThroughout silent tells o k k' bytes
      → how ≡ served.Full → HasNoRoom (HasNoRoomFor o) c.stood c.read c.done → ⊥
  not_full bytes how c room is none =
      let learnt : Learnt o c.last c.stood = subst (λ (h : Served). Leaves (Learnt o) h c.last c.stood) is c.leaves in
      false≢true (sym none.met ∙ room c.done none.next none.request
      (front_of_all c.read bytes (c.done ++ none.next ∷ []) (rest_of bytes c.read left_now c.consumed) none.follows) none.asks c.heard
      c.last c.stood c.chain learnt (adds_made o c.stood k' c.moment (Gone k.caller) answers.Done c.goes).longer)

  pub answers_all : (left : Option (List ℕ)) (how : Served) → Connects silent tells o k k' left left_now held held_now how
      → AnswersAll silent tells o k left held held_now how
  answers_all None how c = tt
  answers_all (Some bytes) how c = λ is.
      let all : (c.done ≡ (items bytes).items) × (c.written ≡ spoken c.done c.heard) =
      all_at (HasNoRoomFor o) c.stood bytes c.read c.done c.heard c.written left_now c.consumed (items bytes).ending
      (subst (λ (h : Served). Reached (HasNoRoomFor o) c.stood h c.read left_now c.done c.heard c.written) is c.reached) in record {
        heard = c.heard;
        last = c.last;
        chain = subst (λ (done : List Incoming). Chain (IsServed silent tells o) k c.last (asked done) c.heard) all.0 c.chain;
        written = subst (λ (done : List Incoming). Appends held held_now (spoken done c.heard)) all.0
            (subst (Appends held held_now) all.1 c.appended);
      }

  pub finds_room : (left : Option (List ℕ)) (how : Served) → Connects silent tells o k k' left left_now held held_now how
      → FindsRoom (HadRoomThroughout silent tells o k k') left how
  finds_room None how c = tt
  finds_room (Some bytes) how c = λ room is.
      not_full bytes how c room is
      (where_full (HasNoRoomFor o) c.stood c.read left_now c.done c.heard c.written how c.reached is)

  -- whoever else is at the book
  pub complete : (source source_now sink sink_now : ℕ) (left : Option (List ℕ)) (how : Served)
      → Connects silent tells o k k' left left_now held held_now how
      → IsServedFor how source source_now sink sink_now → IsComplete left source source_now sink sink_now how
  complete source source_now sink sink_now None how c cause = tt
  complete source source_now sink sink_now (Some bytes) how c cause = λ no_read no_write unfilled.
      ends_as (HasNoRoomFor o) c.stood bytes c.read c.done c.heard c.written left_now c.consumed c.most source source_now sink sink_now
      how c.reached cause no_read no_write (λ is none. unfilled is)

-- Items that are answered, one after another.
use Rattle.std.proofs.Common.{ℕ, ◌≡◌, List, [], ◌∷◌, ◌++◌, Option, None, Some, Result, Ok, Err, refl, sym, ap, ◌∙◌, subst, append_assoc}
use Rattle.std.proofs.Common.{append-nil}
use Rattle.std.specs.List.{cons_option}
use Rattle.std.specs.Prelude.{IfSome, IsSome}
use Rattle.std.proofs.lemmas.Bool.{false≢true}
use Rattle.std.proofs.lemmas.List.Elements.{filter_map-append}
use Rattle.std.specs.Io.KnownBytes.{Appends}
use Rattle.std.proofs.KnownBytes.{Appends-nil, Appends-trans}
use Rattle.outside.specs.declared.Failed.{Failed}
use Rattle.outside.specs.Written.{Begins, Writes}
use Rattle.conn_desk.specs.declared.asked.DecodedRequest.{DecodedRequest}
use Rattle.conn_desk.specs.declared.asked.DecodedRequest.TheVariants as asks
use Rattle.scm_bodies.specs.declared.bodies.Call.{Call as Served}
use Rattle.scm_bodies.specs.Calls.{call_at}
use Rattle.scm_bodies.specs.Requests.{request_at}
use Rattle.scm_model.specs.declared.calls.Reply.{Reply}
use Rattle.scm_model.specs.declared.calls.Request.{Request as ARequest}
use Rattle.rpc_session.specs.declared.contexts.Interface.{Interface}
use Rattle.rpc_session.specs.declared.contexts.Interface.TheVariants.{Svcctl}
use Rattle.rpc_session.specs.Replies.{reply_fragments as fragments_of}
use Rattle.rpc_session.specs.declared.state.Terms.{Terms}
use Rattle.rpc_session.specs.declared.state.Incoming.{Incoming}
use Rattle.rpc_session.specs.declared.state.Incoming.TheVariants.{Local, Request}
use Rattle.rpc_session.specs.declared.state.RequestItem.{RequestItem}
use Rattle.conn_desk.specs.Bodies.{answer_to, asked, asked_by, asked_in, asked_of, asked_of_call, call_in, fault, or_fault, replies_after}
use Rattle.conn_desk.specs.Bodies.{reply_to, response, spoken}
use Rattle.conn_desk.specs.declared.desk.HandlerError.{HandlerError}
use Rattle.conn_desk.specs.declared.desk.HandlerError.TheVariants as lacks
use Rattle.conn_desk.specs.Desks.{AsMany, CallAnswered, Chain, Unanswered}
use Rattle.conn_desk.specs.Talks.{Talks, AreAnswered, CutsShort}
use Rattle.conn_desk.specs.Along.{Answered, stop_at, write_stopped}

-- ## What is spoken, one after another

request_spoken : (r : RequestItem) (o : Result DecodedRequest ℕ) (is js : List Incoming) (rs qs : List (Option Reply))
    → ((ts : List (Option Reply)) → AsMany (asked is) ts → spoken (is ++ js) (ts ++ qs) ≡ spoken is ts ++ spoken js qs)
    → AsMany (cons_option (call_in o) (asked is)) rs
    → answer_to r o (rs ++ qs) ++ spoken (is ++ js) (replies_after (call_in o) (rs ++ qs)) ≡ (answer_to r o rs
    ++ spoken is (replies_after (call_in o) rs)) ++ spoken js qs
request_spoken r (Err status) is js rs qs more h =
    let text = fault r status in
    ap (λ x. text ++ x) (more rs h) ∙ sym (append_assoc text (spoken is rs) (spoken js qs))
request_spoken r (Ok x) is js (t ∷ ts) qs more h =
    let text = answer_to r (Ok x) (t ∷ ts) in
    ap (λ x. text ++ x) (more ts h) ∙ sym (append_assoc text (spoken is ts) (spoken js qs))
request_spoken r (Ok x) is js [] qs more h = absurd h

pub spoken_append : (is js : List Incoming) (rs qs : List (Option Reply)) → AsMany (asked is) rs
    → spoken (is ++ js) (rs ++ qs) ≡ spoken is rs ++ spoken js qs
spoken_append [] js [] qs h = refl
spoken_append [] js (t ∷ ts) qs h = absurd h
spoken_append (Local bytes ∷ is) js rs qs h =
    ap (λ x. bytes ++ x) (spoken_append is js rs qs h) ∙ sym (append_assoc bytes (spoken is rs) (spoken js qs))
spoken_append (Request r ∷ is) js rs qs h =
    request_spoken r (asked_of r) is js rs qs (λ ts k. spoken_append is js ts qs k) h

-- ## Chains

module _ {D : Type 0} (called : D → D → DecodedRequest → Option Reply → Type 0) where
  pub chain_as_many : (d e : D) (requests : List DecodedRequest) (heard : List (Option Reply)) → Chain called d e requests heard
      → AsMany requests heard
  chain_as_many d e [] [] c = tt
  chain_as_many d e (r ∷ rs) (h ∷ hs) c = chain_as_many c.0 e rs hs c.2
  chain_as_many d e [] (h ∷ hs) c = absurd c
  chain_as_many d e (r ∷ rs) [] c = absurd c

  pub chain_append : (d m e : D) (rs qs : List DecodedRequest) (hs ks : List (Option Reply)) → Chain called d m rs hs
      → Chain called m e qs ks → Chain called d e (rs ++ qs) (hs ++ ks)
  chain_append d m e [] qs [] ks p q = subst (λ (x : D). Chain called x e qs ks) p q
  chain_append d m e (r ∷ rs) qs (h ∷ hs) ks p q = (p.0, p.1, chain_append p.0 m e rs qs hs ks p.2 q)
  chain_append d m e [] qs (h ∷ hs) ks p q = absurd p
  chain_append d m e (r ∷ rs) qs [] ks p q = absurd p

  -- ## Talks

  pub spoken_both : (d m : D) (is js : List Incoming) (rs qs : List (Option Reply)) → Chain called d m (asked is) rs
      → spoken (is ++ js) (rs ++ qs) ≡ spoken is rs ++ spoken js qs
  spoken_both d m is js rs qs c = spoken_append is js rs qs (chain_as_many d m (asked is) rs c)

  abbrev pub talks_none : (d : D) → Talks called d d [] []
  talks_none d = record { heard = []; chain = refl; answered = refl }

  abbrev pub talks_local : (d : D) (bytes : List ℕ) → Talks called d d (Local bytes ∷ []) bytes
  talks_local d bytes = record { heard = []; chain = refl; answered = append-nil bytes }

  abbrev pub talks_append : (d m e : D) (is js : List Incoming) (x y : List ℕ) → Talks called d m is x → Talks called m e js y
      → Talks called d e (is ++ js) (x ++ y)
  talks_append d m e is js x y p q = record {
    heard = p.heard ++ q.heard;
    chain = subst (λ rs. Chain called d e rs (p.heard ++ q.heard)) (sym (filter_map-append asked_by is js))
        (chain_append d m e (asked is) (asked js) p.heard q.heard p.chain q.chain);
    answered = spoken_both d m is js p.heard q.heard p.chain ∙ ap (λ t. t ++ spoken js q.heard) p.answered ∙ ap (λ t. x ++ t) q.answered;
  }

-- ## What a request of svcctl asks

pub svcctl_asks : (i : Interface) (opnum : ℕ) (body : List ℕ) → i ≡ Svcctl → asked_in i opnum body ≡ asked_of_call (call_at opnum) body
unfolding asked_in
svcctl_asks i opnum body e = rw e refl

pub asks_nothing : (r : RequestItem) → r.interface ≡ Svcctl → call_at r.opnum ≡ None → asked_of r ≡ Err 0x1C010002
asks_nothing r i none = svcctl_asks r.interface r.opnum r.body i ∙ ap (λ c. asked_of_call c r.body) none

pub asks_badly : (r : RequestItem) (call : Served) (status : ℕ) → r.interface ≡ Svcctl → call_at r.opnum ≡ Some call
    → or_fault asks.Call (request_at call r.body) ≡ Err status → asked_of r ≡ Err status
asks_badly r call status i some bad = svcctl_asks r.interface r.opnum r.body i ∙ ap (λ c. asked_of_call c r.body) some ∙ bad

pub asks_call : (r : RequestItem) (call : Served) (request : ARequest) → r.interface ≡ Svcctl → call_at r.opnum ≡ Some call
    → request_at call r.body ≡ Ok request → asked_of r ≡ Ok (asks.Call request)
asks_call r call request i some read =
    svcctl_asks r.interface r.opnum r.body i ∙ ap (λ c. asked_of_call c r.body) some ∙ ap (λ q. or_fault asks.Call q) read

-- ## One request

pub fault_said : (r : RequestItem) (o : Result DecodedRequest ℕ) (status : ℕ) → o ≡ Err status → answer_to r o [] ++ [] ≡ fault r status
fault_said r o status e = rw e (append-nil (fault r status))

pub reply_said : (r : RequestItem) (o : Result DecodedRequest ℕ) (x : DecodedRequest) (heard : Option Reply) (reply : Reply)
    → o ≡ Ok x → reply_to x heard ≡ reply
    → answer_to r o (heard ∷ []) ++ [] ≡ response r reply
reply_said r o x heard reply e p = rw (e, p) (append-nil (response r reply))

module _ {D : Type 0} (called : D → D → DecodedRequest → Option Reply → Type 0) where
  pub none_asked : (d : D) (o : Result DecodedRequest ℕ) (status : ℕ) → o ≡ Err status → Chain called d d (cons_option (call_in o) []) []
  none_asked d o status e = rw e refl

  abbrev pub talks_fault : (d : D) (r : RequestItem) (status : ℕ) → asked_of r ≡ Err status
      → Talks called d d (Request r ∷ []) (fault r status)
  talks_fault d r status e = record {
    heard = [];
    chain = none_asked d (asked_of r) status e;
    answered = fault_said r (asked_of r) status e;
  }

  pub one_asked : (d e : D) (o : Result DecodedRequest ℕ) (x : DecodedRequest) (heard : Option Reply) → o ≡ Ok x → called d e x heard
      → Chain called d e (cons_option (call_in o) []) (heard ∷ [])
  one_asked d e o x heard is made = rw is (e, made, refl)

  abbrev pub talks_call : (d e : D) (r : RequestItem) (x : DecodedRequest) (reply : Reply) → asked_of r ≡ Ok x
      → CallAnswered called d e x reply
      → Talks called d e (Request r ∷ []) (response r reply)
  talks_call d e r x reply is told = record {
    heard = told.heard ∷ [];
    chain = one_asked d e (asked_of r) x told.heard is told.made;
    answered = reply_said r (asked_of r) x told.heard reply is told.told;
  }

-- ## What a sink holds

front_append : {A : Type 0} (x a b : List A) → Begins a b → Begins (x ++ a) (x ++ b)
front_append x a b h = (h.0, ap (λ t. x ++ t) h.1 ∙ sym (append_assoc x a h.0))

module _ {D : Type 0} (called : D → D → DecodedRequest → Option Reply → Type 0) where
  pub answers_none : (d : D) (held : Option (List ℕ)) → AreAnswered called d d held held []
  answers_none d held = record { text = []; talks = talks_none called d; written = Appends-nil held }

  pub answers_append : (d m e : D) (o p q : Option (List ℕ)) (is js : List Incoming)
      → AreAnswered called d m o p is → AreAnswered called m e p q js → AreAnswered called d e o q (is ++ js)
  answers_append d m e o p q is js a b = record {
    text = a.text ++ b.text;
    talks = talks_append called d m e is js a.text b.text a.talks b.talks;
    written = Appends-trans o p q a.text b.text a.written b.written;
  }

  -- a cut text of one item
  pub cut_one : (d e : D) (o p : Option (List ℕ)) (item : Incoming) (text bytes : List ℕ)
      → Talks called d e (item ∷ []) text → Appends o p bytes → Begins bytes text → CutsShort called d e o p (item ∷ [])
  cut_one d e o p item text bytes t w front = record {
    text = text;
    talks = t;
    bytes = bytes;
    written = w;
    front = front;
    earlier = [];
    last = item;
    order = refl;
    whole = (bytes, refl);
  }

  -- all but the last of the later items have their text, and so have the earlier items
  pub cut_both : (d m e : D) (o p q : Option (List ℕ)) (is js : List Incoming)
      → AreAnswered called d m o p is → CutsShort called m e p q js → (cut : CutsShort called d e o q (is ++ js)) × Begins is cut.earlier
  cut_both d m e o p q is js a b = (
    record {
      text = a.text ++ b.text;
      talks = talks_append called d m e is js a.text b.text a.talks b.talks;
      bytes = a.text ++ b.bytes;
      written = Appends-trans o p q a.text b.bytes a.written b.written;
      front = front_append a.text b.bytes b.text b.front;
      earlier = is ++ b.earlier;
      last = b.last;
      order = ap (λ x. is ++ x) b.order ∙ sym (append_assoc is b.earlier (b.last ∷ []));
      whole =
          let said = spoken_both called d m is b.earlier a.talks.heard b.talks.heard a.talks.chain
          ∙ ap (λ t. t ++ spoken b.earlier b.talks.heard) a.talks.answered in
          subst (λ t. Begins t (a.text ++ b.bytes)) (sym said) (front_append a.text (spoken b.earlier b.talks.heard) b.bytes b.whole);
    },
    (b.earlier, refl),
  )

  -- an item whose text was written, or a front of it
  pub answered_by : (rests : D → D → Type 0) (full : D → DecodedRequest → Type 0) (d e : D) (o p : Option (List ℕ)) (item : Incoming)
      (text : List ℕ) (w : Result (Unit {0}) Failed)
      → Talks called d e (item ∷ []) text → Writes o p w text → Answered called rests full d e o p item (write_stopped w)
  answered_by rests full d e o p item text (Ok done) t h = record { text = text; talks = t; written = h }
  answered_by rests full d e o p item text (Err fault) t h = cut_one d e o p item text h.front t h.held h.begins

-- a request without an answer
pub unanswered_by : {D : Type 0} (called : D → D → DecodedRequest → Option Reply → Type 0) (rests : D → D → Type 0)
    (full : D → DecodedRequest → Type 0) (d e : D) (o : Option (List ℕ)) (r : RequestItem) (x : DecodedRequest) (why : HandlerError)
    → asked_of r ≡ Ok x → Unanswered rests full d e x why
    → Answered {T = Unit {0}} called rests full d e o o (Request r) (Err (stop_at why))
unanswered_by called rests full d e o r x lacks.Full asks h = (refl, x, ap call_in asks, h.0, h.1)
unanswered_by called rests full d e o r x lacks.OutOfMemory asks h = (refl, h)

-- a reply is written by the transmit size that its request tells
pub written_at : (terms : Option Terms) (transmit : ℕ) (o p : Option (List ℕ)) (w : Result (Unit {0}) Failed) (call context : ℕ)
    (bytes body : List ℕ) → bytes ≡ body
    → IsSome terms × IfSome terms (λ t. transmit ≡ t.transmit) → IfSome terms
    (λ t. Writes o p w (fragments_of t.transmit call context bytes))
    → Writes o p w (fragments_of transmit call context body)
written_at None transmit o p w call context bytes body e can h = absurd (false≢true can.0)
written_at (Some t) transmit o p w call context bytes body e can h =
    subst (λ b. Writes o p w (fragments_of transmit call context b)) e (subst (λ n. Writes o p w (fragments_of n call context bytes))
    (sym can.1) h)

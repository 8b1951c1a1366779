-- The entries of a connection's pass name its caller.
use Rattle.std.proofs.Common.{◌≡◌, ◌==◌, ◌∙◌, ℕ, true, List, [], ◌∷◌, ◌++◌, Option, None, Some, inl, inr, refl, sym, ap, subst, eq-eqb}
use Rattle.std.proofs.lemmas.List.Elements.{All-append, All-cons, All-nil}
use Rattle.scm_model.specs.declared.calls.Reply.{Reply}
use Rattle.scm_model.specs.declared.calls.Request.{Request}
use Rattle.scm_model.specs.declared.steps.Answer.{Answer}
use Rattle.scm_model.specs.declared.steps.Answer.TheVariants as answers
use Rattle.scm_model.specs.declared.steps.Step.TheVariants.{EndStart, Gone, NoMemory, Raised}
use Rattle.scm_rules.specs.Named.{names_caller}
use Rattle.scm_history.specs.Owned.{Made as Told, made_of}
use Rattle.book_rule.specs.declared.view.Opening.{Opening}
use Rattle.book_rule.specs.Seats.{Identity}
use Rattle.scm_book.specs.Passes.{IsOf, Known}
use Rattle.conn_desk.specs.declared.asked.DecodedRequest.{DecodedRequest}
use Rattle.conn_desk.specs.declared.asked.DecodedRequest.TheVariants as asks
use Rattle.conn_desk.specs.declared.served.Served.{Served}
use Rattle.conn_desk.specs.Bodies.{asked}
use Rattle.conn_desk.specs.Connection.{IsServedFor}
use Rattle.conn_worker.specs.Connecting.{Connects}
use Rattle.conn_worker.specs.Owning.{AreOf, AreOfAll, AreOfTold, IsCall}
use Rattle.scm_listener.specs.Connections.{PastConnection, past_of}
use Rattle.scm_server.specs.Works.{AreNamed, IsDone, MakesOwn, out_of}

module _ (caller : ℕ) where
  abbrev Names : Told → Type 0
  Names one = names_caller caller one.entry.1 ≡ true

  itself : (caller == caller) ≡ true
  itself = eq-eqb caller caller refl

  one_named : (one : Told) → Names one → AreNamed caller (one ∷ [])
  one_named one names = All-cons Names one [] names (All-nil Names)

  call_named : (request : Request) (told : Answer) (one : Told) → IsCall caller request told one → Names one
  call_named request told one call = subst Names (sym call.is) itself

  of_told : (request : DecodedRequest) (reply : Reply) (entries : List Told) → AreOfTold true caller request reply entries
      → AreNamed caller entries
  of_told (asks.Call request) reply entries (inl at_once) =
      subst (AreNamed caller) (sym at_once.2) (one_named at_once.0 (call_named request (answers.Reply reply) at_once.0 at_once.1))
  of_told (asks.Call request) reply entries (inr waited) =
      let last : Told = made_of (waited.moment, EndStart caller waited.plan) (answers.Reply reply) in
      let turns : waited.turns ≡ [] = waited.of_turns in
      let is : entries ≡ waited.call ∷ last ∷ [] = waited.is ∙ ap (λ (es : List Told). waited.call ∷ es ++ last ∷ []) turns in
      subst (AreNamed caller) (sym is)
      (All-cons Names waited.call (last ∷ []) (call_named request (answers.Begun waited.plan) waited.call waited.calls)
      (one_named last itself))
  of_told (asks.Raise subtype) reply entries raised =
      subst (AreNamed caller) (sym raised.is) (one_named (made_of (raised.moment, Raised caller subtype) (answers.Reply reply)) itself)

  of_heard : (request : DecodedRequest) (heard : Option Reply) (entries : List Told) → AreOf true caller request heard entries
      → AreNamed caller entries
  of_heard request (Some reply) entries are = of_told request reply entries are
  of_heard request None entries lacks = subst (AreNamed caller) (sym lacks.1)
      (one_named (made_of (lacks.0, NoMemory caller) answers.Done) itself)

  pub are_named : (requests : List DecodedRequest) (heard : List (Option Reply)) (entries : List Told)
      → AreOfAll true caller requests heard entries → AreNamed caller entries
  are_named [] [] entries none = subst (AreNamed caller) (sym none) (All-nil Names)
  are_named (request ∷ more) (told ∷ others) entries are =
      subst (AreNamed caller) (sym are.2) (All-append Names are.0 are.1 (of_heard request told are.0 are.3)
      (are_named more others are.1 are.4))
  are_named [] (told ∷ others) entries are = absurd are
  are_named (request ∷ more) [] entries are = absurd are

-- all that the pass made names its caller, its going too
makes_own : (tells : ℕ → Type 0) (o : Opening) (k k' : Known) (left left_now held held_now : Option (List ℕ)) (how : Served)
    → Connects true tells o k k' left left_now held held_now how → MakesOwn o k k'
makes_own tells o k k' left left_now held held_now how connects =
    let gone : Told = made_of (connects.moment, Gone k.caller) answers.Done in record {
      entries = connects.entries ++ gone ∷ [];
      adds = connects.adds;
      named = All-append (Names k.caller) connects.entries (gone ∷ []) (are_named k.caller
          (asked connects.done) connects.heard connects.entries connects.requests)
          (one_named k.caller gone (itself k.caller));
    }

-- a connection that was served, and then ended with what its ends told
pub is_done : (tells : ℕ → Type 0) (b : Identity) (k spent : Known) (number : ℕ) (given left began written : Option (List ℕ))
    (reads reads_now writes writes_now : ℕ) (past : PastConnection) (how : Served)
    → past ≡ past_of number left written reads_now writes_now → IsOf b spent
    → Connects true tells b.opening k spent given left began written how
    → IsServedFor how reads reads_now writes writes_now → IsDone tells b (out_of number given began reads writes k) spent past how
is_done tells b k spent number given left began written reads reads_now writes writes_now past how is of connects cause =
    subst (λ (p : PastConnection). IsDone tells b (out_of number given began reads writes k) spent p how) (sym is)
    (record {
      book = of;
      number = refl;
      connects = connects;
      own = makes_own tells b.opening k spent given left began written how connects;
      cause = cause;
    })

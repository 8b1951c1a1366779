-- From a desk to its pass, and the going behind the last request.
use Rattle.std.proofs.Common.{◌≡◌, ◌≢◌, ◌∙◌, ℕ, Bool, List, [], ◌∷◌, ◌++◌, map, Option, inl, inr, refl, sym, ap, subst, append-nil}
use Rattle.scm_model.specs.declared.calls.Reply.{Reply}
use Rattle.scm_model.specs.declared.steps.Answer.TheVariants as answers
use Rattle.scm_model.specs.declared.steps.Step.TheVariants.{Gone}
use Rattle.scm_history.specs.Owned.{Made as Told, made_of}
use Rattle.rpc_session.specs.declared.state.Incoming.{Incoming}
use Rattle.book_rule.specs.declared.view.Opening.{Opening}
use Rattle.book_rule.specs.Seats.{Identity}
use Rattle.book_rule.proofs.Prefixes.{prefix_trans}
use Rattle.scm_book.specs.Calls.{Goes}
use Rattle.scm_book.specs.Passes.{IsOf, Known, Learnt, Made}
use Rattle.conn_desk.specs.declared.asked.DecodedRequest.{DecodedRequest}
use Rattle.conn_desk.specs.declared.served.Served.{Served}
use Rattle.conn_desk.specs.declared.served.Served.TheVariants as served
use Rattle.conn_desk.specs.Bodies.{asked}
use Rattle.conn_desk.specs.Connection.{Reached}
use Rattle.conn_desk.specs.Desks.{Chain, IsLeft}
use Rattle.conn_desk.specs.Serves.{Leaves, Serves}
use Rattle.conn_worker.specs.Connecting.{Connects, HasNoRoomFor}
use Rattle.conn_worker.specs.Owning.{Adds, unowed_places}
use Rattle.conn_worker.specs.Serving.{IsServed, step_for}
use Rattle.conn_worker.proofs.Owning.{DidAll, Makes, adds_made, adds_then, found_behind, makes_learnt, makes_none, makes_then, of_chain}
use Rattle.conn_worker.proofs.Reaching.{reached_as}

-- a desk that has a pass, a book and a clock
module _ {D Ck : Type 0} (silent : Bool) (pass : D → Known) (book : D → Identity) (clock : D → Ck) (tells_at : Ck → ℕ → Type 0) where
  abbrev pub called : D → D → DecodedRequest → Option Reply → Type 0
  called d e request heard = (book e ≡ book d) × (clock e ≡ clock d) × IsServed silent (tells_at (clock d)) (book d).opening (pass d)
      (pass e) request heard

  abbrev pub rests : D → D → Type 0
  rests d e = (book e ≡ book d) × (clock e ≡ clock d) × Learnt (book d).opening (pass d) (pass e)

  abbrev pub full : D → DecodedRequest → Type 0
  full d request = HasNoRoomFor (book d).opening (pass d) request

  module _ (b : Identity) (k : Ck) where
    abbrev Is : D → Type 0
    Is d = (book d ≡ b) × (clock d ≡ k)

    calls : (d e : D) (r : DecodedRequest) (h : Option Reply) → Is d → called d e r h → Is e
        × IsServed silent (tells_at k) b.opening (pass d) (pass e) r h
    calls d e r h is made = (
      (made.0 ∙ is.0, made.1 ∙ is.1),
      subst (λ (x : Identity). IsServed silent (tells_at k) x.opening (pass d) (pass e) r h) is.0
          (subst (λ (x : Ck). IsServed silent (tells_at x) (book d).opening (pass d) (pass e) r h) is.1 made.2),
    )

    left : (d e : D) → Is d → rests d e → Is e × Learnt b.opening (pass d) (pass e)
    left d e is rested = ((rested.0 ∙ is.0, rested.1 ∙ is.1), subst (λ (x : Identity). Learnt x.opening (pass d) (pass e)) is.0 rested.2)

    fills : (d : D) (r : DecodedRequest) → Is d → full d r → HasNoRoomFor b.opening (pass d) r
    fills d r is none = subst (λ (x : Identity). HasNoRoomFor x.opening (pass d) r) is.0 none

    chain_on : (d e : D) (rs : List DecodedRequest) (hs : List (Option Reply)) → Is d → Chain called d e rs hs → Is e
        × Chain (IsServed silent (tells_at k) b.opening) (pass d) (pass e) rs hs
    chain_on d e [] [] is same = (subst Is (sym same) is, ap pass same)
    chain_on d e (r ∷ rs) (h ∷ hs) is chain =
        let one = calls d chain.0 r h is chain.1 in
        let rest = chain_on chain.0 e rs hs one.0 chain.2 in
        (rest.0, (pass chain.0, one.1, rest.1))
    chain_on d e [] (h ∷ hs) is chain = absurd chain
    chain_on d e (r ∷ rs) [] is chain = absurd chain

    same_on : (d e : D) → Is d → e ≡ d → Is e × (pass e ≡ pass d)
    same_on d e is same = (subst Is (sym same) is, ap pass same)

    left_on : (d e : D) → Is d → IsLeft rests d e → Is e × IsLeft (Learnt b.opening) (pass d) (pass e)
    left_on d e is (inl same) = let on = same_on d e is same in (on.0, inl on.1)
    left_on d e is (inr rested) = let on = left d e is rested in (on.0, inr on.1)

    leaves_on : (how : Served) (d e : D) → Is d → Leaves rests how d e → Is e × Leaves (Learnt b.opening) how (pass d) (pass e)
    leaves_on served.Full d e is leaves = left d e is leaves
    leaves_on served.OutOfMemory d e is leaves = left_on d e is leaves
    leaves_on how d e is leaves = same_on d e is leaves

    reached_on : (how : Served) (d : D) (read : List ℕ) (left_now : Option (List ℕ)) (done : List Incoming) (heard : List (Option Reply))
        (written : List ℕ)
        → Is d → Reached full d how read left_now done heard written → Reached (HasNoRoomFor b.opening)
        (pass d) how read left_now done heard written
    reached_on how d read left_now done heard written is reached =
        reached_as full (HasNoRoomFor b.opening) d (pass d) (λ request none. fills d request is none) how read left_now done heard written
        reached

makes_left : (tells : ℕ → Type 0) (o : Opening) (how : Served) (k k' : Known) → Leaves (Learnt o) how k k' → Makes tells o k [] [] k'
makes_left tells o served.Full k k' leaves = makes_learnt tells o k k' leaves
makes_left tells o served.OutOfMemory k k' (inl same) = makes_none tells o k k' same
makes_left tells o served.OutOfMemory k k' (inr learnt) = makes_learnt tells o k k' learnt
makes_left tells o how k k' leaves = makes_none tells o k k' leaves

module _ {D Ck : Type 0} (silent : Bool) (pass : D → Known) (book : D → Identity) (clock : D → Ck) (tells_at : Ck → ℕ → Type 0) where
  -- the pass is still of the book
  pub serves_of : (d e : D) (bytes bytes_now held held_now : Option (List ℕ)) (how : Served)
      → Serves (called silent pass book clock tells_at) (rests silent pass book clock tells_at)
      (full silent pass book clock tells_at) d e bytes bytes_now held held_now how
      → IsOf (book e) (pass e) → IsOf (book d) (pass e)
  serves_of d e bytes bytes_now held held_now how serves of =
      let chain = chain_on silent pass book clock tells_at (book d) (clock d) d serves.last (asked serves.done) serves.heard
      (refl, refl) serves.chain in
      subst (λ (b : Identity). IsOf b (pass e)) (leaves_on silent pass book clock tells_at (book d)
      (clock d) how serves.last e chain.0 serves.leaves).0.0 of

  pub connects : (d e : D) (bytes bytes_now held held_now : Option (List ℕ)) (how : Served) (moment : ℕ) (k' : Known) → (pass d).caller ≢ 0
      → Serves (called silent pass book clock tells_at) (rests silent pass book clock tells_at)
      (full silent pass book clock tells_at) d e bytes bytes_now held held_now how
      → tells_at (clock d) moment → Goes (book d).opening (pass e) moment k'
      → Connects silent (tells_at (clock d)) (book d).opening (pass d) k' bytes bytes_now held held_now how
  connects d e bytes bytes_now held held_now how moment k' some serves told goes =
      let tells : ℕ → Type 0 = tells_at (clock d) in
      let o : Opening = (book d).opening in
      let k : Known = pass d in
      let chain = chain_on silent pass book clock tells_at (book d) (clock d) d serves.last (asked serves.done) serves.heard
      (refl, refl) serves.chain in
      let leaves = leaves_on silent pass book clock tells_at (book d) (clock d) how serves.last e chain.0 serves.leaves in
      let did : DidAll tells o silent k (pass serves.last) (asked serves.done) serves.heard =
      of_chain tells o silent k (pass serves.last) (asked serves.done) serves.heard chain.1 in
      let left : Makes tells o (pass serves.last) [] [] (pass e) = makes_left tells o how (pass serves.last) (pass e) leaves.1 in
      let stood : Makes tells o k (did.entries ++ []) (did.places ++ []) (pass e) =
      makes_then tells o k (pass serves.last) (pass e) did.entries [] did.places [] did.makes left in
      let all : Makes tells o k did.entries did.places (pass e) = subst (λ (ps : List ℕ). Makes tells o k did.entries ps (pass e))
      (append-nil did.places)
      (subst (λ (es : List Told). Makes tells o k es (did.places ++ []) (pass e)) (append-nil did.entries) stood) in
      let gone : Made o (pass e) moment (Gone k.caller) answers.Done k' =
      subst (λ (c : ℕ). Made o (pass e) moment (Gone c) answers.Done k') all.caller (goes.caller (λ none. some (sym all.caller ∙ none))) in
      let going : Adds o (pass e) (made_of (moment, Gone k.caller) answers.Done ∷ []) k' =
      adds_made o (pass e) k' moment (Gone k.caller) answers.Done gone in record {
        read = serves.read;
        done = serves.done;
        heard = serves.heard;
        written = serves.written;
        consumed = serves.consumed;
        most = serves.most;
        appended = serves.appended;
        last = pass serves.last;
        chain = chain.1;
        stood = pass e;
        leaves = leaves.1;
        reached = reached_on silent pass book clock tells_at (book d) (clock d) how e serves.read bytes_now serves.done serves.heard
            serves.written leaves.0 serves.reached;
        moment = moment;
        told = told;
        goes = gone;
        entries = did.entries;
        requests = did.of;
        all_told = all.told;
        adds = adds_then o k (pass e) k' did.entries (made_of (moment, Gone k.caller) answers.Done ∷ []) all.adds going;
        places = did.places;
        own = all.own;
        found = found_behind o (pass serves.last).seen k'.seen (unowed_places did.places did.entries)
            (map (step_for k.caller) (asked serves.done))
            (prefix_trans (pass serves.last).seen (pass e).seen k'.seen left.adds.longer going.longer) did.found;
      }

-- The places of a pass's own entries rise, and its caller stays, along the requests of a connection.
use Rattle.std.proofs.Common.{◌≡◌, ◌∙◌, ℕ, ◌<◌, ◌≤◌, true, false, List, [], ◌∷◌, length, Option, None, Some, refl, sym, subst, inl, inr}
use Rattle.std.proofs.Common.{arith}
use Rattle.scm_model.specs.declared.calls.Reply.{Reply}
use Rattle.scm_model.specs.declared.steps.Answer.{Answer}
use Rattle.scm_model.specs.declared.steps.Answer.TheVariants as answers
use Rattle.scm_model.specs.declared.steps.Step.{Step}
use Rattle.scm_model.specs.declared.steps.Step.TheVariants.{Call, EndStart, NoMemory, Raised}
use Rattle.book_rule.specs.declared.view.Opening.{Opening}
use Rattle.book_rule.proofs.Prefixes.{prefix_length}
use Rattle.scm_book.specs.Called.{RaisedSo}
use Rattle.scm_book.specs.Passes.{Known, Learnt, Made}
use Rattle.conn_desk.specs.declared.asked.DecodedRequest.{DecodedRequest}
use Rattle.conn_desk.specs.declared.asked.DecodedRequest.TheVariants as asks
use Rattle.conn_desk.specs.declared.served.Served.{Served}
use Rattle.conn_desk.specs.declared.served.Served.TheVariants as served
use Rattle.conn_desk.specs.Desks.{Chain}
use Rattle.conn_desk.specs.Serves.{Leaves}
use Rattle.conn_worker.specs.Serving.{IsServed}
use Rattle.conn_worker.specs.Waiting.{Turns, Waits, WaitsOnce}
use Rattle.conn_worker.proofs.Owning.{Lacked, want_made}
use Rattle.scm_server.specs.Pairs.{Ascends}
use Rattle.scm_server.proofs.Lists.{pairwise_more}

pub record Goes (k k' : Known) : Type 0 where
  pub rising : Ascends k.own → Ascends k'.own
  pub caller : k'.caller ≡ k.caller

pub goes_on : (k m k' : Known) → Goes k m → Goes m k' → Goes k k'
goes_on k m k' first then = record { rising = λ r. then.rising (first.rising r); caller = then.caller ∙ first.caller }

goes_same : (k k' : Known) → k' ≡ k → Goes k k'
goes_same k k' same = subst (λ (x : Known). Goes k x) (sym same) (record { rising = λ r. r; caller = refl })

module _ (o : Opening) where
  -- the place of a step is behind all that the pass had
  pub rises : (k k' : Known) (moment : ℕ) (step : Step) (told : Answer) → Made o k moment step told k' → Ascends k.own → Ascends k'.own
  rises k k' moment step told made rising =
      let n : length k.seen ≤ length made.before = prefix_length k.seen made.before made.longer in
      subst Ascends (sym made.own)
      (pairwise_more (λ (a : ℕ) (b : ℕ). a < b) k.own (length made.before) rising
      (λ place has. let w : place < length k.seen = made.until.within place has in omega arith))

  goes_made : (k k' : Known) (moment : ℕ) (step : Step) (told : Answer) → Made o k moment step told k' → k'.caller ≡ k.caller → Goes k k'
  goes_made k k' moment step told made caller = record { rising = rises k k' moment step told made; caller = caller }

  goes_learnt : (k k' : Known) → Learnt o k k' → Goes k k'
  goes_learnt k k' learnt = record { rising = λ r. subst Ascends (sym learnt.own) r; caller = learnt.caller }

  of_turn : (k k' : Known) (moment : ℕ) → Turns true o k moment k' → Goes k k'
  of_turn k k' moment (inl (inl same)) = goes_same k k' same
  of_turn k k' moment (inl (inr learnt)) = goes_learnt k k' learnt
  of_turn k k' moment (inr may) = let loud : true ≡ false = may.0 in absurd cc

  of_waits : (plan : ℕ) (moments : List ℕ) (k k' : Known) → Waits true o plan moments k k' → Goes k k'
  of_waits plan [] k k' same = goes_same k k' same
  of_waits plan (moment ∷ moments) k k' waits =
      let once : WaitsOnce true o plan k moment waits.0 = waits.1 in
      goes_on k once.looked k' (goes_learnt k once.looked once.learnt)
      (goes_on once.looked waits.0 k' (of_turn once.looked waits.0 moment once.turns) (of_waits plan moments waits.0 k' waits.2))

  of_served : (tells : ℕ → Type 0) (k k' : Known) (asked : DecodedRequest) (heard : Option Reply) → IsServed true tells o k k' asked heard
      → Goes k k'
  of_served tells k k' asked None wanted =
      let made : Lacked o k wanted.moment asked k' = want_made o k k' wanted.moment asked wanted.wants in
      goes_made k k' wanted.moment (NoMemory k.caller) answers.Done made.made made.made.caller
  of_served tells k k' (asks.Raise subtype) (Some reply) raised =
      let made : RaisedSo o k raised.moment subtype reply k' = raised.made in
      goes_made k k' raised.moment (Raised k.caller subtype) (answers.Reply reply) made.made.made made.made.made.caller
  of_served tells k k' (asks.Call asked) (Some reply) (inl at_once) =
      goes_made k k' at_once.moment (Call k.caller asked at_once.made.append)
      (answers.Reply reply) at_once.made.made at_once.made.made.caller
  of_served tells k k' (asks.Call asked) (Some reply) (inr waited) =
      let ends = waited.ends in
      let last = ends.ends in
      goes_on k waited.begun k'
      (goes_made k waited.begun waited.moment (Call k.caller asked waited.made.append)
      (answers.Begun waited.plan) waited.made.made waited.made.made.caller)
      (goes_on waited.begun ends.waited k' (of_waits waited.plan ends.turns waited.begun ends.waited ends.waits)
      (goes_made ends.waited k' last.moment (EndStart ends.waited.caller waited.plan) (answers.Reply reply) last.made last.made.caller))

  pub of_chain : (tells : ℕ → Type 0) (k k' : Known) (requests : List DecodedRequest) (heard : List (Option Reply))
      → Chain (IsServed true tells o) k k' requests heard → Goes k k'
  of_chain tells k k' [] [] same = goes_same k k' same
  of_chain tells k k' (asked ∷ requests) (told ∷ heard) chain =
      goes_on k chain.0 k' (of_served tells k chain.0 asked told chain.1) (of_chain tells chain.0 k' requests heard chain.2)
  of_chain tells k k' [] (told ∷ heard) chain = absurd chain
  of_chain tells k k' (asked ∷ requests) [] chain = absurd chain

  pub of_left : (how : Served) (k k' : Known) → Leaves (Learnt o) how k k' → Goes k k'
  of_left served.Full k k' leaves = goes_learnt k k' leaves
  of_left served.OutOfMemory k k' (inl same) = goes_same k k' same
  of_left served.OutOfMemory k k' (inr learnt) = goes_learnt k k' learnt
  of_left how k k' leaves = goes_same k k' leaves

-- How far the reports of a child's output came.
use Rattle.std.proofs.Common.{ℕ, ◌≡◌, ◌∙◌, ◌+◌, ◌<◌, ◌≤◌, ◌^◌, ◌⊎◌, inl, inr, List, [], ◌∷◌, ◌++◌, length, Option, refl, sym, ap, subst}
use Rattle.std.proofs.Common.{append_assoc, arith, length-append}
use Rattle.std.specs.Io.KnownBytes.{Consumes, IsAtEnd}
use Rattle.std.proofs.KnownBytes.{Consumes-trans, Consumes-whole}
use Rattle.feed_loop.specs.declared.fed.ReadEnd.TheVariants as fed
use Rattle.outside.specs.Causes.{Rose}
use Rattle.outside.specs.Written.{Begins}
use Rattle.child_link.specs.declared.lines.Reported.{Reported}
use Rattle.book_rule.specs.declared.view.Opening.{Opening}
use Rattle.scm_book.specs.declared.fault.MakeFault.{MakeFault}
use Rattle.scm_book.specs.declared.fault.MakeFault.TheVariants as lacks
use Rattle.scm_book.specs.Passes.{Known}
use Rattle.child_runner.specs.declared.served.ChildServed.{ChildServed}
use Rattle.child_runner.specs.declared.served.ChildServed.TheVariants as served
use Rattle.child_runner.specs.Reports.{Chain, GoesOn, HasRead, Stops, reports}
use Rattle.child_runner.specs.Serving.{CameTo, HowFar, IsAll, IsReadOut, MakesReports, PassLeft, ReadsAll, ReadsOn, child_served_as}
use Rattle.child_runner.proofs.Reading.{all_told}
use Rattle.child_runner.proofs.Stretches.{chain_append}

all_of : (left left_now : Option (List ℕ)) (read : List ℕ) → Consumes left left_now read → IsAtEnd left_now → IsAll left read
all_of left left_now read consumed end = Consumes-whole left left_now read (λ (bytes : List ℕ). read ≡ bytes) consumed end refl

shorter : (front : List Reported) (next : Reported) (all : List Reported) → Begins (front ++ next ∷ []) all → Begins front all
shorter front next all begins = (next ∷ begins.0, begins.1 ∙ append_assoc front (next ∷ []) begins.0)

-- the first reports of what was read were made
pub record SoFar (tells : ℕ → Type 0) (o : Opening) (process : ℕ) (k m : Known) (read line : List ℕ) : Type 0 where
  pub done : List Reported
  pub has : HasRead read done line
  pub chain : Chain tells o process k m done

-- one piece more
pub one_piece : (tells : ℕ → Type 0) (o : Opening) (process : ℕ) (k m now : Known) (read line piece line' : List ℕ)
    → SoFar tells o process k m read line
    → GoesOn tells o process piece line line' m now → SoFar tells o process k now (read ++ piece) line'
one_piece tells o process k m now read line piece line' on goes = record {
  done = on.done ++ goes.heard;
  has = goes.reads read on.done on.has;
  chain = chain_append tells o process k m now on.done goes.heard on.chain goes.chain;
}

module _ (tells : ℕ → Type 0) (o : Opening) (process : ℕ) (k m : Known) (left left_now : Option (List ℕ)) (read line : List ℕ)
    (on : SoFar tells o process k m read line) where
  -- all reports of what was read were made
  pub read_ends : (count : ℕ) (how : ChildServed) (now : Known) → Consumes left left_now read → count ≡ length read → length read ≤ 2 ^ 40
      → CameTo o process m now how left read on.done → MakesReports tells o process k now left left_now count how
  read_ends count how now consumed counted most came = record {
    read = read;
    done = on.done;
    consumed = consumed;
    counted = counted;
    most = most;
    last = m;
    chain = on.chain;
    came = came;
  }

  -- the whole output was read
  pub all_read : Consumes left left_now read → IsAtEnd left_now → length read < 2 ^ 40 → HowFar o process m served.Ended left read on.done
  all_read consumed end few = (all_of left left_now read consumed end, few, all_told read on.done line on.has)

  -- a report wasn't made
  module _ (piece line' : List ℕ) (now : Known) (count : ℕ) (consumed : Consumes left left_now (read ++ piece))
      (counted : count ≡ length read + length piece) (much : count ≤ 2 ^ 40) where
    next_is : (why : MakeFault) (s : Stops tells o process piece line line' m now why) (more : List ℕ)
        → Begins ((on.done ++ s.heard) ++ s.next ∷ []) (reports ((read ++ piece) ++ more))
    next_is why s more =
        subst (λ (front : List Reported). Begins front (reports ((read ++ piece) ++ more)))
        (sym (append_assoc on.done s.heard (s.next ∷ [])))
        (subst (λ (bs : List ℕ). Begins (on.done ++ (s.heard ++ s.next ∷ [])) (reports bs)) (sym (append_assoc read piece more))
        (s.follows read on.done on.has more))

    came_to : (why : MakeFault) (s : Stops tells o process piece line line' m now why)
        → CameTo o process s.last now (child_served_as (fed.Stopped why)) left (read ++ piece) (on.done ++ s.heard)
    came_to lacks.Full s = (s.next, next_is lacks.Full s, s.lacks)
    came_to lacks.OutOfMemory s = (
      s.lacks.learnt,
      λ more. shorter (on.done ++ s.heard) s.next (reports ((read ++ piece) ++ more))
          (next_is lacks.OutOfMemory s more),
    )

    pub report_lacks : (why : MakeFault) → Stops tells o process piece line line' m now why
        → MakesReports tells o process k now left left_now count (child_served_as (fed.Stopped why))
    report_lacks why s = record {
      read = read ++ piece;
      done = on.done ++ s.heard;
      consumed = consumed;
      counted = counted ∙ sym (length-append read piece);
      most = (let long = length-append read piece in omega (arith, long, counted, much));
      last = s.last;
      chain = chain_append tells o process k m s.last on.done s.heard on.chain s.chain;
      came = came_to why s;
    }

-- ## What is left is read

rose_both : (a b c : ℕ) → Rose a b → Rose b c → Rose a c
rose_both a b c rose more = omega (arith, rose, more)

pub rose_behind : (a b c : ℕ) → (b ≡ a) ⊎ Rose a b → Rose b c → Rose a c
rose_behind a b c (inl same) more = subst (λ (n : ℕ). Rose n c) same more
rose_behind a b c (inr rose) more = rose_both a b c rose more

out_of : (left left_now : Option (List ℕ)) (all : List ℕ) (count : ℕ) (more : List ℕ) (a b c : ℕ) → Consumes left left_now all
    → length all ≡ count + length more → (b ≡ a) ⊎ Rose a b
    → IsAtEnd left_now ⊎ (count + length more ≡ 2 ^ 40) ⊎ Rose b c → IsReadOut left all a c
out_of left left_now all count more a b c consumed long first (inl end) = inl (all_of left left_now all consumed end)
out_of left left_now all count more a b c consumed long first (inr (inl many)) = inr (inl (long ∙ many))
out_of left left_now all count more a b c consumed long first (inr (inr rose)) = inr (inr (rose_behind a b c first rose))

module _ (tells : ℕ → Type 0) (o : Opening) (process : ℕ) (k now : Known) (left mid : Option (List ℕ)) where
  -- the first reports were made, and the rest of the output was read without steps
  module _ (left_now : Option (List ℕ)) (count a b c : ℕ) (first : (b ≡ a) ⊎ Rose a b) (r : ReadsOn mid left_now count b c) where
    read_on : (how : ChildServed) (m : MakesReports tells o process k now left mid count how) → PassLeft o how m.last now
        → HowFar o process now how left (m.read ++ r.more) m.done → ReadsAll tells o process k now left left_now a c how
    read_on how m leaves reached =
        let long : length (m.read ++ r.more) ≡ count + length r.more = length-append m.read r.more
        ∙ ap (λ (n : ℕ). n + length r.more) (sym m.counted) in
        let consumed = Consumes-trans left mid left_now m.read r.more m.consumed r.consumed in record {
          read = m.read ++ r.more;
          done = m.done;
          consumed = consumed;
          most = (let most = r.most in omega (arith, long, most));
          out = out_of left left_now (m.read ++ r.more) count r.more a b c consumed long first r.out;
          last = m.last;
          chain = m.chain;
          leaves = leaves;
          reached = reached;
        }

    pub behind_full : MakesReports tells o process k now left mid count served.Full
        → ReadsAll tells o process k now left left_now a c served.Full
    behind_full m =
        read_on served.Full m m.came.2.learnt (record { next = m.came.0; follows = m.came.1 r.more; full = m.came.2.full })

    pub behind_no_memory : MakesReports tells o process k now left mid count served.OutOfMemory
        → ReadsAll tells o process k now left left_now a c served.OutOfMemory
    behind_no_memory m = read_on served.OutOfMemory m (inr m.came.0) (m.came.1 r.more)

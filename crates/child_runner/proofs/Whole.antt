-- A child from its first byte to its end.
use Rattle.std.proofs.Common.{ℕ, ◌≡◌, ◌∙◌, ◌<◌, ◌^◌, ◌⊎◌, Bool, inl, inr, List, [], ◌∷◌, ◌++◌, length, Option, None, Some, refl, sym, ap}
use Rattle.std.proofs.Common.{subst, arith, length-append}
use Rattle.std.specs.Io.KnownBytes.{Consumes, Keeps}
use Rattle.std.proofs.KnownBytes.{Consumes-kept}
use Rattle.outside.specs.Causes.{Rose}
use Rattle.book_rule.specs.declared.view.Opening.{Opening}
use Rattle.book_rule.specs.Ways.{Has}
use Rattle.book_rule.proofs.Places.{has_left, has_right}
use Rattle.child_link.specs.Children.{HasEnded}
use Rattle.scm_book.specs.declared.processes.EndedEnd.{EndedEnd}
use Rattle.scm_book.specs.Passes.{Known}
use Rattle.scm_book.specs.Processes.{EndedSo}
use Rattle.child_runner.specs.declared.served.ChildServed.{ChildServed}
use Rattle.child_runner.specs.declared.served.ChildServed.TheVariants as served
use Rattle.child_runner.specs.Reports.{reports}
use Rattle.child_runner.specs.Serving.{HasNoRoom, HadRoomFor, HasReported, IsAll, IsWhole, IsReadFor, IsReadOut, IsEndedFor, PassLeft}
use Rattle.child_runner.specs.Serving.{HowFar, ReadsAll, ServesChild, Awaits, waited_in_vain}
use Rattle.child_runner.proofs.Coming.{rose_behind}
use Rattle.child_runner.proofs.Owned.{Left, end_caller, has_reported, left_behind, left_stood, longer_end}

-- ## The wait

rose_then : (a b c : ℕ) → Rose a b → (c ≡ b) ⊎ Rose b c → Rose a c
rose_then a b c rose (inl same) = subst (Rose a) (sym same) rose
rose_then a b c rose (inr more) = rose_behind a b c (inr rose) more

module _ (tells : ℕ → Type 0) (o : Opening) (process : ℕ) (k stood : Known) (left mid left_now : Option (List ℕ)) (a b c : ℕ)
    (keeps : Keeps mid left_now) where
  out_still : (read : List ℕ) → (c ≡ b) ⊎ Rose b c → IsReadOut left read a b → IsReadOut left read a c
  out_still read more (inl all) = inl all
  out_still read more (inr (inl many)) = inr (inl many)
  out_still read more (inr (inr rose)) = inr (inr (rose_then a b c rose more))

  -- a wait changes nothing of what was read
  still : (how how' : ChildServed) → (c ≡ b) ⊎ Rose b c → (r : ReadsAll tells o process k stood left mid a b how)
      → PassLeft o how' r.last stood → HowFar o process stood how' left r.read r.done
      → ReadsAll tells o process k stood left left_now a c how'
  still how how' more r leaves reached = record {
    read = r.read;
    done = r.done;
    consumed = Consumes-kept left mid left_now r.read r.consumed keeps;
    most = r.most;
    out = out_still r.read more r.out;
    last = r.last;
    chain = r.chain;
    leaves = leaves;
    reached = reached;
  }

  in_vain : (how : ChildServed) → Rose b c → ReadsAll tells o process k stood left mid a b how
      → ReadsAll tells o process k stood left left_now a c (waited_in_vain how)
  in_vain served.Ended rose r = still served.Ended served.ReadFault (inr rose) r r.leaves (r.reached.1, r.reached.2)
  in_vain served.ReadFault rose r = still served.ReadFault served.ReadFault (inr rose) r r.leaves r.reached
  in_vain served.Full rose r = still served.Full served.Full (inr rose) r r.leaves r.reached
  in_vain served.Worn rose r = still served.Worn served.Worn (inr rose) r r.leaves r.reached
  in_vain served.OutOfMemory rose r = still served.OutOfMemory served.OutOfMemory (inr rose) r r.leaves r.reached

  pub waited : (how how' : ChildServed) (ended : Option Bool) → Awaits how ended b c how'
      → ReadsAll tells o process k stood left mid a b how
      → ReadsAll tells o process k stood left left_now a c how'
  waited how how' ended (inl so) r = subst (ReadsAll tells o process k stood left left_now a c) (sym so.0)
      (still how how (inl so.2) r r.leaves r.reached)
  waited how how' ended (inr so) r = subst (ReadsAll tells o process k stood left left_now a c) (sym so.0) (in_vain how so.1 r)

ended_or : (a b c : ℕ) (ended : Option Bool) → HasEnded ended → c ≡ b → (b ≡ a) ⊎ Rose a b → (HasEnded ended × (c ≡ a)) ⊎ Rose a c
ended_or a b c ended has same (inl kept) = inl (has, same ∙ kept)
ended_or a b c ended has same (inr rose) = inr (rose_then a b c rose (inl same))

ended_for : (a b c : ℕ) (ended : Option Bool) (how : ChildServed) → HasEnded ended → c ≡ b → IsReadFor how a b → IsEndedFor how ended a c
ended_for a b c ended served.Ended has same for = (has, same ∙ for)
ended_for a b c ended served.ReadFault has same for = rose_then a b c for (inl same)
ended_for a b c ended served.Worn has same for = inl (has, same ∙ for)
ended_for a b c ended served.Full has same for = ended_or a b c ended has same for
ended_for a b c ended served.OutOfMemory has same for = ended_or a b c ended has same for

vain_for : (a b c : ℕ) (ended : Option Bool) (how : ChildServed) → Rose b c → IsReadFor how a b → IsEndedFor (waited_in_vain how) ended a c
vain_for a b c ended served.Ended rose for = rose_behind a b c (inl for) rose
vain_for a b c ended served.ReadFault rose for = rose_behind a b c (inr for) rose
vain_for a b c ended served.Worn rose for = inr (rose_behind a b c (inl for) rose)
vain_for a b c ended served.Full rose for = inr (rose_behind a b c for rose)
vain_for a b c ended served.OutOfMemory rose for = inr (rose_behind a b c for rose)

pub waited_for : (a b c : ℕ) (ended : Option Bool) (how how' : ChildServed) → Awaits how ended b c how' → IsReadFor how a b
    → IsEndedFor how' ended a c
waited_for a b c ended how how' (inl so) for = subst (λ (h : ChildServed). IsEndedFor h ended a c) (sym so.0)
    (ended_for a b c ended how so.1 so.2 for)
waited_for a b c ended how how' (inr so) for = subst (λ (h : ChildServed). IsEndedFor h ended a c) (sym so.0)
    (vain_for a b c ended how so.1 for)

-- ## The whole

module _ (tells : ℕ → Type 0) (o : Opening) (process : ℕ) (k stood k' : Known) (left left_now : Option (List ℕ)) (a c : ℕ)
    (how : ChildServed)
    (r : ReadsAll tells o process k stood left left_now a c how) (moment : ℕ) (told : tells moment) (ended : EndedEnd)
    (so : EndedSo o stood moment process ended k') where
  all_left : Left o process tells k stood r.done
  all_left = left_stood o process tells how k r.last stood r.done (left_behind o process tells k r.last r.done r.chain) r.leaves

  made_all : HasReported tells o process k k' r.done
  made_all = has_reported o process tells k stood k' r.done moment ended all_left told so

  -- a pass that was nobody's is so still
  pub still_nobody : k.caller ≡ 0 → k'.caller ≡ 0
  still_nobody nobody = end_caller o process tells stood k' moment ended so ∙ (all_left.caller ∙ nobody)

  pub serves : (spent : Known) → spent ≡ k' → ServesChild tells o process k spent left left_now a c how
  serves spent same = subst (λ (x : Known). ServesChild tells o process k x left left_now a c how) (sym same) (record {
    stood = stood;
    reads = r;
    moment = moment;
    told = told;
    ended = ended;
    ends = so;
    reported = made_all;
  })

  -- ## Completeness

  module _ (bytes : List ℕ) (is : left ≡ Some bytes) (few : length bytes < 2 ^ 40) (unrisen : Rose a c → ⊥)
      (room : HadRoomFor o process k k' (reports bytes)) where
    all_bytes : IsAll left r.read → r.read ≡ bytes
    all_bytes all = subst (λ (told : Option (List ℕ)). IsAll told r.read) is all

    not_many : (left_now : Option (List ℕ)) (read : List ℕ) → Consumes (Some bytes) left_now read → length read ≡ 2 ^ 40 → ⊥
    not_many None read consumed many = consumed
    not_many (Some rest) read consumed many = let bad : ⊥ = omega (arith, few, many, ap length consumed, length-append read rest) in bad

    few_read : length r.read ≡ 2 ^ 40 → ⊥
    few_read many = not_many left_now r.read (subst (λ (told : Option (List ℕ)). Consumes told left_now r.read) is r.consumed) many

    read_out : IsReadOut left r.read a c → r.read ≡ bytes
    read_out (inl all) = all_bytes all
    read_out (inr (inl many)) = absurd (few_read many)
    read_out (inr (inr rose)) = absurd (unrisen rose)

    reported : r.done ≡ reports r.read → IsAll left r.read → HasReported tells o process k k' (reports bytes)
    reported done all = subst (HasReported tells o process k k') (done ∙ ap reports (all_bytes all)) made_all

    has_next : HasNoRoom o process stood r.read r.done → ⊥
    has_next none =
        let last : Has none.next (r.done ++ none.next ∷ []) = has_right none.next r.done (none.next ∷ []) (inl refl) in
        let among : Has none.next (reports bytes) =
        subst (Has none.next) (ap reports (read_out r.out)) (subst (Has none.next) (sym none.follows.1)
        (has_left none.next (r.done ++ none.next ∷ []) none.follows.0 last)) in
        let free = room stood.seen none.next all_left.longer (longer_end o process tells stood k' moment ended so) among in
        let full = none.full in absurd cc

  complete_for : (h : ChildServed) (ended_now : Option Bool) → HowFar o process stood h left r.read r.done → IsEndedFor h ended_now a c
      → IsWhole tells o process k k' left a c h
  complete_for served.Ended ended_now reached for = λ bytes is few unrisen room. inr
      (refl, reported bytes is few unrisen room reached.2 reached.0)
  complete_for served.ReadFault ended_now reached for = λ bytes is few unrisen room. absurd (unrisen for)
  complete_for served.Worn ended_now reached for = λ bytes is few unrisen room. absurd (few_read bytes is few unrisen room reached.0)
  complete_for served.Full ended_now reached for = λ bytes is few unrisen room. absurd (has_next bytes is few unrisen room reached)
  complete_for served.OutOfMemory ended_now reached for = λ bytes is few unrisen room. inl refl

  pub complete : (spent : Known) → spent ≡ k' → (ended_now : Option Bool) → IsEndedFor how ended_now a c
      → IsWhole tells o process k spent left a c how
  complete spent same ended_now for = subst (λ (x : Known). IsWhole tells o process k x left a c how) (sym same)
      (complete_for how ended_now r.reached for)

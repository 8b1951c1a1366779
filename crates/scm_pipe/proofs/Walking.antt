-- The requests of a pass that is alone, as one stretch of the book's history.
use Rattle.std.proofs.Common.{ℕ, ◌≡◌, ◌∙◌, true, false, List, [], ◌∷◌, ◌++◌, length, Option, None, Some, inl, inr, refl, sym, ap, subst}
use Rattle.std.proofs.Common.{append_assoc, append-nil}
use Rattle.std.specs.Prelude.{All}
use Rattle.std.specs.List.{cons_option}
use Rattle.std.proofs.lemmas.List.Elements.{All-append, All-cons, All-head, All-nil, All-tail}
use Rattle.scm_model.specs.declared.flat.Flat.{Flat}
use Rattle.scm_model.specs.declared.flat.Limits.{Limits}
use Rattle.scm_model.specs.declared.calls.Reply.{Reply}
use Rattle.scm_model.specs.declared.calls.Request.{Request}
use Rattle.scm_model.specs.declared.codes.TheConstants.{ERROR_SERVICE_NO_THREAD}
use Rattle.scm_model.specs.declared.steps.Answer.{Answer}
use Rattle.scm_model.specs.declared.steps.Answer.TheVariants as answers
use Rattle.scm_model.specs.declared.steps.Step.{Step}
use Rattle.scm_model.specs.declared.steps.Step.TheVariants.{Call, EndStart, LaunchFailed, LaunchTaken, NoMemory, Raised}
use Rattle.scm_model.specs.Entries.{Entry}
use Rattle.start_plan.specs.Decided.{code_of}
use Rattle.scm_rules.specs.Histories.{answer, state}
use Rattle.scm_rules.specs.Runs.{run_state}
use Rattle.scm_rules.specs.Steps.{step_of}
use Rattle.scm_runs.proofs.Histories.{same_answer, state_appended, state_is, state_more, told}
use Rattle.book_rule.specs.declared.view.Opening.{Opening}
use Rattle.scm_book.specs.Called.{RaisedSo}
use Rattle.scm_book.specs.Passes.{Known, Learnt, Made, room_behind}
use Rattle.conn_desk.specs.declared.asked.DecodedRequest.{DecodedRequest}
use Rattle.conn_desk.specs.declared.asked.DecodedRequest.TheVariants as asks
use Rattle.conn_desk.specs.Desks.{Chain}
use Rattle.conn_worker.specs.Serving.{IsServed as IsServedBy, IsRaised, IsRefused, IsTold, IsWaitedFor, step_for}
use Rattle.conn_worker.specs.Waiting.{Ends, FailsLaunch, Turns, Waits as WaitsBehind, WaitsOnce}
use Rattle.conn_worker.proofs.Owning.{Lacked, want_made}
use Rattle.scm_pipe.specs.Histories.{AreServed, Follows, IsAskedAs, IsPipeServed, PipeWaits, has_room_after, replies}
use Rattle.scm_pipe.proofs.Histories.{begun_tells, call_tells, end_tells, failure_tells, first_told, raise_tells, replies_append}
use Rattle.scm_pipe.proofs.Histories.{want_tells}

module _ (tells : ℕ → Type 0) (o : Opening) where
  abbrev l : Limits
  l = o.limits

  -- the state that a pass has seen last
  abbrev at : Known → Flat
  at k = state o.limits o.first k.seen

  -- ## One step

  -- a pass that is alone makes it in the state that it has seen, and leads to the state behind it
  pub record Steps (k k' : Known) (m : ℕ) (step : Step) (g : Flat) (told_so : Answer) : Type 0 where
    pub seen : k'.seen ≡ k.seen ++ (m, step) ∷ []
    pub leads : at k' ≡ (step_of l g m step).flat
    pub answers : told_so ≡ (step_of l g m step).answer
    pub alone : k'.alone ≡ true

  pub steps : (k k' : Known) (m : ℕ) (step : Step) (told_so : Answer) (g : Flat) → k.alone ≡ true → at k ≡ g → Made o k m step told_so k'
      → Steps k k' m step g told_so
  steps k k' m step told_so g alone is made =
      let e : Entry = (m, step) in
      let front : made.before ≡ k.seen = made.alone alone in
      let seen : k'.seen ≡ k.seen ++ e ∷ [] = made.seen ∙ ap (λ (es : List Entry). es ++ e ∷ []) front in
      let before : state l o.first made.before ≡ g = ap (λ (es : List Entry). state l o.first es) front ∙ is in
      let heard : Some (step_of l (state l o.first made.before) m step).answer ≡ Some told_so =
      sym (told l o.first made.before e []) ∙ ap (λ (es : List Entry). answer l o.first es (length made.before)) (sym made.seen)
      ∙ made.answer in record {
        seen = seen;
        leads = ap (λ (es : List Entry). state l o.first es) seen ∙ state_more l o.first k.seen e
            ∙ ap (λ (f : Flat). (step_of l f m step).flat) is;
        answers = sym (same_answer _ _ heard) ∙ ap (λ (f : Flat). (step_of l f m step).answer) before;
        alone = made.same.alone ∙ alone;
      }

  -- ## A start that waits

  -- so it waits from this state on, and is told this
  record WaitsTo (c plan : ℕ) (k k' : Known) (g : Flat) (reply : Reply) : Type 0 where
    entries : List Entry
    seen : k'.seen ≡ k.seen ++ entries
    waits : PipeWaits l g c plan entries
    heard : replies l g c entries ≡ Some reply ∷ []
    moments : All (λ (e : Entry). tells e.0) entries
    alone : k'.alone ≡ true
    caller : k'.caller ≡ c

  it_ends : (c plan : ℕ) (k k' : Known) (g : Flat) (reply : Reply) → k.alone ≡ true → at k ≡ g → k.caller ≡ c → Ends tells o plan k reply k'
      → WaitsTo c plan k k' g reply
  it_ends c plan k k' g reply alone is mine ends =
      let made : Made o k ends.moment (EndStart c plan) (answers.Reply reply) k' =
      subst (λ (n : ℕ). Made o k ends.moment (EndStart n plan) (answers.Reply reply) k') mine ends.made in
      let step = steps k k' ends.moment (EndStart c plan) (answers.Reply reply) g alone is made in record {
        entries = (ends.moment, EndStart c plan) ∷ [];
        seen = step.seen;
        waits = refl;
        heard = end_tells l g ends.moment c plan reply step.answers;
        moments = All-cons (λ (e : Entry). tells e.0) (ends.moment, EndStart c plan) [] ends.told (All-nil (λ (e : Entry). tells e.0));
        alone = step.alone;
        caller = made.caller ∙ mine;
      }

  -- behind a pass that only saw the same
  wait_on : (c plan : ℕ) (k m k' : Known) (g : Flat) (reply : Reply) → m.seen ≡ k.seen → WaitsTo c plan m k' g reply
      → WaitsTo c plan k k' g reply
  wait_on c plan k m k' g reply same rest = record {
    entries = rest.entries;
    seen = rest.seen ∙ ap (λ (es : List Entry). es ++ rest.entries) same;
    waits = rest.waits;
    heard = rest.heard;
    moments = rest.moments;
    alone = rest.alone;
    caller = rest.caller;
  }

  -- behind a launch that failed
  failed_on : (c plan process t : ℕ) (k m k' : Known) (g : Flat) (reply : Reply) → tells t → code_of g.plans plan ≡ None
      → answers.Launch process ≡ (step_of l g t LaunchTaken).answer
      → m.seen ≡ k.seen ++ (t, LaunchTaken) ∷ (t, LaunchFailed process ERROR_SERVICE_NO_THREAD) ∷ []
      → WaitsTo c plan m k' (run_state l g ((t, LaunchTaken) ∷ (t, LaunchFailed process ERROR_SERVICE_NO_THREAD) ∷ [])) reply
      → WaitsTo c plan k k' g reply
  failed_on c plan process t k m k' g reply so undecided taken seen rest =
      let e : Entry = (t, LaunchTaken) in
      let d : Entry = (t, LaunchFailed process ERROR_SERVICE_NO_THREAD) in record {
        entries = e ∷ d ∷ rest.entries;
        seen = rest.seen ∙ (ap (λ (es : List Entry). es ++ rest.entries) seen ∙ append_assoc k.seen (e ∷ d ∷ []) rest.entries);
        waits = (undecided, refl, (process, first_told l g t process taken, refl), refl, rest.waits);
        heard = failure_tells l g t t c process ERROR_SERVICE_NO_THREAD rest.entries ∙ rest.heard;
        moments = All-cons (λ (x : Entry). tells x.0) e (d ∷ rest.entries) so
            (All-cons (λ (x : Entry). tells x.0) d rest.entries so rest.moments);
        alone = rest.alone;
        caller = rest.caller;
      }

  -- behind a turn
  turned : (c plan t : ℕ) (looked mid k' : Known) (g : Flat) (reply : Reply) → looked.alone ≡ true → at looked ≡ g → looked.caller ≡ c
      → tells t → code_of g.plans plan ≡ None
      → Turns false o looked t mid → ((h : Flat) → mid.alone ≡ true → at mid ≡ h → mid.caller ≡ c → WaitsTo c plan mid k' h reply)
      → WaitsTo c plan looked k' g reply
  turned c plan t looked mid k' g reply alone is mine so undecided (inl (inl same)) rest =
      wait_on c plan looked mid k' g reply (ap (λ (x : Known). x.seen) same)
      (rest g (ap (λ (x : Known). x.alone) same ∙ alone) (ap at same ∙ is) (ap (λ (x : Known). x.caller) same ∙ mine))
  turned c plan t looked mid k' g reply alone is mine so undecided (inl (inr learnt)) rest =
      let same : mid.seen ≡ looked.seen = learnt.alone alone in
      wait_on c plan looked mid k' g reply same (rest g (learnt.same.alone ∙ alone) (ap (λ (es : List Entry). state l o.first es) same ∙ is)
      (learnt.caller ∙ mine))
  turned c plan t looked mid k' g reply alone is mine so undecided (inr fails) rest =
      let f : FailsLaunch o looked t mid = fails.1 in
      let d : Entry = (t, LaunchFailed f.process ERROR_SERVICE_NO_THREAD) in
      let taken = steps looked f.taken t LaunchTaken (answers.Launch f.process) g alone is f.takes in
      let failed = steps f.taken mid t (LaunchFailed f.process ERROR_SERVICE_NO_THREAD) answers.Done
      (step_of l g t LaunchTaken).flat taken.alone taken.leads f.fails in
      let seen = failed.seen ∙ (ap (λ (es : List Entry). es ++ d ∷ []) taken.seen
      ∙ append_assoc looked.seen ((t, LaunchTaken) ∷ []) (d ∷ [])) in
      failed_on c plan f.process t looked mid k' g reply so undecided taken.answers seen
      (rest (run_state l g ((t, LaunchTaken) ∷ d ∷ [])) failed.alone failed.leads (f.fails.caller ∙ (f.takes.caller ∙ mine)))

  it_waits : (c plan : ℕ) (moments : List ℕ) (k waited k' : Known) (g : Flat) (reply : Reply) → k.alone ≡ true → at k ≡ g → k.caller ≡ c
      → All tells moments
      → WaitsBehind false o plan moments k waited → Ends tells o plan waited reply k' → WaitsTo c plan k k' g reply
  it_waits c plan [] k waited k' g reply alone is mine all same ends =
      it_ends c plan k k' g reply alone is mine (subst (λ (x : Known). Ends tells o plan x reply k') same ends)
  it_waits c plan (moment ∷ moments) k waited k' g reply alone is mine all waits ends =
      let once : WaitsOnce false o plan k moment waits.0 = waits.1 in
      let learnt : Learnt o k once.looked = once.learnt in
      let same : once.looked.seen ≡ k.seen = learnt.alone alone in
      let here : at once.looked ≡ g = ap (λ (es : List Entry). state l o.first es) same ∙ is in
      wait_on c plan k once.looked k' g reply same
      (turned c plan moment once.looked waits.0 k' g reply (learnt.same.alone ∙ alone) here (learnt.caller ∙ mine)
      (All-head tells moment moments all)
      (subst (λ (f : Flat). code_of f.plans plan ≡ None) here once.undecided) once.turns
      (λ h so at_h mine_still. it_waits c plan moments waits.0 waited k' h reply so at_h mine_still
      (All-tail tells moment moments all) waits.2 ends))

  -- ## Requests

  -- what serves these requests of a caller leads from k to k', and is told this
  pub record RunsTo (c : ℕ) (k k' : Known) (g : Flat) (requests : List DecodedRequest) (told_so : List (Option Reply)) : Type 0 where
    pub entries : List Entry
    pub seen : k'.seen ≡ k.seen ++ entries
    pub served : AreServed l o.first k.seen c requests entries
    pub heard : replies l g c entries ≡ told_so
    pub moments : All (λ (e : Entry). tells e.0) entries
    pub alone : k'.alone ≡ true
    pub caller : k'.caller ≡ c

  -- the entries of one
  record Serves (c : ℕ) (k k' : Known) (g : Flat) (asked : DecodedRequest) (told_so : Option Reply) : Type 0 where
    entries : List Entry
    seen : k'.seen ≡ k.seen ++ entries
    room : has_room_after l o.first k.seen c asked ≡ true
    served : IsPipeServed l g c asked entries
    heard : replies l g c entries ≡ told_so ∷ []
    moments : All (λ (e : Entry). tells e.0) entries
    alone : k'.alone ≡ true
    caller : k'.caller ≡ c

  -- there was room for the request of a pass that is alone in what it had seen
  had_room : (c : ℕ) (k : Known) (before : List Entry) (asked : DecodedRequest) → before ≡ k.seen → k.caller ≡ c
      → room_behind o before (step_for k.caller asked) ≡ true
      → has_room_after l o.first k.seen c asked ≡ true
  had_room c k before asked front mine room =
      subst (λ (n : ℕ). has_room_after l o.first k.seen n asked ≡ true) mine
      (subst (λ (es : List Entry). has_room_after l o.first es k.caller asked ≡ true) front room)

  at_once : (c : ℕ) (k k' : Known) (g : Flat) (asked : Request) (reply : Reply) → k.alone ≡ true → at k ≡ g → k.caller ≡ c
      → IsTold tells o k asked reply k' → Serves c k k' g (asks.Call asked) (Some reply)
  at_once c k k' g asked reply alone is mine one =
      let t = one.moment in
      let append = one.made.append in
      let call : Step = Call c asked append in
      let made : Made o k t call (answers.Reply reply) k' = subst (λ (n : ℕ). Made o k t (Call n asked append) (answers.Reply reply) k')
      mine one.made.made in
      let step = steps k k' t call (answers.Reply reply) g alone is made in record {
        entries = (t, call) ∷ [];
        seen = step.seen;
        room = had_room c k one.made.made.before (asks.Call asked) (one.made.made.alone alone) mine one.made.room;
        served = ((refl, refl), subst (λ (a : Answer). Follows l (step_of l g t call).flat c a []) step.answers refl);
        heard = ap (λ (x : Option (Option Reply)). cons_option x []) (call_tells l g t c asked append reply step.answers);
        moments = All-cons (λ (e : Entry). tells e.0) (t, call) [] one.told (All-nil (λ (e : Entry). tells e.0));
        alone = step.alone;
        caller = made.caller ∙ mine;
      }

  raised_so : (c : ℕ) (k k' : Known) (g : Flat) (subtype : List ℕ) (reply : Reply) → k.alone ≡ true → at k ≡ g → k.caller ≡ c
      → IsRaised tells o k subtype reply k' → Serves c k k' g (asks.Raise subtype) (Some reply)
  raised_so c k k' g subtype reply alone is mine one =
      let t = one.moment in
      let so : RaisedSo o k t subtype reply k' = one.made in
      let raise : Step = Raised c subtype in
      let made : Made o k t raise (answers.Reply reply) k' = subst (λ (n : ℕ). Made o k t (Raised n subtype) (answers.Reply reply) k') mine
      so.made.made in
      let step = steps k k' t raise (answers.Reply reply) g alone is made in record {
        entries = (t, raise) ∷ [];
        seen = step.seen;
        room = had_room c k so.made.made.before (asks.Raise subtype) (so.made.made.alone alone) mine so.made.room;
        served = ((refl, refl), subst (λ (a : Answer). Follows l (step_of l g t raise).flat c a []) step.answers refl);
        heard = ap (λ (x : Option (Option Reply)). cons_option x []) (raise_tells l g t c subtype reply step.answers);
        moments = All-cons (λ (e : Entry). tells e.0) (t, raise) [] one.told (All-nil (λ (e : Entry). tells e.0));
        alone = step.alone;
        caller = made.caller ∙ mine;
      }

  asked_none : (c : ℕ) (asked : DecodedRequest) → IsAskedAs c asked (NoMemory c)
  asked_none c (asks.Call request) = refl
  asked_none c (asks.Raise subtype) = refl

  refused_so : (c : ℕ) (k k' : Known) (g : Flat) (asked : DecodedRequest) → k.alone ≡ true → at k ≡ g → k.caller ≡ c
      → IsRefused tells o k asked k' → Serves c k k' g asked None
  refused_so c k k' g asked alone is mine one =
      let t = one.moment in
      let want : Step = NoMemory c in
      let so : Lacked o k t asked k' = want_made o k k' t asked one.wants in
      let made : Made o k t want answers.Done k' = subst (λ (n : ℕ). Made o k t (NoMemory n) answers.Done k') mine so.made in
      let step = steps k k' t want answers.Done g alone is made in record {
        entries = (t, want) ∷ [];
        seen = step.seen;
        room = had_room c k so.made.before asked (so.made.alone alone) mine so.room;
        served = (asked_none c asked, subst (λ (a : Answer). Follows l (step_of l g t want).flat c a []) step.answers refl);
        heard = want_tells l g t c;
        moments = All-cons (λ (e : Entry). tells e.0) (t, want) [] one.told (All-nil (λ (e : Entry). tells e.0));
        alone = step.alone;
        caller = made.caller ∙ mine;
      }

  waited_for : (c : ℕ) (k k' : Known) (g : Flat) (asked : Request) (reply : Reply) → k.alone ≡ true → at k ≡ g → k.caller ≡ c
      → IsWaitedFor false tells o k asked reply k' → Serves c k k' g (asks.Call asked) (Some reply)
  waited_for c k k' g asked reply alone is mine one =
      let t = one.moment in
      let append = one.made.append in
      let call : Step = Call c asked append in
      let made : Made o k t call (answers.Begun one.plan) one.begun = subst
      (λ (n : ℕ). Made o k t (Call n asked append) (answers.Begun one.plan) one.begun) mine one.made.made in
      let step = steps k one.begun t call (answers.Begun one.plan) g alone is made in
      let rest = it_waits c one.plan one.ends.turns one.begun one.ends.waited k' (step_of l g t call).flat reply step.alone step.leads
      (made.caller ∙ mine)
      one.ends.told one.ends.waits one.ends.ends in record {
        entries = (t, call) ∷ rest.entries;
        seen = rest.seen ∙ (ap (λ (es : List Entry). es ++ rest.entries) step.seen ∙ append_assoc k.seen ((t, call) ∷ []) rest.entries);
        room = had_room c k one.made.made.before (asks.Call asked) (one.made.made.alone alone) mine one.made.room;
        served = ((refl, refl), subst (λ (a : Answer). Follows l (step_of l g t call).flat c a rest.entries) step.answers rest.waits);
        heard = ap (λ (x : Option (Option Reply)). cons_option x (replies l (step_of l g t call).flat c rest.entries))
            (begun_tells l g t c asked append one.plan step.answers) ∙ rest.heard;
        moments = All-cons (λ (e : Entry). tells e.0) (t, call) rest.entries one.told rest.moments;
        alone = rest.alone;
        caller = rest.caller;
      }

  serves : (c : ℕ) (k k' : Known) (g : Flat) (asked : DecodedRequest) (heard : Option Reply) → k.alone ≡ true → at k ≡ g → k.caller ≡ c
      → IsServedBy false tells o k k' asked heard → Serves c k k' g asked heard
  serves c k k' g (asks.Call asked) (Some reply) alone is mine (inl one) = at_once c k k' g asked reply alone is mine one
  serves c k k' g (asks.Call asked) (Some reply) alone is mine (inr one) = waited_for c k k' g asked reply alone is mine one
  serves c k k' g (asks.Raise subtype) (Some reply) alone is mine one = raised_so c k k' g subtype reply alone is mine one
  serves c k k' g asked None alone is mine one = refused_so c k k' g asked alone is mine one

  -- the state behind what was seen more
  behind : (k k' : Known) (g : Flat) (entries : List Entry) → at k ≡ g → k'.seen ≡ k.seen ++ entries → at k' ≡ run_state l g entries
  behind k k' g entries is seen =
      ap (λ (es : List Entry). state l o.first es) seen ∙ state_appended l o.first k.seen entries ∙ ap (λ (f : Flat). state l f entries) is
      ∙ state_is l g entries

  pub runs : (c : ℕ) (k k' : Known) (g : Flat) (requests : List DecodedRequest) (heard : List (Option Reply)) → k.alone ≡ true → at k ≡ g
      → k.caller ≡ c
      → Chain (IsServedBy false tells o) k k' requests heard → RunsTo c k k' g requests heard
  runs c k k' g [] [] alone is mine same = record {
    entries = [];
    seen = ap (λ (x : Known). x.seen) same ∙ sym (append-nil k.seen);
    served = refl;
    heard = refl;
    moments = All-nil (λ (e : Entry). tells e.0);
    alone = ap (λ (x : Known). x.alone) same ∙ alone;
    caller = ap (λ (x : Known). x.caller) same ∙ mine;
  }
  runs c k k' g (asked ∷ requests) (told_so ∷ heard) alone is mine chain =
      let m = chain.0 in
      let first = serves c k m g asked told_so alone is mine chain.1 in
      let h : Flat = run_state l g first.entries in
      let rest = runs c m k' h requests heard first.alone (behind k m g first.entries is first.seen) first.caller chain.2 in record {
        entries = first.entries ++ rest.entries;
        seen = rest.seen ∙ (ap (λ (es : List Entry). es ++ rest.entries) first.seen ∙ append_assoc k.seen first.entries rest.entries);
        served = (
          first.entries,
          rest.entries,
          refl,
          first.room,
          subst (λ (x : Flat). IsPipeServed l x c asked first.entries) (sym is) first.served,
          subst (λ (es : List Entry). AreServed l o.first es c requests rest.entries) first.seen rest.served,
        );
        heard = replies_append l g c first.entries rest.entries
            ∙ ap (λ (ts : List (Option Reply)). ts ++ replies l h c rest.entries) first.heard
            ∙ ap (λ (ts : List (Option Reply)). told_so ∷ ts) rest.heard;
        moments = All-append (λ (e : Entry). tells e.0) first.entries rest.entries first.moments rest.moments;
        alone = rest.alone;
        caller = rest.caller;
      }
  runs c k k' g [] (told_so ∷ heard) alone is mine chain = absurd chain
  runs c k k' g (asked ∷ requests) [] alone is mine chain = absurd chain

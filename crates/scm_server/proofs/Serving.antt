-- The steps of an acceptor, each going on from whatever came before.
use Rattle.std.proofs.Common.{◌≡◌, ◌≢◌, ◌∙◌, ◌+◌, ◌-◌, ◌≤◌, ◌||◌, ℕ, Bool, true, false, List, [], ◌∷◌, ◌++◌, length, map, drop, Option}
use Rattle.std.proofs.Common.{None, Some, refl, sym, ap, subst, ⊎_elim, append_assoc, append-nil, length-append, arith}
use Rattle.std.specs.Prelude.{IfSome, option_map}
use Rattle.std.proofs.lemmas.List.{drop-drop, length-drop, map-append}
use mathlib.Core.List.{IsPrefix}
use Rattle.scm_model.specs.declared.flat.Principal.{Principal}
use Rattle.scm_model.specs.Entries.{Entry}
use Rattle.scm_rules.specs.Histories.{Legal}
use Rattle.scm_rules.specs.Named.{has_made}
use Rattle.book_rule.specs.declared.view.Opening.{Opening}
use Rattle.book_rule.specs.Seats.{Identity}
use Rattle.book_rule.specs.Ways.{Has}
use Rattle.book_rule.proofs.Places.{has_cases, has_one}
use Rattle.book_rule.proofs.Prefixes.{prefix_self}
use Rattle.scm_book.specs.declared.answers.JoinFault.{JoinFault}
use Rattle.scm_book.specs.Joins.{JoinCause, Joins, TakesIn, Watches}
use Rattle.scm_book.specs.Passes.{Known}
use Rattle.conn_desk.specs.declared.served.Served.{Served}
use Rattle.outside.specs.Causes.{Rose}
use Rattle.outside.specs.Written.{IsFresh}
use Rattle.scm_listener.specs.Accepting.{Takes}
use Rattle.scm_listener.specs.Connections.{PastConnection, and_last}
use Rattle.scm_listener.specs.declared.accepted.Accepted.{Accepted}
use Rattle.scm_listener.specs.declared.accepted.Accepted.TheVariants as accept
use Rattle.scm_listener.specs.declared.accepted.Numbered.{Numbered}
use Rattle.scm_server.specs.Accepts.{EndsBy}
use Rattle.scm_server.specs.Handling.{Handed, IsHandled, JoinedBehind, WasRefused, is_without_memory, wants_memory}
use Rattle.scm_server.specs.Ports.{Apart, AreHandedOut, IsHandedOut, IsSentAt, ServesPort, Told}
use Rattle.scm_server.specs.Serving.{Differ, GoesOn, HasCome, IsKnown, Mark, OnlyNotes, Serves, Stand, mark_at_work, mark_of, stand}
use Rattle.scm_server.specs.Works.{HasJoined, IsDone, IsUntouched, Out}
use Rattle.scm_server.proofs.Cases.{handled_still, memory_of, refused_by, stood_for, worker_behind, worker_made}
use Rattle.scm_server.proofs.Entries.{made_behind}
use Rattle.scm_server.proofs.Far.{far_self, far_taken, far_trans, far_watched, takes_legal}
use Rattle.scm_server.proofs.Lists.{each_more, get_drop, has_mid, has_without, pairwise_more, pairwise_so, pairwise_with, pairwise_without}

-- ## What is left

out_none : (left : Option (List (List ℕ))) → AreHandedOut 0 left left
out_none None = refl
out_none (Some left) = (omega arith, refl)

out_more : (n : ℕ) (left mid now : Option (List (List ℕ))) → AreHandedOut n left mid → AreHandedOut 1 mid now
    → AreHandedOut (n + 1) left now
out_more n None mid now first one = subst (λ (m : Option (List (List ℕ))). AreHandedOut 1 m now) first one
out_more n (Some left) mid now first one =
    let more : AreHandedOut 1 (Some (drop n left)) now = subst (λ (m : Option (List (List ℕ))). AreHandedOut 1 m now) first.1 one in (
      (let some = more.0 in let least = first.0 in omega (arith, some, least, length-drop n left)),
      more.1 ∙ ap (λ (xs : List (List ℕ)). Some xs) (drop-drop 1 n left),
    )

sent_at : (n : ℕ) (left mid : Option (List (List ℕ))) (given : Option (List ℕ)) → AreHandedOut n left mid → IsSentAt mid 0 given
    → IsSentAt left n given
sent_at n None mid given first sent = tt
sent_at n (Some left) mid given first sent =
    let at : IsSentAt (Some (drop n left)) 0 given = subst (λ (m : Option (List (List ℕ))). IsSentAt m 0 given) first.1 sent in
    at ∙ get_drop n left

-- ## What is noted

noted_none : (noted : Option (List PastConnection)) → noted ≡ option_map (λ (ps : List PastConnection). ps ++ []) noted
noted_none None = refl
noted_none (Some ps) = ap (λ (qs : List PastConnection). Some qs) (sym (append-nil ps))

noted_more : (noted mid now : Option (List PastConnection)) (xs : List PastConnection) (past : PastConnection)
    → mid ≡ option_map (λ (ps : List PastConnection). ps ++ xs) noted → now ≡ and_last mid past
    → now ≡ option_map (λ (ps : List PastConnection). ps ++ (xs ++ past ∷ [])) noted
noted_more None mid now xs past first next = next ∙ ap (λ (m : Option (List PastConnection)). and_last m past) first
noted_more (Some ps) mid now xs past first next =
    next ∙ (ap (λ (m : Option (List PastConnection)). and_last m past) first
    ∙ ap (λ (qs : List PastConnection). Some qs) (append_assoc ps xs (past ∷ [])))

noted_handed : (noted mid now : Option (List PastConnection)) (hs : List Handed) (h : Handed)
    → mid ≡ option_map (λ (ps : List PastConnection). ps ++ map (λ (g : Handed). g.past) hs) noted
    → now ≡ and_last mid h.past → now ≡ option_map (λ (ps : List PastConnection). ps ++ map (λ (g : Handed). g.past) (hs ++ h ∷ [])) noted
noted_handed noted mid now hs h first next =
    subst (λ (ps : List PastConnection). now ≡ option_map (λ (qs : List PastConnection). qs ++ ps) noted)
    (sym (map-append (λ (g : Handed). g.past) hs (h ∷ [])))
    (noted_more noted mid now (map (λ (g : Handed). g.past) hs) h.past first next)

-- ## Marks

differ_turned : (a b : Mark) → Differ a b → Differ b a
differ_turned a b d = record { numbers = λ same. d.numbers (sym same); callers = λ caller one other. d.callers caller other one }

or_false : (a b : Bool) → (a || b) ≡ false → (a ≡ false) × (b ≡ false)
or_false true b e = absurd cc
or_false false b e = (refl, e)

module _ (o : Opening) (l : Told) where
  handed_still : (m m' : Told) (number : ℕ) (given : Option (List ℕ)) → m.accepted ≤ m'.accepted → IsHandedOut l m number given
      → IsHandedOut l m' number given
  handed_still m m' number given more handed = record {
    from = handed.from;
    before = (let low = handed.before in omega (arith, low, more));
    sent = handed.sent;
  }

  made_still : (caller : Option ℕ) (log longer : List Entry) → IsPrefix log longer
      → IfSome caller (λ number. has_made o.limits o.first number log ≡ true)
      → IfSome caller (λ number. has_made o.limits o.first number longer ≡ true)
  made_still None log longer is made = tt
  made_still (Some number) log longer is made = made_behind o.limits o.first number log longer is made

  known_still : (s s' : Stand) (mark : Mark) (given : Option (List ℕ)) → IsPrefix s.by.seen s'.by.seen → s.told.accepted ≤ s'.told.accepted
      → IsKnown o l s mark given → IsKnown o l s' mark given
  known_still s s' mark given is more known = record {
    handed = handed_still s.told s'.told mark.number given more known.handed;
    made = made_still mark.caller s.by.seen s'.by.seen is known.made;
  }

  -- what comes next differs from all that is known
  caller_new : (s : Stand) (c : Option ℕ) (next : ℕ) → IfSome c (λ number. has_made o.limits o.first number s.by.seen ≡ true)
      → JoinedBehind o s.by.seen next → c ≡ Some next → ⊥
  caller_new s None next made new is = absurd cc
  caller_new s (Some number) next made new is =
      let same : number ≡ next = cc in
      let there : has_made o.limits o.first next s.by.seen ≡ true = subst
      (λ (n : ℕ). has_made o.limits o.first n s.by.seen ≡ true) same made in absurd cc

  number_new : (s : Stand) (mark : Mark) (given : Option (List ℕ)) (next : ℕ) → IsKnown o l s mark given → next ≡ s.told.accepted
      → mark.number ≢ next
  number_new s mark given next known is same = let low = known.handed.before in absurd (omega (arith, low, is, same))

-- ## The steps

pub serves_none : (tells : ℕ → Type 0) (o : Opening) (principal : Principal) (by : Known) (l : Told)
    → Serves tells o principal by l (stand by l [] false)
serves_none tells o principal by l = record {
  goes = far_self o by;
  handed = [];
  count = omega arith;
  left = out_none l.left;
  noted = noted_none l.noted;
  listened = refl;
  known = λ x none. absurd none;
  known_at_work = λ x none. absurd none;
  differ = tt;
  differ_at_work = tt;
  differ_both = λ h none. absurd none;
  handled = λ quiet x none. absurd none;
  joined = λ x none. absurd none;
  legal = λ x none. absurd none;
}

module _ (tells : ℕ → Type 0) (o : Opening) (principal : Principal) where
  pub goes_same : (s : Stand) → GoesOn tells o principal s s
  goes_same s begins by l serves = serves

  pub goes_trans : (s m s' : Stand) → GoesOn tells o principal s m → GoesOn tells o principal m s' → GoesOn tells o principal s s'
  goes_trans s m s' first then begins by l serves = then begins by l (first begins by l serves)

  -- nothing came
  pub came_none : (by : Known) (m m' : Told) (outs : List Out) (short : Bool) → m'.left ≡ m.left → m'.accepted ≡ m.accepted + 0
      → m'.noted ≡ m.noted → m'.listened ≡ m.listened
      → GoesOn tells o principal (stand by m outs short) (stand by m' outs short)
  came_none by m m' outs short left accepted noted listened begins first l serves =
      let same : m.accepted ≤ m'.accepted = omega (arith, accepted) in record {
        goes = serves.goes;
        handed = serves.handed;
        count = (let c = serves.count in omega (arith, accepted, c));
        left = subst (AreHandedOut (length serves.handed + length outs) l.left) (sym left) serves.left;
        noted = noted ∙ serves.noted;
        listened = listened ∙ serves.listened;
        known = λ h there. known_still o l (stand by m outs short) (stand by m' outs short) (mark_of h) h.given
            (prefix_self by.seen) same (serves.known h there);
        known_at_work = λ w there. known_still o l (stand by m outs short) (stand by m' outs short) (mark_at_work w) w.given
            (prefix_self by.seen) same (serves.known_at_work w there);
        differ = serves.differ;
        differ_at_work = serves.differ_at_work;
        differ_both = serves.differ_both;
        handled = serves.handled;
        joined = serves.joined;
        legal = serves.legal;
      }

  -- a connection came, and a caller joined for it
  pub came_joined : (by mid : Known) (m m' : Told) (outs : List Out) (w : Out) (short : Bool) → Watches o by mid
      → HasCome m m' w.number w.given → (joined : HasJoined tells o principal w) → joined.by ≡ by → joined.by' ≡ mid
      → GoesOn tells o principal (stand by m outs short) (stand mid m' (outs ++ w ∷ []) short)
  came_joined by mid m m' outs w short watches come joined is_by is_mid begins first l serves =
      let s : Stand = stand by m outs short in
      let s' : Stand = stand mid m' (outs ++ w ∷ []) short in
      let hs : List Handed = serves.handed in
      let more : m.accepted ≤ m'.accepted = (let one = come.accepted in omega (arith, one)) in
      let count : m'.accepted ≡ l.accepted + (length hs + length (outs ++ w ∷ [])) =
      (let one = come.accepted in let before = serves.count in omega (arith, one, before, length-append outs (w ∷ []))) in
      let place : w.number - l.accepted ≡ length hs + length outs = (let at = come.number in let before = serves.count in
      omega (arith, at, before)) in
      let total : (length hs + length outs) + 1 ≡ length hs + length (outs ++ w ∷ []) = omega (arith, length-append outs (w ∷ [])) in
      let behind : JoinedBehind o by.seen w.pass.caller = subst (λ (k : Known). JoinedBehind o k.seen w.pass.caller) is_by
      (worker_behind tells o begins principal w joined) in
      let made : has_made o.limits o.first w.pass.caller mid.seen ≡ true =
      subst (λ (k : Known). has_made o.limits o.first w.pass.caller k.seen ≡ true) is_mid
      (worker_made tells o begins principal w joined) in
      let fresh : (mark : Mark) (given : Option (List ℕ)) → IsKnown o l s mark given
      → Differ mark (mark_at_work w) = λ mark given known. record {
        numbers = number_new o l s mark given w.number known come.number;
        callers = λ caller one other. (let is : w.pass.caller ≡ caller = cc in
            caller_new o l s mark.caller w.pass.caller known.made behind (one ∙ ap (λ (n : ℕ). Some n) (sym is)));
      } in
      record {
        goes = far_trans o first by mid serves.goes (far_watched o by mid watches);
        handed = hs;
        count = count;
        left = subst (λ (n : ℕ). AreHandedOut n l.left m'.left) total (out_more (length hs
            + length outs) l.left m.left m'.left serves.left come.left);
        noted = come.noted ∙ serves.noted;
        listened = come.listened ∙ serves.listened;
        known = λ h there. known_still o l s s' (mark_of h) h.given watches.longer more (serves.known h there);
        known_at_work = each_more (λ (v : Out). IsKnown o l s' (mark_at_work v) v.given) outs w
            (λ v there. known_still o l s s' (mark_at_work v) v.given watches.longer more (serves.known_at_work v there))
            (record {
              handed = record {
                from = (let at = come.number in let before = serves.count in omega (arith, at, before));
                before = (let at = come.number in let one = come.accepted in omega (arith, at, one));
                sent = subst (λ (n : ℕ). IsSentAt l.left n w.given) (sym place)
                    (sent_at (length hs + length outs) l.left m.left w.given serves.left come.sent);
              };
              made = made;
            });
        differ = serves.differ;
        differ_at_work = pairwise_more (λ (v : Out) (u : Out). Differ (mark_at_work v) (mark_at_work u)) outs w serves.differ_at_work
            (λ v there. fresh (mark_at_work v) v.given (serves.known_at_work v there));
        differ_both = λ h there. each_more (λ (v : Out). Differ (mark_of h) (mark_at_work v)) outs w (serves.differ_both h there)
            (fresh (mark_of h) h.given (serves.known h there));
        handled = λ quiet h there. handled_still tells o begins principal by.seen mid.seen watches.longer watches.legal h h.caller
            (serves.handled quiet h there);
        joined = each_more (HasJoined tells o principal) outs w serves.joined joined;
        legal = λ v there. watches.legal;
      }

  -- a connection came and is past, since nobody could join for it
  pub came_refused : (by by' : Known) (m m' now : Told) (outs : List Out) (short one : Bool) (given began : Option (List ℕ))
      (past : PastConnection) → Watches o by by' → HasCome m m' past.number given
      → (one ≡ false → WasRefused o by'.seen principal (record { given = given; began = began; past = past; caller = None }))
      → OnlyNotes m' now → now.noted ≡ and_last m'.noted past → GoesOn tells o principal (stand by m outs short)
      (stand by' now outs (short || one))
  came_refused by by' m m' now outs short one given began past watches come refused only noted begins first l serves =
      let h : Handed = record { given = given; began = began; past = past; caller = None } in
      let s : Stand = stand by m outs short in
      let s' : Stand = stand by' now outs (short || one) in
      let hs : List Handed = serves.handed in
      let accepted : now.accepted ≡ m'.accepted = ap (λ (t : Told). t.accepted) only.same in
      let more : m.accepted ≤ now.accepted = (let up = come.accepted in omega (arith, up, accepted)) in
      let place : past.number - l.accepted ≡ length hs + length outs = (let at = come.number in let before = serves.count in
      omega (arith, at, before)) in
      let total : (length hs + length outs) + 1 ≡ length (hs ++ h ∷ []) + length outs = omega (arith, length-append hs (h ∷ [])) in
      let fresh : (mark : Mark) (given : Option (List ℕ)) → IsKnown o l s mark given
      → Differ mark (mark_of h) = λ mark given known. record {
        numbers = number_new o l s mark given past.number known come.number;
        callers = λ caller one other. absurd cc;
      } in
      record {
        goes = far_trans o first by by' serves.goes (far_watched o by by' watches);
        handed = hs ++ h ∷ [];
        count = (let up = come.accepted in let before = serves.count in omega (arith, up, before, accepted, length-append hs (h ∷ [])));
        left = subst (λ (n : ℕ). AreHandedOut n l.left now.left) total (out_more (length hs
            + length outs) l.left m.left now.left serves.left
            (subst (AreHandedOut 1 m.left) (sym (ap (λ (t : Told). t.left) only.same)) come.left));
        noted = noted_handed l.noted m'.noted now.noted hs h (come.noted ∙ serves.noted) noted;
        listened = ap (λ (t : Told). t.listened) only.same ∙ (come.listened ∙ serves.listened);
        known = each_more (λ (g : Handed). IsKnown o l s' (mark_of g) g.given) hs h
            (λ g there. known_still o l s s' (mark_of g) g.given watches.longer more (serves.known g there))
            (record {
              handed = record {
                from = (let at = come.number in let before = serves.count in omega (arith, at, before));
                before = (let at = come.number in let up = come.accepted in omega (arith, at, up, accepted));
                sent = subst (λ (n : ℕ). IsSentAt l.left n given) (sym place)
                    (sent_at (length hs + length outs) l.left m.left given serves.left come.sent);
              };
              made = tt;
            });
        known_at_work = λ w there. known_still o l s s' (mark_at_work w) w.given watches.longer more (serves.known_at_work w there);
        differ = pairwise_more (λ (f : Handed) (g : Handed). Differ (mark_of f) (mark_of g)) hs h serves.differ
            (λ g there. fresh (mark_of g) g.given (serves.known g there));
        differ_at_work = serves.differ_at_work;
        differ_both = λ g there w at. ⊎_elim (λ (old : Has g hs). serves.differ_both g old w at)
            (λ (new : Has g (h ∷ [])). subst (λ (f : Handed). Differ (mark_of f) (mark_at_work w)) (sym (has_one g h new))
            (differ_turned (mark_at_work w) (mark_of h) (fresh (mark_at_work w) w.given (serves.known_at_work w at))))
            (has_cases g hs (h ∷ []) there);
        handled = λ quiet.
            let both = or_false short one quiet in
            each_more (IsHandled tells o by'.seen principal) hs h
            (λ g there. handled_still tells o begins principal by.seen by'.seen watches.longer watches.legal g g.caller
            (serves.handled both.0 g there)) (refused both.1);
        joined = serves.joined;
        legal = λ v there. watches.legal;
      }

  -- a connection at work is past, and its pass was taken in
  pub was_done : (b : Identity) → b.opening ≡ o → (by by' : Known) (m m' : Told) (front rest : List Out) (w : Out) (short : Bool)
      (spent : Known) (past : PastConnection) (how : Served) → IsDone tells b w spent past how → TakesIn by spent by'
      → OnlyNotes m m' → m'.noted ≡ and_last m.noted past → GoesOn tells o principal (stand by m (front ++ w ∷ rest) short)
      (stand by' m' (front ++ rest) (short || wants_memory how))
  was_done b same by by' m m' front rest w short spent past how done takes only noted begins first l serves =
      let h : Handed = record { given = w.given; began = w.began; past = past; caller = Some w.pass.caller } in
      let s : Stand = stand by m (front ++ w ∷ rest) short in
      let s' : Stand = stand by' m' (front ++ rest) (short || wants_memory how) in
      let hs : List Handed = serves.handed in
      let accepted : m'.accepted ≡ m.accepted = ap (λ (t : Told). t.accepted) only.same in
      let more : m.accepted ≤ m'.accepted = omega (arith, accepted) in
      let total : length hs + length (front ++ w ∷ rest) ≡ length (hs ++ h ∷ [])
      + length (front ++ rest) = omega (arith, length-append hs (h ∷ []), length-append front (w ∷ rest), length-append front rest) in
      let spent_legal : Legal o.limits o.first spent.seen = subst (λ (p : Opening). Legal p.limits p.first spent.seen) same
      done.connects.goes.legal in
      let marks : mark_of h ≡ mark_at_work w = ap (λ (n : ℕ). record { number = n; caller = Some w.pass.caller }) done.number in
      let here : Has w (front ++ w ∷ rest) = has_mid front w rest in
      let joined : HasJoined tells o principal w = serves.joined w here in
      let known : IsKnown o l s (mark_at_work w) w.given = serves.known_at_work w here in
      let legal : Legal o.limits o.first by'.seen = takes_legal o by spent by' takes (serves.legal w here) spent_legal in
      record {
        goes = far_trans o first by by' serves.goes (far_taken o by spent by' takes (λ so. spent_legal));
        handed = hs ++ h ∷ [];
        count = (let before = serves.count in omega (arith, before, accepted, total));
        left = subst (λ (n : ℕ). AreHandedOut n l.left m'.left) total (subst (AreHandedOut (length hs + length (front ++ w ∷ rest)) l.left)
            (sym (ap (λ (t : Told). t.left) only.same)) serves.left);
        noted = noted_handed l.noted m.noted m'.noted hs h serves.noted noted;
        listened = ap (λ (t : Told). t.listened) only.same ∙ serves.listened;
        known = each_more (λ (g : Handed). IsKnown o l s' (mark_of g) g.given) hs h
            (λ g there. known_still o l s s' (mark_of g) g.given takes.this more (serves.known g there))
            (subst (λ (mark : Mark). IsKnown o l s' mark w.given) (sym marks)
            (known_still o l s s' (mark_at_work w) w.given takes.this more known));
        known_at_work = λ v there. known_still o l s s' (mark_at_work v) v.given takes.this more
            (serves.known_at_work v (has_without v front w rest there));
        differ = pairwise_more (λ (f : Handed) (g : Handed). Differ (mark_of f) (mark_of g)) hs h serves.differ
            (λ g there. subst (Differ (mark_of g)) (sym marks) (serves.differ_both g there w here));
        differ_at_work = pairwise_without (λ (v : Out) (u : Out). Differ (mark_at_work v) (mark_at_work u)) front w rest
            serves.differ_at_work;
        differ_both = λ g there v at. ⊎_elim (λ (old : Has g hs). serves.differ_both g old v (has_without v front w rest at))
            (λ (new : Has g (h ∷ [])). subst (λ (f : Handed). Differ (mark_of f) (mark_at_work v)) (sym (has_one g h new))
            (subst (λ (mark : Mark). Differ mark (mark_at_work v)) (sym marks)
            (pairwise_with (λ (v : Out) (u : Out). Differ (mark_at_work v) (mark_at_work u))
            (λ v u. differ_turned (mark_at_work v) (mark_at_work u)) front w rest serves.differ_at_work v at)))
            (has_cases g hs (h ∷ []) there);
        handled = λ quiet.
            let both = or_false short (wants_memory how) quiet in
            each_more (IsHandled tells o by'.seen principal) hs h
            (λ g there. handled_still tells o begins principal by.seen by'.seen takes.this legal g g.caller (serves.handled both.0 g there))
            (handled_still tells o begins principal spent.seen by'.seen takes.that legal h (Some w.pass.caller)
            (stood_for tells o begins principal w joined b spent past how same done (memory_of how both.1)));
        joined = λ v there. serves.joined v (has_without v front w rest there);
        legal = λ v there. legal;
      }

-- ## A port

pub serves_all : (tells : ℕ → Type 0) (o : Opening) (principal : Principal) (by : Known) (l : Told) (s : Stand) → s.outs ≡ []
    → Serves tells o principal by l s → ServesPort tells o principal s.by.seen l s.told s.is_short
serves_all tells o principal by l s none serves =
    let hs : List Handed = serves.handed in
    let total : length hs + length s.outs ≡ length hs = omega (arith, ap (λ (ws : List Out). length ws) none) in
    record {
      handed = hs;
      hands = record {
        count = serves.count ∙ ap (λ (n : ℕ). l.accepted + n) total;
        left = subst (λ (n : ℕ). AreHandedOut n l.left s.told.left) total serves.left;
        each = λ h there. (serves.known h there).handed;
        once = pairwise_so (λ (g : Handed) (h : Handed). Differ (mark_of g) (mark_of h))
            (λ (g : Handed) (h : Handed). g.past.number ≢ h.past.number) (λ g h d. d.numbers) hs serves.differ;
        noted = serves.noted;
        listened = serves.listened;
      };
      handled = serves.handled;
      apart = pairwise_so (λ (g : Handed) (h : Handed). Differ (mark_of g) (mark_of h)) Apart (λ g h d. d.callers) hs serves.differ;
    }

-- ## Somebody joined, or nobody

pub joined_goes : (tells : ℕ → Type 0) (o : Opening) (principal : Principal) (by mid : Known) (m m' : Told) (outs : List Out) (w : Out)
    (short : Bool) (moment : ℕ) → Watches o by mid → HasCome m m' w.number w.given → tells moment
    → Joins o by moment principal mid w.pass → w.pass.caller ≢ 0 → IsUntouched w.given w.began w.read_faults w.write_faults
    → GoesOn tells o principal (stand by m outs short) (stand mid m' (outs ++ w ∷ []) short)
joined_goes tells o principal by mid m m' outs w short moment watches come so joins somebody untouched =
    came_joined tells o principal by mid m m' outs w short watches come
    (record { by = by; by' = mid; moment = moment; told = so; joins = joins; somebody = somebody; untouched = untouched }) refl refl

pub refused_goes : (tells : ℕ → Type 0) (o : Opening) (principal : Principal) (by by' : Known) (m m' now : Told) (outs : List Out)
    (short one : Bool) (fault : JoinFault) → one ≡ is_without_memory fault
    → (given began : Option (List ℕ)) (past : PastConnection) (number : ℕ) → Watches o by by' → HasCome m m' number given
    → JoinCause o by' principal fault → IsFresh given began
    → past.left ≡ given → past.written ≡ began → past.read_faults ≡ 0 → past.write_faults ≡ 0 → past.number ≡ number
    → now.left ≡ m'.left → now.accepted ≡ m'.accepted → now.listened ≡ m'.listened → now.faults ≡ m'.faults
    → now.noted ≡ and_last m'.noted past
    → GoesOn tells o principal (stand by m outs short) (stand by' now outs (short || one))
refused_goes tells o principal by by' m m' now outs short one fault told given began past number watches come cause fresh left written reads
    writes same kept_left kept_accepted kept_listened kept_faults noted =
    came_refused tells o principal by by' m m' now outs short one given began past watches
    (subst (λ (n : ℕ). HasCome m m' n given) (sym same) come)
    (λ quiet. refused_by tells o principal by by' given began past fault watches cause fresh left written reads writes (sym told ∙ quiet))
    (record {
      same = λ i. record {
        left = kept_left i;
        accepted = kept_accepted i;
        noted = now.noted;
        listened = kept_listened i;
        faults = kept_faults i;
      };
    }) noted

-- ## What an accept comes to

takes_one : {I O : Type 0} (sent : I → Option (List ℕ)) (input : Numbered I) (output : Numbered O) (left now : Option (List (List ℕ)))
    → Takes {I = I} {O = O} sent (accept.Conn input output) left now → AreHandedOut 1 left now × IsSentAt left 0 (sent input.end)
takes_one sent input output None now takes = (takes, tt)
takes_one sent input output (Some []) now takes = absurd (let none : [] ≡ takes.0 ∷ takes.1 = takes.2 in cc)
takes_one sent input output (Some (x ∷ xs)) now takes =
    let first : x ≡ takes.0 = (let all : x ∷ xs ≡ takes.0 ∷ takes.1 = takes.2 in cc) in
    let rest : xs ≡ takes.1 = (let all : x ∷ xs ≡ takes.0 ∷ takes.1 = takes.2 in cc) in
    ((omega arith, takes.4 ∙ ap (λ (ys : List (List ℕ)). Some ys) (sym rest)), takes.3 ∙ ap (λ (y : List ℕ). Some y) (sym first))

pub has_come : {I O : Type 0} (sent : I → Option (List ℕ)) (input : Numbered I) (output : Numbered O) (l l' : Told)
    → input.number ≡ l.accepted → Takes {I = I} {O = O} sent (accept.Conn input output) l.left l'.left
    → l'.accepted ≡ l.accepted + 1 → l'.noted ≡ l.noted → l'.listened ≡ l.listened → HasCome l l' input.number (sent input.end)
has_come {I} {O} sent input output l l' number takes accepted noted listened =
    let two : AreHandedOut 1 l.left l'.left × IsSentAt l.left 0 (sent input.end) = takes_one sent input output l.left l'.left takes in
    record { number = number; accepted = accepted; left = two.0; sent = two.1; noted = noted; listened = listened }

pub none_left : {I : Type 0} (O : Type 0) (sent : I → Option (List ℕ)) (left now : Option (List (List ℕ)))
    → Takes {I = I} {O = O} sent accept.Closed left now → (now ≡ left) × IfSome now (λ bs. bs ≡ [])
none_left O sent None now takes = (takes, subst (λ (n : Option (List (List ℕ))). IfSome n (λ bs. bs ≡ [])) (sym takes) tt)
none_left O sent (Some left) now takes = (
  takes.1 ∙ ap (λ (bs : List (List ℕ)). Some bs) (sym takes.0),
  subst (λ (n : Option (List (List ℕ))). IfSome n (λ bs. bs ≡ [])) (sym takes.1) refl,
)

pub kept_left : {I : Type 0} (O : Type 0) (sent : I → Option (List ℕ)) (left now : Option (List (List ℕ)))
    → Takes {I = I} {O = O} sent accept.Failed left now → now ≡ left
kept_left O sent None now takes = takes
kept_left O sent (Some left) now takes = takes.1

-- from where the count of faults was the same
pub ends_kept : (fail : Bool) (first l l' : Told) → l.faults ≡ first.faults → EndsBy fail l l' → EndsBy fail first l'
ends_kept false first l l' same ends = (ends.0, ends.1 ∙ same)
ends_kept true first l l' same ends = subst (λ (n : ℕ). Rose n l'.faults) same ends

module _ (tells : ℕ → Type 0) (o : Opening) (principal : Principal) (first : Stand) (by : Known) (m m' : Told) (outs : List Out)
    (short : Bool) (before : GoesOn tells o principal first (stand by m outs short)) (kept : OnlyNotes first.told m) where
  none_came : (fail : Bool) → m'.left ≡ m.left → m'.accepted ≡ m.accepted + 0 → m'.noted ≡ m.noted → m'.listened ≡ m.listened
      → EndsBy fail m m' → GoesOn tells o principal first (stand by m' outs short) × EndsBy fail first.told m'
  none_came fail left accepted noted listened ends = (
    goes_trans tells o principal first (stand by m outs short) (stand by m' outs short) before
        (came_none tells o principal by m m' outs short left accepted noted listened),
    ends_kept fail first.told m m' (ap (λ (t : Told). t.faults) kept.same) ends,
  )

  pub over_closed : {I O : Type 0} (sent : I → Option (List ℕ)) (accepted : Accepted I O) → accepted ≡ accept.Closed
      → Takes sent accepted m.left m'.left → m'.accepted ≡ m.accepted + 0 → m'.noted ≡ m.noted → m'.listened ≡ m.listened
      → m'.faults ≡ m.faults → GoesOn tells o principal first (stand by m' outs short) × EndsBy false first.told m'
  over_closed {I} {O} sent accepted was took count noted listened faults =
      let takes : Takes {I = I} {O = O} sent accept.Closed m.left m'.left =
      subst (λ (a : Accepted I O). Takes sent a m.left m'.left) was took in
      let none = none_left O sent m.left m'.left takes in
      none_came false none.0 count noted listened (none.1, faults)

  pub over_failed : {I O : Type 0} (sent : I → Option (List ℕ)) (accepted : Accepted I O) → accepted ≡ accept.Failed
      → Takes sent accepted m.left m'.left → m'.accepted ≡ m.accepted + 0 → m'.noted ≡ m.noted → m'.listened ≡ m.listened
      → Rose m.faults m'.faults → GoesOn tells o principal first (stand by m' outs short) × EndsBy true first.told m'
  over_failed {I} {O} sent accepted was took count noted listened rose =
      let takes : Takes {I = I} {O = O} sent accept.Failed m.left m'.left =
      subst (λ (a : Accepted I O). Takes sent a m.left m'.left) was took in
      none_came true (kept_left O sent m.left m'.left takes) count noted listened rose

-- Threads that are begun and joined.
use Rattle.std.proofs.Common.{◌≡◌, ◌∙◌, ◌+◌, ◌<◌, ◌||◌, ℕ, Bool, true, false, List, [], ◌∷◌, ◌++◌, length, map, take, drop, slice_index_or}
use Rattle.std.proofs.Common.{refl, sym, ap, subst, append-nil}
use Rattle.std.specs.Prelude.{if◌then◌else◌}
use Rattle.std.proofs.lemmas.List.{map-append}
use Rattle.scm_model.specs.declared.flat.Principal.{Principal}
use Rattle.scm_rules.specs.Opening.{IsOpening}
use Rattle.book_rule.specs.declared.view.Opening.{Opening}
use Rattle.book_rule.specs.Seats.{Identity}
use Rattle.scm_book.specs.Joins.{TakesIn}
use Rattle.scm_book.specs.Passes.{IsOf, Known}
use Rattle.conn_desk.specs.declared.served.Served.{Served}
use Rattle.scm_listener.specs.Connections.{PastConnection, and_last}
use Rattle.scm_server.specs.Handling.{wants_memory}
use Rattle.scm_server.specs.declared.ending.ServeEnd.{ServeEnd}
use Rattle.scm_server.specs.declared.ending.ServeEnd.TheVariants.{Ended, ListenFault, OutOfMemory}
use Rattle.scm_server.specs.Ports.{Told, was_short}
use Rattle.scm_server.specs.Serving.{Continues, GoesOn, OnlyNotes, Serves, stand}
use Rattle.scm_server.specs.Works.{IsDone, Out}
use Rattle.scm_server.proofs.Lists.{split_out}
use Rattle.scm_server.proofs.Serving.{serves_none, was_done}

pub or_none : (a : Bool) → (a || false) ≡ a
or_none true = refl
or_none false = refl

pub or_all : (a : Bool) → (a || true) ≡ true
or_all true = refl
or_all false = refl

pub only_trans : (a b c : Told) → OnlyNotes a b → OnlyNotes b c → OnlyNotes a c
only_trans a b c first next = record { same = next.same ∙ ap (λ (t : Told). record t { noted = c.noted }) first.same }

-- a pass that took another in is still of the book
pub still_of : (b : Identity) (by spent by' : Known) → IsOf b by → TakesIn by spent by' → IsOf b by'
still_of b by spent by' is takes = subst (IsOf b) (sym takes.same) (record { table = is.table; opening = is.opening })

module _ (tells : ℕ → Type 0) (o : Opening) where
  pub continue_none : (by : Known) (m : Told) (outs : List Out) → Continues tells o by m outs by m outs false
  continue_none by m outs principal before begins first l serves =
      subst (λ (b : Bool). Serves tells o principal first l (stand by m outs b)) (sym (or_none before)) serves

  -- the same of one acceptor
  pub to_short : (a b : Known) (k l : Told) (us vs : List Out) (one before now : Bool) → Continues tells o a k us b l vs one
      → now ≡ (before || one) → (principal : Principal) → GoesOn tells o principal (stand a k us before) (stand b l vs now)
  to_short a b k l us vs one before now on is principal =
      subst (λ (s : Bool). GoesOn tells o principal (stand a k us before) (stand b l vs s)) (sym is) (on principal before)

  serves_short : (principal : Principal) (from : Known) (at : Told) (by : Known) (m : Told) (outs : List Out) (s : Bool)
      → Serves tells o principal from at (stand by m outs s) → Serves tells o principal from at (stand by m outs true)
  serves_short principal from at by m outs s serves = record {
    goes = serves.goes;
    handed = serves.handed;
    count = serves.count;
    left = serves.left;
    noted = serves.noted;
    listened = serves.listened;
    known = λ h there. (let is = serves.known h there in record { handed = is.handed; made = is.made });
    known_at_work = λ w there. (let is = serves.known_at_work w there in record { handed = is.handed; made = is.made });
    differ = serves.differ;
    differ_at_work = serves.differ_at_work;
    differ_both = serves.differ_both;
    handled = λ quiet. absurd cc;
    joined = serves.joined;
    legal = serves.legal;
  }

  pub continue_short : (a b : Known) (k l : Told) (us vs : List Out) (one : Bool) → Continues tells o a k us b l vs one
      → Continues tells o a k us b l vs true
  continue_short a b k l us vs one first principal before begins from at serves =
      subst (λ (s : Bool). Serves tells o principal from at (stand b l vs s)) (sym (or_all before))
      (serves_short principal from at b l vs (before || one) (first principal before begins from at serves))

module _ (tells : ℕ → Type 0) (b : Identity) (spent : Known) (past : PastConnection) (how : Served) (short : Bool)
    (told : short ≡ wants_memory how) (by by' : Known) (takes : TakesIn by spent by') (m m' : Told) (only : OnlyNotes m m')
    (noted : m'.noted ≡ and_last m.noted past) where
  -- a connection that was served here
  pub done_here : (outs : List Out) (w : Out) → IsDone tells b w spent past how
      → Continues tells b.opening by m (outs ++ w ∷ []) by' m' outs short
  done_here outs w done principal before =
      let all : GoesOn tells b.opening principal (stand by m (outs ++ w ∷ []) before)
      (stand by' m' (outs ++ []) (before || wants_memory how)) =
      was_done tells b.opening principal b refl by by' m m' outs [] w before spent past how done takes only noted in
      let list : GoesOn tells b.opening principal (stand by m (outs ++ w ∷ []) before)
      (stand by' m' outs (before || wants_memory how)) =
      subst (λ (ws : List Out). GoesOn tells b.opening principal (stand by m (outs ++ w ∷ []) before)
      (stand by' m' ws (before || wants_memory how))) (append-nil outs) all in
      subst (λ (s : Bool). GoesOn tells b.opening principal (stand by m (outs ++ w ∷ []) before) (stand by' m' outs (before || s)))
      (sym told) list

  -- and the list of threads is what it was
  pub here : {W : Type 0} (out : W → Out) (xs ys : List W) → ys ≡ xs → (w : Out) → IsDone tells b w spent past how
      → Continues tells b.opening by m (map out xs ++ w ∷ []) by' m' (map out ys) short
  here {W} out xs ys is w done =
      subst (λ (zs : List W). Continues tells b.opening by m (map out xs ++ w ∷ []) by' m' (map out zs) short) (sym is)
      (done_here (map out xs) w done)

  -- there was no room for a thread
  pub here_short : {W : Type 0} (out : W → Out) (xs ys : List W) → ys ≡ xs → (w : Out) → IsDone tells b w spent past how
      → Continues tells b.opening by m (map out xs ++ w ∷ []) by' m' (map out ys) true
  here_short {W} out xs ys is w done = continue_short tells b.opening by by' m m' (map out xs ++ w ∷ []) (map out ys) short
      (here out xs ys is w done)

  -- a thread that was joined
  pub done_there : {W : Type 0} (out : W → Out) (xs ys : List W) (i : ℕ) (x : W) → i < length xs → x ≡ slice_index_or xs i x
      → ys ≡ take i xs ++ drop (i + 1) xs → IsDone tells b (out x) spent past how
      → Continues tells b.opening by m (map out xs) by' m' (map out ys) short
  done_there {W} out xs ys i x less is left done principal before =
      let front : List W = take i xs in
      let rest : List W = drop (i + 1) xs in
      let all : GoesOn tells b.opening principal (stand by m (map out front ++ out x ∷ map out rest) before)
      (stand by' m' (map out front ++ map out rest) (before || wants_memory how)) =
      was_done tells b.opening principal b refl by by' m m' (map out front) (map out rest)
      (out x) before spent past how done takes only noted in
      let from : map out front ++ out x ∷ map out rest ≡ map out xs = sym (map-append out front (x ∷ rest))
      ∙ ap (map out) (sym (split_out xs i x less is)) in
      let to : map out front ++ map out rest ≡ map out ys = sym (map-append out front rest) ∙ ap (map out) (sym left) in
      let first : GoesOn tells b.opening principal (stand by m (map out xs) before)
      (stand by' m' (map out front ++ map out rest) (before || wants_memory how)) =
      subst (λ (ws : List Out). GoesOn tells b.opening principal (stand by m ws before)
      (stand by' m' (map out front ++ map out rest) (before || wants_memory how))) from all in
      let list : GoesOn tells b.opening principal (stand by m (map out xs) before)
      (stand by' m' (map out ys) (before || wants_memory how)) =
      subst (λ (ws : List Out). GoesOn tells b.opening principal (stand by m (map out xs) before)
      (stand by' m' ws (before || wants_memory how))) to first in
      subst (λ (s : Bool). GoesOn tells b.opening principal (stand by m (map out xs) before)
      (stand by' m' (map out ys) (before || s))) (sym told) list

-- what is the same, said of others
pub done_so : {C : Type 0} (tells : C → ℕ → Type 0) (k k' : C) → k ≡ k' → (b b' : Identity) → b ≡ b'
    → (out : Out) (spent : Known) (past : PastConnection) (how : Served)
    → IsDone (tells k) b out spent past how → IsDone (tells k') b' out spent past how
done_so tells k k' clock b b' book out spent past how done =
    subst (λ (a : Identity). IsDone (tells k') a out spent past how) book
    (subst (λ (j : _). IsDone (tells j) b out spent past how) clock done)

-- a thread that was begun
pub begun_there : (tells : ℕ → Type 0) (o : Opening) (by : Known) (m : Told) {W : Type 0} (out : W → Out) (xs ys : List W) (x : W) (w : Out)
    → ys ≡ xs ++ x ∷ [] → out x ≡ w
    → Continues tells o by m (map out xs ++ w ∷ []) by m (map out ys) false
begun_there tells o by m out xs ys x w is same =
    let list : map out ys ≡ map out xs ++ w ∷ [] = ap (map out) is ∙ (map-append out xs (x ∷ [])
    ∙ ap (λ (u : Out). map out xs ++ u ∷ []) same) in
    subst (λ (ws : List Out). Continues tells o by m (map out xs ++ w ∷ []) by m ws false) (sym list)
    (continue_none tells o by m (map out xs ++ w ∷ []))

-- ## A port from its first connection to its last

pub port_served : (tells : ℕ → Type 0) (o : Opening) → IsOpening o.limits o.first
    → (principal : Principal) {W : Type 0} (out : W → Out) (a b c : Known) (k l m : Told) (xs ys zs : List W) (one now : Bool) → xs ≡ []
    → zs ≡ []
    → GoesOn tells o principal (stand a k (map out xs) false) (stand b l (map out ys) one)
    → GoesOn tells o principal (stand b l (map out ys) one) (stand c m (map out zs) now)
    → Serves tells o principal a k (stand c m [] now)
port_served tells o begins principal {W} out a b c k l m xs ys zs one now none gone first last =
    let begun : Serves tells o principal a k (stand a k (map out xs) false) =
    subst (λ (ws : List W). Serves tells o principal a k (stand a k (map out ws) false)) (sym none)
    (serves_none tells o principal a k) in
    subst (λ (ws : List W). Serves tells o principal a k (stand c m (map out ws) now)) gone
    (last begins a k (first begins a k begun))

-- want of memory is told as the end
pub short_end : (failed short : Bool) (end : ServeEnd) → end ≡ (if short then OutOfMemory else (if failed then ListenFault else Ended))
    → short ≡ was_short end
short_end true true end is = sym (ap was_short is)
short_end false true end is = sym (ap was_short is)
short_end true false end is = sym (ap was_short is)
short_end false false end is = sym (ap was_short is)

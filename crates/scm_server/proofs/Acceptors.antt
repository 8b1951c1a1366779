-- An acceptor that takes connections back.
use Rattle.std.proofs.Common.{◌≡◌, ℕ, List, Option, refl, sym, subst}
use Rattle.book_rule.specs.Seats.{Identity}
use Rattle.scm_book.specs.Passes.{IsOf}
use Rattle.scm_listener.specs.Connections.{PastConnection}
use Rattle.scm_listener.specs.declared.listener.Listening.{Listening}
use Rattle.scm_server.specs.declared.acceptor.Acceptor.{Acceptor}
use Rattle.scm_server.specs.Acceptors.{IsAt, TakesBack, stand_of}
use Rattle.scm_server.specs.Ports.{Told, told_by}
use Rattle.scm_server.specs.Serving.{GoesOn, OnlyNotes, stand}
use Rattle.scm_server.specs.Workers.{AreOf, outs_of}
use Rattle.scm_server.proofs.Serving.{goes_same, goes_trans}
use Rattle.scm_server.proofs.Workers.{only_trans}

pub is_at : {K N C I O P : Type 0} (b : Identity) (clock : C) (a : Acceptor K N C I O P) → IsOf b a.by → AreOf b clock a.workers.items
    → IsAt b clock a
is_at b clock a by of = record { by = by; of = of }

module _ {K N C I O P : Type 0} (left : N → Option (List (List ℕ))) (accepted : N → ℕ) (noted : N → Option (List PastConnection))
    (listened : N → Option (List Listening)) (faults : N → ℕ) (given : I → Option (List ℕ)) (began : O → Option (List ℕ))
    (reads : I → ℕ) (writes : O → ℕ) (tells : ℕ → Type 0) (b : Identity) (clock : C) where
  abbrev Takes : (a a' : Acceptor K N C I O P) → Type 0
  Takes a a' = TakesBack left accepted noted listened faults given began reads writes tells b clock a a'

  pub takes_none : (a : Acceptor K N C I O P) → IsAt b clock a → Takes a a
  takes_none a at = record {
    at = at;
    only = record { same = refl };
    goes = λ principal. goes_same tells b.opening principal (stand_of left accepted noted listened faults given began reads writes a);
  }

  pub takes_trans : (a m a' : Acceptor K N C I O P) → Takes a m → Takes m a' → Takes a a'
  takes_trans a m a' first next = record {
    at = next.at;
    only = only_trans _ _ _ first.only next.only;
    goes = λ principal. goes_trans tells b.opening principal _ _ _ (first.goes principal) (next.goes principal);
  }

  -- the listener tells what it told
  takes_still : (a m : Acceptor K N C I O P) (now : N) → Takes a m
      → told_by left accepted noted listened faults now ≡ told_by left accepted noted listened faults m.listener
      → Takes a (record m { listener = now })
  takes_still a m now takes same = record {
    at = record { by = takes.at.by; of = takes.at.of };
    only = subst (OnlyNotes (told_by left accepted noted listened faults a.listener)) (sym same) takes.only;
    goes = λ principal.
        subst (λ (t : Told). GoesOn tells b.opening principal (stand_of left accepted noted listened faults given began reads writes a)
        (stand m.by t (outs_of given began reads writes m.workers.items) m.is_short)) (sym same) (takes.goes principal);
  }

  pub takes_then : (a m n : Acceptor K N C I O P) (now : N) → Takes a m → Takes m n
      → told_by left accepted noted listened faults now ≡ told_by left accepted noted listened faults n.listener
      → Takes a (record n { listener = now })
  takes_then a m n now first next same = takes_still a n now (takes_trans a m n first next) same

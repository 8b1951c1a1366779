-- An acceptor between two of its steps.
use Rattle.std.specs.Prelude.{ℕ, List, [], ◌∷◌, ◌++◌, Option}
use Rattle.book_rule.specs.Seats.{Identity}
use Rattle.scm_model.specs.declared.flat.Principal.{Principal}
use Rattle.scm_book.specs.Passes.{IsOf}
use Rattle.scm_listener.specs.Connections.{PastConnection}
use Rattle.scm_listener.specs.declared.listener.Listening.{Listening}
use Rattle.scm_server.specs.declared.acceptor.Acceptor.{Acceptor}
use Rattle.scm_server.specs.Ports.{Told, told_by}
use Rattle.scm_server.specs.Serving.{GoesOn, OnlyNotes, Stand, stand}
use Rattle.scm_server.specs.Workers.{AreOf, outs_of}
use Rattle.scm_server.specs.Works.{Out}

module _ {K N C I O P : Type 0} where
  -- its pass and its connections at work are of this book, and these go by this clock
  pub record IsAt (b : Identity) (clock : C) (a : Acceptor K N C I O P) : Type 0 where
    pub by : IsOf b a.by
    pub of : AreOf b clock a.workers.items

  module _ (left : N → Option (List (List ℕ))) (accepted : N → ℕ) (noted : N → Option (List PastConnection))
      (listened : N → Option (List Listening)) (faults : N → ℕ) (given : I → Option (List ℕ)) (began : O → Option (List ℕ))
      (reads : I → ℕ) (writes : O → ℕ) where
    -- where it stands
    abbrev pub stand_of : Acceptor K N C I O P → Stand
    stand_of a = stand a.by (told_by left accepted noted listened faults a.listener) (outs_of given began reads writes a.workers.items)
        a.is_short

    -- the same with one connection more at work
    abbrev pub stand_with : Acceptor K N C I O P → Out → Stand
    stand_with a out = record (stand_of a) { outs = (stand_of a).outs ++ out ∷ [] }

    -- and where it stood when its listener told this
    abbrev pub stood_at : Acceptor K N C I O P → Told → Stand
    stood_at a told = record (stand_of a) { told = told }

    -- it took connections back that are past, and nothing else changed
    pub record TakesBack (tells : ℕ → Type 0) (b : Identity) (clock : C) (a a' : Acceptor K N C I O P) : Type 0 where
      pub at : IsAt b clock a'
      pub only : OnlyNotes (told_by left accepted noted listened faults a.listener)
          (told_by left accepted noted listened faults a'.listener)
      pub goes : (principal : Principal) → GoesOn tells b.opening principal (stand_of a) (stand_of a')

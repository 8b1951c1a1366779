-- Threads at work on connections.
use Rattle.std.specs.Prelude.{ℕ, ◌≡◌, List, map, Option}
use Rattle.book_rule.specs.Seats.{Identity}
use Rattle.scm_server.specs.declared.worker.Worker.{Worker}
use Rattle.scm_server.specs.Pairs.{Each}
use Rattle.scm_server.specs.Works.{Out, out_of}

module _ {K N C I O P : Type 0} where
  -- the connection that a thread is at work on, as its work began
  abbrev pub out_at : (left : I → Option (List ℕ)) → (held : O → Option (List ℕ)) → (reads : I → ℕ) → (writes : O → ℕ) → Worker K N C I O P
      → Out
  out_at left held reads writes w =
      let at = w.handle.promise in
      out_of at.input.value.number (left at.input.value.end) (held at.output.value.end) (reads at.input.value.end)
      (writes at.output.value.end) at.pass.value

  abbrev pub outs_of : (left : I → Option (List ℕ)) → (held : O → Option (List ℕ)) → (reads : I → ℕ) → (writes : O → ℕ)
      → List (Worker K N C I O P) → List Out
  outs_of left held reads writes workers = map (out_at left held reads writes) workers

  -- it is at work over this book, by this clock
  abbrev pub IsOfBook : Identity → C → Worker K N C I O P → Type 0
  IsOfBook b clock w = (w.handle.promise.book.value ≡ b) × (w.handle.promise.clock.value ≡ clock)

  abbrev pub AreOf : Identity → C → List (Worker K N C I O P) → Type 0
  AreOf b clock workers = Each (IsOfBook b clock) workers

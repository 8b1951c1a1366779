-- Connections at work, and what becomes of one.
use Rattle.std.specs.Prelude.{ℕ, ◌≡◌, ◌≢◌, All, true, List, Option}
use Rattle.outside.specs.Written.{IsFresh}
use Rattle.scm_model.specs.declared.flat.Principal.{Principal}
use Rattle.scm_rules.specs.Named.{names_caller}
use Rattle.scm_history.specs.Owned.{Made as Told}
use Rattle.book_rule.specs.declared.view.Opening.{Opening}
use Rattle.book_rule.specs.Seats.{Identity}
use Rattle.scm_book.specs.Joins.{Joins}
use Rattle.scm_book.specs.Passes.{IsOf, Known}
use Rattle.conn_desk.specs.declared.served.Served.{Served}
use Rattle.conn_desk.specs.Connection.{IsServedFor}
use Rattle.conn_worker.specs.Connecting.{Connects}
use Rattle.conn_worker.specs.Owning.{Adds}
use Rattle.scm_listener.specs.Connections.{PastConnection}

-- a connection that was handed out and is served: its number, what its ends told, and the pass of the caller that joined for it
pub record Out : Type 0 where
  pub number : ℕ
  pub given : Option (List ℕ)
  pub began : Option (List ℕ)
  pub read_faults : ℕ
  pub write_faults : ℕ
  pub pass : Known

abbrev pub out_of : (number : ℕ) → (given began : Option (List ℕ)) → (read_faults write_faults : ℕ) → Known → Out
out_of number given began read_faults write_faults pass =
    record { number = number; given = given; began = began; read_faults = read_faults; write_faults = write_faults; pass = pass }

-- nothing of it was read, written or failed
pub record IsUntouched (given began : Option (List ℕ)) (read_faults write_faults : ℕ) : Type 0 where
  pub unwritten : IsFresh given began
  pub unread : read_faults ≡ 0
  pub unfailed : write_faults ≡ 0

-- its caller joined by a pass, at a moment that the clock tells
pub record HasJoined (tells : ℕ → Type 0) (o : Opening) (principal : Principal) (out : Out) : Type 0 where
  pub by : Known
  pub by' : Known
  pub moment : ℕ
  pub told : tells moment
  pub joins : Joins o by moment principal by' out.pass
  pub somebody : out.pass.caller ≢ 0
  pub untouched : IsUntouched out.given out.began out.read_faults out.write_faults

-- each entry names the caller
abbrev pub AreNamed : ℕ → List Told → Type 0
AreNamed caller entries = All (λ (one : Told). names_caller caller one.entry.1 ≡ true) entries

-- each entry that the pass made since names its caller
pub record MakesOwn (o : Opening) (k k' : Known) : Type 0 where
  pub entries : List Told
  pub adds : Adds o k entries k'
  pub named : AreNamed k.caller entries

-- it was served as its caller, and then ended; while a start waited its pass made no step
pub record IsDone (tells : ℕ → Type 0) (b : Identity) (out : Out) (spent : Known) (past : PastConnection) (how : Served) : Type 0 where
  pub book : IsOf b spent
  pub number : past.number ≡ out.number
  pub connects : Connects true tells b.opening out.pass spent out.given past.left out.began past.written how
  pub own : MakesOwn b.opening out.pass spent
  pub cause : IsServedFor how out.read_faults past.read_faults out.write_faults past.write_faults

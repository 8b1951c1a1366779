-- A listener in memory, and the connections that it holds.
use Rattle.std.specs.Prelude.{ℕ, Bool, ◌≡◌, List, [], ◌∷◌, ◌++◌, map, Option, Some}
use Rattle.outside.specs.InMemory.{GivingMemory, HoldingMemory}
use Rattle.scm_listener.specs.declared.listener.Listening.{Listening}
use Rattle.scm_listener.specs.declared.memory.MemoryEnds.{MemoryEnds}
use Rattle.scm_listener.specs.declared.memory.MemoryPeer.{MemoryPeer}
use Rattle.scm_listener.specs.declared.memory.Noted.{Noted, Nothing, Last'}
use Rattle.scm_listener.specs.declared.accepted.Accepted.{Accepted}
use Rattle.scm_listener.specs.declared.accepted.Accepted.TheVariants as accept
use Rattle.scm_listener.specs.Connections.{PastConnection, past_of}

pub record ListeningMemory : Type 0 where
  -- the connections to come, the next one first
  pub waiting : List MemoryPeer
  pub accepted : ℕ
  pub noted : List PastConnection
  pub listened : List Listening
  -- whether each call to come is to fail, the next one last
  pub fails : List Bool
  pub faults : ℕ

-- what a connection in memory tells
abbrev pub ends_told : MemoryEnds → PastConnection
ends_told ends = past_of ends.number (Some ends.input.left) (Some ends.output.held) ends.input.faults ends.output.faults

-- the connections that were noted, in order
abbrev pub noted_in : Noted → List PastConnection
noted_in Nothing = []
noted_in (Last' ends p earlier) = noted_in earlier ++ ends_told ends ∷ []

-- what the peers send that are to come
abbrev pub peers_of : List MemoryPeer → Option (List (List ℕ))
peers_of waiting = Some (map (λ (peer : MemoryPeer). peer.bytes.items) waiting)

-- a peer's connection: its bytes are to be read, and its calls fail as is said
pub record IsPeers (peer : MemoryPeer) (input : GivingMemory) (output : HoldingMemory) : Type 0 where
  pub bytes : input.left ≡ peer.bytes.items
  pub reads : input.fails ≡ peer.reads.items
  pub writes : output.fails ≡ peer.writes.items

-- the connection that came is the first of those that were waiting; where none came they wait still
abbrev pub ConnComes : {I O : Type 0} → (I → GivingMemory) → (O → HoldingMemory) → List MemoryPeer → Accepted I O → List MemoryPeer → Type 0
ConnComes source sink waiting (accept.Conn input output) now = (peer : MemoryPeer) × (waiting ≡ peer ∷ now)
    × IsPeers peer (source input.end) (sink output.end)
ConnComes source sink waiting accepted now = now ≡ waiting

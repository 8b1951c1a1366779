-- What is known of the one connection of a dialer in memory.
use Rattle.std.specs.Prelude.{ℕ, List, [], ◌∷◌, Option, None, Some}
use Rattle.sc_dial.specs.declared.memory.MemoryLine.{MemoryLine}
use Rattle.sc_dial.specs.declared.memory.MemoryLine.TheVariants as line
use Rattle.sc_dial.specs.Connections.{PastConnection}

-- what its peer sends, before it is dialled
abbrev pub next_of : MemoryLine → Option (List ℕ)
next_of (line.Ready peer) = Some peer.left
next_of _ = None

-- where it was dialled to, before it is given back
abbrev pub dialled_of : MemoryLine → Option (List ℕ) → Option (List ℕ)
dialled_of line.Out address = address
dialled_of _ address = None

-- it, once it is given back
abbrev pub line_past : MemoryLine → Option (List ℕ) → List PastConnection
line_past (line.Past connection) address = record {
  address = address;
  left = Some connection.input.source.left;
  written = Some connection.output.sink.held;
} ∷ []
line_past _ address = []

-- where the only connection led that was given back
abbrev pub only_address : Option (List PastConnection) → Option (List ℕ)
only_address (Some (past ∷ [])) = past.address
only_address _ = None

-- what was written over it
abbrev pub only_written : Option (List PastConnection) → Option (List ℕ)
only_written (Some (past ∷ [])) = past.written
only_written _ = None

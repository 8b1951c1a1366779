-- The room of plans without a caller and of commands.
use Rattle.std.specs.Prelude.{ℕ, ◌≡◌, ◌≤◌, List, [], All}
use Rattle.scm_tables.specs.declared.rooms.CommandRoom.{CommandRoom}
use Rattle.scm_tables.specs.declared.rooms.StartRoom.{StartRoom}

-- empty, and large enough for so many services
pub record IsStartRoom (services : ℕ) (room : StartRoom) : Type 0 where
  pub no_entry : room.entries.items ≡ []
  pub entries : services ≤ room.entries.room
  pub untried : room.tried.items ≡ []
  pub tried : services ≤ room.tried.room

-- large enough for each command
pub record IsCommandRoom (room : CommandRoom) : Type 0 where
  pub text : 2048 ≤ room.text.room
  pub no_word : room.words.items ≡ []
  pub words : 1 ≤ room.words.room

pub record AreRooms (services : ℕ) (starts : List StartRoom) (commands : List CommandRoom) : Type 0 where
  pub starts_fit : All (IsStartRoom services) starts
  pub commands_fit : All IsCommandRoom commands

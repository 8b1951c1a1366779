-- What contracts see of the fields of a registration, and what is always true of them.
use Rattle.std.specs.Prelude.{ℕ, ◌≡◌, false, true, List, [], Option, None, Some, IfSome, IsSome}
use Rattle.scm_text.specs.TextWithRoom.{TextWithRoom}
use Rattle.scm_model.specs.declared.flat.Registration.{Registration}
use Rattle.notify_queue.specs.declared.row.NotifyRow.TheInside.{Inside}

abbrev pub units_in : Option TextWithRoom → List ℕ
units_in None = []
units_in (Some text) = text.units

-- a text that has room for a name
abbrev pub HasNameRoom : TextWithRoom → Type 0
HasNameRoom text = text.room ≡ 256

abbrev pub registration_in : Inside → Registration
registration_in a = record {
  number = a.number;
  caller = a.caller;
  service = a.service;
  mask = a.mask;
  fired = a.fired;
  status = a.status;
  name = units_in a.name;
  spent = a.spent;
}

-- until its event is taken a registration has room for a name; after that it is notified of no other event
pub record HasRoom (a : Inside) : Type 0 where
  pub unspent : a.spent ≡ false → IsSome a.name
  pub spent : a.spent ≡ true → a.fired ≡ 0
  pub room : IfSome a.name HasNameRoom

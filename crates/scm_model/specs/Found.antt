-- What a look-up found, if anything.
use Rattle.std.specs.Prelude.{Option, None, Some}

-- a change by what was found; without it all is as it was
abbrev pub if_found : {A B : Type 0} → (A → B → B) → Option A → B → B
if_found change None old = old
if_found change (Some found) old = change found old

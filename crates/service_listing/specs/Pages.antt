-- The services that a listing of some size has room for.
use Rattle.std.specs.Prelude.{ℕ, ◌-◌, nat_le, List, [], ◌∷◌, if◌then◌else◌}
use Rattle.scm_model.specs.declared.flat.Service.{Service}
use Rattle.service_listing.specs.Layout.{size_of}

-- as many as fit, from the first one on
abbrev pub page_in : ℕ → List Service → List Service
page_in room [] = []
page_in room (row ∷ rows) = if nat_le (size_of row) room then row ∷ page_in (room - size_of row) rows else []

-- those that are left after them
abbrev pub left_of : ℕ → List Service → List Service
left_of room [] = []
left_of room (row ∷ rows) = if nat_le (size_of row) room then left_of (room - size_of row) rows else row ∷ rows

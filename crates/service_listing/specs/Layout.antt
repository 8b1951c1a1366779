-- Services as the bytes of a listing: a record of 36 bytes each, and after the records the names.
use Rattle.std.specs.Prelude.{ℕ, ◌+◌, ◌*◌, ◌++◌, List, [], ◌∷◌, length}
use Rattle.std.specs.List.{flat_map}
use Rattle.std.specs.Int.{w16, w32, to_le_bytes}
use Rattle.scm_model.specs.declared.flat.ProcessStatus.{ProcessStatus}
use Rattle.scm_model.specs.declared.flat.Service.{Service}
use Rattle.scm_model.specs.Statuses.{status_numbers}

-- ## How much room it takes

-- a text takes two bytes a unit, and two for its zero
abbrev pub text_size : List ℕ → ℕ
text_size text = 2 * (length text + 1)

abbrev pub names_size : Service → ℕ
names_size row = text_size row.config.name + text_size row.config.display

abbrev pub size_of : Service → ℕ
size_of row = 36 + names_size row

abbrev pub listing_size : List Service → ℕ
listing_size [] = 0
listing_size (row ∷ rows) = size_of row + listing_size rows

-- ## Bytes

-- numbers of four bytes each, the low one first
unfoldable pub numbers_bytes : List ℕ → List ℕ
numbers_bytes numbers = flat_map (to_le_bytes w32) numbers

-- units of two bytes each, the low one first, and a zero
unfoldable pub name_bytes : List ℕ → List ℕ
name_bytes text = flat_map (to_le_bytes w16) text ++ to_le_bytes w16 0

-- 36 bytes
abbrev pub process_status_bytes : ProcessStatus → List ℕ
process_status_bytes s = numbers_bytes (status_numbers s.status ++ s.pid ∷ s.flags ∷ [])

-- where the name stands, where the display name stands after it, and the status
abbrev pub record_bytes : ℕ → Service → List ℕ
record_bytes place row = numbers_bytes (place ∷ (place + text_size row.config.name) ∷ status_numbers row.status)

-- the records of services whose names stand one after the other from a place on
abbrev pub records_bytes : ℕ → List Service → List ℕ
records_bytes place [] = []
records_bytes place (row ∷ rows) = record_bytes place row ++ records_bytes (place + names_size row) rows

abbrev pub names_bytes : Service → List ℕ
names_bytes row = name_bytes row.config.name ++ name_bytes row.config.display

-- the records, and the names in the same order
abbrev pub listing_bytes : List Service → List ℕ
listing_bytes rows = records_bytes (36 * length rows) rows ++ flat_map names_bytes rows

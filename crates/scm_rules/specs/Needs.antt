-- What services need: the names that a call gives, and whether needs would have a cycle.
use Rattle.std.specs.Prelude.{ℕ, Bool, false, ◌+◌, ◌*◌, List, [], ◌∷◌, Option, None, Some, Ok, Err, is_none, map, option_map}
use Rattle.std.specs.Prelude.{option_and_then, unwrap_or, ◌==◌, if◌then◌else◌}
use Rattle.scm_text.specs.Multi.{Reading, names_of}
use Rattle.scm_model.specs.declared.flat.Config.{Config}
use Rattle.scm_model.specs.declared.flat.Flat.{Flat}
use Rattle.scm_model.specs.declared.flat.Need.{Need}
use Rattle.scm_model.specs.declared.flat.Need.TheVariants as needs
use Rattle.scm_model.specs.declared.flat.Service.{Service}
use Rattle.scm_model.specs.declared.flat.NeedRow.{NeedRow}
use Rattle.scm_model.specs.Needs.{with_row}
use Rattle.scm_model.specs.Order.{is_cyclic, order_in}
use Rattle.scm_model.specs.Ready.{state_of}

-- ## Needs as a call gives them

-- 16-bit units of two bytes each, the low one first; none where a byte is left over
abbrev pub units_in_bytes : List ℕ → Option (List ℕ)
units_in_bytes [] = Some []
units_in_bytes (low ∷ []) = None
units_in_bytes (low ∷ high ∷ bytes) = option_map (λ units. (low + 256 * high) ∷ units) (units_in_bytes bytes)

-- a name after + is a group's
abbrev pub need_named : List ℕ → Need
need_named [] = needs.Service []
need_named (u ∷ name) = if u == 43 then needs.Group name else needs.Service (u ∷ name)

abbrev pub needs_read : Reading → Option (List Need)
needs_read (Ok names) = Some (map need_named names)
needs_read (Err fault) = None

-- the needs that bytes name, or none where they can't be read
abbrev pub needs_in_bytes : List ℕ → Option (List Need)
needs_in_bytes bytes = option_and_then (λ units. needs_read (names_of units)) (units_in_bytes bytes)

-- whether needs are given that can't be read
abbrev pub are_unreadable : Option (List ℕ) → Bool
are_unreadable None = false
are_unreadable (Some bytes) = is_none (needs_in_bytes bytes)

-- the needs that are asked for in place of the old ones
abbrev pub needs_or : List Need → Option (List ℕ) → List Need
needs_or old None = old
needs_or old (Some bytes) = unwrap_or (needs_in_bytes bytes) old

-- ## The graph of needs

abbrev pub need_row_of : ℕ → Config → NeedRow
need_row_of number config = record { number = number; name = config.name; group = config.group; needs = config.needs }

abbrev pub need_row : Service → NeedRow
need_row row = need_row_of row.number row.config

abbrev pub need_rows : List Service → List NeedRow
need_rows services = map need_row services

-- whether needs would have a cycle if a service had this configuration
abbrev pub makes_cycle : Flat → ℕ → Config → Bool
makes_cycle f number config = is_cyclic (with_row (need_rows f.services) (need_row_of number config))

-- the order in which a service is started with what it needs
abbrev pub start_order : Flat → ℕ → List ℕ
start_order f target = order_in (need_rows f.services) (state_of f) target

-- The groups that an option lists, with commas between them.
use Rattle.std.specs.Prelude.{ℕ, ◌==◌, Bool, List, [], ◌∷◌, Option, None, Some}
use Rattle.std.specs.List.{flat_map, slice_split}
use Rattle.sc_words.specs.Texts.{word_text}

abbrev pub is_comma : ℕ → Bool
is_comma b = b == 44

abbrev pub texts_in : Option (List ℕ) → List (List ℕ)
texts_in None = []
texts_in (Some text) = text ∷ []

-- a name in 16-bit units; one with a 0 in it is no service's, and is left out
abbrev pub group_named : List ℕ → List (List ℕ)
group_named name = texts_in (word_text name)

abbrev pub groups_of : List ℕ → List (List ℕ)
groups_of list = flat_map group_named (slice_split is_comma list)

-- without a list there are none
abbrev pub groups_in : Option (List ℕ) → List (List ℕ)
groups_in None = []
groups_in (Some list) = groups_of list

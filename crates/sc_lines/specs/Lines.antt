-- Lines of a label and a value.
use Rattle.std.specs.Prelude.{ℕ, List, ◌++◌, map, codes, decimal}
use Rattle.std.specs.List.{flat_map}
use Rattle.sc_lines.specs.declared.lines.Line.{Line}
use Rattle.sc_lines.specs.declared.lines.Line.TheVariants as lent
use Rattle.sc_lines.specs.Printed.{printed}

-- what a line says
pub data Field : Type 0 where
  Number : List ℕ → ℕ → Field
  -- a number and its name
  Named : List ℕ → ℕ → List ℕ → Field
  Word : List ℕ → List ℕ → Field
  Text : List ℕ → List ℕ → Field

-- a line, without where its parts lie in memory
abbrev pub seen_line : Line → Field
seen_line (lent.Number label number) = Number label.now number
seen_line (lent.Named label number name) = Named label.now number name.now
seen_line (lent.Word label word) = Word label.now word.now
seen_line (lent.Text label units) = Text label.now units.now

-- a label, what it labels, and a line feed
abbrev pub labelled : List ℕ → List ℕ → List ℕ
labelled label rest = label ++ (rest ++ codes "\n")

abbrev pub field_text : Field → List ℕ
field_text (Number label number) = labelled label (decimal number)
field_text (Named label number name) = labelled label (decimal number ++ (codes " " ++ name))
field_text (Word label word) = labelled label word
field_text (Text label units) = labelled label (printed units)

-- a line for each field
unfoldable pub lines : List Field → List ℕ
lines fields = flat_map field_text fields

abbrev pub seen_lines : List Line → List Field
seen_lines ls = map seen_line ls

-- How many bytes the body of some values has.
use Rattle.std.specs.Prelude.{ℕ, ◌+◌, ◌*◌, List, [], ◌∷◌, length, map, Option, Some, None}
use Rattle.ndr_body.specs.Reading.{aligned}
use Rattle.ndr_body.specs.Writing.{blank}
use Rattle.scm_shapes.specs.Levels.{put_info}
use Rattle.scm_shapes.specs.Records.{lock_marks, lock_texts, shown_marks, shown_texts}
use Rattle.scm_shapes.specs.declared.item.Value.{Value}
use Rattle.scm_shapes.specs.declared.item.Value.TheVariants as value

-- three numbers, and the units with the last 0
abbrev pub text_width : List ℕ → ℕ
text_width text = 14 + 2 * length text

-- the place after items of these widths, each after its padding
abbrev pub end_of : List ℕ → ℕ → ℕ
end_of [] place = place
end_of (width ∷ widths) place = end_of widths (aligned place + width)

-- numbers, and then texts
abbrev pub record_width : List (Option ℕ) → List (List ℕ) → ℕ
record_width marks texts = end_of (map text_width texts) (4 * length marks)

-- how many bytes a value takes after the padding before it
abbrev pub width_of : Value → ℕ
width_of (value.Handle handle) = 20
width_of (value.Number number) = 4
width_of (value.Text text) = text_width text
width_of (value.SomeText None) = 4
width_of (value.SomeText (Some text)) = 4 + text_width text
width_of value.UnkeptText = 4
width_of (value.SomeNumber None) = 4
width_of (value.SomeNumber (Some number)) = 8
width_of (value.SomeBytes None) = 8
width_of (value.SomeBytes (Some held)) = aligned (8 + length held) + 4
width_of value.UnkeptBytes = 8
width_of (value.SizedArray held) = aligned (4 + length held) + 4
width_of (value.Bytes size held) = 4 + size
width_of (value.Lock held owner seconds) = record_width (lock_marks held owner seconds) (lock_texts owner)
width_of (value.Shown shown) = record_width (shown_marks shown) (shown_texts shown)
width_of (value.Info asked) = length (put_info asked blank).bytes
width_of (value.Words None) = 8
width_of (value.Words (Some [])) = 8
width_of (value.Words (Some (word ∷ words))) = end_of (map text_width (word ∷ words)) (12 + 4 * length (word ∷ words))

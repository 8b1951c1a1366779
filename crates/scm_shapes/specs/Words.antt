-- The words of a start: how they are read, and the one form that is written.
use Rattle.std.specs.Prelude.{ℕ, replicate, not, ◌==◌, List, [], length, filter, Option, None, Some, Result, Ok, Err, if◌then◌else◌}
use Rattle.std.specs.List.{list_any}
use Rattle.ndr_body.specs.declared.fault.BodyFault.{BodyFault}
use Rattle.ndr_body.specs.declared.fault.BodyFault.TheVariants.{BadCount}
use Rattle.ndr_body.specs.Reading.{◌>>=◌, aligned, number_at}
use Rattle.ndr_body.specs.Writing.{Draft, put_number, put_referent}
use Rattle.scm_shapes.specs.Ranges.{within_at}
use Rattle.scm_shapes.specs.Each.{put_each}
use Rattle.scm_shapes.specs.Records.{record_at, put_marks}

-- ## Reading

-- how many of some pointers aren't 0
abbrev pub pointing : List ℕ → ℕ
pointing pointers = length (filter (λ pointer. not (pointer == 0)) pointers)

-- the texts that the pointers point to. They are absent where a pointer is 0.
abbrev pub words_of : List ℕ → List (List ℕ) → Option (List (List ℕ))
words_of pointers texts = if list_any (λ pointer. pointer == 0) pointers then None else Some texts

-- a pointer per word, and then the texts of those that aren't 0
unfoldable pub pointed_at : ℕ → List ℕ → ℕ → Result (Option (List (List ℕ)) × ℕ) BodyFault
pointed_at argc = record_at argc (λ pointers. Ok (pointing pointers)) words_of

-- the count of the words again, and these
unfoldable pub listed_at : ℕ → List ℕ → ℕ → Result (Option (List (List ℕ)) × ℕ) BodyFault
listed_at argc body place = do
  count ← number_at body place
  if count.0 == argc then pointed_at argc body count.1 else Err (BadCount (aligned place))

-- words that aren't listed are empty where their count is 0, and else absent
abbrev pub unlisted : ℕ → Option (List (List ℕ))
unlisted argc = if argc == 0 then Some [] else None

-- a pointer, and the list that it points to
unfoldable pub argv_at : ℕ → List ℕ → ℕ → Result (Option (List (List ℕ)) × ℕ) BodyFault
argv_at argc body place = do
  pointer ← number_at body place
  if pointer.0 == 0 then Ok (unlisted argc, pointer.1) else listed_at argc body pointer.1

-- at most 1,024 words
unfoldable pub words_at : List ℕ → ℕ → Result (Option (List (List ℕ)) × ℕ) BodyFault
words_at body place = do
  argc ← within_at 1024 body place
  argv_at argc.0 body argc.1

-- ## Writing

abbrev pub put_referents : ℕ → Draft → Draft
put_referents n d = put_marks (replicate n None) d

-- the count, a pointer, the count again, a pointer per word, and the texts
unfoldable pub put_list : List (List ℕ) → Draft → Draft
put_list words d = let count = length words in put_each words (put_referents count (put_number count (put_referent (put_number count d))))

-- absent words are written as one word without a list, empty ones as none
unfoldable pub put_words : Option (List (List ℕ)) → Draft → Draft
put_words None d = put_number 0 (put_number 1 d)
put_words (Some words) d = if length words == 0 then put_number 0 (put_number 0 d) else put_list words d

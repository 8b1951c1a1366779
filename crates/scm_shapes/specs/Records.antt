-- Numbers, of which some point to texts, and then these texts: the state of a lock, and a configuration.
use Rattle.std.specs.Prelude.{◌≡◌, ℕ, ◌+◌, ◌&&◌, ◌||◌, ◌==◌, not, Bool, List, [], ◌∷◌, length, Option, None, Some, Result, Ok, Err}
use Rattle.std.specs.Prelude.{if◌then◌else◌}
use Rattle.scm_model.specs.declared.calls.Shown.{Shown}
use Rattle.ndr_body.specs.declared.fault.BodyFault.{BodyFault}
use Rattle.ndr_body.specs.declared.fault.BodyFault.TheVariants.{BadCount}
use Rattle.ndr_body.specs.Reading.{◌>>=◌, aligned, number_at, text_at}
use Rattle.ndr_body.specs.Writing.{Draft, put_number, put_referent}
use Rattle.ndr_body.specs.Spelled.{IsNumber, IsText, Stands}
use Rattle.scm_shapes.specs.declared.records.Heads.{Heads}
use Rattle.scm_shapes.specs.Each.{each_at, put_each, EachStands}

-- ## Reading

-- so many texts, or the fault of a number that doesn't fit, at this offset from the first one
abbrev pub texts_at : Result ℕ ℕ → ℕ → List ℕ → ℕ → Result (List (List ℕ) × ℕ) BodyFault
texts_at (Ok count) start body place = each_at text_at count body place
texts_at (Err far) start body place = Err (BadCount (aligned start + far))

-- so many numbers, the texts that they tell of, and what both make
unfoldable pub record_at : {A : Type 0} → ℕ → (List ℕ → Result ℕ ℕ) → (List ℕ → List (List ℕ) → A) → List ℕ → ℕ → Result (A × ℕ) BodyFault
record_at count told make body place = do
  numbers ← each_at number_at count body place
  texts ← texts_at (told numbers.0) place body numbers.1
  Ok (make numbers.0 texts.0, texts.1)

pub record RecordStands {A : Type 0} (count : ℕ) (told : List ℕ → Result ℕ ℕ) (make : List ℕ → List (List ℕ) → A) (bytes : List ℕ)
    (place : ℕ) (value : A) (after : ℕ) : Type 0 where
  pub numbers : List ℕ
  pub counted : length numbers ≡ count
  pub middle : ℕ
  pub numbers_stand : EachStands (Stands IsNumber) bytes place numbers middle
  pub texts : List (List ℕ)
  pub told_of : told numbers ≡ Ok (length texts)
  pub texts_stand : EachStands (Stands IsText) bytes middle texts after
  pub is : value ≡ make numbers texts

-- ## Writing

-- a number, or a pointer, which is the next referent
abbrev pub put_mark : Option ℕ → Draft → Draft
put_mark None d = put_referent d
put_mark (Some n) d = put_number n d

abbrev pub put_marks : List (Option ℕ) → Draft → Draft
put_marks [] d = d
put_marks (mark ∷ marks) d = put_marks marks (put_mark mark d)

unfoldable pub put_record : List (Option ℕ) → List (List ℕ) → Draft → Draft
put_record marks texts d = put_each texts (put_marks marks d)

-- ## The state of a lock: whether it is held, a pointer to its owner, and for how many seconds

abbrev pub owners : List ℕ → Result ℕ ℕ
owners (held ∷ pointer ∷ seconds ∷ []) = if pointer == 0 then Ok 0 else Ok 1
owners ns = Ok 0

abbrev pub lock_of : List ℕ → List (List ℕ) → ℕ × Option (List ℕ) × ℕ
lock_of (held ∷ pointer ∷ seconds ∷ ns) (owner ∷ texts) = (held, Some owner, seconds)
lock_of (held ∷ pointer ∷ seconds ∷ ns) [] = (held, None, seconds)
lock_of ns texts = (0, None, 0)

unfoldable pub lock_at : List ℕ → ℕ → Result ((ℕ × Option (List ℕ) × ℕ) × ℕ) BodyFault
lock_at = record_at 3 owners lock_of

abbrev pub lock_marks : ℕ → Option (List ℕ) → ℕ → List (Option ℕ)
lock_marks held None seconds = Some held ∷ Some 0 ∷ Some seconds ∷ []
lock_marks held (Some owner) seconds = Some held ∷ None ∷ Some seconds ∷ []

abbrev pub lock_texts : Option (List ℕ) → List (List ℕ)
lock_texts None = []
lock_texts (Some owner) = owner ∷ []

-- ## A configuration: nine numbers, five of them pointers, and five texts. Without one the numbers are 0.

-- the first four numbers tell whether there is one: they are 0 for none
abbrev pub begins_blank : Heads → Bool
begins_blank h = h.path == 0 && h.kind == 0 && h.start == 0 && h.error == 0

-- for none the others are 0 too
abbrev pub is_blank : Heads → Bool
is_blank h = begins_blank h && h.group == 0 && h.tag == 0 && h.needs == 0 && h.account == 0 && h.display == 0

-- for one no pointer is
abbrev pub is_pointed : Heads → Bool
is_pointed h = not (h.path == 0 || h.group == 0 || h.needs == 0 || h.account == 0 || h.display == 0)

-- without one: the offset, from the first number, of the first one that isn't 0
abbrev pub left_over : Heads → ℕ
left_over h =
    if not (h.group == 0) then 16
    else if not (h.tag == 0) then 20
    else if not (h.needs == 0) then 24
    else if not (h.account == 0) then 28
    else 32

-- with one: the offset of the first pointer that is 0
abbrev pub missing : Heads → ℕ
missing h =
    if h.path == 0 then 12
    else if h.group == 0 then 16
    else if h.needs == 0 then 24
    else if h.account == 0 then 28
    else 32

-- the first number that isn't as those before it state: no body goes on so
abbrev pub first_misfit : Heads → ℕ
first_misfit h = if begins_blank h then left_over h else missing h

abbrev pub texts_told : Heads → Result ℕ ℕ
texts_told h = if is_blank h then Ok 0 else if is_pointed h then Ok 5 else Err (first_misfit h)

abbrev pub numbers_in : Heads → List ℕ
numbers_in h = h.kind ∷ h.start ∷ h.error ∷ h.path ∷ h.group ∷ h.tag ∷ h.needs ∷ h.account ∷ h.display ∷ []

abbrev pub shown_told : List ℕ → Result ℕ ℕ
shown_told (k ∷ s ∷ e ∷ p ∷ g ∷ t ∷ n ∷ a ∷ d ∷ []) =
    texts_told (record { kind = k; start = s; error = e; path = p; group = g; tag = t; needs = n; account = a; display = d })
shown_told ns = Ok 0

abbrev pub shown_from : List ℕ → List (List ℕ) → Option Shown
shown_from (kind ∷ start ∷ error ∷ to_path ∷ to_group ∷ tag ∷ ns) (path ∷ group ∷ needs ∷ account ∷ display ∷ []) =
    Some (record {
      kind = kind;
      start = start;
      error = error;
      path = path;
      group = group;
      tag = tag;
      needs = needs;
      account = account;
      display = display;
    })
shown_from ns texts = None

-- the five texts of these numbers
unfoldable pub shown_texts_at : Heads → List ℕ → ℕ → Result (Option Shown × ℕ) BodyFault
shown_texts_at heads body place = each_at text_at 5 body place >>= λ texts. Ok (shown_from (numbers_in heads) texts.0, texts.1)

unfoldable pub shown_at : List ℕ → ℕ → Result (Option Shown × ℕ) BodyFault
shown_at = record_at 9 shown_told shown_from

abbrev pub shown_marks : Option Shown → List (Option ℕ)
shown_marks None = Some 0 ∷ Some 0 ∷ Some 0 ∷ Some 0 ∷ Some 0 ∷ Some 0 ∷ Some 0 ∷ Some 0 ∷ Some 0 ∷ []
shown_marks (Some s) = Some s.kind ∷ Some s.start ∷ Some s.error ∷ None ∷ None ∷ Some s.tag ∷ None ∷ None ∷ None ∷ []

abbrev pub shown_texts : Option Shown → List (List ℕ)
shown_texts None = []
shown_texts (Some s) = s.path ∷ s.group ∷ s.needs ∷ s.account ∷ s.display ∷ []

-- Parts of a body one after the other. A part can decide which part follows it.
use Rattle.std.specs.Prelude.{◌≡◌, ◌==◌, not, ℕ, Bool, true, false, List, [], ◌∷◌, Option, None, Some, Result, Ok, Err, if◌then◌else◌}
use Rattle.ndr_body.specs.declared.fault.BodyFault.{BodyFault}
use Rattle.ndr_body.specs.declared.fault.BodyFault.TheVariants.{BadCount}
use Rattle.ndr_body.specs.Reading.{◌>>=◌, aligned, number_at}
use Rattle.ndr_body.specs.Writing.{Draft, put_number, put_referent}
use Rattle.ndr_body.specs.Spelled.{IsNumber, Stands}

-- ## Reading

-- how a part is read at a place of a body: its content, and the place after it
abbrev pub Reads : Type 0 → Type 0
Reads A = List ℕ → ℕ → Result (A × ℕ) BodyFault

-- a part, and then the one that its content decides
abbrev pub then_at : {A B : Type 0} → Reads A → (A → Reads B) → Reads (A × B)
then_at first_at second_at body place = first_at body place >>= λ first. second_at first.0 body first.1 >>= λ second. Ok
    ((first.0, second.0), second.1)

abbrev pub both_at : {A B : Type 0} → Reads A → Reads B → Reads (A × B)
both_at first_at second_at = then_at first_at (λ first. second_at)

-- what is made of a part
abbrev pub made : {A B : Type 0} → (A → B) → Result (A × ℕ) BodyFault → Result (B × ℕ) BodyFault
made make read = read >>= λ x. Ok (make x.0, x.1)

abbrev pub made_at : {A B : Type 0} → (A → B) → Reads A → Reads B
made_at make read_at body place = made make (read_at body place)

-- a part that isn't kept
abbrev pub unkept_at : {A : Type 0} → Reads A → Reads (Unit {0})
unkept_at read_at = made_at (λ x. tt) read_at

-- a part that has to pass a test
abbrev pub checked_at : {A : Type 0} → (A → Bool) → Reads A → Reads A
checked_at test read_at body place = read_at body place >>= λ x. if test x.0 then Ok x else Err (BadCount (aligned place))

-- a part if there is one, and else nothing
abbrev pub if_at : {A : Type 0} → Bool → Reads A → Reads (Option A)
if_at true read_at = made_at Some read_at
if_at false read_at = λ body place. Ok (None, place)

-- a part for each of some
unfoldable pub for_each_at : {A B : Type 0} → (A → Reads B) → List A → Reads (List B)
for_each_at read_at [] body place = Ok ([], place)
for_each_at read_at (x ∷ xs) body place = do
  first ← read_at x body place
  others ← for_each_at read_at xs body first.1
  Ok (first.0 ∷ others.0, others.1)

-- a number that has to be this one
abbrev pub same_at : ℕ → Reads ℕ
same_at n = checked_at (λ m. m == n) number_at

-- whether a number isn't 0, as a pointer or a flag that is on
abbrev pub nonzero : ℕ → Bool
nonzero n = not (n == 0)

abbrev pub nonzero_at : Reads Bool
nonzero_at = made_at nonzero number_at

-- ## Where they stand

pub record ThenStands {A B : Type 0} (First : List ℕ → ℕ → A → ℕ → Type 0) (Second : A → List ℕ → ℕ → B → ℕ → Type 0) (bytes : List ℕ)
    (place : ℕ) (v : A × B) (after : ℕ) : Type 0 where
  pub middle : ℕ
  pub first : First bytes place v.0 middle
  pub second : Second v.0 bytes middle v.1 after

abbrev pub BothStand : {A B : Type 0} → (List ℕ → ℕ → A → ℕ → Type 0) → (List ℕ → ℕ → B → ℕ → Type 0) → List ℕ → ℕ → A × B → ℕ → Type 0
BothStand First Second = ThenStands First (λ first. Second)

-- a value made of what stands there
pub record Holds {A B : Type 0} (make : A → B) (There : List ℕ → ℕ → A → ℕ → Type 0) (bytes : List ℕ) (place : ℕ) (v : B)
    (after : ℕ) : Type 0 where
  pub content : A
  pub is : v ≡ make content
  pub there : There bytes place content after

pub record CheckedStands {A : Type 0} (test : A → Bool) (There : List ℕ → ℕ → A → ℕ → Type 0) (bytes : List ℕ) (place : ℕ) (v : A)
    (after : ℕ) : Type 0 where
  pub passes : test v ≡ true
  pub there : There bytes place v after

abbrev pub IfStands : {A : Type 0} → Bool → (List ℕ → ℕ → A → ℕ → Type 0) → List ℕ → ℕ → Option A → ℕ → Type 0
IfStands true There bytes place (Some v) after = There bytes place v after
IfStands true There bytes place None after = ⊥
IfStands false There bytes place (Some v) after = ⊥
IfStands false There bytes place None after = after ≡ place

abbrev pub ForEachStands : {A B : Type 0} → (A → List ℕ → ℕ → B → ℕ → Type 0) → List A → List ℕ → ℕ → List B → ℕ → Type 0
ForEachStands Stand [] bytes place [] after = after ≡ place
ForEachStands Stand (x ∷ xs) bytes place (v ∷ vs) after = (middle : ℕ) × Stand x bytes place v middle
    × ForEachStands Stand xs bytes middle vs after
ForEachStands Stand [] bytes place (v ∷ vs) after = ⊥
ForEachStands Stand (x ∷ xs) bytes place [] after = ⊥

abbrev pub SameStands : ℕ → List ℕ → ℕ → ℕ → ℕ → Type 0
SameStands n = CheckedStands (λ m. m == n) (Stands IsNumber)

abbrev pub NonzeroStands : List ℕ → ℕ → Bool → ℕ → Type 0
NonzeroStands = Holds nonzero (Stands IsNumber)

-- ## Writing

-- a referent, or a zero pointer
unfoldable pub put_pointer : Bool → Draft → Draft
put_pointer true d = put_referent d
put_pointer false d = put_number 0 d

unfoldable pub put_flag : Bool → Draft → Draft
put_flag true d = put_number 1 d
put_flag false d = put_number 0 d

-- what is there
abbrev pub put_if : {A : Type 0} → (A → Draft → Draft) → Option A → Draft → Draft
put_if put None d = d
put_if put (Some v) d = put v d

unfoldable pub put_all : {A : Type 0} → (A → Draft → Draft) → List A → Draft → Draft
put_all put [] d = d
put_all put (v ∷ vs) d = put_all put vs (put v d)

-- Room for a row stays while the texts of another are forgotten.
use Rattle.std.proofs.Common.{ℕ, ◌≡◌, ◌≤◌, ◌∙◌, true, false, List, [], ◌∷◌, Option, None, Some, refl, sym, arith, inl, inr}
use Rattle.std.proofs.Common.{Result, Ok, Err, true≢false}
use Rattle.std.specs.Prelude.{IfSome, OnOk, is_err}
use Rattle.std.proofs.lemmas.Bool.{cases_Bool}
use Rattle.scm_text.specs.Fold.{same_text}
use Rattle.scm_model.specs.declared.flat.Need.{Need}
use Rattle.scm_model.specs.declared.flat.Need.TheVariants as kinds
use Rattle.number_lists.specs.UnderName.{UnderName, room, Changes}
use Rattle.number_lists.proofs.Same.{same_laws}
use Rattle.dependency_index.specs.Kept.{HasRoom, HasTexts, KeepsRoom, name_it}
use Rattle.dependency_index.specs.Naming.{is_for}
use Rattle.dependency_index.specs.declared.index.DependencyIndex.TheInside.{Inside}
use Rattle.dependency_index.specs.declared.keeping.KeptLists.{KeptLists}
use Rattle.dependency_index.specs.declared.keeping.Spare.{Spare}

-- a need names each of two texts that are the same, or neither
named_alike : (a b : List ℕ) → same_text a b ≡ true → (need : Need) → is_for a need ≡ is_for b need
named_alike a b same (kinds.Service needed) = same_laws.congr a b needed same
named_alike a b same (kinds.Group group) = refl

any_alike : (a b : List ℕ) → same_text a b ≡ true → (needs : List Need) → name_it a needs ≡ name_it b needs
any_alike a b same [] = refl
any_alike a b same (need ∷ needs) = rw (named_alike a b same need, any_alike a b same needs) refl

-- a text that none of some needs names is another than one that they name
apart : (text name : List ℕ) (kept : List Need) → name_it text kept ≡ false → name_it name kept ≡ true → same_text text name ≡ false
apart text name kept none some =
    elim (cases_Bool (same_text text name)) [
      | inl same ↦ absurd (true≢false (sym some ∙ sym (any_alike text name same kept) ∙ none))
      | inr differs ↦ differs
    ]

-- forgetting a text that no need names leaves the room of those that they name
pub room_stays : (old new : UnderName) (text : List ℕ) (kept : List Need) → Changes old new text (λ numbers. numbers)
    → name_it text kept ≡ false → (name : List ℕ) → name_it name kept ≡ true → room old name ≤ room new name
room_stays old new text kept changes none name some = changes.rooms name (apart text name kept none some)

pub where_ok : {T E P : Type 0} (r : Result T E) → OnOk r P → is_err r ≡ false → P
where_ok (Ok x) holds ok = holds
where_ok (Err e) holds ok = absurd (cc ok)

pub still_texts : (spare : Option Spare) (old new : KeptLists) → KeepsRoom old new → IfSome spare (HasTexts old)
    → IfSome spare (HasTexts new)
still_texts None old new rooms had = tt
still_texts (Some row) old new rooms had = record {
  name = omega (arith, had.name, rooms.called row.name);
  needs = λ (name : List ℕ) named. omega (arith, had.needs name named, rooms.named name);
  group = omega (arith, had.group, rooms.grouped row.group);
}

-- there is room for a row in other fields, where it is not less
pub room_in : (spare : Option Spare) (a b : Inside) → (1 ≤ a.rows.room → 1 ≤ b.rows.room)
    → (IfSome spare (HasTexts a.lists) → IfSome spare (HasTexts b.lists)) → IfSome spare (HasRoom a) → IfSome spare (HasRoom b)
room_in None a b more kept had = tt
room_in (Some row) a b more kept had = record { rows = more had.rows; texts = kept had.texts }

-- The text of a descriptor is read as the descriptor.
use Rattle.std.proofs.Common.{◌≡◌, ℕ, ◌+◌, ◌≤◌, true, false, List, [], ◌∷◌, ◌++◌, length, drop, Option, Some, None, Result, Ok, refl, sym}
use Rattle.std.proofs.Common.{ap, ◌∙◌, arith, append_assoc, length-drop}
use Rattle.std.specs.Prelude.{All, IfSome, codes}
use Rattle.std.specs.List.{flat_map}
use Rattle.std.proofs.lemmas.Bool.{le-leb}
use Rattle.std.proofs.lemmas.List.{append-nil}
use Rattle.sec_desc.specs.declared.value.Ace.{Ace}
use Rattle.sec_desc.specs.declared.value.Descriptor.{Descriptor}
use Rattle.sec_desc.specs.declared.value.Sid.{Sid}
use Rattle.sec_desc.specs.Writing.{IsAceValue, IsShort, IsSidValue, IsValue, IsWritable, IsWritableAcl}
use Rattle.sddl.specs.Laws.{HasBytes, HasLetters, HasText, IsReadBack}
use Rattle.sddl.specs.Reading.{at_end, has_byte, list_at, part_at, sddl_of, sid_at}
use Rattle.sddl.specs.Writing.{ace_text, part_if, sddl_text, sid_text}
use Rattle.sddl.proofs.Aces.{list_there}
use Rattle.sddl.proofs.Identities.{ends_sid, sid_there}
use Rattle.sddl.proofs.There.{byte_there, next, word_there}

-- a part that is not there
abbrev IsAbsent : ℕ → List ℕ → Type 0
IsAbsent letter rest = (text : List ℕ) (place : ℕ) → drop place text ≡ rest → has_byte letter text place ≡ false

part_there : {A : Type 0} (letter : ℕ) (item : List ℕ → ℕ → Result (A × ℕ) ℕ) (written : A → List ℕ) (text : List ℕ) (place : ℕ)
    (part : Option A) (rest : List ℕ) → IsAbsent letter rest
    → ((at : ℕ) (x : A) → part ≡ Some x → drop at text ≡ written x ++ rest → item text at ≡ Ok (x, at + length (written x)))
    → drop place text ≡ part_if (letter ∷ 58 ∷ []) written part ++ rest
    → part_at letter item text place ≡ Ok (part, place + length (part_if (letter ∷ 58 ∷ []) written part))
unfolding part_at
part_there letter item written text place None rest none read e = rw (none text place e) (ap (λ m. Ok (None, m)) (omega arith))
part_there letter item written text place (Some x) rest none read e =
    rw (
      byte_there text place letter _ e,
      word_there (letter ∷ 58 ∷ []) text place _ e,
      read (place + 2) x refl (next text place (letter ∷ 58 ∷ []) _ e),
    )
    (ap (λ m. Ok (Some x, m)) (omega arith))

-- ## What comes after a part

abbrev list_part : Option (List Ace) → List ℕ
list_part = part_if (codes "D:") (flat_map ace_text)

abbrev after_owner : Descriptor → List ℕ
after_owner d = part_if (codes "G:") sid_text d.group ++ list_part d.list

no_owner : (group : Option Sid) (list : Option (List Ace)) → IsAbsent 79 (part_if (codes "G:") sid_text group ++ list_part list)
no_owner (Some group) list text place e = rw e refl
no_owner None (Some list) text place e = rw e refl
no_owner None None text place e = rw e refl

no_group : (list : Option (List Ace)) → IsAbsent 71 (list_part list)
no_group (Some list) text place e = rw e refl
no_group None text place e = rw e refl

no_list : IsAbsent 68 []
no_list text place e = rw e refl

owner_ends : (group : Option Sid) (list : Option (List Ace)) → ends_sid (part_if (codes "G:") sid_text group ++ list_part list) ≡ true
owner_ends (Some group) list = refl
owner_ends None (Some list) = refl
owner_ends None None = refl

group_ends : (list : Option (List Ace)) → ends_sid (list_part list) ≡ true
group_ends (Some list) = refl
group_ends None = refl

-- ## The parts

-- what holds of a part that is there
of_part : {A : Type 0} (P : A → Type 0) (part : Option A) (x : A) → part ≡ Some x → IfSome part P → P x
of_part P part x e h = rw e at h

owner_there : (text : List ℕ) (d : Descriptor) → IsWritable d → IsValue d → HasText d
    → drop 0 text ≡ part_if (codes "O:") sid_text d.owner ++ after_owner d
    → part_at 79 sid_at text 0 ≡ Ok (d.owner, 0 + length (part_if (codes "O:") sid_text d.owner))
owner_there text d writable value has e =
    part_there 79 sid_at sid_text text 0 d.owner (after_owner d) (no_owner d.group d.list)
    (λ at sid is here. sid_there text at sid (after_owner d) (of_part IsShort d.owner sid is writable.owner)
    (of_part IsSidValue d.owner sid is value.owner) (of_part HasBytes d.owner sid is has.owner) (owner_ends d.group d.list) here) e

group_there : (text : List ℕ) (place : ℕ) (d : Descriptor) → IsWritable d → IsValue d → HasText d → drop place text ≡ after_owner d
    → part_at 71 sid_at text place ≡ Ok (d.group, place + length (part_if (codes "G:") sid_text d.group))
group_there text place d writable value has e =
    part_there 71 sid_at sid_text text place d.group (list_part d.list) (no_group d.list)
    (λ at sid is here. sid_there text at sid (list_part d.list) (of_part IsShort d.group sid is writable.group)
    (of_part IsSidValue d.group sid is value.group) (of_part HasBytes d.group sid is has.group) (group_ends d.list) here) e

acl_there : (text : List ℕ) (place : ℕ) (d : Descriptor) → IsWritable d → IsValue d → HasText d → drop place text ≡ list_part d.list
    → part_at 68 list_at text place ≡ Ok (d.list, place + length (list_part d.list))
acl_there text place d writable value has e =
    part_there 68 list_at (flat_map ace_text) text place d.list [] no_list
    (λ at aces is here. list_there text at aces (of_part IsWritableAcl d.list aces is writable.list)
    (of_part (All IsAceValue) d.list aces is value.list) (of_part (All HasLetters) d.list aces is has.list)
    (here ∙ append-nil (flat_map ace_text aces)))
    (e ∙ sym (append-nil (list_part d.list)))

end_there : (text : List ℕ) (place : ℕ) → drop place text ≡ [] → at_end text place ≡ Ok place
end_there text place e =
    let none : length text ≤ place = omega (arith, ap length e, length-drop place text) in
    rw (le-leb (length text) place none) refl

pub read_back : (d : Descriptor) → IsWritable d → IsValue d → HasText d → IsReadBack d
unfolding sddl_of sddl_text
read_back d writable value has =
    let text = sddl_text d in
    let owner = part_if (codes "O:") sid_text d.owner in
    let group = part_if (codes "G:") sid_text d.group in
    let list = list_part d.list in
    let group_place = 0 + length owner in
    let list_place = group_place + length group in
    let whole : drop 0 text ≡ owner ++ after_owner d = append_assoc owner group list in
    let after = next text 0 owner (after_owner d) whole in
    let at_list = next text group_place group list after in
    let at_last = next text list_place list [] (at_list ∙ sym (append-nil list)) in
    rw (
      owner_there text d writable value has whole,
      group_there text group_place d writable value has after,
      acl_there text list_place d writable value has at_list,
      end_there text (list_place + length list) at_last,
    )

-- Items one after the other are read exactly where they stand, and texts that are written are read back.
use Rattle.std.proofs.Common.{◌≡◌, ℕ, zero, suc, List, [], ◌∷◌, length, Ok, Result, refl, sym, ap, ◌∙◌, append_assoc, ◌++◌, subst, arith}
use Rattle.std.specs.List.{AllByRecursion}
use Rattle.std.proofs.lemmas.List.{append-nil}
use Rattle.ndr_body.specs.declared.fault.BodyFault.{BodyFault}
use Rattle.ndr_body.specs.Reading.{◌>>=◌, text_at}
use Rattle.ndr_body.specs.Writing.{Draft, number_bytes, text_bytes, padding_at, with_item, put_number, put_text, put_referent}
use Rattle.ndr_body.specs.Spelled.{IsText, Stands}
use Rattle.ndr_body.specs.Laws.{IsReferent, IsSent}
use Rattle.ndr_body.proofs.Spelled.{bind_ok, ok_is}
use Rattle.ndr_body.proofs.Written.{text_put}
use Rattle.ndr_body.proofs.Chains.{Holds, read_there, text_sent}
use Rattle.scm_shapes.specs.Each.{EachStands, each_at, put_each}

pub each_found : {A : Type 0} (item_at : List ℕ → ℕ → Result (A × ℕ) BodyFault) (There : List ℕ → ℕ → A → ℕ → Type 0) (body : List ℕ)
    (n place : ℕ) (x : List A × ℕ)
    → ((at : ℕ) (y : A × ℕ) → item_at body at ≡ Ok y → There body at y.0 y.1) → each_at item_at n body place ≡ Ok x
    → EachStands There body place x.0 x.1 × (length x.0 ≡ n)
unfolding each_at
each_found {A = A} item_at There body zero place x laws e = subst (λ (y : List A × ℕ). EachStands There body place y.0 y.1
    × (length y.0 ≡ 0)) (ok_is ([], place) x e) (refl, refl)
each_found {A = A} item_at There body (suc n) place x laws e =
    let a = bind_ok (item_at body place) (λ first. each_at item_at n body first.1 >>= λ others. Ok (first.0 ∷ others.0, others.1)) x e in
    let b = bind_ok (each_at item_at n body a.0.1) (λ others. Ok (a.0.0 ∷ others.0, others.1)) x a.2 in
    let more = each_found item_at There body n a.0.1 b.0 laws b.1 in
    let made : List A × ℕ = (a.0.0 ∷ b.0.0, b.0.1) in
    subst (λ (y : List A × ℕ). EachStands There body place y.0 y.1 × (length y.0 ≡ suc n)) (ok_is made x b.2)
    ((a.0.1, laws place a.0 a.1, more.0), omega (arith, more.1))

pub each_read : {A : Type 0} (item_at : List ℕ → ℕ → Result (A × ℕ) BodyFault) (There : List ℕ → ℕ → A → ℕ → Type 0) (body : List ℕ)
    (values : List A) (place after : ℕ)
    → ((at : ℕ) (y : A) (end : ℕ) → There body at y end → item_at body at ≡ Ok (y, end)) → EachStands There body place values after
    → each_at item_at (length values) body place ≡ Ok (values, after)
unfolding each_at
each_read item_at There body [] place after laws h = rw h refl
each_read item_at There body (v ∷ vs) place after laws h = rw (
  laws place v h.0 h.1,
  each_read item_at There body vs h.0 after laws h.2,
) refl

pub each_sent : (bytes : List ℕ) (place : ℕ) (texts : List (List ℕ)) (after : ℕ) → EachStands (Stands IsText) bytes place texts after
    → AllByRecursion IsSent texts
each_sent bytes place [] after h = tt
each_sent bytes place (text ∷ texts) after h = (text_sent h.1.item text h.1.is, each_sent bytes h.0 texts after h.2)

-- ## What is put after a draft

abbrev pub Behind : (Draft → Draft) → Type 0
Behind put = (d : Draft) → (more : List ℕ) × ((put d).bytes ≡ d.bytes ++ more)

-- what is after a draft twice
pub behind_both : (p q : Draft → Draft) → Behind p → Behind q → Behind (λ d. q (p d))
behind_both p q first second d =
    let a = first d in
    let b = second (p d) in
    (a.0 ++ b.0, b.1 ∙ ap (λ (l : List ℕ). l ++ b.0) a.1 ∙ append_assoc d.bytes a.0 b.0)

pub behind_nothing : Behind (λ d. d)
behind_nothing d = ([], sym (append-nil d.bytes))

behind_item : (item : List ℕ) (d : Draft) → (more : List ℕ) × ((with_item item d).bytes ≡ d.bytes ++ more)
behind_item item d = (padding_at (length d.bytes) ++ item, append_assoc d.bytes (padding_at (length d.bytes)) item)

pub behind_number : (n : ℕ) → Behind (put_number n)
unfolding put_number
behind_number n d = behind_item (number_bytes n) d

pub behind_referent : Behind put_referent
unfolding put_referent
behind_referent d = behind_item (number_bytes d.next) d

behind_text : (text : List ℕ) → Behind (put_text text)
unfolding put_text
behind_text text d = behind_item (text_bytes text) d

pub behind_each : (texts : List (List ℕ)) → Behind (put_each texts)
behind_each [] = behind_nothing
behind_each (text ∷ texts) = behind_both (put_text text) (put_each texts) (behind_text text) (behind_each texts)

-- what holds a longer draft holds the shorter one
pub held_back : (put : Draft → Draft) → Behind put → (body : List ℕ) (d : Draft) → Holds body (put d) → Holds body d
held_back put extends body d held =
    let b = extends d in
    (b.0 ++ held.0, held.1 ∙ ap (λ (l : List ℕ). l ++ held.0) b.1 ∙ append_assoc d.bytes b.0 held.0)

-- ## Texts are read back

pub texts_next : (texts : List (List ℕ)) (d : Draft) → AllByRecursion IsSent texts → IsReferent d.next → IsReferent (put_each texts d).next
texts_next [] d sent referent = referent
texts_next (text ∷ texts) d sent referent = texts_next texts (put_text text d) sent.1 ((text_put text sent.0).next d referent)

pub texts_there : (texts : List (List ℕ)) (body : List ℕ) (d : Draft) → AllByRecursion IsSent texts → IsReferent d.next
    → Holds body (put_each texts d) → each_at text_at (length texts) body (length d.bytes) ≡ Ok (texts, length (put_each texts d).bytes)
unfolding each_at
texts_there [] body d sent referent held = refl
texts_there (text ∷ texts) body d sent referent held =
    let law = text_put text sent.0 in
    let here = held_back (put_each texts) (behind_each texts) body (put_text text d) held in
    rw (
      read_there text_at (put_text text) text body d law referent here,
      texts_there texts body (put_text text d) sent.1 (law.next d referent) held,
    ) refl

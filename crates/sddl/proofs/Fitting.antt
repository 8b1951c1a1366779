-- What is read has a form in bytes.
use Rattle.std.proofs.Common.{◌≡◌, ℕ, zero, suc, ◌+◌, ◌≤◌, List, [], ◌∷◌, length, take, drop, Option, Some, None, Result, Ok, Err, refl}
use Rattle.std.proofs.Common.{sym, ap, arith, inl, inr}
use Rattle.std.proofs.lemmas.Bool.{cases_Bool}
use Rattle.sec_desc.specs.declared.value.Sid.{Sid}
use Rattle.sec_desc.specs.Reading.{◌>>=◌}
use Rattle.sec_desc.specs.Writing.{IsShort}
use Rattle.sddl.specs.declared.tables.KnownSid.{KnownSid}
use Rattle.std.specs.Prelude.{IfOk}
use Rattle.sddl.specs.declared.fault.SddlFault.{SddlFault}
use Rattle.sddl.specs.Reading.{ReadsAs, authority_at, fits, has_byte, known_at, long_at, number_at, parts_from}
use Rattle.sddl.specs.Tables.{known_by_letters, parts_after, sid_of}

-- if two steps gave a value, the first did
pub bind_ok : {A B : Type 0} (r : Result A ℕ) (f : A → Result B ℕ) (y : B) → (r >>= f) ≡ Ok y → (x : A) × (r ≡ Ok x) × (f x ≡ Ok y)
bind_ok (Ok x) f y e = (x, refl, e)
bind_ok (Err place) f y e = absurd cc

abbrev result_of : {A : Type 0} → A → Result A ℕ
result_of x = Ok x

value_or : {A : Type 0} → A → Result A ℕ → A
value_or d (Ok x) = x
value_or d (Err place) = d

pub ok_same : {A : Type 0} (x y : A) → result_of x ≡ result_of y → x ≡ y
unfolding value_or
ok_same x y e = ap (value_or x) e

short_parts : (n : ℕ) (text : List ℕ) (place : ℕ) (x : List ℕ × ℕ) → parts_from n text place ≡ Ok x → length x.0 ≤ n
unfolding parts_from
short_parts zero text place x e = elim (cases_Bool (has_byte 45 text place)) [
  | inl is ↦ absurd (let f = rw is at e in cc)
  | inr is ↦ (let f = rw is at e in rw (sym (ok_same ([], place) x f)) (omega arith))
]
short_parts (suc n) text place x e = elim (cases_Bool (has_byte 45 text place)) [
  | inl is ↦ (let f = rw is at e in
      let first = bind_ok (number_at text (place + 1)) _ x f in
      let others = bind_ok (parts_from n text first.0.1) _ x first.2 in
      let rest = short_parts n text first.0.1 others.0 others.1 in
      rw (sym (ok_same _ x others.2)) (omega (arith, rest)))
  | inr is ↦ (let f = rw is at e in rw (sym (ok_same ([], place) x f)) (omega arith))
]

pub short_long : (text : List ℕ) (place : ℕ) (x : Sid × ℕ) → long_at text place ≡ Ok x → IsShort x.0
unfolding long_at
short_long text place x e =
    let authority = bind_ok (authority_at text place) _ x e in
    let parts = bind_ok (parts_from 15 text authority.0.1) _ x authority.2 in
    let short = short_parts 15 text authority.0.1 parts.0 parts.1 in
    rw (sym (ok_same _ x parts.2)) short

pub short_known : (text : List ℕ) (place : ℕ) (x : Sid × ℕ) → known_at text place ≡ Ok x → IsShort x.0
unfolding known_at
short_known text place x e =
    let known = bind_ok (fits place (known_by_letters (take 2 (drop place text)))) _ x e in
    rw (sym (ok_same _ x known.2)) (few known.0)
  where
    few : (it : KnownSid) → IsShort (sid_of it)
    few it = rest it.second
      where
        rest : (second : Option ℕ) → length (it.first ∷ parts_after second) ≤ 15
        rest None = omega arith
        rest (Some second) = omega arith

short_of : (r : Result (Sid × ℕ) SddlFault) (read : Result (Sid × ℕ) ℕ) → ((x : Sid × ℕ) → read ≡ Ok x → IsShort x.0)
    → ReadsAs (λ x. x) r read → IfOk r (λ x. IsShort x.0)
short_of (Ok x) read f h = f x h
short_of (Err fault) read f h = tt

pub long_short : (r : Result (Sid × ℕ) SddlFault) (text : List ℕ) (place : ℕ) → ReadsAs (λ x. x) r (long_at text place)
    → IfOk r (λ x. IsShort x.0)
long_short r text place h = short_of r (long_at text place) (short_long text place) h

pub known_short : (r : Result (Sid × ℕ) SddlFault) (text : List ℕ) (place : ℕ) → ReadsAs (λ x. x) r (known_at text place)
    → IfOk r (λ x. IsShort x.0)
known_short r text place h = short_of r (known_at text place) (short_known text place) h

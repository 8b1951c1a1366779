-- Bodies of raises and of their replies.
use Rattle.std.proofs.Common.{◌≡◌, ℕ, ◌<◌, List, [], ◌∷◌, length, take, Result, Ok, Err, inl, inr, refl, sym, ap, subst, arith}
use Rattle.std.proofs.Math.Seq.{take-length}
use Rattle.std.proofs.lemmas.Bool.{cases_Bool, le-ltb}
use Rattle.std.specs.Prelude.{IfOk}
use Rattle.scm_model.specs.declared.calls.Reply.TheVariants as reply
use Rattle.ndr_body.specs.declared.fault.BodyFault.{BodyFault}
use Rattle.ndr_body.specs.declared.fault.BodyFault.TheVariants.{Trailing}
use Rattle.ndr_body.specs.Reading.{Gives, ended_at, is_ended}
use Rattle.ndr_body.specs.Spelled.{IsEnded}
use Rattle.ndr_body.proofs.Spelled.{IsBytes, bind_ok, ok_is}
use Rattle.ndr_body.proofs.SpelledPointers.{ended_finished, finished_ended}
use Rattle.scm_shapes.specs.declared.item.Value.{Value}
use Rattle.scm_shapes.specs.declared.item.Value.TheVariants as value
use Rattle.scm_shapes.specs.Shapes.{body_values, first_number}
use Rattle.scm_shapes.specs.Bodies.{IsBody}
use Rattle.scm_shapes.proofs.Exact.{body_fits, body_found, body_read}
use Rattle.scm_calls.specs.declared.kinds.ReplyKind.TheVariants as kind
use Rattle.scm_calls.specs.Replies.{reply_shape, reply_values}
use Rattle.scm_calls.specs.Raises.{IsRaise, IsRaiseReply, raise_at, raise_reply_at}

-- no more bytes than the item's may stand where one to three would make no multiple of 4
ends_alone : (body : List ℕ) → IsEnded body 16 → 16 < length body → ⊥
ends_alone body h lt = elim h [
  | inl all ↦ omega (arith, all, lt)
  | inr few ↦ omega (arith, few.0, few.1, lt)
]

goes_on : (body : List ℕ) → 16 < length body → ended_at body 16 ≡ Err (Trailing 16)
unfolding ended_at
goes_on body lt = elim (cases_Bool (is_ended body 16)) [
  | inl ended ↦ absurd (ends_alone body (finished_ended body 16 (rw ended refl)) lt)
  | inr not ↦ rw not refl
]

-- more than sixteen bytes
pub raise_long : (body : List ℕ) → 16 < length body → raise_at body ≡ Err (Trailing 16)
unfolding raise_at
raise_long body lt = rw (le-ltb (length body) 16 (omega (arith, lt)), goes_on body lt) refl

-- a subtype's own bytes
pub raise_read : (bytes subtype : List ℕ) → IsRaise bytes subtype → raise_at bytes ≡ Ok subtype
unfolding raise_at
raise_read bytes subtype h =
    let size : length bytes ≡ 16 = subst (λ (b : List ℕ). length b ≡ 16) (sym h.spelled) h.size in
    let whole = subst (λ n. take n bytes ≡ bytes) size (take-length bytes) in
    rw (le-ltb (length bytes) 16 (omega (arith, size)), ended_finished bytes 16 (inl size), whole) (ap (λ (b : List ℕ). Ok b) h.spelled)

-- a code that is read is told by the body
pub reply_found : (body : List ℕ) (result : Result ℕ BodyFault) → IsBytes body → Gives (λ code. code) result (raise_reply_at body)
    → IfOk result (λ code. IsRaiseReply body code)
reply_found body (Ok code) fits gives =
    let shape = reply_shape kind.Code in
    let a = bind_ok (body_values shape body) (λ vs. Ok (first_number vs)) code gives in
    let found = body_found shape body a.0 fits a.1 in
    let is : value.Number (first_number a.0) ∷ [] ≡ a.0 = body_fits shape body a.0 found in
    let said : value.Number code ∷ [] ≡ a.0 = subst (λ n. value.Number n ∷ [] ≡ a.0) (ok_is (first_number a.0) code a.2) is in
    subst (λ (vs : List Value). IsBody shape body vs) (sym said) found
reply_found body (Err fault) fits gives = tt

-- and what the body tells is read
pub reply_only : (body : List ℕ) (result : Result ℕ BodyFault) → IsBytes body → Gives (λ code. code) result (raise_reply_at body)
    → (code : ℕ) → IsRaiseReply body code → Gives (λ c. c) result (Ok code)
reply_only body result fits gives code h =
    let told : raise_reply_at body ≡ Ok code = rw (body_read (reply_shape kind.Code) body (reply_values (reply.Code code)) fits h) refl in
    subst (λ (read : Result ℕ BodyFault). Gives (λ c. c) result read) told gives

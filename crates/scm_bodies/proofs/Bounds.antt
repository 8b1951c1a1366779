-- How long replies can be.
use Rattle.std.proofs.Common.{◌≡◌, ℕ, ◌+◌, ◌*◌, ◌≤◌, ◌-◌, ◌/◌, Bool, true, false, cond, replicate, List, [], ◌∷◌, length, Option, Some}
use Rattle.std.proofs.Common.{None, refl, inl, inr, arith}
use Rattle.std.specs.Prelude.{option_map}
use Rattle.std.proofs.lemmas.List.{length-replicate}
use Rattle.std.proofs.lemmas.Bool.{cases_Bool, ltb-false, le-ltb}
use lib.Dec.{ltb}
use Rattle.scm_model.specs.Refused.{zero_process_status, zero_status}
use Rattle.scm_model.specs.declared.calls.Shown.{Shown}
use Rattle.scm_model.specs.declared.calls.Reply.{Reply}
use Rattle.scm_model.specs.declared.calls.Reply.TheVariants as reply
use Rattle.ndr_body.specs.Reading.{aligned}
use Rattle.scm_shapes.specs.Widths.{end_of}
use Rattle.scm_shapes.proofs.Widths.{length_body}
use Rattle.scm_calls.specs.declared.kinds.ReplyKind.{ReplyKind}
use Rattle.scm_calls.specs.declared.kinds.ReplyKind.TheVariants as kind
use Rattle.scm_calls.specs.Replies.{reply_values, kind_of, bytes_needed, Fits, odd_below, longest_shown, longest}
use Rattle.scm_bodies.specs.declared.bodies.Call.{Call}
use Rattle.scm_bodies.specs.Calls.{reply_kind}
use Rattle.scm_bodies.specs.Replies.{reply_bytes, bound_in}

-- ## A configuration

-- its numbers, its texts and the two numbers behind them
shown_ends : (a b c d e : ℕ) → end_of ((14 + 2 * a) ∷ (14 + 2 * b) ∷ (14 + 2 * c) ∷ (14 + 2 * d) ∷ (14 + 2 * e) ∷ []) 36 ≡ 114
    + 4 * (a / 2 + b / 2 + c / 2 + d / 2) + 2 * e
shown_ends a b c d e =
    let e1 : aligned (36 + (14 + 2 * a)) ≡ 52 + 4 * (a / 2) = omega arith in
    let e2 : aligned (52 + 4 * (a / 2) + (14 + 2 * b)) ≡ 68 + 4 * (a / 2 + b / 2) = omega arith in
    let e3 : aligned (68 + 4 * (a / 2 + b / 2) + (14 + 2 * c)) ≡ 84 + 4 * (a / 2 + b / 2 + c / 2) = omega arith in
    let e4 : aligned (84 + 4 * (a / 2 + b / 2 + c / 2) + (14 + 2 * d)) ≡ 100 + 4 * (a / 2 + b / 2 + c / 2 + d / 2) = omega arith in
    rw (e1, e2, e3, e4) (omega arith)

length_shown : (s : Shown) (needed code : ℕ)
    → length (reply_bytes (reply.Shown (Some s) needed code)) ≡ 124 + 4 * (length s.path / 2 + length s.group / 2 + length s.needs / 2
    + length s.account / 2 + length s.display / 2)
length_shown s needed code =
    omega (
      arith,
      length_body (reply_values (reply.Shown (Some s) needed code)),
      shown_ends (length s.path) (length s.group) (length s.needs) (length s.account) (length s.display),
    )

least : (b : Bool) (n : ℕ) → 44 ≤ n → 44 ≤ cond b 44 n
least true n le = omega arith
least false n le = le

-- five texts share the units that are left; a count and the even one below it take the same
shared : (a b c d e size : ℕ) → 36 + 2 * (a + 1) + 2 * (b + 1) + 2 * (c + 1) + 2 * (d + 1) + 2 * (e + 1) ≤ size → 124
    + 4 * (a / 2 + b / 2 + c / 2 + d / 2 + e / 2) ≤ longest_shown size
shared a b c d e size le =
    let units = (size - 36) / 2 in
    let enough : 5 + a + b + c + d + e ≤ units = omega (arith, le) in
    rw (le-ltb units 5 (omega (arith, enough))) (omega (arith, enough))

pub fits : (told : Reply) (size : ℕ) → Fits size told → length (reply_bytes told) ≤ longest (kind_of told) size
fits (reply.Shown None needed code) size h =
    omega (
      arith,
      length_body (reply_values (reply.Shown None needed code)),
      least (ltb ((size - 36) / 2) 5) (114 + 2 * odd_below ((size - 36) / 2)) (omega arith),
    )
fits (reply.Shown (Some s) needed code) size h =
    omega (
      arith,
      length_shown s needed code,
      shared (length s.path) (length s.group) (length s.needs) (length s.account)
          (length s.display) size h,
    )
fits (reply.LockState held None seconds needed code) size h = omega (
  arith,
  length_body (reply_values (reply.LockState held None seconds needed code)),
)
fits (reply.LockState held (Some owner) seconds needed code) size h = omega (
  arith,
  h,
  length_body (reply_values (reply.LockState held (Some owner) seconds needed code)),
)
fits (reply.Made None handle code) size h = omega (arith, length_body (reply_values (reply.Made None handle code)))
fits (reply.Made (Some tag) handle code) size h = omega (arith, length_body (reply_values (reply.Made (Some tag) handle code)))
fits (reply.Tag None code) size h = omega (arith, length_body (reply_values (reply.Tag None code)))
fits (reply.Tag (Some tag) code) size h = omega (arith, length_body (reply_values (reply.Tag (Some tag) code)))
fits (reply.Name name n code) size h = omega (arith, h, length_body (reply_values (reply.Name name n code)))
fits (reply.Code code) size h = omega (arith, length_body (reply_values (reply.Code code)))
fits (reply.Handle handle code) size h = omega (arith, length_body (reply_values (reply.Handle handle code)))
fits (reply.State status code) size h = omega (arith, length_body (reply_values (reply.State status code)))
fits (reply.Listing n bytes needed returned code) size h = omega (
  arith,
  h.is,
  length_body (reply_values (reply.Listing n bytes needed returned code)),
)
fits (reply.Page n bytes needed returned None code) size h = omega (
  arith,
  h.is,
  length_body (reply_values (reply.Page n bytes needed returned None code)),
)
fits (reply.Page n bytes needed returned (Some resume) code) size h = omega (
  arith,
  h.is,
  length_body (reply_values (reply.Page n bytes needed returned (Some resume) code)),
)
fits (reply.Bytes n bytes needed code) size h = omega (arith, h.is, length_body (reply_values (reply.Bytes n bytes needed code)))
fits (reply.Notice mask status None code) size h = omega (arith, length_body (reply_values (reply.Notice mask status None code)))
fits (reply.Notice mask status (Some name) code) size h = omega (
  arith,
  h,
  length_body (reply_values (reply.Notice mask status (Some name) code)),
)

-- ## Each bound is reached

abbrev Reaches : ReplyKind → ℕ → Type 0
Reaches told size = (r : Reply) × (kind_of r ≡ told) × Fits size r × (length (reply_bytes r) ≡ longest told size)

-- a configuration whose path takes all units that make its reply longer
widest : ℕ → Shown
widest size = record {
  kind = 0;
  start = 0;
  error = 0;
  path = replicate (odd_below ((size - 36) / 2) - 5) 65;
  group = [];
  tag = 0;
  needs = [];
  account = [];
  display = [];
}

wide : (size : ℕ) → 5 ≤ (size - 36) / 2 → bytes_needed (widest size) ≤ size
unfolding widest
wide size le = simp (length-replicate {A = ℕ}) (omega (arith, le))

length_widest : (size : ℕ) → 5 ≤ (size - 36) / 2 → length (reply_bytes (reply.Shown (Some (widest size)) 0 0)) ≡ 114
    + 2 * odd_below ((size - 36) / 2)
unfolding widest
length_widest size le =
    let n = odd_below ((size - 36) / 2) - 5 in
    omega (arith, le, length_shown (widest size) 0 0, length-replicate {A = ℕ} n 65)

shown_reached : (size : ℕ) → Reaches kind.Shown size
shown_reached size =
    let units = (size - 36) / 2 in
    elim (cases_Bool (ltb units 5)) [
      | inl few ↦ (reply.Shown None 0 0, refl, tt, rw few (length_body (reply_values (reply.Shown None 0 0))))
      | inr some ↦ let le : 5 ≤ units = ltb-false units 5 some in
          (reply.Shown (Some (widest size)) 0 0, refl, wide size le, rw some (length_widest size le))
    ]

name : List ℕ
name = replicate 256 65

length_name : length name ≡ 256
unfolding name
length_name = refl

pub reached : (told : ReplyKind) (size : ℕ) → Reaches told size
reached kind.Code size = (reply.Code 0, refl, tt, length_body (reply_values (reply.Code 0)))
reached kind.Handle size = (reply.Handle 0 0, refl, tt, length_body (reply_values (reply.Handle 0 0)))
reached kind.State size = (reply.State zero_status 0, refl, tt, length_body (reply_values (reply.State zero_status 0)))
reached kind.Made size = (reply.Made (Some 0) 0 0, refl, tt, length_body (reply_values (reply.Made (Some 0) 0 0)))
reached kind.Tag size = (reply.Tag (Some 0) 0, refl, tt, length_body (reply_values (reply.Tag (Some 0) 0)))
reached kind.Shown size = shown_reached size
reached kind.LockState size = (
  reply.LockState 0 (Some name) 0 0 0,
  refl,
  omega (arith, length_name),
  omega (arith, length_name, length_body (reply_values (reply.LockState 0 (Some name) 0 0 0))),
)
reached kind.Name size = (
  reply.Name name 0 0,
  refl,
  omega (arith, length_name),
  omega (arith, length_name, length_body (reply_values (reply.Name name 0 0))),
)
reached kind.Listing size = (
  reply.Listing size [] 0 0 0,
  refl,
  record { is = refl; whole = omega arith },
  omega (arith, length_body (reply_values (reply.Listing size [] 0 0 0))),
)
reached kind.Page size = (
  reply.Page size [] 0 0 (Some 0) 0,
  refl,
  record { is = refl; whole = omega arith },
  omega (arith, length_body (reply_values (reply.Page size [] 0 0 (Some 0) 0))),
)
reached kind.Bytes size = (
  reply.Bytes size [] 0 0,
  refl,
  record { is = refl; whole = omega arith },
  omega (arith, length_body (reply_values (reply.Bytes size [] 0 0))),
)
reached kind.Notice size = (
  reply.Notice 0 zero_process_status (Some name) 0,
  refl,
  omega (arith, length_name),
  omega (arith, length_name, length_body (reply_values (reply.Notice 0 zero_process_status (Some name) 0))),
)

-- the bound of a call's replies
pub bound_is : (asked : Option Call) (kind : ReplyKind) (size : ℕ) → option_map reply_kind asked ≡ Some kind
    → bound_in asked size ≡ longest kind size
bound_is None kind size e = absurd cc
bound_is (Some asked) kind size e = let is : reply_kind asked ≡ kind = cc in rw is refl

-- What the code of a control says.
use Rattle.std.proofs.Common.{ℕ, ◌≡◌, ◌==◌, ◌&&◌, ◌||◌, Bool, true, false, cond, Option, refl, eqb-true, arith}
use Rattle.std.specs.Prelude.{is_none, nat_le, nat_lt}
use Rattle.scm_model.specs.declared.flat.Status.{Status}
use Rattle.control_dispatch.specs.Judging.{control_of, does_not_accept, judge, lacks_right}

abbrev Code : Bool → Bool → Bool → Bool → Bool → Bool → Bool → Bool → ℕ
Code a b c d e f needed full = cond a 6 (cond b 87 (cond c 5 (cond d 1062
    (cond e 1061 (cond f 1052 (cond needed 1051 (cond full 1061 0)))))))

-- what a control knows that is taken
pub record IsTaken (granted : Option ℕ) (status : Status) (waiting limit : ℕ) : Type 0 where
  pub opened : is_none granted ≡ false
  pub runs : (status.state == 1) ≡ false
  pub few : nat_le limit waiting ≡ false

record IsClear (a d full : Bool) : Type 0 where
  opened : a ≡ false
  runs : d ≡ false
  few : full ≡ false

clear : (a b c d e f needed full : Bool) → Code a b c d e f needed full ≡ 0 → IsClear a d full
clear true b c d e f needed full h = absurd cc
clear false true c d e f needed full h = absurd cc
clear false false true d e f needed full h = absurd cc
clear false false false true e f needed full h = absurd cc
clear false false false false true f needed full h = absurd cc
clear false false false false false true needed full h = absurd cc
clear false false false false false false true full h = absurd cc
clear false false false false false false false true h = absurd cc
clear false false false false false false false false h = record { opened = refl; runs = refl; few = refl }

pub is_taken : (granted : Option ℕ) (control : ℕ) (status : Status) (active waiting limit : ℕ)
    → judge granted control status active waiting limit ≡ 0 → IsTaken granted status waiting limit
is_taken granted control status active waiting limit e =
    let is = clear (is_none granted) (is_none (control_of control)) (lacks_right granted (control_of control)) (status.state == 1)
    (status.state == 2 || status.state == 3)
    (does_not_accept status (control_of control)) (control == 1 && nat_lt 0 active) (nat_le limit waiting) e in
    record { opened = is.opened; runs = is.runs; few = is.few }

-- ## 1051

record IsNeeded (a b c d e f stop needed : Bool) : Type 0 where
  stops : stop ≡ true
  needs : needed ≡ true
  free : Code a b c d e f (stop && false) false ≡ 0

needed_by : (a b c d e f stop needed full : Bool) → Code a b c d e f (stop && needed) full ≡ 1051 → IsNeeded a b c d e f stop needed
needed_by true b c d e f stop needed full h = absurd (omega arith)
needed_by false true c d e f stop needed full h = absurd (omega arith)
needed_by false false true d e f stop needed full h = absurd (omega arith)
needed_by false false false true e f stop needed full h = absurd (omega arith)
needed_by false false false false true f stop needed full h = absurd (omega arith)
needed_by false false false false false true stop needed full h = absurd (omega arith)
needed_by false false false false false false true true full h = record { stops = refl; needs = refl; free = refl }
needed_by false false false false false false true false true h = absurd (omega arith)
needed_by false false false false false false true false false h = absurd (omega arith)
needed_by false false false false false false false needed true h = absurd (omega arith)
needed_by false false false false false false false needed false h = absurd (omega arith)

needed_so : (a b c d e f full : Bool) → Code a b c d e f false false ≡ 0 → Code a b c d e f true full ≡ 1051
needed_so true b c d e f full h = absurd cc
needed_so false true c d e f full h = absurd cc
needed_so false false true d e f full h = absurd cc
needed_so false false false true e f full h = absurd cc
needed_so false false false false true f full h = absurd cc
needed_so false false false false false true full h = absurd cc
needed_so false false false false false false full h = refl

-- a STOP that nothing else refuses, of a service that is needed
pub record IsHeld (granted : Option ℕ) (control : ℕ) (status : Status) (active : ℕ) : Type 0 where
  pub stop : control ≡ 1
  pub taken : judge granted control status 0 0 1 ≡ 0
  pub needed : nat_lt 0 active ≡ true

pub held : (granted : Option ℕ) (control : ℕ) (status : Status) (active waiting limit : ℕ)
    → judge granted control status active waiting limit ≡ 1051 → IsHeld granted control status active
held granted control status active waiting limit e =
    let is = needed_by (is_none granted) (is_none (control_of control)) (lacks_right granted (control_of control)) (status.state == 1)
    (status.state == 2 || status.state == 3)
    (does_not_accept status (control_of control)) (control == 1) (nat_lt 0 active) (nat_le limit waiting) e in
    record { stop = eqb-true control 1 is.stops; taken = is.free; needed = is.needs }

pub holds_up : (granted : Option ℕ) (control : ℕ) (status : Status) (active waiting limit : ℕ) → IsHeld granted control status active
    → judge granted control status active waiting limit ≡ 1051
holds_up granted control status active waiting limit is =
    rw (is.stop, is.needed) (needed_so (is_none granted) (is_none (control_of 1)) (lacks_right granted (control_of 1)) (status.state == 1)
    (status.state == 2 || status.state == 3)
    (does_not_accept status (control_of 1)) (nat_le limit waiting) (rw is.stop at is.taken))

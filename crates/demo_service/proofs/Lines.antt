-- A line that is read byte by byte.
use Rattle.std.proofs.Common.{arith, inl, inr, ℕ, ◌≡◌, ◌<◌, ◌≤◌, ◌⊎◌, Bool, true, false, List, [], ◌∷◌, ◌++◌, length, Option, Result, Ok}
use Rattle.std.proofs.Common.{Err, sym, ap, ◌∙◌, subst}
use Rattle.std.specs.Prelude.{IfOk, OnOk}
use Rattle.std.specs.Io.KnownBytes.{Appends}
use Rattle.std.proofs.lemmas.Bool.{cases_lt}
use Rattle.std.proofs.lemmas.List.{length-take, take-append-le, take_all}
use Rattle.child_link.specs.Cutting.{kept}
use Rattle.child_link.specs.Lines.{handed_on}
use Rattle.child_link.proofs.Kept.{kept_control}
use Rattle.demo_service.specs.declared.fault.DemoFault.{DemoFault}
use Rattle.demo_service.specs.Doing.{Hears, HearsOne, Point, ReadsLine, report_to, waits_on}

pub kept_short : (front : List ℕ) → length (kept front) ≤ 4096
kept_short front = omega (arith, length-take 4096 front)

more_kept : (front : List ℕ) (byte : ℕ) → (4096 < length front) ⊎ (length front ≤ 4096)
    → kept (kept front ++ byte ∷ []) ≡ kept (front ++ byte ∷ [])
more_kept front byte (inr few) = ap (λ f. kept (f ++ byte ∷ [])) (take_all 4096 front few)
more_kept front byte (inl many) =
    take-append-le 4096 (kept front) (byte ∷ []) (omega (arith, many, length-take 4096 front))
    ∙ take_all 4096 (kept front) (kept_short front)
    ∙ sym (take-append-le 4096 front (byte ∷ []) (omega (arith, many)))

-- what is kept of what is kept with a byte more
pub kept_more : (front : List ℕ) (byte : ℕ) → kept (kept front ++ byte ∷ []) ≡ kept (front ++ byte ∷ [])
kept_more front byte = more_kept front byte (cases_lt 4096 (length front))

heard_so : (on : Bool) (a : Point) (front : List ℕ) (b : Point) → Hears on a front b → HearsOne a on b
heard_so true a front b h = (front, h)
heard_so false a front b h = inl (front, h)

-- a line that was read is heard as what is kept of it is
pub heard : (on : Bool) (a b : Point) (line : List ℕ) (control : Option ℕ) → ReadsLine a.left b.left line true → control ≡ handed_on line
    → on ≡ waits_on control
    → Appends a.held b.held (report_to control) → HearsOne a on b
heard on a b line control reads is goes told =
    let same : handed_on line ≡ handed_on (reads.0 ++ 10 ∷ []) = ap handed_on reads.3 ∙ kept_control reads.0 in
    heard_so on a reads.0 b (record {
      line = reads.1;
      few = reads.4;
      read = reads.2;
      goes = sym (goes ∙ ap waits_on (is ∙ same));
      told = subst (λ c. Appends a.held b.held (report_to c)) (is ∙ same) told;
    })

-- the same where the answer may have failed
pub heard_if : (a b : Point) (line : List ℕ) (control : Option ℕ) (result : Result Bool DemoFault) → ReadsLine a.left b.left line true
    → control ≡ handed_on line
    → IfOk result (λ on. on ≡ waits_on control) → OnOk result (Appends a.held b.held (report_to control))
    → IfOk result (λ on. HearsOne a on b)
heard_if a b line control (Ok on) reads is goes told = heard on a b line control reads is goes told
heard_if a b line control (Err fault) reads is goes told = tt

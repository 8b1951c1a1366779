-- The line of a report that names its service.
use Rattle.std.proofs.Common.{ℕ, ◌≡◌, ◌≤◌, ◌+◌, arith, [], ◌∷◌, ◌++◌, map, ap, sym, length, drop}
use Rattle.std.proofs.lemmas.List.{append_assoc, length-append}
use Rattle.std.specs.Prelude.{codes, decimal}
use Rattle.std.specs.List.{join_with_byte}
use Rattle.scm_model.specs.declared.flat.Status.{Status}
use Rattle.scm_model.specs.Statuses.{status_numbers}
use Rattle.child_link.specs.Lines.{report_text}
use Rattle.demo_service.specs.Doing.{naming_line}

-- the line of a status alone has its first word
pub is_long : (s : Status) → 6 ≤ length (report_text s ++ 10 ∷ [])
is_long s =
    let rest = 32 ∷ (join_with_byte 32 (map decimal (status_numbers s)) ++ 10 ∷ []) in
    let e : length (report_text s ++ 10 ∷ []) ≡ 6 + length rest = length-append (codes "STATUS") rest in
    omega (arith, e)

-- the line is that of the status alone, with the service's number after the first word
pub naming_is : (service : ℕ) (s : Status)
    → (codes "STATUS " ++ decimal service) ++ drop 6 (report_text s ++ 10 ∷ []) ≡ naming_line service s
naming_is service s =
    ap (λ rest. codes "STATUS " ++ rest)
    (sym (append_assoc (decimal service) (32 ∷ join_with_byte 32 (map decimal (status_numbers s))) (10 ∷ [])))

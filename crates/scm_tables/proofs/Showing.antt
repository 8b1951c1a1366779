-- Services that a text shows, by the numbers under it.
use Rattle.std.proofs.Common.{ℕ, ◌≡◌, ◌∙◌, ◌==◌, ◌&&◌, ◌||◌, not, Bool, true, false, cond, List, [], ◌∷◌, Some, filter, find, is_some, map}
use Rattle.std.proofs.Common.{refl, sym, ap}
use Rattle.std.specs.Prelude.{option_map}
use Rattle.std.specs.List.{list_any}
use Rattle.scm_model.specs.declared.flat.Service.{Service}
use Rattle.record_table.specs.Recorded.{first_with, number_of, numbers_with}

-- whether a service passes one test or the other
pub any_or : (p q : Service → Bool) (rows : List Service) → list_any (λ (row : Service). p row || q row) rows ≡ (list_any p rows
    || list_any q rows)
any_or p q [] = refl
any_or p q (row ∷ rows) =
    ap (λ rest. (p row || q row) || rest) (any_or p q rows) ∙ swap (p row) (q row) (list_any p rows) (list_any q rows)
  where
    swap : (a b c d : Bool) → ((a || b) || (c || d)) ≡ ((a || c) || (b || d))
    swap true b c d = refl
    swap false true true d = refl
    swap false true false d = refl
    swap false false c d = refl

pub some_passes : (p : Service → Bool) (rows : List Service) → is_some (first_with p rows) ≡ list_any p rows
some_passes p [] = refl
some_passes p (row ∷ rows) =
    elim (p row) as (λ b. is_some (option_map number_of (cond b (Some row) (find p rows))) ≡ (b || list_any p rows)) [
      | true ↦ refl
      | false ↦ some_passes p rows
    ]

-- a number other than one under a text is that of another service
pub other_passes : (n : ℕ) (p : Service → Bool) (rows : List Service) →
    list_any (λ other. not (other == n)) (numbers_with p rows) ≡ list_any (λ (row : Service). not (row.number == n) && p row) rows
other_passes n p [] = refl
other_passes n p (row ∷ rows) =
    elim (p row) as (λ b. list_any (λ other. not (other == n)) (map number_of (cond b (row ∷ filter p rows) (filter p rows))) ≡
    ((not (row.number == n) && b) || list_any (λ (r : Service). not (r.number == n) && p r) rows)) [
      | true ↦ elim (row.number == n) as (λ b. (not b || list_any (λ other. not (other == n)) (numbers_with p rows)) ≡ ((not b && true)
          || list_any (λ (r : Service). not (r.number == n) && p r) rows)) [
            | true ↦ other_passes n p rows
            | false ↦ refl
          ]
      | false ↦ elim (row.number == n) as (λ b. list_any (λ other. not (other == n)) (numbers_with p rows) ≡ ((not b && false)
          || list_any (λ (r : Service). not (r.number == n) && p r) rows)) [
            | true ↦ other_passes n p rows
            | false ↦ other_passes n p rows
          ]
    ]

pub other_or : (n : ℕ) (p q : Service → Bool) (rows : List Service)
    → list_any (λ (row : Service). not (row.number == n) && (p row || q row)) rows ≡
    (list_any (λ other. not (other == n)) (numbers_with p rows) || list_any (λ other. not (other == n)) (numbers_with q rows))
other_or n p q rows =
    split rows ∙ any_or (λ (row : Service). not (row.number == n) && p row) (λ (row : Service). not (row.number == n) && q row) rows
    ∙ ap (λ b. b || list_any (λ (row : Service). not (row.number == n) && q row) rows) (sym (other_passes n p rows))
    ∙ ap (λ b. list_any (λ other. not (other == n)) (numbers_with p rows) || b) (sym (other_passes n q rows))
  where
    apart : (a b c : Bool) → (a && (b || c)) ≡ ((a && b) || (a && c))
    apart true b c = refl
    apart false b c = refl

    split : (rs : List Service) → list_any (λ (row : Service). not (row.number == n) && (p row || q row)) rs ≡ list_any
        (λ (row : Service). (not (row.number == n) && p row) || (not (row.number == n) && q row)) rs
    split [] = refl
    split (row ∷ rs) = ap (λ b. b || list_any (λ (r : Service). not (r.number == n) && (p r || q r)) rs)
        (apart (not (row.number == n)) (p row) (q row)) ∙ ap (λ b. ((not (row.number == n) && p row) || (not (row.number == n) && q row))
        || b) (split rs)

-- an answer that one of two tests gives
pub or_then : (r a b c : Bool) → r ≡ a → r ≡ true → c ≡ (a || b) → r ≡ c
or_then r a b c first is both = is ∙ sym (both ∙ ap (λ x. x || b) (sym first ∙ is))

pub or_else : (r s a b c : Bool) → r ≡ a → r ≡ false → s ≡ b → c ≡ (a || b) → s ≡ c
or_else r s a b c first isnt second both = sym (both ∙ ap (λ x. x || b) (sym first ∙ isnt) ∙ sym second)

-- What becomes due, and when.
use Rattle.std.specs.Prelude.{ℕ, Bool, false, not, ◌||◌, ◌&&◌, ◌==◌, ◌+◌, ◌++◌, nat_le, nat_lt, List, [], ◌∷◌, Option, None, Some, filter}
use Rattle.std.specs.Prelude.{if◌then◌else◌}
use Rattle.scm_model.specs.declared.flat.Due.{Due}
use Rattle.scm_model.specs.declared.flat.DueKind.{DueKind}
use Rattle.scm_model.specs.declared.flat.DueKind.TheVariants as dues
use Rattle.scm_model.specs.declared.flat.Flat.{Flat}

-- ## A row that is put in

-- whether a row that becomes due is of a service
abbrev pub is_due_of : ℕ → DueKind → Bool
is_due_of service (dues.Deadline plan) = false
is_due_of service (dues.Start number) = number == service
is_due_of service (dues.Command number) = number == service
is_due_of service (dues.Reboot number) = number == service

-- the rows that are of no service or of another one
abbrev pub of_others : ℕ → List Due → List Due
of_others service rows = filter (λ (due : Due). not (is_due_of service due.kind)) rows

-- the rows that stay when one of this kind is put in: an earlier one of its service leaves
abbrev pub beside : DueKind → List Due → List Due
beside (dues.Deadline plan) rows = rows
beside (dues.Start service) rows = of_others service rows
beside (dues.Command service) rows = of_others service rows
beside (dues.Reboot service) rows = of_others service rows

-- a row more, which has the next number
abbrev pub with_due : Flat → ℕ → DueKind → Flat
with_due f moment kind = record f {
  dues = beside kind f.dues ++ record { moment = moment; number = f.next.due; kind = kind } ∷ [];
  next = record f.next { due = f.next.due + 1 };
}

-- ## The row that is due first

abbrev pub is_due : ℕ → Due → Bool
is_due moment due = nat_le due.moment moment

-- whether a row becomes due before another: at an earlier moment, or at the same one with a lower number
abbrev pub comes_before : Due → Due → Bool
comes_before a b = nat_lt a.moment b.moment || a.moment == b.moment && nat_lt a.number b.number

abbrev pub earlier : Due → Option Due → Due
earlier row None = row
earlier row (Some other) = if comes_before other row then other else row

-- the row that becomes due before the others
abbrev pub first_due : List Due → Option Due
first_due [] = None
first_due (row ∷ rows) = Some (earlier row (first_due rows))

-- the row that is due first
abbrev pub next_due : Flat → Option Due
next_due f = first_due (filter (is_due f.moment) f.dues)

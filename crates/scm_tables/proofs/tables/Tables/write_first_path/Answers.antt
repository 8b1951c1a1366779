use Rattle.std.proofs.Common.{◌≡◌, ◌∙◌, ap, sym, subst, ℕ, List, []}
use Rattle.scm_rules.specs.Launches.{line_of}
use Rattle.scm_tables.specs.Inside.{tabled}
use Rattle.scm_tables.specs.Lines.{first_line}
use Rattle.scm_tables.specs.Listed.{wanted_of}
use Rattle.scm_tables.specs.Tabled.{Tabled}
use Rattle.scm_tables.proofs.Wording.{first_lined, none_lined}
use Rattle.scm_tables.proofs.tables.Tables.write_first_path.Goals as goal

pub returns-in-Some : goal.returns-in-Some
returns-in-Some c =
    let row = c.in-Some.row.now in
    let line = subst (λ (t : Tabled). first_line t.flat t.flat.wanted ≡ line_of t.flat (wanted_of row)) c.self.view_is
    (first_lined (tabled c.self.inside).flat c.self.inside.processes.wanted (wanted_of row) (sym c.in-Some.ensures)) in
    c.write_line.ensures ∙ ap (λ (l : List ℕ × List (List ℕ)). record { units = l.0; room = c.args.path.now.room }) (sym line)

pub returns-in-None : goal.returns-in-None
returns-in-None c =
    let line = subst (λ (t : Tabled). first_line t.flat t.flat.wanted ≡ ([], [])) c.self.view_is
    (none_lined (tabled c.self.inside).flat c.self.inside.processes.wanted (sym c.in-None.ensures)) in
    c.set-in-None.ensures ∙ ap (λ (units : List ℕ). record { units = units; room = c.args.path.now.room }) c.new.ensures
    ∙ ap (λ (l : List ℕ × List (List ℕ)). record { units = l.0; room = c.args.path.now.room }) (sym line)

-- A line that a shared process obeys.
use Rattle.std.proofs.Common.{ℕ, ◌≡◌, true, List, Option, ap, ◌∙◌, subst}
use Rattle.std.specs.Io.KnownBytes.{Appends}
use Rattle.scm_model.specs.declared.flat.Order.{Order}
use Rattle.child_link.specs.Cutting.{kept_line}
use Rattle.child_link.specs.Lines.{ordered}
use Rattle.demo_service.specs.Doing.{ObeysOne, ReadsLine, SharedPoint, obeyed}

-- a line that was read is obeyed as what is kept of it
pub obeyed_line : (a b : SharedPoint) (line : List ℕ) (order : Option Order) → ReadsLine a.at.left b.at.left line true
    → order ≡ ordered line
    → b.running ≡ (obeyed a.running order).running → Appends a.at.held b.at.held (obeyed a.running order).told → ObeysOne a true b
obeyed_line a b line order reads is runs told =
    let same : order ≡ ordered (kept_line reads.0) = is ∙ ap ordered reads.3 in (
      reads.0,
      record {
        line = reads.1;
        few = reads.4;
        read = reads.2;
        runs = runs ∙ ap (λ (o : Option Order). (obeyed a.running o).running) same;
        told = subst (λ (o : Option Order). Appends a.at.held b.at.held (obeyed a.running o).told) same told;
      },
    )

-- A program that wears out.
use Rattle.std.proofs.Common.{ℕ, ◌<◌, List, length, suc, take, drop, get_or}
use Rattle.std.specs.List.{FoldsTo}
use Rattle.std.proofs.Math.Seq.{split_at}
use Rattle.demo_service.specs.Doing.{Does, Point, WearsAt, WearsIn}

-- at a place of the texts
pub wears_there : (a : Point) (texts : List (List ℕ)) (i : ℕ) (d : List ℕ) (m b : Point) → i < length texts
    → FoldsTo Does a (take i texts) m
    → WearsAt m (get_or texts i d) b → WearsIn a texts b
wears_there a texts i d m b low does wears =
    record {
      front = take i texts;
      text = get_or texts i d;
      rest = drop (suc i) texts;
      are = split_at texts i d low;
      mid = m;
      does = does;
      wears = wears;
    }

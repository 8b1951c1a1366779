use Rattle.std.proofs.Common.{◌≡◌, ◌≤◌, take}
use Rattle.journal_disk.specs.Calls.{history}
use Rattle.journal_disk.specs.Past.{now_of}
use Rattle.journal_disk.specs.Tears.{image_of, open_writes}
use Rattle.journal_disk.proofs.images.go_through.Given as goal

abbrev pub invariant-loop-taken : goal.invariant-loop-taken
invariant-loop-taken l = record {
  image : l.image ≡ image_of l.tears l.fn.held (history (take l.taken-index l.calls));
  held : l.held ≡ now_of l.fn.held (history (take l.taken-index l.calls));
  opened : l.writes ≡ open_writes (history (take l.taken-index l.calls));
  bound : l.writes ≤ l.taken-index;
}

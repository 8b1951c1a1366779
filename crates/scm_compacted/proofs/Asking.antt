-- What was asked for.
use Rattle.std.proofs.Common.{ℕ, List, Option, Err}
use Rattle.outside.specs.Asked.{Paths}
use Rattle.record_journal.specs.Opening.{AsksAt}
use Rattle.record_journal.specs.declared.opening.JournalFault.{JournalFault}
use Rattle.record_journal.specs.declared.opening.JournalFault.TheVariants as faults

-- a fault that is handed on says the same of it
pub asks_still : (T U : Type 0) (path : Option (List ℕ)) (old now : Paths) (fault : JournalFault) → AsksAt {T = T} path old now (Err fault)
    → AsksAt {T = U} path old now (Err fault)
asks_still T U path old now (faults.Damaged place) asks = asks
asks_still T U path old now faults.OutOfMemory asks = asks
asks_still T U path old now faults.Failed asks = asks

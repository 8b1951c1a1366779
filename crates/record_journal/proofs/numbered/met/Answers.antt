use Rattle.record_journal.proofs.Rows.{members_are, named_are}
use Rattle.record_journal.proofs.numbered.met.Goals as goal

pub returns-in-Service : goal.returns-in-Service
returns-in-Service c =
    rw c.in-Service.is (named_are c.args.table.now.services c.in-Service.name c.named.result.now c.len.ensures.rising
    c.named.ensures.numbers)

pub returns-in-Group : goal.returns-in-Group
returns-in-Group c =
    rw c.in-Group.is (members_are c.args.table.now.services c.in-Group.group c.members.result.now c.len.ensures.rising
    c.members.ensures.numbers)

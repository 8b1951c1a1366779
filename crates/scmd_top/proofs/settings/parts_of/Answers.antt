use Rattle.scmd_top.proofs.Options.{parts_of}
use Rattle.scmd_top.proofs.settings.parts_of.Goals as goal

pub returns : goal.returns
returns c = parts_of c.args.word.now c.split_once.result c.split_once.ensures.cases

use Rattle.process_runner.proofs.FirstWord.{words_begin}
use Rattle.process_runner.proofs.commands.paths_name_programs.Goals as goal

pub returns : goal.returns
returns c = words_begin

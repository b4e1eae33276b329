use Rattle.flow_commands.proofs.Gives.{each_start_gives_one}
use Rattle.flow_commands.proofs.laws.each_start_gives_one.Goals as goal

pub returns : goal.returns
returns c = each_start_gives_one

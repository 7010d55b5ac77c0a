use Rattle.std.proofs.Common.{rules}
use Rattle.machine.proofs.Moves.{moved_more, moved_none}
use Rattle.machine.proofs.machine.slots.move_args.Goals as goal

pub returns-in_err-v : goal.returns-in_err-v
returns-in_err-v g c = search (rules, moved_none)

pub loop-offset-preserved : goal.loop-offset-preserved
loop-offset-preserved g c = search (rules, moved_more)

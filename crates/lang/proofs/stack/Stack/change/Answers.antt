use Rattle.lang.proofs.Held.{take_of_set}
use Rattle.lang.proofs.stack.Stack.change.Goals as goal

pub returns-then-i-self-clause-held : goal.returns-then-i-self-clause-held
returns-then-i-self-clause-held g c = take_of_set c.args.self.now.used c.args.i c.args.self.now.cells.now c.args.x

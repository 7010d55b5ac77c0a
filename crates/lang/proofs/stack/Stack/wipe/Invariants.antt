use Rattle.std.proofs.Common.{◌≡◌, take, replicate}
use Rattle.lang.proofs.stack.Stack.wipe.Given as goal

abbrev pub invariant-loop-cell : goal.invariant-loop-cell
invariant-loop-cell g l = take l.cell-index l.cell-items ≡ replicate l.cell-index l.x

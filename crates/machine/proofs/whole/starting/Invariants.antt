use Rattle.std.proofs.Common.{◌≡◌, length, take}
use Rattle.machine.proofs.Endings.{values_of}
use Rattle.machine.proofs.whole.starting.Given as goal

abbrev pub invariant-loop-i : goal.invariant-loop-i
invariant-loop-i l = (length l.table ≡ 32) × (take l.i l.table ≡ take l.i (values_of l.entry-items))

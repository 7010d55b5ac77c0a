use Rattle.std.proofs.Common.{◌≡◌, drop}
use Rattle.reader.specs.Numbers.{decimal}
use Rattle.reader.proofs.number.value.Given as goal

abbrev pub invariant-loop-d : goal.invariant-loop-d
invariant-loop-d l = decimal l.sum (drop l.d-index l.digits) ≡ decimal 0 l.digits

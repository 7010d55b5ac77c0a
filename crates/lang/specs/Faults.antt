-- The number of each fault.
use Rattle.std.specs.Prelude.{ℕ}
use Rattle.lang.specs.declared.fault.Fault.{Fault}
use Rattle.lang.specs.declared.fault.Fault.TheVariants.{Kind, Range, Frames, Slots, Values, Steps}

abbrev pub number : Fault → ℕ
number Kind = 21
number Range = 22
number Frames = 23
number Slots = 24
number Values = 25
number Steps = 26

use Rattle.std.proofs.Common.{◌≡◌, List}
use Rattle.lang.specs.declared.sheet.Entry.{Entry}
use Rattle.lang.specs.Sheets.{entries_of}
use Rattle.meaning.specs.Runs.{sheet_frames}
use Rattle.machine.specs.Shows.{Ready}
use Rattle.machine.specs.Settles.{Kin}
use Rattle.machine.proofs.Endings.{mixed}
use Rattle.machine.proofs.whole.take_over.Given as goal

-- the entries below i are the new ones
abbrev pub invariant-loop-i : goal.invariant-loop-i
invariant-loop-i g l =
    Ready g.F.ReadFrames.sound l.machine → (fs : List Entry) → Kin (entries_of l.initial.sheet) fs → g.F.ReadFrames.frames l.machine.frames ≡ sheet_frames fs
    → entries_of l.sheet ≡ mixed l.i fs (entries_of l.initial.sheet)

-- How a sheet's entries settle at the end of a run.
use Rattle.std.specs.Prelude.{◌≡◌, List, [], ◌∷◌}
use Rattle.lang.specs.declared.sheet.Entry.{Entry}
use Rattle.lang.specs.Sheets.{with_value}
use Rattle.frames.specs.Frames.{Frames}
use Rattle.meaning.specs.Runs.{sheet_frames}
use Rattle.machine.specs.declared.outcome.Outcome.{Outcome}
use Rattle.machine.specs.declared.outcome.Outcome.TheVariants as outcome

-- the same names and marks, in the same order
abbrev pub Kin : List Entry → List Entry → Type 0
Kin [] [] = Unit {0}
Kin [] (f ∷ fs) = ⊥
Kin (e ∷ es) [] = ⊥
Kin (e ∷ es) (f ∷ fs) = (with_value e f.value ≡ f) × Kin es fs

-- the entries es became fs: if the frames are those of entries of the same names and marks, fs are these
abbrev pub TakenOver : Frames → List Entry → List Entry → Type 0
TakenOver fr es fs = (gs : List Entry) → Kin es gs → fr ≡ sheet_frames gs → fs ≡ gs

-- done takes over what the frames hold, and nothing else changes an entry
abbrev pub Settled : Outcome → Frames → List Entry → List Entry → Type 0
Settled outcome.Paused fr es fs = fs ≡ es
Settled outcome.Done fr es fs = TakenOver fr es fs
Settled (outcome.Fault f p) fr es fs = fs ≡ es
Settled outcome.Stuck fr es fs = fs ≡ es

-- Whole runs of a rule over a sheet.
use Rattle.std.specs.Prelude.{ℕ, suc, ◌+◌, List, [], ◌∷◌, map, length, None}
use Rattle.lang.specs.declared.value.Value.{Value}
use Rattle.lang.specs.Values.{slot_of}
use Rattle.lang.specs.declared.fault.Fault.{Fault}
use Rattle.lang.specs.declared.sheet.Mark.TheVariants.{Given, Kept}
use Rattle.lang.specs.declared.sheet.Entry.{Entry}
use Rattle.frames.specs.Frames.{Frames, none, ◌▷◌}
use Rattle.meaning.specs.Tree.{Place, Command}
use Rattle.meaning.specs.Limits.{most_steps}
use Rattle.meaning.specs.Machine.{Machine}
use Rattle.meaning.specs.Meaning.{Answer, ok, fault, a_value, a_location, Bound, Store, value_at, runs}

-- the sheet's frame: a given entry is a value, a kept one a location, from l on
abbrev pub sheet_bound : ℕ → List Entry → Bound
sheet_bound l [] = []
sheet_bound l (e ∷ es) = elim e.mark [ Given ↦ (e.name, a_value e.value) ∷ sheet_bound l es | Kept ↦ (e.name, a_location l) ∷ sheet_bound (suc l) es ]

abbrev pub sheet_store : List Entry → Store
sheet_store [] = []
sheet_store (e ∷ es) = elim e.mark [ Given ↦ sheet_store es | Kept ↦ e.value ∷ sheet_store es ]

-- the entries, with the values that a store has for the kept ones
abbrev pub entry : Entry → Value → Entry
entry e v = record { name = e.name; mark = e.mark; value = v }

abbrev pub entries_after : ℕ → List Entry → Store → List Entry
entries_after l [] st = []
entries_after l (e ∷ es) st = elim e.mark [ Given ↦ e ∷ entries_after l es st | Kept ↦ entry e (value_at st l) ∷ entries_after (suc l) es st ]

-- how a run ends: done, with the entries, or a fault with its place
pub data Outcome : Type 0 where
  done : List Entry → Outcome
  faulty : Fault → Place → Outcome

pub record Ending : Type 0 where
  pub outcome : Outcome
  pub steps : ℕ

abbrev pub ending : List Entry → Answer Store → Ending
ending es (ok st s) = record { outcome = done (entries_after 0 es st); steps = s }
ending es (fault f p s) = record { outcome = faulty f p; steps = s }

-- the run of a rule from the sheet's frame; more than a million calls and turns no run makes
abbrev pub ran : List Entry → Command → Answer Store
ran es c = runs (most_steps + 1) c (sheet_bound 0 es ∷ []) (sheet_store es) (record { frames = 1; slots = length es; waiting = 0 }) 0

-- the named meaning of a rule over a sheet
abbrev pub meaning : List Entry → Command → Ending
meaning es c = ending es (ran es c)

-- the first frame: the entries, by number
abbrev pub sheet_frames : List Entry → Frames
sheet_frames es = none ▷ record { slots = map (λ e. slot_of e.value) es; parent = None }

-- the machine as a run begins
abbrev pub start : List Entry → Machine
start es = record { at = 0; values = []; returns = []; frames = sheet_frames es; steps = 0 }

-- A whole run over a sheet does what the rule's named meaning says.
use Rattle.std.specs.Prelude.{◌≡◌, List, [], Ok, Result}
use Rattle.lang.specs.declared.code.Code.{Code}
use Rattle.lang.specs.declared.refusal.Refusal.{Refusal}
use Rattle.lang.specs.declared.sheet.Entry.{Entry}
use Rattle.frames.specs.Frames.{Frames, none}
use Rattle.meaning.specs.Tree.{Command}
use Rattle.meaning.specs.Violations.{violations}
use Rattle.meaning.specs.Translation.{translated}
use Rattle.meaning.specs.Runs.{Outcome as End, done, faulty, Ending, meaning}
use Rattle.machine.specs.declared.outcome.Outcome.{Outcome}
use Rattle.machine.specs.declared.outcome.Outcome.TheVariants as outcome
use Rattle.machine.specs.declared.outcome.Ran.{Ran}
use Rattle.machine.specs.declared.machine.Machine.{Machine}
use Rattle.machine.specs.Shows.{Ready}
use Rattle.machine.specs.Runs.{Holds}

-- a meaning's outcome as the machine answers it: never paused, never stuck
abbrev pub outcome_of : End → Outcome
outcome_of (done fs) = outcome.Done
outcome_of (faulty f p) = outcome.Fault f p

-- with the meaning's steps
abbrev pub ran_of : Ending → Ran
ran_of e = record { outcome = outcome_of e.outcome; steps = e.steps }

-- done takes over the meaning's entries, and a fault leaves them as they were
abbrev pub entries_left : List Entry → End → List Entry
entries_left es (done fs) = fs
entries_left es (faulty f p) = es

-- a call over the entries es answered r and left the entries fs and the machine b, as the meaning e says
pub record Meant {F : Type 0} (sound : F → Type 0) (frames : F → Frames) (e : Ending) (es fs : List Entry) (b : Machine F) (r : Result Ran Refusal) : Type 0 where
  pub answer : r ≡ Ok (ran_of e)
  pub entries : fs ≡ entries_left es e.outcome
  pub ready : Ready sound b
  pub empty : frames b.frames ≡ none

-- For every rule without violations over these entries: if the machine was ready and the code is the rule's, the call did what the rule means.
abbrev pub Means : {F : Type 0} → (F → Type 0) → (F → Frames) → Code → List Entry → List Entry → Machine F → Machine F → Result Ran Refusal → Type 0
Means sound frames c es fs a b r = (t : Command) → violations es t ≡ [] → Holds c (translated es t) → Ready sound a → Meant sound frames (meaning es t) es fs b r

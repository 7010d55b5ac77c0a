-- How a machine in memory shows the machine on paper.
use Rattle.std.specs.Prelude.{◌≡◌, ℕ, ◌+◌, ◌<◌, ◌≤◌, Bool, true, cond, List, [], ◌∷◌, map, length, Some, None, Ok, Err, Option, Result, nat_lt}
use Rattle.lang.specs.declared.value.Value.{Value}
use Rattle.lang.specs.declared.stack.Stack.{Stack}
use Rattle.lang.specs.declared.value.Slot.{Slot}
use Rattle.lang.specs.declared.refusal.Refusal.{Refusal}
use Rattle.lang.specs.Values.{slot_of, value_in}
use Rattle.lang.specs.Stacks.{held, items, room}
use Rattle.frames.specs.Frames.{Frames, none, ◌▷◌}
use Rattle.meaning.specs.Tree.{Place}
use Rattle.meaning.specs.Limits.{most_values, most_returns}
use Rattle.meaning.specs.Operators.{Worked}
use Rattle.meaning.specs.Machine.{Machine as State, Next, stop, stuck, on}
use Rattle.machine.specs.declared.outcome.Halt.{Halt}
use Rattle.machine.specs.declared.outcome.Halt.TheVariants as halt
use Rattle.machine.specs.declared.machine.Machine.{Machine}

-- the machine on paper that a machine in memory shows, over what its frame memory means
abbrev pub seen : {F : Type 0} → (F → Frames) → Machine F → State
seen frames m = record { at = m.at; values = items m.values; returns = items m.returns; frames = frames m.frames; steps = m.steps }

-- there is room for every waiting value and return position, and the frame memory is sound
pub record Ready {F : Type 0} (sound : F → Type 0) (m : Machine F) : Type 0 where
  pub value_room : most_values ≤ room m.values
  pub return_room : most_returns ≤ room m.returns
  pub well : sound m.frames

-- the same with the machine at position i
abbrev pub seen_at : {F : Type 0} → ℕ → (F → Frames) → Machine F → State
seen_at i frames m = record { at = i; values = items m.values; returns = items m.returns; frames = frames m.frames; steps = m.steps }

-- how an instruction at place p that leads nowhere ends a run
abbrev pub halted : Halt → Place → State → Next
halted (halt.Fault f) p m = stop f p m.steps
halted halt.Stuck p m = stuck

-- what an instruction at place p led to: on at a position, or nowhere
abbrev pub acted : Result ℕ Halt → Place → State → Next
acted (Ok i) p m = on i m.values m
acted (Err h) p m = halted h p m

-- a machine that was ready did, at position i, what the machine on paper does by n, at whichever place, and counted nothing
abbrev pub Did : {F : Type 0} → (F → Type 0) → (F → Frames) → ℕ → Machine F → Machine F → Result ℕ Halt → (Place → State → Next) → Type 0
Did sound frames i a b r n = (b.steps ≡ a.steps) × (Ready sound a → Ready sound b × ((p : Place) → acted r p (seen frames b) ≡ n p (seen_at i frames a)))

-- whatever a call at these operands answers by post is what f says
abbrev pub ComputesOne : (Value → Worked → Type 0) → (Value → Worked) → Type 0
ComputesOne post f = (v : Value) (r : Worked) → post v r → r ≡ f v

abbrev pub ComputesTwo : (Value → Value → Worked → Type 0) → (Value → Value → Worked) → Type 0
ComputesTwo post f = (u v : Value) (r : Worked) → post u v r → r ≡ f u v

-- a step that goes on is counted, and no step is taken back
abbrev pub Counted : Result ℕ Halt → ℕ → ℕ → Type 0
Counted (Ok i) s t = t ≡ s + 1
Counted (Err (halt.Fault f)) s t = (s ≤ t) × (t ≤ s + 1)
Counted (Err halt.Stuck) s t = s ≤ t

-- the two newest values, the older first
abbrev pub Took : Option (Value × Value) → Stack Value → Stack Value → Type 0
Took (Some w) a b = (items a ≡ w.1 ∷ w.0 ∷ items b) × (length (held b) < room b) × (room b ≡ room a)
Took None a b = (room b ≡ room a) × (items b ≡ []) × (length (items a) < 2)

-- what is left of the waiting values, and the frames, where there were enough
abbrev pub moved_by : Option (Unit {0}) → List Value → Frames → Option (List Value × Frames)
moved_by (Some u) vs fs = Some (vs, fs)
moved_by None vs fs = None

-- memory for fewer than 512 waiting values or 256 return positions
abbrev pub short : ℕ → ℕ → Bool
short v r = cond (nat_lt v most_values) true (nat_lt r most_returns)

-- before the first step
abbrev pub idle : Frames → State
idle fs = record { at = 0; values = []; returns = []; frames = fs; steps = 0 }

-- one frame, which holds the starting values
abbrev pub start_frames : List Value → Frames
start_frames vs = none ▷ record { slots = map slot_of vs; parent = None }

-- the machine as a run begins, if the frame was not refused
abbrev pub Begun : Result (Unit {0}) Refusal → List Value → State → Type 0
Begun (Ok u) vs m = m ≡ idle (start_frames vs)
Begun (Err e) vs m = Unit {0}

-- the value in a slot that was asked for
abbrev pub value_got : Result Slot Refusal → Option Value
value_got (Err e) = None
value_got (Ok s) = value_in s

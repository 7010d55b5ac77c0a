-- The code of a rule does what the rule's named meaning says: the theorems on runs.
use Rattle.std.specs.Prelude.{◌≡◌, ℕ, ◌+◌, ◌*◌, ◌<◌, ◌≤◌, ◌⊎◌, List, [], ◌∷◌, length, Some, Ok, Err, Option, Result, ◌≢◌}
use Rattle.std.specs.List.{slice_get}
use Rattle.lang.specs.declared.name.Name.{Name}
use Rattle.lang.specs.declared.value.Slot.{Slot}
use Rattle.lang.specs.declared.value.Slot.TheVariants.{Unset}
use Rattle.lang.specs.declared.refusal.Refusal.{Refusal}
use Rattle.lang.specs.declared.refusal.Refusal.TheVariants.{TooManyFrames, TooManySlots}
use Rattle.lang.specs.declared.fault.Fault.{Fault}
use Rattle.lang.specs.declared.fault.Fault.TheVariants.{Kind, Range, Frames as FramesFault, Slots, Values, Steps}
use Rattle.lang.specs.declared.sheet.Entry.{Entry}
use Rattle.lang.specs.declared.instruction.Instruction.{Instruction}
use Rattle.lang.specs.declared.instruction.Instruction.TheVariants.{Push, Load, Minus, Not, Add, Sub, Mul, Equal, Less, And, Or, Pick, Fork, Skip, Leave, Again, Open, Fill, Shut, Fun, Proc, Call, Do, Back, Store as Storing, Let}
use Rattle.frames.specs.Frames.{Frames, none, ◌▷◌, walk, count, total, got, opened, entered, left, written}
use Rattle.meaning.specs.Tree.{Place, Command, nodes_c}
use Rattle.meaning.specs.Limits.{most_nested, most_steps, most_frames, most_slots, most_values, most_returns}
use Rattle.meaning.specs.Scopes.{Scope, Use, find}
use Rattle.meaning.specs.Violations.{violations}
use Rattle.meaning.specs.Translation.{Code, translated}
use Rattle.meaning.specs.Machine.{Machine, Next, go, stop, ended, stuck, after, goes}
use Rattle.meaning.specs.Meaning.{Meant, Env, Store, lookup}
use Rattle.meaning.specs.Runs.{Outcome, done, faulty, Ending, meaning, start, sheet_frames}
use Rattle.meaning.specs.Uses.{used, pair_of}
use Rattle.meaning.specs.Pairs.{scope_of, Stand, Agree}

-- At which step of the machine a fault shows, when t steps are done: the faulting step is done and counted, but for fault 26.
abbrev pub fault_at : Fault → ℕ → ℕ
fault_at Kind t = t
fault_at Range t = t
fault_at FramesFault t = t
fault_at Slots t = t
fault_at Values t = t
fault_at Steps t = t + 1

-- at which step of the machine the end of a run shows; after the last instruction it is the one that finds no more code
abbrev pub end_at : Outcome → ℕ → ℕ
end_at (done es) t = t + 1
end_at (faulty f p) t = fault_at f t

-- the machine's answer at the end of a run
abbrev pub answer : Outcome → ℕ → Next
answer (done es) t = ended
answer (faulty f p) t = stop f p t

-- the machine after the last instruction: the entries stand in the sheet's frame, nothing waits
abbrev pub finished : Code → List Entry → ℕ → Machine
finished code es t = record { at = length code; values = []; returns = []; frames = sheet_frames es; steps = t }

-- after done the entries are those of the meaning
abbrev pub Leaves : Code → List Entry → Outcome → ℕ → Type 0
Leaves code es (done fs) t = goes code t (start es) ≡ go (finished code fs t)
Leaves code es (faulty f p) t = Unit {0}

-- The machine on the code, from the entries' frame, ends as the meaning does, at the same step, and not before.
pub record RunsAs (code : Code) (es : List Entry) (e : Ending) : Type 0 where
  pub before : (k : ℕ) → k < end_at e.outcome e.steps → (m : Machine) × (goes code k (start es) ≡ go m) × (m.steps ≡ k)
  pub at_end : goes code (end_at e.outcome e.steps) (start es) ≡ answer e.outcome e.steps
  pub leaves : Leaves code es e.outcome e.steps

-- For every sheet and every rule without violations over it.
abbrev pub CodeMeans : Type 0
CodeMeans = (es : List Entry) (c : Command) → violations es c ≡ [] → RunsAs (translated es c) es (meaning es c)

-- No such run is stuck: no instruction misses a value, a return position or a slot, none finds a slot that holds something else, and there is
-- always room for a return position.
abbrev pub NeverStuck : Type 0
NeverStuck = (es : List Entry) (c : Command) → violations es c ≡ [] → (k : ℕ) → goes (translated es c) k (start es) ≢ stuck

-- What the frame memory answers to what an instruction asks of it. What a write answers does not depend on what is written. The args of a call are
-- written into the frame just entered, which has a slot for each.
abbrev pub looking : Result Slot Refusal → Result (Unit {0}) Refusal
looking (Ok s) = Ok tt
looking (Err e) = Err e

abbrev pub asks : Instruction → Frames → List (Result (Unit {0}) Refusal)
asks (Load h o) fs = looking (got fs h o) ∷ []
asks (Storing h o) fs = looking (got fs h o) ∷ (written fs h o Unset).answer ∷ []
asks (Call h o n) fs = looking (got fs h o) ∷ (entered fs h n).answer ∷ []
asks (Do h o n) fs = looking (got fs h o) ∷ (entered fs h n).answer ∷ []
asks (Open n) fs = (opened fs n).answer ∷ []
asks Let fs = (opened fs 1).answer ∷ []
asks (Fill o b) fs = (written fs 0 o Unset).answer ∷ []
asks (Fun o d n) fs = (written fs 0 o Unset).answer ∷ []
asks (Proc o d n) fs = (written fs 0 o Unset).answer ∷ []
asks Shut fs = (left fs).answer ∷ []
asks Back fs = (left fs).answer ∷ []
asks (Push v) fs = []
asks (Pick d) fs = []
asks (Fork d) fs = []
asks (Skip d) fs = []
asks (Leave d) fs = []
asks (Again d) fs = []
asks Minus fs = []
asks Not fs = []
asks Add fs = []
asks Sub fs = []
asks Mul fs = []
asks Equal fs = []
asks Less fs = []
asks And fs = []
asks Or fs = []

-- the memory does it, or refuses by 23 or 24, which are faults of the run: never by 27 or 28
abbrev pub Serves : Result (Unit {0}) Refusal → Type 0
Serves (Ok u) = Unit {0}
Serves (Err e) = (e ≡ TooManyFrames) ⊎ (e ≡ TooManySlots)

abbrev pub ServesAll : List (Result (Unit {0}) Refusal) → Type 0
ServesAll [] = Unit {0}
ServesAll (r ∷ rs) = Serves r × ServesAll rs

-- Whatever such a run asks of the frame memory, the memory serves.
abbrev pub FramesServe : Type 0
FramesServe = (es : List Entry) (c : Command) → violations es c ≡ [] → (k : ℕ) (m : Machine) (i : Instruction) (p : Place) → goes (translated es c) k (start es) ≡ go m → m.steps < most_steps → slice_get (translated es c) m.at ≡ Some (i, p) → ServesAll (asks i m.frames)

-- n steps and then k steps are n + k steps
abbrev pub RunsCut : Type 0
RunsCut = (code : Code) (n k : ℕ) (m : Machine) → goes code (n + k) m ≡ after (goes code n m) (goes code k)

-- no frame has over 16 frames in its chain of parents, itself included
abbrev pub Shallow : Frames → Type 0
Shallow none = Unit {0}
Shallow (fs ▷ f) = (walk most_nested (fs ▷ f) ≡ none) × Shallow fs

-- what memory a state takes
pub record Within (m : Machine) : Type 0 where
  pub values : length m.values ≤ most_values
  pub returns : length m.returns ≤ most_returns
  pub frames : count m.frames ≤ most_frames
  pub slots : total m.frames ≤ most_slots
  pub chains : Shallow m.frames
  pub steps : m.steps ≤ most_steps

-- No run has more than 1,000,000 steps.
abbrev pub RunsEnd : Type 0
RunsEnd = (es : List Entry) (c : Command) → violations es c ≡ [] → (meaning es c).steps ≤ most_steps

-- The memory suffices: whatever the code, a run from at most 32 entries never has more of anything than the limits say.
abbrev pub MemorySuffices : Type 0
MemorySuffices = (es : List Entry) (code : Code) (k : ℕ) (m : Machine) → length es ≤ 32 → goes code k (start es) ≡ go m → Within m

-- The pair law. Whenever the run is at an instruction with a pair, that instruction came from the use of a name x in a scope g, the pair is that
-- of the innermost visible declaration of x in g, and the frames stand for an environment of that scope. So the frame h hops outward is that of the
-- declaration, and its slot o holds what the environment says that x stands for.
pub record Leads (code : Code) (m : Machine) (used : Option (Option (Name × Scope))) (h o : ℕ) : Type 0 where
  pub name : Name
  pub scope : Scope
  pub from : used ≡ Some (Some (name, scope))
  pub declared : Use
  pub visible : find name scope ≡ Some declared
  pub hops : declared.hops ≡ h
  pub offset : declared.offset ≡ o
  pub env : Env
  pub store : Store
  pub around : scope_of env ≡ scope
  pub stand : Stand code store env m.frames
  pub found : Meant × Env
  pub looked : lookup name env ≡ Some found
  pub agree : Agree code store m.frames found declared

abbrev pub PairLaw : Type 0
PairLaw = (es : List Entry) (c : Command) → violations es c ≡ [] → (k : ℕ) (m : Machine) (i : Instruction) (p : Place) (h o : ℕ) → goes (translated es c) k (start es) ≡ go m → slice_get (translated es c) m.at ≡ Some (i, p) → pair_of i ≡ Some (h, o) → Leads (translated es c) m (slice_get (used es c) m.at) h o

-- The code has at most three instructions a node, so 12,288 suffice for 4,096 nodes.
abbrev pub CodeIsShort : Type 0
CodeIsShort = (es : List Entry) (c : Command) → (length (translated es c) ≤ 3 * nodes_c c) × (nodes_c c ≤ 4096 → length (translated es c) ≤ 12288)

-- What a step and a run of the machine in memory say of the machine on paper.
use Rattle.std.specs.Prelude.{◌≡◌, ℕ, ◌+◌, ◌<◌, ◌≤◌, List, map, length}
use Rattle.lang.specs.declared.code.Code.{Code}
use Rattle.lang.specs.Codes.{instructions_of, places_of}
use Rattle.frames.specs.Frames.{Frames}
use Rattle.meaning.specs.Tree.{Place}
use Rattle.meaning.specs.Translation.{Code as Paper, instructions}
use Rattle.meaning.specs.Machine.{Machine as State, Next, go, stop, ended, stuck, step, goes}
use Rattle.machine.specs.declared.outcome.Step.{Step}
use Rattle.machine.specs.declared.outcome.Step.TheVariants as how
use Rattle.machine.specs.declared.outcome.Outcome.{Outcome}
use Rattle.machine.specs.declared.outcome.Outcome.TheVariants as outcome
use Rattle.machine.specs.declared.outcome.Ran.{Ran}
use Rattle.machine.specs.declared.machine.Machine.{Machine}
use Rattle.machine.specs.Shows.{seen, Ready}

-- the places of code on paper
abbrev pub places : Paper → List Place
places ps = map (λ l. l.1) ps

-- code in memory is code on paper, and not more than three instructions for each of 4,096 nodes
pub record Holds (c : Code) (ps : Paper) : Type 0 where
  pub whats : instructions_of c ≡ instructions ps
  pub wheres : places_of c ≡ places ps
  pub most : length ps ≤ 12288

-- what a step led to
abbrev pub stepped : Step → State → Next
stepped how.On m = go m
stepped how.Ended m = ended
stepped (how.Stop f p) m = stop f p m.steps
stepped how.Stuck m = stuck

-- a step that goes on is counted, and no step is taken back
abbrev pub Counted : Step → ℕ → ℕ → Type 0
Counted how.On s t = t ≡ s + 1
Counted how.Ended s t = t ≡ s
Counted (how.Stop f p) s t = (s ≤ t) × (t ≤ s + 1)
Counted how.Stuck s t = s ≤ t

-- at the code's end nothing changes
abbrev pub Rests : Step → Paper → State → State → Type 0
Rests how.On ps a b = Unit {0}
Rests how.Ended ps a b = (b ≡ a) × (length ps ≤ b.at)
Rests (how.Stop f p) ps a b = Unit {0}
Rests how.Stuck ps a b = Unit {0}

-- the machine was ready and did the step that the machine on paper does
abbrev pub Steps : {F : Type 0} → (F → Type 0) → (F → Frames) → Code → Machine F → Machine F → Step → Type 0
Steps sound frames c a b r = (ps : Paper) → Holds c ps → Ready sound a → Ready sound b × (stepped r (seen frames b) ≡ step ps (seen frames a)) × Rests r ps (seen frames a) (seen frames b)

-- s steps on paper from a, of a budget of n: paused in b after n, at the code's end in b, or by a fault
abbrev pub Ends : Outcome → ℕ → Paper → ℕ → State → State → Type 0
Ends outcome.Paused s ps n a b = (goes ps n a ≡ go b) × (b.at < length ps) × (b.steps ≡ a.steps + s) × (s ≡ n)
Ends outcome.Done s ps n a b = (goes ps s a ≡ go b) × (length ps ≤ b.at) × (b.steps ≡ a.steps + s) × (s ≤ n)
Ends (outcome.Fault f p) s ps n a b = (goes ps n a ≡ stop f p (a.steps + s)) × (s ≤ n)
Ends outcome.Stuck s ps n a b = goes ps n a ≡ stuck

-- the machine was ready and did what the machine on paper does with this budget
abbrev pub Runs : {F : Type 0} → (F → Type 0) → (F → Frames) → Code → ℕ → Machine F → Machine F → Ran → Type 0
Runs sound frames c n a b r = (ps : Paper) → Holds c ps → Ready sound a → Ready sound b × Ends r.outcome r.steps ps n (seen frames a) (seen frames b)

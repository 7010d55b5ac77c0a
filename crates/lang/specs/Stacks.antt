-- A stack as a list.
use Rattle.std.specs.Prelude.{◌≡◌, ℕ, ◌<◌, ◌≤◌, List, [], ◌∷◌, ◌++◌, reverse, length, take, Some, None, Option, Ok, Err, Result, slice_set}
use Rattle.lang.specs.declared.stack.Stack.{Stack}
use Rattle.lang.specs.declared.stack.Full.{Full}

-- what it holds, the oldest first
abbrev pub held : {T : Type 0} → Stack T → List T
held s = take s.used s.cells.now

-- what it holds, the newest first
abbrev pub items : {T : Type 0} → Stack T → List T
items s = reverse (held s)

-- how many it can hold
abbrev pub room : {T : Type 0} → Stack T → ℕ
room s = length s.cells.now

-- after a push: one more, and no other cell changed; or it was full
abbrev pub Pushed : {T : Type 0} → Result Unit Full → Stack T → T → Stack T → Type 0
Pushed (Ok _) a x b = (held b ≡ held a ++ (x ∷ [])) × (items b ≡ x ∷ items a) × (b.cells.now ≡ slice_set a.cells.now (length (held a)) x) × (room b ≡ room a) × (length (held a) < room a)
Pushed (Err _) a x b = (held b ≡ held a) × (items b ≡ items a) × (b.cells.now ≡ a.cells.now) × (room b ≡ room a) × (room a ≤ length (held a))

-- after a pop: the newest is gone, or there was none
abbrev pub Popped : {T : Type 0} → Option T → Stack T → Stack T → Type 0
Popped (Some x) a b = (held a ≡ held b ++ (x ∷ [])) × (items a ≡ x ∷ items b) × (b.cells.now ≡ a.cells.now) × (length (held b) < room b)
Popped None a b = (held a ≡ []) × (items a ≡ []) × (items b ≡ []) × (b.cells.now ≡ a.cells.now)

-- the first of a list
abbrev pub newest : {T : Type 0} → List T → Option T
newest [] = None
newest (x ∷ xs) = Some x

pub record Truncated {T : Type 0} (n : ℕ) (a b : Stack T) : Type 0 where
  pub kept : held b ≡ take n (held a)
  pub same : b.cells.now ≡ a.cells.now

-- Frames by their numbers, and hops from frame to frame by the links.
-- The links are a function: 0 where frame k has no parent, else the parent's number plus one.
use Rattle.std.specs.Prelude.{◌≡◌, ℕ, zero, suc, ◌<◌, ◌≤◌, Some, None, Option}

-- a link read as a parent
abbrev pub before : ℕ → Option ℕ
before zero = None
before (suc k) = Some k

-- a fact holds of each frame below n
abbrev pub Each : (ℕ → Type 0) → ℕ → Type 0
Each P n = (k : ℕ) → k < n → P k

-- each parent is an earlier frame
abbrev pub Earlier : (ℕ → ℕ) → ℕ → Type 0
Earlier up n = Each (λ k. up k ≤ k) n

-- the links of the first n frames are as they should be: each parent is an earlier frame, and what else is kept of each is right
pub record Linked (up : ℕ → ℕ) (right : ℕ → Type 0) (n : ℕ) : Type 0 where
  pub earlier : Earlier up n
  pub rest : Each right n

-- the first n frames have the same parents
abbrev pub Same : (ℕ → ℕ) → (ℕ → ℕ) → ℕ → Type 0
Same up up' n = Each (λ k. up' k ≡ up k) n

-- a frame's number, where there is one, lies below n
abbrev pub Within : Option ℕ → ℕ → Type 0
Within None n = Unit {0}
Within (Some k) n = k < n

-- the frame that lies hops outward from a frame
abbrev pub hop : (ℕ → ℕ) → ℕ → Option ℕ → Option ℕ
hop up zero r = r
hop up (suc h) None = None
hop up (suc h) (Some k) = hop up h (before (up k))

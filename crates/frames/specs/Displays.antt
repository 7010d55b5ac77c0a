-- The levels of a display, and when they are sound.
use Rattle.std.specs.Prelude.{◌≡◌, ℕ, zero, suc, ◌+◌, ◌*◌, ◌<◌, List, Some, None, Option, slice_index}

-- a parent as it lies in memory
abbrev pub link_of : Option ℕ → ℕ
link_of None = 0
link_of (Some p) = suc p

-- the levels of frame k: at h the number plus one of the frame h hops outward, 0 where there is none
abbrev pub level : List ℕ → ℕ → ℕ → ℕ
level lv k h = slice_index lv (k * 16 + h)

-- the links of a display: one hop outward from each frame
abbrev pub second : List ℕ → ℕ → ℕ
second lv k = level lv k 1

-- what stands h hops outward from the frame that a link names
abbrev pub above : List ℕ → ℕ → ℕ → ℕ
above lv zero h = 0
above lv (suc p) h = level lv p h

-- the levels of frame k are as they should be
pub record IsRow (lv : List ℕ) (k : ℕ) : Type 0 where
  -- no hop leads to the frame itself
  pub own : level lv k 0 ≡ k + 1
  -- the other levels are those of its parent
  pub rest : (h : ℕ) → h < 15 → level lv k (h + 1) ≡ above lv (second lv k) h
  -- no chain goes on past its sixteenth frame
  pub short : above lv (second lv k) 15 ≡ 0

-- What the slots of frames mean, given the parents.
use Rattle.std.specs.Prelude.{◌≡◌, ℕ, ◌+◌, ◌<◌, ◌≤◌, Option}
use Rattle.frames.specs.Frames.{Frames, walk}
use Rattle.frames.specs.Hops.{Within}
use Rattle.frames.specs.Layout.{laid, part, Placed}
use Rattle.frames.specs.declared.slots.FrameSlots.{FrameSlots}

-- the frames in them
abbrev pub frames_in : (ℕ → ℕ) → FrameSlots → Frames
frames_in up s = laid up s.starts.now s.cells.now s.count s.used

-- the frames in them up to a number
abbrev pub part_in : (ℕ → ℕ) → FrameSlots → Option ℕ → Frames
part_in up s k = part up s.starts.now s.cells.now s.count s.used k

-- a pair's place in them
abbrev pub PlacedIn : (ℕ → ℕ) → FrameSlots → ℕ → ℕ → Option ℕ → Type 0
PlacedIn up s h o r = Placed up s.starts.now s.cells.now s.count s.used h o r

-- the frame h hops outward from the last is the one numbered so
pub record LiesOut (up : ℕ → ℕ) (s : FrameSlots) (k : Option ℕ) (h : ℕ) : Type 0 where
  pub within : Within k s.count
  pub part : part_in up s k ≡ walk h (frames_in up s)

-- there is room for a frame of n slots
pub record Room (s : FrameSlots) (n : ℕ) : Type 0 where
  pub frames : s.count < 256
  pub slots : s.used + n ≤ 2048

-- What a frame memory means, and when it is sound, however it keeps its links.
use Rattle.std.specs.Prelude.{ℕ, Option}
use Rattle.frames.specs.Frames.{Frames}
use Rattle.frames.specs.Hops.{Linked}
use Rattle.frames.specs.Slots.{frames_in, part_in}
use Rattle.frames.specs.declared.frame_memory.FrameMemory.{FrameMemory}

module _ {L : Type 0} (up : L → ℕ → ℕ) where
  -- the frames that a memory means
  abbrev pub frames_of : FrameMemory L → Frames
  frames_of m = frames_in (up m.links) m.slots

  -- its frames up to a number
  abbrev pub part_of : FrameMemory L → Option ℕ → Frames
  part_of m k = part_in (up m.links) m.slots k

-- a sound memory: its links are as they should be; its slots always are, by their type
abbrev pub Sound : {L : Type 0} → (L → ℕ → ℕ) → (L → ℕ → Type 0) → FrameMemory L → Type 0
Sound up right m = Linked (up m.links) (right m.links) m.slots.count

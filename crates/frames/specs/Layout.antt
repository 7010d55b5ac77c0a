-- How frames lie in memory: frame k begins at starts[k] and ends where the next begins, the last at used.
-- The parents are a function, so all that is said here serves every memory, however it keeps its parents.
use Rattle.std.specs.Prelude.{◌≡◌, ℕ, zero, suc, ◌+◌, ◌<◌, Bool, true, false, cond, List, Some, None, Ok, Err, Option, ◌==◌, nat_le, nat_lt, slice_index, slice_index_or, slice_set}
use Rattle.std.specs.List.{between}
use Rattle.lang.specs.declared.value.Slot.{Slot}
use Rattle.lang.specs.declared.value.Slot.TheVariants.{Unset}
use Rattle.lang.specs.declared.refusal.Refusal.TheVariants.{NoSuchSlot}
use Rattle.frames.specs.Hops.{before}
use Rattle.frames.specs.Frames.{Frame, Frames, none, ◌▷◌, got, written, done, refused}

-- frame k, which ends at a place
abbrev pub frame_at : (ℕ → ℕ) → List ℕ → List Slot → ℕ → ℕ → Frame
frame_at up ss sl k end = record { slots = between (slice_index ss k) end sl; parent = before (up k) }

-- the frames that lie in memory, by their count and the count of their slots
abbrev pub laid : (ℕ → ℕ) → List ℕ → List Slot → ℕ → ℕ → Frames
laid up ss sl zero used = none
laid up ss sl (suc k) used = laid up ss sl k (slice_index ss k) ▷ frame_at up ss sl k used

-- the starts rise from 0 to used
abbrev pub rises : List ℕ → ℕ → ℕ → Bool
rises ss zero used = used == 0
rises ss (suc k) used = cond (nat_le (slice_index ss k) used) (rises ss k (slice_index ss k)) false

-- where frame k ends
abbrev pub end_of : List ℕ → ℕ → ℕ → ℕ → ℕ
end_of ss n used k = cond (k + 1 == n) used (slice_index ss (k + 1))

-- the frames up to a number, that one included
abbrev pub part : (ℕ → ℕ) → List ℕ → List Slot → ℕ → ℕ → Option ℕ → Frames
part up ss sl n used None = none
part up ss sl n used (Some k) = laid up ss sl (suc k) (end_of ss n used k)

-- a pair's place in the slots, or none: what is read there, and what stands after a write there
abbrev pub Placed : (ℕ → ℕ) → List ℕ → List Slot → ℕ → ℕ → ℕ → ℕ → Option ℕ → Type 0
Placed up ss sl n used h o None = (Err NoSuchSlot ≡ got (laid up ss sl n used) h o) × ((v : Slot) → refused NoSuchSlot (laid up ss sl n used) ≡ written (laid up ss sl n used) h o v)
Placed up ss sl n used h o (Some p) = (p < used) × (Ok (slice_index_or sl p Unset) ≡ got (laid up ss sl n used) h o) × ((v : Slot) → done (laid up ss (slice_set sl p v) n used) ≡ written (laid up ss sl n used) h o v)

-- memory that is too short for the slots of frames: under 256 starts or under 2,048 slots
abbrev pub short_slots : ℕ → ℕ → Bool
short_slots s n = cond (nat_lt s 256) true (nat_lt n 2048)

-- memory that is too short: fewer links than are needed, or short for the slots
abbrev pub short : ℕ → ℕ → ℕ → ℕ → Bool
short need p s n = cond (nat_lt p need) true (short_slots s n)

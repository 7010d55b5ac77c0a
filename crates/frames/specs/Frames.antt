-- The meaning of a frame memory: frames, oldest first. A frame's number is the count of frames before it.
use Rattle.std.specs.Prelude.{ℕ, zero, suc, ◌+◌, Bool, true, false, cond, List, length, replicate, Some, None, Ok, Err, Option, Result, ◌==◌, nat_le, nat_lt, slice_set}
use Rattle.std.specs.List.{slice_get}
use Rattle.lang.specs.declared.value.Slot.{Slot}
use Rattle.lang.specs.declared.value.Slot.TheVariants.{Unset}
use Rattle.lang.specs.declared.refusal.Refusal.{Refusal}
use Rattle.lang.specs.declared.refusal.Refusal.TheVariants.{TooManyFrames, TooManySlots, ChainTooDeep, NoSuchSlot}

-- a frame has slots and, but for the first, the number of the frame around it
pub record Frame : Type 0 where
  pub slots : List Slot
  pub parent : Option ℕ

infixl 20 ◌▷◌
pub data Frames : Type 0 where
  none : Frames
  ◌▷◌ : Frames → Frame → Frames

-- how many frames stand
abbrev pub count : Frames → ℕ
count none = 0
count (fs ▷ f) = suc (count fs)

-- how many slots they have together
abbrev pub total : Frames → ℕ
total none = 0
total (fs ▷ f) = total fs + length f.slots

-- the number of the last frame
abbrev pub newest : Frames → Option ℕ
newest none = None
newest (fs ▷ f) = Some (count fs)

-- the frames up to a number, that one included
abbrev pub up_to : Option ℕ → Frames → Frames
up_to None fs = none
up_to (Some k) none = none
up_to (Some k) (fs ▷ f) = cond (k == count fs) (fs ▷ f) (up_to (Some k) fs)

-- the frames up to the one h hops outward from the last, by the parents
abbrev pub walk : ℕ → Frames → Frames
walk zero fs = fs
walk (suc h) none = none
walk (suc h) (fs ▷ f) = walk h (up_to f.parent fs)

abbrev pub asked : Option Slot → Result Slot Refusal
asked None = Err NoSuchSlot
asked (Some s) = Ok s

abbrev pub last_slot : Frames → ℕ → Result Slot Refusal
last_slot none o = Err NoSuchSlot
last_slot (fs ▷ f) o = asked (slice_get f.slots o)

-- the slot at hops h and offset o
abbrev pub got : Frames → ℕ → ℕ → Result Slot Refusal
got fs h o = last_slot (walk h fs) o

abbrev pub last_width : Frames → Result ℕ Refusal
last_width none = Err NoSuchSlot
last_width (fs ▷ f) = Ok (length f.slots)

-- how many slots the frame h hops out has
abbrev pub width : Frames → ℕ → Result ℕ Refusal
width fs h = last_width (walk h fs)

-- what a call that builds answers, and which frames stand after it
pub record Built : Type 0 where
  pub answer : Result (Unit {0}) Refusal
  pub after : Frames

-- a refusal alters nothing
abbrev pub refused : Refusal → Frames → Built
refused e fs = record { answer = Err e; after = fs }

abbrev pub done : Frames → Built
done fs = record { answer = Ok tt; after = fs }

abbrev pub stands : Frames → Bool
stands none = false
stands (fs ▷ f) = true

-- a frame whose parent is the last of these would have over 16 frames in its chain, itself included
abbrev pub deep : Frames → Bool
deep fs = stands (walk 15 fs)

-- a frame of n unset slots
abbrev pub fresh : ℕ → Option ℕ → Frame
fresh n p = record { slots = replicate n Unset; parent = p }

-- a new last frame of n unset slots whose parent is the last of gs: 23, then 24, then 27
abbrev pub grown : Frames → Frames → ℕ → Built
grown fs gs n =
    cond (nat_le 256 (count fs)) (refused TooManyFrames fs)
    (cond (nat_lt 2048 (total fs + n)) (refused TooManySlots fs)
    (cond (deep gs) (refused ChainTooDeep fs)
    (done (fs ▷ fresh n (newest gs)))))

-- open: the parent is the last frame
abbrev pub opened : Frames → ℕ → Built
opened fs n = grown fs fs n

abbrev pub entered_from : Frames → Frames → ℕ → Built
entered_from fs none n = refused NoSuchSlot fs
entered_from fs (gs ▷ g) n = grown fs (gs ▷ g) n

-- enter: the parent is h hops from the last frame; 28 first
abbrev pub entered : Frames → ℕ → ℕ → Built
entered fs h n = entered_from fs (walk h fs) n

-- leave drops the last frame
abbrev pub left : Frames → Built
left none = refused NoSuchSlot none
left (fs ▷ f) = done fs

abbrev pub filled : Frame → ℕ → Slot → Frame
filled f o v = record { slots = slice_set f.slots o v; parent = f.parent }

-- slot o of the frame numbered k becomes v
abbrev pub filled_in : ℕ → ℕ → Slot → Frames → Frames
filled_in k o v none = none
filled_in k o v (fs ▷ f) = cond (k == count fs) (fs ▷ filled f o v) (filled_in k o v fs ▷ f)

abbrev pub written_from : Frames → Frames → ℕ → Slot → Built
written_from fs none o v = refused NoSuchSlot fs
written_from fs (gs ▷ g) o v = cond (nat_lt o (length g.slots)) (done (filled_in (count gs) o v fs)) (refused NoSuchSlot fs)

-- put: the slot at hops h and offset o becomes v
abbrev pub written : Frames → ℕ → ℕ → Slot → Built
written fs h o v = written_from fs (walk h fs) o v

-- A passage through a frame memory, told without one.
use Rattle.std.specs.Prelude.{ℕ, cond, None, Ok, Err, Result, nat_lt}
use Rattle.lang.specs.declared.value.Slot.{Slot}
use Rattle.lang.specs.declared.refusal.Refusal.{Refusal}
use Rattle.lang.specs.declared.refusal.Refusal.TheVariants.{ShortMemory, TooManySlots, NoSuchSlot}
use Rattle.frames.specs.Layout.{short}
use Rattle.frames.specs.Frames.{Frames, none, ◌▷◌, fresh, filled}

-- what a passage answers, and which frames stand after it
pub record Passed : Type 0 where
  pub answer : Result Slot Refusal
  pub after : Frames

-- a value written into slot o of a frame of n slots is read back from a frame inside it
abbrev pub passed : ℕ → ℕ → Slot → Passed
passed n o v =
    cond (nat_lt 2048 n) (record { answer = Err TooManySlots; after = none })
    (cond (nat_lt o n) (record { answer = Ok v; after = none ▷ filled (fresh n None) o v })
    (record { answer = Err NoSuchSlot; after = none ▷ fresh n None }))

-- the same over memory that is lent: 1 where it is too short
abbrev pub passed_over : ℕ → ℕ → ℕ → ℕ → ℕ → ℕ → Slot → Result Slot Refusal
passed_over need links starts cells n o v = cond (short need links starts cells) (Err ShortMemory) (passed n o v).answer

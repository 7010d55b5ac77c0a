-- Code in memory as a list of instructions and a list of places.
use Rattle.std.specs.Prelude.{◌≡◌, ℕ, ◌≤◌, Bool, true, cond, ◌⊎◌, List, [], ◌∷◌, ◌++◌, length, Ok, Err, Result, nat_lt, slice_set}
use Rattle.lang.specs.declared.instruction.Instruction.{Instruction}
use Rattle.lang.specs.declared.code.Code.{Code}
use Rattle.lang.specs.declared.stack.Full.{Full}
use Rattle.lang.specs.Stacks.{held, room}

-- the instructions, from position 0
abbrev pub instructions_of : Code → List Instruction
instructions_of c = held c.instructions

-- their places
abbrev pub places_of : Code → List ℕ
places_of c = held c.places

abbrev pub code_room : Code → ℕ
code_room c = room c.instructions

abbrev pub place_room : Code → ℕ
place_room c = room c.places

-- memory for fewer than 12,288 instructions or places
abbrev pub short_code : ℕ → ℕ → Bool
short_code i p = cond (nat_lt i 12288) true (nat_lt p 12288)

-- after an instruction more, or where there was no room
abbrev pub Emitted : Result Unit Full → Code → Instruction → ℕ → Code → Type 0
Emitted (Ok _) a i p b = (instructions_of b ≡ instructions_of a ++ (i ∷ [])) × (places_of b ≡ places_of a ++ (p ∷ [])) × (code_room b ≡ code_room a) × (place_room b ≡ place_room a)
Emitted (Err _) a i p b = (instructions_of b ≡ instructions_of a) × (places_of b ≡ places_of a) × (code_room b ≡ code_room a) × (place_room b ≡ place_room a) × ((code_room a ≤ length (instructions_of a)) ⊎ (place_room a ≤ length (places_of a)))

-- after a change of one instruction
pub record Patched (at : ℕ) (i : Instruction) (a b : Code) : Type 0 where
  pub instructions : instructions_of b ≡ slice_set (instructions_of a) at i
  pub places : places_of b ≡ places_of a
  pub code_room : code_room b ≡ code_room a
  pub place_room : place_room b ≡ place_room a

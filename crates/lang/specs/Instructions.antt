-- The number of each instruction and its three operands, as the code table lists them.
use Rattle.std.specs.Prelude.{ℕ, zero, suc, true, false, List, [], ◌∷◌, ℤ, pos, negsuc}
use Rattle.lang.specs.declared.value.Value.TheVariants.{Number, Truth}
use Rattle.lang.specs.declared.instruction.Binding.TheVariants.{Constant, Variable}
use Rattle.lang.specs.declared.instruction.Instruction.{Instruction}
use Rattle.lang.specs.declared.instruction.Instruction.TheVariants.{Push, Load, Minus, Not, Add, Sub, Mul, Equal, Less, And, Or, Pick, Fork, Skip, Leave, Again, Open, Fill, Shut, Fun, Proc, Call, Do, Back, Store, Let}

-- a distance back
abbrev pub neg : ℕ → ℤ
neg zero = pos 0
neg (suc d) = negsuc d

-- number, first, second and third operand; distances lead forward, that of AGAIN back
abbrev pub parts : Instruction → List ℤ
parts (Push (Number z)) = pos 1 ∷ pos 0 ∷ z ∷ pos 0 ∷ []
parts (Push (Truth false)) = pos 1 ∷ pos 1 ∷ pos 0 ∷ pos 0 ∷ []
parts (Push (Truth true)) = pos 1 ∷ pos 1 ∷ pos 1 ∷ pos 0 ∷ []
parts (Load h o) = pos 2 ∷ pos h ∷ pos o ∷ pos 0 ∷ []
parts Minus = pos 4 ∷ pos 0 ∷ pos 0 ∷ pos 0 ∷ []
parts Not = pos 5 ∷ pos 0 ∷ pos 0 ∷ pos 0 ∷ []
parts Add = pos 6 ∷ pos 0 ∷ pos 0 ∷ pos 0 ∷ []
parts Sub = pos 7 ∷ pos 0 ∷ pos 0 ∷ pos 0 ∷ []
parts Mul = pos 8 ∷ pos 0 ∷ pos 0 ∷ pos 0 ∷ []
parts Equal = pos 9 ∷ pos 0 ∷ pos 0 ∷ pos 0 ∷ []
parts Less = pos 10 ∷ pos 0 ∷ pos 0 ∷ pos 0 ∷ []
parts And = pos 11 ∷ pos 0 ∷ pos 0 ∷ pos 0 ∷ []
parts Or = pos 12 ∷ pos 0 ∷ pos 0 ∷ pos 0 ∷ []
parts (Pick d) = pos 13 ∷ pos d ∷ pos 0 ∷ pos 0 ∷ []
parts (Fork d) = pos 14 ∷ pos d ∷ pos 0 ∷ pos 0 ∷ []
parts (Skip d) = pos 15 ∷ pos d ∷ pos 0 ∷ pos 0 ∷ []
parts (Leave d) = pos 16 ∷ pos d ∷ pos 0 ∷ pos 0 ∷ []
parts (Again d) = pos 17 ∷ neg d ∷ pos 0 ∷ pos 0 ∷ []
parts (Open n) = pos 18 ∷ pos n ∷ pos 0 ∷ pos 0 ∷ []
parts (Fill o Constant) = pos 19 ∷ pos o ∷ pos 0 ∷ pos 0 ∷ []
parts (Fill o Variable) = pos 19 ∷ pos o ∷ pos 1 ∷ pos 0 ∷ []
parts Shut = pos 20 ∷ pos 0 ∷ pos 0 ∷ pos 0 ∷ []
parts (Fun o d n) = pos 21 ∷ pos o ∷ pos d ∷ pos n ∷ []
parts (Proc o d n) = pos 22 ∷ pos o ∷ pos d ∷ pos n ∷ []
parts (Call h o n) = pos 23 ∷ pos h ∷ pos o ∷ pos n ∷ []
parts (Do h o n) = pos 24 ∷ pos h ∷ pos o ∷ pos n ∷ []
parts Back = pos 25 ∷ pos 0 ∷ pos 0 ∷ pos 0 ∷ []
parts (Store h o) = pos 26 ∷ pos h ∷ pos o ∷ pos 0 ∷ []
parts Let = pos 27 ∷ pos 0 ∷ pos 0 ∷ pos 0 ∷ []

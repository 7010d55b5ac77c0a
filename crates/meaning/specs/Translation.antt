-- The code of a rule: names become pairs of hops and offset.
use Rattle.std.specs.Prelude.{ℕ, ◌+◌, List, [], ◌∷◌, ◌++◌, map, length, pos}
use Rattle.lang.specs.declared.sheet.Entry.{Entry}
use Rattle.lang.specs.declared.value.Value.TheVariants.{Number, Truth}
use Rattle.lang.specs.declared.instruction.Binding.TheVariants.{Constant, Variable}
use Rattle.lang.specs.declared.instruction.Instruction.{Instruction}
use Rattle.lang.specs.declared.instruction.Instruction.TheVariants.{Push, Load, Minus, Not, Add, Sub, Mul, Equal, Less, And, Or, Pick, Fork, Skip, Leave, Again, Open, Fill, Shut, Fun, Proc, Call, Do, Back, Store, Let}
use Rattle.meaning.specs.Tree.{Place, Sign, minus, negate, Operator, add, sub, mul, equal, less, Expr, number, truth, read, signed, binary, both, either, choose, local, apply, Args, no_args, arg, args, Data, no_data, const, var, data_slots, Command, block, assign, perform, fork, while, Commands, no_commands, then, Routines, no_routines, fun, proc, routine_slots}
use Rattle.meaning.specs.Scopes.{Scope, constant, find, hops_of, offset_of, params, data_names, block_names, sheet_scope}

-- instructions, each with its place beside it
abbrev pub Code : Type 0
Code = List (Instruction × Place)

abbrev pub sign_code : Sign → Instruction
sign_code minus = Minus
sign_code negate = Not

abbrev pub operator_code : Operator → Instruction
operator_code add = Add
operator_code sub = Sub
operator_code mul = Mul
operator_code equal = Equal
operator_code less = Less

-- one instruction
abbrev pub line : Instruction → Place → Code
line i p = (i, p) ∷ []

unfoldable mutual
  pub code_e : Scope → Expr → Code
  code_e g (number p n) = line (Push (Number (pos n))) p
  code_e g (truth p b) = line (Push (Truth b)) p
  code_e g (read p x) = line (Load (hops_of (find x g)) (offset_of (find x g))) p
  code_e g (signed p o e) = code_e g e ++ line (sign_code o) p
  code_e g (binary p o e f) = code_e g e ++ (code_e g f ++ line (operator_code o) p)
  code_e g (both p e f) = code_e g e ++ (code_e g f ++ line And p)
  code_e g (either p e f) = code_e g e ++ (code_e g f ++ line Or p)
  code_e g (choose p c e f) = code_e g c ++ ((Pick (length (code_e g e) + 2), p) ∷ (code_e g e ++ ((Skip (length (code_e g f) + 1), p) ∷ code_e g f)))
  code_e g (local p q x e f) = (Let, p) ∷ (code_e ([] ∷ g) e ++ ((Fill 0 Constant, p) ∷ (code_e (((x, constant) ∷ []) ∷ g) f ++ line Shut p)))
  code_e g (apply p x es) = code_a g es ++ line (Call (hops_of (find x g)) (offset_of (find x g)) (args es)) p

  pub code_a : Scope → Args → Code
  code_a g no_args = []
  code_a g (arg es e) = code_a g es ++ code_e g e

-- a datum fills the slot after those of the data before it
unfoldable pub code_d : Scope → Data → Code
code_d g no_data = []
code_d g (const ds p q x e) = code_d g ds ++ (code_e (data_names ds ∷ g) e ++ line (Fill (data_slots ds) Constant) p)
code_d g (var ds p q x e) = code_d g ds ++ (code_e (data_names ds ∷ g) e ++ line (Fill (data_slots ds) Variable) p)

-- routines take the slots from n on
unfoldable mutual
  pub code_c : Scope → Command → Code
  code_c g (block p ds rs cs) = (Open (data_slots ds + routine_slots rs), p) ∷ (code_d g ds ++ (code_r (data_slots ds) (block_names ds rs ∷ g) rs ++ (code_s (block_names ds rs ∷ g) cs ++ line Shut p)))
  code_c g (assign p x e) = code_e g e ++ line (Store (hops_of (find x g)) (offset_of (find x g))) p
  code_c g (perform p q x es) = code_a g es ++ line (Do (hops_of (find x g)) (offset_of (find x g)) (args es)) p
  code_c g (fork p e c d) = code_e g e ++ ((Fork (length (code_c g c) + 2), p) ∷ (code_c g c ++ ((Skip (length (code_c g d) + 1), p) ∷ code_c g d)))
  code_c g (while p e c) = code_e g e ++ ((Leave (length (code_c g c) + 2), p) ∷ (code_c g c ++ line (Again (length (code_e g e) + length (code_c g c) + 1)) p))

  pub code_s : Scope → Commands → Code
  code_s g no_commands = []
  code_s g (then cs c) = code_s g cs ++ code_c g c

  pub code_r : ℕ → Scope → Routines → Code
  code_r n g no_routines = []
  code_r n g (fun rs p q x ps e) = code_r n g rs ++ ((Fun (n + routine_slots rs) (length (code_e (params ps ∷ g) e) + 2) (length ps), p) ∷ (code_e (params ps ∷ g) e ++ line Back p))
  code_r n g (proc rs p q x ps c) = code_r n g rs ++ ((Proc (n + routine_slots rs) (length (code_c (params ps ∷ g) c) + 2) (length ps), p) ∷ (code_c (params ps ∷ g) c ++ line Back p))

-- the code of a rule over a sheet
abbrev pub translated : List Entry → Command → Code
translated es c = code_c (sheet_scope es) c

-- the instructions without their places
abbrev pub instructions : Code → List Instruction
instructions c = map (λ l. l.0) c

-- Which name is used by each instruction of the code, and in which scope: beside LOAD, STORE, CALL and DO stands the name that they came from.
use Rattle.std.specs.Prelude.{ℕ, List, [], ◌∷◌, ◌++◌, Some, None, Option}
use Rattle.lang.specs.declared.name.Name.{Name}
use Rattle.lang.specs.declared.sheet.Entry.{Entry}
use Rattle.lang.specs.declared.instruction.Instruction.{Instruction}
use Rattle.lang.specs.declared.instruction.Instruction.TheVariants.{Push, Load, Minus, Not, Add, Sub, Mul, Equal, Less, And, Or, Pick, Fork, Skip, Leave, Again, Open, Fill, Shut, Fun, Proc, Call, Do, Back, Store, Let}
use Rattle.meaning.specs.Tree.{Expr, number, truth, read, signed, binary, both, either, choose, local, apply, Args, no_args, arg, Data, no_data, const, var, Command, block, assign, perform, fork, while, Commands, no_commands, then, Routines, no_routines, fun, proc}
use Rattle.meaning.specs.Scopes.{Scope, constant, params, data_names, block_names, sheet_scope}

-- one for each instruction
abbrev pub Uses : Type 0
Uses = List (Option (Name × Scope))

abbrev pub none : Uses
none = None ∷ []

abbrev pub use_of : Name → Scope → Uses
use_of x g = Some (x, g) ∷ []

unfoldable mutual
  pub uses_e : Scope → Expr → Uses
  uses_e g (number p n) = none
  uses_e g (truth p b) = none
  uses_e g (read p x) = use_of x g
  uses_e g (signed p o e) = uses_e g e ++ none
  uses_e g (binary p o e f) = uses_e g e ++ (uses_e g f ++ none)
  uses_e g (both p e f) = uses_e g e ++ (uses_e g f ++ none)
  uses_e g (either p e f) = uses_e g e ++ (uses_e g f ++ none)
  uses_e g (choose p c e f) = uses_e g c ++ (None ∷ (uses_e g e ++ (None ∷ uses_e g f)))
  uses_e g (local p q x e f) = None ∷ (uses_e ([] ∷ g) e ++ (None ∷ (uses_e (((x, constant) ∷ []) ∷ g) f ++ none)))
  uses_e g (apply p x es) = uses_a g es ++ use_of x g

  pub uses_a : Scope → Args → Uses
  uses_a g no_args = []
  uses_a g (arg es e) = uses_a g es ++ uses_e g e

unfoldable pub uses_d : Scope → Data → Uses
uses_d g no_data = []
uses_d g (const ds p q x e) = uses_d g ds ++ (uses_e (data_names ds ∷ g) e ++ none)
uses_d g (var ds p q x e) = uses_d g ds ++ (uses_e (data_names ds ∷ g) e ++ none)

unfoldable mutual
  pub uses_c : Scope → Command → Uses
  uses_c g (block p ds rs cs) = None ∷ (uses_d g ds ++ (uses_r (block_names ds rs ∷ g) rs ++ (uses_s (block_names ds rs ∷ g) cs ++ none)))
  uses_c g (assign p x e) = uses_e g e ++ use_of x g
  uses_c g (perform p q x es) = uses_a g es ++ use_of x g
  uses_c g (fork p e c d) = uses_e g e ++ (None ∷ (uses_c g c ++ (None ∷ uses_c g d)))
  uses_c g (while p e c) = uses_e g e ++ (None ∷ (uses_c g c ++ none))

  pub uses_s : Scope → Commands → Uses
  uses_s g no_commands = []
  uses_s g (then cs c) = uses_s g cs ++ uses_c g c

  pub uses_r : Scope → Routines → Uses
  uses_r g no_routines = []
  uses_r g (fun rs p q x ps e) = uses_r g rs ++ (None ∷ (uses_e (params ps ∷ g) e ++ none))
  uses_r g (proc rs p q x ps c) = uses_r g rs ++ (None ∷ (uses_c (params ps ∷ g) c ++ none))

-- the uses of a rule over a sheet
abbrev pub used : List Entry → Command → Uses
used es c = uses_c (sheet_scope es) c

-- the pair of hops and offset that an instruction has
abbrev pub pair_of : Instruction → Option (ℕ × ℕ)
pair_of (Load h o) = Some (h, o)
pair_of (Store h o) = Some (h, o)
pair_of (Call h o n) = Some (h, o)
pair_of (Do h o n) = Some (h, o)
pair_of (Push v) = None
pair_of (Pick d) = None
pair_of (Fork d) = None
pair_of (Skip d) = None
pair_of (Leave d) = None
pair_of (Again d) = None
pair_of (Open n) = None
pair_of (Fill o b) = None
pair_of (Fun o d n) = None
pair_of (Proc o d n) = None
pair_of Minus = None
pair_of Not = None
pair_of Add = None
pair_of Sub = None
pair_of Mul = None
pair_of Equal = None
pair_of Less = None
pair_of And = None
pair_of Or = None
pair_of Shut = None
pair_of Back = None
pair_of Let = None

-- Which declaration a name means, and where it stands: the pair of hops and offset.
use Rattle.std.specs.Prelude.{ℕ, suc, cond, List, [], ◌∷◌, ◌++◌, length, Some, None, Option}
use Rattle.lang.specs.declared.name.Name.{Name}
use Rattle.lang.specs.declared.sheet.Mark.{Mark}
use Rattle.lang.specs.declared.sheet.Mark.TheVariants.{Given, Kept}
use Rattle.lang.specs.declared.sheet.Entry.{Entry}
use Rattle.lang.specs.Names.{same}
use Rattle.meaning.specs.Tree.{Data, no_data, const, var, Routines, no_routines, fun, proc, Parameter}

-- what a name is declared as; a routine with its count of parameters
pub data Sort : Type 0 where
  constant variable : Sort
  function procedure : ℕ → Sort

-- the names of a frame, by slot
abbrev pub Names : Type 0
Names = List (Name × Sort)

-- the frames around a place of the text, the innermost first
abbrev pub Scope : Type 0
Scope = List Names

-- what a use means: the declaration's sort, and its pair
pub record Use : Type 0 where
  pub sort : Sort
  pub hops : ℕ
  pub offset : ℕ

-- a slot further, and a frame outward
abbrev pub further : Option Use → Option Use
further None = None
further (Some u) = Some (record { sort = u.sort; hops = u.hops; offset = suc u.offset })

abbrev pub outward : Option Use → Option Use
outward None = None
outward (Some u) = Some (record { sort = u.sort; hops = suc u.hops; offset = u.offset })

-- the first slot of a frame that has the name: a doubled name means its first declaration
abbrev pub among : Name → Names → Option Use
among x [] = None
among x (n ∷ ns) = cond (same x n.0) (Some (record { sort = n.1; hops = 0; offset = 0 })) (further (among x ns))

abbrev pub or_outward : Option Use → Option Use → Option Use
or_outward None v = outward v
or_outward (Some u) v = Some u

-- the innermost visible declaration of a name
abbrev pub find : Name → Scope → Option Use
find x [] = None
find x (ns ∷ g) = or_outward (among x ns) (find x g)

-- the pair of a use; a name that is not visible has none
abbrev pub hops_of : Option Use → ℕ
hops_of None = 0
hops_of (Some u) = u.hops

abbrev pub offset_of : Option Use → ℕ
offset_of None = 0
offset_of (Some u) = u.offset

-- the names that parameters, data and routines declare, and the sheet's
abbrev pub params : List Parameter → Names
params [] = []
params (x ∷ xs) = (x.name, constant) ∷ params xs

abbrev pub data_names : Data → Names
data_names no_data = []
data_names (const ds p q x e) = data_names ds ++ ((x, constant) ∷ [])
data_names (var ds p q x e) = data_names ds ++ ((x, variable) ∷ [])

abbrev pub routine_names : Routines → Names
routine_names no_routines = []
routine_names (fun rs p q x ps e) = routine_names rs ++ ((x, function (length ps)) ∷ [])
routine_names (proc rs p q x ps c) = routine_names rs ++ ((x, procedure (length ps)) ∷ [])

-- a block's frame has its data and then its routines
abbrev pub block_names : Data → Routines → Names
block_names ds rs = data_names ds ++ routine_names rs

-- a given entry is a constant, a kept one a variable
abbrev pub mark_sort : Mark → Sort
mark_sort Given = constant
mark_sort Kept = variable

abbrev pub sheet_names : List Entry → Names
sheet_names [] = []
sheet_names (e ∷ es) = (e.name, mark_sort e.mark) ∷ sheet_names es

-- the sheet is the outermost frame
abbrev pub sheet_scope : List Entry → Scope
sheet_scope es = sheet_names es ∷ []

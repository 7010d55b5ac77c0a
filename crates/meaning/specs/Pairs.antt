-- How the frames of a run stand for the environment of the named meaning.
use Rattle.std.specs.Prelude.{◌≡◌, ℕ, ◌+◌, List, [], ◌∷◌, ◌++◌, length, Some, None, Ok, Option}
use Rattle.std.specs.List.{slice_get}
use Rattle.lang.specs.declared.name.Name.{Name}
use Rattle.lang.specs.declared.value.Slot.{Slot}
use Rattle.lang.specs.declared.value.Slot.TheVariants.{Position}
use Rattle.lang.specs.Values.{slot_of}
use Rattle.lang.specs.declared.instruction.Instruction.{Instruction}
use Rattle.lang.specs.declared.instruction.Instruction.TheVariants.{Back}
use Rattle.frames.specs.Frames.{Frames, none, ◌▷◌, up_to, walk, got}
use Rattle.meaning.specs.Tree.{Place}
use Rattle.meaning.specs.Scopes.{Sort, constant, variable, function, procedure, Names, Scope, Use, find, params}
use Rattle.meaning.specs.Translation.{Code, line, code_e, code_c}
use Rattle.meaning.specs.Meaning.{Meant, a_value, a_location, a_function, a_procedure, Bound, Env, Store, value_at, lookup}

-- the scope that an environment belongs to
abbrev pub sort_of : Meant → Sort
sort_of (a_value v) = constant
sort_of (a_location l) = variable
sort_of (a_function p ps e) = function (length ps)
sort_of (a_procedure p ps c) = procedure (length ps)

abbrev pub names : Bound → Names
names [] = []
names (b ∷ bs) = (b.0, sort_of b.1) ∷ names bs

abbrev pub scope_of : Env → Scope
scope_of [] = []
scope_of (bs ∷ env) = names bs ∷ scope_of env

-- the instructions of a piece stand in the code from position k on
abbrev pub StandsAt : Code → ℕ → Code → Type 0
StandsAt code k piece = (i : ℕ) (c : Instruction × Place) → slice_get piece i ≡ Some c → slice_get code (k + i) ≡ Some c

-- A slot holds what a name found in the scope g stands for: its value, its location's value, or the position at which the routine's body stands.
abbrev pub Holds : Code → Scope → Store → Meant → Slot → Type 0
Holds code g st (a_value v) s = s ≡ slot_of v
Holds code g st (a_location l) s = s ≡ slot_of (value_at st l)
Holds code g st (a_function p ps e) s = (k : ℕ) × (s ≡ Position k) × StandsAt code k (code_e (params ps ∷ g) e ++ line Back p)
Holds code g st (a_procedure p ps c) s = (k : ℕ) × (s ≡ Position k) × StandsAt code k (code_c (params ps ∷ g) c ++ line Back p)

-- a frame's slots hold, from the first on, what its names stand for; slots of data and routines still to come may follow
abbrev pub HoldAll : Code → Scope → Store → Bound → List Slot → Type 0
HoldAll code g st [] ss = Unit {0}
HoldAll code g st (b ∷ bs) [] = ⊥
HoldAll code g st (b ∷ bs) (s ∷ ss) = Holds code g st b.1 s × HoldAll code g st bs ss

-- the frames from the last one outward, by the parents, are those of the environment, one for one
abbrev pub Stand : Code → Store → Env → Frames → Type 0
Stand code st [] none = Unit {0}
Stand code st [] (fs ▷ f) = ⊥
Stand code st (bs ∷ env) none = ⊥
Stand code st (bs ∷ env) (fs ▷ f) = HoldAll code (scope_of (bs ∷ env)) st bs f.slots × Stand code st env (up_to f.parent fs)

-- What a name is to the environment and to the frames: the use's sort is that of what the environment finds, the frame some hops outward is that
-- of the declaration, and the slot at the offset holds what the name stands for.
pub record Agree (code : Code) (st : Store) (fs : Frames) (found : Meant × Env) (u : Use) : Type 0 where
  pub sort : u.sort ≡ sort_of found.0
  pub frame : Stand code st found.1 (walk u.hops fs)
  pub slot : Slot
  pub read : got fs u.hops u.offset ≡ Ok slot
  pub holds : Holds code (scope_of found.1) st found.0 slot

abbrev pub Agrees : Code → Store → Frames → Option (Meant × Env) → Option Use → Type 0
Agrees code st fs None None = Unit {0}
Agrees code st fs None (Some u) = ⊥
Agrees code st fs (Some b) None = ⊥
Agrees code st fs (Some b) (Some u) = Agree code st fs b u

-- Where frames stand for an environment, every name means the same to both: it is visible to both or to neither, and its pair leads to what it stands for.
abbrev pub PairsLead : Type 0
PairsLead = (code : Code) (st : Store) (env : Env) (fs : Frames) → Stand code st env fs → (x : Name) → Agrees code st fs (lookup x env) (find x (scope_of env))

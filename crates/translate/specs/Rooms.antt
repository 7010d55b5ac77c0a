-- The memory of names and code stays as long as it was.
use Rattle.std.specs.Prelude.{◌≡◌}
use Rattle.lang.specs.declared.code.Code.{Code}
use Rattle.lang.specs.Codes.{code_room, place_room}
use Rattle.lang.specs.Stacks.{room}
use Rattle.translate.specs.declared.scope.Scope.{Scope}
use Rattle.translate.specs.declared.checked.check.Checker.{Checker}
use Rattle.translate.specs.declared.checked.write.Writer.{Writer}

abbrev pub SameRoom : Code → Code → Type 0
SameRoom a b = (code_room b ≡ code_room a) × (place_room b ≡ place_room a)

-- a scope keeps its names in the same memory: a relation of two states, so each method states it by this one name,
-- since a ghost field can speak of only one state
abbrev pub KeepsNames : Scope → Scope → Type 0
KeepsNames a b = (b.names.ghost_name ≡ a.names.ghost_name) × (room b.names.now ≡ room a.names.now)

-- so does a checker
abbrev pub CheckerKeeps : Checker → Checker → Type 0
CheckerKeeps a b = (b.scope.ghost_name ≡ a.scope.ghost_name) × KeepsNames a.scope.now b.scope.now

-- and a writer, which keeps its code in the same memory too
abbrev pub WriterKeeps : Writer → Writer → Type 0
WriterKeeps a b = (b.scope.ghost_name ≡ a.scope.ghost_name) × KeepsNames a.scope.now b.scope.now × (b.code.ghost_name ≡ a.code.ghost_name) × SameRoom a.code.now b.code.now

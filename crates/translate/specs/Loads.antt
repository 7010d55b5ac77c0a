-- What a load leaves in memory.
use Rattle.std.specs.Prelude.{◌≡◌, ℕ, [], length, replicate, Ok, Err, Result}
use Rattle.lang.specs.declared.code.Code.{Code}
use Rattle.lang.specs.declared.refusal.Refused.{Refused}
use Rattle.lang.specs.declared.stack.Stack.{Stack}
use Rattle.lang.specs.Codes.{instructions_of}
use Rattle.lang.specs.Stacks.{held, room}
use Rattle.reader.specs.declared.tree.Tree.{Tree}
use Rattle.reader.specs.Nodes.{blank, nodes_of, node_room}
use Rattle.translate.specs.declared.record.Record.{Record}
use Rattle.translate.specs.declared.record.Record.TheVariants.{Known}
use Rattle.translate.specs.declared.record.Sort.TheVariants.{Constant}
use Rattle.translate.specs.Rooms.{SameRoom}

-- the zero record
abbrev pub no_record : Record
no_record = Known (record { bytes = replicate 16 0 }) (record { sort = Constant; level = 0; offset = 0 })

-- a refusal leaves the code as it was; else the length of the new code is answered
abbrev pub Answers : Result ℕ Refused → Code → Code → Type 0
Answers (Err e) a b = b ≡ a
Answers (Ok n) a b = (n ≡ length (instructions_of b)) × SameRoom a b

-- no node is left in the table
pub record WipedTree (a b : Tree) : Type 0 where
  pub none : b.used ≡ 0
  pub blanks : nodes_of b ≡ replicate (node_room a) blank

-- no name record is left
pub record WipedNames (a b : Stack Record) : Type 0 where
  pub none : held b ≡ []
  pub blanks : b.cells.now ≡ replicate (room a) no_record

-- The table of nodes.
use Rattle.std.specs.Prelude.{◌≡◌, ℕ, ◌+◌, cond, List, length, replicate, pos, nat_le, nat_lt, slice_set}
use Rattle.lang.specs.declared.name.Name.{Name}
use Rattle.reader.specs.declared.node.Label.TheVariants.{Number}
use Rattle.reader.specs.declared.node.Param.{Param}
use Rattle.reader.specs.declared.node.Info.{Info}
use Rattle.reader.specs.declared.node.Node.{Node}
use Rattle.reader.specs.declared.tree.Tree.{Tree}

abbrev pub no_name : Name
no_name = record { bytes = replicate 16 0 }

abbrev pub no_param : Param
no_param = record { name = no_name; at = 0 }

abbrev pub no_info : Info
no_info = record { label = Number (pos 0); place = 0; name = no_name; at = 0; count = 0; slot = 0; routines = 0; commands = 0; params = replicate 9 no_param }

-- the zero record
abbrev pub blank : Node
blank = record { info = no_info; start = 0 }

abbrev pub nodes_of : Tree → List Node
nodes_of t = t.nodes.now

abbrev pub node_room : Tree → ℕ
node_room t = length (nodes_of t)

-- after a node more: it stands at its number, unless that is past the table
pub record Added (a : Tree) (n : Node) (b : Tree) : Type 0 where
  pub counted : b.used ≡ cond (nat_le a.used 4096) (a.used + 1) a.used
  pub stored : nodes_of b ≡ cond (nat_lt a.used 4096) (slice_set (nodes_of a) a.used n) (nodes_of a)

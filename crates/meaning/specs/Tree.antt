-- The tree of a rule. Each node has the place of its construct first; where the name that it declares or calls stands elsewhere, that
-- name's place comes before the name. Lists are in the order of the text, and grow at their end.
use Rattle.std.specs.Prelude.{ℕ, suc, ◌+◌, Bool, List}
use Rattle.lang.specs.declared.name.Name.{Name}

-- how many bytes of the text stand before a word
abbrev pub Place : Type 0
Place = ℕ

-- `-` and `not`
pub data Sign : Type 0 where
  minus negate : Sign

-- `+`, `-`, `*`, `=` and `<`
pub data Operator : Type 0 where
  add sub mul equal less : Operator

-- both p q is `p and q`, either p q is `p or q`, local is `let` with its name's place, apply a function call
mutual
  pub data Expr : Type 0 where
    number : Place → ℕ → Expr
    truth : Place → Bool → Expr
    read : Place → Name → Expr
    signed : Place → Sign → Expr → Expr
    binary : Place → Operator → Expr → Expr → Expr
    both either : Place → Expr → Expr → Expr
    choose : Place → Expr → Expr → Expr → Expr
    local : Place → Place → Name → Expr → Expr → Expr
    apply : Place → Name → Args → Expr

  pub data Args : Type 0 where
    no_args : Args
    arg : Args → Expr → Args

-- a parameter's name
pub record Parameter : Type 0 where
  pub name : Name
  pub place : Place

-- a block's data: const ds p q x e has the data ds before it, stands at p, and declares x, which stands at q
pub data Data : Type 0 where
  no_data : Data
  const var : Data → Place → Place → Name → Expr → Data

-- perform p q x es is `call x(es);`, where x stands at q; a routine has those before it, its place, its name's place, its name, its parameters and its body
mutual
  pub data Command : Type 0 where
    block : Place → Data → Routines → Commands → Command
    assign : Place → Name → Expr → Command
    perform : Place → Place → Name → Args → Command
    fork : Place → Expr → Command → Command → Command
    while : Place → Expr → Command → Command

  pub data Commands : Type 0 where
    no_commands : Commands
    then : Commands → Command → Commands

  pub data Routines : Type 0 where
    no_routines : Routines
    fun : Routines → Place → Place → Name → List Parameter → Expr → Routines
    proc : Routines → Place → Place → Name → List Parameter → Command → Routines

-- how many args, data and routines there are
abbrev pub args : Args → ℕ
args no_args = 0
args (arg es e) = suc (args es)

abbrev pub data_slots : Data → ℕ
data_slots no_data = 0
data_slots (const ds p q x e) = suc (data_slots ds)
data_slots (var ds p q x e) = suc (data_slots ds)

abbrev pub routine_slots : Routines → ℕ
routine_slots no_routines = 0
routine_slots (fun rs p q x ps e) = suc (routine_slots rs)
routine_slots (proc rs p q x ps c) = suc (routine_slots rs)

-- The number of nodes of each part. A node's number is the count of the nodes that end before it.
unfoldable mutual
  pub nodes_e : Expr → ℕ
  nodes_e (number p n) = 1
  nodes_e (truth p b) = 1
  nodes_e (read p x) = 1
  nodes_e (signed p o e) = nodes_e e + 1
  nodes_e (binary p o e f) = nodes_e e + nodes_e f + 1
  nodes_e (both p e f) = nodes_e e + nodes_e f + 1
  nodes_e (either p e f) = nodes_e e + nodes_e f + 1
  nodes_e (choose p c e f) = nodes_e c + nodes_e e + nodes_e f + 1
  nodes_e (local p q x e f) = nodes_e e + nodes_e f + 1
  nodes_e (apply p x es) = nodes_a es + 1

  pub nodes_a : Args → ℕ
  nodes_a no_args = 0
  nodes_a (arg es e) = nodes_a es + nodes_e e

unfoldable pub nodes_d : Data → ℕ
nodes_d no_data = 0
nodes_d (const ds p q x e) = nodes_d ds + (nodes_e e + 1)
nodes_d (var ds p q x e) = nodes_d ds + (nodes_e e + 1)

unfoldable mutual
  pub nodes_c : Command → ℕ
  nodes_c (block p ds rs cs) = nodes_d ds + nodes_r rs + nodes_s cs + 1
  nodes_c (assign p x e) = nodes_e e + 1
  nodes_c (perform p q x es) = nodes_a es + 1
  nodes_c (fork p e c d) = nodes_e e + nodes_c c + nodes_c d + 1
  nodes_c (while p e c) = nodes_e e + nodes_c c + 1

  pub nodes_s : Commands → ℕ
  nodes_s no_commands = 0
  nodes_s (then cs c) = nodes_s cs + nodes_c c

  pub nodes_r : Routines → ℕ
  nodes_r no_routines = 0
  nodes_r (fun rs p q x ps e) = nodes_r rs + (nodes_e e + 1)
  nodes_r (proc rs p q x ps c) = nodes_r rs + (nodes_c c + 1)

-- The nodes that a node holds have lower numbers.
use Rattle.std.specs.Prelude.{◌≡◌, ℕ, ◌+◌, ◌<◌, ◌≤◌, List, Some, None, Option, slice_index, EachIndex}
use Rattle.translate.specs.declared.view.Expr.{Expr}
use Rattle.translate.specs.declared.view.Expr.TheVariants as expr
use Rattle.translate.specs.declared.view.Command.{Command}
use Rattle.translate.specs.declared.view.Command.TheVariants as command
use Rattle.translate.specs.declared.view.Datum.{Datum}
use Rattle.translate.specs.declared.view.Nodes.{Nodes}
use Rattle.translate.specs.declared.view.Routine.{Routine}

abbrev pub FallsLast : ℕ → Option (ℕ × ℕ) → Type 0
FallsLast n None = Unit {0}
FallsLast n (Some p) = (p.0 < n) × (p.1 + 1 ≡ n)

abbrev pub FallsBelow : ℕ → Option (List ℕ) → Type 0
FallsBelow n None = Unit {0}
FallsBelow n (Some ns) = EachIndex ns (λ k. slice_index ns k < n)

abbrev pub FallsExpr : ℕ → Option Expr → Type 0
FallsExpr n None = Unit {0}
FallsExpr n (Some (expr.Literal p v)) = Unit {0}
FallsExpr n (Some (expr.Read p x)) = Unit {0}
FallsExpr n (Some (expr.Unary p i e)) = e < n
FallsExpr n (Some (expr.Binary p i l r)) = (l < n) × (r < n)
FallsExpr n (Some (expr.Choose p c l r)) = (c < n) × (l < n) × (r < n)
FallsExpr n (Some (expr.Let p x e f)) = (e < n) × (f < n)
FallsExpr n (Some (expr.Call p x k es)) = es.end ≡ n

abbrev pub FallsCommand : ℕ → Option Command → Type 0
FallsCommand n None = Unit {0}
FallsCommand n (Some (command.Assign p x e)) = e < n
FallsCommand n (Some (command.Do p x q k es)) = es.end ≡ n
FallsCommand n (Some (command.If p c l r)) = (c < n) × (l < n) × (r < n)
FallsCommand n (Some (command.While p c b)) = (c < n) × (b < n)
FallsCommand n (Some (command.Block p k ds rs cs)) = (ds.end ≡ rs.start) × (rs.start ≤ rs.end) × (rs.end ≡ cs.start) × (cs.start ≤ cs.end) × (cs.end ≡ n)

abbrev pub FallsDatum : ℕ → Option Datum → Type 0
FallsDatum n None = Unit {0}
FallsDatum n (Some d) = (d.start < n) × (d.value < n)

abbrev pub FallsRoutine : ℕ → Option Routine → Type 0
FallsRoutine n None = Unit {0}
FallsRoutine n (Some d) = (d.start < n) × (d.body + 1 < n)

-- the last of a list, and the list before it
abbrev pub FallsSplit : ℕ → Option (ℕ × Nodes) → Type 0
FallsSplit n None = Unit {0}
FallsSplit n (Some p) = (p.0 < n) × (p.1.end < n)

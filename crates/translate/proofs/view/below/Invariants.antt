use Rattle.std.proofs.Common.{ℕ, ◌<◌, ◌≤◌, length, get_or}
use Rattle.translate.proofs.view.below.Given as goal

abbrev pub invariant-loop-i : goal.invariant-loop-i
invariant-loop-i g l = (l.rest ≤ l.fn.end) × ((k : ℕ) → l.i ≤ k → k < length l.nodes → get_or l.nodes k 0 < l.fn.end)

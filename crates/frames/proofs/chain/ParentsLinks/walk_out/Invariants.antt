use Rattle.std.proofs.Common.{◌≡◌}
use Rattle.frames.specs.Hops.{hop}
use Rattle.frames.specs.Chains.{single}
use Rattle.frames.proofs.chain.ParentsLinks.walk_out.Given as goal

abbrev pub invariant-loop : goal.invariant-loop
invariant-loop l = l.at ≡ hop (single l.self.parents.now) l.counter l.fn.from

use Rattle.std.proofs.Common.{◌<◌, ◌≤◌, length, ap, arith, length-set}
use Rattle.machine.proofs.Starts.{front_more}
use Rattle.machine.proofs.whole.starting.Goals as goal

pub loop-i-preserved : goal.loop-i-preserved
loop-i-preserved c =
    let es = c.entries-entry-items.result.now in
    let i = c.loop-i.i in
    let few : length es ≤ 32 = omega (arith, ap length c.entries-entry-items.ensures, c.len-count.ensures.value, c.len-count.ensures.few) in
    let within : i < length c.loop-i.table = omega (arith, c.loop-i.invariant.0, c.loop-i-test.true, few) in
    (simp length-set c.loop-i.invariant.0, front_more (λ e. e.value) c.loop-i.table es i _ within c.loop-i-test.true c.loop-i.invariant.1)

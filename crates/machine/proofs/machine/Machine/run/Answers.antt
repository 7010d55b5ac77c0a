use Rattle.std.proofs.Common.{◌≡◌, ◌+◌, ◌-◌, ◌<◌, ◌≤◌, sym, ap, ◌∙◌, arith}
use Rattle.meaning.specs.Machine.{go, stop, stuck, goes}
use Rattle.machine.specs.Shows.{seen}
use Rattle.machine.proofs.Steps.{goes_none, goes_then, goes_on}
use Rattle.machine.proofs.machine.Machine.run.Goals as goal
use Rattle.machine.proofs.machine.Machine.run.Goals.{in-Ended, in-Stop}

pub loop-done-init : goal.loop-done-init
loop-done-init g c = (omega arith, λ ps h r. (r, goes_none ps (seen g.F.ReadFrames.frames c.args.self.now)))

pub loop-done-preserved : goal.loop-done-preserved
loop-done-preserved g c =
    let frames = g.F.ReadFrames.frames in (
      omega (arith, c.in-On.ensures.0, c.loop-done.invariant.0),
      λ ps h r.
          let v = c.loop-done.invariant.1 ps h r in
          let d = c.in-On.ensures.1 ps h v.0 in
          (d.0, goes_on ps c.loop-done.done (seen frames c.args.self.now) (seen frames c.loop-done.self) (seen frames c.step.new.self) v.1 d.1),
    )

pub returns-in-loop-done : goal.returns-in-loop-done
returns-in-loop-done g c = λ ps h r.
    let i = c.loop-done.done in
    let n = c.args.budget in
    let frames = g.F.ReadFrames.frames in
    let a = seen frames c.args.self.now in
    let k = seen frames c.loop-done.self in
    let b = seen frames c.step.new.self in
    let v = c.loop-done.invariant.1 ps h r in
    let less : i < n = omega arith in
    elim c.match-step.branch [
      | in-Ended w ↦
          let d = w.in-Ended.ensures.1 ps h v.0 in
          let done : i ≡ b.steps - a.steps = omega (arith, w.in-Ended.ensures.0, c.loop-done.invariant.0) in
          let since : b.steps ≡ a.steps + (b.steps - a.steps) = omega (arith, w.in-Ended.ensures.0, c.loop-done.invariant.0) in
          let most : b.steps - a.steps ≤ n = omega (arith, done) in
          (d.0, rw w.outcome-is (ap (λ j. goes ps j a) (sym done) ∙ v.1 ∙ ap go (sym d.2.0), d.2.1, since, most))
      | in-Stop w ↦
          let f = w.in-Stop.fault in
          let p = w.in-Stop.place in
          let d = w.in-Stop.ensures.1 ps h v.0 in
          let since : b.steps ≡ a.steps + (b.steps - a.steps) = omega (arith, w.in-Stop.ensures.0.0, c.loop-done.invariant.0) in
          let most : b.steps - a.steps ≤ n = omega (arith, w.in-Stop.ensures.0.1, c.loop-done.invariant.0) in
          (d.0, rw w.outcome-is (goes_then ps i n a k (stop f p b.steps) less v.1 d.1 ∙ ap (stop f p) since, most))
    ]

pub returns-in-Stuck : goal.returns-in-Stuck
returns-in-Stuck g c = λ ps h r.
    let frames = g.F.ReadFrames.frames in
    let v = c.loop-done.invariant.1 ps h r in
    let d = c.in-Stuck.ensures.1 ps h v.0 in
    let less : c.loop-done.done < c.args.budget = omega arith in
    (d.0, goes_then ps c.loop-done.done c.args.budget (seen frames c.args.self.now) (seen frames c.loop-done.self) stuck less v.1 d.1)

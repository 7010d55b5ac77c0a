use Rattle.std.proofs.Common.{◌≡◌, ◌<◌, ◌∙◌, subst, arith}
use Rattle.lang.specs.Sheets.{entries_of}
use Rattle.meaning.specs.Limits.{most_steps}
use Rattle.meaning.specs.Machine.{Machine}
use Rattle.meaning.specs.Translation.{translated}
use Rattle.meaning.specs.Runs.{meaning, start}
use Rattle.machine.specs.Shows.{seen}
use Rattle.machine.specs.Runs.{Ends}
use Rattle.machine.proofs.Endings.{begun, ends_as, same_ran, left_as}
use Rattle.machine.proofs.whole.run_over.Goals as goal

pub returns : goal.returns
returns g c = λ t v h r.
    let es = entries_of c.args.sheet.now in
    let frames = g.F.ReadFrames.frames in
    let ran = c.run-ran.result in
    let e = meaning es t in
    let b = seen frames c.run-ran.new.self in
    let s = c.in_ok-begin.ensures r in
    let first : seen frames c.begin.new.self ≡ start es = s.2 ∙ begun es c.starting.result.now c.starting.ensures in
    let u = c.run-ran.ensures (translated es t) h s.0 in
    let most : most_steps < 1000001 = omega arith in
    let a = ends_as es t ran.steps 1000001 ran.outcome b v most (subst (λ (m : Machine). Ends ran.outcome ran.steps (translated es t) 1000001 m b) first u.1) in
    let k = c.clear.ensures u.0 in
    record {
      answer = same_ran es e ran b a;
      entries = left_as es (entries_of c.settle.new.sheet) e.outcome e.steps ran.outcome ran.steps b a (c.settle.ensures u.0);
      ready = k.0;
      empty = k.1;
    }

use Rattle.std.proofs.Common.{◌<◌, length, set, ap, ◌∙◌, arith, length-set}
use Rattle.lang.specs.Values.{slot_of}
use Rattle.frames.specs.Frames.{written}
use Rattle.machine.proofs.Starts.{frame, frame_written, front_more}
use Rattle.machine.proofs.machine.runs.put_all.Goals as goal

pub loop-offset-preserved : goal.loop-offset-preserved
loop-offset-preserved g c = λ s e.
    let o = c.loop-offset.offset in
    let v = c.loop-offset.invariant s e in
    let p = c.put.ensures v.0 in
    let within : o < length v.1 = omega (arith, v.3, c.loop-offset-test.true) in (
      p.0,
      set v.1 o _,
      p.2 ∙ ap (λ fs. (written fs 0 o c.from.result).after) v.2 ∙ ap (λ w. (written (frame v.1) 0 o w).after) c.from.ensures ∙ frame_written v.1 o _ within,
      simp length-set v.3,
      front_more slot_of v.1 c.args.values.now o _ within c.loop-offset-test.true v.4,
    )

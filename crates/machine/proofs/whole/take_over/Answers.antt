use Rattle.std.proofs.Common.{◌<◌, length, ap, ◌∙◌, arith}
use Rattle.lang.specs.Sheets.{entries_of, valued}
use Rattle.frames.specs.Frames.{got}
use Rattle.machine.specs.Shows.{value_got}
use Rattle.machine.proofs.Endings.{mixed_more, mixed_all, has_value}
use Rattle.machine.proofs.whole.take_over.Goals as goal

pub loop-i-preserved : goal.loop-i-preserved
loop-i-preserved g c = λ r fs k e.
    let es = entries_of c.args.sheet.now in
    let i = c.loop-i.i in
    let h : i < length es = omega (arith, c.len-i-end.ensures.value) in
    elim c.match-entry.branch [
      | goal.in-Some w ↦
          let v = w.in-Some.value in
          ap entries_of w.sheet-is ∙ w.overwrite.ensures ∙ ap (λ xs. valued xs i v) (c.loop-i.invariant r fs k e) ∙ mixed_more i es fs v k (w.in-Some.ensures r ∙ ap (λ x. value_got (got x 0 i)) e)
      | goal.in_default w ↦ absurd (has_value i es fs k h (w.in_default.ensures r ∙ ap (λ x. value_got (got x 0 i)) e))
    ]

pub returns : goal.returns
returns g c = λ r fs k e.
    let es = entries_of c.args.sheet.now in
    c.loop-i.invariant r fs k e ∙ mixed_all c.loop-i.i es fs k (omega (arith, c.len-i-end.ensures.value))

use Rattle.std.proofs.Common.{arith}
use Rattle.frames.proofs.Laid.{placed_some, placed_past}
use Rattle.frames.proofs.slots.FrameSlots.place.Goals as goal

pub returns-then-offset-end-clause-is : goal.returns-then-offset-end-clause-is
returns-then-offset-end-clause-is c = λ up h e.
    let m = c.args.self.now in
    let b = c.in_ok-start.ensures {u = tt} in
    let t = c.if-offset-end.true in
    placed_some up m.starts.now m.cells.now m.count m.used m.rising (omega (arith, m.small, m.cell_room)) c.args.frame h c.args.offset c.in_ok-start.start c.in_ok-start.end e.part e.within (b.is e.within) (omega arith)

pub returns-else-offset-end-clause-is : goal.returns-else-offset-end-clause-is
returns-else-offset-end-clause-is c = λ up h e.
    let m = c.args.self.now in
    let b = c.in_ok-start.ensures {u = tt} in
    let f = c.if-offset-end.false in
    let l = b.fit.0 in
    placed_past up m.starts.now m.cells.now m.count m.used m.rising (omega (arith, m.small, m.cell_room)) c.args.frame h c.args.offset c.in_ok-start.start c.in_ok-start.end e.part e.within (b.is e.within) (omega arith)

use Rattle.std.proofs.Common.{◌≡◌, arith}
use Rattle.frames.specs.Frames.{count, total}
use Rattle.frames.specs.Slots.{frames_in}
use Rattle.frames.proofs.Laid.{count-laid, total-laid, grown-wide}
use Rattle.frames.proofs.slots.FrameSlots.check_room.Goals as goal

pub returns-then-n-self : goal.returns-then-n-self
returns-then-n-self c = λ up gs.
    let m = c.args.self.now in
    let a : count (frames_in up m) ≡ m.count = count-laid up m.starts.now m.cells.now m.count m.used in
    let b : total (frames_in up m) ≡ m.used = total-laid up m.starts.now m.cells.now m.count m.used m.rising (omega (arith, m.small, m.cell_room)) in
    let f = c.if-self-ge256.false in
    let w = c.if-n-self.true in
    grown-wide (frames_in up m) gs c.args.n (omega arith) (omega (arith, m.small))

use Rattle.std.proofs.Common.{sym, arith}
use Rattle.frames.proofs.Laid.{total-laid}
use Rattle.frames.proofs.slots.FrameSlots.slot_count.Goals as goal

pub returns : goal.returns
returns c = λ up. let m = c.args.self.now in sym (total-laid up m.starts.now m.cells.now m.count m.used m.rising (omega (arith, m.small, m.cell_room)))

use Rattle.std.proofs.Common.{sym}
use Rattle.frames.proofs.Laid.{count-laid}
use Rattle.frames.proofs.slots.FrameSlots.frame_count.Goals as goal

pub returns-clause-all : goal.returns-clause-all
returns-clause-all c = λ up. let m = c.args.self.now in sym (count-laid up m.starts.now m.cells.now m.count m.used)

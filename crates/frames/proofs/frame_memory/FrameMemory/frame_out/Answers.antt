use Rattle.std.proofs.Common.{◌≡◌, ap, ◌∙◌, sym, subst}
use Rattle.frames.specs.Frames.{walk}
use Rattle.frames.specs.Hops.{Within, hop}
use Rattle.frames.specs.Slots.{part_in}
use Rattle.frames.proofs.Hops.{hop_within}
use Rattle.frames.proofs.Laid.{part-hop}
use Rattle.frames.proofs.frame_memory.FrameMemory.frame_out.Goals as goal

pub returns : goal.returns
returns g c = λ s.
    let m = c.args.self.now in
    let t = m.slots in
    let up = g.L.Links.up m.links in
    let last = c.newest.result in
    let w = (c.newest.ensures.last up).within in
    let e : c.walk_out.result ≡ hop up c.args.hops last = c.walk_out.ensures t.count t.few s w in
    record {
      part = ap (part_in up t) e ∙ part-hop up t.starts.now t.cells.now t.count t.used s.earlier c.args.hops last w ∙ ap (walk c.args.hops) (c.newest.ensures.last up).part;
      within = subst (λ r. Within r t.count) (sym e) (hop_within up t.count s.earlier c.args.hops last w);
    }

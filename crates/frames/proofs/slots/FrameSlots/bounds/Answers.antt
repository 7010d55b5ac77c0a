use Rattle.std.proofs.Common.{◌<◌, sym, subst, arith}
use Rattle.std.proofs.lemmas.Grind.{common_steps}
use Rattle.std.proofs.lemmas.List.{length-take-le}
use Rattle.frames.specs.Hops.{Within}
use Rattle.frames.proofs.Laid.{Bounds, bounds_fit}
use Rattle.frames.proofs.slots.FrameSlots.bounds.Goals as goal

pub returns : goal.returns
returns c =
    let m = c.args.self.now in
    let a = c.in_ok-start.ensures {u = tt} in
    let all = length-take-le m.count m.starts.now (omega (arith, m.few, m.start_room)) in
    let stands : c.in_ok-k.k < m.count = omega (arith, a.lookup.3.0) in
    let is : Within c.args.frame m.count → Bounds m.starts.now m.count m.used c.args.frame c.in_ok-start.field-0.now c.map_or-end.result = grind (arith, common_steps) in
    let within = subst (λ r. Within r m.count) (sym (c.in_ok-k.was {u = tt})) stands in
    record { is = is; fit = bounds_fit m.starts.now m.count m.used c.args.frame c.in_ok-start.field-0.now c.map_or-end.result m.rising within (is within) }

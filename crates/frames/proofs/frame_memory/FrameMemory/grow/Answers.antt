use Rattle.std.proofs.Common.{◌≡◌, ◌+◌, false, is_some, Some, None, Option, refl, ℕ, sym, ap, ◌∙◌, subst}
use Rattle.frames.specs.Frames.{deep, stands, fresh, done, ◌▷◌}
use Rattle.frames.specs.Hops.{before, Earlier, Linked, Same, Within, hop}
use Rattle.frames.specs.Slots.{frames_in, part_in}
use Rattle.frames.specs.declared.slots.FrameSlots.{FrameSlots}
use Rattle.frames.proofs.Laid.{part-hop, stands-part, newest-part, room-deep, room-done}
use Rattle.frames.proofs.frame_memory.FrameMemory.grow.Goals as goal

-- a chain is too deep where fifteen hops lead to a frame
deep_is : (up : ℕ → ℕ) (t : FrameSlots) (p r : Option ℕ) → Earlier up t.count → Within p t.count → r ≡ hop up 15 p → deep (part_in up t p) ≡ is_some r
deep_is up t p r earlier w e =
    ap stands (sym (part-hop up t.starts.now t.cells.now t.count t.used earlier 15 p w) ∙ ap (part_in up t) (sym e))
    ∙ stands-part up t.starts.now t.cells.now t.count t.used r

none_is : (r : Option ℕ) → is_some r ≡ false → r ≡ None
none_is None e = refl
none_is (Some x) e = cc

pub returns-then-is_some : goal.returns-then-is_some
returns-then-is_some g c = λ s w.
    let m = c.args.self.now in
    let up = g.L.Links.up m.links in
    let d = deep_is up m.slots c.args.parent c.walk_out.result s.earlier w (c.walk_out.ensures m.slots.count m.slots.few s w) in
    let e = room-deep up m.slots c.args.n c.in_ok-check_room.ensures (part_in up m.slots c.args.parent) (d ∙ sym c.if-is_some.ensures) in
    (s, ap (λ b. b.answer) e, ap (λ b. b.after) e)

pub returns : goal.returns
returns g c = λ s w.
    let m = c.args.self.now in
    let t = m.slots in
    let up = g.L.Links.up m.links in
    let up' = g.L.Links.up c.link.new.self in
    let parent = c.args.parent in
    let at : c.frame_count.result ≡ t.count = c.frame_count.ensures.is in
    let o : c.walk_out.result ≡ hop up 15 parent = c.walk_out.ensures t.count t.few s w in
    let d = deep_is up t parent c.walk_out.result s.earlier w o in
    let none : hop up 15 parent ≡ None = sym o ∙ none_is c.walk_out.result (sym c.if-is_some.ensures) in
    let linked = subst (Linked up (g.L.Links.right m.links)) (sym at) s in
    let within : Within parent c.frame_count.result = subst (Within parent) (sym at) w in
    let u = c.push.ensures in
    let p = newest-part up t.starts.now t.cells.now t.count t.used parent in
    let e = ap (λ q. done (frames_in up t ▷ fresh c.args.n q)) (sym p)
    ∙ room-done up t c.args.n c.in_ok-check_room.ensures (part_in up t parent) (d ∙ sym c.if-is_some.ensures) in (
      subst (Linked up' (g.L.Links.right c.link.new.self)) (sym (u.count ∙ ap (λ j. j + 1) (sym at))) (c.link.ensures.linked linked within none),
      ap (λ b. b.answer) e,
      u.frames up up' (subst (Same up up') at c.link.ensures.kept)
          ∙ ap (λ q. frames_in up t ▷ fresh c.args.n q) (ap (λ j. before (up' j)) (sym at) ∙ c.link.ensures.parent linked within)
          ∙ ap (λ b. b.after) e,
    )

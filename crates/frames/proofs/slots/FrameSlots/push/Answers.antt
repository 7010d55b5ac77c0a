use Rattle.std.proofs.Common.{◌≡◌, ◌+◌, ◌-◌, ◌++◌, length, take, replicate, refl, ap, ◌∙◌, arith, length-set, rules}
use Rattle.std.proofs.lemmas.List.Edits.{length-between}
use Rattle.std.proofs.lemmas.List.{length-replicate}
use Rattle.std.proofs.lemmas.Slice.{take-put_mid}
use Rattle.lang.specs.declared.value.Slot.TheVariants.{Unset}
use Rattle.frames.specs.Hops.{before}
use Rattle.frames.proofs.Laid.{laid_push, rises_push}
use Rattle.frames.proofs.slots.FrameSlots.push.Goals as goal

pub invariant_of-self-2 : goal.invariant_of-self-2
invariant_of-self-2 c =
    let m = c.args.self.now in
    record {
      start_room = simp length-set m.start_room;
      cell_room = search rules;
      few = omega (arith, c.requires.frames);
      small = omega (arith, c.requires.slots);
      rising = rises_push m.starts.now m.count m.used c.args.n (omega (arith, c.requires.frames, m.start_room)) m.rising;
    }

pub returns-clause-frames : goal.returns-clause-frames
returns-clause-frames c = λ up up' e.
    let m = c.args.self.now in
    let n = c.args.n in
    let ys = c.fill.new.self in
    let wide = length-between m.cells.now m.used (m.used + n) (omega (arith, c.requires.slots, m.cell_room)) in
    let unset : ys ≡ replicate n Unset = c.fill.ensures.after (λ y h. h) ∙ ap (λ j. replicate j Unset) (wide ∙ omega arith) in
    let many : length ys ≡ n = ap length unset ∙ length-replicate n Unset in
    let taken = take-put_mid m.used (m.used + n - m.used) m.cells.now ys (m.used + n) (omega arith) (omega (arith, m.small, m.cell_room)) in
    laid_push up up' m.starts.now m.cells.now _ m.count m.used n (before (up' m.count)) (omega (arith, c.requires.frames, m.start_room)) (omega (arith, m.small, m.cell_room)) refl e
    (taken ∙ ap (λ xs. take m.used m.cells.now ++ xs) unset) m.rising

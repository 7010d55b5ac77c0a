use Rattle.std.proofs.Common.{◌≡◌, ℕ, ◌≤◌, Some, sym, refl, ap, ◌∙◌, arith}
use Rattle.machine.specs.Shows.{seen}
use Rattle.machine.proofs.Steps.{none_held, some_held, step_of, step_past}
use Rattle.machine.proofs.machine.Machine.step.Goals as goal

pub returns-in_default : goal.returns-in_default
returns-in_default g c =
    let m = c.args.self.now in (
      refl,
      λ ps h r. let e = none_held _ ps m.at h (sym c.instruction.ensures ∙ c.in_default.is) in (r, step_past ps (seen g.F.ReadFrames.frames m) e.0, (refl, e.1)),
    )

pub returns-in_default-new : goal.returns-in_default-new
returns-in_default-new g c =
    let m = c.args.self.now in
    let same : m.steps ≤ m.steps = omega arith in (
      same,
      λ ps h r. let s = some_held _ ps m.at c.in-Some.what h (sym c.in-Some.ensures) in absurd (omega (arith, s.3, h.most, c.in_default-new.ensures)),
    )

pub returns-in-Ok : goal.returns-in-Ok
returns-in-Ok g c =
    let m = c.args.self.now in
    let what = c.in-Some.what in (
      c.in-Ok.ensures.0,
      λ ps h r.
          let s = some_held _ ps m.at what h (sym c.in-Some.ensures) in
          let d = c.in-Ok.ensures.1 r in
          (record { value_room = d.0.value_room; return_room = d.0.return_room; well = d.0.well }, step_of g.F.ReadFrames.frames ps _ m what s.0 _ c.in-Some-new.ensures s.1 (d.1 s.0), tt),
    )

pub returns-in-Err-Stuck : goal.returns-in-Err-Stuck
returns-in-Err-Stuck g c =
    let m = c.args.self.now in
    let what = c.in-Some.what in
    let did = rw c.in-Err-Stuck.field-0-is at c.in-Err-Stuck.ensures in (
      did.0,
      λ ps h r.
          let s = some_held _ ps m.at what h (sym c.in-Some.ensures) in
          let d = did.1 r in
          (d.0, step_of g.F.ReadFrames.frames ps _ m what s.0 _ c.in-Some-new.ensures s.1 (d.1 s.0), tt),
    )

pub returns-in-Some-place : goal.returns-in-Some-place
returns-in-Some-place g c =
    let m = c.args.self.now in
    let what = c.in-Some.what in
    let place = c.in-Some-place.place in
    let did = rw c.in-Err-Fault.field-0-is at c.in-Err-Fault.ensures in (
      did.0,
      λ ps h r.
          let s = some_held _ ps m.at what h (sym c.in-Some.ensures) in
          let q : s.0 ≡ place = cc (sym s.2 ∙ sym c.in-Some-place.ensures) in
          let d = did.1 r in
          (d.0, step_of g.F.ReadFrames.frames ps _ m what place _ c.in-Some-new.ensures (s.1 ∙ ap (λ p. Some (what, p)) q) (d.1 place), tt),
    )

pub returns-in-None : goal.returns-in-None
returns-in-None g c =
    let m = c.args.self.now in
    let did = rw c.in-Err-Fault.field-0-is at c.in-Err-Fault.ensures in (
      did.0.0,
      λ ps h r.
          let s = some_held _ ps m.at c.in-Some.what h (sym c.in-Some.ensures) in
          let z : ◌≡◌ {A = ℕ} 0 1 = cc (sym s.2 ∙ sym c.in-None.ensures) in
          absurd (omega arith),
    )

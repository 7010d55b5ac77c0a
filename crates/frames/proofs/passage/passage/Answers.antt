use Rattle.std.proofs.Common.{sym, ap, ◌∙◌}
use Rattle.frames.specs.Frames.{got}
use Rattle.frames.proofs.Passing.{read_back, not_refused}
use Rattle.frames.proofs.passage.passage.Goals as goal

pub returns-in_err-read : goal.returns-in_err-read
returns-in_err-read g c = λ s.
    let fr = g.F.ReadFrames.frames in
    let e1 = c.clear.ensures s in
    let e2 = c.in_ok-open.ensures e1.0 in
    let e3 = c.in_ok-put.ensures e2.0 in
    let e4 = c.in_ok-enter.ensures e3.0 in
    let q = read_back c.args.n c.args.offset c.args.value (fr c.clear.new.self) (fr c.open.new.self) (fr c.put.new.self) (fr c.enter.new.self) e1.1 e2.1 e2.2 e3.1 e3.2 e4.2 in
    absurd (not_refused (got (fr c.enter.new.self) 1 c.args.offset) c.in_err-read.field-0.0 c.args.value (c.in_err-read.ensures e4.0) q.0)

pub returns : goal.returns
returns g c = λ s.
    let fr = g.F.ReadFrames.frames in
    let e1 = c.clear.ensures s in
    let e2 = c.in_ok-open.ensures e1.0 in
    let e3 = c.in_ok-put.ensures e2.0 in
    let e4 = c.in_ok-enter.ensures e3.0 in
    let e6 = c.in_ok-leave.ensures e4.0 in
    let q = read_back c.args.n c.args.offset c.args.value (fr c.clear.new.self) (fr c.open.new.self) (fr c.put.new.self) (fr c.enter.new.self) e1.1 e2.1 e2.2 e3.1 e3.2 e4.2 in
    (e6.0, c.in_ok-read.ensures e4.0 ∙ q.0 ∙ ap (λ b. b.answer) (sym q.2), e6.2 ∙ q.1 ∙ ap (λ b. b.after) (sym q.2))

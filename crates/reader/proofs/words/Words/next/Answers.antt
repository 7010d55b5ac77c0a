use Rattle.std.proofs.Common.{rules, ◌≡◌, ◌+◌, ◌-◌, ap, ◌∙◌, drop, drop-drop, arith}
use Rattle.reader.proofs.Cut.{blank_step, takes_step}
use Rattle.reader.proofs.words.Words.next.Goals as goal

pub loop-place-preserved : goal.loop-place-preserved
loop-place-preserved c =
    let a = c.args.self.now in
    let l = c.loop-place in
    let p = c.pass.ensures in
    let f = rw c.in-Ok-None.field-0-is at c.in-Ok-None.ensures in
    let on : l.self.at - a.at + 1 ≡ c.pass.new.self.at - a.at = omega (arith, p.at, l.invariant.on) in
    record {
      words = rw (p.rest, p.at) (l.invariant.words ∙ blank_step l.self.rest.now l.self.at f.front);
      rest = p.rest ∙ ap (drop 1) l.invariant.rest ∙ drop-drop 1 (l.self.at - a.at) a.rest.now ∙ ap (λ n. drop n a.rest.now) on;
      on = search rules;
      whole = search rules;
    }

pub returns-in-Ok-Some-clause-words : goal.returns-in-Ok-Some-clause-words
returns-in-Ok-Some-clause-words c =
    let l = c.loop-place in
    let p = c.pass-bytes.ensures in
    let f = rw c.in-Ok-Some.field-0-is at c.in-Ok-Some.ensures in
    let n = f.inside in
    (rw (p.bytes, p.rest, p.at) (l.invariant.words ∙ takes_step l.self.rest.now l.self.at c.in-Ok-Some.kind c.in-Ok-Some.len n.0 f.front), omega (arith, n.0, l.invariant.on, p.at))

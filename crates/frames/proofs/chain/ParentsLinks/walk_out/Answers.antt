use Rattle.std.proofs.Common.{◌≡◌, ℕ, ◌+◌, ◌-◌, ◌≤◌, Some, None, Option, sym, ap, ◌∙◌, arith}
use Rattle.std.proofs.lemmas.List.{get_or_past}
use Rattle.frames.specs.Hops.{before, hop}
use Rattle.frames.specs.Chains.{single}
use Rattle.frames.proofs.Hops.{hop_none, hop_add}
use Rattle.frames.proofs.chain.ParentsLinks.walk_out.Goals as goal

module _ (up : ℕ → ℕ) (from : Option ℕ) (h hops : ℕ) where
  -- no frame lies outward from none
  ended : h ≤ hops → None ≡ hop up h from → None ≡ hop up hops from
  ended l e =
      let q : hops ≡ h + (hops - h) = omega arith in
      sym (hop_none up (hops - h)) ∙ ap (hop up (hops - h)) e ∙ sym (hop_add up h (hops - h) from) ∙ ap (λ i. hop up i from) (sym q)

  -- one hop more
  more : (k : ℕ) → Some k ≡ hop up h from → before (up k) ≡ hop up (h + 1) from
  more k e = ap (hop up 1) e ∙ sym (hop_add up h 1 from)

pub returns-in_err-at : goal.returns-in_err-at
returns-in_err-at c = λ n few links w.
    let l = c.loop-test.true in
    c.from_residual.ensures ∙ ended (single c.args.self.now.parents.now) c.args.from c.loop.counter c.args.hops (omega arith) (sym (c.in_err-at.was {u = tt}) ∙ c.loop.invariant)

pub returns-in_err-get : goal.returns-in_err-get
returns-in_err-get c = λ n few links w.
    let ps = c.args.self.now.parents.now in
    let k = c.in_ok-at.field-0 in
    let l = c.loop-test.true in
    let h = c.in_err-get.ensures {u = tt} in
    let past : None ≡ before (single ps k) = sym (ap before (get_or_past ps k 0 h.lookup.3)) in
    let m = more (single ps) c.args.from c.loop.counter c.args.hops k (sym (c.in_ok-at.was {u = tt}) ∙ c.loop.invariant) in
    c.from_residual-in_err-get.ensures ∙ ended (single ps) c.args.from (c.loop.counter + 1) c.args.hops (omega arith) (past ∙ m)

pub loop-preserved : goal.loop-preserved
loop-preserved c =
    let ps = c.args.self.now.parents.now in
    let k = c.in_ok-at.field-0 in
    let m = more (single ps) c.args.from c.loop.counter c.args.hops k (sym (c.in_ok-at.was {u = tt}) ∙ c.loop.invariant) in
    let h = c.in_ok-get.ensures {u = tt} in
    let link : c.in_ok-get.field-0.now ≡ single ps k = h.lookup.3.1 0 in
    c.decoded-at.ensures ∙ ap before link ∙ m

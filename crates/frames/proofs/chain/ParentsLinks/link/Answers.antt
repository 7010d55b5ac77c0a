use Rattle.std.proofs.Common.{◌≤◌, ◌≢◌, set, arith, below_more}
use Rattle.std.proofs.lemmas.List.{get_or-set_same, get_or-set_other}
use Rattle.frames.specs.Chains.{single}
use Rattle.frames.proofs.chain.ParentsLinks.link.Goals as goal

pub returns-clause-linked : goal.returns-clause-linked
returns-clause-linked c = λ linked w none.
    let ps = c.args.self.now.parents.now in
    let n = c.args.at in
    let link = c.encoded.result in
    let room = c.args.self.now.room in
    let own : single (set ps n link) n ≤ n = let e = get_or-set_same ps n link 0 (omega (arith, c.requires)) in omega (arith, c.encoded.ensures.under) in
    record {
      earlier = below_more (λ k. single (set ps n link) k ≤ k) n (λ k l. let ne : k ≢ n = omega arith in let e = get_or-set_other ps n k link 0 ne in let q = linked.earlier k l in omega arith) own;
      rest = λ k l. tt;
    }

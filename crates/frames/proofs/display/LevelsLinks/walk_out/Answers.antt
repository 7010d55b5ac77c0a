use Rattle.std.proofs.Common.{◌≡◌, ◌<◌, ◌≤◌, sym, ap, ◌∙◌, ⊎_elim}
use Rattle.std.proofs.lemmas.Bool.{cases_lt}
use Rattle.frames.specs.Hops.{before, hop}
use Rattle.frames.specs.Displays.{link_of, second}
use Rattle.frames.proofs.Hops.{within_more}
use Rattle.frames.proofs.Levels.{reach, beyond, link_under, before_link}
use Rattle.frames.proofs.display.LevelsLinks.walk_out.Goals as goal

pub returns : goal.returns
returns c = λ n few linked w.
    let lv = c.args.self.now.levels.now in
    let from = c.args.from in
    let h = c.args.hops in
    let e = c.level_above.ensures in
    let link = link_of from in
    let under : link ≤ n = link_under from n w in
    let start : hop (second lv) h (before link) ≡ hop (second lv) h from = ap (hop (second lv) h) (before_link from) in
    c.decoded.ensures ∙ ⊎_elim
    (λ (l : h < 16). ap before (e.near (within_more from n 256 w few) l) ∙ sym (reach lv n linked h link l under))
    (λ (l : 16 ≤ h). ap before (e.far l) ∙ sym (beyond lv n linked h link l under))
    (cases_lt h 16) ∙ start

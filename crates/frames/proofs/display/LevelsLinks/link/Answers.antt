use Rattle.std.proofs.Common.{◌≡◌, ℕ, ◌+◌, ◌*◌, ◌<◌, ◌≤◌, ◌≢◌, List, length, get_or, set, ap, ◌∙◌, arith}
use Rattle.std.proofs.lemmas.List.{get_or-set_same, get_or-set_other}
use Rattle.frames.specs.Hops.{hop}
use Rattle.frames.specs.Displays.{link_of, level, second, above}
use Rattle.frames.proofs.Levels.{row_push, link_under, before_link, shallow}
use Rattle.frames.proofs.display.LevelsLinks.link.Goals as goal

-- the frame's own number is written over a row that keeps those before it
module _ (lv mid : List ℕ) (n link : ℕ) (room : 4096 ≤ length mid) (few : n < 256)
    (same : (i : ℕ) → i ≤ n * 16 → get_or mid i 0 ≡ get_or lv i 0) (row : (h : ℕ) → h < 15 → level mid n (h + 1) ≡ above lv link h) where
  kept : (k h : ℕ) → k < n → h < 16 → level (set mid (n * 16) (n + 1)) k h ≡ level lv k h
  kept k h l hh = let ne : k * 16 + h ≢ n * 16 = omega arith in get_or-set_other mid (n * 16) (k * 16 + h) (n + 1) 0 ne ∙ same (k * 16 + h) (omega arith)

  own : level (set mid (n * 16) (n + 1)) n 0 ≡ n + 1
  own = let z : n * 16 + 0 ≡ n * 16 = omega arith in ap (λ i. get_or (set mid (n * 16) (n + 1)) i 0) z ∙ get_or-set_same mid (n * 16) (n + 1) 0 (omega arith)

  rest : (h : ℕ) → h < 15 → level (set mid (n * 16) (n + 1)) n (h + 1) ≡ above lv link h
  rest h l = let ne : n * 16 + (h + 1) ≢ n * 16 = omega arith in get_or-set_other mid (n * 16) (n * 16 + (h + 1)) (n + 1) 0 ne ∙ row h l

pub returns-clause-kept : goal.returns-clause-kept
returns-clause-kept c = λ k l.
    let mid = c.copy_row.new.self.levels.now in
    let ne : k * 16 + 1 ≢ c.args.at * 16 = omega arith in
    get_or-set_other mid (c.args.at * 16) (k * 16 + 1) (c.args.at + 1) 0 ne ∙ c.copy_row.ensures.kept (k * 16 + 1) (omega arith)

pub returns-clause-linked : goal.returns-clause-linked
returns-clause-linked c = λ linked w none.
    let lv = c.args.self.now.levels.now in
    let mid = c.copy_row.new.self.levels.now in
    let n = c.args.at in
    let parent = c.args.parent in
    let link = link_of parent in
    let u = link_under parent n w in
    let e = c.copy_row.ensures in
    let row = e.row w in
    row_push lv (set mid (n * 16) (n + 1)) n link linked u (kept lv mid n link c.copy_row.new.self.room c.requires e.kept row) (own lv mid n link c.copy_row.new.self.room c.requires e.kept row)
    (rest lv mid n link c.copy_row.new.self.room c.requires e.kept row)
    (shallow lv n linked link u (ap (hop (second lv) 15) (before_link parent) ∙ none))

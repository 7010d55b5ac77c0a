use Rattle.std.proofs.Common.{rules, ◌≡◌, ◌+◌, List, drop, None, Some, Option, sym, ap, ◌∙◌}
use Rattle.lang.specs.declared.sheet.Entry.{Entry}
use Rattle.lang.specs.Sheets.{entries_of, sheet_after, sheet_from}
use Rattle.lang.proofs.Sheets.{after_next, after_none}
use Rattle.lang.proofs.sheet.Sheet.new.Goals as goal

pub returns-in_err-add_described : goal.returns-in_err-add_described
returns-in_err-add_described c =
    let ds = c.args.entries.now in
    let i = c.loop-described.described-index in
    let here = c.loop-described.invariant ∙ after_next (Some (entries_of c.loop-described.sheet)) ds i _ c.loop-described-test.true in
    let none : ◌≡◌ {A = Option (List Entry)} None (sheet_from ds) =
    sym (here ∙ ap (λ s. sheet_after s (drop (i + 1) ds)) (sym c.in_err-add_described.ensures.0) ∙ after_none (drop (i + 1) ds))
    in
    search rules

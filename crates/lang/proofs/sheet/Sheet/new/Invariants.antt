use Rattle.std.proofs.Common.{◌≡◌, drop, Some}
use Rattle.lang.specs.Sheets.{entries_of, sheet_from, sheet_after}
use Rattle.lang.proofs.sheet.Sheet.new.Given as goal

abbrev pub invariant-loop-described : goal.invariant-loop-described
invariant-loop-described l = sheet_from l.entries ≡ sheet_after (Some (entries_of l.sheet)) (drop l.described-index l.entries)

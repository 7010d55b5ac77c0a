use Rattle.std.proofs.Common.{rules, Some, sym, ap, ◌∙◌}
use Rattle.lang.specs.Sheets.{entries_of}
use Rattle.lang.proofs.Held.{take_of_set}
use Rattle.lang.proofs.Sheets.{told_some}
use Rattle.lang.proofs.sheet.Sheet.set.Goals as goal

pub returns : goal.returns
returns c =
    ap Some (take_of_set c.args.self.now.count c.args.number c.args.self.now.entries _)
    ∙ sym (told_some (entries_of c.args.self.now) c.args.number c.in_ok-entry.entry c.args.value (search rules) c.if-not-alike.ensures)

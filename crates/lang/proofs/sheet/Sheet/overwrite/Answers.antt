use Rattle.std.proofs.Common.{◌∙◌}
use Rattle.lang.specs.Sheets.{entries_of}
use Rattle.lang.proofs.Held.{take_of_set}
use Rattle.lang.proofs.Sheets.{valued_some, valued-none}
use Rattle.lang.proofs.sheet.Sheet.overwrite.Goals as goal

pub returns-in_default : goal.returns-in_default
returns-in_default c = valued-none (entries_of c.args.self.now) c.args.number c.args.value c.in_default.ensures.value

pub returns : goal.returns
returns c =
    take_of_set c.args.self.now.count c.args.number c.args.self.now.entries _
    ∙ valued_some (entries_of c.args.self.now) c.args.number c.in-Some.entry c.args.value c.in-Some.ensures.value

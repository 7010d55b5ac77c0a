-- What the sheet's entries and the data of a block are declared as.
use Rattle.lang.specs.declared.sheet.Mark.{Mark}
use Rattle.lang.specs.declared.sheet.Mark.TheVariants.{Given, Kept}
use Rattle.lang.specs.declared.instruction.Binding.{Binding}
use Rattle.lang.specs.declared.instruction.Binding.TheVariants as binding
use Rattle.translate.specs.declared.record.Sort.{Sort}
use Rattle.translate.specs.declared.record.Sort.TheVariants as sort

-- a given entry is a constant, a kept one a variable
abbrev pub mark_sort : Mark → Sort
mark_sort Given = sort.Constant
mark_sort Kept = sort.Variable

abbrev pub binding_sort : Binding → Sort
binding_sort binding.Constant = sort.Constant
binding_sort binding.Variable = sort.Variable

-- What a judged rule leaves of the sheet.
use Rattle.std.specs.Prelude.{◌≡◌, Ok, Err, Result}
use Rattle.lang.specs.declared.refusal.Refusal.{Refusal}
use Rattle.lang.specs.declared.refusal.Refused.{Refused}
use Rattle.lang.specs.declared.sheet.Sheet.{Sheet}
use Rattle.machine.specs.declared.outcome.Ran.{Ran}

-- a refused text leaves the sheet as it was
abbrev pub Judged : Result (Result Ran Refused) Refusal → Sheet → Sheet → Type 0
Judged (Ok (Err e)) a b = b ≡ a
Judged (Ok (Ok r)) a b = Unit {0}
Judged (Err e) a b = Unit {0}

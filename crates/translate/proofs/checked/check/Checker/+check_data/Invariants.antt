use Rattle.translate.proofs.checked.check.Checker.+check_data.Given as goal

abbrev pub decreases-check_data : goal.decreases-check_data
decreases-check_data l = l.«data».end

use Rattle.translate.proofs.checked.write.Writer.+write_data.Given as goal

abbrev pub decreases-write_data : goal.decreases-write_data
decreases-write_data l = l.«data».end

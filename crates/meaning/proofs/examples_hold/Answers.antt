use Rattle.std.proofs.Common.{refl}
use Rattle.meaning.specs.Violations.{wrong_e, wrong_a, wrong_d, wrong_n, wrong_c, wrong_s, wrong_r}
use Rattle.meaning.specs.Translation.{code_e, code_a, code_d, code_c, code_s, code_r}
use Rattle.meaning.specs.Uses.{uses_e, uses_a, uses_d, uses_c, uses_s, uses_r}
use Rattle.meaning.specs.Meaning.{eval_e, eval_a, calls, eval_d, eval_c, eval_s, runs}
use Rattle.meaning.proofs.examples_hold.Goals as goal

pub returns : goal.returns
unfolding wrong_e wrong_a wrong_d wrong_n wrong_c wrong_s wrong_r code_e code_a code_d code_c code_s code_r uses_e uses_a uses_d uses_c uses_s uses_r eval_e eval_a calls eval_d eval_c eval_s runs
returns c = (refl, refl, refl, refl, refl, refl, refl, refl)

use Rattle.std.proofs.Common.{refl}
use Rattle.std.proofs.lemmas.List.{take_all}
use Rattle.reader.proofs.words.check_words.Goals as goal

pub loop-init : goal.loop-init
loop-init c = rw (c.over-words.ensures.0, c.over-words.ensures.1, take_all 32768 c.args.text.now c.if-text-gt-MOST_BYTES.false) refl

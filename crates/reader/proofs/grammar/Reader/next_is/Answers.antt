use Rattle.std.proofs.Common.{rules, ◌≡◌, Bool, false, Option, Some, None, refl}
use Rattle.lang.specs.declared.word.Kind.{Kind}
use Rattle.lang.specs.Kinds.{same_kind}
use Rattle.reader.specs.declared.words.Word.{Word}
use Rattle.reader.specs.Looking.{next_is}
use Rattle.reader.proofs.grammar.Reader.next_is.Goals as goal

by_case : (o : Option Word) (k : Kind) (r : Bool) → (None ≡ o → r ≡ false) → ((w : Word) → Some w ≡ o → r ≡ same_kind w.kind k) → r ≡ next_is o k
by_case None k r n s = n refl
by_case (Some w) k r n s = s w refl

pub returns : goal.returns
returns c = by_case c.args.self.now.word c.args.kind c.is_some_and.result (λ e. search rules) (λ w e. search rules)

-- The machine in steps, each of them a value: what one word does comes first, and then the machine goes on.
use mathlib.Core.Bool.{cond}
use mathlib.Core.List.{List, [], ◌∷◌, ◌++◌}
use mathlib.Core.Option.{Option, some, none}
use lib.Dec.{leb}
use Rattle.lang.specs.declared.word.Kind.{Kind}
use Rattle.lang.specs.declared.refusal.Refusal.TheVariants.{Unexpected, NestTooDeep}
use Rattle.lang.specs.Kinds.{same_kind}
use Rattle.grammar.specs.Words.{Word}
use Rattle.grammar.specs.Machine.{Part, tok, line, leave, depth, Means, Alts, over, empty, word, begins, enters, Out, fine, bad, front, rear, nothing}

-- what a word does: it is taken, and these parts still have to come; it cannot be read; or nothing is read before it
pub data Step {L : Type 0} (V : L → Type 0) (T : Type 0) : Type 0 where
  take : (ps : List (Part L)) → (Word → Means V ps → T) → Step V T
  stop : Step V T
  pass : T → Step V T

abbrev pub both : {A B : Type 0} → Option A → Option B → Option (A × B)
both none y = none
both (some x) none = none
both (some x) (some y) = some (x, y)

module _ {L : Type 0} (V : L → Type 0) where
  abbrev pub further : {T R : Type 0} → Step V R → (ps : List (Part L)) → (Word → R → Means V ps → T) → Step V T → Step V T
  further (take qs f) ps b s = take (qs ++ ps) (λ w a. b w (f w (front V qs ps a)) (rear V qs ps a))
  further stop ps b s = s
  further (pass x) ps b s = s

  abbrev pub inside : {T R : Type 0} → Step V R → (R → T) → Step V T
  inside (take qs f) b = take (qs ++ leave ∷ []) (λ w a. b (f w (front V qs (leave ∷ []) a)))
  inside stop b = stop
  inside (pass x) b = stop

  abbrev pub at : {l : L} → Alts V l → Kind → Step V (V l)
  at over k = stop
  at (empty t) k = pass t
  at (word j ps b more) k = cond (same_kind j k) (take ps b) (at more k)
  at (begins inner ps b more) k = further (at inner k) ps b (at more k)
  at (enters inner b) k = inside (at inner k) b

  abbrev pub then : {A : Type 0} → Step V A → (ps : List (Part L)) → Step V (Means V ps) → Step V (A × Means V ps)
  then (take qs f) ps s = take (qs ++ ps) (λ w a. (f w (front V qs ps a), rear V qs ps a))
  then stop ps s = stop
  then (pass x) ps (take qs f) = take qs (λ w a. (x, f w a))
  then (pass x) ps stop = stop
  then (pass x) ps (pass y) = pass (x, y)

  module _ (rules : (l : L) → Alts V l) where
    abbrev pub shift : (ps : List (Part L)) → Kind → Step V (Means V ps)
    shift [] k = pass tt
    shift (tok j ∷ ps) k = cond (same_kind j k) (take ps (λ w a. (w, a))) stop
    shift (line l ∷ ps) k = then (at (rules l) k) ps (shift ps k)
    shift (leave ∷ ps) k = shift ps k

    abbrev pub ending : (ps : List (Part L)) → Option (Means V ps)
    ending [] = some tt
    ending (tok j ∷ ps) = none
    ending (line l ∷ ps) = both (nothing V (rules l)) (ending ps)
    ending (leave ∷ ps) = ending ps

    abbrev pub finish : {A T : Type 0} → Option A → (A → T) → Out T
    finish (some a) f = fine (f a)
    finish none f = bad Unexpected []

    -- the machine: ps is still to come, and f says what it all means then
    abbrev pub run : {T : Type 0} → (ws : List Word) (ps : List (Part L)) → (Means V ps → T) → Out T
    run [] ps f = finish (ending ps) f
    run (w ∷ ws) ps f = elim (shift ps w.kind) [
      | take qs g ↦ let r = run ws qs (λ a. f (g w a)) in cond (leb (depth qs) 64) r (bad NestTooDeep (w ∷ ws))
      | stop ↦ bad Unexpected (w ∷ ws)
      | pass a ↦ bad Unexpected (w ∷ ws)
    ]

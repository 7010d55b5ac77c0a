-- A stack machine on words for every table of lines: what a word does to the parts that are still to come.
use Rattle.std.specs.Prelude.{cond, List, [], ◌∷◌, ◌++◌, ℕ, suc, nat_le}
use Rattle.std.proofs.Math.Option.{Option, some, none}
use Rattle.lang.specs.declared.word.Kind.{Kind}
use Rattle.lang.specs.declared.refusal.Refusal.{Refusal}
use Rattle.lang.specs.declared.refusal.Refusal.TheVariants.{Unexpected, NestTooDeep}
use Rattle.lang.specs.Kinds.{same_kind}
use Rattle.grammar.specs.Words.{Word}

-- a part still to come: a word, a line, the end of a line that counts for the nest
pub data Part (L : Type 0) : Type 0 where
  tok : Kind → Part L
  line : L → Part L
  leave : Part L

-- the lines not yet left
abbrev pub depth : {L : Type 0} → List (Part L) → ℕ
depth [] = 0
depth (tok k ∷ ps) = depth ps
depth (line l ∷ ps) = depth ps
depth (leave ∷ ps) = suc (depth ps)

-- what the parts ps mean, one for each: V gives what a line means
abbrev pub Means : {L : Type 0} → (L → Type 0) → List (Part L) → Type 0
Means V [] = Unit {0}
Means V (tok k ∷ ps) = Word × Means V ps
Means V (line l ∷ ps) = V l × Means V ps
Means V (leave ∷ ps) = Means V ps

-- the alternatives of a line: each begins with a word or, with all its alternatives, with another line, then parts follow;
-- the last may be nothing at all. A whole line may count for the nest.
pub data Alts {L : Type 0} (V : L → Type 0) : L → Type 0 where
  over : {l : L} → Alts V l
  empty : {l : L} → V l → Alts V l
  word : {l : L} → Kind → (ps : List (Part L)) → (Word → Means V ps → V l) → Alts V l → Alts V l
  begins : {l m : L} → Alts V m → (ps : List (Part L)) → (Word → V m → Means V ps → V l) → Alts V l → Alts V l
  enters : {l m : L} → Alts V m → (V m → V l) → Alts V l

-- a tree, or a refusal and the words that were left when it was given
pub data Out (T : Type 0) : Type 0 where
  fine : T → Out T
  bad : Refusal → List Word → Out T

-- with what is read as nothing, if it may be
abbrev pub skip : {A T : Type 0} → Option A → List Word → (A → Out T) → Out T
skip none ws f = bad Unexpected ws
skip (some t) ws f = f t

module _ {L : Type 0} (V : L → Type 0) where
  -- what the first parts mean, and what those after them do
  abbrev pub front : (ps qs : List (Part L)) → Means V (ps ++ qs) → Means V ps
  front [] qs a = tt
  front (tok k ∷ ps) qs a = (a.0, front ps qs a.1)
  front (line l ∷ ps) qs a = (a.0, front ps qs a.1)
  front (leave ∷ ps) qs a = front ps qs a

  abbrev pub rear : (ps qs : List (Part L)) → Means V (ps ++ qs) → Means V qs
  rear [] qs a = a
  rear (tok k ∷ ps) qs a = rear ps qs a.1
  rear (line l ∷ ps) qs a = rear ps qs a.1
  rear (leave ∷ ps) qs a = rear ps qs a

  -- what a line that is read as nothing means
  abbrev pub nothing : {l : L} → Alts V l → Option (V l)
  nothing over = none
  nothing (empty t) = some t
  nothing (word j ps b more) = nothing more
  nothing (begins inner ps b more) = nothing more
  nothing (enters inner b) = none

  -- the word w begins one of some alternatives, and then parts of it and the parts ps are to come: go goes on with them. s is for a word that begins none.
  module _ {T : Type 0} (w : Word) (go : (ps : List (Part L)) → (Means V ps → T) → Out T) where
    abbrev pub pick : {l : L} → Alts V l → (ps : List (Part L)) → (V l → Means V ps → T) → Out T → Out T
    pick over ps f s = s
    pick (empty t) ps f s = s
    pick (word j qs b more) ps f s = cond (same_kind j w.kind) (go (qs ++ ps) (λ a. f (b w (front qs ps a)) (rear qs ps a))) (pick more ps f s)
    pick (begins inner qs b more) ps f s = pick inner (qs ++ ps) (λ t a. f (b w t (front qs ps a)) (rear qs ps a)) (pick more ps f s)
    pick (enters inner b) ps f s = pick inner (leave ∷ ps) (λ t a. f (b t) a) s

  module _ (rules : (l : L) → Alts V l) where
    -- the parts ps are to come, and the word w, the first of ws, is next
    abbrev pub next : {T : Type 0} (w : Word) (go : (ps : List (Part L)) → (Means V ps → T) → Out T) (ws : List Word) (ps : List (Part L)) → (Means V ps → T) → Out T
    next w go ws [] f = bad Unexpected ws
    next w go ws (tok j ∷ ps) f = cond (same_kind j w.kind) (go ps (λ a. f (w, a))) (bad Unexpected ws)
    next w go ws (line l ∷ ps) f = pick w go (rules l) ps (λ t a. f (t, a)) (skip (nothing (rules l)) ws (λ t. next w go ws ps (λ a. f (t, a))))
    next w go ws (leave ∷ ps) f = next w go ws ps f

    -- the parts ps are to come, and there is no word
    abbrev pub end : {T : Type 0} (ps : List (Part L)) → (Means V ps → T) → Out T
    end [] f = fine (f tt)
    end (tok j ∷ ps) f = bad Unexpected []
    end (line l ∷ ps) f = skip (nothing (rules l)) [] (λ t. end ps (λ a. f (t, a)))
    end (leave ∷ ps) f = end ps f

    -- the machine: the parts ps are to come, and f says what all means then
    abbrev pub run : {T : Type 0} (ws : List Word) (ps : List (Part L)) → (Means V ps → T) → Out T
    run [] ps f = end ps f
    run (w ∷ ws) ps f = next w (λ qs g. cond (nat_le (depth qs) 64) (run ws qs g) (bad NestTooDeep (w ∷ ws))) (w ∷ ws) ps f

-- What a table derives, and that the machine's steps are derivations.
use mathlib.Core.Path.{◌≡◌, refl, ap}
use mathlib.Core.List.{List, [], ◌∷◌, ◌++◌}
use Prim.Native.Nat.{ℕ, suc, ◌≤◌}
use native.Mathlib.Omega.{arith}
use Rattle.lang.specs.declared.word.Kind.{Kind}
use Rattle.grammar.specs.Words.{Word, Is}
use Rattle.grammar.specs.Grammar.{Within}
use Rattle.grammar.specs.Machine.{Part, tok, line, leave, depth, Means, Alts, empty, word, begins, enters, front, rear}

-- parts, from one nest to another; or one of some alternatives
pub data Goal {L : Type 0} (V : L → Type 0) : Type 0 where
  parts : ℕ → ℕ → List (Part L) → Goal V
  alts : {l : L} → ℕ → Alts V l → Goal V

abbrev pub Meant : {L : Type 0} {V : L → Type 0} → Goal V → Type 0
Meant {V = V} (parts h n ps) = Means V ps
Meant {V = V} (alts {l} n us) = V l

pub data D {L : Type 0} (V : L → Type 0) (rules : (l : L) → Alts V l) (k : ℕ) : (g : Goal V) → List Word → List Word → Meant g → Type 0 where
  nil : {n : ℕ} {ws : List Word} → D V rules k (parts n n []) ws ws tt
  a_tok : {h n : ℕ} {j : Kind} {ps : List (Part L)} {w : Word} {ws r : List Word} {a : Means V ps} → Is j w → D V rules k (parts h n ps) ws r a → D V rules k (parts h n (tok j ∷ ps)) (w ∷ ws) r (w, a)
  a_line : {h n : ℕ} {l : L} {ps : List (Part L)} {ws us r : List Word} {t : V l} {a : Means V ps} → D V rules k (alts h (rules l)) ws us t → D V rules k (parts h n ps) us r a → D V rules k (parts h n (line l ∷ ps)) ws r (t, a)
  a_leave : {h n : ℕ} {ps : List (Part L)} {ws r : List Word} {a : Means V ps} → D V rules k (parts h n ps) ws r a → D V rules k (parts (suc h) n (leave ∷ ps)) ws r a
  here-empty : {n : ℕ} {l : L} {t : V l} {ws : List Word} → D V rules k (alts n (empty t)) ws ws t
  here-word : {h n : ℕ} {l : L} {j : Kind} {ps : List (Part L)} {b : Word → Means V ps → V l} {more : Alts V l} {w : Word} {ws r : List Word} {a : Means V ps}
      → Is j w → D V rules k (parts h n ps) ws r a → D V rules k (alts n (word j ps b more)) (w ∷ ws) r (b w a)
  here-line : {h n : ℕ} {l m : L} {inner : Alts V m} {ps : List (Part L)} {b : Word → V m → Means V ps → V l} {more : Alts V l} {w : Word} {ws us r : List Word} {t : V m} {a : Means V ps}
      → D V rules k (alts h inner) (w ∷ ws) us t → D V rules k (parts h n ps) us r a → D V rules k (alts n (begins inner ps b more)) (w ∷ ws) r (b w t a)
  here_enter : {n : ℕ} {l m : L} {inner : Alts V m} {b : V m → V l} {ws r : List Word} {t : V m}
      → Within k (suc n) ws → D V rules k (alts (suc n) inner) ws r t → D V rules k (alts n (enters inner b)) ws r (b t)
  later_word : {n : ℕ} {l : L} {j : Kind} {ps : List (Part L)} {b : Word → Means V ps → V l} {more : Alts V l} {ws r : List Word} {t : V l}
      → D V rules k (alts n more) ws r t → D V rules k (alts n (word j ps b more)) ws r t
  later_line : {n : ℕ} {l m : L} {inner : Alts V m} {ps : List (Part L)} {b : Word → V m → Means V ps → V l} {more : Alts V l} {ws r : List Word} {t : V l}
      → D V rules k (alts n more) ws r t → D V rules k (alts n (begins inner ps b more)) ws r t

module _ {L : Type 0} (V : L → Type 0) (rules : (l : L) → Alts V l) where
  -- parts in two halves
  pub record Halves (k : ℕ) (h n : ℕ) (ps qs : List (Part L)) (ws r : List Word) (a : Means V (ps ++ qs)) : Type 0 where
    pub mid : ℕ
    pub between : List Word
    pub one : D V rules k (parts h mid ps) ws between (front V ps qs a)
    pub two : D V rules k (parts mid n qs) between r (rear V ps qs a)

  pub split : {k : ℕ} (ps qs : List (Part L)) {h n : ℕ} {ws r : List Word} {a : Means V (ps ++ qs)} → D V rules k (parts h n (ps ++ qs)) ws r a → Halves k h n ps qs ws r a
  split [] qs d = record { mid = _; between = _; one = nil; two = d }
  split (tok j ∷ ps) qs (a_tok e d) = let s = split ps qs d in record { mid = s.mid; between = s.between; one = a_tok e s.one; two = s.two }
  split (line l ∷ ps) qs (a_line e d) = let s = split ps qs d in record { mid = s.mid; between = s.between; one = a_line e s.one; two = s.two }
  split (leave ∷ ps) qs (a_leave d) = let s = split ps qs d in record { mid = s.mid; between = s.between; one = a_leave s.one; two = s.two }

  abbrev pub joined : (ps qs : List (Part L)) → Means V ps → Means V qs → Means V (ps ++ qs)
  joined [] qs a b = b
  joined (tok j ∷ ps) qs a b = (a.0, joined ps qs a.1 b)
  joined (line l ∷ ps) qs a b = (a.0, joined ps qs a.1 b)
  joined (leave ∷ ps) qs a b = joined ps qs a b

  pub front-joined : (ps qs : List (Part L)) (a : Means V ps) (b : Means V qs) → front V ps qs (joined ps qs a b) ≡ a
  front-joined [] qs a b = refl
  front-joined (tok j ∷ ps) qs a b = ap (λ x. (a.0, x)) (front-joined ps qs a.1 b)
  front-joined (line l ∷ ps) qs a b = ap (λ x. (a.0, x)) (front-joined ps qs a.1 b)
  front-joined (leave ∷ ps) qs a b = front-joined ps qs a b

  pub rear-joined : (ps qs : List (Part L)) (a : Means V ps) (b : Means V qs) → rear V ps qs (joined ps qs a b) ≡ b
  rear-joined [] qs a b = refl
  rear-joined (tok j ∷ ps) qs a b = rear-joined ps qs a.1 b
  rear-joined (line l ∷ ps) qs a b = rear-joined ps qs a.1 b
  rear-joined (leave ∷ ps) qs a b = rear-joined ps qs a b

  pub join : {k : ℕ} (ps qs : List (Part L)) {h m n : ℕ} {ws us r : List Word} {a : Means V ps} {b : Means V qs}
      → D V rules k (parts h m ps) ws us a → D V rules k (parts m n qs) us r b → D V rules k (parts h n (ps ++ qs)) ws r (joined ps qs a b)
  join [] qs nil e = e
  join (tok j ∷ ps) qs (a_tok x d) e = a_tok x (join ps qs d e)
  join (line l ∷ ps) qs (a_line x d) e = a_line x (join ps qs d e)
  join (leave ∷ ps) qs (a_leave d) e = a_leave (join ps qs d e)

  -- nest falls along parts
  pub falls : {k : ℕ} (ps : List (Part L)) {h n : ℕ} {ws r : List Word} {a : Means V ps} → D V rules k (parts h n ps) ws r a → n ≤ h
  falls [] nil = omega arith
  falls (tok j ∷ ps) (a_tok x d) = falls ps d
  falls (line l ∷ ps) (a_line x d) = falls ps d
  falls (leave ∷ ps) (a_leave d) = omega (arith, falls ps d)

  pub is_depth : {k : ℕ} (ps : List (Part L)) {h : ℕ} {ws r : List Word} {a : Means V ps} → D V rules k (parts h 0 ps) ws r a → h ≡ depth ps
  is_depth [] nil = refl
  is_depth (tok j ∷ ps) (a_tok x d) = is_depth ps d
  is_depth (line l ∷ ps) (a_line x d) = is_depth ps d
  is_depth (leave ∷ ps) (a_leave d) = ap suc (is_depth ps d)

  pub nests : {k : ℕ} (ps : List (Part L)) {h n : ℕ} {ws r : List Word} {a : Means V ps} → D V rules k (parts h n ps) ws r a → depth ps ≡ 0 → h ≡ n
  nests [] nil e = refl
  nests (tok j ∷ ps) (a_tok x d) e = nests ps d e
  nests (line l ∷ ps) (a_line x d) e = nests ps d e
  nests (leave ∷ ps) (a_leave d) e = absurd (omega (arith, e))

  pub no_words : {k : ℕ} {h n : ℕ} {ws r : List Word} {a : Unit {0}} → D V rules k (parts h n []) ws r a → ws ≡ r
  no_words nil = refl

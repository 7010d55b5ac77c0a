-- What the machine takes is derived.
use mathlib.Core.Path.{◌≡◌, refl, subst}
use mathlib.Core.Bool.{Bool, true, false, cond}
use mathlib.Core.List.{List, [], ◌∷◌}
use mathlib.Core.Option.{Option, some, none}
use Prim.Native.Nat.{ℕ, suc}
use native.Mathlib.Omega.{arith}
use Rattle.lang.specs.Kinds.{same_kind}
use Rattle.grammar.specs.Words.{Word}
use Rattle.grammar.specs.Grammar.{Within}
use Rattle.grammar.specs.Machine.{Part, tok, line, leave, depth, Means, Alts, over, empty, word, begins, enters, front, rear, nothing}
use Rattle.grammar.proofs.Stepper.{Step, take, stop, pass, both, further, inside, at, then, shift, ending}
use Rattle.grammar.proofs.Derive.{Goal, parts, alts, Meant, D, nil, a_tok, a_line, a_leave, here-empty, here-word, here-line, here_enter, later_word, later_line, split, falls, is_depth}

module _ {L : Type 0} (V : L → Type 0) (rules : (l : L) → Alts V l) where
  abbrev pub D' : ℕ → (g : Goal V) → List Word → List Word → Meant g → Type 0
  D' k g ws r a = D V rules k g ws r a

  -- what a step must give: from what follows the word, the whole; and from a step over nothing, nothing
  abbrev pub Backs : {T : Type 0} → ℕ → ℕ → Word → List Word → List Word → Step V T → (T → Type 0) → (T → Type 0) → Type 0
  Backs k n w ws r (take qs f) P Q = (h : ℕ) (a : Means V qs) → Within k h (w ∷ ws) → D' k (parts h n qs) ws r a → P (f w a)
  Backs k n w ws r stop P Q = Unit {0}
  Backs k n w ws r (pass t) P Q = Q t

  -- a test, with its answer
  by_test : {A : Type 0} (C : A → Type 0) (b : Bool) (x y : A) → (b ≡ true → C x) → C y → C (cond b x y)
  by_test C true x y p q = p refl
  by_test C false x y p q = q

  weaker : {T : Type 0} (k n : ℕ) (w : Word) (ws r : List Word) {P Q P' Q' : T → Type 0} (s : Step V T) → ((t : T) → P t → P' t) → ((t : T) → Q t → Q' t) → Backs k n w ws r s P Q → Backs k n w ws r s P' Q'
  weaker k n w ws r (take qs f) p q g = λ h a o d. p _ (g h a o d)
  weaker k n w ws r stop p q g = tt
  weaker k n w ws r (pass t) p q g = q t g

  abbrev Whole : {l : L} → ℕ → ℕ → Word → List Word → List Word → Alts V l → V l → Type 0
  Whole k n w ws r us t = D' k (alts n us) (w ∷ ws) r t

  abbrev Naught : {l : L} → ℕ → ℕ → Alts V l → V l → Type 0
  Naught k n us t = (vs : List Word) → D' k (alts n us) vs vs t

  back_further : {l m : L} (k n : ℕ) (w : Word) (ws r : List Word) (inner : Alts V m) (ps : List (Part L)) (b : Word → V m → Means V ps → V l) (more : Alts V l) (s : Step V (V m)) (s' : Step V (V l))
      → ((h : ℕ) (us : List Word) → Backs k h w ws us s (Whole k h w ws us inner) (Naught k h inner)) → Backs k n w ws r s' (Whole k n w ws r more) (Naught k n more)
      → Backs k n w ws r (further V s ps b s') (Whole k n w ws r (begins inner ps b more)) (Naught k n (begins inner ps b more))
  back_further k n w ws r inner ps b more (take qs f) s' i g = λ h a o d.
      let x = split V rules qs ps d in
      here-line (i x.mid x.between h _ o x.one) x.two
  back_further k n w ws r inner ps b more stop s' i g = weaker k n w ws r s' (λ t d. later_line d) (λ t d vs. later_line (d vs)) g
  back_further k n w ws r inner ps b more (pass t) s' i g = weaker k n w ws r s' (λ t d. later_line d) (λ t d vs. later_line (d vs)) g

  unleave : {k h n : ℕ} {ws r : List Word} {a : Unit {0}} → D' k (parts h n (leave ∷ [])) ws r a → (h ≡ suc n) × (ws ≡ r)
  unleave (a_leave nil) = (refl, refl)

  back_inside : {l m : L} (k n : ℕ) (w : Word) (ws r : List Word) (inner : Alts V m) (b : V m → V l) (s : Step V (V m))
      → ((us : List Word) → Backs k (suc n) w ws us s (Whole k (suc n) w ws us inner) (Naught k (suc n) inner))
      → Backs k n w ws r (inside V s b) (Whole k n w ws r (enters inner b)) (Naught k n (enters inner b))
  back_inside k n w ws r inner b (take qs f) i = λ h a o d.
      let x = split V rules qs (leave ∷ []) d in
      let u = unleave x.two in
      let e = subst (λ m. D' k (parts h m qs) ws x.between (front V qs (leave ∷ []) a)) u.0 x.one in
      let e' = subst (λ us. D' k (parts h (suc n) qs) ws us (front V qs (leave ∷ []) a)) u.1 e in
      here_enter (λ z. omega (arith, o z, falls V rules qs e')) (i r h _ o e')
  back_inside k n w ws r inner b stop i = tt
  back_inside k n w ws r inner b (pass t) i = tt

  pub back_alts : {l : L} (k n : ℕ) (w : Word) (ws r : List Word) (us : Alts V l) → Backs k n w ws r (at V us w.kind) (Whole k n w ws r us) (Naught k n us)
  back_alts k n w ws r over = tt
  back_alts k n w ws r (empty t) = λ vs. here-empty
  back_alts k n w ws r (word j ps b more) =
      by_test (λ s. Backs k n w ws r s (Whole k n w ws r (word j ps b more)) (Naught k n (word j ps b more))) (same_kind j w.kind) (take ps b) (at V more w.kind)
      (λ e h a o d. here-word e d) (weaker k n w ws r (at V more w.kind) (λ t d. later_word d) (λ t d vs. later_word (d vs)) (back_alts k n w ws r more))
  back_alts k n w ws r (begins inner ps b more) =
      back_further k n w ws r inner ps b more (at V inner w.kind) (at V more w.kind) (λ h us. back_alts k h w ws us inner) (back_alts k n w ws r more)
  back_alts k n w ws r (enters inner b) = back_inside k n w ws r inner b (at V inner w.kind) (λ us. back_alts k (suc n) w ws us inner)

  -- the whole stack
  abbrev All : ℕ → List (Part L) → List Word → Type 0
  All k ps ws = (a : Means V ps) × D' k (parts (depth ps) 0 ps) ws [] a

  abbrev pub Stack : ℕ → Word → List Word → (ps : List (Part L)) → Means V ps → Type 0
  Stack k w ws ps a = D' k (parts (depth ps) 0 ps) (w ∷ ws) [] a

  abbrev pub Any : {T : Type 0} → T → Type 0
  Any t = Unit {0}

  back_then : (k : ℕ) (w : Word) (ws : List Word) (l : L) (ps : List (Part L)) (s : Step V (V l)) (s' : Step V (Means V ps))
      → ((n : ℕ) (us : List Word) → Backs k n w ws us s (Whole k n w ws us (rules l)) (Naught k n (rules l))) → Backs k 0 w ws [] s' (Stack k w ws ps) Any
      → Backs k 0 w ws [] (then V s ps s') (Stack k w ws (line l ∷ ps)) Any
  back_then k w ws l ps (take qs f) s' i g = λ h a o d.
      let x = split V rules qs ps d in
      let e = is_depth V rules ps x.two in
      a_line (i (depth ps) x.between h _ o (subst (λ m. D' k (parts h m qs) ws x.between (front V qs ps a)) e x.one))
      (subst (λ m. D' k (parts m 0 ps) x.between [] (rear V qs ps a)) e x.two)
  back_then k w ws l ps stop s' i g = tt
  back_then k w ws l ps (pass t) (take qs f) i g = λ h a o d. a_line (i (depth ps) (w ∷ ws) (w ∷ ws)) (g h a o d)
  back_then k w ws l ps (pass t) stop i g = tt
  back_then k w ws l ps (pass t) (pass x) i g = tt

  pub back : (k : ℕ) (w : Word) (ws : List Word) (ps : List (Part L)) → Backs k 0 w ws [] (shift V rules ps w.kind) (Stack k w ws ps) Any
  back k w ws [] = tt
  back k w ws (tok j ∷ ps) = by_test (λ s. Backs k 0 w ws [] s (Stack k w ws (tok j ∷ ps)) Any) (same_kind j w.kind) (take ps (λ v a. (v, a))) stop
      (λ e h a o d. a_tok e (subst (λ m. D' k (parts m 0 ps) ws [] a) (is_depth V rules ps d) d)) tt
  back k w ws (line l ∷ ps) = back_then k w ws l ps (at V (rules l) w.kind) (shift V rules ps w.kind) (λ n us. back_alts k n w ws us (rules l)) (back k w ws ps)
  back k w ws (leave ∷ ps) = weaker k 0 w ws [] (shift V rules ps w.kind) (λ t d. a_leave d) (λ t d. tt) (back k w ws ps)

  -- nothing is read where nothing may be
  pub naught : {l : L} (k n : ℕ) (us : Alts V l) (t : V l) → nothing V us ≡ some t → Naught k n us t
  naught k n over t e = absurd (no_some e)
    where
      no_some : {A : Type 0} {t : A} → none ≡ some t → ⊥
      no_some e = let z : ◌≡◌ {A = ℕ} 0 1 = cc in omega arith
  naught k n (empty x) t e = subst (Naught k n (empty x)) (the_some e) (λ vs. here-empty)
    where
      the_some : {A : Type 0} {x t : A} → some x ≡ some t → x ≡ t
      the_some e = cc
  naught k n (word j ps b more) t e = λ vs. later_word (naught k n more t e vs)
  naught k n (begins inner ps b more) t e = λ vs. later_line (naught k n more t e vs)
  naught k n (enters inner b) t e = let z : ◌≡◌ {A = ℕ} 0 1 = cc in absurd (omega arith)

  -- the machine's end
  abbrev pub Ended : (ps : List (Part L)) → Option (Means V ps) → Type 0
  Ended ps none = Unit {0}
  Ended ps (some a) = (k : ℕ) → D' k (parts (depth ps) 0 ps) [] [] a

  ended-both : (l : L) (ps : List (Part L)) (x : Option (V l)) (y : Option (Means V ps)) → nothing V (rules l) ≡ x → Ended ps y → Ended (line l ∷ ps) (both x y)
  ended-both l ps none y e f = tt
  ended-both l ps (some x) none e f = tt
  ended-both l ps (some x) (some y) e f = λ k. a_line (naught k _ (rules l) x e []) (f k)

  pub ended : (ps : List (Part L)) → Ended ps (ending V rules ps)
  ended [] = λ k. nil
  ended (tok j ∷ ps) = tt
  ended (line l ∷ ps) = ended-both l ps (nothing V (rules l)) (ending V rules ps) refl (ended ps)
  ended (leave ∷ ps) = step (ending V rules ps) (ended ps)
    where
      step : (x : Option (Means V ps)) → Ended ps x → Ended (leave ∷ ps) x
      step none e = tt
      step (some a) e = λ k. a_leave (e k)

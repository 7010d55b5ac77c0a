-- What is derived the machine takes, and as it is derived, if one word ahead decides.
use mathlib.Core.Path.{◌≡◌, refl, sym, ap, subst, ◌∙◌}
use mathlib.Core.Bool.{Bool, true, false, cond}
use mathlib.Core.List.{List, [], ◌∷◌, ◌++◌}
use mathlib.Core.Option.{some, none}
use Prim.Native.Nat.{ℕ, suc}
use native.Mathlib.Omega.{arith}
use borrow.Author.Tests.{clash}
use Rattle.lang.specs.declared.word.Kind.{Kind}
use Rattle.lang.specs.Kinds.{same_kind}
use Rattle.grammar.specs.Words.{Word}
use Rattle.grammar.specs.Grammar.{Within}
use Rattle.grammar.specs.Machine.{Part, tok, line, leave, depth, Means, Alts, over, empty, word, begins, enters, rear, nothing}
use Rattle.grammar.proofs.Stepper.{Step, take, stop, pass, both, further, inside, at, then, shift, ending}
use Rattle.grammar.proofs.Derive.{Goal, parts, alts, Meant, D, nil, a_tok, a_line, a_leave, here-empty, here-word, here-line, here_enter, later_word, later_line, join, joined, front-joined, rear-joined, nests, no_words}

pub data Came (A B : Type 0) : Type 0 where
  consumed : A → Came A B
  passed : B → Came A B

no_some : {A B : Type 0} {t : A} → none ≡ some t → B
no_some e = let z : ◌≡◌ {A = ℕ} 0 1 = cc in absurd (omega arith)

on_true : {A : Type 0} (C : A → Type 0) (b : Bool) (x y : A) → b ≡ true → C x → C (cond b x y)
on_true C true x y e c = c
on_true C false x y e c = absurd (clash e)

on_false : {A : Type 0} (C : A → Type 0) (b : Bool) (x y : A) → (b ≡ true → ⊥) → C y → C (cond b x y)
on_false C true x y e c = absurd (e refl)
on_false C false x y e c = c

module _ {L : Type 0} (V : L → Type 0) where
  abbrev pub takes : {T : Type 0} → Step V T → Bool
  takes (take qs f) = true
  takes stop = false
  takes (pass t) = false

  -- one word ahead decides between alternatives, and a line that begins another is not empty
  abbrev pub LL : {l : L} → Alts V l → Type 0
  LL over = Unit {0}
  LL (empty t) = Unit {0}
  LL (word j ps b more) = ((k : Kind) → same_kind j k ≡ true → takes (at V more k) ≡ false) × (depth ps ≡ 0) × LL more
  LL (begins inner ps b more) = ((k : Kind) → takes (at V inner k) ≡ true → takes (at V more k) ≡ false) × (depth ps ≡ 0) × (nothing V inner ≡ none) × LL inner × LL more
  LL (enters inner b) = (nothing V inner ≡ none) × LL inner

  past_further : {R T : Type 0} (C : Step V T → Type 0) (s : Step V R) (ps : List (Part L)) (b : Word → R → Means V ps → T) (s' : Step V T) → (takes s ≡ true → ⊥) → C s' → C (further V s ps b s')
  past_further C (take qs f) ps b s' e c = absurd (e refl)
  past_further C stop ps b s' e c = c
  past_further C (pass x) ps b s' e c = c

  passes : {l : L} (us : Alts V l) (k : Kind) (t : V l) → takes (at V us k) ≡ false → nothing V us ≡ some t → at V us k ≡ pass t
  passes over k t h e = no_some e
  passes (empty x) k t h e = ap pass (the_some e)
    where
      the_some : {A : Type 0} {x t : A} → some x ≡ some t → x ≡ t
      the_some e = cc
  passes (word j ps b more) k t h e = on (same_kind j k) h (λ x. passes more k t x e)
    where
      on : (c : Bool) → takes (cond c (take ps b) (at V more k)) ≡ false → (takes (at V more k) ≡ false → at V more k ≡ pass t) → cond c (take ps b) (at V more k) ≡ pass t
      on true h i = absurd (clash (sym h))
      on false h i = i h
  passes (begins inner ps b more) k t h e = on (at V inner k) h (λ x. passes more k t x e)
    where
      on : (s : Step V _) → takes (further V s ps b (at V more k)) ≡ false → (takes (at V more k) ≡ false → at V more k ≡ pass t) → further V s ps b (at V more k) ≡ pass t
      on (take qs f) h i = absurd (clash (sym h))
      on stop h i = i h
      on (pass x) h i = i h
  passes (enters inner b) k t h e = no_some e

  module _ (rules : (l : L) → Alts V l) where
    abbrev D' : ℕ → (g : Goal V) → List Word → List Word → Meant g → Type 0
    D' k g ws r a = D V rules k g ws r a

    -- the word was taken in a step from the nest e, and what follows it is derived
    abbrev pub Took : {T : Type 0} → ℕ → ℕ → ℕ → Word → List Word → List Word → Step V T → T → Type 0
    Took k e n w ws r (take qs f) t = (h : ℕ) × (a : Means V qs) × D' k (parts h n qs) ws r a × (f w a ≡ t) × (Within k e (w ∷ ws) → Within k h (w ∷ ws))
    Took k e n w ws r stop t = ⊥
    Took k e n w ws r (pass x) t = ⊥

    took_takes : {T : Type 0} (k e n : ℕ) (w : Word) (ws r : List Word) (s : Step V T) (t : T) → Took k e n w ws r s t → takes s ≡ true
    took_takes k e n w ws r (take qs f) t x = refl
    took_takes k e n w ws r stop t x = absurd x
    took_takes k e n w ws r (pass y) t x = absurd x

    took_further : {R T : Type 0} (k n : ℕ) (w : Word) (ws us r : List Word) (s : Step V R) (t : R) (ps : List (Part L)) (b : Word → R → Means V ps → T) (a : Means V ps) (s' : Step V T)
        → Took k n n w ws us s t → D' k (parts n n ps) us r a → Took k n n w ws r (further V s ps b s') (b w t a)
    took_further k n w ws us r (take qs f) t ps b a s' x d = (
      x.0,
      joined V rules qs ps x.1 a,
      join V rules qs ps x.2 d,
      ap (λ z. b w (f w z) (rear V qs ps (joined V rules qs ps x.1 a))) (front-joined V rules qs ps x.1 a) ∙ ap (λ z. b w (f w x.1) z) (rear-joined V rules qs ps x.1 a) ∙ ap (λ z. b w z a) x.3,
      x.4,
    )
    took_further k n w ws us r stop t ps b a s' x d = absurd x
    took_further k n w ws us r (pass y) t ps b a s' x d = absurd x

    took_inside : {R T : Type 0} (k n : ℕ) (w : Word) (ws r : List Word) (s : Step V R) (t : R) (b : R → T)
        → Within k (suc n) (w ∷ ws) → Took k (suc n) (suc n) w ws r s t → Took k n n w ws r (inside V s b) (b t)
    took_inside k n w ws r (take qs f) t b o x =
        (x.0, joined V rules qs (leave ∷ []) x.1 tt, join V rules qs (leave ∷ []) x.2 (a_leave nil), ap b (ap (f w) (front-joined V rules qs (leave ∷ []) x.1 tt) ∙ x.3), λ z. x.4 o)
    took_inside k n w ws r stop t b o x = absurd x
    took_inside k n w ws r (pass y) t b o x = absurd x

    abbrev Forth : {l : L} → ℕ → ℕ → Word → List Word → List Word → Alts V l → V l → Type 0
    Forth k n w ws r us t = Came (Took k n n w ws r (at V us w.kind) t) ((r ≡ w ∷ ws) × (nothing V us ≡ some t))

    forth_alts : {l : L} (k n : ℕ) (w : Word) (ws r : List Word) (us : Alts V l) (t : V l) → LL us → D' k (alts n us) (w ∷ ws) r t → Forth k n w ws r us t
    forth_alts k n w ws r over t q d = elim d [ ]
    forth_alts k n w ws r (empty x) t q here-empty = passed (refl, refl)
    forth_alts k n w ws r (word j ps b more) t q (here-word {a = a} e d) =
        consumed (on_true (λ s. Took k n n w ws r s (b w a)) (same_kind j w.kind) (take ps b) (at V more w.kind) e
        (n, a, subst (λ h. D' k (parts h n ps) ws r a) (nests V rules ps d q.1) d, refl, λ o. o))
    forth_alts k n w ws r (word j ps b more) t q (later_word d) = on (forth_alts k n w ws r more t q.2 d)
      where
        on : Forth k n w ws r more t → Forth k n w ws r (word j ps b more) t
        on (consumed x) = consumed (on_false (λ s. Took k n n w ws r s t) (same_kind j w.kind) (take ps b) (at V more w.kind)
            (λ e. clash (sym (q.0 w.kind e) ∙ took_takes k n n w ws r (at V more w.kind) t x)) x)
        on (passed x) = passed x
    forth_alts k n w ws r (begins inner ps b more) t q (here-line {h = h} {us = us} {t = x} {a = a} d e) =
        let z = nests V rules ps e q.1 in
        on (forth_alts k n w ws us inner x q.3 (subst (λ h. D' k (alts h inner) (w ∷ ws) us x) z d)) (subst (λ h. D' k (parts h n ps) us r a) z e)
      where
        on : Forth k n w ws us inner x → D' k (parts n n ps) us r a → Forth k n w ws r (begins inner ps b more) (b w x a)
        on (consumed y) e = consumed (took_further k n w ws us r (at V inner w.kind) x ps b a (at V more w.kind) y e)
        on (passed y) e = no_some (sym q.2 ∙ y.1)
    forth_alts k n w ws r (begins inner ps b more) t q (later_line d) = on (forth_alts k n w ws r more t q.4 d)
      where
        on : Forth k n w ws r more t → Forth k n w ws r (begins inner ps b more) t
        on (consumed x) = consumed (past_further (λ s. Took k n n w ws r s t) (at V inner w.kind) ps b (at V more w.kind)
            (λ e. clash (sym (q.0 w.kind e) ∙ took_takes k n n w ws r (at V more w.kind) t x)) x)
        on (passed x) = passed x
    forth_alts k n w ws r (enters inner b) t q (here_enter {t = x} o d) = on (forth_alts k (suc n) w ws r inner x q.1 d)
      where
        on : Forth k (suc n) w ws r inner x → Forth k n w ws r (enters inner b) (b x)
        on (consumed y) = consumed (took_inside k n w ws r (at V inner w.kind) x b o y)
        on (passed y) = no_some (sym q.0 ∙ y.1)

    -- nothing derives the end but what may be nothing
    pub ends_alts : {l : L} (k n : ℕ) (r : List Word) (us : Alts V l) (t : V l) → LL us → D' k (alts n us) [] r t → (r ≡ []) × (nothing V us ≡ some t)
    ends_alts k n r over t q d = elim d [ ]
    ends_alts k n r (empty x) t q here-empty = (refl, refl)
    ends_alts k n r (word j ps b more) t q (later_word d) = ends_alts k n r more t q.2 d
    ends_alts k n r (begins inner ps b more) t q (later_line d) = ends_alts k n r more t q.4 d
    ends_alts k n r (enters inner b) t q (here_enter d o) = no_some (sym q.0 ∙ (ends_alts k (suc n) r inner _ q.1 o).1)

    module _ (ll : (l : L) → LL (rules l)) where
      pub ends : (k h : ℕ) (ps : List (Part L)) (a : Means V ps) → D' k (parts h 0 ps) [] [] a → ending V rules ps ≡ some a
      ends k h [] a nil = refl
      ends k h (tok j ∷ ps) a d = elim d [ ]
      ends k h (line l ∷ ps) a (a_line {us = us} {t = t} {a = b} d e) =
          let x = ends_alts k h us (rules l) t (ll l) d in
          let y = ends k h ps b (subst (λ us. D' k (parts h 0 ps) us [] b) x.0 e) in
          ap (λ z. both z (ending V rules ps)) x.1 ∙ ap (both (some t)) y
      ends k h (leave ∷ ps) a (a_leave d) = ends k _ ps a d

      -- whether parts that words of F follow can begin with a word
      abbrev on_step : {T : Type 0} → Step V T → Bool → Bool
      on_step (take qs f) x = true
      on_step stop x = false
      on_step (pass t) x = x

      abbrev pub starts : (Kind → Bool) → List (Part L) → Kind → Bool
      starts F [] k = F k
      starts F (tok j ∷ ps) k = same_kind j k
      starts F (line l ∷ ps) k = on_step (at V (rules l) k) (starts F ps k)
      starts F (leave ∷ ps) k = starts F ps k

      starts-append : (G : Kind → Bool) (ps qs : List (Part L)) (k : Kind) → starts G (ps ++ qs) k ≡ starts (starts G qs) ps k
      starts-append G [] qs k = refl
      starts-append G (tok j ∷ ps) qs k = refl
      starts-append G (line l ∷ ps) qs k = ap (on_step (at V (rules l) k)) (starts-append G ps qs k)
      starts-append G (leave ∷ ps) qs k = starts-append G ps qs k

      starts_more : (F G : Kind → Bool) → ((k : Kind) → G k ≡ true → F k ≡ true) → (ps : List (Part L)) (k : Kind) → starts G ps k ≡ true → starts F ps k ≡ true
      starts_more F G h [] k e = h k e
      starts_more F G h (tok j ∷ ps) k e = e
      starts_more F G h (line l ∷ ps) k e = on (at V (rules l) k) e (starts_more F G h ps k)
        where
          on : {T : Type 0} (s : Step V T) → on_step s (starts G ps k) ≡ true → (starts G ps k ≡ true → starts F ps k ≡ true) → on_step s (starts F ps k) ≡ true
          on (take qs f) e i = refl
          on stop e i = e
          on (pass t) e i = i e
      starts_more F G h (leave ∷ ps) k e = starts_more F G h ps k e

      abbrev pub none_of : Kind → Bool
      none_of k = false

      takes-starts : (ps : List (Part L)) (k : Kind) → takes (shift V rules ps k) ≡ true → starts none_of ps k ≡ true
      takes-starts [] k e = e
      takes-starts (tok j ∷ ps) k e = on (same_kind j k) e
        where
          on : (c : Bool) → takes {T = Means V (tok j ∷ ps)} (cond c (take ps (λ v a. (v, a))) stop) ≡ true → c ≡ true
          on true e = refl
          on false e = e
      takes-starts (line l ∷ ps) k e = on (at V (rules l) k) (shift V rules ps k) e (takes-starts ps k)
        where
          on : {A : Type 0} (s : Step V A) (s' : Step V (Means V ps)) → takes (then V s ps s') ≡ true → (takes s' ≡ true → starts none_of ps k ≡ true) → on_step s (starts none_of ps k) ≡ true
          on (take qs f) s' e i = refl
          on stop s' e i = e
          on (pass x) (take qs f) e i = i refl
          on (pass x) stop e i = absurd (clash e)
          on (pass x) (pass y) e i = absurd (clash e)
      takes-starts (leave ∷ ps) k e = takes-starts ps k e

      module _ (follow : L → Kind → Bool) where
        -- in parts that words of F follow, only words that may follow a line follow it
        abbrev pub Good : (Kind → Bool) → List (Part L) → Type 0
        Good F [] = Unit {0}
        Good F (tok j ∷ ps) = Good F ps
        Good F (line l ∷ ps) = ((k : Kind) → starts F ps k ≡ true → follow l k ≡ true) × Good F ps
        Good F (leave ∷ ps) = Good F ps

        -- so it is in the alternatives of a line that words of F follow
        abbrev pub Keeps : {l : L} → (Kind → Bool) → Alts V l → Type 0
        Keeps F over = Unit {0}
        Keeps F (empty t) = Unit {0}
        Keeps F (word j ps b more) = Good F ps × Keeps F more
        Keeps F (begins inner ps b more) = Keeps (starts F ps) inner × Good F ps × Keeps F more
        Keeps F (enters inner b) = Keeps F inner

        good_more : (F G : Kind → Bool) → ((k : Kind) → G k ≡ true → F k ≡ true) → (ps : List (Part L)) → Good F ps → Good G ps
        good_more F G h [] g = tt
        good_more F G h (tok j ∷ ps) g = good_more F G h ps g
        good_more F G h (line l ∷ ps) g = (λ k e. g.0 k (starts_more F G h ps k e), good_more F G h ps g.1)
        good_more F G h (leave ∷ ps) g = good_more F G h ps g

        good_append : (G : Kind → Bool) (ps qs : List (Part L)) → Good (starts G qs) ps → Good G qs → Good G (ps ++ qs)
        good_append G [] qs g h = h
        good_append G (tok j ∷ ps) qs g h = good_append G ps qs g h
        good_append G (line l ∷ ps) qs g h = (λ k e. g.0 k (sym (starts-append G ps qs k) ∙ e), good_append G ps qs g.1 h)
        good_append G (leave ∷ ps) qs g h = good_append G ps qs g h

        abbrev pub GoodStep : {T : Type 0} → (Kind → Bool) → Step V T → Type 0
        GoodStep F (take qs f) = Good F qs
        GoodStep F stop = Unit {0}
        GoodStep F (pass t) = Unit {0}

        good_alts : {l : L} (F : Kind → Bool) (us : Alts V l) (k : Kind) → Keeps F us → GoodStep F (at V us k)
        good_alts F over k g = tt
        good_alts F (empty t) k g = tt
        good_alts F (word j ps b more) k g = on (same_kind j k) (good_alts F more k g.1)
          where
            on : (c : Bool) → GoodStep F (at V more k) → GoodStep F (cond c (take ps b) (at V more k))
            on true h = g.0
            on false h = h
        good_alts F (begins inner ps b more) k g = on (at V inner k) (good_alts (starts F ps) inner k g.0) (good_alts F more k g.2)
          where
            on : (s : Step V _) → GoodStep (starts F ps) s → GoodStep F (at V more k) → GoodStep F (further V s ps b (at V more k))
            on (take qs f) h i = good_append F qs ps h g.1
            on stop h i = i
            on (pass t) h i = i
        good_alts F (enters inner b) k g = on (at V inner k) (good_alts F inner k g)
          where
            on : (s : Step V _) → GoodStep F s → GoodStep F (inside V s b)
            on (take qs f) h = good_append F qs (leave ∷ []) h tt
            on stop h = tt
            on (pass t) h = tt

        module _ (keeps : (l : L) → Keeps (follow l) (rules l)) (apart : (l : L) (k : Kind) (t : V l) → nothing V (rules l) ≡ some t → follow l k ≡ true → takes (at V (rules l) k) ≡ false) where
          pub good : (ps : List (Part L)) (k : Kind) → Good none_of ps → GoodStep none_of (shift V rules ps k)
          good [] k g = tt
          good (tok j ∷ ps) k g = on (same_kind j k)
            where
              on : (c : Bool) → GoodStep {T = Means V (tok j ∷ ps)} none_of (cond c (take ps (λ v a. (v, a))) stop)
              on true = g
              on false = tt
          good (line l ∷ ps) k g = on (at V (rules l) k) (shift V rules ps k) (good_alts (follow l) (rules l) k (keeps l)) (good ps k g.1)
            where
              on : {A : Type 0} (s : Step V A) (s' : Step V (Means V ps)) → GoodStep (follow l) s → GoodStep none_of s' → GoodStep none_of (then V s ps s')
              on (take qs f) s' h i = good_append none_of qs ps (good_more (follow l) (starts none_of ps) g.0 qs h) g.1
              on stop s' h i = tt
              on (pass x) (take qs f) h i = i
              on (pass x) stop h i = tt
              on (pass x) (pass y) h i = tt
          good (leave ∷ ps) k g = good ps k g

          pub forth : (k h : ℕ) (w : Word) (ws : List Word) (ps : List (Part L)) (a : Means V ps) → Good none_of ps → D' k (parts h 0 ps) (w ∷ ws) [] a → Took k h 0 w ws [] (shift V rules ps w.kind) a
          forth k h w ws [] a g d = let e = no_words V rules d in let z : ◌≡◌ {A = ℕ} 0 1 = cc in absurd (omega arith)
          forth k h w ws (tok j ∷ ps) a g (a_tok {a = b} e d) =
              on_true (λ s. Took k h 0 w ws [] s (w, b)) (same_kind j w.kind) (take ps (λ v a. (v, a))) stop e (h, b, d, refl, λ o. o)
          forth k h w ws (line l ∷ ps) a g (a_line {us = us} {t = t} {a = b} d e) =
              on (forth_alts k h w ws us (rules l) t (ll l) d) (λ e. forth k h w ws ps b g.1 e)
            where
              took_then : (s : Step V (V l)) (s' : Step V (Means V ps)) → Took k h h w ws us s t → Took k h 0 w ws [] (then V s ps s') (t, b)
              took_then (take qs f) s' x = (
                x.0,
                joined V rules qs ps x.1 b,
                join V rules qs ps x.2 e,
                ap (λ z. (f w z, rear V qs ps (joined V rules qs ps x.1 b))) (front-joined V rules qs ps x.1 b) ∙ ap (λ z. (f w x.1, z)) (rear-joined V rules qs ps x.1 b) ∙ ap (λ z. (z, b)) x.3,
                x.4,
              )
              took_then stop s' x = absurd x
              took_then (pass y) s' x = absurd x

              took_pass : (s' : Step V (Means V ps)) → Took k h 0 w ws [] s' b → Took k h 0 w ws [] (then V (pass t) ps s') (t, b)
              took_pass (take qs f) x = (x.0, x.1, x.2, ap (λ z. (t, z)) x.3, x.4)
              took_pass stop x = absurd x
              took_pass (pass y) x = absurd x

              on : Forth k h w ws us (rules l) t → (D' k (parts h 0 ps) (w ∷ ws) [] b → Took k h 0 w ws [] (shift V rules ps w.kind) b)
                  → Took k h 0 w ws [] (then V (at V (rules l) w.kind) ps (shift V rules ps w.kind)) (t, b)
              on (consumed x) i = took_then (at V (rules l) w.kind) (shift V rules ps w.kind) x
              on (passed x) i =
                  let y = i (subst (λ us. D' k (parts h 0 ps) us [] b) x.0 e) in
                  let f = g.0 w.kind (takes-starts ps w.kind (took_takes k h 0 w ws [] (shift V rules ps w.kind) b y)) in
                  let p = passes (rules l) w.kind t (apart l w.kind t x.1 f) x.1 in
                  subst (λ s. Took k h 0 w ws [] (then V s ps (shift V rules ps w.kind)) (t, b)) (sym p) (took_pass (shift V rules ps w.kind) y)
          forth k h w ws (leave ∷ ps) a g (a_leave {h = m} d) = on (shift V rules ps w.kind) (forth k m w ws ps a g d)
            where
              on : (s : Step V (Means V ps)) → Took k m 0 w ws [] s a → Took k (suc m) 0 w ws [] s a
              on (take qs f) x = (x.0, x.1, x.2, x.3, λ o. x.4 (λ z. omega (arith, o z)))
              on stop x = absurd x
              on (pass y) x = absurd x

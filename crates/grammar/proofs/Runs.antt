-- What the machine answers, by what is derived: for every table in which one word ahead decides and each line has a sample.
use mathlib.Core.Path.{◌≡◌, refl, sym, ap, subst, ◌∙◌}
use mathlib.Core.Bool.{Bool, true, false, cond}
use mathlib.Core.List.{List, [], ◌∷◌, ◌++◌}
use mathlib.Core.Option.{Option, some, none}
use Prim.Native.Nat.{ℕ, zero, suc, ◌+◌, ◌≤◌, ◌<◌}
use native.Mathlib.Omega.{arith}
use lib.ListN.{length}
use lib.Dec.{leb}
use borrow.Author.Tests.{leb-true, leb-false, eq-eqb, le-leb}
use Rattle.lang.specs.declared.word.Kind.{Kind}
use Rattle.lang.specs.declared.refusal.Refusal.{Refusal}
use Rattle.lang.specs.declared.refusal.Refusal.TheVariants.{Unexpected, NestTooDeep}
use Rattle.grammar.specs.Words.{Word}
use Rattle.grammar.specs.Machine.{Part, tok, line, leave, depth, Means, Alts, Out, fine, bad, nothing}
use Rattle.grammar.proofs.Stepper.{Step, take, stop, pass, at, shift, ending, finish, run}
use Rattle.grammar.proofs.Derive.{Goal, parts, alts, Meant, D, nil, a_tok, a_line, a_leave, here-empty, here-word, here-line, here_enter, later_word, later_line, is_depth}
use Rattle.grammar.proofs.Back.{Backs, Stack, Any, back, Ended, ended}
use Rattle.grammar.proofs.Forth.{LL, Took, takes, ends, none_of, Good, Keeps, GoodStep, good, forth}

length-append : (ws q : List Word) → length (ws ++ q) ≡ length ws + length q
length-append [] q = omega arith
length-append (w ∷ ws) q = omega (arith, length-append ws q)

not_fine : {T : Type 0} {t : T} {n : Refusal} {r : List Word} {A : Type 0} → bad n r ≡ fine t → A
not_fine e = let z : ◌≡◌ {A = ℕ} 0 1 = cc in absurd (omega arith)

not_bad : {T : Type 0} {t : T} {n : Refusal} {r : List Word} {A : Type 0} → fine t ≡ bad n r → A
not_bad e = not_fine (sym e)

module _ {L : Type 0} (V : L → Type 0) (rules : (l : L) → Alts V l) where
  abbrev D' : ℕ → (g : Goal V) → List Word → List Word → Meant g → Type 0
  D' k g ws r a = D V rules k g ws r a

  shorter : {k : ℕ} {g : Goal V} {ws r : List Word} {a : Meant g} → D' k g ws r a → length r ≤ length ws
  shorter nil = omega arith
  shorter (a_tok e d) = omega (arith, shorter d)
  shorter (a_line d e) = omega (arith, shorter d, shorter e)
  shorter (a_leave d) = shorter d
  shorter here-empty = omega arith
  shorter (here-word e d) = omega (arith, shorter d)
  shorter (here-line d e) = omega (arith, shorter d, shorter e)
  shorter (here_enter o d) = shorter d
  shorter (later_word d) = shorter d
  shorter (later_line d) = shorter d

  abbrev up : ℕ → ℕ → ℕ
  up x zero = x
  up x (suc n) = suc (up x n)

  -- x lines further in, before more words, where nest does not matter
  abbrev Lifted : ℕ → ℕ → List Word → (g : Goal V) → List Word → List Word → Meant g → Type 0
  Lifted k x q (parts h n ps) ws r a = D' k (parts (up x h) (up x n) ps) (ws ++ q) (r ++ q) a
  Lifted k x q (alts n us) ws r a = D' k (alts (up x n) us) (ws ++ q) (r ++ q) a

  lift : {j : ℕ} (k x : ℕ) (q : List Word) {g : Goal V} {ws r : List Word} {a : Meant g} → length ws + length q < k → D' j g ws r a → Lifted k x q g ws r a
  lift k x q o nil = nil
  lift k x q o (a_tok e d) = a_tok e (lift k x q (omega (arith, o)) d)
  lift k x q o (a_line d e) = a_line (lift k x q o d) (lift k x q (omega (arith, o, shorter d)) e)
  lift k x q o (a_leave d) = a_leave (lift k x q o d)
  lift k x q o here-empty = here-empty
  lift k x q o (here-word e d) = here-word e (lift k x q (omega (arith, o)) d)
  lift k x q o (here-line d e) = here-line (lift k x q o d) (lift k x q (omega (arith, o, shorter d)) e)
  lift k x q o (here_enter {ws = ws} p d) = here_enter (λ z. absurd (omega (arith, z, o, length-append ws q))) (lift k x q o d)
  lift k x q o (later_word d) = later_word (lift k x q o d)
  lift k x q o (later_line d) = later_line (lift k x q o d)

  -- with fewer lines to keep the nest
  pub looser : {j : ℕ} (k : ℕ) → j ≤ k → {g : Goal V} {ws r : List Word} {a : Meant g} → D' j g ws r a → D' k g ws r a
  looser k o nil = nil
  looser k o (a_tok e d) = a_tok e (looser k o d)
  looser k o (a_line d e) = a_line (looser k o d) (looser k o e)
  looser k o (a_leave d) = a_leave (looser k o d)
  looser k o here-empty = here-empty
  looser k o (here-word e d) = here-word e (looser k o d)
  looser k o (here-line d e) = here-line (looser k o d) (looser k o e)
  looser k o (here_enter p d) = here_enter (λ z. p (omega (arith, z, o))) (looser k o d)
  looser k o (later_word d) = later_word (looser k o d)
  looser k o (later_line d) = later_line (looser k o d)

  -- where nest does not matter
  pub free : {j : ℕ} (k : ℕ) {g : Goal V} {ws r : List Word} {a : Meant g} → length ws < k → D' j g ws r a → D' k g ws r a
  free k o nil = nil
  free k o (a_tok e d) = a_tok e (free k (omega (arith, o)) d)
  free k o (a_line d e) = a_line (free k o d) (free k (omega (arith, o, shorter d)) e)
  free k o (a_leave d) = a_leave (free k o d)
  free k o here-empty = here-empty
  free k o (here-word e d) = here-word e (free k (omega (arith, o)) d)
  free k o (here-line d e) = here-line (free k o d) (free k (omega (arith, o, shorter d)) e)
  free k o (here_enter p d) = here_enter (λ z. absurd (omega (arith, z, o))) (free k o d)
  free k o (later_word d) = later_word (free k o d)
  free k o (later_line d) = later_line (free k o d)

  -- what the machine does after a word's step
  abbrev pub go : {T : Type 0} (w : Word) (ws : List Word) (ps : List (Part L)) (f : Means V ps → T) → Step V (Means V ps) → Out T
  go w ws ps f s = elim s [ take qs g ↦ let r = run V rules ws qs (λ a. f (g w a)) in cond (leb (depth qs) 64) r (bad NestTooDeep (w ∷ ws)) | stop ↦ bad Unexpected (w ∷ ws) | pass a ↦ bad Unexpected (w ∷ ws) ]

  -- the machine answers so, or so, or so
  pub answers : {T : Type 0} (A : Type 0) (ws : List Word) (ps : List (Part L)) (f : Means V ps → T)
      → ((t : T) → run V rules ws ps f ≡ fine t → A) → ((q : List Word) → run V rules ws ps f ≡ bad Unexpected q → A) → ((q : List Word) → run V rules ws ps f ≡ bad NestTooDeep q → A) → A
  answers A [] ps f x y z = on (ending V rules ps) x y
    where
      on : (o : Option (Means V ps)) → ((t : _) → finish V rules o f ≡ fine t → A) → ((q : List Word) → finish V rules o f ≡ bad Unexpected q → A) → A
      on none x y = y [] refl
      on (some a) x y = x (f a) refl
  answers {T} A (w ∷ ws) ps f x y z = on (shift V rules ps w.kind) (λ qs g. answers A ws qs (λ a. f (g w a))) x y z
    where
      by_depth : (c : Bool) (o : Out T) (v : List Word) → (((t : T) → o ≡ fine t → A) → ((q : List Word) → o ≡ bad Unexpected q → A) → ((q : List Word) → o ≡ bad NestTooDeep q → A) → A)
          → ((t : T) → cond c o (bad NestTooDeep v) ≡ fine t → A) → ((q : List Word) → cond c o (bad NestTooDeep v) ≡ bad Unexpected q → A) → ((q : List Word) → cond c o (bad NestTooDeep v) ≡ bad NestTooDeep q → A) → A
      by_depth true o v i x y z = i x y z
      by_depth false o v i x y z = z v refl

      on : (s : Step V (Means V ps))
          → ((qs : List (Part L)) (g : Word → Means V qs → Means V ps) → ((t : T) → run V rules ws qs (λ a. f (g w a)) ≡ fine t → A) → ((q : List Word) → run V rules ws qs (λ a. f (g w a)) ≡ bad Unexpected q → A) → ((q : List Word) → run V rules ws qs (λ a. f (g w a)) ≡ bad NestTooDeep q → A) → A)
          → ((t : T) → go w ws ps f s ≡ fine t → A) → ((q : List Word) → go w ws ps f s ≡ bad Unexpected q → A) → ((q : List Word) → go w ws ps f s ≡ bad NestTooDeep q → A) → A
      on (take qs g) i x y z = by_depth (leb (depth qs) 64) (run V rules ws qs (λ a. f (g w a))) (w ∷ ws) (i qs g) x y z
      on stop i x y z = y (w ∷ ws) refl
      on (pass a) i x y z = y (w ∷ ws) refl

  abbrev pub Derived : {T : Type 0} → ℕ → (ps : List (Part L)) → (Means V ps → T) → List Word → T → Type 0
  Derived k ps f ws t = (a : Means V ps) × D' k (parts (depth ps) 0 ps) ws [] a × (f a ≡ t)

  the_fine : {T : Type 0} (x y : T) → fine x ≡ fine y → x ≡ y
  the_fine x y e = cc

  pub sound : {T : Type 0} (k : ℕ) (ws : List Word) (ps : List (Part L)) (f : Means V ps → T) (t : T) → run V rules ws ps f ≡ fine t → Derived k ps f ws t
  sound k [] ps f t e = on (ending V rules ps) (ended V rules ps) e
    where
      on : (x : Option (Means V ps)) → Ended V rules ps x → finish V rules x f ≡ fine t → Derived k ps f [] t
      on none h e = not_fine e
      on (some a) h e = (a, h k, the_fine _ _ e)
  sound k (w ∷ ws) ps f t e = on (shift V rules ps w.kind) (back V rules k w ws ps) (λ qs g x. sound k ws qs (λ a. f (g w a)) t x) e
    where
      on : (s : Step V (Means V ps)) → Backs V rules k 0 w ws [] s (Stack V rules k w ws ps) (Any V rules)
          → ((qs : List (Part L)) (g : Word → Means V qs → Means V ps) → run V rules ws qs (λ a. f (g w a)) ≡ fine t → Derived k qs (λ a. f (g w a)) ws t)
          → (elim s [ take qs g ↦ let r = run V rules ws qs (λ a. f (g w a)) in cond (leb (depth qs) 64) r (bad NestTooDeep (w ∷ ws)) | stop ↦ bad Unexpected (w ∷ ws) | pass a ↦ bad Unexpected (w ∷ ws) ]) ≡ fine t
          → Derived k ps f (w ∷ ws) t
      on (take qs g) b i e = by_depth (leb (depth qs) 64) refl e
        where
          by_depth : (c : Bool) → leb (depth qs) 64 ≡ c → cond c (run V rules ws qs (λ a. f (g w a))) (bad NestTooDeep (w ∷ ws)) ≡ fine t → Derived k ps f (w ∷ ws) t
          by_depth true c e = let x = i qs g e in (g w x.0, b (depth qs) x.0 (λ z. leb-true _ 64 c) x.1, x.2)
          by_depth false c e = not_fine e
      on stop b i e = not_fine e
      on (pass a) b i e = not_fine e

  -- what is derived the machine reads so
  module _ (ll : (l : L) → LL V (rules l)) (follow : L → Kind → Bool) (keeps : (l : L) → Keeps V rules ll follow (follow l) (rules l))
      (apart : (l : L) (k : Kind) (t : V l) → nothing V (rules l) ≡ some t → follow l k ≡ true → takes V (at V (rules l) k) ≡ false) where
    abbrev pub Fine : List (Part L) → Type 0
    Fine ps = Good V rules ll follow (none_of V rules ll) ps

    abbrev FineStep : {T : Type 0} → Step V T → Type 0
    FineStep s = GoodStep V rules ll follow (none_of V rules ll) s

    -- what is derived is taken, at every step
    abbrev Forths : Word → (ps : List (Part L)) → Step V (Means V ps) → Type 0
    Forths w ps s = (k : ℕ) (ws : List Word) (a : Means V ps) → D' k (parts (depth ps) 0 ps) (w ∷ ws) [] a → Took V rules k (depth ps) 0 w ws [] s a

    forths : (w : Word) (ps : List (Part L)) → Fine ps → Forths w ps (shift V rules ps w.kind)
    forths w ps g k ws a d = forth V rules ll follow keeps apart k (depth ps) w ws ps a g d

    goods : (w : Word) (ps : List (Part L)) → Fine ps → FineStep (shift V rules ps w.kind)
    goods w ps g = good V rules ll follow keeps apart ps w.kind g

    pub complete : {T : Type 0} (ws : List Word) (ps : List (Part L)) (f : Means V ps → T) (a : Means V ps) → Fine ps → depth ps ≤ 64 → D' 0 (parts (depth ps) 0 ps) ws [] a → run V rules ws ps f ≡ fine (f a)
    complete [] ps f a g o d = ap (λ x. finish V rules x f) (ends V rules ll 0 (depth ps) ps a d)
    complete (w ∷ ws) ps f a g o d =
        on (shift V rules ps w.kind) (goods w ps g) (forths w ps g 0 ws a d) (λ qs h b. complete ws qs (λ a. f (h w a)) b)
      where
        on : (s : Step V (Means V ps)) → FineStep s → Took V rules 0 (depth ps) 0 w ws [] s a
            → ((qs : List (Part L)) (h : Word → Means V qs → Means V ps) (b : Means V qs) → Fine qs → depth qs ≤ 64 → D' 0 (parts (depth qs) 0 qs) ws [] b → run V rules ws qs (λ a. f (h w a)) ≡ fine (f (h w b)))
            → go w ws ps f s ≡ fine (f a)
        on (take qs h) q x i =
            let e = is_depth V rules qs x.2 in
            let m : depth qs ≤ 64 = subst (λ n. n ≤ 64) e (x.4 (λ z. o) (omega arith)) in
            rw (le-leb (depth qs) 64 m) (i qs h x.1 q m (subst (λ n. D' 0 (parts n 0 qs) ws [] x.1) e x.2) ∙ ap (λ a. fine (f a)) x.3)
        on stop q x i = absurd x
        on (pass b) q x i = absurd x

    -- words mean one thing at most
    pub unique : (j k : ℕ) (ws : List Word) (ps : List (Part L)) (a b : Means V ps) → Fine ps → D' j (parts (depth ps) 0 ps) ws [] a → D' k (parts (depth ps) 0 ps) ws [] b → a ≡ b
    unique j k [] ps a b g d e = the_some a b (sym (ends V rules ll j (depth ps) ps a d) ∙ ends V rules ll k (depth ps) ps b e)
      where
        the_some : {A : Type 0} (x y : A) → some x ≡ some y → x ≡ y
        the_some x y e = cc
    unique j k (w ∷ ws) ps a b g d e = on (shift V rules ps w.kind) (goods w ps g) (forths w ps g j ws a d) (forths w ps g k ws b e) (λ qs x y. unique j k ws qs x y)
      where
        on : (s : Step V (Means V ps)) → FineStep s → Took V rules j (depth ps) 0 w ws [] s a → Took V rules k (depth ps) 0 w ws [] s b
            → ((qs : List (Part L)) (x y : Means V qs) → Fine qs → D' j (parts (depth qs) 0 qs) ws [] x → D' k (parts (depth qs) 0 qs) ws [] y → x ≡ y) → a ≡ b
        on (take qs h) q x y i =
            sym x.3 ∙ ap (h w) (i qs x.1 y.1 q (subst (λ n. D' j (parts n 0 qs) ws [] x.1) (is_depth V rules qs x.2) x.2) (subst (λ n. D' k (parts n 0 qs) ws [] y.1) (is_depth V rules qs y.2) y.2)) ∙ y.3
        on stop q x y i = absurd x
        on (pass z) q x y i = absurd x

    -- whatever is still to come can come
    module _ (sample : L → List Word) (sampled : (l : L) → (t : V l) × (run V rules (sample l) (line l ∷ []) (λ a. a.0) ≡ fine t)) where
      abbrev Filled : List (Part L) → Type 0
      Filled ps = (ws : List Word) × (a : Means V ps) × ((k : ℕ) → length ws < k → D' k (parts (depth ps) 0 ps) ws [] a)

      lone : {k h n : ℕ} {l : L} {ws r : List Word} {a : Means V (line l ∷ [])} → D' k (parts h n (line l ∷ [])) ws r a → D' k (alts h (rules l)) ws r a.0
      lone (a_line d nil) = d

      fill : (ps : List (Part L)) → Filled ps
      fill [] = ([], tt, λ k o. nil)
      fill (tok j ∷ ps) = let r = fill ps in let w : Word = record { kind = j; bytes = []; place = 0 } in
          (w ∷ r.0, (w, r.1), λ k o. a_tok (eq-eqb _ _ refl) (r.2 k (omega (arith, o))))
      fill (line l ∷ ps) =
          let r = fill ps in
          let s = sampled l in
          let d = sound 0 (sample l) (line l ∷ []) (λ a. a.0) s.0 s.1 in
          (sample l ++ r.0, (d.0.0, r.1), λ k o. a_line (lift k (depth ps) r.0 (omega (arith, o, length-append (sample l) r.0)) (lone d.1)) (r.2 k (omega (arith, o, length-append (sample l) r.0))))
      fill (leave ∷ ps) = let r = fill ps in (r.0, r.1, λ k o. a_leave (r.2 k o))

      abbrev pub Whole : ℕ → (ps : List (Part L)) → List Word → Type 0
      Whole k ps ws = (a : Means V ps) × D' k (parts (depth ps) 0 ps) ws [] a

      abbrev pub NoMore : List (Part L) → List Word → List Word → Type 0
      NoMore ps u [] = (k : ℕ) → Whole k ps u → ⊥
      NoMore ps u (w ∷ ws) = (k : ℕ) (vs : List Word) → Whole k ps (u ++ w ∷ vs) → ⊥

      pub record Off (ps : List (Part L)) (ws r : List Word) : Type 0 where
        pub before : List Word
        pub parted : before ++ r ≡ ws
        pub viable : (vs : List Word) × Whole (suc (length vs)) ps (before ++ vs)
        pub no_more : NoMore ps before r

      pub record Deep (ps : List (Part L)) (ws r : List Word) : Type 0 where
        pub before : List Word
        pub word : Word
        pub after : List Word
        pub here : r ≡ word ∷ after
        pub parted : before ++ r ≡ ws
        pub so_far : (vs : List Word) × Whole (suc (length (word ∷ vs))) ps (before ++ word ∷ vs)
        pub no_more : (vs : List Word) → Whole (length (word ∷ vs)) ps (before ++ word ∷ vs) → ⊥

      -- one word on
      abbrev Back : Word → (ps : List (Part L)) → Step V (Means V ps) → Type 0
      Back w ps s = (k : ℕ) (ws : List Word) → Backs V rules k 0 w ws [] s (Stack V rules k w ws ps) (Any V rules)

      stepped : (w : Word) (ps qs : List (Part L)) (h : Word → Means V qs → Means V ps) → Forths w ps (take qs h) → (k : ℕ) (ws : List Word) → Whole k ps (w ∷ ws) → Whole k qs ws
      stepped w ps qs h f k ws x = let y = f k ws x.0 x.1 in (y.1, subst (λ n. D' k (parts n 0 qs) ws [] y.1) (is_depth V rules qs y.2) y.2)

      unstepped : (w : Word) (ps qs : List (Part L)) (h : Word → Means V qs → Means V ps) → Back w ps (take qs h) → depth qs ≤ 64 → (k : ℕ) (ws : List Word) → Whole k qs ws → Whole k ps (w ∷ ws)
      unstepped w ps qs h b o k ws x = (h w x.0, b k ws (depth qs) x.0 (λ z. o) x.1)

      off_start : (ps : List (Part L)) (ws : List Word) → NoMore ps [] ws → Off ps ws ws
      off_start ps ws n = let x = fill ps in record { before = []; parted = refl; viable = (x.0, (x.1, x.2 (suc (length x.0)) (omega arith))); no_more = n }

      off_on : (w : Word) (ws r : List Word) (ps qs : List (Part L)) (h : Word → Means V qs → Means V ps) → Forths w ps (take qs h) → Back w ps (take qs h) → depth qs ≤ 64 → Off qs ws r → Off ps (w ∷ ws) r
      off_on w ws r ps qs h f b o x = record {
        before = w ∷ x.before;
        parted = ap (λ z. w ∷ z) x.parted;
        viable = (x.viable.0, unstepped w ps qs h b o (suc (length x.viable.0)) (x.before ++ x.viable.0) x.viable.1);
        no_more = lasts r x.no_more;
      }
        where
          lasts : (r : List Word) → NoMore qs x.before r → NoMore ps (w ∷ x.before) r
          lasts [] n = λ k y. n k (stepped w ps qs h f k x.before y)
          lasts (v ∷ vs) n = λ k us y. n k us (stepped w ps qs h f k (x.before ++ v ∷ us) y)

      the_rest : {T : Type 0} (n : Refusal) (x r : List Word) → ◌≡◌ {A = Out T} (bad n x) (bad n r) → x ≡ r
      the_rest n x r e = cc

      bad_apart : {T : Type 0} (x r : List Word) (A : Type 0) → ◌≡◌ {A = Out T} (bad NestTooDeep x) (bad Unexpected r) → A
      bad_apart x r A e = let z : ◌≡◌ {A = ℕ} 0 1 = cc in absurd (omega arith)

      -- 7: where the words leave the grammar
      pub leaves : {T : Type 0} (ws r : List Word) (ps : List (Part L)) (f : Means V ps → T) → Fine ps → run V rules ws ps f ≡ bad Unexpected r → Off ps ws r
      leaves [] r ps f g e = on (ending V rules ps) refl e
        where
          on : (x : Option (Means V ps)) → ending V rules ps ≡ x → finish V rules x f ≡ bad Unexpected r → Off ps [] r
          on none h e = subst (Off ps []) (the_rest Unexpected [] r e) (off_start ps [] (λ k y. no_some (sym h ∙ ends V rules ll k (depth ps) ps y.0 y.1)))
            where
              no_some : {A : Type 0} {t : A} → none ≡ some t → ⊥
              no_some e = let z : ◌≡◌ {A = ℕ} 0 1 = cc in omega arith
          on (some a) h e = not_bad e
      leaves (w ∷ ws) r ps f g e =
          on (shift V rules ps w.kind) (goods w ps g) (forths w ps g) (λ k ws. back V rules k w ws ps) (λ qs h. leaves ws r qs (λ a. f (h w a))) e
        where
          on : (s : Step V (Means V ps)) → FineStep s → Forths w ps s → Back w ps s
              → ((qs : List (Part L)) (h : Word → Means V qs → Means V ps) → Fine qs → run V rules ws qs (λ a. f (h w a)) ≡ bad Unexpected r → Off qs ws r)
              → go w ws ps f s ≡ bad Unexpected r → Off ps (w ∷ ws) r
          on (take qs h) q x b i e = by_depth (leb (depth qs) 64) refl e
            where
              by_depth : (c : Bool) → leb (depth qs) 64 ≡ c → cond c (run V rules ws qs (λ a. f (h w a))) (bad NestTooDeep (w ∷ ws)) ≡ bad Unexpected r → Off ps (w ∷ ws) r
              by_depth true c e = off_on w ws r ps qs h x b (leb-true _ 64 c) (i qs h q e)
              by_depth false c e = bad_apart _ _ _ e
          on stop q x b i e = subst (Off ps (w ∷ ws)) (the_rest Unexpected (w ∷ ws) r e) (off_start ps (w ∷ ws) (λ k vs y. x k vs y.0 y.1))
          on (pass a) q x b i e = subst (Off ps (w ∷ ws)) (the_rest Unexpected (w ∷ ws) r e) (off_start ps (w ∷ ws) (λ k vs y. x k vs y.0 y.1))

      -- 8: where they pass the greatest nest
      pub deep : {T : Type 0} (ws r : List Word) (ps : List (Part L)) (f : Means V ps → T) → Fine ps → depth ps ≤ 64 → run V rules ws ps f ≡ bad NestTooDeep r → Deep ps ws r
      deep [] r ps f g o e = on (ending V rules ps) e
        where
          on : (x : Option (Means V ps)) → finish V rules x f ≡ bad NestTooDeep r → Deep ps [] r
          on none e = bad_apart _ _ _ (sym e)
          on (some a) e = not_bad e
      deep (w ∷ ws) r ps f g o e =
          on (shift V rules ps w.kind) (goods w ps g) (forths w ps g) (λ k ws. back V rules k w ws ps) (λ qs h. deep ws r qs (λ a. f (h w a))) e
        where
          on : (s : Step V (Means V ps)) → FineStep s → Forths w ps s → Back w ps s
              → ((qs : List (Part L)) (h : Word → Means V qs → Means V ps) → Fine qs → depth qs ≤ 64 → run V rules ws qs (λ a. f (h w a)) ≡ bad NestTooDeep r → Deep qs ws r)
              → go w ws ps f s ≡ bad NestTooDeep r → Deep ps (w ∷ ws) r
          on (take qs h) q x b i e = by_depth (leb (depth qs) 64) refl e
            where
              by_depth : (c : Bool) → leb (depth qs) 64 ≡ c → cond c (run V rules ws qs (λ a. f (h w a))) (bad NestTooDeep (w ∷ ws)) ≡ bad NestTooDeep r → Deep ps (w ∷ ws) r
              by_depth true c e =
                  let y = i qs h q (leb-true _ 64 c) e in
                  record {
                    before = w ∷ y.before;
                    word = y.word;
                    after = y.after;
                    here = y.here;
                    parted = ap (λ z. w ∷ z) y.parted;
                    so_far = (y.so_far.0, unstepped w ps qs h b (leb-true _ 64 c) (suc (length (y.word ∷ y.so_far.0))) (y.before ++ y.word ∷ y.so_far.0) y.so_far.1);
                    no_more = λ vs z. y.no_more vs (stepped w ps qs h x (length (y.word ∷ vs)) (y.before ++ y.word ∷ vs) z);
                  }
              by_depth false c e =
                  let v = fill qs in
                  let n = suc (length (w ∷ v.0)) in
                  record {
                    before = [];
                    word = w;
                    after = ws;
                    here = sym (the_rest NestTooDeep (w ∷ ws) r e);
                    parted = sym (the_rest NestTooDeep (w ∷ ws) r e);
                    so_far = (v.0, (h w v.1, b n v.0 (depth qs) v.1 (λ z. absurd (omega (arith, z))) (v.2 n (omega arith))));
                    no_more = λ vs z. let y = x (length (w ∷ vs)) vs z.0 z.1 in omega (arith, y.4 (λ u. o) (omega arith), is_depth V rules qs y.2, leb-false _ 64 c);
                  }
          on stop q x b i e = bad_apart _ _ _ (sym e)
          on (pass a) q x b i e = bad_apart _ _ _ (sym e)

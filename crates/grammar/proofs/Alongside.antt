-- The machine answers as it does in steps.
use mathlib.Core.Path.{◌≡◌, refl, sym, ap, subst, subst⁻¹, subst⁻¹_refl, path_j, ◌∙◌}
use mathlib.Core.Bool.{Bool, true, false, cond}
use mathlib.Core.List.{List, [], ◌∷◌, ◌++◌}
use mathlib.Core.Option.{Option, some, none}
use lib.Dec.{leb}
use Rattle.lang.specs.declared.word.Kind.{Kind}
use Rattle.lang.specs.declared.refusal.Refusal.TheVariants.{Unexpected, NestTooDeep}
use Rattle.lang.specs.Kinds.{same_kind}
use Rattle.grammar.specs.Words.{Word}
use Rattle.grammar.specs.Machine.{Part, tok, line, leave, depth, Means, Alts, over, empty, word, begins, enters, Out, bad, skip, front, rear, nothing, pick, next, end, run}
use Rattle.grammar.proofs.Stepper as step
use Rattle.grammar.proofs.Stepper.{Step, take, stop, pass, both, further, inside, at, then, shift, ending, finish}

abbrev assoc : {L : Type 0} (us qs ps : List (Part L)) → (us ++ qs) ++ ps ≡ us ++ (qs ++ ps)
assoc [] qs ps = refl
assoc (u ∷ us) qs ps = ap (λ z. u ∷ z) (assoc us qs ps)

module _ {L : Type 0} (V : L → Type 0) where
  abbrev S : (us qs ps : List (Part L)) → Means V (us ++ (qs ++ ps)) → Means V ((us ++ qs) ++ ps)
  S us qs ps a = subst⁻¹ (Means V) (assoc us qs ps) a

  sub_tok : (j : Kind) (xs : List (Part L)) {ys : List (Part L)} (e : xs ≡ ys) (a : Means V (tok j ∷ ys)) → subst⁻¹ (Means V) (ap (λ z. tok j ∷ z) e) a ≡ (a.0, subst⁻¹ (Means V) e a.1)
  sub_tok j xs e = path_j (λ ys e. (a : Means V (tok j ∷ ys)) → subst⁻¹ (Means V) (ap (λ z. tok j ∷ z) e) a ≡ (a.0, subst⁻¹ (Means V) e a.1))
      (λ a. subst⁻¹_refl (Means V) {x = tok j ∷ xs} a ∙ ap (λ z. (a.0, z)) (sym (subst⁻¹_refl (Means V) {x = xs} a.1))) e

  sub_line : (l : L) (xs : List (Part L)) {ys : List (Part L)} (e : xs ≡ ys) (a : Means V (line l ∷ ys)) → subst⁻¹ (Means V) (ap (λ z. line l ∷ z) e) a ≡ (a.0, subst⁻¹ (Means V) e a.1)
  sub_line l xs e = path_j (λ ys e. (a : Means V (line l ∷ ys)) → subst⁻¹ (Means V) (ap (λ z. line l ∷ z) e) a ≡ (a.0, subst⁻¹ (Means V) e a.1))
      (λ a. subst⁻¹_refl (Means V) {x = line l ∷ xs} a ∙ ap (λ z. (a.0, z)) (sym (subst⁻¹_refl (Means V) {x = xs} a.1))) e

  -- three stretches of what parts mean, from either bracketing
  pub record Three (us qs ps : List (Part L)) (a : Means V ((us ++ qs) ++ ps)) (c : Means V (us ++ (qs ++ ps))) : Type 0 where
    pub one : front V us qs (front V (us ++ qs) ps a) ≡ front V us (qs ++ ps) c
    pub two : rear V us qs (front V (us ++ qs) ps a) ≡ front V qs ps (rear V us (qs ++ ps) c)
    pub three : rear V (us ++ qs) ps a ≡ rear V qs ps (rear V us (qs ++ ps) c)

  thirds : (us qs ps : List (Part L)) (c : Means V (us ++ (qs ++ ps))) → Three us qs ps (S us qs ps c) c
  thirds [] qs ps c = subst (λ a. Three [] qs ps a c) (sym (subst⁻¹_refl (Means V) {x = qs ++ ps} c)) (record { one = refl; two = refl; three = refl })
  thirds (tok j ∷ us) qs ps c = let x = thirds us qs ps c.1 in subst (λ a. Three (tok j ∷ us) qs ps a c) (sym (sub_tok j _ (assoc us qs ps) c)) (record { one = ap (λ z. (c.0, z)) x.one; two = x.two; three = x.three })
  thirds (line l ∷ us) qs ps c = let x = thirds us qs ps c.1 in subst (λ a. Three (line l ∷ us) qs ps a c) (sym (sub_line l _ (assoc us qs ps) c)) (record { one = ap (λ z. (c.0, z)) x.one; two = x.two; three = x.three })
  thirds (leave ∷ us) qs ps c = let x = thirds us qs ps c in record { one = x.one; two = x.two; three = x.three }

  -- a line is passed over exactly if it may be nothing
  abbrev Idle : {A : Type 0} → Step V A → Option A → Type 0
  Idle (take qs g) o = Unit {0}
  Idle stop o = o ≡ none
  Idle (pass x) o = o ≡ some x

  idle : {l : L} (us : Alts V l) (k : Kind) → Idle (at V us k) (nothing V us)
  idle over k = refl
  idle (empty t) k = refl
  idle (word j ps b more) k = on (same_kind j k) (idle more k)
    where
      on : (c : Bool) → Idle (at V more k) (nothing V more) → Idle (cond c (take ps b) (at V more k)) (nothing V more)
      on true h = tt
      on false h = h
  idle (begins inner ps b more) k = on (at V inner k) (idle more k)
    where
      on : (s : Step V _) → Idle (at V more k) (nothing V more) → Idle (further V s ps b (at V more k)) (nothing V more)
      on (take qs g) h = tt
      on stop h = h
      on (pass x) h = h
  idle (enters inner b) k = on (at V inner k)
    where
      on : (s : Step V _) → Idle (inside V s b) none
      on (take qs g) = tt
      on stop = refl
      on (pass x) = refl

  module _ {T : Type 0} (w : Word) (go : (ps : List (Part L)) → (Means V ps → T) → Out T) where
    -- stacks that are equal
    along : (xs : List (Part L)) (f : Means V xs → T) {ys : List (Part L)} (e : xs ≡ ys) → go xs f ≡ go ys (λ a. f (subst⁻¹ (Means V) e a))
    along xs f e = path_j (λ ys e. go xs f ≡ go ys (λ a. f (subst⁻¹ (Means V) e a))) (λ i. go xs (λ a. f (sym (subst⁻¹_refl (Means V) {x = xs} a) i))) e

    -- what is done after a step of a line, before the parts ps
    abbrev after : {A : Type 0} (ps : List (Part L)) → (A → Means V ps → T) → Out T → Step V A → Out T
    after ps f s (take qs g) = go (qs ++ ps) (λ a. f (g w (front V qs ps a)) (rear V qs ps a))
    after ps f s stop = s
    after ps f s (pass x) = s

    picks : {l : L} (us : Alts V l) (ps : List (Part L)) (f : V l → Means V ps → T) (s : Out T) → pick V w go us ps f s ≡ after ps f s (at V us w.kind)
    picks over ps f s = refl
    picks (empty t) ps f s = refl
    picks (word j qs b more) ps f s = on (same_kind j w.kind) (picks more ps f s)
      where
        on : (c : Bool) → pick V w go more ps f s ≡ after ps f s (at V more w.kind)
            → cond c (go (qs ++ ps) (λ a. f (b w (front V qs ps a)) (rear V qs ps a))) (pick V w go more ps f s) ≡ after ps f s (cond c (take qs b) (at V more w.kind))
        on true h = refl
        on false h = h
    picks (begins inner qs b more) ps f s =
        picks inner (qs ++ ps) (λ t a. f (b w t (front V qs ps a)) (rear V qs ps a)) (pick V w go more ps f s) ∙ on (at V inner w.kind) (picks more ps f s)
      where
        on : (x : Step V _) → pick V w go more ps f s ≡ after ps f s (at V more w.kind)
            → after (qs ++ ps) (λ t a. f (b w t (front V qs ps a)) (rear V qs ps a)) (pick V w go more ps f s) x ≡ after ps f s (further V x qs b (at V more w.kind))
        on (take us g) h = sym (along ((us ++ qs) ++ ps) (λ a. f (b w (g w (front V us qs (front V (us ++ qs) ps a))) (rear V us qs (front V (us ++ qs) ps a))) (rear V (us ++ qs) ps a)) (assoc us qs ps)
            ∙ (λ i. go (us ++ (qs ++ ps)) (λ c. let x = thirds us qs ps c in f (b w (g w (x.one i)) (x.two i)) (x.three i))))
        on stop h = h
        on (pass x) h = h
    picks (enters inner b) ps f s = picks inner (leave ∷ ps) (λ t a. f (b t) a) s ∙ on (at V inner w.kind)
      where
        on : (x : Step V _) → after (leave ∷ ps) (λ t a. f (b t) a) s x ≡ after ps f s (inside V x b)
        on (take us g) = sym (along ((us ++ leave ∷ []) ++ ps) (λ a. f (b (g w (front V us (leave ∷ []) (front V (us ++ leave ∷ []) ps a)))) (rear V (us ++ leave ∷ []) ps a)) (assoc us (leave ∷ []) ps)
            ∙ (λ i. go (us ++ leave ∷ ps) (λ c. let x = thirds us (leave ∷ []) ps c in f (b (g w (x.one i))) (x.three i))))
        on stop = refl
        on (pass x) = refl

    module _ (rules : (l : L) → Alts V l) (ws : List Word) where
      -- what is done after a step of the stack
      abbrev done : {A : Type 0} → (A → T) → Step V A → Out T
      done f (take qs g) = go qs (λ a. f (g w a))
      done f stop = bad Unexpected ws
      done f (pass x) = bad Unexpected ws

      nexts : (ps : List (Part L)) (f : Means V ps → T) → next V rules w go ws ps f ≡ done f (shift V rules ps w.kind)
      nexts [] f = refl
      nexts (tok j ∷ ps) f = on (same_kind j w.kind)
        where
          on : (c : Bool) → cond c (go ps (λ a. f (w, a))) (bad Unexpected ws) ≡ done f (cond c (take ps (λ v a. (v, a))) stop)
          on true = refl
          on false = refl
      nexts (line l ∷ ps) f =
          picks (rules l) ps (λ t a. f (t, a)) _ ∙ on (at V (rules l) w.kind) (nothing V (rules l)) (idle (rules l) w.kind) (λ t. nexts ps (λ a. f (t, a)))
        where
          passed : (t : V l) (s : Step V (Means V ps)) → done (λ a. f (t, a)) s ≡ done f (then V (pass t) ps s)
          passed t (take qs g) = refl
          passed t stop = refl
          passed t (pass x) = refl

          on : (s : Step V (V l)) (o : Option (V l)) → Idle s o → ((t : V l) → next V rules w go ws ps (λ a. f (t, a)) ≡ done (λ a. f (t, a)) (shift V rules ps w.kind))
              → after ps (λ t a. f (t, a)) (skip o ws (λ t. next V rules w go ws ps (λ a. f (t, a)))) s ≡ done f (then V s ps (shift V rules ps w.kind))
          on (take qs g) o h i = refl
          on stop o h i = ap (λ o. skip o ws (λ t. next V rules w go ws ps (λ a. f (t, a)))) h
          on (pass x) o h i = ap (λ o. skip o ws (λ t. next V rules w go ws ps (λ a. f (t, a)))) h ∙ i x ∙ passed x (shift V rules ps w.kind)
      nexts (leave ∷ ps) f = nexts ps f

  module _ (rules : (l : L) → Alts V l) where
    ends : {T : Type 0} (ps : List (Part L)) (f : Means V ps → T) → end V rules ps f ≡ finish V rules (ending V rules ps) f
    ends [] f = refl
    ends (tok j ∷ ps) f = refl
    ends {T} (line l ∷ ps) f = on (nothing V (rules l)) (λ t. ends ps (λ a. f (t, a)))
      where
        some_end : (t : V l) (x : Option (Means V ps)) → finish V rules x (λ a. f (t, a)) ≡ finish V rules (both (some t) x) f
        some_end t none = refl
        some_end t (some a) = refl

        on : (o : Option (V l)) → ((t : V l) → end V rules ps (λ a. f (t, a)) ≡ finish V rules (ending V rules ps) (λ a. f (t, a)))
            → skip o [] (λ t. end V rules ps (λ a. f (t, a))) ≡ finish V rules (both o (ending V rules ps)) f
        on none i = refl
        on (some t) i = i t ∙ some_end t (ending V rules ps)
    ends (leave ∷ ps) f = ends ps f

    pub as_stepped : {T : Type 0} (ws : List Word) (ps : List (Part L)) (f : Means V ps → T) → run V rules ws ps f ≡ step.run V rules ws ps f
    as_stepped [] ps f = ends ps f
    as_stepped {T} (w ∷ ws) ps f =
        (λ i. next V rules w (λ qs g. cond (leb (depth qs) 64) (as_stepped ws qs g i) (bad NestTooDeep (w ∷ ws))) (w ∷ ws) ps f)
        ∙ nexts w (λ qs g. cond (leb (depth qs) 64) (step.run V rules ws qs g) (bad NestTooDeep (w ∷ ws))) rules (w ∷ ws) ps f ∙ on (shift V rules ps w.kind)
      where
        on : (s : Step V (Means V ps)) → done w (λ qs g. cond (leb (depth qs) 64) (step.run V rules ws qs g) (bad NestTooDeep (w ∷ ws))) rules (w ∷ ws) f s
            ≡ (elim s [ take qs g ↦ let r = step.run V rules ws qs (λ a. f (g w a)) in cond (leb (depth qs) 64) r (bad NestTooDeep (w ∷ ws)) | stop ↦ bad Unexpected (w ∷ ws) | pass a ↦ bad Unexpected (w ∷ ws) ])
        on (take qs g) = refl
        on stop = refl
        on (pass x) = refl

-- What a word picks, by whether it begins one of the alternatives.
use mathlib.Core.Path.{◌≡◌, refl, sym, ap, subst, ◌∙◌}
use mathlib.Core.Bool.{Bool, true, false, cond}
use mathlib.Core.Logic.{◌↔◌}
use mathlib.Core.List.{List, [], ◌∷◌, ◌++◌}
use Prim.Native.Nat.{◌≤◌, ◌<◌}
use native.Mathlib.Omega.{arith}
use borrow.Author.Tests.{clash, lt-leb, eq-eqb}
use Rattle.lang.specs.declared.word.Kind.{Kind}
use Rattle.lang.specs.declared.word.Kind.TheVariants.{Name, Call, If, While, Let, Not, Minus}
use Rattle.lang.specs.declared.refusal.Refusal.TheVariants.{Unexpected, NestTooDeep}
use Rattle.lang.specs.Kinds.{code, same_kind}
use Rattle.meaning.specs.Tree.{Command, no_args, no_data, no_routines, no_commands, then}
use Rattle.grammar.specs.Words.{Word, Is}
use Rattle.grammar.specs.Grammar.{command_line, datum_line, routine_line, some_args}
use Rattle.grammar.specs.Machine.{Part, tok, line, leave, depth, Means, Alts, over, empty, word, begins, enters, Out, bad, skip, front, rear, nothing, pick}
use Rattle.grammar.specs.Table.{Row, the, data_more, routines_more, commands_more, Meant, rules, blocks, eithers, atoms}
use Rattle.grammar.specs.Lines.{starts, onward, after, HasToCome, Unbegun, BegunTooDeep, Counts, Operands, Passing, Lists, LinesHold}
use Rattle.grammar.proofs.Decide.{told}

neither_left : (a b : Bool) → cond a true b ≡ false → a ≡ false
neither_left true b e = absurd (clash (sym e))
neither_left false b e = refl

neither_right : (a b : Bool) → cond a true b ≡ false → b ≡ false
neither_right true b e = absurd (clash (sym e))
neither_right false b e = e

one_of : {C : Type 0} (a b : Bool) → cond a true b ≡ true → (a ≡ true → C) → (a ≡ false → b ≡ true → C) → C
one_of true b e p q = p refl
one_of false b e p q = q refl e

deeper : (qs ps : List (Part Row)) → depth ps ≤ depth (qs ++ ps)
deeper [] ps = omega arith
deeper (tok j ∷ qs) ps = deeper qs ps
deeper (line l ∷ qs) ps = deeper qs ps
deeper (leave ∷ qs) ps = omega (arith, deeper qs ps)

module _ (w : Word) (go : (ps : List (Part Row)) → (Means Meant ps → Command) → Out Command) where
  -- it begins none
  picks_none : {l : Row} (us : Alts Meant l) (ps : List (Part Row)) (f : Meant l → Means Meant ps → Command) (s : Out Command) → starts us w.kind ≡ false → pick Meant w go us ps f s ≡ s
  picks_none over ps f s e = refl
  picks_none (empty t) ps f s e = refl
  picks_none (word j qs b more) ps f s e = on (same_kind j w.kind) e (picks_none more ps f s)
    where
      on : (c : Bool) → cond c true (starts more w.kind) ≡ false → (starts more w.kind ≡ false → pick Meant w go more ps f s ≡ s)
          → cond c (go (qs ++ ps) (λ a. f (b w (front Meant qs ps a)) (rear Meant qs ps a))) (pick Meant w go more ps f s) ≡ s
      on true e i = absurd (clash (sym e))
      on false e i = i e
  picks_none (begins inner qs b more) ps f s e =
      picks_none inner (qs ++ ps) (λ t a. f (b w t (front Meant qs ps a)) (rear Meant qs ps a)) (pick Meant w go more ps f s) (neither_left _ _ e) ∙ picks_none more ps f s (neither_right _ _ e)
  picks_none (enters inner b) ps f s e = picks_none inner (leave ∷ ps) (λ t a. f (b t) a) s e

  -- it begins one: what is done otherwise does not matter
  picks_one : {l : Row} (us : Alts Meant l) (ps : List (Part Row)) (f : Meant l → Means Meant ps → Command) (s s' : Out Command) → starts us w.kind ≡ true
      → pick Meant w go us ps f s ≡ pick Meant w go us ps f s'
  picks_one over ps f s s' e = absurd (clash e)
  picks_one (empty t) ps f s s' e = absurd (clash e)
  picks_one (word j qs b more) ps f s s' e = on (same_kind j w.kind) e (picks_one more ps f s s')
    where
      on : (c : Bool) → cond c true (starts more w.kind) ≡ true → (starts more w.kind ≡ true → pick Meant w go more ps f s ≡ pick Meant w go more ps f s')
          → cond c (go (qs ++ ps) (λ a. f (b w (front Meant qs ps a)) (rear Meant qs ps a))) (pick Meant w go more ps f s)
          ≡ cond c (go (qs ++ ps) (λ a. f (b w (front Meant qs ps a)) (rear Meant qs ps a))) (pick Meant w go more ps f s')
      on true e i = refl
      on false e i = i e
  picks_one (begins inner qs b more) ps f s s' e = one_of (starts inner w.kind) (starts more w.kind) e
      (λ h. picks_one inner (qs ++ ps) (λ t a. f (b w t (front Meant qs ps a)) (rear Meant qs ps a)) (pick Meant w go more ps f s) (pick Meant w go more ps f s') h)
      (λ h k. ap (pick Meant w go inner (qs ++ ps) (λ t a. f (b w t (front Meant qs ps a)) (rear Meant qs ps a))) (picks_one more ps f s s' k))
  picks_one (enters inner b) ps f s s' e = picks_one inner (leave ∷ ps) (λ t a. f (b t) a) s s' e

  -- it begins one inside too many lines
  module _ (no : Out Command) (too_deep : (ps : List (Part Row)) (f : Means Meant ps → Command) → 64 < depth ps → go ps f ≡ no) where
    picks_deep : {l : Row} (us : Alts Meant l) (ps : List (Part Row)) (f : Meant l → Means Meant ps → Command) (s : Out Command) → starts us w.kind ≡ true → 64 < depth ps
        → pick Meant w go us ps f s ≡ no
    picks_deep over ps f s e d = absurd (clash e)
    picks_deep (empty t) ps f s e d = absurd (clash e)
    picks_deep (word j qs b more) ps f s e d = on (same_kind j w.kind) e (λ h. picks_deep more ps f s h d)
      where
        on : (c : Bool) → cond c true (starts more w.kind) ≡ true → (starts more w.kind ≡ true → pick Meant w go more ps f s ≡ no)
            → cond c (go (qs ++ ps) (λ a. f (b w (front Meant qs ps a)) (rear Meant qs ps a))) (pick Meant w go more ps f s) ≡ no
        on true e i = too_deep (qs ++ ps) (λ a. f (b w (front Meant qs ps a)) (rear Meant qs ps a)) (omega (arith, d, deeper qs ps))
        on false e i = i e
    picks_deep (begins inner qs b more) ps f s e d = one_of (starts inner w.kind) (starts more w.kind) e
        (λ h. picks_deep inner (qs ++ ps) (λ t a. f (b w t (front Meant qs ps a)) (rear Meant qs ps a)) (pick Meant w go more ps f s) h (omega (arith, d, deeper qs ps)))
        (λ h k. picks_none inner (qs ++ ps) (λ t a. f (b w t (front Meant qs ps a)) (rear Meant qs ps a)) (pick Meant w go more ps f s) h ∙ picks_deep more ps f s k d)
    picks_deep (enters inner b) ps f s e d = picks_deep inner (leave ∷ ps) (λ t a. f (b t) a) s e (omega (arith, d))

kind_is : (k : Kind) (w : Word) → Is k w ↔ (w.kind ≡ k)
kind_is k w = (λ e. told k w.kind e, λ e. eq-eqb _ _ (ap code (sym e)))

has_to_come : (j : Kind) (ps : List (Part Row)) (f : Means Meant (tok j ∷ ps) → Command) → HasToCome j ps f
has_to_come j ps f = record {
  comes = λ w ws e. ap (λ c. cond c (after w ws ps (λ a. f (w, a))) (bad Unexpected (w ∷ ws))) ((kind_is j w).1 e);
  other = λ w ws e. ap (λ c. cond c (after w ws ps (λ a. f (w, a))) (bad Unexpected (w ∷ ws))) e;
  ended = refl;
}

unbegun : (l : Row) (ps : List (Part Row)) (f : Means Meant (line l ∷ ps) → Command) → Unbegun l ps f
unbegun l ps f = record {
  at_word = λ w ws e. picks_none w (after w ws) (rules l) ps (λ t a. f (t, a)) (skip (nothing Meant (rules l)) (w ∷ ws) (λ t. onward (w ∷ ws) ps (λ a. f (t, a)))) e;
  at_end = refl;
}

too_deep : BegunTooDeep
too_deep l w ws ps f e d =
    picks_deep w (after w ws) (bad NestTooDeep (w ∷ ws)) (λ qs g h. ap (λ c. cond c (onward ws qs g) (bad NestTooDeep (w ∷ ws))) (lt-leb (depth qs) 64 h))
    (rules l) ps (λ t a. f (t, a)) (skip (nothing Meant (rules l)) (w ∷ ws) (λ t. onward (w ∷ ws) ps (λ a. f (t, a)))) e d

counts : (ws : List Word) (ps : List (Part Row)) → Counts ws ps
counts [] ps = record { command = λ f. refl; expr = λ f. refl; prefix = λ f. refl; left = λ f. refl }
counts (w ∷ ws) ps = record { command = λ f. refl; expr = λ f. refl; prefix = λ f. refl; left = λ f. refl }

operands : Operands
operands = record {
  either = λ w ws ps f. refl;
  both = λ w ws ps f. refl;
  test = λ w ws ps f. refl;
  sum = λ w ws ps f. refl;
  product = λ w ws ps f. refl;
  args = λ w ws ps f. refl;
}

lists : Lists
lists = record {
  data_first = λ w ws ps f e. picks_one w (after w ws) (rules (the datum_line)) (line data_more ∷ ps) (λ t a. f (a.0 (t no_data), a.1)) (onward (w ∷ ws) ps (λ a. f (no_data, a))) (bad Unexpected (w ∷ ws)) e;
  data_next = λ w ws ps f e. picks_one w (after w ws) (rules (the datum_line)) (line data_more ∷ ps) (λ t a. f ((λ ds. a.0 (t ds)), a.1)) (onward (w ∷ ws) ps (λ a. f ((λ ds. ds), a))) (bad Unexpected (w ∷ ws)) e;
  routines_first = λ w ws ps f e. picks_one w (after w ws) (rules (the routine_line)) (line routines_more ∷ ps) (λ t a. f (a.0 (t no_routines), a.1)) (onward (w ∷ ws) ps (λ a. f (no_routines, a))) (bad Unexpected (w ∷ ws)) e;
  routines_next = λ w ws ps f e. picks_one w (after w ws) (rules (the routine_line)) (line routines_more ∷ ps) (λ t a. f ((λ rs. a.0 (t rs)), a.1)) (onward (w ∷ ws) ps (λ a. f ((λ rs. rs), a))) (bad Unexpected (w ∷ ws)) e;
  commands_first = λ w ws ps f e. picks_one w (after w ws) (rules (the command_line)) (line commands_more ∷ ps) (λ t a. f (a.0 (then no_commands t), a.1)) (onward (w ∷ ws) ps (λ a. f (no_commands, a))) (bad Unexpected (w ∷ ws)) e;
  commands_next = λ w ws ps f e. picks_one w (after w ws) (rules (the command_line)) (line commands_more ∷ ps) (λ t a. f ((λ cs. a.0 (then cs t)), a.1)) (onward (w ∷ ws) ps (λ a. f ((λ cs. cs), a))) (bad Unexpected (w ∷ ws)) e;
}

-- a word that begins one is of no kind that does not
not_of : {l : Row} (us : Alts Meant l) (j k : Kind) → starts us j ≡ false → starts us k ≡ true → same_kind j k ≡ false
not_of us j k n e = on (same_kind j k) refl
  where
    on : (c : Bool) → same_kind j k ≡ c → c ≡ false
    on true h = absurd (clash (sym (subst (λ z. starts us z ≡ false) (sym (told j k h)) n) ∙ e))
    on false h = refl

passing : Passing
passing = record {
  block = λ w ws ps f e. rw (not_of blocks Name w.kind refl e) (rw (not_of blocks Call w.kind refl e) (rw (not_of blocks If w.kind refl e) (rw (not_of blocks While w.kind refl e) refl)));
  either = λ w ws ps f e. rw (not_of eithers If w.kind refl e) (rw (not_of eithers Let w.kind refl e) refl);
  atom = λ w ws ps f e. rw (not_of atoms Minus w.kind refl e) (rw (not_of atoms Not w.kind refl e) refl);
  args = λ w ws ps f e. picks_one w (after w ws) (rules (the some_args)) ps (λ t a. f (t, a)) (onward (w ∷ ws) ps (λ a. f (no_args, a))) (bad Unexpected (w ∷ ws)) e;
}

pub lines_hold_lem : LinesHold
lines_hold_lem = record { kind_is = kind_is; has_to_come = has_to_come; unbegun = unbegun; too_deep = too_deep; counts = counts; operands = operands; passing = passing; lists = lists }

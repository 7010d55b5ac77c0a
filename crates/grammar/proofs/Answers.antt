-- Reading decides the grammar.
use mathlib.Core.Path.{◌≡◌, refl, sym, ap, subst, ◌∙◌}
use mathlib.Core.Bool.{Bool, true, false}
use mathlib.Core.Logic.{◌⊎◌, inl, inr}
use mathlib.Core.List.{List, [], ◌∷◌, ◌++◌}
use Prim.Native.Nat.{ℕ, suc, ◌+◌, ◌≤◌}
use native.Mathlib.Omega.{arith}
use lib.ListN.{length}
use Rattle.grammar.specs.Words.{Word}
use Rattle.lang.specs.declared.refusal.Refusal.TheVariants.{Unexpected, NestTooDeep}
use Rattle.meaning.specs.Tree.{Command}
use Rattle.grammar.specs.Grammar.{command_line, Text}
use Rattle.grammar.specs.Refusals.{NoMore, Leaves, TooDeep}
use Rattle.grammar.specs.Machine.{Part, line, Means, Out, fine, bad}
use Rattle.grammar.proofs.Stepper.{run}
use Rattle.grammar.specs.Table.{Row, the, Meant, rules, reading}
use Rattle.grammar.specs.Answer.{Decides}
use Rattle.grammar.proofs.Alongside.{as_stepped}
use Rattle.grammar.proofs.Derive.{parts, D, nil, a_line}
use Rattle.grammar.proofs.Runs as r
use Rattle.grammar.proofs.Decide.{apart_holds}
use Rattle.grammar.proofs.Instance.{ll, follow, keeps, apart_tests, sample, sampled}
use Rattle.grammar.proofs.Into.{into}
use Rattle.grammar.proofs.Outof.{out}

abbrev pub start : List (Part Row)
start = line (the command_line) ∷ []

abbrev whole : Means Meant start → Command
whole a = a.0

-- the words as a rule, by the machine in steps
abbrev stepped : List Word → Out Command
stepped ws = run Meant rules ws start whole

same-reading : (ws : List Word) → reading ws ≡ stepped ws
same-reading ws = as_stepped Meant rules ws start whole

-- a text, as the table has it
pub to_table : {k : ℕ} {ws : List Word} {t : Command} → Text k ws t → D Meant rules k (parts 0 0 start) ws [] (t, tt)
to_table x = a_line (into x) nil

pub from_table : {k : ℕ} {ws : List Word} {a : Means Meant start} → D Meant rules k (parts 0 0 start) ws [] a → Text k ws a.0
from_table {k} (a_line d nil) = out k (the command_line) d

looser : {j : ℕ} (k : ℕ) {ws : List Word} {t : Command} → j ≤ k → Text j ws t → Text k ws t
looser k o x = from_table (r.looser Meant rules k o (to_table x))

fine-start : r.Fine Meant rules ll follow keeps (λ l. apart_holds Meant rules ll follow l (apart_tests l)) start
fine-start = (λ k e. let z : ◌≡◌ {A = Bool} false true = e in absurd (no z), tt)
  where
    no : false ≡ true → ⊥
    no e = let z : ◌≡◌ {A = ℕ} 0 1 = cc in omega arith

accepted : (ws : List Word) (t : Command) → stepped ws ≡ fine t → Text 0 ws t
accepted ws t e = let x = r.sound Meant rules 0 ws start whole t e in subst (Text 0 ws) x.2 (from_table x.1)

accepts : (ws : List Word) (t : Command) → Text 0 ws t → stepped ws ≡ fine t
accepts ws t x = r.complete Meant rules ll follow keeps (λ l. apart_holds Meant rules ll follow l (apart_tests l)) ws start whole (t, tt) fine-start (omega arith) (to_table x)

one_tree : (ws : List Word) (j k : ℕ) (t u : Command) → Text j ws t → Text k ws u → t ≡ u
one_tree ws j k t u x y = ap whole (r.unique Meant rules ll follow keeps (λ l. apart_holds Meant rules ll follow l (apart_tests l)) j k ws start (t, tt) (u, tt) fine-start (to_table x) (to_table y))

leaves : (ws q : List Word) → stepped ws ≡ bad Unexpected q → Leaves ws q
leaves ws q e =
    let x = r.leaves Meant rules ll follow keeps (λ l. apart_holds Meant rules ll follow l (apart_tests l)) sample sampled ws q start whole fine-start e in
    record { before = x.before; split = x.parted; viable = (x.viable.0, x.viable.1.0.0, from_table x.viable.1.1); no_more = lasts x.before q x.no_more }
  where
    lasts : (u q : List Word) → r.NoMore Meant rules ll follow keeps (λ l. apart_holds Meant rules ll follow l (apart_tests l)) sample sampled start u q → NoMore u q
    lasts u [] n = λ t y. n _ ((t, tt), to_table y)
    lasts u (w ∷ ws) n = λ vs t y. n _ vs ((t, tt), to_table y)

too_deep : (ws q : List Word) → stepped ws ≡ bad NestTooDeep q → TooDeep ws q
too_deep ws q e =
    let x = r.deep Meant rules ll follow keeps (λ l. apart_holds Meant rules ll follow l (apart_tests l)) sample sampled ws q start whole fine-start (omega arith) e in
    record {
      before = x.before;
      word = x.word;
      after = x.after;
      here = x.here;
      split = x.parted;
      so_far = (x.so_far.0, x.so_far.1.0.0, from_table x.so_far.1.1);
      no_more = λ vs t y. x.no_more vs ((t, tt), to_table y);
    }

-- two ways to part the same words
data Parted (u p v q : List Word) : Type 0 where
  alike : u ≡ v → p ≡ q → Parted u p v q
  longer : (w : Word) (x : List Word) → v ≡ u ++ w ∷ x → p ≡ w ∷ x ++ q → Parted u p v q
  shorter : (w : Word) (x : List Word) → u ≡ v ++ w ∷ x → q ≡ w ∷ x ++ p → Parted u p v q

heads : (a b : Word) (xs ys : List Word) → a ∷ xs ≡ b ∷ ys → a ≡ b
heads a b xs ys e = cc

tails : (a b : Word) (xs ys : List Word) → a ∷ xs ≡ b ∷ ys → xs ≡ ys
tails a b xs ys e = cc

part : (u p v q : List Word) → u ++ p ≡ v ++ q → Parted u p v q
part [] p [] q e = alike refl e
part [] p (w ∷ v) q e = longer w v refl e
part (w ∷ u) p [] q e = shorter w u refl (sym e)
part (w ∷ u) p (y ∷ v) q e = on (part u p v q (tails w y (u ++ p) (v ++ q) e))
  where
    h : w ≡ y
    h = heads w y (u ++ p) (v ++ q) e

    on : Parted u p v q → Parted (w ∷ u) p (y ∷ v) q
    on (alike a b) = alike (ap (λ z. w ∷ z) a ∙ ap (λ z. z ∷ v) h) b
    on (longer s x a b) = longer s x (ap (λ z. z ∷ v) (sym h) ∙ ap (λ z. w ∷ z) a) b
    on (shorter s x a b) = shorter s x (ap (λ z. z ∷ u) h ∙ ap (λ z. y ∷ z) a) b

append_assoc : (a b c : List Word) → (a ++ b) ++ c ≡ a ++ (b ++ c)
append_assoc [] b c = refl
append_assoc (x ∷ a) b c = ap (λ z. x ∷ z) (append_assoc a b c)

append_nil : (a : List Word) → a ++ [] ≡ a
append_nil [] = refl
append_nil (x ∷ a) = ap (λ z. x ∷ z) (append_nil a)

length-append : (a b : List Word) → length (a ++ b) ≡ length a + length b
length-append [] b = omega arith
length-append (x ∷ a) b = omega (arith, length-append a b)

-- a text that goes on past u
past : (u : List Word) (w : Word) (x v : List Word) {k : ℕ} {t : Command} → Text k ((u ++ w ∷ x) ++ v) t → Text k (u ++ w ∷ (x ++ v)) t
past u w x v {k} {t} d = subst (λ z. Text k z t) (append_assoc u (w ∷ x) v) d

free : {k : ℕ} {ws : List Word} {t : Command} → Text k ws t → Text (suc (length ws)) ws t
free {k} {ws} {t} d = from_table (r.free Meant rules (suc (length ws)) (omega arith) (to_table d))

no_seven : (ws q : List Word) (t : Command) → Leaves ws q → Text 0 ws t → ⊥
no_seven ws q t l d = on q l.split l.no_more
  where
    on : (q : List Word) → l.before ++ q ≡ ws → NoMore l.before q → ⊥
    on [] e n = n t (free (subst (λ z. Text 0 z t) (sym e ∙ append_nil l.before) d))
    on (w ∷ vs) e n = n vs t (free (subst (λ z. Text 0 z t) (sym e) d))

no_eight : (ws q : List Word) (t : Command) → TooDeep ws q → Text 0 ws t → ⊥
no_eight ws q t x d = x.no_more x.after t (looser _ (omega arith) (subst (λ z. Text 0 z t) (sym (ap (λ z. x.before ++ z) (sym x.here) ∙ x.split)) d))

no_more_at : (u : List Word) (w : Word) (p q : List Word) → p ≡ w ∷ q → NoMore u p → NoMore u (w ∷ q)
no_more_at u w p q e n = subst (NoMore u) e n

-- where a text leaves the grammar it goes no further, and is not too deep
no_further : (u p v : List Word) (w : Word) (x q : List Word) → NoMore u p → v ≡ u ++ w ∷ x → p ≡ w ∷ x ++ q → {k : ℕ} (y : List Word) (t : Command) → Text k (v ++ y) t → ⊥
no_further u p v w x q n a b {k} y t d = no_more_at u w p (x ++ q) b n (x ++ y) t (free (past u w x y (subst (λ z. Text k (z ++ y) t) a d)))

same-seven : (ws p q : List Word) → Leaves ws p → Leaves ws q → p ≡ q
same-seven ws p q l m = on (part l.before p m.before q (l.split ∙ sym m.split))
  where
    on : Parted l.before p m.before q → p ≡ q
    on (alike a b) = b
    on (longer w x a b) = absurd (no_further l.before p m.before w x q l.no_more a b m.viable.0 m.viable.1 m.viable.2)
    on (shorter w x a b) = absurd (no_further m.before q l.before w x p m.no_more a b l.viable.0 l.viable.1 l.viable.2)

-- what begins with too deep a word is too deep
deeper : (ws q : List Word) (x : TooDeep ws q) (u : List Word) (s : List Word) (y : List Word) (k : ℕ) (t : Command) → u ≡ x.before ++ x.word ∷ s → k ≤ suc (length y) → Text k (u ++ y) t → ⊥
deeper ws q x u s y k t e o d = x.no_more (s ++ y) t (looser _ (omega (arith, o, length-append s y)) (past x.before x.word s y (subst (λ z. Text k (z ++ y) t) e d)))

apart : (ws p q : List Word) → Leaves ws p → TooDeep ws q → ⊥
apart ws p q l x = on (part l.before p x.before q (l.split ∙ sym x.split))
  where
    on : Parted l.before p x.before q → ⊥
    on (alike a b) = no_more_at l.before x.word p x.after (b ∙ x.here) l.no_more x.so_far.0 x.so_far.1 (free (subst (λ z. Text (suc (length (x.word ∷ x.so_far.0))) (z ++ x.word ∷ x.so_far.0) x.so_far.1) (sym a) x.so_far.2))
    on (longer w s a b) = no_further l.before p x.before w s q l.no_more a b (x.word ∷ x.so_far.0) x.so_far.1 x.so_far.2
    on (shorter w s a b) = deeper ws q x l.before s l.viable.0 (suc (length l.viable.0)) l.viable.1 (subst (λ z. l.before ≡ x.before ++ z ∷ s) (heads w x.word (s ++ p) x.after (sym b ∙ x.here)) a) (omega arith) l.viable.2

same-eight : (ws p q : List Word) → TooDeep ws p → TooDeep ws q → p ≡ q
same-eight ws p q x y = on (part x.before p y.before q (x.split ∙ sym y.split))
  where
    on : Parted x.before p y.before q → p ≡ q
    on (alike a b) = b
    on (longer w s a b) = absurd (deeper ws p x y.before s (y.word ∷ y.so_far.0) (suc (length (y.word ∷ y.so_far.0))) y.so_far.1 (subst (λ z. y.before ≡ x.before ++ z ∷ s) (heads w x.word (s ++ q) x.after (sym b ∙ x.here)) a) (omega arith) y.so_far.2)
    on (shorter w s a b) = absurd (deeper ws q y x.before s (x.word ∷ x.so_far.0) (suc (length (x.word ∷ x.so_far.0))) x.so_far.1 (subst (λ z. x.before ≡ y.before ++ z ∷ s) (heads w y.word (s ++ p) y.after (sym b ∙ y.here)) a) (omega arith) x.so_far.2)

-- the machine answers 7, 8 or a tree
data Answered (ws : List Word) : Type 0 where
  a_tree : (t : Command) → stepped ws ≡ fine t → Answered ws
  a_seven : (q : List Word) → stepped ws ≡ bad Unexpected q → Answered ws
  an_eight : (q : List Word) → stepped ws ≡ bad NestTooDeep q → Answered ws

answered : (ws : List Word) → Answered ws
answered ws = r.answers Meant rules (Answered ws) ws start whole (λ t e. a_tree t e) (λ q e. a_seven q e) (λ q e. an_eight q e)

seven : (ws q : List Word) → Leaves ws q → stepped ws ≡ bad Unexpected q
seven ws q l = on (answered ws)
  where
    on : Answered ws → stepped ws ≡ bad Unexpected q
    on (a_tree t e) = absurd (no_seven ws q t l (accepted ws t e))
    on (a_seven p e) = e ∙ ap (bad Unexpected) (same-seven ws p q (leaves ws p e) l)
    on (an_eight p e) = absurd (apart ws q p l (too_deep ws p e))

eight : (ws q : List Word) → TooDeep ws q → stepped ws ≡ bad NestTooDeep q
eight ws q x = on (answered ws)
  where
    on : Answered ws → stepped ws ≡ bad NestTooDeep q
    on (a_tree t e) = absurd (no_eight ws q t x (accepted ws t e))
    on (a_seven p e) = absurd (apart ws p q (leaves ws p e) x)
    on (an_eight p e) = e ∙ ap (bad NestTooDeep) (same-eight ws p q (too_deep ws p e) x)

always : (ws : List Word) → ((t : Command) × Text 0 ws t) ⊎ (((q : List Word) × Leaves ws q) ⊎ ((q : List Word) × TooDeep ws q))
always ws = on (answered ws)
  where
    on : Answered ws → ((t : Command) × Text 0 ws t) ⊎ (((q : List Word) × Leaves ws q) ⊎ ((q : List Word) × TooDeep ws q))
    on (a_tree t e) = inl (t, accepted ws t e)
    on (a_seven q e) = inr (inl (q, leaves ws q e))
    on (an_eight q e) = inr (inr (q, too_deep ws q e))

pub decides : (ws : List Word) → Decides ws
decides ws = record {
  accepts = λ t. (λ x. same-reading ws ∙ accepts ws t x, λ e. accepted ws t (sym (same-reading ws) ∙ e));
  seven = λ q. (λ x. same-reading ws ∙ seven ws q x, λ e. leaves ws q (sym (same-reading ws) ∙ e));
  eight = λ q. (λ x. same-reading ws ∙ eight ws q x, λ e. too_deep ws q (sym (same-reading ws) ∙ e));
  always = always ws;
  one_tree = one_tree ws;
}

-- Whether one word ahead decides, by computing over a table.
use mathlib.Core.Path.{sym, ap, ◌∙◌, ◌≡◌, refl, subst}
use mathlib.Core.Bool.{Bool, true, false, cond}
use mathlib.Core.List.{List, [], ◌∷◌}
use mathlib.Core.Option.{Option, some, none}
use Prim.Native.Nat.{ℕ, zero, suc, ◌<◌}
use native.Mathlib.Omega.{arith}
use lib.ListN.{length}
use borrow.Author.Tests.{clash, eqb-true}
use Rattle.lang.specs.declared.word.Kind.{Kind}
use Rattle.lang.specs.Kinds.{same_kind, code}
use Rattle.grammar.specs.Machine.{Part, tok, line, leave, depth, Alts, over, empty, word, begins, enters, nothing}
use Rattle.grammar.proofs.Stepper.{at}
use lib.Dec.{eqb}
use Rattle.lang.specs.declared.word.Kind.TheVariants.{Name, Number, Call, If, Then, Else, While, Do, Const, Var, Fun, Proc, Let, In, Or, And, Not, True, False, OpenBrace, CloseBrace, Open, Close, Semicolon, Comma, Equal, Less, Plus, Minus, Times, Becomes}
use Rattle.grammar.proofs.Forth.{LL, takes, starts, Good, Keeps}

abbrev pub kinds : List Kind
kinds = Name ∷ Number ∷ Call ∷ If ∷ Then ∷ Else ∷ While ∷ Do ∷ Const ∷ Var ∷ Fun ∷ Proc ∷ Let ∷ In ∷ Or ∷ And ∷ Not ∷ True ∷ False
    ∷ OpenBrace ∷ CloseBrace ∷ Open ∷ Close ∷ Semicolon ∷ Comma ∷ Equal ∷ Less ∷ Plus ∷ Minus ∷ Times ∷ Becomes ∷ []

abbrev nth : List Kind → ℕ → Kind
nth [] n = Name
nth (k ∷ ks) zero = k
nth (k ∷ ks) (suc n) = nth ks n

at_code : (k : Kind) → (nth kinds (code k) ≡ k) × (code k < 31)
at_code Name = (refl, omega arith)
at_code Number = (refl, omega arith)
at_code Call = (refl, omega arith)
at_code If = (refl, omega arith)
at_code Then = (refl, omega arith)
at_code Else = (refl, omega arith)
at_code While = (refl, omega arith)
at_code Do = (refl, omega arith)
at_code Const = (refl, omega arith)
at_code Var = (refl, omega arith)
at_code Fun = (refl, omega arith)
at_code Proc = (refl, omega arith)
at_code Let = (refl, omega arith)
at_code In = (refl, omega arith)
at_code Or = (refl, omega arith)
at_code And = (refl, omega arith)
at_code Not = (refl, omega arith)
at_code True = (refl, omega arith)
at_code False = (refl, omega arith)
at_code Becomes = (refl, omega arith)
at_code Semicolon = (refl, omega arith)
at_code Open = (refl, omega arith)
at_code Close = (refl, omega arith)
at_code OpenBrace = (refl, omega arith)
at_code CloseBrace = (refl, omega arith)
at_code Equal = (refl, omega arith)
at_code Less = (refl, omega arith)
at_code Plus = (refl, omega arith)
at_code Minus = (refl, omega arith)
at_code Times = (refl, omega arith)
at_code Comma = (refl, omega arith)

-- kinds are told apart by their numbers
pub told : (j k : Kind) → same_kind j k ≡ true → k ≡ j
told j k e = sym (at_code k).0 ∙ ap (nth kinds) (sym (eqb-true (code j) (code k) e)) ∙ (at_code j).0

abbrev ◌&&◌ : Bool → Bool → Bool
◌&&◌ a b = cond a b false

infixr 30 ◌&&◌
abbrev not : Bool → Bool
not a = cond a false true

-- where a holds so does b
abbrev gives : Bool → Bool → Bool
gives a b = cond a b true

and_left : (a b : Bool) → (a && b) ≡ true → a ≡ true
and_left true b e = refl
and_left false b e = e

and_right : (a b : Bool) → (a && b) ≡ true → b ≡ true
and_right true b e = e
and_right false b e = absurd (clash e)

not_true : (a : Bool) → not a ≡ true → a ≡ false
not_true true e = absurd (clash e)
not_true false e = refl

given : (a b : Bool) → gives a b ≡ true → a ≡ true → b ≡ true
given true b e h = e
given false b e h = absurd (clash h)

abbrev all : (Kind → Bool) → List Kind → Bool
all f [] = true
all f (k ∷ ks) = f k && all f ks

all_nth : (f : Kind → Bool) (ks : List Kind) (n : ℕ) → all f ks ≡ true → n < length ks → f (nth ks n) ≡ true
all_nth f [] n e h = absurd (omega (arith, h))
all_nth f (k ∷ ks) zero e h = and_left (f k) (all f ks) e
all_nth f (k ∷ ks) (suc n) e h = all_nth f ks n (and_right (f k) (all f ks) e) (omega (arith, h))

abbrev every : (Kind → Bool) → Bool
every f = all f kinds

each : (f : Kind → Bool) → every f ≡ true → (k : Kind) → f k ≡ true
each f e k = subst (λ j. f j ≡ true) (at_code k).0 (all_nth f kinds (code k) e (at_code k).1)

abbrev is_none : {A : Type 0} → Option A → Bool
is_none none = true
is_none (some x) = false

none_is : {A : Type 0} (x : Option A) → is_none x ≡ true → x ≡ none
none_is none e = refl
none_is (some x) e = absurd (clash e)

module _ {L : Type 0} (V : L → Type 0) where
  abbrev pub ll_test : {l : L} → Alts V l → Bool
  ll_test over = true
  ll_test (empty t) = true
  ll_test (word j ps b more) = every (λ k. gives (same_kind j k) (not (takes V (at V more k)))) && eqb (depth ps) 0 && ll_test more
  ll_test (begins inner ps b more) = every (λ k. gives (takes V (at V inner k)) (not (takes V (at V more k)))) && eqb (depth ps) 0 && is_none (nothing V inner) && ll_test inner && ll_test more
  ll_test (enters inner b) = is_none (nothing V inner) && ll_test inner

  pub ll_holds : {l : L} (us : Alts V l) → ll_test us ≡ true → LL V us
  ll_holds over e = tt
  ll_holds (empty t) e = tt
  ll_holds (word j ps b more) e =
      let r = and_right _ _ e in
      (λ k h. not_true _ (given _ _ (each (λ k. gives (same_kind j k) (not (takes V (at V more k)))) (and_left _ _ e) k) h), eqb-true _ 0 (and_left _ _ r), ll_holds more (and_right _ _ r))
  ll_holds (begins inner ps b more) e =
      let r = and_right _ _ e in
      let s = and_right _ _ r in
      let t = and_right _ _ s in
      (λ k h. not_true _ (given _ _ (each (λ k. gives (takes V (at V inner k)) (not (takes V (at V more k)))) (and_left _ _ e) k) h), eqb-true _ 0 (and_left _ _ r), none_is _ (and_left _ _ s), ll_holds inner (and_left _ _ t), ll_holds more (and_right _ _ t))
  ll_holds (enters inner b) e = (none_is _ (and_left _ _ e), ll_holds inner (and_right _ _ e))

  module _ (rules : (l : L) → Alts V l) (ll : (l : L) → LL V (rules l)) (follow : L → Kind → Bool) where
    abbrev pub good_test : (Kind → Bool) → List (Part L) → Bool
    good_test F [] = true
    good_test F (tok j ∷ ps) = good_test F ps
    good_test F (line l ∷ ps) = every (λ k. gives (starts V rules ll F ps k) (follow l k)) && good_test F ps
    good_test F (leave ∷ ps) = good_test F ps

    good_holds : (F : Kind → Bool) (ps : List (Part L)) → good_test F ps ≡ true → Good V rules ll follow F ps
    good_holds F [] e = tt
    good_holds F (tok j ∷ ps) e = good_holds F ps e
    good_holds F (line l ∷ ps) e = (λ k h. given _ _ (each (λ k. gives (starts V rules ll F ps k) (follow l k)) (and_left _ _ e) k) h, good_holds F ps (and_right _ _ e))
    good_holds F (leave ∷ ps) e = good_holds F ps e

    abbrev pub keeps_test : {l : L} → (Kind → Bool) → Alts V l → Bool
    keeps_test F over = true
    keeps_test F (empty t) = true
    keeps_test F (word j ps b more) = good_test F ps && keeps_test F more
    keeps_test F (begins inner ps b more) = keeps_test (starts V rules ll F ps) inner && good_test F ps && keeps_test F more
    keeps_test F (enters inner b) = keeps_test F inner

    pub keeps_holds : {l : L} (F : Kind → Bool) (us : Alts V l) → keeps_test F us ≡ true → Keeps V rules ll follow F us
    keeps_holds F over e = tt
    keeps_holds F (empty t) e = tt
    keeps_holds F (word j ps b more) e = (good_holds F ps (and_left _ _ e), keeps_holds F more (and_right _ _ e))
    keeps_holds F (begins inner ps b more) e =
        let r = and_right _ _ e in
        (keeps_holds (starts V rules ll F ps) inner (and_left _ _ e), good_holds F ps (and_left _ _ r), keeps_holds F more (and_right _ _ r))
    keeps_holds F (enters inner b) e = keeps_holds F inner e

    abbrev pub apart_test : L → Bool
    apart_test l = cond (is_none (nothing V (rules l))) true (every (λ k. gives (follow l k) (not (takes V (at V (rules l) k)))))

    pub apart_holds : (l : L) → apart_test l ≡ true → (k : Kind) (t : V l) → nothing V (rules l) ≡ some t → follow l k ≡ true → takes V (at V (rules l) k) ≡ false
    apart_holds l e k t n h = not_true _ (given _ _ (each (λ k. gives (follow l k) (not (takes V (at V (rules l) k)))) (on (nothing V (rules l)) n e) k) h)
      where
        on : {b : Bool} (x : Option (V l)) → x ≡ some t → cond (is_none x) true b ≡ true → b ≡ true
        on none n e = let z : ◌≡◌ {A = ℕ} 0 1 = cc in absurd (omega arith)
        on (some y) n e = e

-- Small facts on lists, tests and options.
use Rattle.std.proofs.Common.{◌≡◌, ℕ, zero, suc, ◌+◌, ◌<◌, Bool, true, false, T, eqb, ltb, List, [], ◌∷◌, ◌++◌, map, length, Some, None, Option, sym, refl, ap, ◌∙◌, subst, ap₂, arith, eqb→eq, lt→ltb, length-append}
use mathlib.Core.List.{reverse_aux}
use lib.Dec.{eqb_refl}
use Rattle.std.specs.List.{slice_get}
use Rattle.lang.specs.declared.value.Value.{Value}
use Rattle.lang.specs.declared.value.Value.TheVariants.{Number, Truth}
use Rattle.lang.specs.Values.{slot_of, value_in}

pub to_true : (b : Bool) → T b → b ≡ true
to_true true t = refl
to_true false t = absurd t

pub from_true : (b : Bool) → b ≡ true → T b
from_true b e = subst T (sym e) tt

pub not_both : {A : Type 0} → true ≡ false → A
not_both e = absurd (subst T e tt)

pub eqb_same : (n : ℕ) → eqb n n ≡ true
eqb_same n = to_true (eqb n n) (eqb_refl n)

pub ltb_true : (m n : ℕ) → m < n → ltb m n ≡ true
ltb_true m n l = to_true (ltb m n) (lt→ltb m n l)

pub eqb_less : (m n : ℕ) → m < n → eqb m n ≡ false
eqb_less m n l = by (eqb m n) refl
  where
    by : (b : Bool) → eqb m n ≡ b → b ≡ false
    by false e = refl
    by true e = let x = eqb→eq m n (from_true (eqb m n) e) in absurd (omega arith)

abbrev IsNone : {A : Type 0} → Option A → Type 0
IsNone None = Unit {0}
IsNone (Some a) = ⊥

pub none_some : {A B : Type 0} {a : A} → None ≡ Some a → B
none_some e = absurd (subst IsNone e tt)

abbrev pub map_o : {A B : Type 0} → (A → B) → Option A → Option B
map_o f None = None
map_o f (Some a) = Some (f a)

pub nth_map : {A B : Type 0} (f : A → B) (xs : List A) (i : ℕ) → slice_get (map f xs) i ≡ map_o f (slice_get xs i)
nth_map f [] i = refl
nth_map f (x ∷ xs) zero = refl
nth_map f (x ∷ xs) (suc i) = nth_map f xs i

abbrev IsNil : {A : Type 0} → List A → Type 0
IsNil [] = Unit {0}
IsNil (x ∷ xs) = ⊥

pub cons_nil : {A B : Type 0} {a : A} {xs : List A} → a ∷ xs ≡ [] → B
cons_nil e = absurd (subst IsNil (sym e) tt)

-- parts of an empty list
pub nil_left : {A : Type 0} (a b : List A) → a ++ b ≡ [] → a ≡ []
nil_left [] b e = refl
nil_left (x ∷ a) b e = cons_nil e

pub nil_right : {A : Type 0} (a b : List A) → a ++ b ≡ [] → b ≡ []
nil_right [] b e = e
nil_right (x ∷ a) b e = cons_nil e

pub append_nil : {A : Type 0} (xs : List A) → xs ++ [] ≡ xs
append_nil [] = refl
append_nil (x ∷ xs) = ap (λ ys. x ∷ ys) (append_nil xs)

pub append_assoc : {A : Type 0} (a b c : List A) → (a ++ b) ++ c ≡ a ++ (b ++ c)
append_assoc [] b c = refl
append_assoc (x ∷ a) b c = ap (λ ys. x ∷ ys) (append_assoc a b c)

-- lists of one length
pub same-append : {A B : Type 0} (a c : List A) (b d : List B) → length a ≡ length b → length c ≡ length d → length (a ++ c) ≡ length (b ++ d)
same-append a c b d e f = length-append a c ∙ ap₂ ◌+◌ e f ∙ sym (length-append b d)

pub reverse_snoc : {A : Type 0} (us vs : List A) (v : A) → reverse_aux (us ++ (v ∷ [])) vs ≡ v ∷ reverse_aux us vs
reverse_snoc [] vs v = refl
reverse_snoc (u ∷ us) vs v = reverse_snoc us (u ∷ vs) v

pub length_snoc : {A : Type 0} (us : List A) (v : A) → length (us ++ (v ∷ [])) ≡ suc (length us)
length_snoc us v = let x = length-append us (v ∷ []) in omega arith

pub value-slot : (v : Value) → value_in (slot_of v) ≡ Some v
value-slot (Number z) = refl
value-slot (Truth b) = refl

pub nth_past : {A : Type 0} (xs : List A) → slice_get xs (length xs) ≡ None
nth_past [] = refl
nth_past (x ∷ xs) = nth_past xs

pub nth_seam : {A : Type 0} (xs ys : List A) (y : A) → slice_get (xs ++ (y ∷ ys)) (length xs) ≡ Some y
nth_seam [] ys y = refl
nth_seam (x ∷ xs) ys y = nth_seam xs ys y

abbrev from_some : {A : Type 0} → A → Option A → A
from_some a None = a
from_some a (Some b) = b

pub some_is : {A : Type 0} {a b : A} → Some a ≡ Some b → a ≡ b
some_is {A} {a} {b} e = ap (from_some a) e

pub nth_below : {A : Type 0} {a : A} (xs : List A) (i : ℕ) → slice_get xs i ≡ Some a → i < length xs
nth_below [] i e = none_some e
nth_below (x ∷ xs) zero e = omega arith
nth_below (x ∷ xs) (suc i) e = let l = nth_below xs i e in omega arith

-- The refusal is in the list of violations, and none is earlier.
use Rattle.std.proofs.Common.{◌≡◌, ℕ, zero, suc, ◌<◌, ◌≤◌, Bool, true, false, cond, not, ◌&&◌, ◌||◌, T, eqb, ltb, ◌⊎◌, List, [], ◌∷◌, Some, None, Option, sym, refl, ap, ◌∙◌, subst, inl, inr, arith, eqb→eq, ltb→lt, nltb→le}
use Rattle.std.specs.List.{slice_get}
use Rattle.lang.specs.declared.refusal.Refused.{Refused}
use Rattle.lang.specs.Refusals.{number}
use Rattle.meaning.specs.Violations.{violations, earlier, least, Decided, RefusalIsLeast}
use Rattle.meaning.proofs.Basics.{some_is, none_some, from_true, not_both, eqb_same}

abbrev NotLater : Refused → Refused → Type 0
NotLater u v = earlier v u ≡ false

not_true : (b : Bool) → b ≡ false → T (not b)
not_true b e = subst (λ (b : Bool). T (not b)) (sym e) tt

-- what the test says of the places and the numbers
is_earlier : (u v : Refused) → earlier u v ≡ true → (u.place < v.place) ⊎ ((u.place ≡ v.place) × (number u.why < number v.why))
is_earlier u v e = by (ltb u.place v.place) (eqb u.place v.place) (ltb (number u.why) (number v.why)) refl refl refl e
  where
    by : (a b c : Bool) → ltb u.place v.place ≡ a → eqb u.place v.place ≡ b → ltb (number u.why) (number v.why) ≡ c → (a || (b && c)) ≡ true → (u.place < v.place) ⊎ ((u.place ≡ v.place) × (number u.why < number v.why))
    by true b c p q r e = inl (ltb→lt u.place v.place (from_true _ p))
    by false true true p q r e = inr (eqb→eq u.place v.place (from_true _ q), ltb→lt (number u.why) (number v.why) (from_true _ r))
    by false true false p q r e = not_both (sym e)
    by false false c p q r e = not_both (sym e)

is_not_earlier : (u v : Refused) → earlier u v ≡ false → (v.place ≤ u.place) × (u.place ≡ v.place → number v.why ≤ number u.why)
is_not_earlier u v e = by (ltb u.place v.place) (eqb u.place v.place) (ltb (number u.why) (number v.why)) refl refl refl e
  where
    by : (a b c : Bool) → ltb u.place v.place ≡ a → eqb u.place v.place ≡ b → ltb (number u.why) (number v.why) ≡ c → (a || (b && c)) ≡ false → (v.place ≤ u.place) × (u.place ≡ v.place → number v.why ≤ number u.why)
    by true b c p q r e = not_both e
    by false true true p q r e = not_both e
    by false true false p q r e = (nltb→le u.place v.place (not_true _ p), λ _. nltb→le (number u.why) (number v.why) (not_true _ r))
    by false false c p q r e = (nltb→le u.place v.place (not_true _ p), λ s. not_both (sym (eqb_same v.place) ∙ ap (λ (n : ℕ). eqb n v.place) (sym s) ∙ q))

not_later_refl : (u : Refused) → NotLater u u
not_later_refl u = by (earlier u u) refl
  where
    by : (b : Bool) → earlier u u ≡ b → b ≡ false
    by false e = refl
    by true e = let x = is_earlier u u e in absurd (omega arith)

not_later_trans : (u v w : Refused) → NotLater u v → NotLater v w → NotLater u w
not_later_trans u v w p q = by (earlier w u) refl
  where
    by : (b : Bool) → earlier w u ≡ b → b ≡ false
    by false e = refl
    by true e = let x = is_earlier w u e in let y = is_not_earlier v u p in let z = is_not_earlier w v q in absurd (omega arith)

earlier_not_later : (u v : Refused) → earlier u v ≡ true → NotLater u v
earlier_not_later u v p = by (earlier v u) refl
  where
    by : (b : Bool) → earlier v u ≡ b → b ≡ false
    by false e = refl
    by true e = let x = is_earlier v u e in let y = is_earlier u v p in absurd (omega arith)

-- the least of a list and one found before
record Found (r : Refused) (vs : List Refused) : Type 0 where
  one : Refused
  is : least (Some r) vs ≡ Some one
  not_later : NotLater one r
  first : (i : ℕ) (v : Refused) → slice_get vs i ≡ Some v → NotLater one v
  among : (one ≡ r) ⊎ ((i : ℕ) × (slice_get vs i ≡ Some one))

found : (r : Refused) (vs : List Refused) → Found r vs
found r [] = record { one = r; is = refl; not_later = not_later_refl r; first = λ i v e. none_some e; among = inl refl }
found r (v ∷ vs) = by (earlier v r) refl (found v vs) (found r vs)
  where
    each : (x : Refused) → NotLater x v → ((i : ℕ) (u : Refused) → slice_get vs i ≡ Some u → NotLater x u) → (i : ℕ) (u : Refused) → slice_get (v ∷ vs) i ≡ Some u → NotLater x u
    each x l h zero u e = subst (NotLater x) (some_is e) l
    each x l h (suc i) u e = h i u e

    with_head : (x : Refused) → (x ≡ v) ⊎ ((i : ℕ) × (slice_get vs i ≡ Some x)) → (i : ℕ) × (slice_get (v ∷ vs) i ≡ Some x)
    with_head x (inl e) = (0, ap {B = Option Refused} Some (sym e))
    with_head x (inr h) = (suc h.0, h.1)

    without : (x : Refused) → (x ≡ r) ⊎ ((i : ℕ) × (slice_get vs i ≡ Some x)) → (x ≡ r) ⊎ ((i : ℕ) × (slice_get (v ∷ vs) i ≡ Some x))
    without x (inl e) = inl e
    without x (inr h) = inr (suc h.0, h.1)

    by : (b : Bool) → earlier v r ≡ b → Found v vs → Found r vs → Found r (v ∷ vs)
    by true e f g = record { one = f.one; is = ap (λ (b : Bool). least (cond b (Some v) (Some r)) vs) e ∙ f.is; not_later = not_later_trans f.one v r f.not_later (earlier_not_later v r e); first = each f.one f.not_later f.first; among = inr (with_head f.one f.among) }
    by false e f g = record { one = g.one; is = ap (λ (b : Bool). least (cond b (Some v) (Some r)) vs) e ∙ g.is; not_later = g.not_later; first = each g.one (not_later_trans g.one r v g.not_later e) g.first; among = without g.one g.among }

decided : (vs : List Refused) → Decided vs (least None vs)
decided [] = refl
decided (v ∷ vs) = subst (Decided (v ∷ vs)) (sym (found v vs).is) (by (found v vs))
  where
    place_of : (x : Refused) → (x ≡ v) ⊎ ((i : ℕ) × (slice_get vs i ≡ Some x)) → (i : ℕ) × (slice_get (v ∷ vs) i ≡ Some x)
    place_of x (inl e) = (0, ap {B = Option Refused} Some (sym e))
    place_of x (inr h) = (suc h.0, h.1)

    each : (f : Found v vs) (i : ℕ) (u : Refused) → slice_get (v ∷ vs) i ≡ Some u → NotLater f.one u
    each f zero u e = subst (NotLater f.one) (some_is e) f.not_later
    each f (suc i) u e = f.first i u e

    by : (f : Found v vs) → Decided (v ∷ vs) (Some f.one)
    by f = record { at = (place_of f.one f.among).0; is = (place_of f.one f.among).1; first = each f }

pub refusal_is_least_lem : RefusalIsLeast
refusal_is_least_lem es c = decided (violations es c)

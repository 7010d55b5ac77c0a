-- What a stack's cells hold, as lists.
use Rattle.std.proofs.Common.{◌≡◌, ℕ, zero, suc, ◌+◌, ◌-◌, ◌<◌, ◌≤◌, List, [], ◌∷◌, ◌++◌, reverse, length, get_or, take, set, replicate, Some, None, sym, refl, ap, ◌∙◌, arith}
use native.Mathlib.Numerals.{unary_clauses}
use Rattle.std.specs.List.{slice_get}
use Rattle.std.proofs.lemmas.List.{take_more, take_more_set, reverse-append, length-take-le, take_all, replicate_more}
use Rattle.lang.specs.Stacks.{newest}

module _ {T : Type 0} where
  pub take_none : (xs : List T) → take zero xs ≡ []
  take_none [] = refl
  take_none (x ∷ xs) = refl

  -- writing a cell is writing the list
  pub take_of_set : (n i : ℕ) (xs : List T) (x : T) → take n (set xs i x) ≡ set (take n xs) i x
  take_of_set zero i [] x = refl
  take_of_set zero zero (y ∷ xs) x = refl
  take_of_set zero (suc i) (y ∷ xs) x = refl
  take_of_set (suc n) i [] x = refl
  take_of_set (suc n) zero (y ∷ xs) x = refl
  take_of_set (suc n) (suc i) (y ∷ xs) x = ap (λ r. y ∷ r) (take_of_set n i xs x)

  pub pushed : (xs : List T) (n : ℕ) (x : T) → n < length xs → reverse (take (n + 1) (set xs n x)) ≡ x ∷ reverse (take n xs)
  pushed xs n x h = ap reverse (take_more_set xs n x h) ∙ reverse-append (take n xs) (x ∷ [])

  -- the last of the first n
  pub last_of : (xs : List T) (n : ℕ) (d : T) → 0 < n → n ≤ length xs → take n xs ≡ take (n - 1) xs ++ (get_or xs (n - 1) d ∷ [])
  last_of xs n d h l = let e : n ≡ (n - 1) + 1 = omega arith in ap (λ j. take j xs) e ∙ take_more xs (n - 1) d (omega arith)

  pub newest_of : (ys : List T) (x : T) → newest (reverse (ys ++ (x ∷ []))) ≡ Some x
  newest_of ys x = ap newest (reverse-append ys (x ∷ []))

  -- where the newest of the first n is x, they are the others and x
  pub newest_last : (xs : List T) (n : ℕ) (x : T) → n ≤ length xs → Some x ≡ newest (reverse (take n xs)) → (0 < n) × (take n xs ≡ take (n - 1) xs ++ (x ∷ []))
  newest_last xs zero x l e =
      let none = e ∙ ap (λ ys. newest (reverse ys)) (take_none xs) in
      absurd (let z : ◌≡◌ {A = ℕ} 0 1 = cc in omega arith)
  newest_last xs (suc n) x l e =
      let f : take (suc n) xs ≡ take n xs ++ (get_or xs n x ∷ []) = simp unary_clauses at (last_of xs (suc n) x (omega arith) l) in
      let g = e ∙ ap (λ ys. newest (reverse ys)) f ∙ newest_of (take n xs) (get_or xs n x) in
      let q : x ≡ get_or xs n x = cc in
      (omega arith, simp unary_clauses (f ∙ ap (λ y. take n xs ++ (y ∷ [])) (sym q)))

  pub nth_past : (xs : List T) (i : ℕ) → length xs ≤ i → slice_get xs i ≡ None
  nth_past [] i h = refl
  nth_past (x ∷ xs) zero h = absurd (omega arith)
  nth_past (x ∷ xs) (suc i) h = nth_past xs i (omega arith)

  pub set_past : (xs : List T) (i : ℕ) (x : T) → length xs ≤ i → set xs i x ≡ xs
  set_past [] i x h = refl
  set_past (y ∷ xs) zero x h = absurd (omega arith)
  set_past (y ∷ xs) (suc i) x h = ap (λ r. y ∷ r) (set_past xs i x (omega arith))

  pub nth_take : (n : ℕ) (xs : List T) (i : ℕ) → i < n → slice_get (take n xs) i ≡ slice_get xs i
  nth_take zero xs i h = absurd (omega arith)
  nth_take (suc n) [] i h = refl
  nth_take (suc n) (x ∷ xs) zero h = refl
  nth_take (suc n) (x ∷ xs) (suc i) h = nth_take n xs i (omega arith)

  pub nth_taken : (n : ℕ) (xs : List T) (i : ℕ) → n ≤ i → slice_get (take n xs) i ≡ None
  nth_taken zero xs i h = ap (λ l. slice_get l i) (take_none xs)
  nth_taken (suc n) [] i h = refl
  nth_taken (suc n) (x ∷ xs) zero h = absurd (omega arith)
  nth_taken (suc n) (x ∷ xs) (suc i) h = nth_taken n xs i (omega arith)

  nth_end : (ys : List T) (x : T) → slice_get (ys ++ (x ∷ [])) (length ys) ≡ Some x
  nth_end [] x = refl
  nth_end (y ∷ ys) x = nth_end ys x

  -- the newest is the one at the last index
  nth_last : (xs ys : List T) (n : ℕ) (d : T) → 0 < n → n ≤ length xs → take n xs ≡ ys → slice_get ys (n - 1) ≡ newest (reverse ys)
  nth_last xs ys n d h l e =
      let f = sym e ∙ last_of xs n d h l in
      let k : length (take (n - 1) xs) ≡ n - 1 = length-take-le (n - 1) xs (omega arith) in
      ap (λ zs. slice_get zs (n - 1)) f
      ∙ ap (λ j. slice_get (take (n - 1) xs ++ (get_or xs (n - 1) d ∷ [])) j) (sym k)
      ∙ nth_end (take (n - 1) xs) (get_or xs (n - 1) d)
      ∙ sym (ap (λ zs. newest (reverse zs)) f ∙ newest_of (take (n - 1) xs) (get_or xs (n - 1) d))

  pub nth_newest : (xs ys : List T) (n : ℕ) → 0 < n → n ≤ length xs → take n xs ≡ ys → slice_get ys (n - 1) ≡ newest (reverse ys)
  nth_newest [] ys n h l e = absurd (omega arith)
  nth_newest (x ∷ xs) ys n h l e = nth_last (x ∷ xs) ys n x h l e

  pub nth_short : (n : ℕ) (xs : List T) (i : ℕ) → length xs ≤ i → slice_get (take n xs) i ≡ None
  nth_short zero xs i h = ap (λ l. slice_get l i) (take_none xs)
  nth_short (suc n) [] i h = refl
  nth_short (suc n) (x ∷ xs) zero h = absurd (omega arith)
  nth_short (suc n) (x ∷ xs) (suc i) h = nth_short n xs i (omega arith)

  -- one cell more is x
  pub wiped_more : (xs : List T) (n : ℕ) (x : T) → n < length xs → take n xs ≡ replicate n x → take (n + 1) (set xs n x) ≡ replicate (n + 1) x
  wiped_more xs n x h e = take_more_set xs n x h ∙ ap (λ ys. ys ++ (x ∷ [])) e ∙ replicate_more n x

  pub wiped_all : (xs : List T) (n m : ℕ) (x : T) → length xs ≡ m → m ≤ n → n ≤ m → take n xs ≡ replicate n x → xs ≡ replicate m x
  wiped_all xs n m x l h k e = let q : n ≡ m = omega arith in sym (take_all n xs (omega arith)) ∙ e ∙ ap (λ j. replicate j x) q

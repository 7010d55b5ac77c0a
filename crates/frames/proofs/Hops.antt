-- Hops by the links.
use Rattle.std.proofs.Common.{◌≡◌, ℕ, zero, suc, ◌+◌, ◌≤◌, Some, None, Option, sym, refl, ap, ◌∙◌, arith}
use Rattle.frames.specs.Hops.{before, Earlier, Within, hop}

pub within_more : (r : Option ℕ) (k n : ℕ) → Within r k → k ≤ n → Within r n
within_more None k n w h = tt
within_more (Some j) k n w h = omega arith

pub within_before : (x n : ℕ) → x ≤ n → Within (before x) n
within_before zero n h = tt
within_before (suc x) n h = omega arith

module _ (up : ℕ → ℕ) where
  pub hop_none : (h : ℕ) → hop up h None ≡ None
  hop_none zero = refl
  hop_none (suc h) = refl

  pub hop_add : (m j : ℕ) (r : Option ℕ) → hop up (m + j) r ≡ hop up j (hop up m r)
  hop_add zero j r = let e : 0 + j ≡ j = omega arith in ap (λ i. hop up i r) e
  hop_add (suc m) j None = hop_none (suc m + j) ∙ sym (hop_none j)
  hop_add (suc m) j (Some k) = let e : suc m + j ≡ suc (m + j) = omega arith in ap (λ i. hop up i (Some k)) e ∙ hop_add m j (before (up k))

  pub hop_within : (n : ℕ) → Earlier up n → (h : ℕ) (r : Option ℕ) → Within r n → Within (hop up h r) n
  hop_within n e zero r w = w
  hop_within n e (suc h) None w = tt
  hop_within n e (suc h) (Some k) w = let q = e k w in hop_within n e h (before (up k)) (within_before (up k) n (omega arith))

-- Bytes filled up with zeros.
use Rattle.std.proofs.Common.{◌≡◌, ℕ, zero, suc, ◌<◌, List, [], ◌∷◌, length, get_or, sym, refl, ap, ◌∙◌, arith}
use Rattle.std.proofs.lemmas.List.{same_lists, get_or_default}
use Rattle.lang.specs.Names.{pad_to}

pub length-pad_to : (n : ℕ) (bs : List ℕ) → length (pad_to n bs) ≡ n
length-pad_to zero bs = refl
length-pad_to (suc n) [] = ap suc (length-pad_to n [])
length-pad_to (suc n) (b ∷ bs) = ap suc (length-pad_to n bs)

pub get_or-pad_to : (n : ℕ) (bs : List ℕ) (k : ℕ) → k < n → get_or (pad_to n bs) k 0 ≡ get_or bs k 0
get_or-pad_to zero bs k h = absurd (omega arith)
get_or-pad_to (suc n) [] zero h = refl
get_or-pad_to (suc n) [] (suc k) h = get_or-pad_to n [] k (omega arith)
get_or-pad_to (suc n) (b ∷ bs) zero h = refl
get_or-pad_to (suc n) (b ∷ bs) (suc k) h = get_or-pad_to n bs k (omega arith)

-- a list of n numbers that reads as the bytes do is the bytes, filled up
pub is_pad_to : (n : ℕ) (xs bs : List ℕ) → length xs ≡ n → ((k : ℕ) → k < n → get_or xs k 0 ≡ get_or bs k 0) → xs ≡ pad_to n bs
is_pad_to n xs bs l f =
    same_lists xs (pad_to n bs) (l ∙ sym (length-pad_to n bs))
    (λ k d h. get_or_default xs k d 0 h ∙ f k (omega arith) ∙ sym (get_or-pad_to n bs k (omega arith)) ∙ sym (get_or_default (pad_to n bs) k d 0 (omega (arith, length-pad_to n bs))))

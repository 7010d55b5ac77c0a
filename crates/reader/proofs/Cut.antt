-- Cutting a text into words.
use Rattle.std.proofs.Common.{◌≡◌, ℕ, zero, suc, ◌+◌, ◌-◌, ◌<◌, Bool, true, false, List, [], ◌∷◌, take, drop, Some, None, Ok, Err, sym, refl, ap, ◌∙◌, add-zero, add-one, arith}
use borrow.Author.Tests.{clash}
use Rattle.lang.specs.declared.word.Kind.{Kind}
use Rattle.reader.specs.Words.{Front, front, Lexed, lexed, word, wrong}

-- the bytes of a word that was met are passed over
passed : (bs : List ℕ) (k p : ℕ) → lexed bs k p ≡ lexed (drop k bs) 0 (p + k)
passed [] zero p = refl
passed [] (suc k) p = refl
passed (b ∷ bs) zero p = ap (lexed (b ∷ bs) 0) (sym (add-zero p))
passed (b ∷ bs) (suc k) p = passed bs k (suc p) ∙ ap (lexed (drop k bs) 0) (omega arith)

-- whether a front is no word, and no byte that parts words
stands : Front → Bool
stands f = elim f [ Ok None ↦ false | Ok (Some p) ↦ true | Err r ↦ true ]

-- what a step over one front does
over : ℕ → List ℕ → ℕ → Front → Lexed
over b bs i f = elim f [ Ok None ↦ lexed bs 0 (suc i) | Ok (Some (k, n)) ↦ word k (take n (b ∷ bs)) i (lexed bs (n - 1) (suc i)) | Err e ↦ wrong e i ]

pub blank_step : (bs : List ℕ) (i : ℕ) → Ok None ≡ front bs → lexed bs 0 i ≡ lexed (drop 1 bs) 0 (i + 1)
unfolding over
blank_step [] i e = refl
blank_step (b ∷ bs) i e = ap (over b bs i) (sym e) ∙ rw add-one refl

pub takes_step : (bs : List ℕ) (i : ℕ) (k : Kind) (n : ℕ) → 0 < n → Ok (Some (k, n)) ≡ front bs → lexed bs 0 i ≡ word k (take n bs) i (lexed (drop n bs) 0 (i + n))
unfolding over stands
takes_step [] i k n h e = absurd (clash (ap stands (sym e)))
takes_step (b ∷ bs) i k zero h e = absurd (omega (arith, h))
takes_step (b ∷ bs) i k (suc m) h e =
    let one : suc m - 1 ≡ m = omega arith in
    let on : suc i + m ≡ i + suc m = omega arith in
    ap (over b bs i) (sym e) ∙ ap (λ l. word k (b ∷ take m bs) i l) (ap (λ j. lexed bs j (suc i)) one ∙ passed bs m (suc i) ∙ ap (lexed (drop m bs) 0) on)

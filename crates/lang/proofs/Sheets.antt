-- Entries that are told, sought and added.
use Rattle.std.proofs.Common.{◌≡◌, ℕ, zero, suc, ◌+◌, ◌<◌, true, false, cond, leb, List, [], ◌∷◌, ◌++◌, length, get_or, drop, set, Some, None, Option, sym, refl, ap, ◌∙◌, arith}
use Rattle.std.proofs.lemmas.Bool.{cond-false, lt-leb}
use Rattle.std.specs.List.{slice_get}
use Rattle.lang.specs.declared.value.Value.{Value}
use Rattle.lang.specs.declared.sheet.Entry.{Entry}
use Rattle.lang.specs.declared.sheet.Described.{Described}
use Rattle.lang.specs.Values.{alike}
use Rattle.lang.specs.Sheets.{named, told_at, told_value, with_value, valued, sheet_after, added, added_to, entry_of}
use Rattle.lang.proofs.Scans.{drop-next}

pub told_some : (es : List Entry) (i : ℕ) (e : Entry) (v : Value) → Some e ≡ slice_get es i → true ≡ alike e.value v → told_value es i (Some v) ≡ Some (set es i (with_value e v))
told_some es i e v h a = ap (λ o. told_at es i o (Some v)) (sym h) ∙ ap (λ b. cond b (Some (set es i (with_value e v))) None) (sym a)

pub told-other : (es : List Entry) (i : ℕ) (e : Entry) (v : Value) → Some e ≡ slice_get es i → false ≡ alike e.value v → told_value es i (Some v) ≡ None
told-other es i e v h a = ap (λ o. told_at es i o (Some v)) (sym h) ∙ ap (λ b. cond b (Some (set es i (with_value e v))) None) (sym a)

pub valued_some : (es : List Entry) (i : ℕ) (e : Entry) (v : Value) → Some e ≡ slice_get es i → set es i (with_value e v) ≡ valued es i v
valued_some [] i e v h = refl
valued_some (x ∷ es) zero e v h = let q : e ≡ x = cc in ap (λ y. with_value y v ∷ es) q
valued_some (x ∷ es) (suc i) e v h = ap (λ r. x ∷ r) (valued_some es i e v h)

pub valued-none : (es : List Entry) (i : ℕ) (v : Value) → None ≡ slice_get es i → es ≡ valued es i v
valued-none [] i v h = refl
valued-none (x ∷ es) zero v h = absurd (let z : ◌≡◌ {A = ℕ} 0 1 = cc in omega arith)
valued-none (x ∷ es) (suc i) v h = ap (λ r. x ∷ r) (valued-none es i v h)

-- once an entry is bad, there is no sheet
pub after_none : (ds : List Described) → sheet_after None ds ≡ None
after_none [] = refl
after_none (d ∷ ds) = after_none ds

-- one description more
pub after_next : (s : Option (List Entry)) (ds : List Described) (i : ℕ) (d : Described) → i < length ds → sheet_after s (drop i ds) ≡ sheet_after (added_to s (entry_of (get_or ds i d))) (drop (i + 1) ds)
after_next s ds i d h = ap (sheet_after s) (drop-next ds i d h)

pub added_one : (es fs : List Entry) (e : Entry) → length es < 32 → false ≡ named e.name es → fs ≡ es ++ (e ∷ []) → Some fs ≡ added es e
added_one es fs e h n k =
    ap Some k
    ∙ sym (cond-false (leb 32 (length es)) None (cond (named e.name es) None (Some (es ++ (e ∷ [])))) (lt-leb 32 (length es) h)
    ∙ cond-false (named e.name es) None (Some (es ++ (e ∷ []))) (sym n))

-- Pieces of code, each with its uses, in the code of a rule.
use Rattle.std.proofs.Common.{◌≡◌, ℕ, zero, suc, ◌+◌, [], ◌∷◌, ◌++◌, length, Some, Option, sym, refl, ap, ◌∙◌, subst, arith, length-append}
use Rattle.std.specs.List.{slice_get}
use Rattle.lang.specs.declared.name.Name.{Name}
use Rattle.lang.specs.declared.instruction.Instruction.{Instruction}
use Rattle.meaning.specs.Tree.{Place, Expr, number, truth, read, signed, binary, both, either, choose, local, apply, Args, no_args, arg, Data, no_data, const, var, Command, block, assign, perform, fork, while, Commands, no_commands, then, Routines, no_routines, fun, proc, data_slots}
use Rattle.meaning.specs.Scopes.{Scope, constant, params, data_names, block_names}
use Rattle.meaning.specs.Translation.{Code, code_e, code_a, code_d, code_c, code_s, code_r}
use Rattle.meaning.specs.Uses.{Uses, uses_e, uses_a, uses_d, uses_c, uses_s, uses_r}
use Rattle.meaning.specs.Pairs.{StandsAt}
use Rattle.meaning.proofs.Basics.{same-append, append_nil, append_assoc, nth_seam, none_some}

pub record Text : Type 0 where
  pub code : Code
  pub uses : Uses

-- every instruction has its use
mutual
  unfolding uses_e code_e

  pub length_e : (e : Expr) (g : Scope) → length (uses_e g e) ≡ length (code_e g e)
  length_e (number p n) g = refl
  length_e (truth p b) g = refl
  length_e (read p x) g = refl
  length_e (signed p o e) g = same-append _ _ _ _ (length_e e g) refl
  length_e (binary p o e f) g = same-append _ _ _ _ (length_e e g) (same-append _ _ _ _ (length_e f g) refl)
  length_e (both p e f) g = same-append _ _ _ _ (length_e e g) (same-append _ _ _ _ (length_e f g) refl)
  length_e (either p e f) g = same-append _ _ _ _ (length_e e g) (same-append _ _ _ _ (length_e f g) refl)
  length_e (choose p c e f) g = same-append _ _ _ _ (length_e c g) (ap suc (same-append _ _ _ _ (length_e e g) (ap suc (length_e f g))))
  length_e (local p q x e f) g = ap suc (same-append _ _ _ _ (length_e e ([] ∷ g)) (ap suc (same-append _ _ _ _ (length_e f (((x, constant) ∷ []) ∷ g)) refl)))
  length_e (apply p x es) g = same-append _ _ _ _ (length_a es g) refl

  pub length_a : (es : Args) (g : Scope) → length (uses_a g es) ≡ length (code_a g es)
  length_a no_args g = refl
  length_a (arg es e) g = same-append _ _ _ _ (length_a es g) (length_e e g)

pub length_d : (ds : Data) (g : Scope) → length (uses_d g ds) ≡ length (code_d g ds)
unfolding uses_d code_d
length_d no_data g = refl
length_d (const ds p q x e) g = same-append _ _ _ _ (length_d ds g) (same-append _ _ _ _ (length_e e (data_names ds ∷ g)) refl)
length_d (var ds p q x e) g = same-append _ _ _ _ (length_d ds g) (same-append _ _ _ _ (length_e e (data_names ds ∷ g)) refl)

mutual
  unfolding uses_c code_c

  pub length_c : (c : Command) (g : Scope) → length (uses_c g c) ≡ length (code_c g c)
  length_c (block p ds rs cs) g = ap suc (same-append _ _ _ _ (length_d ds g) (same-append _ _ _ _ (length_r rs (block_names ds rs ∷ g) (data_slots ds)) (same-append _ _ _ _ (length_s cs (block_names ds rs ∷ g)) refl)))
  length_c (assign p x e) g = same-append _ _ _ _ (length_e e g) refl
  length_c (perform p q x es) g = same-append _ _ _ _ (length_a es g) refl
  length_c (fork p e c d) g = same-append _ _ _ _ (length_e e g) (ap suc (same-append _ _ _ _ (length_c c g) (ap suc (length_c d g))))
  length_c (while p e c) g = same-append _ _ _ _ (length_e e g) (ap suc (same-append _ _ _ _ (length_c c g) refl))

  pub length_s : (cs : Commands) (g : Scope) → length (uses_s g cs) ≡ length (code_s g cs)
  length_s no_commands g = refl
  length_s (then cs c) g = same-append _ _ _ _ (length_s cs g) (length_c c g)

  pub length_r : (rs : Routines) (g : Scope) (n : ℕ) → length (uses_r g rs) ≡ length (code_r n g rs)
  length_r no_routines g n = refl
  length_r (fun rs p q x ps e) g n = same-append _ _ _ _ (length_r rs g n) (ap suc (same-append _ _ _ _ (length_e e (params ps ∷ g)) refl))
  length_r (proc rs p q x ps c) g n = same-append _ _ _ _ (length_r rs g n) (ap suc (same-append _ _ _ _ (length_c c (params ps ∷ g)) refl))

module _ (t : Text) where
  -- a piece of code, with its uses, stands from i up to j
  pub data At : ℕ → Code → Uses → ℕ → Type 0 where
    end : {i : ℕ} → At i [] [] i
    next : {i j : ℕ} {c : Instruction × Place} {cs : Code} {u : Option (Name × Scope)} {us : Uses} → slice_get t.code i ≡ Some c → slice_get t.uses i ≡ Some u → At (i + 1) cs us j → At i (c ∷ cs) (u ∷ us) j

  pub at_head : {i j : ℕ} {c : Instruction × Place} {cs : Code} {u : Option (Name × Scope)} {us : Uses} → At i (c ∷ cs) (u ∷ us) j → slice_get t.code i ≡ Some c
  at_head (next e f a) = e

  pub at_use : {i j : ℕ} {c : Instruction × Place} {cs : Code} {u : Option (Name × Scope)} {us : Uses} → At i (c ∷ cs) (u ∷ us) j → slice_get t.uses i ≡ Some u
  at_use (next e f a) = f

  pub at_tail : {i j : ℕ} {c : Instruction × Place} {cs : Code} {u : Option (Name × Scope)} {us : Uses} → At i (c ∷ cs) (u ∷ us) j → At (i + 1) cs us j
  at_tail (next e f a) = a

  pub at_end : {i j : ℕ} {us : Uses} → At i [] us j → i ≡ j
  at_end end = refl

  pub at_length : {i j : ℕ} {a : Code} {u : Uses} → At i a u j → j ≡ i + length a
  at_length end = omega arith
  at_length (next e f a) = let x = at_length a in omega arith

  at_split : {i j : ℕ} (a b : Code) (u v : Uses) → length u ≡ length a → At i (a ++ b) (u ++ v) j → (k : ℕ) × At i a u k × At k b v j
  at_split {i} [] b [] v l h = (i, end, h)
  at_split [] b (x ∷ u) v l h = absurd (omega arith)
  at_split (c ∷ a) b [] v l h = absurd (omega arith)
  at_split {i} (c ∷ a) b (x ∷ u) v l h = let r = at_split {i = i + 1} a b u v (omega arith) (at_tail h) in (r.0, next (at_head h) (at_use h) r.1, r.2)

  pub split_e : {i j : ℕ} {b : Code} {v : Uses} (g : Scope) (e : Expr) → At i (code_e g e ++ b) (uses_e g e ++ v) j → (k : ℕ) × At i (code_e g e) (uses_e g e) k × At k b v j
  split_e g e = at_split _ _ _ _ (length_e e g)

  pub split_a : {i j : ℕ} {b : Code} {v : Uses} (g : Scope) (es : Args) → At i (code_a g es ++ b) (uses_a g es ++ v) j → (k : ℕ) × At i (code_a g es) (uses_a g es) k × At k b v j
  split_a g es = at_split _ _ _ _ (length_a es g)

  pub split_d : {i j : ℕ} {b : Code} {v : Uses} (g : Scope) (ds : Data) → At i (code_d g ds ++ b) (uses_d g ds ++ v) j → (k : ℕ) × At i (code_d g ds) (uses_d g ds) k × At k b v j
  split_d g ds = at_split _ _ _ _ (length_d ds g)

  pub split_c : {i j : ℕ} {b : Code} {v : Uses} (g : Scope) (c : Command) → At i (code_c g c ++ b) (uses_c g c ++ v) j → (k : ℕ) × At i (code_c g c) (uses_c g c) k × At k b v j
  split_c g c = at_split _ _ _ _ (length_c c g)

  pub split_s : {i j : ℕ} {b : Code} {v : Uses} (g : Scope) (cs : Commands) → At i (code_s g cs ++ b) (uses_s g cs ++ v) j → (k : ℕ) × At i (code_s g cs) (uses_s g cs) k × At k b v j
  split_s g cs = at_split _ _ _ _ (length_s cs g)

  pub split_r : {i j : ℕ} {b : Code} {v : Uses} (n : ℕ) (g : Scope) (rs : Routines) → At i (code_r n g rs ++ b) (uses_r g rs ++ v) j → (k : ℕ) × At i (code_r n g rs) (uses_r g rs) k × At k b v j
  split_r n g rs = at_split _ _ _ _ (length_r rs g n)

  pub at_stands : {i j : ℕ} {a : Code} {u : Uses} → At i a u j → StandsAt t.code i a
  at_stands end k c e = none_some e
  at_stands (next {i = i} e f a) zero c q = subst (λ (n : ℕ). slice_get t.code n ≡ Some c) (omega arith) (e ∙ q)
  at_stands (next {i = i} e f a) (suc k) c q = subst (λ (n : ℕ). slice_get t.code n ≡ Some c) (omega arith) (at_stands a k c q)

-- the whole code stands from 0 on
at_whole : (t : Text) (a b : Code) (u v : Uses) → t.code ≡ a ++ b → t.uses ≡ u ++ v → length u ≡ length a → length v ≡ length b → At t (length a) b v (length t.code)
at_whole t a [] u [] e f l m = subst (λ (j : ℕ). At t (length a) [] [] j) (ap length (sym (append_nil a)) ∙ sym (ap length e)) end
at_whole t a [] u (y ∷ v) e f l m = absurd (omega arith)
at_whole t a (c ∷ b) u [] e f l m = absurd (omega arith)
at_whole t a (c ∷ b) u (y ∷ v) e f l m = next
    (ap (λ (d : Code). slice_get d (length a)) e ∙ nth_seam a b c)
    (ap (λ (d : Uses). slice_get d (length a)) f ∙ ap (λ (n : ℕ). slice_get (u ++ (y ∷ v)) n) (sym l) ∙ nth_seam u v y)
    (subst (λ (i : ℕ). At t i b v (length t.code)) (length-append a (c ∷ []))
    (at_whole t (a ++ (c ∷ [])) b (u ++ (y ∷ [])) v (e ∙ sym (append_assoc a (c ∷ []) b)) (f ∙ sym (append_assoc u (y ∷ []) v)) (same-append u (y ∷ []) a (c ∷ []) l refl) (omega arith)))

pub at_start : (t : Text) → length t.uses ≡ length t.code → At t 0 t.code t.uses (length t.code)
at_start t e = at_whole t [] t.code [] t.uses refl refl refl e

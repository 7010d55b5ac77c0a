-- Beside each instruction with a pair stands the use that the pair is of; beside the others stands none.
use Rattle.std.proofs.Common.{◌≡◌, ℕ, zero, suc, [], ◌∷◌, ◌++◌, Some, None, Option, refl, subst}
use Rattle.std.specs.List.{slice_get}
use Rattle.lang.specs.declared.name.Name.{Name}
use Rattle.lang.specs.declared.instruction.Instruction.{Instruction}
use Rattle.meaning.specs.Tree.{Place, Sign, minus, negate, Operator, add, sub, mul, equal, less, Expr, number, truth, read, signed, binary, both, either, choose, local, apply, Args, no_args, arg, Data, no_data, const, var, data_slots, Command, block, assign, perform, fork, while, Commands, no_commands, then, Routines, no_routines, fun, proc}
use Rattle.meaning.specs.Scopes.{Scope, constant, find, hops_of, offset_of, params, data_names, block_names}
use Rattle.meaning.specs.Translation.{Code, sign_code, operator_code, code_e, code_a, code_d, code_c, code_s, code_r}
use Rattle.meaning.specs.Uses.{Uses, uses_e, uses_a, uses_d, uses_c, uses_s, uses_r, pair_of}
use Rattle.meaning.proofs.Basics.{none_some, some_is}

abbrev pub Beside1 : Instruction → Option (Name × Scope) → Type 0
Beside1 i None = pair_of i ≡ None
Beside1 i (Some u) = pair_of i ≡ Some (hops_of (find u.0 u.1), offset_of (find u.0 u.1))

pub data Beside : Code → Uses → Type 0 where
  none : Beside [] []
  more : {i : Instruction} {p : Place} {u : Option (Name × Scope)} {cs : Code} {us : Uses} → Beside1 i u → Beside cs us → Beside ((i, p) ∷ cs) (u ∷ us)

join : {a b : Code} {u v : Uses} → Beside a u → Beside b v → Beside (a ++ b) (u ++ v)
join none y = y
join (more e x) y = more e (join x y)

-- one instruction without a pair, and with one
plain : {i : Instruction} {p : Place} → pair_of i ≡ None → Beside ((i, p) ∷ []) (None ∷ [])
plain e = more e none

sign_plain : (o : Sign) → pair_of (sign_code o) ≡ None
sign_plain minus = refl
sign_plain negate = refl

operator_plain : (o : Operator) → pair_of (operator_code o) ≡ None
operator_plain add = refl
operator_plain sub = refl
operator_plain mul = refl
operator_plain equal = refl
operator_plain less = refl

mutual
  unfolding code_e uses_e

  beside_e : (e : Expr) (g : Scope) → Beside (code_e g e) (uses_e g e)
  beside_e (number p n) g = plain refl
  beside_e (truth p b) g = plain refl
  beside_e (read p x) g = more refl none
  beside_e (signed p o e) g = join (beside_e e g) (plain (sign_plain o))
  beside_e (binary p o e f) g = join (beside_e e g) (join (beside_e f g) (plain (operator_plain o)))
  beside_e (both p e f) g = join (beside_e e g) (join (beside_e f g) (plain refl))
  beside_e (either p e f) g = join (beside_e e g) (join (beside_e f g) (plain refl))
  beside_e (choose p c e f) g = join (beside_e c g) (more refl (join (beside_e e g) (more refl (beside_e f g))))
  beside_e (local p q x e f) g = more refl (join (beside_e e ([] ∷ g)) (more refl (join (beside_e f (((x, constant) ∷ []) ∷ g)) (plain refl))))
  beside_e (apply p x es) g = join (beside_a es g) (more refl none)

  beside_a : (es : Args) (g : Scope) → Beside (code_a g es) (uses_a g es)
  beside_a no_args g = none
  beside_a (arg es e) g = join (beside_a es g) (beside_e e g)

beside_d : (ds : Data) (g : Scope) → Beside (code_d g ds) (uses_d g ds)
unfolding code_d uses_d
beside_d no_data g = none
beside_d (const ds p q x e) g = join (beside_d ds g) (join (beside_e e (data_names ds ∷ g)) (plain refl))
beside_d (var ds p q x e) g = join (beside_d ds g) (join (beside_e e (data_names ds ∷ g)) (plain refl))

mutual
  unfolding code_c uses_c

  pub beside_c : (c : Command) (g : Scope) → Beside (code_c g c) (uses_c g c)
  beside_c (block p ds rs cs) g = more refl (join (beside_d ds g) (join (beside_r rs (block_names ds rs ∷ g) (data_slots ds)) (join (beside_s cs (block_names ds rs ∷ g)) (plain refl))))
  beside_c (assign p x e) g = join (beside_e e g) (more refl none)
  beside_c (perform p q x es) g = join (beside_a es g) (more refl none)
  beside_c (fork p e c d) g = join (beside_e e g) (more refl (join (beside_c c g) (more refl (beside_c d g))))
  beside_c (while p e c) g = join (beside_e e g) (more refl (join (beside_c c g) (plain refl)))

  beside_s : (cs : Commands) (g : Scope) → Beside (code_s g cs) (uses_s g cs)
  beside_s no_commands g = none
  beside_s (then cs c) g = join (beside_s cs g) (beside_c c g)

  beside_r : (rs : Routines) (g : Scope) (n : ℕ) → Beside (code_r n g rs) (uses_r g rs)
  beside_r no_routines g n = none
  beside_r (fun rs p q x ps e) g n = join (beside_r rs g n) (more refl (join (beside_e e (params ps ∷ g)) (plain refl)))
  beside_r (proc rs p q x ps c) g n = join (beside_r rs g n) (more refl (join (beside_c c (params ps ∷ g)) (plain refl)))

pub beside_at : {a : Code} {u : Uses} → Beside a u → (k : ℕ) (c : Instruction × Place) → slice_get a k ≡ Some c → (y : Option (Name × Scope)) × (slice_get u k ≡ Some y) × Beside1 c.0 y
beside_at none k c e = none_some e
beside_at (more {u = y} f x) zero c e = (y, refl, subst (λ (d : Instruction × Place). Beside1 d.0 y) (some_is e) f)
beside_at (more f x) (suc k) c e = beside_at x k c e

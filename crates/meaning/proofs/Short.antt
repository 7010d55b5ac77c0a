-- At most three instructions a node.
use Rattle.std.proofs.Common.{ℕ, ◌*◌, ◌≤◌, [], ◌∷◌, length, arith, length-append}
use Rattle.meaning.specs.Tree.{Expr, number, truth, read, signed, binary, both, either, choose, local, apply, Args, no_args, arg, Data, no_data, const, var, data_slots, Command, block, assign, perform, fork, while, Commands, no_commands, then, Routines, no_routines, fun, proc, nodes_e, nodes_a, nodes_d, nodes_c, nodes_s, nodes_r}
use Rattle.meaning.specs.Scopes.{Scope, constant, params, data_names, block_names, sheet_scope}
use Rattle.meaning.specs.Translation.{code_e, code_a, code_d, code_c, code_s, code_r}
use Rattle.meaning.specs.Agreement.{CodeIsShort}

mutual
  unfolding code_e nodes_e

  short_e : (e : Expr) (g : Scope) → length (code_e g e) ≤ 3 * nodes_e e
  short_e (number p n) g = omega arith
  short_e (truth p b) g = omega arith
  short_e (read p x) g = omega arith
  short_e (signed p o e) g = simp length-append (omega (arith, short_e e g))
  short_e (binary p o e f) g = simp length-append (omega (arith, short_e e g, short_e f g))
  short_e (both p e f) g = simp length-append (omega (arith, short_e e g, short_e f g))
  short_e (either p e f) g = simp length-append (omega (arith, short_e e g, short_e f g))
  short_e (choose p c e f) g = simp length-append (omega (arith, short_e c g, short_e e g, short_e f g))
  short_e (local p q x e f) g = simp length-append (omega (arith, short_e e ([] ∷ g), short_e f (((x, constant) ∷ []) ∷ g)))
  short_e (apply p x es) g = simp length-append (omega (arith, short_a es g))

  short_a : (es : Args) (g : Scope) → length (code_a g es) ≤ 3 * nodes_a es
  short_a no_args g = omega arith
  short_a (arg es e) g = simp length-append (omega (arith, short_a es g, short_e e g))

short_d : (ds : Data) (g : Scope) → length (code_d g ds) ≤ 3 * nodes_d ds
unfolding code_d nodes_d
short_d no_data g = omega arith
short_d (const ds p q x e) g = simp length-append (omega (arith, short_d ds g, short_e e (data_names ds ∷ g)))
short_d (var ds p q x e) g = simp length-append (omega (arith, short_d ds g, short_e e (data_names ds ∷ g)))

mutual
  unfolding code_c nodes_c

  short_c : (c : Command) (g : Scope) → length (code_c g c) ≤ 3 * nodes_c c
  short_c (block p ds rs cs) g = simp length-append (omega (arith, short_d ds g, short_r rs (block_names ds rs ∷ g) (data_slots ds), short_s cs (block_names ds rs ∷ g)))
  short_c (assign p x e) g = simp length-append (omega (arith, short_e e g))
  short_c (perform p q x es) g = simp length-append (omega (arith, short_a es g))
  short_c (fork p e c d) g = simp length-append (omega (arith, short_e e g, short_c c g, short_c d g))
  short_c (while p e c) g = simp length-append (omega (arith, short_e e g, short_c c g))

  short_s : (cs : Commands) (g : Scope) → length (code_s g cs) ≤ 3 * nodes_s cs
  short_s no_commands g = omega arith
  short_s (then cs c) g = simp length-append (omega (arith, short_s cs g, short_c c g))

  short_r : (rs : Routines) (g : Scope) (n : ℕ) → length (code_r n g rs) ≤ 3 * nodes_r rs
  short_r no_routines g n = omega arith
  short_r (fun rs p q x ps e) g n = simp length-append (omega (arith, short_r rs g n, short_e e (params ps ∷ g)))
  short_r (proc rs p q x ps c) g n = simp length-append (omega (arith, short_r rs g n, short_c c (params ps ∷ g)))

pub code_is_short_lem : CodeIsShort
code_is_short_lem es c = let l = short_c c (sheet_scope es) in (l, λ k. omega arith)

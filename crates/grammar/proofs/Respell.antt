-- Words of the same kinds derive alike.
use mathlib.Core.Path.{◌≡◌, refl, sym, ap, subst}
use mathlib.Core.Bool.{true}
use mathlib.Core.List.{List, [], ◌∷◌}
use Prim.Native.Nat.{ℕ, suc}
use native.Mathlib.Omega.{arith}
use lib.ListN.{length}
use Rattle.lang.specs.declared.word.Kind.{Kind}
use Rattle.lang.specs.Kinds.{same_kind}
use Rattle.meaning.specs.Tree.{Command}
use Rattle.grammar.specs.Words.{Word}
use Rattle.grammar.specs.Grammar.{Text}
use Rattle.grammar.specs.Machine.{Alts}
use Rattle.grammar.specs.Table.{rules, Meant as Built}
use Rattle.grammar.specs.Spelling.{kinds}
use Rattle.grammar.proofs.Derive.{Goal, parts, Meant, D, nil, a_tok, a_line, a_leave, here-empty, here-word, here-line, here_enter, later_word, later_line}
use Rattle.grammar.proofs.Answers.{start, to_table, from_table}

data Alike : List Word → List Word → Type 0 where
  alike_end : Alike [] []
  alike-word : {w v : Word} {ws vs : List Word} → w.kind ≡ v.kind → Alike ws vs → Alike (w ∷ ws) (v ∷ vs)

first_kind : (a b : Kind) (xs ys : List Kind) → a ∷ xs ≡ b ∷ ys → a ≡ b
first_kind a b xs ys e = cc

other-kinds : (a b : Kind) (xs ys : List Kind) → a ∷ xs ≡ b ∷ ys → xs ≡ ys
other-kinds a b xs ys e = cc

none_is_some : {A : Type 0} (a : Kind) (xs : List Kind) → [] ≡ a ∷ xs → A
none_is_some a xs e = let z : ◌≡◌ {A = ℕ} 0 1 = cc in absurd (omega arith)

alike : (ws vs : List Word) → kinds ws ≡ kinds vs → Alike ws vs
alike [] [] e = alike_end
alike [] (v ∷ vs) e = none_is_some _ _ e
alike (w ∷ ws) [] e = none_is_some _ _ (sym e)
alike (w ∷ ws) (v ∷ vs) e = alike-word (first_kind _ _ _ _ e) (alike ws vs (other-kinds _ _ _ _ e))

as_long : {ws vs : List Word} → Alike ws vs → length ws ≡ length vs
as_long alike_end = refl
as_long (alike-word e h) = ap suc (as_long h)

ended : {vs : List Word} → Alike [] vs → vs ≡ []
ended alike_end = refl

module _ {L : Type 0} (V : L → Type 0) (rules : (l : L) → Alts V l) (k : ℕ) where
  record Respelled (g : Goal V) (r vs : List Word) : Type 0 where
    pub rest : List Word
    pub means : Meant g
    pub left : Alike r rest
    pub derived : D V rules k g vs rest means

  respell : {g : Goal V} {ws r vs : List Word} {a : Meant g} → D V rules k g ws r a → Alike ws vs → Respelled g r vs
  respell nil h = record { rest = _; means = tt; left = h; derived = nil }
  respell (a_tok {j = j} e d) (alike-word {v = v} q h) =
      let x = respell d h in
      record { rest = x.rest; means = (v, x.means); left = x.left; derived = a_tok (subst (λ z. same_kind j z ≡ true) q e) x.derived }
  respell (a_line d e) h =
      let x = respell d h in
      let y = respell e x.left in
      record { rest = y.rest; means = (x.means, y.means); left = y.left; derived = a_line x.derived y.derived }
  respell (a_leave d) h = let x = respell d h in record { rest = x.rest; means = x.means; left = x.left; derived = a_leave x.derived }
  respell here-empty h = record { rest = _; means = _; left = h; derived = here-empty }
  respell (here-word {j = j} e d) (alike-word {v = v} q h) =
      let x = respell d h in
      record { rest = x.rest; means = _; left = x.left; derived = here-word (subst (λ z. same_kind j z ≡ true) q e) x.derived }
  respell (here-line d e) (alike-word q h) =
      let x = respell d (alike-word q h) in
      let y = respell e x.left in
      record { rest = y.rest; means = _; left = y.left; derived = here-line x.derived y.derived }
  respell (here_enter o d) h =
      let x = respell d h in
      record { rest = x.rest; means = _; left = x.left; derived = here_enter (λ z. o (omega (arith, z, as_long h))) x.derived }
  respell (later_word d) h = let x = respell d h in record { rest = x.rest; means = x.means; left = x.left; derived = later_word x.derived }
  respell (later_line d) h = let x = respell d h in record { rest = x.rest; means = x.means; left = x.left; derived = later_line x.derived }

pub kinds_suffice_lem : (k : ℕ) (ws vs : List Word) (t : Command) → kinds ws ≡ kinds vs → Text k ws t → (u : Command) × Text k vs u
kinds_suffice_lem k ws vs t e d =
    let x = respell Built rules k (to_table d) (alike ws vs e) in
    (x.means.0, from_table (subst (λ r. D Built rules k (parts 0 0 start) vs r x.means) (ended x.left) x.derived))

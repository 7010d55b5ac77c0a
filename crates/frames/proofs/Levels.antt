-- The levels of a display: one read is a walk, and one row more keeps the others.
use Rattle.std.proofs.Common.{◌≡◌, ℕ, zero, suc, ◌+◌, ◌-◌, ◌<◌, ◌≤◌, List, Some, None, Option, sym, refl, ap, ◌∙◌, add-one, arith, below_more}
use Rattle.frames.specs.Hops.{before, Linked, Within, hop}
use Rattle.frames.specs.Displays.{link_of, level, second, above, IsRow}
use Rattle.frames.proofs.Hops.{hop_none, hop_add}

pub link_under : (parent : Option ℕ) (n : ℕ) → Within parent n → link_of parent ≤ n
link_under None n w = omega arith
link_under (Some p) n w = omega arith

pub before_link : (parent : Option ℕ) → before (link_of parent) ≡ parent
before_link None = refl
before_link (Some p) = refl

no_frame : (x : ℕ) → before x ≡ None → x ≡ 0
no_frame zero e = refl
no_frame (suc x) e = cc

module _ (lv : List ℕ) (n : ℕ) (linked : Linked (second lv) (IsRow lv) n) where
  pub reach : (h j : ℕ) → h < 16 → j ≤ n → hop (second lv) h (before j) ≡ before (above lv j h)
  reach h zero l b = hop_none (second lv) h
  reach zero (suc p) l b = ap before (sym ((linked.rest p b).own ∙ add-one p))
  reach (suc h) (suc p) l b =
      let r = linked.rest p b in
      let e = linked.earlier p b in
      reach h (second lv p) (omega arith) (omega arith) ∙ ap before (sym (r.rest h (omega arith)) ∙ ap (level lv p) (add-one h))

  -- beyond the sixteenth there is none
  pub beyond : (h j : ℕ) → 16 ≤ h → j ≤ n → hop (second lv) h (before j) ≡ None
  beyond h zero l b = hop_none (second lv) h
  beyond h (suc p) l b =
      let r = linked.rest p b in
      let e = linked.earlier p b in
      let q : h ≡ 16 + (h - 16) = omega arith in
      let at : hop (second lv) 15 (before (second lv p)) ≡ None = reach 15 (second lv p) (omega arith) (omega arith) ∙ ap before r.short in
      ap (λ i. hop (second lv) i (Some p)) q ∙ hop_add (second lv) 16 (h - 16) (Some p) ∙ ap (hop (second lv) (h - 16)) at ∙ hop_none (second lv) (h - 16)

  -- a frame from which fifteen hops lead nowhere has no sixteenth level
  pub shallow : (j : ℕ) → j ≤ n → hop (second lv) 15 (before j) ≡ None → above lv j 15 ≡ 0
  shallow j b d = no_frame (above lv j 15) (sym (reach 15 j (omega arith) b) ∙ d)

  first_above : (l : ℕ) → l ≤ n → above lv l 0 ≡ l
  first_above zero h = refl
  first_above (suc p) h = (linked.rest p (omega arith)).own ∙ add-one p

-- one more row
module _ (lv lv' : List ℕ) (n link : ℕ) (linked : Linked (second lv) (IsRow lv) n) (under : link ≤ n) (kept : (k h : ℕ) → k < n → h < 16 → level lv' k h ≡ level lv k h)
    (own : level lv' n 0 ≡ n + 1) (row : (h : ℕ) → h < 15 → level lv' n (h + 1) ≡ above lv link h) where
  above_kept : (l h : ℕ) → l ≤ n → h < 16 → above lv' l h ≡ above lv l h
  above_kept zero h l hh = refl
  above_kept (suc p) h l hh = kept p h (omega arith) hh

  second_new : second lv' n ≡ link
  second_new = row 0 (omega arith) ∙ first_above lv n linked link under

  row_kept : (k : ℕ) → k < n → IsRow lv' k
  row_kept k l =
      let r = linked.rest k l in
      let e = linked.earlier k l in
      let same : second lv' k ≡ second lv k = kept k 1 l (omega arith) in
      record {
        own = kept k 0 l (omega arith) ∙ r.own;
        rest = λ h q. kept k (h + 1) l (omega arith) ∙ r.rest h q ∙ sym (above_kept (second lv k) h (omega arith) (omega arith)) ∙ ap (λ j. above lv' j h) (sym same);
        short = ap (λ j. above lv' j 15) same ∙ above_kept (second lv k) 15 (omega arith) (omega arith) ∙ r.short;
      }

  new_row : above lv link 15 ≡ 0 → IsRow lv' n
  new_row z = record {
    own = own;
    rest = λ h q. row h q ∙ sym (above_kept link h under (omega arith)) ∙ ap (λ j. above lv' j h) (sym second_new);
    short = ap (λ j. above lv' j 15) second_new ∙ above_kept link 15 under (omega arith) ∙ z;
  }

  pub row_push : above lv link 15 ≡ 0 → Linked (second lv') (IsRow lv') (n + 1)
  row_push z = record {
    earlier = below_more (λ k. second lv' k ≤ k) n (λ k l. let e = linked.earlier k l in let q = kept k 1 l (omega arith) in omega arith) (let e = second_new in omega arith);
    rest = below_more (IsRow lv') n row_kept (new_row z);
  }

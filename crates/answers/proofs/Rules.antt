-- What holds of every call, whatever its rule: refused, it leaves everything; done, it gives what the rule says; and any two
-- results that it allows are equal. Assumes nothing.
use Prim.Native.Nat.{ℕ, suc}
use native.Mathlib.Omega.{arith}
use mathlib.Core.Bool.{Bool, true, false, cond}
use mathlib.Core.Path.{◌≡◌, refl, sym, ap, ◌∙◌}
use lib.Dec.{eqb}
use borrow.Author.Tests.{eq-eqb, ne_eqb, eqb-true}
use Rattle.answers.specs.Answers.{refusal}
use Rattle.answers.specs.Rules.{Rule, Result, refused_by, done_by, carried}

module _ {M C : Type 0} (rule : Rule M C) (m : M) (cells : C) where
  -- no check refuses: done
  pub carried_done : refusal (rule.checks m cells) ≡ 0 → carried rule m cells ≡ done_by rule m cells
  unfolding carried
  carried_done e = rw (eq-eqb _ _ e)

  -- one does: everything as it was, and no count
  pub carried_refused : (refusal (rule.checks m cells) ≡ 0 → ⊥) → carried rule m cells ≡ refused_by (refusal (rule.checks m cells)) m cells
  unfolding carried
  carried_refused h = rw (ne_eqb _ _ h)

  -- the answer is the number of the checks
  pub answer_is : (carried rule m cells).answer ≡ refusal (rule.checks m cells)
  unfolding carried
  answer_is = go (eqb (refusal (rule.checks m cells)) 0) refl
    where
      go : (b : Bool) → eqb (refusal (rule.checks m cells)) 0 ≡ b
          → (cond {A = Result M C} b (done_by rule m cells) (refused_by (refusal (rule.checks m cells)) m cells)).answer ≡ refusal (rule.checks m cells)
      go true e = sym (eqb-true (refusal (rule.checks m cells)) 0 e)
      go false e = refl

  -- answered 0: no check refused, and the rule says the rest
  pub done : (carried rule m cells).answer ≡ 0 → carried rule m cells ≡ done_by rule m cells
  done e = carried_done (sym answer_is ∙ e)

  -- answered another number: "counts with it are 0, and panel and cells stay as they were"
  pub refused : ((carried rule m cells).answer ≡ 0 → ⊥) → carried rule m cells ≡ refused_by (carried rule m cells).answer m cells
  refused h = carried_refused (λ e. h (answer_is ∙ e)) ∙ ap (λ (n : ℕ). refused_by n m cells) (sym answer_is)

  -- what both the old and the new have, the call leaves
  pub leaves_has : (P : M → Type 0) → P m → (refusal (rule.checks m cells) ≡ 0 → P (rule.leaves m)) → P (carried rule m cells).leaves
  unfolding carried
  leaves_has P old new = go (eqb (refusal (rule.checks m cells)) 0) refl
    where
      go : (b : Bool) → eqb (refusal (rule.checks m cells)) 0 ≡ b
          → P (cond {A = Result M C} b (done_by rule m cells) (refused_by (refusal (rule.checks m cells)) m cells)).leaves
      go true e = new (eqb-true (refusal (rule.checks m cells)) 0 e)
      go false e = old

  -- what a function shows that refuses: by a number that is not 0, and by one of the table
  pub refuse_with : {n : ℕ} → (n ≡ 0 → ⊥) → refusal (rule.checks m cells) ≡ n → refused_by n m cells ≡ carried rule m cells
  refuse_with some e = ap (λ (k : ℕ). refused_by k m cells) (sym e) ∙ sym (carried_refused (λ z. some (sym e ∙ z)))

  pub refuse : {n : ℕ} → refusal (rule.checks m cells) ≡ suc n → refused_by (suc n) m cells ≡ carried rule m cells
  refuse e = refuse_with (λ z. omega arith) e

  -- and one that does its work
  pub accept : {count second : ℕ} {left : M} {filled : C} → refusal (rule.checks m cells) ≡ 0 → count ≡ rule.count m → second ≡ rule.second m
      → left ≡ rule.leaves m → filled ≡ rule.fills m cells
      → ◌≡◌ {A = Result M C} (record { answer = 0; count = count; second = second; leaves = left; cells = filled }) (carried rule m cells)
  accept e counts seconds leaves fills = rw (counts, seconds, leaves, fills) (sym (carried_done e))

-- two results that one equation allows are the same
pub one_outcome : {A : Type 0} {o x y : A} → x ≡ o → y ≡ o → x ≡ y
one_outcome e f = e ∙ sym f

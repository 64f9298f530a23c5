-- Tests that decide: the order and equality of numbers, and tests joined from others.
-- Assumes nothing.
use Prim.Native.Nat.{ℕ, ◌≤◌, ◌<◌}
use mathlib.Core.Path.{◌≡◌, refl, sym, ap, ◌∙◌}
use mathlib.Core.Bool.{Bool, true, false, not, ◌&&◌, true≢false, beq}
use lib.Dec.{eqb, ltb, leb}
use borrow.Author.Tests.{ltb-true, leb-true, eqb-true, lt-ltb, le-leb, eq-eqb, not-true}
use Rattle.laws.specs.Decides.{Decides}
use Rattle.laws.proofs.Choices.{both, both_left, both_right, is_false, never_both}

pub le : (m n : ℕ) → Decides (leb m n) (m ≤ n)
le m n = record { holds = leb-true m n; tested = le-leb m n }

pub lt : (m n : ℕ) → Decides (ltb m n) (m < n)
lt m n = record { holds = ltb-true m n; tested = lt-ltb m n }

pub eq : (m n : ℕ) → Decides (eqb m n) (m ≡ n)
eq m n = record { holds = eqb-true m n; tested = eq-eqb m n }

pub always : Decides true (Unit {0})
always = record { holds = λ e. tt; tested = λ u. refl }

pub never : {P : Type 0} → (P → ⊥) → Decides false P
never f = record { holds = λ e. absurd (true≢false (sym e)); tested = λ h. absurd (f h) }

pub and : {a b : Bool} {P Q : Type 0} → Decides a P → Decides b Q → Decides (a && b) (P × Q)
and {a} {b} p q =
    record {
      holds = λ e. (p.holds (both_left a b e), q.holds (both_right a b e));
      tested = λ h. both a b (p.tested h.0) (q.tested h.1);
    }

pub neither : {a : Bool} {P : Type 0} → Decides a P → Decides (not a) (P → ⊥)
neither {a} p =
    record {
      holds = λ e h. never_both a (p.tested h) (not-true a e);
      tested = λ f. not_so a (is_false a (λ e. f (p.holds e)));
    }
  where
    not_so : (t : Bool) → t ≡ false → not t ≡ true
    not_so t e = rw e

-- a statement may be said in another way
pub said : {t : Bool} {P Q : Type 0} → (P → Q) → (Q → P) → Decides t P → Decides t Q
said there back p = record { holds = λ e. there (p.holds e); tested = λ h. p.tested (back h) }

-- two truth values are the same
pub same_truth : (a b : Bool) → Decides (beq a b) (a ≡ b)
same_truth true true = record { holds = λ e. refl; tested = λ e. refl }
same_truth true false = never true≢false
same_truth false true = never (λ e. true≢false (sym e))
same_truth false false = record { holds = λ e. refl; tested = λ e. refl }

-- each case has a number that tells it: two cases are the same when their numbers are
pub same_case : {A : Type 0} (number : A → ℕ) (back : ℕ → A) → ((a : A) → back (number a) ≡ a) → (a b : A) → Decides (eqb (number a) (number b)) (a ≡ b)
same_case number back told a b =
    said (λ e. sym (told a) ∙ ap back e ∙ told b) (λ e. ap number e) (eq (number a) (number b))

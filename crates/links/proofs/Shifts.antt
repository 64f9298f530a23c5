-- The tables that the loops leave that move words by one place: with a word put in, and with one taken out. Assumes nothing.
use Prim.Native.Nat.{ℕ, suc, ◌+◌, ◌-◌, ◌≤◌, ◌<◌}
use native.Mathlib.Omega.{arith}
use mathlib.Core.Path.{◌≡◌, sym, ap, ap₂, ◌∙◌}
use mathlib.Core.Bool.{true}
use mathlib.Core.List.{List, ◌∷◌, ◌++◌, map}
use lib.ListN.{length, take, drop, set, length-drop}
use lib.Seq.{take-set-le, paste, length-paste}
use Rattle.laws.proofs.Copies.{copied_after, put_in, take_out, put_length, out_length}
use Rattle.laws.proofs.Maps.{map_take, map_drop, map_both}
use Rattle.link.specs.declared.Link.{Link}
use Rattle.link.specs.Link.{of_word}
use Rattle.table.specs.declared.Table.{Table}
use Rattle.table.specs.Links.{held_of, holding}
use Rattle.table.proofs.Stores.{many, unused_zero, holds_list}
use Rattle.laws.proofs.Unused.{Unused, unused_after, unused_from}

module _ (t : Table) where
  -- the words of its links
  abbrev used : List ℕ
  used = take t.count t.words

  -- its words, where those from p up to i are copied one place up
  abbrev pub up : ℕ → ℕ → List ℕ
  up p i = paste t.words (p + 1) (drop p t.words) (i - p)

  -- and where those after p up to i are copied one place down
  abbrev pub down : ℕ → ℕ → List ℕ
  down p i = paste t.words p (drop (p + 1) t.words) (i - (p + 1))

module _ (t : Table) (whole : length t.words ≡ 512) (tidy : (held_of t).tidy ≡ true) (p : ℕ) where
  pub with_held : (w : ℕ) → p ≤ t.count → t.count < 512
      → held_of (record { count = t.count + 1; words = set (up t p t.count) p w }) ≡ holding (take p (held_of t).links ++ of_word w ∷ drop p (held_of t).links)
  with_held w h k =
      let full : length (held_of t).links ≡ t.count = many t whole (omega arith) in
      let rest : Unused 0 (t.count + 1) (up t p t.count) =
      λ j after. copied_after t.words (p + 1) p (t.count - p) 0 (omega arith) (omega arith) (omega arith) ∙ unused_zero t tidy j (omega arith) in
      holds_list (record { count = t.count + 1; words = set (up t p t.count) p w }) (take p (held_of t).links ++ of_word w ∷ drop p (held_of t).links)
      (ap (map of_word) (put_in t.words t.count p w h (omega arith))
      ∙ map_both of_word (take p (used t)) (w ∷ drop p (used t))
      ∙ ap₂ (λ (a b : List Link). a ++ of_word w ∷ b) (map_take of_word p (used t)) (map_drop of_word p (used t)))
      (ap (λ (n : ℕ). n + 1) (sym full) ∙ put_length (held_of t).links p (of_word w) (omega arith))
      (unused_after 0 (t.count + 1) (up t p t.count) p w (omega arith) rest)

  pub without_held : p < t.count → t.count ≤ 512
      → held_of (record { count = t.count - 1; words = set (down t p t.count) (t.count - 1) 0 }) ≡ holding (take p (held_of t).links ++ drop (suc p) (held_of t).links)
  without_held h k =
      let full : length (held_of t).links ≡ t.count = many t whole k in
      let last : ℕ = t.count - 1 in
      let long : length (down t p t.count) ≡ length t.words =
      length-paste t.words p (drop (p + 1) t.words) (t.count - (p + 1)) (omega arith) (omega (arith, length-drop (p + 1) t.words)) in
      let rest : Unused 0 (suc last) (down t p t.count) =
      λ j after. copied_after t.words p (p + 1) (t.count - (p + 1)) 0 (omega arith) (omega arith) (omega arith) ∙ unused_zero t tidy j (omega arith) in
      holds_list (record { count = last; words = set (down t p t.count) last 0 }) (take p (held_of t).links ++ drop (suc p) (held_of t).links)
      (ap (map of_word) (take-set-le last (down t p t.count) last 0 (omega arith) ∙ take_out t.words t.count p h (omega arith))
      ∙ map_both of_word (take p (used t)) (drop (suc p) (used t))
      ∙ ap₂ (λ (a b : List Link). a ++ b) (map_take of_word p (used t)) (map_drop of_word (suc p) (used t)))
      (ap (λ (n : ℕ). n - 1) (sym full) ∙ out_length (held_of t).links p (omega arith))
      (unused_from 0 last (down t p t.count) (omega arith) rest)

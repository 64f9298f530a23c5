-- One line of a script: its parts are kept within it, which changes nothing of what is taken.
-- Assumes nothing.
use Prim.Native.Nat.{ℕ, zero, suc, ◌+◌, ◌-◌, ◌≤◌, ◌<◌, min}
use native.Mathlib.Omega.{arith}
use mathlib.Core.Path.{◌≡◌, refl, sym, ap, ◌∙◌}
use mathlib.Core.Bool.{Bool, true, false, ◌&&◌}
use mathlib.Core.List.{List, [], ◌∷◌}
use lib.ListN.{length, take, drop, length-drop, drop_of_length-le}
use lib.Seq.{take-length}
use lib.Dec.{leb}
use borrow.Author.Tests.{leb-true, leb-false}
use Rattle.panel.specs.Panel.{Model}
use Rattle.texts.specs.Text.{same}
use Rattle.texts.specs.Sheet.{sheet}
use Rattle.rows.specs.Lines.{until, lines}
use Rattle.rows.proofs.NextLine.{line_turn}
use Rattle.desk.specs.Desk.{Desk}
use Rattle.replies.specs.Replies.{line_done}
use Rattle.scripts.specs.Scripts.{Course, course, answer_on, held_to, tried, followed}

pub take_least : (n : ℕ) (xs : List ℕ) → take (min n (length xs)) xs ≡ take n xs
take_least zero xs = let none : min 0 (length xs) ≡ 0 = omega arith in ap (λ (k : ℕ). take k xs) none
take_least (suc n) [] = let none : min (suc n) 0 ≡ 0 = omega arith in ap {A = ℕ} {B = List ℕ} (λ (k : ℕ). take k []) none
take_least (suc n) (x ∷ xs) =
    let more : min (suc n) (suc (length xs)) ≡ suc (min n (length xs)) = omega arith in
    ap (λ (k : ℕ). take k (x ∷ xs)) more ∙ ap (λ (l : List ℕ). x ∷ l) (take_least n xs)

pub drop_least : (n : ℕ) (xs : List ℕ) → drop (min n (length xs)) xs ≡ drop n xs
drop_least n xs = go (leb n (length xs)) refl
  where
    go : (t : Bool) → leb n (length xs) ≡ t → drop (min n (length xs)) xs ≡ drop n xs
    go true e =
        let h : n ≤ length xs = leb-true n (length xs) e in
        let same_place : min n (length xs) ≡ n = omega arith in
        ap (λ (k : ℕ). drop k xs) same_place
    go false e =
        let h : length xs < n = leb-false n (length xs) e in
        let least : length xs ≤ min n (length xs) = omega arith in
        let past : length xs ≤ n = omega arith in
        drop_of_length-le xs least ∙ sym (drop_of_length-le xs past)

-- ---- one line

module _ (line : List ℕ) (right : Bool) (m : Model) (bytes : List ℕ) {sign from : ℕ} {desk : Desk} {answered all : Bool} where
  pub line_tried : sign ≡ 0 + until 61 (drop 0 line) → desk ≡ line_done 1 (take sign line) m (sheet bytes 0)
      → from ≡ min (sign + 2) (length line) → answered ≡ same (take (length line - from) (drop from line)) (answer_on desk.page) → all ≡ right && answered
      → course desk.panel desk.page.bytes all ≡ tried line (course m bytes right)
  unfolding tried
  line_tried at done is-from is-answered is_all =
      let here : sign ≡ until 61 line = omega (arith, at) in
      let expected : take (length line - from) (drop from line) ≡ drop (until 61 line + 2) line =
      ap (λ (k : ℕ). take k (drop from line)) (sym (length-drop from line)) ∙ take-length (drop from line) ∙ ap (λ (k : ℕ). drop k line) is-from ∙ drop_least (sign + 2) line ∙ ap (λ (k : ℕ). drop (k + 2) line) here in
      ap (λ (t : Bool). course desk.panel desk.page.bytes t)
      (is_all ∙ ap (λ (t : Bool). right && t) (is-answered ∙ ap (λ (l : List ℕ). same l (answer_on desk.page)) expected))
      ∙ ap (held_to (drop (until 61 line + 2) line) right) (done ∙ ap (λ (k : ℕ). line_done 1 (take k line) m (sheet bytes 0)) here)

-- ---- all lines

pub followed_more : (script : List ℕ) (start end : ℕ) (c : Course) {next whole : Course} → start < length script → end ≡ start + until 10 (drop start script)
    → next ≡ tried (take (end - start) (drop start script)) c → followed (lines (drop start script)) c ≡ whole
    → followed (lines (drop (end + 1) script)) next ≡ whole
unfolding followed
followed_more script start end c h e one w =
    ap (followed (lines (drop (end + 1) script))) one ∙ sym (ap (λ (ls : List (List ℕ)). followed ls c) (line_turn script start end h e)) ∙ w

pub followed_end : (script : List ℕ) (start : ℕ) {c whole : Course} → length script ≤ start → followed (lines (drop start script)) c ≡ whole → c ≡ whole
unfolding followed lines
followed_end script start {c} h w = sym (ap (λ (l : List ℕ). followed (lines l) c) (drop_of_length-le script h)) ∙ w

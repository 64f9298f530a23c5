-- The lines from a place on: a line whose line feed is missing, one that is bad, one that is good, and the end of the file.
-- Assumes nothing.
use Prim.Native.Nat.{ℕ, suc, ◌+◌, ◌-◌, ◌≤◌, ◌<◌}
use native.Mathlib.Numerals.{add-one}
use native.Mathlib.Omega.{arith}
use mathlib.Core.Path.{◌≡◌, refl, sym, ap, ap₂, ◌∙◌}
use mathlib.Core.Bool.{Bool, false, cond, ◌&&◌}
use mathlib.Core.List.{List, [], ◌∷◌, cons-ne-nil}
use mathlib.Core.Option.{Option, none, some}
use lib.ListN.{length, take, drop, length-drop, drop_of_length-le}
use lib.Seq.{drop-cons, drop-drop, length-take-le}
use borrow.Author.Tests.{lt-ltb, le-ltb}
use Rattle.rows.specs.Lines.{until}
use Rattle.rows.proofs.NextLine.{place_within}
use Rattle.decimals.specs.Decimals.{is_empty}
use Rattle.fields.specs.Parts.{parts, parts_after}
use Rattle.fields.specs.Lines.{line_feed}
use Rattle.fields.proofs.Parts.{parts_next, parts_some}
use Rattle.plant.specs.Read.{Plan, is_begun, if_there, bytes_taken, FileRead, good_file, bad_in, walked}
use Rattle.plant.proofs.Walk.{walk_on}

-- the bytes from one place up to another
abbrev pub part : ℕ → ℕ → List ℕ → List ℕ
part at end file = take (end - at) (drop at file)

some_bytes : (xs : List ℕ) → 0 < length xs → is_empty xs ≡ false
some_bytes [] h = absurd (omega arith)
some_bytes (x ∷ xs) h = refl

module _ (file : List ℕ) (at : ℕ) (p : Plan) (number : ℕ) {whole : FileRead} (e : walked number p (parts line_feed (drop at file)) ≡ whole) where
  -- ---- a line begins here

  module _ (end : ℕ) (here : at < length file) (ends : end ≡ at + until line_feed (drop at file)) where
    -- its bytes, and then the parts after its line feed
    next_part : parts line_feed (drop at file) ≡ part at end file ∷ parts_after line_feed (drop end file)
    next_part =
        let span : until line_feed (drop at file) ≡ end - at = omega (arith, ends) in
        parts_next line_feed (drop at file)
        ∙ ap₂ (λ (bytes rest : List ℕ). bytes ∷ parts_after line_feed rest)
        (ap (λ (k : ℕ). take k (drop at file)) span)
        (drop-drop (until line_feed (drop at file)) at file ∙ ap (λ (k : ℕ). drop k file) (sym ends))

    pub no_feed : length file ≤ end → bad_in number ≡ whole
    unfolding walked
    no_feed past =
        let within : end ≤ length file = place_within line_feed file at end (omega (arith, here)) ends in
        let last : List ℕ = part at end file in
        let filled : is_empty last ≡ false =
        some_bytes last (omega (arith, length-take-le (end - at) (drop at file) (omega (arith, within, length-drop at file)), here, past)) in
        sym (ap (λ (t : Bool). cond (t && is_begun p) (good_file p.model) (bad_in number)) filled)
        ∙ sym (ap (λ (rest : List ℕ). walked number p (last ∷ parts_after line_feed rest)) (drop_of_length-le file past))
        ∙ sym (ap (walked number p) next_part)
        ∙ e

    module _ (ended : end < length file) where
      on : parts line_feed (drop at file) ≡ part at end file ∷ parts line_feed (drop (end + 1) file)
      on =
          next_part
          ∙ ap (λ (rest : List ℕ). part at end file ∷ parts_after line_feed rest) (drop-cons file end 0 ended)
          ∙ ap (λ (k : ℕ). part at end file ∷ parts line_feed (drop k file)) (sym (add-one end))

      more : parts line_feed (drop (end + 1) file) ≡ [] → ⊥
      more none_left = let some_part = parts_some line_feed (drop (end + 1) file) in cons-ne-nil some_part.0 some_part.1 (sym some_part.2 ∙ none_left)

      one_line : if_there (bytes_taken p (part at end file)) (bad_in number) (λ q. walked (suc number) q (parts line_feed (drop (end + 1) file))) ≡ whole
      one_line = sym (walk_on number p (part at end file) (parts line_feed (drop (end + 1) file)) more) ∙ sym (ap (walked number p) on) ∙ e

      pub line_bad : none ≡ bytes_taken p (part at end file) → bad_in number ≡ whole
      line_bad bad = ap (λ (o : Option Plan). if_there o (bad_in number) (λ q. walked (suc number) q (parts line_feed (drop (end + 1) file)))) bad ∙ one_line

      pub line_good : (q : Plan) → some q ≡ bytes_taken p (part at end file) → walked (suc number) q (parts line_feed (drop (end + 1) file)) ≡ whole
      line_good q good = ap (λ (o : Option Plan). if_there o (bad_in number) (λ n. walked (suc number) n (parts line_feed (drop (end + 1) file)))) good ∙ one_line

  -- ---- the file ends here

  module _ (over : length file ≤ at) where
    last_part : {t : Bool} → is_begun p ≡ t → cond t (good_file p.model) (bad_in number) ≡ whole
    unfolding walked parts
    last_part b =
        ap (λ (t : Bool). cond t (good_file p.model) (bad_in number)) (sym b)
        ∙ sym (ap (λ (rest : List ℕ). walked number p (parts line_feed rest)) (drop_of_length-le file over))
        ∙ e

    pub end_bad : p.version ≡ 0 → bad_in number ≡ whole
    end_bad none_yet = last_part (le-ltb 0 p.version (omega (arith, none_yet)))

    pub end_good : (p.version ≡ 0 → ⊥) → good_file p.model ≡ whole
    end_good some-there = last_part (lt-ltb 0 p.version (positive p.version some-there))
      where
        positive : (n : ℕ) → (n ≡ 0 → ⊥) → 0 < n
        positive n h = omega (arith, h)

-- What the edits of a table come to, check by check: each law takes what the code found out and gives the number of the checks, or
-- the refusal.
-- Assumes nothing.
use Prim.Native.Nat.{◌<◌}
use mathlib.Core.Path.{◌≡◌, sym, ap, ◌∙◌}
use mathlib.Core.Bool.{true, false, not}
use mathlib.Core.List.{List, ◌∷◌}
use lib.Dec.{leb}
use borrow.Author.Tests.{lt-leb, leb-false, not-false}
use Rattle.answers.specs.declared.Refusal.{Refusal}
use Rattle.answers.specs.Numbers.{number_of, refused_on}
use Rattle.answers.specs.Answers.{Check, refusal}
use Rattle.answers.proofs.Refusals.{passed_by, all_passed, none_left}
use Rattle.answers.proofs.Rules.{refuse_with}
use Rattle.link.specs.declared.Link.{Link}
use Rattle.table.specs.declared.Table.{Table}
use Rattle.table.specs.Links.{Held, held_of}
use Rattle.link.specs.Link.{key_of, in_range}
use Rattle.table.specs.Sound.{most, is_sound}
use Rattle.answers.proofs.Numbers.{some_number}
use Rattle.links.specs.Edits.{is_in, other_class, TableRule, unsound, add_checks, edited, edited_of}

-- an edit that its checks refuse hands the table back as it was
pub edit_refused : (rule : TableRule) (t : Table) (r : Refusal) → number_of r ≡ refusal (rule.checks (held_of t) tt)
    → edited_of (refused_on t r) ≡ edited rule (held_of t)
edit_refused rule t r e = refuse_with rule (held_of t) tt (some_number r) (sym e)

module _ (h : Held) where
  -- of a sound one the edit's own checks decide
  pub own_checks : (own : List Check) → is_sound h ≡ true → refusal (unsound h ∷ own) ≡ refusal own
  own_checks own e = passed_by (not (is_sound h)) 12 own (ap not e)

  pub was_sound : (own : List Check) → refusal (unsound h ∷ own) ≡ 0 → (is_sound h ≡ true) × (refusal own ≡ 0)
  was_sound own e =
      let both : (not (is_sound h) ≡ false) × (refusal own ≡ 0) = all_passed (not (is_sound h)) 11 own e in
      (not-false (is_sound h) both.0, both.1)

  -- ---- add a link

  module _ (l : Link) where
    -- nothing refuses
    pub judged_done : in_range l ≡ true → is_in key_of l h.links ≡ false → other_class l h.links ≡ false → h.count < most → 0 ≡ refusal (add_checks l h)
    unfolding add_checks
    judged_done range new same_Class room =
        sym (passed_by _ 1 _ (ap not range) ∙ passed_by _ 4 _ new ∙ passed_by _ 8 _ same_Class ∙ passed_by _ 7 _ (lt-leb most h.count room) ∙ none_left)

    -- what is so where no check refuses
    pub record Accepted : Type 0 where
      pub range : in_range l ≡ true
      pub new : is_in key_of l h.links ≡ false
      pub one_class : other_class l h.links ≡ false
      pub room : h.count < most

    pub accepted : refusal (add_checks l h) ≡ 0 → Accepted
    unfolding add_checks
    accepted e =
        let a = all_passed (not (in_range l)) 0 _ e in
        let b = all_passed (is_in key_of l h.links) 3 _ a.1 in
        let c = all_passed (other_class l h.links) 7 _ b.1 in
        let d = all_passed (leb most h.count) 6 _ c.1 in
        record {
          range = not-false (in_range l) a.0;
          new = b.0;
          one_class = c.0;
          room = leb-false most h.count d.0;
        }

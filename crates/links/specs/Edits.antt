-- Document 01, "Edits" and "Numbers the panel answers": what the edits of a table answer and leave. Of each edit the checks of its
-- own, the moved count and the links that it leaves stand apart, so that the panel's edits can be said by the same parts.
-- Assumes nothing.
use Rattle.std.specs.Prelude.{ℕ, ◌+◌, Bool, false, cond, not, ◌&&◌, ◌||◌, eqb, ltb, leb}
use mathlib.Core.List.{List, [], ◌∷◌, tail}
use Rattle.laws.specs.Kept.{kept}
use Rattle.answers.specs.declared.Answered.{Answered}
use Rattle.answers.specs.Answers.{Check}
use Rattle.answers.specs.Numbers.{answer_of, count_of}
use Rattle.answers.specs.Rules.{Rule, Result, carried, edit}
use Rattle.kinds.specs.Kinds.{class_of}
use Rattle.link.specs.declared.Link.{Link}
use Rattle.link.specs.Link.{in_range, key_of}
use Rattle.table.specs.declared.Table.{Table}
use Rattle.table.specs.Links.{Held, held_of, holding, address_class}
use Rattle.table.specs.Sound.{is_sound, most}

module _ {A : Type 0} (key : A → ℕ) where
  -- Whether an element stands in a list.
  unfoldable pub is_in : A → List A → Bool
  is_in a [] = false
  is_in a (x ∷ xs) = eqb (key x) (key a) || is_in a xs

  -- "The table is held ascending": a new element stands after all that are below it.
  unfoldable pub inserted : A → List A → List A
  inserted a [] = a ∷ []
  inserted a (x ∷ xs) = cond (ltb (key x) (key a)) (x ∷ inserted a xs) (a ∷ x ∷ xs)

  -- Whether an element is another one.
  abbrev pub others : A → A → Bool
  others a x = not (eqb (key x) (key a))

  -- All but one element, in their order.
  unfoldable pub deleted : A → List A → List A
  deleted a = kept (others a)

  -- Whether an element is the first of a list.
  unfoldable pub is_first : A → List A → Bool
  is_first a [] = false
  is_first a (x ∷ xs) = eqb (key x) (key a)

  -- Old and new, place by place: an element of the old list that is in all of the new one, and not at this place, has moved.
  unfoldable pub moved_among : List A → List A → List A → ℕ
  moved_among all [] new = 0
  moved_among all (x ∷ old) new = cond (is_in x all && not (is_first x new)) 1 0 + moved_among all old (tail new)

  -- "How many surviving links stand at another place than before".
  unfoldable pub moved : List A → List A → ℕ
  moved old new = moved_among new old new

-- Whether a link names another tag.
abbrev pub stays : ℕ → Link → Bool
stays tag l = not (eqb l.tag tag)

-- "Remove blind: also drops its links": all links but those of a tag, in their order.
unfoldable pub dropped : ℕ → List Link → List Link
dropped tag = kept (stays tag)

-- "Address has another class".
unfoldable pub other_class : Link → List Link → Bool
other_class l ls =
    not (eqb (address_class l.address ls) 0) && not (eqb (address_class l.address ls) (class_of l.kind))

-- An edit of a table: a call on what it holds that is lent no cells.
abbrev pub TableRule : Type 0
TableRule = Rule Held (Unit {0})

-- Every edit first refuses a table that is not sound.
abbrev pub unsound : Held → Check
unsound h = (not (is_sound h), 12)

-- ---- add link

-- "Then .. add link .. 4, 8, 7".
abbrev pub add_own : Link → Held → List Check
add_own l h = (is_in key_of l h.links, 4) ∷ (other_class l h.links, 8) ∷ (leb most h.count, 7) ∷ []

abbrev pub add_links : Link → Held → List Link
add_links l h = inserted key_of l h.links

abbrev pub add_moved : Link → Held → ℕ
add_moved l h = moved key_of h.links (add_links l h)

-- "1: argument outside its range", before them.
unfoldable pub add_checks : Link → Held → List Check
add_checks l h = (not (in_range l), 1) ∷ add_own l h

unfoldable pub table_add : Link → TableRule
table_add l = edit (λ h. unsound h ∷ add_checks l h) (add_moved l) (λ h. holding (add_links l h))

-- ---- remove link

-- "5: no such link".
abbrev pub remove_own : Link → Held → List Check
remove_own l h = (not (is_in key_of l h.links), 5) ∷ []

abbrev pub remove_links : Link → Held → List Link
remove_links l h = deleted key_of l h.links

abbrev pub remove_moved : Link → Held → ℕ
remove_moved l h = moved key_of h.links (remove_links l h)

unfoldable pub table_remove : Link → TableRule
table_remove l = edit (λ h. unsound h ∷ remove_own l h) (remove_moved l) (λ h. holding (remove_links l h))

-- ---- remove the links of a tag: no check of its own

abbrev pub tag_links : ℕ → Held → List Link
tag_links tag h = dropped tag h.links

abbrev pub tag_moved : ℕ → Held → ℕ
tag_moved tag h = moved key_of h.links (tag_links tag h)

unfoldable pub table_drop : ℕ → TableRule
table_drop tag = edit (λ h. unsound h ∷ []) (tag_moved tag) (λ h. holding (tag_links tag h))

-- ---- what an edit answers and leaves, and what the result of a function says of it

abbrev pub edited : TableRule → Held → Result Held (Unit {0})
edited rule h = carried rule h tt

abbrev pub edited_of : Answered Table → Result Held (Unit {0})
edited_of r = record { answer = answer_of r.outcome; count = count_of r.outcome; second = 0; leaves = held_of r.state; cells = tt }

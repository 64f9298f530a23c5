-- The lines that are written of a panel: those of an empty panel, and one line more at the end with a further blind or link.
-- Assumes nothing.
use Prim.Native.Nat.{ℕ, zero, suc, ◌≤◌, ◌<◌}
use native.Mathlib.Omega.{arith}
use mathlib.Core.Path.{◌≡◌, refl, sym, ap, ap₂, ◌∙◌}
use mathlib.Core.List.{List, [], ◌∷◌, ◌++◌, map, append-nil, append_assoc}
use mathlib.Core.Option.{Option, none, some}
use Rattle.laws.proofs.Choices.{same_or_other}
use Rattle.laws.proofs.Maps.{map_both}
use Rattle.tags.specs.Tags.{places}
use Rattle.link.specs.declared.Link.{Link}
use Rattle.table.specs.Links.{Held, holding}
use Rattle.panel.specs.declared.Seat.{Seat}
use Rattle.panel.specs.Panel.{Model, bare, reseated, relinked}
use Rattle.panel.proofs.Seats.{reseated_at, reseated_other, reseated_table}
use Rattle.fields.specs.Lines.{Line}
use Rattle.plant.specs.Written.{first_line, blind_line, link_line, seat_lines, blind_lines, link_lines, plant_lines}

-- nothing is seated from this tag on
abbrev pub NoneFrom : ℕ → Model → Type 0
NoneFrom floor m = (tag : ℕ) → floor ≤ tag → m.seats tag ≡ none

-- the same seats below a tag have the same lines
pub blind_lines_same : (k : ℕ) (m n : Model) → ((tag : ℕ) → tag < k → m.seats tag ≡ n.seats tag) → blind_lines k m ≡ blind_lines k n
unfolding blind_lines
blind_lines_same zero m n alike = refl
blind_lines_same (suc k) m n alike =
    ap₂ (λ (ls : List Line) (o : Option Seat). ls ++ seat_lines k o)
    (blind_lines_same k m n (λ tag h. alike tag (omega arith))) (alike k (omega arith))

-- tags without a seat have no lines
pub blind_lines_end : (n k : ℕ) (m : Model) → k ≤ n → NoneFrom k m → blind_lines n m ≡ blind_lines k m
unfolding blind_lines
blind_lines_end zero k m low none_from =
    let least : k ≡ 0 = omega arith in
    ap (λ (j : ℕ). blind_lines j m) (sym least)
blind_lines_end (suc n) k m low none_from =
    same_or_other k (suc n) (λ same. ap (λ (j : ℕ). blind_lines j m) (sym same))
    (λ other.
    let less : k ≤ n = omega (arith, other) in
    ap (λ (o : Option Seat). blind_lines n m ++ seat_lines n o) (none_from n less)
    ∙ append-nil (blind_lines n m)
    ∙ blind_lines_end n k m less none_from)

-- the empty panel has its first line alone
pub bare_lines : plant_lines bare ≡ first_line ∷ []
unfolding plant_lines blind_lines
bare_lines = ap (λ (ls : List Line). first_line ∷ ls ++ []) (blind_lines_end places 0 bare (omega arith) (λ tag h. refl))

-- a blind above all others, and no link yet: its line is the last
pub blind_last : (m : Model) (tag : ℕ) (seat : Seat) → tag < places → NoneFrom tag m → m.table.links ≡ []
    → plant_lines (reseated tag (some seat) m) ≡ plant_lines m ++ blind_line tag seat ∷ []
unfolding plant_lines blind_lines
blind_last m tag seat low none_from no_links =
    ap₂ (λ (ls : List Line) (links : List Link). first_line ∷ ls ++ map link_line links) blinds
    (ap (λ (h : Held). h.links) (reseated_table tag (some seat) m) ∙ no_links)
    ∙ ap (λ (ls : List Line). first_line ∷ ls) (append-nil (blind_lines places m ++ blind_line tag seat ∷ []))
    ∙ ap (λ (ls : List Line). first_line ∷ ls ++ blind_line tag seat ∷ []) (sym (append-nil (blind_lines places m)))
    ∙ ap (λ (links : List Link). first_line ∷ (blind_lines places m ++ map link_line links) ++ blind_line tag seat ∷ []) (sym no_links)
  where
    new : Model
    new = reseated tag (some seat) m

    blinds : blind_lines places new ≡ blind_lines places m ++ blind_line tag seat ∷ []
    blinds =
        blind_lines_end places (suc tag) new (omega arith)
        (λ other h. reseated_other tag (some seat) m other (λ e. omega arith) ∙ none_from other (omega arith))
        ∙ ap₂ (λ (ls : List Line) (o : Option Seat). ls ++ seat_lines tag o)
        (blind_lines_same tag new m (λ other h. reseated_other tag (some seat) m other (λ e. omega arith))) (reseated_at tag (some seat) m)
        ∙ ap (λ (ls : List Line). ls ++ blind_line tag seat ∷ []) (sym (blind_lines_end places tag m (omega arith) none_from))

-- a link above all others: its line is the last
pub link_last : (m : Model) (l : Link) (links : List Link) → links ≡ m.table.links ++ l ∷ []
    → plant_lines (relinked (holding links) m) ≡ plant_lines m ++ link_line l ∷ []
unfolding plant_lines
link_last m l links whole =
    ap₂ (λ (bs : List Line) (ls : List Link). first_line ∷ bs ++ map link_line ls) (blind_lines_same places (relinked (holding links) m) m (λ tag h. refl)) whole
    ∙ ap (λ (ls : List Line). first_line ∷ blind_lines places m ++ ls) (map_both link_line m.table.links (l ∷ []))
    ∙ ap (λ (ls : List Line). first_line ∷ ls) (sym (append_assoc (blind_lines places m) (link_lines m) (link_line l ∷ [])))

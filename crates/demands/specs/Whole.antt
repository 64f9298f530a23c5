-- All that a panel holds, as rows of numbers, so that a case can look at "nothing else changes" in every field of every blind, at
-- every terminal and at every link.
-- Assumes nothing.
use Rattle.std.specs.Prelude.{ℕ, Bool, true, false, cond, ◌&&◌, List, [], ◌∷◌, ◌++◌, map, eqb}
use Rattle.std.proofs.Math.Option
use Rattle.std.proofs.Math.Option.{Option, none, some}
use Rattle.laws.specs.Fills.{tabulate}
use Rattle.tags.specs.Tags.{places}
use Rattle.params.specs.Numbers.{numbers_of}
use Rattle.runs.specs.declared.Run.{Run}
use Rattle.blind.specs.declared.Motion.{Motion}
use Rattle.blind.specs.declared.Blind.{Blind}
use Rattle.blind.specs.Numbers.{forced_number, last_number, direction_number, goal_number}
use Rattle.link.specs.declared.Link.{Link}
use Rattle.panel.specs.declared.Seat.{Seat}
use Rattle.panel.specs.Panel.{Model, reseated}

-- ---- each field is a number, and different values are different numbers

abbrev pub bit : Bool → ℕ
bit b = cond b 1 0

abbrev pub run_row : Run → List ℕ
run_row run = direction_number run.direction ∷ goal_number run.goal ∷ run.length ∷ []

abbrev pub motion_row : Motion → List ℕ
motion_row (Motion.Off rest) = 0 ∷ rest ∷ []
motion_row (Motion.Waits rest run) = 1 ∷ rest ∷ run_row run
motion_row (Motion.Runs run) = 2 ∷ run_row run

-- The six parameters, the four flags, the place, the last direction and the motion.
abbrev pub blind_row : Blind → List ℕ
blind_row b =
    numbers_of b.params
    ++ (bit b.flags.wind ∷ bit b.flags.rain ∷ bit b.flags.frost ∷ forced_number b.flags.forced
    ∷ b.place.position ∷ bit b.place.valid ∷ last_number b.last ∷ motion_row b.motion)

-- A tag without a blind has an empty row.
abbrev pub seat_row : Option Seat → List ℕ
seat_row none = []
seat_row (some seat) = seat.terminal ∷ blind_row seat.blind

abbrev pub link_row : Link → List ℕ
link_row l = l.address ∷ l.tag ∷ l.kind ∷ []

-- A row for each tag, the count of the links, and a row for each link.
unfoldable pub whole : Model → List (List ℕ)
whole m = tabulate places (λ tag. seat_row (m.seats tag)) ++ ((m.table.count ∷ []) ∷ map link_row m.table.links)

-- ---- whether two panels are the same in all of it

unfoldable pub same_list : {A : Type 0} → (A → A → Bool) → List A → List A → Bool
same_list same [] [] = true
same_list same [] (y ∷ ys) = false
same_list same (x ∷ xs) [] = false
same_list same (x ∷ xs) (y ∷ ys) = same x y && same_list same xs ys

unfoldable pub same_panel : Model → Model → Bool
same_panel a b = same_list (same_list eqb) (whole a) (whole b)

-- The seat of one tag becomes another one, and nothing else changes.
abbrev pub reseat : ℕ → (Seat → Seat) → Model → Model
reseat tag change m = reseated tag (Option.map change (m.seats tag)) m

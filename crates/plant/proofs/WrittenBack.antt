-- Document 02, K3: "What the writer writes reads back as the same wiring with fresh blinds", line by line.
-- Assumes nothing.
use Prim.Native.Nat.{ℕ}
use mathlib.Core.Path.{◌≡◌, refl, sym, ap, ◌∙◌}
use mathlib.Core.List.Permᴰ
use mathlib.Core.List.{◌++◌}
use mathlib.Core.Option.{some}
use Rattle.laws.specs.Fills.{tabulate}
use Rattle.tags.specs.Tags.{places}
use Rattle.link.specs.Link.{key_of}
use Rattle.table.proofs.Ranks.{Asc}
use Rattle.table.proofs.Sound.{sound_decided, sound_reads}
use Rattle.panel.specs.Panel.{Model, bare}
use Rattle.panel.specs.Sound.{Fine}
use Rattle.wiring.specs.Afresh.{unlinked, Rebuilt}
use Rattle.wiring.proofs.Rebuilt.{rebuilt}
use Rattle.texts.specs.Text.{text, same}
use Rattle.plant.specs.Written.{first_line, blind_lines, link_lines, plant_lines}
use Rattle.plant.specs.Read.{start, blind_size, begun, opened, taken}
use Rattle.plant.specs.Claims.{rewired}
use Rattle.plant.proofs.LinesTaken.{lines_taken, plan_of, line_taken, lines_then}
use Rattle.plant.proofs.Rewired.{AllFresh, rewired_fine, rewired_fresh, rewired_lines}
use Rattle.plant.proofs.BlindsBack.{floor_after, all_blinds_taken}
use Rattle.plant.proofs.LinksBack.{links_taken}

first_taken : taken start first_line ≡ some (plan_of bare 0)
unfolding taken opened begun first_line blind_size same text tabulate
first_taken = refl

-- the lines of a sound panel with fresh blinds are taken, and leave that panel
pub fresh_taken : (m : Model) (f : Fine m) (fresh : AllFresh m) → lines_taken start (plant_lines m) ≡ some (plan_of m (floor_after m places))
unfolding plant_lines
fresh_taken m f fresh =
    line_taken start (plan_of bare 0) first_line (blind_lines places m ++ link_lines m) first_taken
    ∙ lines_then (plan_of bare 0) (plan_of (unlinked m) floor) (blind_lines places m) (link_lines m) (all_blinds_taken m f fresh)
    ∙ links_taken m.table.links (unlinked m) floor afresh.accepted ascends
    ∙ ap (λ (n : Model). some (plan_of n floor)) afresh.same
  where
    floor : ℕ
    floor = floor_after m places

    afresh : Rebuilt m.table.links m
    afresh = rebuilt m f m.table.links (Permᴰ.refl m.table.links)

    ascends : Asc key_of m.table.links
    ascends = (sound_reads m.table ((sound_decided m.table).1 f.sound.links)).1.ascends

-- what is written of a panel is taken, and leaves the same wiring with fresh blinds
pub written_taken : (m : Model) → Fine m → (floor : ℕ) × (lines_taken start (plant_lines m) ≡ some (plan_of (rewired m) floor))
written_taken m f = (
  floor_after (rewired m) places,
  ap (lines_taken start) (sym (rewired_lines m)) ∙ fresh_taken (rewired m) (rewired_fine m f) (rewired_fresh m),
)

-- The lines that are written of a sound panel: how many digits their numbers may have, and that their words have no marks in them.
-- Assumes nothing.
use Prim.Native.Nat.{ℕ, zero, suc, ◌≤◌, ◌<◌}
use native.Mathlib.Omega.{arith}
use mathlib.Core.Path.{◌≡◌, refl}
use mathlib.Core.Option.{Option, none, some}
use Rattle.laws.specs.Every.{every}
use Rattle.laws.specs.Fills.{tabulate}
use Rattle.laws.proofs.Each.{Each, none as no_more, more, each_append, each_mapped, each_map}
use Rattle.params.specs.Parameters.{SoundParams}
use Rattle.params.specs.Numbers.{number_of, numbers_of, InRanges}
use Rattle.params.proofs.Ranges.{params_decide, ranges_decide}
use Rattle.params.proofs.Rows.{asked_allowed}
use Rattle.tags.specs.Tags.{places}
use Rattle.link.specs.declared.Link.{Link}
use Rattle.link.proofs.Ranges.{InRange}
use Rattle.table.proofs.Sound.{sound_decided, sound_reads}
use Rattle.panel.specs.declared.Seat.{Seat}
use Rattle.panel.specs.Panel.{Model}
use Rattle.panel.specs.Sound.{Sound}
use Rattle.texts.specs.Text.{text}
use Rattle.decimals.specs.Decimals.{largest}
use Rattle.fields.specs.Lines.{Line, tab, line_feed}
use Rattle.fields.proofs.Parts.{Clean}
use Rattle.plant.specs.Written.{first_line, blind_line, link_line, seat_lines, blind_lines, plant_lines}

-- ---- the numbers of a blind and of a link

pub record ShortBlind (tag : ℕ) (seat : Seat) : Type 0 where
  pub tag_short : tag < 100
  pub terminal_short : seat.terminal < 1000
  pub mudt_short : seat.blind.params.mudt < 1000000
  pub sst_short : seat.blind.params.sst < 100000
  pub rpt_short : seat.blind.params.rpt < 100000
  pub rwa_short : number_of seat.blind.params.rwa < 10
  pub rra_short : number_of seat.blind.params.rra < 10
  pub rfa_short : number_of seat.blind.params.rfa < 10

pub record ShortLink (l : Link) : Type 0 where
  pub address_short : l.address < 100000
  pub tag_short : l.tag < 100
  pub kind_short : l.kind < 10

module _ (m : Model) (s : Sound m) where
  pub blind_short : (tag : ℕ) (seat : Seat) → m.seats tag ≡ some seat → ShortBlind tag seat
  unfolding numbers_of
  blind_short tag seat at =
      let own : SoundParams seat.blind.params = (s.blinds tag seat at).params in
      let ranges : InRanges (numbers_of seat.blind.params) =
      (ranges_decide (numbers_of seat.blind.params)).holds (asked_allowed seat.blind.params ((params_decide seat.blind.params).tested own)) in
      record {
        tag_short = omega (arith, s.tags tag seat at);
        terminal_short = omega (arith, s.in_range tag seat at);
        mudt_short = omega (arith, own.mudt_most);
        sst_short = omega (arith, own.sst_most);
        rpt_short = omega (arith, own.rpt_most);
        rwa_short = omega (arith, ranges.rwa);
        rra_short = omega (arith, ranges.rra);
        rfa_short = omega (arith, ranges.rfa);
      }

  pub links_short : Each ShortLink m.table.links
  links_short =
      each_map (λ l r. short l r) (sound_reads m.table ((sound_decided m.table).1 s.links)).1.ranged
    where
      short : (l : Link) → InRange l → ShortLink l
      short l r =
          record {
            address_short = omega (arith, r.address_high);
            tag_short = omega (arith, r.tag_high);
            kind_short = omega (arith, r.kind_high);
          }

-- ---- each line

-- a line that can be read back
pub record PlainLine (l : Line) : Type 0 where
  pub no_tab : Clean tab l.word
  pub no_line_feed : Clean line_feed l.word
  pub numbers : Each (λ n. n ≤ largest) l.numbers

module _ (P : Line → Type 0) (m : Model) where
  seat_lines_lem : (tag : ℕ) (o : Option Seat) → ((seat : Seat) → o ≡ some seat → P (blind_line tag seat)) → Each P (seat_lines tag o)
  seat_lines_lem tag none of = no_more
  seat_lines_lem tag (some seat) of = more (of seat refl) no_more

  each_blind : ((tag : ℕ) (seat : Seat) → m.seats tag ≡ some seat → P (blind_line tag seat)) → (k : ℕ) → Each P (blind_lines k m)
  unfolding blind_lines
  each_blind of zero = no_more
  each_blind of (suc k) = each_append (each_blind of k) (seat_lines_lem k (m.seats k) (of k))

  pub each_line : P first_line → ((tag : ℕ) (seat : Seat) → m.seats tag ≡ some seat → P (blind_line tag seat))
      → Each (λ l. P (link_line l)) m.table.links → Each P (plant_lines m)
  unfolding plant_lines
  each_line first-has of links = more first-has (each_append (each_blind of places) (each_mapped link_line links))

pub plain_lines : (m : Model) → Sound m → Each PlainLine (plant_lines m)
unfolding first_line blind_line link_line numbers_of every text tabulate
plain_lines m s =
    each_line PlainLine m (record { no_tab = refl; no_line_feed = refl; numbers = more (omega arith) no_more })
    (λ tag seat at.
    let b : ShortBlind tag seat = blind_short m s tag seat at in
    record {
      no_tab = refl;
      no_line_feed = refl;
      numbers =
          more (omega (arith, b.tag_short)) (more (omega (arith, b.terminal_short)) (more (omega (arith, b.mudt_short))
          (more (omega (arith, b.sst_short)) (more (omega (arith, b.rpt_short)) (more (omega (arith, b.rwa_short))
          (more (omega (arith, b.rra_short)) (more (omega (arith, b.rfa_short)) no_more)))))));
    })
    (each_map
    (λ l b.
    record {
      no_tab = refl;
      no_line_feed = refl;
      numbers = more (omega (arith, b.address_short)) (more (omega (arith, b.tag_short)) (more (omega (arith, b.kind_short)) no_more));
    })
    (links_short m s))

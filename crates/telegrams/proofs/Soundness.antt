-- A telegram keeps a sound panel sound.
-- Assumes nothing.
use Prim.Native.Nat.{ℕ, ◌≤◌}
use mathlib.Core.Path.{◌≡◌, refl, sym, subst}
use mathlib.Core.List.{List, [], ◌∷◌}
use lib.Dec.{eqb}
use Rattle.answers.specs.Answers.{refusal}
use Rattle.laws.proofs.Choices.{cond_has}
use Rattle.tags.specs.Tags.{places}
use Rattle.table.specs.Links.{links_to}
use Rattle.sound_blind.specs.Sound as ofBlind
use Rattle.rules.specs.Rules.{heeded}
use Rattle.values.specs.Telegrams.{input_of}
use Rattle.conduct.proofs.SoundCourses.{heeded_sound, input_of_class}
use Rattle.link.specs.declared.Link.{Link}
use Rattle.panel.specs.declared.Seat.{Seat}
use Rattle.panel.specs.Panel.{Model, each_seat, on_blind}
use Rattle.panel.specs.Sound.{Sound}
use Rattle.panel.specs.Calls.{Cells}
use Rattle.panel.proofs.Checks.{lent_passed}
use Rattle.panel.proofs.Kept.{blinds_sound}
use Rattle.telegrams.specs.Telegrams.{is_outside, link_checks, served, delivered, after_telegram, telegram_rule}
use Rattle.telegrams.proofs.Ranges.{inside}

module _ (value : ℕ) where
  -- a link leaves every blind at its terminal
  pub served_stays : (link : Link) (tag : ℕ) (seat : Seat) → (served value link tag seat).terminal ≡ seat.terminal
  unfolding served
  served_stays link tag seat =
      cond_has (λ (s : Seat). s.terminal ≡ seat.terminal) (eqb tag link.tag) (on_blind (heeded (input_of link.kind value)) seat) seat (λ e. refl) (λ e. refl)

  pub served_sound : value ≤ 255 → (link : Link) (tag : ℕ) (seat : Seat) → ofBlind.Sound seat.blind → ofBlind.Sound (served value link tag seat).blind
  unfolding served
  served_sound byte link tag seat s =
      cond_has (λ (x : Seat). ofBlind.Sound x.blind) (eqb tag link.tag) (on_blind (heeded (input_of link.kind value)) seat) seat
      (λ e. heeded_sound (input_of link.kind value) seat.blind (input_of_class link.kind value byte) s) (λ e. s)

  pub delivered_sound : value ≤ 255 → (links : List Link) (m : Model) → Sound m → Sound (delivered value links m)
  unfolding delivered
  delivered_sound byte [] m s = s
  delivered_sound byte (link ∷ links) m s =
      delivered_sound byte links (each_seat (served value link) m)
      (blinds_sound (served value link) m s (served_stays link) (λ tag seat at. served_sound byte link tag seat (s.blinds tag seat at)))

pub telegram_keeps : (address value : ℕ) (m : Model) (cells : Cells) → Sound m → refusal ((telegram_rule address value).checks m cells) ≡ 0
    → Sound ((telegram_rule address value).leaves m)
unfolding telegram_rule after_telegram
telegram_keeps address value m cells s e =
    let known = lent_passed places cells m (is_outside address value) (link_checks address value m.table.links) e in
    delivered_sound value (inside address value known.1.within).byte (links_to address m.table.links) m s

-- a panel that stands for what a delivery leaves
pub handed_sound : (value : ℕ) (links : List Link) (m : Model) {n : Model} → value ≤ 255 → Sound m → n ≡ delivered value links m → Sound n
handed_sound value links m byte s e = subst Sound (sym e) (delivered_sound value byte links m s)

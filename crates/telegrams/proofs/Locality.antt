-- What a call does to the blind of a tag, and to its cell, hangs on that blind and its own links alone; and a link of its own
-- decides whether a telegram is accepted, whatever other links there are. Assumes nothing.
use Prim.Native.Nat.{ℕ, suc}
use native.Mathlib.Omega.{arith}
use mathlib.Core.Path.{◌≡◌, refl, sym, ap, ◌∙◌, subst}
use mathlib.Core.Bool.{Bool, true, false, cond}
use mathlib.Core.List.{List, [], ◌∷◌}
use mathlib.Core.Option.{Option, none, some, map}
use lib.ListN.{length, get_or}
use lib.Dec.{eqb, ltb}
use borrow.Author.Tests.{ne_eqb, eqb-true}
use Rattle.answers.specs.Answers as answers
use Rattle.answers.specs.Answers.{refusal}
use Rattle.answers.specs.Rules.{Result, carried}
use Rattle.answers.proofs.Refusals.{passed_by}
use Rattle.answers.proofs.Rules.{answer_is, leaves_has, done}
use Rattle.tags.specs.Tags.{places}
use Rattle.blind.specs.declared.Blind.{Blind}
use Rattle.outputs.specs.Reports.{no_report, report}
use Rattle.outputs.proofs.Reports.{report_same}
use Rattle.rules.specs.Rules.{heeded}
use Rattle.values.specs.Telegrams.{input_of}
use Rattle.link.specs.declared.Link.{Link}
use Rattle.laws.specs.Kept.{kept}
use Rattle.kinds.specs.Kinds.{class_of}
use Rattle.table.specs.Links.{links_to, no_link_to, links_of, address_class}
use Rattle.laws.proofs.Each.{Each, first, each_map, each_both}
use Rattle.laws.proofs.Kept.{each_kept, kept_length, kept_swap, kept_pass}
use Rattle.table.proofs.Sound.{sound_reads, sound_decided}
use Rattle.table.proofs.Spans.{class_shared}
use Rattle.panel.specs.declared.Seat.{Seat}
use Rattle.panel.specs.Panel.{Model, each_seat, on_blind}
use Rattle.panel.specs.Sound.{Sound}
use Rattle.panel.specs.Calls.{Cells, outside}
use Rattle.panel.proofs.Decides.{sound_tested}
use Rattle.panel.proofs.Checks.{is_sound_lem, lent_right}
use Rattle.panel.specs.Reports.{SeenAt}
use Rattle.panel.proofs.Cells.{cell_seen}
use Rattle.telegrams.specs.Telegrams.{is_outside, link_checks, served, delivered, after_telegram, telegram_rule}
use Rattle.telegrams.specs.Locality.{reached, heard_by}

-- ---- one tag in a delivery

-- the seat of a tag: only its own links speak to its blind, and its terminal stays
pub delivered_at : (value : ℕ) (links : List Link) (m : Model) (tag : ℕ)
    → (delivered value links m).seats tag ≡ map (on_blind (heard_by value (links_of tag links))) (m.seats tag)
unfolding delivered links_of kept heard_by each_seat served
delivered_at value [] m tag = go (m.seats tag)
  where
    go : (o : Option Seat) → o ≡ map (on_blind (λ b. b)) o
    go none = refl
    go (some seat) = refl
delivered_at value (link ∷ links) m tag =
    delivered_at value links (each_seat (served value link) m) tag ∙ go (eqb tag link.tag) (m.seats tag)
  where
    own : List Link
    own = kept (λ l. eqb tag l.tag) links

    go : (b : Bool) (o : Option Seat)
        → map (on_blind (heard_by value own)) (map (λ seat. cond b (on_blind (heeded (input_of link.kind value)) seat) seat) o)
        ≡ map (on_blind (heard_by value (cond b (link ∷ own) own))) o
    go true none = refl
    go true (some seat) = refl
    go false none = refl
    go false (some seat) = refl

pub delivered_table : (value : ℕ) (links : List Link) (m : Model) → (delivered value links m).table ≡ m.table
unfolding delivered each_seat
delivered_table value [] m = refl
delivered_table value (link ∷ links) m = delivered_table value links (each_seat (served value link) m)

-- what a telegram that is accepted leaves at a tag
pub after_telegram_at : (address value : ℕ) (m : Model) (tag : ℕ)
    → (after_telegram address value m).seats tag ≡ map (on_blind (heard_by value (reached tag address m))) (m.seats tag)
unfolding after_telegram links_of links_to
after_telegram_at address value m tag =
    delivered_at value (links_to address m.table.links) m tag
    ∙ ap (λ (ls : List Link). map (on_blind (heard_by value ls)) (m.seats tag))
    (kept_swap (λ l. eqb tag l.tag) (λ l. eqb l.address address) m.table.links)

-- ---- a link of one's own

module _ (tag address : ℕ) (m : Model) where
  by_tag : Link → Bool
  by_tag link = eqb tag link.tag

  by_address : Link → Bool
  by_address link = eqb link.address address

  -- each has the class of the address
  pub own_classes : Sound m → Each (λ l. class_of l.kind ≡ address_class address m.table.links) (reached tag address m)
  unfolding links_of links_to by_tag by_address
  own_classes sound =
      let ls = m.table.links in
      let fine = (sound_reads m.table ((sound_decided m.table).1 sound.links)).1 in
      each_map (λ l (class, at). class (eqb-true l.address address at))
      (each_both (each_kept by_address (links_of tag ls) (each_kept by_tag ls (class_shared address ls fine.agrees))) (kept_pass by_address (links_of tag ls)))

  pub own_class : Sound m → (link : Link) (rest : List Link) → reached tag address m ≡ link ∷ rest
      → class_of link.kind ≡ address_class address m.table.links
  own_class sound link rest own =
      first (subst (Each (λ l. class_of l.kind ≡ address_class address m.table.links)) own (own_classes sound))

  -- so the address has a link
  pub own_linked : (link : Link) (rest : List Link) → reached tag address m ≡ link ∷ rest → no_link_to address m.table.links ≡ false
  unfolding links_of links_to no_link_to by_tag by_address
  own_linked link rest own =
      let some-own : length (kept by_tag (kept by_address m.table.links)) ≡ suc (length rest) =
      ap length (kept_swap by_tag by_address m.table.links ∙ own) in
      ne_eqb (length (kept by_address m.table.links)) 0 (λ e. omega (arith, kept_length by_tag (kept by_address m.table.links)))

-- ---- the calls, seen from one blind

-- a telegram leaves the links alone, whatever its answer
pub telegram_links : (address value : ℕ) (m : Model) (cells : Cells) → (carried (telegram_rule address value) m cells).leaves.table ≡ m.table
unfolding telegram_rule after_telegram
telegram_links address value m cells =
    leaves_has (telegram_rule address value) m cells (λ (n : Model). n.table ≡ m.table) refl (λ e. delivered_table value (links_to address m.table.links) m)

module _ (address value : ℕ) (m : Model) (cells : Cells) (tag : ℕ) (seat : Seat) (sound : Sound m) (there : m.seats tag ≡ some seat) where
  -- accepted: the blind has heard its own links of this address, in their order, and its cell tells of it alone
  pub telegram_local : (carried (telegram_rule address value) m cells).answer ≡ 0
      → SeenAt (carried (telegram_rule address value) m cells) tag seat (heard_by value (reached tag address m) seat.blind)
  unfolding telegram_rule
  telegram_local e =
      let after : (after_telegram address value m).seats tag ≡ some (on_blind (heard_by value (reached tag address m)) seat) =
      after_telegram_at address value m tag ∙ ap (map (on_blind (heard_by value (reached tag address m)))) there in
      let leaves = done (telegram_rule address value) m cells e in
      record {
        seated = ap (λ (r : Result Model Cells). r.leaves.seats tag) leaves ∙ after;
        told = ap (λ (r : Result Model Cells). get_or r.cells.lent tag no_report) leaves
            ∙ cell_seen m (after_telegram address value m) tag seat (heard_by value (reached tag address m) seat.blind) (sound.tags tag seat there) there after;
      }

  -- accepted, and none of its links is of this address: the blind is as it was, and has nothing to report
  pub telegram_unreached : reached tag address m ≡ [] → (carried (telegram_rule address value) m cells).answer ≡ 0
      → ((carried (telegram_rule address value) m cells).leaves.seats tag ≡ some seat)
      × (get_or (carried (telegram_rule address value) m cells).cells.lent tag no_report ≡ no_report)
  unfolding heard_by
  telegram_unreached nothing e =
      let seen = telegram_local e in
      let same : heard_by value (reached tag address m) seat.blind ≡ seat.blind = ap (λ (ls : List Link). heard_by value ls seat.blind) nothing in
      (seen.seated ∙ ap (λ (b : Blind). some (record { terminal = seat.terminal; blind = b })) same, seen.told ∙ ap (report seat.blind) same ∙ report_same seat.blind)

  -- one of its links is of this address: that link's class, the value and the range decide the answer
  pub telegram_decided : (link : Link) (rest : List Link) → length cells.lent ≡ places → reached tag address m ≡ link ∷ rest
      → (carried (telegram_rule address value) m cells).answer ≡ refusal (outside (is_outside address value) ∷ (ltb (class_of link.kind) value, 6) ∷ [])
  unfolding telegram_rule link_checks answers.first
  telegram_decided link rest long own =
      answer_is (telegram_rule address value) m cells
      ∙ lent_right places cells m (is_outside address value) (link_checks address value m.table.links) long
      ∙ is_sound_lem m (is_outside address value) (link_checks address value m.table.links) (sound_tested m sound)
      ∙ ap (λ (n : ℕ). cond (is_outside address value) 1 n)
      (passed_by (no_link_to address m.table.links) 5 ((ltb (address_class address m.table.links) value, 6) ∷ []) (own_linked tag address m link rest own)
      ∙ ap (λ (class : ℕ). refusal ((ltb class value, 6) ∷ [])) (sym (own_class tag address m sound link rest own)))

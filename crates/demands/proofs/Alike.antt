-- What two panels have in common, seen from one tag, and that whatever spares the tag keeps it.
-- Assumes nothing.
use Prim.Native.Nat.{ℕ}
use mathlib.Core.Path.{◌≡◌, refl, sym, ap, ◌∙◌}
use mathlib.Core.Bool.{true}
use mathlib.Core.List.{List}
use mathlib.Core.Option.{some, map}
use Rattle.laws.proofs.Choices.{never_both}
use Rattle.answers.specs.Rules.{Result}
use Rattle.answers.proofs.Rules.{refused, leaves_has}
use Rattle.blind.specs.declared.Blind.{Blind}
use Rattle.link.specs.declared.Link.{Link}
use Rattle.table.specs.Links.{links_to, links_of}
use Rattle.panel.specs.declared.Seat.{Seat}
use Rattle.panel.specs.Panel.{Model, present_in, is_there}
use Rattle.panel.specs.Sound.{Fine}
use Rattle.panel.specs.Calls.{Cells}
use Rattle.telegrams.specs.Locality.{reached}
use Rattle.readings.specs.Strip.{strip_rule}
use Rattle.readings.specs.Inventory.{inventory_rule}
use Rattle.seats.specs.Untouched.{blind_at, Untouched}
use Rattle.installs.specs.Installs.{install_rule}
use Rattle.installs.proofs.Passed.{installable}
use Rattle.installs.proofs.Untouched.{install_untouched}
use Rattle.removals.proofs.Untouched.{remove_untouched}
use Rattle.writes.proofs.Untouched.{write_untouched}
use Rattle.wiring.proofs.Untouched.{add_untouched, remove_link_untouched, add_seats, remove_link_seats}
use Rattle.splices.specs.Splices.{OnlyTerminals}
use Rattle.splices.proofs.Untouched.{splice_in_only, splice_out_only}
use Rattle.demands.specs.Calls.{Call, telegram, time_step, strip, install, remove_blind, write_params, add_link, remove_link, splice_in, splice_out, inventory, rule_of, does}
use Rattle.demands.specs.Demand3.{Spares}
use Rattle.demands.proofs.Seats.{seat_of_lem}
use Rattle.demands.proofs.Soundness.{kept_fine}

-- What two panels have in common, seen from one tag: it has the same blind in both, and the same links.
pub record Alike (tag : ℕ) (blind : Blind) (a b : Model) : Type 0 where
  pub fine_a : Fine a
  pub fine_b : Fine b
  pub blind_a : blind_at tag a ≡ some blind
  pub blind_b : blind_at tag b ≡ some blind
  pub links : links_of tag a.table.links ≡ links_of tag b.table.links

-- a call that leaves the table leaves the tag's links
pub links_stay : (tag : ℕ) (m n : Model) → n.table ≡ m.table → links_of tag n.table.links ≡ links_of tag m.table.links
links_stay tag m n e = ap (λ t. links_of tag t.links) e

-- a call that is refused leaves the blind
pub refused_leaves : (tag : ℕ) (m : Model) (cells : Cells) (call : Call) → ((does call m cells).answer ≡ 0 → ⊥)
    → blind_at tag (does call m cells).leaves ≡ blind_at tag m
refused_leaves tag m cells call h = ap (λ (r : Result Model Cells). blind_at tag r.leaves) (refused (rule_of call) m cells h)

-- nobody is installed at a tag that has a blind
pub install_leaves : (tag : ℕ) (b : Blind) (m : Model) (cells : Cells) → blind_at tag m ≡ some b → (terminal : ℕ) (asked : List ℕ)
    → blind_at tag (does (install tag terminal asked) m cells).leaves ≡ blind_at tag m
unfolding present_in
install_leaves tag b m cells here terminal asked =
    leaves_has (install_rule tag terminal asked) m cells (λ (n : Model). blind_at tag n ≡ blind_at tag m) refl
    (λ passed. never_both (is_there (m.seats tag)) present (installable tag terminal asked m cells passed).new)
  where
    present : is_there (m.seats tag) ≡ true
    present = let (seat, there, is) = seat_of_lem (m.seats tag) b here in ap is_there there

-- the same links are reached
pub reached_same : (tag address : ℕ) (a b : Model) → links_of tag a.table.links ≡ links_of tag b.table.links → reached tag address a ≡ reached tag address b
reached_same tag address a b e = ap (links_to address) e

-- ---- what is inserted

-- the blind and the links of a tag are as they were
pub record Spared (tag : ℕ) (m n : Model) : Type 0 where
  pub blind : blind_at tag n ≡ blind_at tag m
  pub links : links_of tag n.table.links ≡ links_of tag m.table.links

of_untouched : (tag : ℕ) (m n : Model) → Untouched tag m n → Spared tag m n
of_untouched tag m n u = record { blind = ap (map (λ (seat : Seat). seat.blind)) u.seat; links = u.links }

of_terminals : (tag : ℕ) (m n : Model) → OnlyTerminals m n → Spared tag m n
of_terminals tag m n o = record { blind = o.blinds tag; links = links_stay tag m n o.table }

as_it_was : (tag : ℕ) (m : Model) → Spared tag m m
as_it_was tag m = record { blind = refl; links = refl }

pub spared : (tag : ℕ) (call : Call) (m : Model) (cells : Cells) → Spares tag call → Spared tag m (does call m cells).leaves
unfolding strip_rule inventory_rule
spared tag (telegram address value) m cells s = absurd s
spared tag (time_step dt) m cells s = absurd s
spared tag strip m cells s = leaves_has strip_rule m cells (Spared tag m) (as_it_was tag m) (λ e. as_it_was tag m)
spared tag (install other terminal asked) m cells s = of_untouched tag m _ (install_untouched tag m cells other terminal asked s)
spared tag (remove_blind other) m cells s = of_untouched tag m _ (remove_untouched tag m cells other s)
spared tag (write_params other asked) m cells s = of_untouched tag m _ (write_untouched tag m cells other asked s)
spared tag (add_link link) m cells s = of_untouched tag m _ (add_untouched tag m cells link s)
spared tag (remove_link link) m cells s = of_untouched tag m _ (remove_link_untouched tag m cells link s)
spared tag (splice_in t n) m cells s = of_terminals tag m _ (splice_in_only t n m cells)
spared tag (splice_out t n) m cells s = of_terminals tag m _ (splice_out_only t n m cells)
spared tag inventory m cells s = leaves_has inventory_rule m cells (Spared tag m) (as_it_was tag m) (λ e. as_it_was tag m)

-- an edit of links leaves every blind, whatever tag it names
pub add_blind : (tag : ℕ) (m : Model) (cells : Cells) (link : Link) → blind_at tag (does (add_link link) m cells).leaves ≡ blind_at tag m
add_blind tag m cells link = ap (map {B = Blind} (λ (x : Seat). x.blind)) (add_seats tag m cells link)

pub remove_link_blind : (tag : ℕ) (m : Model) (cells : Cells) (link : Link) → blind_at tag (does (remove_link link) m cells).leaves ≡ blind_at tag m
remove_link_blind tag m cells link = ap (map {B = Blind} (λ (x : Seat). x.blind)) (remove_link_seats tag m cells link)

pub insert_alike : {tag : ℕ} {blind : Blind} (a b : Model) (call : Call) (cells : Cells) → Spares tag call → Alike tag blind a b
    → Alike tag blind a (does call b cells).leaves
insert_alike {tag} a b call cells s k =
    let same : Spared tag b (does call b cells).leaves = spared tag call b cells s in
    record {
      fine_a = k.fine_a;
      fine_b = kept_fine call b cells k.fine_b;
      blind_a = k.blind_a;
      blind_b = same.blind ∙ k.blind_b;
      links = k.links ∙ sym same.links;
    }

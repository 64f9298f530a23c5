-- The ranges of an address and of a link: what the tests say, and the link of three numbers, which is theirs where they are in range
-- and else the one that is in no range. Assumes nothing.
use Prim.Native.Nat.{ℕ, ◌≤◌}
use mathlib.Core.Path.{◌≡◌, refl}
use mathlib.Core.Bool.{true, false, ◌&&◌, and-eq-true_iff}
use lib.Dec.{leb}
use borrow.Author.Tests.{leb-true, le-leb}
use Rattle.kinds.specs.Kinds.{last_kind}
use Rattle.link.specs.declared.Link.{Link}
use Rattle.link.specs.Link.{last_address, last_tag, is_address, in_range, link_of, nothing, link_made}

pub address_reads : (address : ℕ) → is_address address ≡ true → (1 ≤ address) × (address ≤ last_address)
address_reads address e =
    let both : (leb 1 address ≡ true) × (leb address last_address ≡ true) = (and-eq-true_iff (leb 1 address) (leb address last_address)).0 e in
    (leb-true 1 address both.0, leb-true address last_address both.1)

pub address_holds : (address : ℕ) → 1 ≤ address → address ≤ last_address → is_address address ≡ true
address_holds address low high = rw (le-leb 1 address low, le-leb address last_address high)

-- what the test of a link's range says
pub record InRange (l : Link) : Type 0 where
  pub address_low : 1 ≤ l.address
  pub address_high : l.address ≤ last_address
  pub tag_high : l.tag ≤ last_tag
  pub kind_high : l.kind ≤ last_kind

pub range_reads : (l : Link) → in_range l ≡ true → InRange l
unfolding in_range
range_reads l e =
    let abc : (is_address l.address && leb l.tag last_tag ≡ true) × (leb l.kind last_kind ≡ true) =
    (and-eq-true_iff (is_address l.address && leb l.tag last_tag) (leb l.kind last_kind)).0 e in
    let ab : (is_address l.address ≡ true) × (leb l.tag last_tag ≡ true) = (and-eq-true_iff (is_address l.address) (leb l.tag last_tag)).0 abc.0 in
    let a : (1 ≤ l.address) × (l.address ≤ last_address) = address_reads l.address ab.0 in
    record {
      address_low = a.0;
      address_high = a.1;
      tag_high = leb-true l.tag last_tag ab.1;
      kind_high = leb-true l.kind last_kind abc.1;
    }

pub range_holds : (l : Link) → InRange l → in_range l ≡ true
unfolding in_range
range_holds l r =
    rw (address_holds l.address r.address_low r.address_high, le-leb l.tag last_tag r.tag_high, le-leb l.kind last_kind r.kind_high)

-- no table holds the link that stands for nothing
pub nothing_out : in_range nothing ≡ false
unfolding in_range
nothing_out = refl

module _ (address tag kind : ℕ) where
  pub made_fits : in_range (link_of address tag kind) ≡ true → link_made address tag kind ≡ link_of address tag kind
  unfolding link_made
  made_fits e = rw e

  pub made_nothing : in_range (link_of address tag kind) ≡ false → link_made address tag kind ≡ nothing
  unfolding link_made
  made_nothing e = rw e

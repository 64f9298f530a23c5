-- Which link may stand right after another: what the test says, and when it holds. Assumes nothing.
use Prim.Native.Nat.{◌<◌}
use mathlib.Core.Path.{◌≡◌, refl, sym}
use mathlib.Core.Bool.{Bool, true, false, not, ◌&&◌, ◌||◌, and-eq-true_iff}
use lib.Dec.{eqb, ltb}
use borrow.Author.Tests.{ltb-true, lt-ltb, eqb-true, eq-eqb}
use Rattle.kinds.specs.Kinds.{class_of}
use Rattle.link.specs.declared.Link.{Link}
use Rattle.link.specs.Link.{in_range, key_of, may_follow}
use Rattle.link.proofs.Ranges.{InRange, range_reads, range_holds}

-- two links of one address have one class
abbrev pub Agree : Link → Link → Type 0
Agree a b = a.address ≡ b.address → class_of a.kind ≡ class_of b.kind

-- what a link that may follow another tells
pub follow_reads : (last next : Link) → may_follow last next ≡ true → InRange next × (key_of last < key_of next) × Agree last next
unfolding may_follow
follow_reads last next e =
    let abc : (in_range next && ltb (key_of last) (key_of next) ≡ true) × (not (eqb next.address last.address) || eqb (class_of next.kind) (class_of last.kind) ≡ true) =
    (and-eq-true_iff (in_range next && ltb (key_of last) (key_of next)) _).0 e in
    let ab : (in_range next ≡ true) × (ltb (key_of last) (key_of next) ≡ true) = (and-eq-true_iff (in_range next) _).0 abc.0 in (
      range_reads next ab.0,
      ltb-true (key_of last) (key_of next) ab.1,
      λ same. sym (eqb-true (class_of next.kind) (class_of last.kind) (rw (eq-eqb next.address last.address (sym same)) at abc.1)),
    )

pub follow_holds : (last next : Link) → InRange next → key_of last < key_of next → Agree last next → may_follow last next ≡ true
unfolding may_follow
follow_holds last next r h agree = rw (range_holds next r, lt-ltb (key_of last) (key_of next) h) (go (eqb next.address last.address) refl)
  where
    go : (b : Bool) → eqb next.address last.address ≡ b → not b || eqb (class_of next.kind) (class_of last.kind) ≡ true
    go true e = eq-eqb (class_of next.kind) (class_of last.kind) (sym (agree (sym (eqb-true next.address last.address e))))
    go false e = refl

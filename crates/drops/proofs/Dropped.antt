-- A walk that keeps what passes a test: an element that passes is stored at the next free place, and takes it. What is stored and what
-- is still to pass are all that pass, and so with those that have moved; from the free place on nothing is stored. Assumes nothing.
use Prim.Native.Nat.{ℕ, suc, ◌+◌, ◌≤◌, ◌<◌}
use native.Mathlib.Numerals.{add-one}
use native.Mathlib.Omega.{arith}
use mathlib.Core.Path.{◌≡◌, refl, sym, ap, ap₂, ◌∙◌}
use mathlib.Core.Bool.{Bool, true, false, cond}
use mathlib.Core.List.{List, [], ◌∷◌, ◌++◌, map, append-nil}
use lib.ListN.{length, get_or, take, drop, set, length-set, replicate, length-replicate, drop_of_length-le, length-take}
use lib.Seq.{get_or-take, take-set-le, take-suc-set, append_snoc, drop-cons}
use lib.Dec.{ltb, leb-suc-suc}
use borrow.Author.Tests.{lt-ltb}
use Rattle.std.specs.Int.{from_bool}
use Rattle.link.specs.declared.Link.{Link}
use Rattle.table.specs.declared.Table.{Table}
use Rattle.laws.specs.Kept.{kept}
use Rattle.laws.proofs.Maps.{map_both}
use Rattle.link.specs.Link.{key_of, nothing, of_word}
use Rattle.table.specs.Links.{held_of}
use Rattle.table.specs.Sound.{is_sound}
use Rattle.links.specs.Edits.{stays, dropped, tag_moved, table_drop, edited, edited_of}
use Rattle.answers.specs.Numbers.{done_on}
use Rattle.answers.proofs.Refusals.{none_left}
use Rattle.answers.proofs.Rules.{accept}
use Rattle.links.proofs.Calls.{own_checks}
use Rattle.links.proofs.Places.{shifted, moved_kept}
use Rattle.laws.proofs.Unused.{Unused, unused_all, unused_after, unused_from}
use Rattle.table.proofs.Sound.{sound_reads}
use Rattle.table.proofs.Stores.{many, holds_list, held_at}

module _ {A : Type 0} (p : A → Bool) (ls : List A) (d : A) (i : ℕ) (here : i < length ls) where
  next_kept : kept p (drop i ls) ≡ cond (p (get_or ls i d)) (get_or ls i d ∷ kept p (drop (i + 1) ls)) (kept p (drop (i + 1) ls))
  unfolding kept
  next_kept = ap (kept p) (drop-cons ls i d here) ∙ ap (λ (n : ℕ). cond (p (get_or ls i d)) (get_or ls i d ∷ kept p (drop n ls)) (kept p (drop n ls))) (sym (add-one i))

  next_shifted : (gone : Bool) → shifted p gone (drop i ls) ≡ cond (p (get_or ls i d)) (cond gone 1 0 + shifted p gone (drop (i + 1) ls)) (shifted p true (drop (i + 1) ls))
  unfolding shifted
  next_shifted gone =
      ap (shifted p gone) (drop-cons ls i d here)
      ∙ ap (λ (n : ℕ). cond (p (get_or ls i d)) (cond gone 1 0 + shifted p gone (drop n ls)) (shifted p true (drop n ls))) (sym (add-one i))

  -- the elements stored, each as some b, and those still to pass are all that pass
  pub keep_turn : {B : Type 0} (f : B → A) (new : List B) (all : List A) (free s : ℕ) (b : B) → free < length new → s ≡ cond (p (get_or ls i d)) 1 0
      → (p (get_or ls i d) ≡ true → f b ≡ get_or ls i d)
      → map f (take free new) ++ kept p (drop i ls) ≡ all → map f (take (free + s) (set new free b)) ++ kept p (drop (i + 1) ls) ≡ all
  keep_turn {B} f new all free s b room e stored inv = go (p (get_or ls i d)) refl
    where
      a : A
      a = get_or ls i d

      rest : List A
      rest = kept p (drop (i + 1) ls)

      go : (t : Bool) → p a ≡ t → map f (take (free + s) (set new free b)) ++ rest ≡ all
      go true g =
          let one : free + s ≡ suc free = omega (arith, e ∙ ap (λ (t : Bool). cond t 1 0) g) in
          ap (λ (m : ℕ). map f (take m (set new free b)) ++ rest) one
          ∙ ap (λ (l : List B). map f l ++ rest) (take-suc-set new free b room)
          ∙ ap (λ (l : List A). l ++ rest) (map_both f (take free new) (b ∷ []) ∙ ap (λ (x : A). map f (take free new) ++ (x ∷ [])) (stored g))
          ∙ append_snoc (map f (take free new)) a rest
          ∙ ap (λ (l : List A). map f (take free new) ++ l) (sym (next_kept ∙ ap (λ (t : Bool). cond t (a ∷ rest) rest) g))
          ∙ inv
      go false g =
          let none : free + s ≡ free = omega (arith, e ∙ ap (λ (t : Bool). cond t 1 0) g) in
          ap (λ (m : ℕ). map f (take m (set new free b)) ++ rest) none
          ∙ ap₂ (λ (l : List B) (r : List A). map f l ++ r) (take-set-le free new free b (omega arith)) (sym (next_kept ∙ ap (λ (t : Bool). cond t (a ∷ rest) rest) g))
          ∙ inv

  -- the elements that moved, and those that will, are all that have moved
  pub move_turn : (moved all free s m : ℕ) → free ≤ i → s ≡ cond (p (get_or ls i d)) 1 0 → m ≡ cond (p (get_or ls i d)) (cond (ltb free i) 1 0) 0
      → moved + shifted p (ltb free i) (drop i ls) ≡ all → moved + m + shifted p (ltb (free + s) (i + 1)) (drop (i + 1) ls) ≡ all
  move_turn moved all free s m h e f inv = go (p (get_or ls i d)) refl
    where
      left : ℕ
      left = shifted p true (drop (i + 1) ls)

      go : (b : Bool) → p (get_or ls i d) ≡ b → moved + m + shifted p (ltb (free + s) (i + 1)) (drop (i + 1) ls) ≡ all
      go true g =
          let one : s ≡ 1 = e ∙ ap (λ (b : Bool). cond b 1 0) g in
          let same : ltb (free + s) (i + 1) ≡ ltb free i =
          ap (λ (n : ℕ). ltb (free + n) (i + 1)) one ∙ ap₂ ltb (add-one free) (add-one i) ∙ leb-suc-suc (suc free) i in
          let step : shifted p (ltb free i) (drop i ls) ≡ cond (ltb free i) 1 0 + shifted p (ltb free i) (drop (i + 1) ls) =
          next_shifted (ltb free i) ∙ ap (λ (b : Bool). cond b (cond (ltb free i) 1 0 + shifted p (ltb free i) (drop (i + 1) ls)) left) g in
          let by : m ≡ cond (ltb free i) 1 0 = f ∙ ap (λ (b : Bool). cond b (cond (ltb free i) 1 0) 0) g in
          ap (λ (b : Bool). moved + m + shifted p b (drop (i + 1) ls)) same ∙ omega (arith, step, by, inv)
      go false g =
          let none : s ≡ 0 = e ∙ ap (λ (b : Bool). cond b 1 0) g in
          let gone : ltb (free + s) (i + 1) ≡ true = lt-ltb (free + s) (i + 1) (omega arith) in
          let step : shifted p (ltb free i) (drop i ls) ≡ left =
          next_shifted (ltb free i) ∙ ap (λ (b : Bool). cond b (cond (ltb free i) 1 0 + shifted p (ltb free i) (drop (i + 1) ls)) left) g in
          let by : m ≡ 0 = f ∙ ap (λ (b : Bool). cond b (cond (ltb free i) 1 0) 0) g in
          ap (λ (b : Bool). moved + m + shifted p b (drop (i + 1) ls)) gone ∙ omega (arith, step, by, inv)

-- a test as a number
one_if : (b : Bool) → from_bool b ≡ cond b 1 0
one_if true = refl
one_if false = refl

-- a link takes at most one place, and moves at most if it takes one
pub one_place : (b : Bool) {s : ℕ} → s ≡ cond b 1 0 → s ≤ 1
one_place true e = omega arith
one_place false e = omega arith

pub one_move : (b gone : Bool) {m : ℕ} → m ≡ cond b (cond gone 1 0) 0 → m ≤ cond b 1 0
one_move true true f = omega arith
one_move true false f = omega arith
one_move false gone f = omega arith

-- from the free place on nothing is stored: what passes takes the place, and what does not leaves it unused
unused_turn : (keep : Bool) (new : List ℕ) (free word : ℕ) {s w : ℕ} → free < length new → s ≡ cond keep 1 0 → w ≡ cond keep word 0
    → Unused 0 free new → Unused 0 (free + s) (set new free w)
unused_turn true new free word {s} {w} room e f unused = unused_after 0 (free + s) new free w (omega arith) (λ j h. unused j (omega arith))
unused_turn false new free word {s} {w} room e f unused =
    rw f (λ j h. unused_from 0 free new room (λ k i. unused k (omega arith)) j (omega arith))

-- where the walk through a table stands at its place i
pub record Swept (tag : ℕ) (t : Table) (new : List ℕ) (free moved i : ℕ) : Type 0 where
  pub passed : i ≤ t.count
  pub packed : free ≤ i
  pub fewer : moved ≤ free
  pub room : length new ≡ 512
  pub links : map of_word (take free new) ++ kept (stays tag) (drop i (held_of t).links) ≡ dropped tag (held_of t).links
  pub moves : moved + shifted (stays tag) (ltb free i) (drop i (held_of t).links) ≡ shifted (stays tag) false (held_of t).links
  pub unused : Unused 0 free new

module _ (tag : ℕ) (t : Table) where
  pub swept_none : Swept tag t (replicate 512 0) 0 0 0
  unfolding dropped
  swept_none =
      record {
        passed = omega arith;
        packed = omega arith;
        fewer = omega arith;
        room = length-replicate {A = ℕ} 512 0;
        links = refl;
        moves = omega arith;
        unused = unused_all 0 512;
      }

  module _ (whole : length t.words ≡ 512) (few : t.count ≤ 512) {new : List ℕ} {free moved i : ℕ} (at : Swept tag t new free moved i) where
    pub swept_turn : {word : ℕ} → i < length (take t.count t.words) → word ≡ get_or (take t.count t.words) i 0 → {keep : Bool} → keep ≡ stays tag (of_word word)
        → {w s m : ℕ} → w ≡ cond keep word 0 → s ≡ from_bool keep → m ≡ cond keep (from_bool (ltb free i)) 0
        → Swept tag t (set new free w) (free + s) (moved + m) (i + 1)
    swept_turn {word} passing is {keep} found' {w} {s} {m} stored' e₁ f₁ =
        let h : i < t.count = omega (arith, length-take t.count t.words) in
        let read : word ≡ get_or t.words i 0 = is ∙ get_or-take t.count t.words i 0 h in
        let found : keep ≡ stays tag (of_word (get_or t.words i 0)) = found' ∙ ap (λ (n : ℕ). stays tag (of_word n)) read in
        let stored : w ≡ cond keep (get_or t.words i 0) 0 = stored' ∙ ap (λ (n : ℕ). cond keep n 0) read in
        let e : s ≡ cond keep 1 0 = e₁ ∙ one_if keep in
        let f : m ≡ cond keep (cond (ltb free i) 1 0) 0 = f₁ ∙ ap (λ (n : ℕ). cond keep n 0) (one_if (ltb free i)) in
        let l : Link = get_or (held_of t).links i nothing in
        let here : i < length (held_of t).links = omega (arith, many t whole few) in
        let free-place : free < length new = omega (arith, at.packed, at.room) in
        let same : keep ≡ stays tag l = found ∙ ap (stays tag) (sym (held_at t i h)) in
        let e' : s ≡ cond (stays tag l) 1 0 = e ∙ ap (λ (b : Bool). cond b 1 0) same in
        let f' : m ≡ cond (stays tag l) (cond (ltb free i) 1 0) 0 = f ∙ ap (λ (b : Bool). cond b (cond (ltb free i) 1 0) 0) same in
        let its-word : stays tag l ≡ true → of_word w ≡ l =
        λ g. ap of_word (stored ∙ ap (λ (b : Bool). cond b (get_or t.words i 0) 0) (same ∙ g)) ∙ sym (held_at t i h) in
        record {
          passed = omega arith;
          packed = omega (arith, at.packed, one_place keep e);
          fewer = omega (arith, at.fewer, e, one_move keep (ltb free i) f);
          room = length-set new free w ∙ at.room;
          links = keep_turn (stays tag) (held_of t).links nothing i here of_word new (dropped tag (held_of t).links) free s w free-place e' its-word at.links;
          moves = move_turn (stays tag) (held_of t).links nothing i here moved (shifted (stays tag) false (held_of t).links) free s m at.packed e' f' at.moves;
          unused = unused_turn keep new free (get_or t.words i 0) free-place e stored at.unused;
        }

    -- at the end: the links that stay, and how many have moved
    pub swept_all : is_sound (held_of t) ≡ true → t.count ≤ i
        → edited_of (done_on (record { count = free; words = new }) moved) ≡ edited (table_drop tag) (held_of t)
    unfolding kept shifted dropped table_drop
    swept_all sound end =
        let over : drop i (held_of t).links ≡ [] = drop_of_length-le (held_of t).links {i = i} (omega (arith, many t whole few)) in
        let stored : List Link = map of_word (take free new) in
        let left : stored ≡ dropped tag (held_of t).links =
        sym (append-nil stored) ∙ ap (λ (l : List Link). stored ++ kept (stays tag) l) (sym over) ∙ at.links in
        let none : shifted (stays tag) (ltb free i) (drop i (held_of t).links) ≡ 0 = ap (shifted (stays tag) (ltb free i)) over in
        let by-places : moved ≡ tag_moved tag (held_of t) =
        omega (arith, at.moves, none) ∙ sym (moved_kept key_of (stays tag) (held_of t).links (sound_reads (held_of t) sound).1.ascends) in
        let next : Table = record { count = free; words = new } in
        accept (table_drop tag) (held_of t) tt (own_checks (held_of t) [] sound ∙ none_left) by-places refl
        (holds_list next (dropped tag (held_of t).links) left (sym (many next at.room (omega (arith, at.packed, at.passed))) ∙ ap length left) at.unused) refl

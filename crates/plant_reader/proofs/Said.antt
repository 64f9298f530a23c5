-- What a line says, from what is kept of it: all its numbers, or only that there are more than any line has.
-- Assumes nothing.
use Prim.Native.Nat.{ℕ, zero, suc, ◌+◌, ◌<◌, ◌≤◌}
use native.Mathlib.Omega.{arith}
use mathlib.Core.Path.{◌≡◌, refl, sym, ap, ap₂, ◌∙◌}
use mathlib.Core.Bool.{Bool, true, false, cond, ◌&&◌}
use mathlib.Core.List.{List}
use mathlib.Core.Option.{Option, none}
use lib.ListN.{length, take, drop}
use lib.Dec.{eqb}
use borrow.Author.Tests.{ne_eqb, eqb-true, eqb-false}
use Rattle.std.specs.Prelude.{Some, None}
use Rattle.rows.specs.Lines.{until}
use Rattle.decimals.specs.Decimals.{plain_of}
use Rattle.params.specs.Numbers.{set_size}
use Rattle.arguments.specs.declared.Arguments.{Arguments}
use Rattle.arguments.specs.Arguments.{most, nothing, heard_by}
use Rattle.texts.specs.Text.{text, same}
use Rattle.fields.specs.Parts.{parts_after}
use Rattle.fields.specs.Lines.{Line, line, tab, line_of}
use Rattle.fields.specs.Heard.{all_kept}
use Rattle.fields.proofs.Lines.{LineRead, line_read, numbers_from}
use Rattle.fields.proofs.Heard.{kept_all, kept_none}
use Rattle.plant.specs.Read.{Plan, blind_size, begun, with_blind, with_link, opened, further, if_there}
use Rattle.plant_reader.specs.Reader.{size_of, numbers_in}
use Rattle.plant_reader.proofs.Numbers.{numbers_kept}

-- ---- versions

one_size : (version : ℕ) → (blind_size version ≡ 0 → ⊥) → blind_size version ≡ 2 + set_size
unfolding blind_size
one_size zero other = absurd (other refl)
one_size (suc zero) other = refl
one_size (suc (suc version)) other = absurd (other refl)

-- a size that is there is that of the version
pub size_there : (version : ℕ) {size : ℕ} → Some size ≡ size_of version → (size ≡ blind_size version) × (size ≡ 2 + set_size)
size_there version {size} e = go (eqb (blind_size version) 0) refl e
  where
    go : (t : Bool) → eqb (blind_size version) 0 ≡ t → Some size ≡ cond t None (Some (blind_size version))
        → (size ≡ blind_size version) × (size ≡ 2 + set_size)
    go true f g = absurd (cc)
    go false f g =
        let same : size ≡ blind_size version = cc in
        (same, same ∙ one_size version (λ zero. eqb-false (blind_size version) 0 f zero))

pub size_missing : (version : ℕ) → None ≡ size_of version → blind_size version ≡ 0
size_missing version e = go (eqb (blind_size version) 0) refl e
  where
    go : (t : Bool) → eqb (blind_size version) 0 ≡ t → None ≡ cond t None (Some (blind_size version)) → blind_size version ≡ 0
    go true f g = eqb-true (blind_size version) 0 f
    go false f g = absurd (cc)

size_low : (version : ℕ) → blind_size version ≤ most
unfolding blind_size
size_low zero = omega arith
size_low (suc zero) = omega arith
size_low (suc (suc version)) = omega arith

-- ---- a line with more numbers than any has is not taken

unlike : (n size : ℕ) (u : Bool) (x : Option Plan) → size < n → cond (eqb n size && u) x none ≡ none
unlike n size u x h = ap (λ (t : Bool). cond (t && u) x none) (ne_eqb n size (λ e. absurd (omega (arith, e, h))))

either : (t : Bool) → ◌≡◌ {A = Option Plan} (cond t none none) none
either true = refl
either false = refl

module _ (p : Plan) (ns : List ℕ) (long : most < length ns) where
  begun_long : begun p ns ≡ none
  unfolding begun
  begun_long = unlike (length ns) 1 _ _ (omega (arith, long))

  blind_long : with_blind p ns ≡ none
  unfolding with_blind
  blind_long = unlike (length ns) (blind_size p.version) _ _ (omega (arith, long, size_low p.version))

  link_long : with_link p ns ≡ none
  unfolding with_link
  link_long = unlike (length ns) 3 _ _ (omega (arith, long))

  module _ (word : List ℕ) where
    pub opened_long : opened p (line word ns) ≡ none
    unfolding opened
    opened_long = ap (λ (o : Option Plan). cond (same word (text "plant")) o none) begun_long ∙ either (same word (text "plant"))

    pub further_long : further p (line word ns) ≡ none
    unfolding further
    further_long =
        ap₂ (λ (o q : Option Plan). cond (same word (text "blind")) o (cond (same word (text "link")) q none)) blind_long link_long
        ∙ ap (cond (same word (text "blind")) none) (either (same word (text "link")))
        ∙ either (same word (text "blind"))

-- ---- a line as it is read

-- What is heard of a line is all its fields, if it can be a line at all. A line is taken in some way, and with more numbers than
-- any has it is not.
module _ (takes : Line → Option Plan) (long_not : (word ns : List ℕ) → most < length ns → takes (line word ns) ≡ none)
    (bytes : List ℕ) (end : ℕ) (ends : end ≡ until tab bytes) where
  abbrev all : Arguments
  all = heard_by plain_of nothing (parts_after tab (drop end bytes))

  abbrev word : List ℕ
  word = take end bytes

  read : LineRead bytes end all
  read = line_read bytes end all ends refl

  said : all.numeric ≡ true → if_there (line_of bytes) none takes ≡ takes (line word (numbers_from end bytes))
  said numeric = ap (λ (o : Option Line). if_there o none takes) (read.said numeric)

  pub form_refused : None ≡ all_kept all → none ≡ if_there (line_of bytes) none takes
  form_refused e =
      kept_none all e
      (λ other. ap (λ (o : Option Line). if_there o none takes) (sym (read.refused other)))
      (λ numeric many. sym (said numeric ∙ long_not word (numbers_from end bytes) (omega (arith, many, read.count))))

  pub line_taken : (a : Arguments) → Some a ≡ all_kept all → takes (line word (numbers_in a)) ≡ if_there (line_of bytes) none takes
  line_taken a e =
      let kept = kept_all all e in
      let whole : LineRead bytes end a = line_read bytes end a ends kept.0 in
      let same : a.count ≡ all.count = ap (λ (b : Arguments). b.count) kept.0 in
      let numeric : a.numeric ≡ true = ap (λ (b : Arguments). b.numeric) kept.0 ∙ kept.1 in
      let few : a.count ≡ length (numbers_from end bytes) = omega (arith, kept.2, same, whole.count) in
      ap (λ (ns : List ℕ). takes (line word ns)) (numbers_kept a (numbers_from end bytes) few (whole.values numeric (omega (arith, few, kept.2, same))))
      ∙ sym (said kept.1)

-- ---- a line after the first

module _ (p : Plan) (bytes : List ℕ) (end : ℕ) (ends : end ≡ until tab bytes) where
  long_not : (word ns : List ℕ) → most < length ns → further p (line word ns) ≡ none
  long_not word ns long = further_long p ns long word

  pub no_numbers : None ≡ all_kept (heard_by plain_of nothing (parts_after tab (drop end bytes)))
      → none ≡ if_there (line_of bytes) none (further p)
  no_numbers e = form_refused (further p) long_not bytes end ends e

  pub by_word : (a : Arguments) → Some a ≡ all_kept (heard_by plain_of nothing (parts_after tab (drop end bytes)))
      → further p (line (take end bytes) (numbers_in a)) ≡ if_there (line_of bytes) none (further p)
  by_word a e = line_taken (further p) long_not bytes end ends a e

-- What is known of a file after each of its lines, and what each further line makes of it: its line feed is missing, it is bad,
-- it is good, or the file ends there. Assumes nothing.
use Prim.Native.Nat.{ℕ, suc, ◌+◌, ◌≤◌, ◌<◌}
use native.Mathlib.Numerals.{add-one}
use native.Mathlib.Omega.{arith}
use mathlib.Core.Path.{◌≡◌, refl, sym, ap, ◌∙◌}
use mathlib.Core.List.{List}
use mathlib.Core.Option.{Option, none, some}
use lib.ListN.{length, take, drop}
use Rattle.laws.proofs.Choices.{below_or}
use Rattle.rows.specs.Lines.{until}
use Rattle.fields.specs.Parts.{parts}
use Rattle.fields.specs.Lines.{line_feed, line_of}
use Rattle.plant.specs.Read.{Plan, start, further, if_there, bytes_taken, good_file, bad_in, walked, file_read}
use Rattle.plant_reader.specs.Reader.{begun_with}
use Rattle.plant_reader.proofs.Begun.{same_version, begun_taken, first_version}
use Rattle.plant_reader.proofs.Walked.{part, no_feed, line_bad, line_good, end_bad, end_good}

-- what is known after each line
pub record Reading (file : List ℕ) (p : Plan) (lines at : ℕ) : Type 0 where
  pub few : lines ≤ at
  pub within : at ≤ length file
  pub begun : 0 < p.version
  pub rest : walked (suc lines) p (parts line_feed (drop at file)) ≡ file_read file

-- ---- the first line

module _ (file : List ℕ) (end : ℕ) (ends : end ≡ 0 + until line_feed (drop 0 file)) where
  whole_file : walked 1 start (parts line_feed (drop 0 file)) ≡ file_read file
  unfolding file_read
  whole_file = refl

  pub first_unfed : length file ≤ end → bad_in 1 ≡ file_read file
  first_unfed past =
      below_or 0 (length file)
      (λ here. no_feed file 0 start 1 whole_file end here ends past)
      (λ over. end_bad file 0 start 1 whole_file over refl)

  module _ (ended : end < length file) where
    -- what the bytes before its line feed say
    whole : take end file ≡ part 0 end file
    whole = ap (λ (k : ℕ). take k file) (omega arith)

    pub first_bad : none ≡ bytes_taken start (take end file) → bad_in 1 ≡ file_read file
    first_bad none_there =
        line_bad file 0 start 1 whole_file end (omega (arith, ended)) ends ended (none_there ∙ ap (bytes_taken start) whole)

    pub first_good : (version : ℕ) → some (begun_with version) ≡ bytes_taken start (take end file)
        → (q : Plan) → q ≡ begun_with version → Reading file q 1 (end + 1)
    first_good version told q is =
        record {
          few = omega arith;
          within = omega (arith, ended);
          begun = omega (arith, first_version (begun_with version) (take end file) told, ap (λ (p : Plan). p.version) is);
          rest =
              ap (λ (p : Plan). walked 2 p (parts line_feed (drop (end + 1) file))) is
              ∙ line_good file 0 start 1 whole_file end (omega (arith, ended)) ends ended (begun_with version)
              (told ∙ ap (bytes_taken start) whole);
        }

-- ---- a further line

module _ (file : List ℕ) (p : Plan) (lines at : ℕ) (so_far : Reading file p lines at) where
  pub file_end : length file ≤ at → good_file p.model ≡ file_read file
  file_end over = end_good file at p (suc lines) so_far.rest over (λ zero. absurd (omega (arith, zero, so_far.begun)))

  module _ (here : at < length file) (end : ℕ) (ends : end ≡ at + until line_feed (drop at file)) where
    pub line_unfed : length file ≤ end → bad_in (lines + 1) ≡ file_read file
    line_unfed past = ap bad_in (add-one lines) ∙ no_feed file at p (suc lines) so_far.rest end here ends past

    module _ (ended : end < length file) where
      abbrev taken : Option Plan
      taken = if_there (line_of (part at end file)) none (further p)

      pub line_refused : none ≡ taken → bad_in (lines + 1) ≡ file_read file
      line_refused bad =
          ap bad_in (add-one lines) ∙ line_bad file at p (suc lines) so_far.rest end here ends ended (bad ∙ begun_taken p _ so_far.begun)

      pub line_read : (q : Plan) → some q ≡ taken → Reading file q (lines + 1) (end + 1)
      line_read q good =
          record {
            few = omega (arith, so_far.few, ends);
            within = omega (arith, ended);
            begun = omega (arith, so_far.begun, same_version p _ _ (sym good));
            rest =
                ap (λ (n : ℕ). walked n q (parts line_feed (drop (end + 1) file))) (ap suc (add-one lines))
                ∙ line_good file at p (suc lines) so_far.rest end here ends ended q (good ∙ begun_taken p _ so_far.begun);
          }

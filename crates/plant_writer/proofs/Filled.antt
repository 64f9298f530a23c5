-- The file in the lent buffer: it fits, so it stands there from the front on, and the rest is as it was.
-- Assumes nothing.
use Prim.Native.Nat.{ℕ, ◌+◌, ◌^◌, ◌≤◌, ◌<◌}
use native.Mathlib.Omega.{arith}
use mathlib.Core.Path.{◌≡◌, refl, ap, ◌∙◌}
use mathlib.Core.Bool.{true, false, not}
use mathlib.Core.List.{List, [], ◌++◌}
use lib.ListN.{length, drop}
use borrow.Author.Tests.{lt-ltb, le-ltb}
use Rattle.std.specs.Prelude.{Ok, Err}
use Rattle.answers.specs.declared.Refusal.{Refusal}
use Rattle.answers.specs.Rules.{carried}
use Rattle.answers.proofs.Refusals.{refused_by_lem, passed_by, none_left}
use Rattle.answers.proofs.Rules.{refuse, accept}
use Rattle.table.proofs.Stores.{places}
use Rattle.panel.specs.declared.Panel.{Panel}
use Rattle.panel.proofs.Decides.{sound_panel}
use Rattle.panel.specs.Panel.{Model, model_of}
use Rattle.panel.specs.Sound.{is_sound}
use Rattle.panel.specs.Calls.{row}
use Rattle.texts.specs.Sheet.{Sheet, sheet, puts}
use Rattle.texts.proofs.Sheets.{fits}
use Rattle.fields.specs.Room.{room}
use Rattle.plant.specs.Written.{plant_text, file_rule}
use Rattle.plant.proofs.Length.{plant_fits}
use Rattle.plant_writer.specs.Writer.{written_of}

module _ (file old : List ℕ) {new : List ℕ} {at : ℕ} (room : length file ≤ length old) (put : sheet new at ≡ puts file (sheet old 0)) where
  pub whole_length : at ≡ length file
  whole_length = let end : at ≡ 0 + length file = ap (λ (s : Sheet). s.at) (put ∙ fits file (sheet old 0) (omega (arith, room))) in omega (arith, end)

  pub rest_stays : new ≡ file ++ drop (length file) old
  rest_stays =
      let all : new ≡ file ++ drop (0 + length file) old = ap (λ (s : Sheet). s.bytes) (put ∙ fits file (sheet old 0) (omega (arith, room))) in
      let none : 0 + length file ≡ length file = omega arith in
      all ∙ ap (λ (k : ℕ). file ++ drop k old) none

-- ---- what is answered

module _ (m : Model) (out : List ℕ) where
  pub short_refused : length out < room → written_of (Err Refusal.ShortBuffer) m (row out) ≡ carried file_rule m (row out)
  unfolding file_rule
  short_refused short = refuse _ _ _ (refused_by_lem _ 13 _ (lt-ltb _ _ short))

  pub unsound_refused : room ≤ length out → is_sound m ≡ false → written_of (Err Refusal.NotSound) m (row out) ≡ carried file_rule m (row out)
  unfolding file_rule
  unsound_refused lent unsound =
      refuse _ _ _ (passed_by _ 13 _ (le-ltb _ _ lent) ∙ refused_by_lem _ 12 [] (ap not unsound))

-- the file of a sound panel, which fits
pub file_filled : (p : Panel) (out : List ℕ) {new : List ℕ} {at : ℕ} → p.present.word < 2 ^ 64 → is_sound (model_of p) ≡ true → room ≤ length out
    → sheet new at ≡ puts (plant_text (model_of p)) (sheet out 0)
    → written_of (Ok at) (model_of p) (row new) ≡ carried file_rule (model_of p) (row out)
unfolding file_rule
file_filled p out word tested lent put =
    let file = plant_text (model_of p) in
    let short : length file ≤ room = plant_fits (model_of p) (sound_panel p word tested) (omega (arith, places p.table)) in
    let room_for : length file ≤ length out = omega (arith, short, lent) in
    accept _ _ _
    (passed_by _ 13 _ (le-ltb _ _ lent) ∙ passed_by _ 12 [] (ap not tested) ∙ none_left)
    (whole_length file out room_for put)
    refl refl
    (ap row (rest_stays file out room_for put))

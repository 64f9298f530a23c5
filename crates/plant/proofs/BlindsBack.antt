-- The blind lines of a sound panel with fresh blinds are taken one after the other, from the empty panel on, and leave its blinds.
-- All by recursion on the tags. Assumes nothing.
use Prim.Native.Nat.{ℕ, zero, suc, ◌+◌, ◌≤◌, ◌<◌}
use native.Mathlib.Omega.{arith}
use mathlib.Core.Path.{◌≡◌, refl, sym, ap, ◌∙◌}
use mathlib.Core.Bool.{Bool, true, false, cond, ◌&&◌}
use mathlib.Core.List.{[]}
use mathlib.Core.Option.{Option, none, some, none-ne-some}
use lib.Dec.{eqb, ltb, leb}
use borrow.Author.Tests.{eq-eqb, lt-ltb, le-ltb, le-leb}
use Rattle.laws.specs.Fills.{tabulate}
use Rattle.laws.proofs.Choices.{both, is_false, below_or, same_or_other}
use Rattle.answers.specs.Answers.{refusal}
use Rattle.answers.specs.Rules.{Result, carried}
use Rattle.answers.proofs.Rules.{carried_done, answer_is}
use Rattle.params.specs.Numbers.{numbers_of, params_of}
use Rattle.params.proofs.Ranges.{params_decide}
use Rattle.params.proofs.Rows.{asked_back, asked_allowed}
use Rattle.blind.specs.declared.Blind.{Blind}
use Rattle.tags.specs.Tags.{places}
use Rattle.table.specs.Links.{holding}
use Rattle.panel.specs.declared.Seat.{Seat}
use Rattle.panel.specs.Panel.{Model, bare, is_there, present_in, reseated}
use Rattle.panel.specs.Sound.{Sound, Fine}
use Rattle.panel.specs.Calls.{Cells, no_cells, CallRule}
use Rattle.panel.proofs.Seats.{same_model, reseated_at, reseated_other}
use Rattle.panel.proofs.Decides.{sound_tested}
use Rattle.panel.proofs.Kept.{bare_sound}
use Rattle.seats.specs.Seats.{in_use}
use Rattle.seats.specs.Cases.{Used}
use Rattle.seats.proofs.Exact.{used_decides}
use Rattle.installs.specs.Installs.{fresh_seat, install_rule}
use Rattle.installs.proofs.Passed.{Installable, install_accepted}
use Rattle.wiring.specs.Afresh.{unlinked}
use Rattle.texts.specs.Text.{text, same}
use Rattle.plant.specs.Written.{blind_line, seat_lines, blind_lines}
use Rattle.plant.specs.Read.{blind_size, with_blind, further, taken}
use Rattle.plant.proofs.Rewired.{AllFresh}
use Rattle.plant.proofs.LinesTaken.{lines_taken, plan_of, line_taken, lines_then}

module _ (m : Model) where
  -- the lowest tag that a further line may have after the lines of the tags below one
  unfoldable pub floor_after : ℕ → ℕ
  floor_after zero = 0
  floor_after (suc k) = cond (is_there (m.seats k)) (suc k) (floor_after k)

  floor_low : (k : ℕ) → floor_after k ≤ k
  unfolding floor_after
  floor_low zero = omega arith
  floor_low (suc k) = go (is_there (m.seats k)) (floor_low k)
    where
      go : (t : Bool) → floor_after k ≤ k → cond t (suc k) (floor_after k) ≤ suc k
      go true h = omega arith
      go false h = omega arith

module _ (m : Model) (f : Fine m) (fresh : AllFresh m) where
  -- the panel that the lines of the tags below one make
  unfoldable up_to : ℕ → Model
  up_to k = record { seats = λ tag. cond (ltb tag k) (m.seats tag) none; table = holding [] }

  up_below : (k tag : ℕ) → tag < k → (up_to k).seats tag ≡ m.seats tag
  unfolding up_to
  up_below k tag h = ap (λ (t : Bool). cond t (m.seats tag) none) (lt-ltb tag k h)

  up_above : (k tag : ℕ) → k ≤ tag → (up_to k).seats tag ≡ none
  unfolding up_to
  up_above k tag h = ap (λ (t : Bool). cond t (m.seats tag) none) (le-ltb tag k h)

  up_from : (k tag : ℕ) (seat : Seat) → (up_to k).seats tag ≡ some seat → m.seats tag ≡ some seat
  up_from k tag seat at =
      below_or tag k (λ h. sym (up_below k tag h) ∙ at) (λ h. absurd (none-ne-some seat (sym (up_above k tag h) ∙ at)))

  up_sound : (k : ℕ) → Sound (up_to k)
  unfolding up_to
  up_sound k =
      record {
        links = bare_sound.links;
        named = λ i h. absurd (omega arith);
        distinct = λ s t a b at-s at-t same. f.sound.distinct s t a b (up_from k s a at-s) (up_from k t b at-t) same;
        in_range = λ tag seat at. f.sound.in_range tag seat (up_from k tag seat at);
        blinds = λ tag seat at. f.sound.blinds tag seat (up_from k tag seat at);
        tags = λ tag seat at. f.sound.tags tag seat (up_from k tag seat at);
      }

  -- no tag below, and all of them
  up_none : up_to 0 ≡ bare
  unfolding up_to
  up_none = same_model (up_to 0) bare (λ tag. up_above 0 tag (omega arith)) refl

  up_all : up_to places ≡ unlinked m
  unfolding up_to
  up_all = same_model (up_to places) (unlinked m) (λ tag. below_or tag places (up_below places tag) (λ h. up_above places tag h ∙ sym (none_past tag h))) refl
    where
      none_past : (tag : ℕ) → places ≤ tag → m.seats tag ≡ none
      none_past tag h = go (m.seats tag) refl
        where
          go : (o : Option Seat) → m.seats tag ≡ o → m.seats tag ≡ none
          go none e = e
          go (some seat) e = absurd (omega (arith, f.sound.tags tag seat e))

  -- a tag without a seat
  up_same : (k : ℕ) → m.seats k ≡ none → up_to k ≡ up_to (suc k)
  unfolding up_to
  up_same k none_here =
      same_model (up_to k) (up_to (suc k))
      (λ tag.
      same_or_other tag k
      (λ same. up_above k tag (omega arith) ∙ sym (up_below (suc k) tag (omega arith) ∙ ap m.seats same ∙ none_here))
      (λ other.
      below_or tag k (λ h. up_below k tag h ∙ sym (up_below (suc k) tag (omega arith)))
      (λ h. up_above k tag h ∙ sym (up_above (suc k) tag (omega (arith, other))))))
      refl

  -- ---- a tag with a seat

  module _ (k : ℕ) (seat : Seat) (at : m.seats k ≡ some seat) where
    fresh_seat_lem : fresh_seat seat.terminal (params_of (numbers_of seat.blind.params)) ≡ seat
    fresh_seat_lem =
        ap (fresh_seat seat.terminal) (asked_back seat.blind.params)
        ∙ ap (λ (b : Blind). record { terminal = seat.terminal; blind = b }) (sym (fresh k seat at))

    fits : Installable k seat.terminal (numbers_of seat.blind.params) (up_to k) no_cells
    unfolding present_in
    fits =
        record {
          sound = sound_tested (up_to k) (up_sound k);
          within = record {
            tag_low = f.sound.tags k seat at;
            terminal_low = omega (arith, f.sound.in_range k seat at);
            fair = asked_allowed seat.blind.params ((params_decide seat.blind.params).tested (f.sound.blinds k seat at).params);
          };
          new = ap is_there (up_above k k (omega arith));
          free = is_false (in_use seat.terminal (seat.terminal + 1) (up_to k))
              (λ used. other_there ((used_decides (up_to k) (up_sound k).tags seat.terminal (seat.terminal + 1)).holds used));
        }
      where
        other_there : Used seat.terminal (seat.terminal + 1) (up_to k) → ⊥
        other_there u =
            let one : u.seat.terminal ≡ seat.terminal = omega (arith, u.low, u.high) in
            let same : u.tag ≡ k = f.sound.distinct u.tag k u.seat seat (up_from k u.tag u.seat u.at) at one in
            none-ne-some u.seat (sym (up_above k u.tag (omega (arith, same))) ∙ u.at)

    leaves_next : reseated k (some (fresh_seat seat.terminal (params_of (numbers_of seat.blind.params)))) (up_to k) ≡ up_to (suc k)
    unfolding up_to reseated
    leaves_next =
        same_model (reseated k new (up_to k)) (up_to (suc k))
        (λ tag.
        same_or_other tag k
        (λ same.
        ap (reseated k new (up_to k)).seats same ∙ reseated_at k new (up_to k) ∙ ap some fresh_seat_lem ∙ sym at
        ∙ ap m.seats (sym same) ∙ sym (up_below (suc k) tag (omega arith)))
        (λ other.
        reseated_other k new (up_to k) tag other
        ∙ below_or tag k (λ h. up_below k tag h ∙ sym (up_below (suc k) tag (omega arith)))
        (λ h. up_above k tag h ∙ sym (up_above (suc k) tag (omega (arith, other))))))
        refl
      where
        new : Option Seat
        new = some (fresh_seat seat.terminal (params_of (numbers_of seat.blind.params)))

    blind_taken : taken (plan_of (up_to k) (floor_after m k)) (blind_line k seat) ≡ some (plan_of (up_to (suc k)) (suc k))
    unfolding taken further with_blind blind_line blind_size numbers_of install_rule up_to same text tabulate
    blind_taken =
        ap (λ (t : Bool). cond t (some (plan_of (carried rule (up_to k) no_cells).leaves (suc k))) none) passes
        ∙ ap (λ (n : Model). some (plan_of n (suc k))) leaves
      where
        rule : CallRule
        rule = install_rule k seat.terminal (numbers_of seat.blind.params)

        none_refuses : refusal (rule.checks (up_to k) no_cells) ≡ 0
        none_refuses = install_accepted k seat.terminal (numbers_of seat.blind.params) (up_to k) no_cells fits

        leaves : (carried rule (up_to k) no_cells).leaves ≡ up_to (suc k)
        leaves = ap (λ (r : Result Model Cells). r.leaves) (carried_done rule (up_to k) no_cells none_refuses) ∙ leaves_next

        passes : (leb (floor_after m k) k && eqb (carried rule (up_to k) no_cells).answer 0) ≡ true
        passes =
            both (leb (floor_after m k) k) _ (le-leb (floor_after m k) k (floor_low m k))
            (eq-eqb (carried rule (up_to k) no_cells).answer 0 (answer_is rule (up_to k) no_cells ∙ none_refuses))

  -- ---- tag by tag

  blinds_taken : (k : ℕ) → lines_taken (plan_of bare 0) (blind_lines k m) ≡ some (plan_of (up_to k) (floor_after m k))
  unfolding blind_lines lines_taken floor_after
  blinds_taken zero = ap (λ (n : Model). some (plan_of n 0)) (sym up_none)
  blinds_taken (suc k) =
      lines_then (plan_of bare 0) (plan_of (up_to k) (floor_after m k)) (blind_lines k m) (seat_lines k (m.seats k)) (blinds_taken k)
      ∙ go (m.seats k) refl
    where
      go : (o : Option Seat) → m.seats k ≡ o
          → lines_taken (plan_of (up_to k) (floor_after m k)) (seat_lines k (m.seats k))
          ≡ some (plan_of (up_to (suc k)) (cond (is_there (m.seats k)) (suc k) (floor_after m k)))
      go none e = rw e (ap (λ (n : Model). some (plan_of n (floor_after m k))) (up_same k e))
      go (some seat) e = rw e (line_taken _ (plan_of (up_to (suc k)) (suc k)) (blind_line k seat) [] (blind_taken k seat e))

  -- all of them leave the blinds of the panel and no links
  pub all_blinds_taken : lines_taken (plan_of bare 0) (blind_lines places m) ≡ some (plan_of (unlinked m) (floor_after m places))
  all_blinds_taken = blinds_taken places ∙ ap (λ (n : Model). some (plan_of n (floor_after m places))) up_all

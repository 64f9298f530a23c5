-- Each reason is given exactly when it is the first that holds (specs/Cases): each test decides the statement of its case.
-- Assumes nothing.
use Prim.Native.Nat.{ℕ}
use mathlib.Core.Path.{◌≡◌, refl, ap, sym}
use mathlib.Core.Bool.{false, not}
use mathlib.Core.List.{List, [], ◌∷◌}
use mathlib.Core.Option.{Option, none, some, none-ne-some}
use Rattle.laws.specs.Decides.{Decides}
use Rattle.laws.proofs.Choices.{never_both}
use Rattle.laws.proofs.Deciding.{never, neither}
use Rattle.answers.specs.Cases.{Exactly}
use Rattle.answers.proofs.Exact.{Told, told, exactly}
use Rattle.values.specs.Telegrams.{input_of}
use Rattle.conduct.specs.Courses.{Stands}
use Rattle.conduct.proofs.Kept.{heeded_rest}
use Rattle.link.specs.declared.Link.{Link}
use Rattle.panel.specs.declared.Seat.{Seat}
use Rattle.panel.specs.Panel.{Model, is_there, present_in}
use Rattle.panel.specs.Sound.{Tagged}
use Rattle.panel.proofs.Decides.{sound_decides}
use Rattle.telegrams.specs.Locality.{reached}
use Rattle.reasons.specs.declared.Reason.{Reason}
use Rattle.reasons.specs.declared.Judged.{Judged}
use Rattle.reasons.proofs.Exact.{link_told}
use Rattle.why.specs.Why.{judged_last, judged_in, is_none, why_tests, explained}
use Rattle.why.specs.Cases.{why_cases}
use Rattle.why.proofs.Ranges.{outside_decides}

-- no blind is there, no link is
absent_decides : (seat : Option Seat) → Decides (not (is_there seat)) (seat ≡ none)
absent_decides none = record { holds = λ e. refl; tested = λ e. refl }
absent_decides (some seat) = never (λ e. none-ne-some seat (sym e))

none_decides : (links : List Link) → Decides (is_none links) (links ≡ [])
none_decides [] = record { holds = λ e. refl; tested = λ e. refl }
none_decides (link ∷ links) = record { holds = λ e. never_both false e refl; tested = λ e. sym (ap is_none (sym e)) }

-- what is judged leaves the parameters and the place
judged_stands : (value : ℕ) (links : List Link) (j : Judged) → Stands j.before j.after
    → Stands (judged_last value links j).before (judged_last value links j).after
unfolding judged_last
judged_stands value [] j stands = stands
judged_stands value (link ∷ links) j stands = judged_stands value links _ (heeded_rest (input_of link.kind value) j.after)

module _ (tag address value : ℕ) (m : Model) (tagged : Tagged m) where
  why_told : Told (why_tests tag address value m) (why_cases tag address value m)
  unfolding why_tests present_in judged_in
  why_told =
      told Reason.NotSound (neither (sound_decides m tagged))
      (told Reason.OutOfRange (outside_decides tag address value)
      (told Reason.NoBlind (absent_decides (m.seats tag))
      (told Reason.NotLinked (none_decides (reached tag address m))
      (link_told value (judged_in tag address value m)
      (judged_stands value (reached tag address m) _ (record { params = refl; place = refl }))))))

  -- "a reason is given exactly when it is the first that holds"
  pub why_exactly : Exactly Reason.AlreadySo (why_cases tag address value m) (explained tag address value m)
  unfolding explained
  why_exactly = exactly Reason.AlreadySo why_told

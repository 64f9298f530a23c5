-- What is answered, test by test: each is asked only where none before it holds. Assumes nothing.
use Prim.Native.Nat.{ℕ}
use mathlib.Core.Path.{◌≡◌, ap, ◌∙◌}
use mathlib.Core.Bool.{Bool, true, false, not}
use mathlib.Core.List.{List, [], ◌∷◌}
use Rattle.answers.specs.Answers.{first}
use Rattle.answers.proofs.Refusals.{first_is, first_not}
use Rattle.panel.specs.Panel.{Model, present_in}
use Rattle.panel.specs.Sound.{is_sound}
use Rattle.telegrams.specs.Locality.{reached}
use Rattle.reasons.specs.declared.Reason.{Reason}
use Rattle.reasons.specs.Reasons.{link_tests, reason_of}
use Rattle.why.specs.Why.{is_outside, judged_in, is_none, why_tests, explained}

module _ (tag address value : ℕ) (m : Model) where
  -- the tests from each of them on
  from_link : List (Bool × Reason)
  from_link = (is_none (reached tag address m), Reason.NotLinked) ∷ link_tests value (judged_in tag address value m)

  from_blind : List (Bool × Reason)
  from_blind = (not (present_in m tag), Reason.NoBlind) ∷ from_link

  from_range : List (Bool × Reason)
  from_range = (is_outside tag address value, Reason.OutOfRange) ∷ from_blind

  pub not_sound : is_sound m ≡ false → explained tag address value m ≡ Reason.NotSound
  unfolding explained why_tests from_range from_blind from_link
  not_sound e = first_is Reason.AlreadySo (not (is_sound m)) Reason.NotSound from_range (ap not e)

  module _ (sound : is_sound m ≡ true) where
    past_sound : explained tag address value m ≡ first Reason.AlreadySo from_range
    unfolding explained why_tests from_range from_blind from_link
    past_sound = first_not Reason.AlreadySo (not (is_sound m)) Reason.NotSound from_range (ap not sound)

    pub out_of_range : is_outside tag address value ≡ true → explained tag address value m ≡ Reason.OutOfRange
    unfolding from_range
    out_of_range e = past_sound ∙ first_is Reason.AlreadySo (is_outside tag address value) Reason.OutOfRange from_blind e

    module _ (within : is_outside tag address value ≡ false) where
      past_range : explained tag address value m ≡ first Reason.AlreadySo from_blind
      unfolding from_range
      past_range = past_sound ∙ first_not Reason.AlreadySo (is_outside tag address value) Reason.OutOfRange from_blind within

      pub no_blind : present_in m tag ≡ false → explained tag address value m ≡ Reason.NoBlind
      unfolding from_blind
      no_blind e = past_range ∙ first_is Reason.AlreadySo (not (present_in m tag)) Reason.NoBlind from_link (ap not e)

      module _ (there : present_in m tag ≡ true) where
        past_blind : explained tag address value m ≡ first Reason.AlreadySo from_link
        unfolding from_blind
        past_blind = past_range ∙ first_not Reason.AlreadySo (not (present_in m tag)) Reason.NoBlind from_link (ap not there)

        pub not_linked : reached tag address m ≡ [] → explained tag address value m ≡ Reason.NotLinked
        unfolding from_link
        not_linked e =
            past_blind
            ∙ first_is Reason.AlreadySo (is_none (reached tag address m)) Reason.NotLinked (link_tests value (judged_in tag address value m)) (ap is_none e)

        pub linked : is_none (reached tag address m) ≡ false → explained tag address value m ≡ reason_of value (judged_in tag address value m)
        unfolding from_link reason_of
        linked e =
            past_blind
            ∙ first_not Reason.AlreadySo (is_none (reached tag address m)) Reason.NotLinked (link_tests value (judged_in tag address value m)) e

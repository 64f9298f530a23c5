-- One telegram or one time step in both runs of demand 3: the blind stays the same in both, and so does its report. A link of the
-- blind's own decides whether a telegram that reaches it is accepted, and a blind that it does not reach has nothing to report.
-- Assumes nothing.
use Prim.Native.Nat.{ℕ}
use native.Mathlib.Decide.{ℕ_discrete}
use mathlib.Core.Path.{◌≡◌, refl, sym, ap, ◌∙◌, subst}
use mathlib.Core.Bool.{Bool, true, false, cond}
use mathlib.Core.List.{List, [], ◌∷◌}
use mathlib.Core.Option.{some}
use mathlib.Core.Logic.{◌⊎◌, inl, inr}
use lib.ListN.{length}
use lib.Dec.{eqb, ltb}
use borrow.Author.Tests.{eq-eqb, ne_eqb}
use Rattle.answers.specs.Answers.{refusal}
use Rattle.answers.specs.Rules.{Result}
use Rattle.answers.proofs.Rules.{answer_is}
use Rattle.tags.specs.Tags.{places}
use Rattle.blind.specs.declared.Blind.{Blind}
use Rattle.milliseconds.specs.Milliseconds.{milliseconds}
use Rattle.outputs.specs.Reports.{report}
use Rattle.link.specs.declared.Link.{Link}
use Rattle.panel.specs.Panel.{Model}
use Rattle.panel.specs.Sound.{Sound}
use Rattle.panel.specs.Calls.{Cells, lent_checks}
use Rattle.panel.proofs.Decides.{sound_tested}
use Rattle.panel.proofs.Checks.{lent_right, lent_wrong, is_sound_lem}
use Rattle.outputs.specs.Reports.{no_report}
use Rattle.telegrams.specs.Telegrams.{is_outside, link_checks, telegram_rule}
use Rattle.time_steps.specs.TimeSteps.{longest, step_rule}
use Rattle.telegrams.specs.Locality.{reached, heard_by}
use Rattle.outputs.proofs.Reports.{report_same}
use Rattle.telegrams.proofs.Locality.{telegram_links, telegram_decided}
use Rattle.time_steps.proofs.Locality.{time_step_links}
use Rattle.demands.specs.Calls.{telegram, time_step, does}
use Rattle.demands.specs.Runs.{report_of}
use Rattle.demands.proofs.Seats.{seat_of_lem}
use Rattle.demands.proofs.BlindSeen.{Becomes, telegram_seen, step_seen}
use Rattle.demands.proofs.Soundness.{kept_fine}
use Rattle.demands.proofs.Alike.{Alike, links_stay, reached_same}

-- two panels that were alike are so after a call, and the reports are the same
pub record Stepped (tag : ℕ) (r s : Result Model Cells) : Type 0 where
  pub blind : Blind
  pub alike : Alike tag blind r.leaves s.leaves
  pub reports : report_of tag r ≡ report_of tag s

-- what both runs see is the same where the answers are, or where the blind does not change
agree : (old new : Blind) (x y : ℕ) → (x ≡ y) ⊎ (new ≡ old)
    → (cond (eqb x 0) new old ≡ cond (eqb y 0) new old)
    × (cond (eqb x 0) (report old new) no_report ≡ cond (eqb y 0) (report old new) no_report)
agree old new x y (inl e) =
    (ap (λ (n : ℕ). cond (eqb n 0) new old) e, ap (λ (n : ℕ). cond (eqb n 0) (report old new) no_report) e)
agree old new x y (inr e) = (both_old (eqb x 0) ∙ sym (both_old (eqb y 0)), both_none (eqb x 0) ∙ sym (both_none (eqb y 0)))
  where
    both_old : (t : Bool) → cond t new old ≡ old
    both_old true = e
    both_old false = refl

    both_none : (t : Bool) → cond t (report old new) no_report ≡ no_report
    both_none true = ap (report old) e ∙ report_same old
    both_none false = refl

module _ (tag address value : ℕ) (cells : Cells) (a b : Model) where
  answer_wrong : (m : Model) → (length cells.lent ≡ places → ⊥) → (does (telegram address value) m cells).answer ≡ 11
  unfolding telegram_rule
  answer_wrong m h =
      answer_is (telegram_rule address value) m cells
      ∙ lent_wrong places cells m (is_outside address value) (link_checks address value m.table.links) h

  -- a link of the blind's own decides the answer, in both runs alike
  same_answer : (blind : Blind) → Alike tag blind a b → (link : Link) (rest : List Link) → reached tag address a ≡ link ∷ rest
      → reached tag address b ≡ link ∷ rest → (does (telegram address value) a cells).answer ≡ (does (telegram address value) b cells).answer
  same_answer blind k link rest ra rb = go (ℕ_discrete (length cells.lent) places)
    where
      go : Dec (length cells.lent ≡ places) → (does (telegram address value) a cells).answer ≡ (does (telegram address value) b cells).answer
      go (yes long) =
          let (seat-a, there-a, is-a) = seat_of_lem (a.seats tag) blind k.blind_a in
          let (seat-b, there-b, is_b) = seat_of_lem (b.seats tag) blind k.blind_b in
          telegram_decided address value a cells tag seat-a k.fine_a.sound there-a link rest long ra
          ∙ sym (telegram_decided address value b cells tag seat-b k.fine_b.sound there-b link rest long rb)
      go (no h) = answer_wrong a h ∙ sym (answer_wrong b h)

  pub tell_stepped : (blind : Blind) → Alike tag blind a b → Stepped tag (does (telegram address value) a cells) (does (telegram address value) b cells)
  unfolding heard_by
  tell_stepped blind k =
      let ra = does (telegram address value) a cells in
      let rb = does (telegram address value) b cells in
      let new = heard_by value (reached tag address a) blind in
      let same-links : reached tag address a ≡ reached tag address b = reached_same tag address a b k.links in
      let choice : (ls : List Link) → reached tag address a ≡ ls → (ra.answer ≡ rb.answer) ⊎ (new ≡ blind) =
      elim [
        | [] ↦ λ e. inr (ap (λ (l : List Link). heard_by value l blind) e)
        | link ∷ rest ↦ λ e. inl (same_answer blind k link rest e (sym same-links ∙ e))
      ] in
      let same = agree blind new ra.answer rb.answer (choice (reached tag address a) refl) in
      let seen-a : Becomes ra tag blind new = telegram_seen tag blind a cells k.fine_a.sound k.blind_a address value in
      let seen_b : Becomes rb tag blind new =
      subst (λ (ls : List Link). Becomes rb tag blind (heard_by value ls blind)) (sym same-links)
      (telegram_seen tag blind b cells k.fine_b.sound k.blind_b address value) in
      record {
        blind = cond (eqb ra.answer 0) new blind;
        alike =
            record {
              fine_a = kept_fine (telegram address value) a cells k.fine_a;
              fine_b = kept_fine (telegram address value) b cells k.fine_b;
              blind_a = seen-a.blind;
              blind_b = seen_b.blind ∙ ap (λ (x : Blind). some x) (sym same.0);
              links = links_stay tag a ra.leaves (telegram_links address value a cells)
                  ∙ k.links
                  ∙ sym (links_stay tag b rb.leaves (telegram_links address value b cells));
            };
        reports = seen-a.report ∙ same.1 ∙ sym seen_b.report;
      }

module _ (tag dt : ℕ) (cells : Cells) (a b : Model) where
  -- cells and dt alone decide the answer of a time step to a sound panel
  step_answer : (m : Model) → Sound m → (does (time_step dt) m cells).answer ≡ cond (eqb (length cells.lent) places) (refusal ((ltb longest dt, 1) ∷ [])) 11
  unfolding step_rule
  step_answer m s = answer_is (step_rule dt) m cells ∙ go (ℕ_discrete (length cells.lent) places)
    where
      go : Dec (length cells.lent ≡ places)
          → refusal (lent_checks places cells m (ltb longest dt) []) ≡ cond (eqb (length cells.lent) places) (refusal ((ltb longest dt, 1) ∷ [])) 11
      go (yes long) =
          lent_right places cells m (ltb longest dt) [] long
          ∙ is_sound_lem m (ltb longest dt) [] (sound_tested m s)
          ∙ ap (λ (t : Bool). cond t (refusal ((ltb longest dt, 1) ∷ [])) 11) (sym (eq-eqb (length cells.lent) places long))
      go (no h) =
          lent_wrong places cells m (ltb longest dt) [] h
          ∙ ap (λ (t : Bool). cond t (refusal ((ltb longest dt, 1) ∷ [])) 11) (sym (ne_eqb (length cells.lent) places h))

  pub pass_stepped : (blind : Blind) → Alike tag blind a b → Stepped tag (does (time_step dt) a cells) (does (time_step dt) b cells)
  pass_stepped blind k =
      let ra = does (time_step dt) a cells in
      let rb = does (time_step dt) b cells in
      let new = milliseconds dt blind in
      let same =
      agree blind new ra.answer rb.answer (inl (step_answer a k.fine_a.sound ∙ sym (step_answer b k.fine_b.sound))) in
      let seen-a : Becomes ra tag blind new = step_seen tag blind a cells k.fine_a.sound k.blind_a dt in
      let seen_b : Becomes rb tag blind new = step_seen tag blind b cells k.fine_b.sound k.blind_b dt in
      record {
        blind = cond (eqb ra.answer 0) new blind;
        alike =
            record {
              fine_a = kept_fine (time_step dt) a cells k.fine_a;
              fine_b = kept_fine (time_step dt) b cells k.fine_b;
              blind_a = seen-a.blind;
              blind_b = seen_b.blind ∙ ap (λ (x : Blind). some x) (sym same.0);
              links = links_stay tag a ra.leaves (time_step_links dt a cells)
                  ∙ k.links
                  ∙ sym (links_stay tag b rb.leaves (time_step_links dt b cells));
            };
        reports = seen-a.report ∙ same.1 ∙ sym seen_b.report;
      }

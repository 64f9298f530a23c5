-- What is told is what the telegram does when it is sent: a link that is judged is delivered so, a value of another class is refused, and
-- a blind that is not linked keeps its seat. Assumes nothing.
use Prim.Native.Nat.{ℕ, ◌≤◌, ◌<◌}
use native.Mathlib.Omega.{arith}
use mathlib.Core.Path.{◌≡◌, refl, sym, ap, ◌∙◌, subst}
use mathlib.Core.Bool.{Bool, true, false, ◌||◌}
use mathlib.Core.List.{List, [], ◌∷◌, ◌++◌}
use mathlib.Core.Option.{Option, none, some, map}
use lib.ListN.{length}
use lib.Dec.{eqb, ltb}
use borrow.Author.Tests.{lt-ltb, le-ltb}
use Rattle.laws.proofs.Choices.{never_both, below_or}
use Rattle.laws.proofs.Any.{neither_right}
use Rattle.laws.proofs.Each.{Each, first, each_right}
use Rattle.answers.specs.Answers.{refusal}
use Rattle.answers.specs.Cases.{First, here, later}
use Rattle.answers.specs.Rules.{carried}
use Rattle.answers.proofs.Refusals.{first_is, refused_by_lem, passed_by, none_left}
use Rattle.answers.proofs.Rules.{leaves_has}
use Rattle.answers.proofs.Exact.{given_has}
use Rattle.tags.specs.Tags.{places}
use Rattle.blind.specs.declared.Blind.{Blind}
use Rattle.kinds.specs.Kinds.{class_of}
use Rattle.link.specs.declared.Link.{Link}
use Rattle.link.specs.Link.{last_tag}
use Rattle.table.specs.Links.{address_class}
use Rattle.panel.specs.declared.Seat.{Seat}
use Rattle.panel.specs.Panel.{Model, on_blind}
use Rattle.panel.specs.Sound.{Tagged}
use Rattle.panel.specs.Calls.{Cells}
use Rattle.telegrams.specs.Telegrams as telegrams
use Rattle.telegrams.specs.Telegrams.{telegram_rule}
use Rattle.telegrams.specs.Locality.{reached, heard_by}
use Rattle.telegrams.proofs.Locality.{after_telegram_at, own_classes, own_class, telegram_local, telegram_decided}
use Rattle.reasons.specs.declared.Reason.{Reason}
use Rattle.reasons.specs.declared.Judged.{Judged}
use Rattle.reasons.specs.Reasons.{number_of, unjudged, link_tests, reason_of}
use Rattle.reasons.specs.Cases.{link_cases}
use Rattle.why.specs.Why.{is_outside, seated, judged_in, explained}
use Rattle.why.specs.Cases.{why_cases, Judges, Sent, is_delivered}
use Rattle.why.proofs.Ranges.{is_asked}
use Rattle.why.proofs.Spoken.{last_heard, only_judged, told_reason, judges_when}
use Rattle.why.proofs.Exact.{why_exactly}

module _ (tag address value : ℕ) (m : Model) (cells : Cells) (long : length cells.lent ≡ places) {j : Judged} (w : Judges tag address value m j) where
  in_range_lem : telegrams.is_outside address value ≡ false
  unfolding is_outside
  in_range_lem = neither_right (ltb last_tag tag) _ (is_asked tag address value w.question)

  -- the link that is judged has the class of its address
  class_is : address_class address m.table.links ≡ class_of w.link.kind
  class_is =
      sym (first (each_right w.earlier (w.link ∷ [])
      (subst (Each (λ l. class_of l.kind ≡ address_class address m.table.links)) w.last (own_classes tag address m w.sound))))

  -- so its class decides the answer
  answered : (carried (telegram_rule address value) m cells).answer ≡ refusal ((ltb (class_of w.link.kind) value, 6) ∷ [])
  answered = go w.earlier w.last
    where
      decided : (link : Link) (rest : List Link) → reached tag address m ≡ link ∷ rest
          → (carried (telegram_rule address value) m cells).answer ≡ refusal ((ltb (class_of w.link.kind) value, 6) ∷ [])
      decided link rest own =
          telegram_decided address value m cells tag w.seat w.sound w.there link rest long own
          ∙ passed_by (telegrams.is_outside address value) 1 _ in_range_lem
          ∙ ap (λ (class : ℕ). refusal ((ltb class value, 6) ∷ [])) (own_class tag address m w.sound link rest own ∙ class_is)

      go : (earlier : List Link) → reached tag address m ≡ earlier ++ (w.link ∷ [])
          → (carried (telegram_rule address value) m cells).answer ≡ refusal ((ltb (class_of w.link.kind) value, 6) ∷ [])
      go [] own = decided w.link [] own
      go (link ∷ earlier) own = decided link (earlier ++ (w.link ∷ [])) own

  -- the blind that was judged has heard all its links
  heard : j.after ≡ heard_by value (reached tag address m) w.seat.blind
  unfolding judged_in
  heard =
      ap (λ (x : Judged). x.after) (only_judged tag address value m w)
      ∙ last_heard value (reached tag address m) (unjudged (seated (m.seats tag)))
      ∙ ap (λ (seat : Option Seat). heard_by value (reached tag address m) (seated seat)) w.there

  -- a value of the class is accepted; another is answered 6
  pub judged_sent : value ≤ class_of j.kind → Sent tag address value m (carried (telegram_rule address value) m cells)
  judged_sent fits =
      let class : class_of j.kind ≡ class_of w.link.kind = ap (λ (x : Judged). class_of x.kind) w.is in
      let done = answered ∙ passed_by _ 6 [] (le-ltb (class_of w.link.kind) value (omega arith)) ∙ none_left in
      record {
        judged = j;
        speaks = w;
        accepted = done;
        seated =
            (telegram_local address value m cells tag w.seat w.sound w.there done).seated
            ∙ ap (λ (b : Blind). some (record { terminal = w.seat.terminal; blind = b })) (sym heard);
      }

  refused_sent : class_of j.kind < value → (carried (telegram_rule address value) m cells).answer ≡ 6
  refused_sent above =
      let class : class_of j.kind ≡ class_of w.link.kind = ap (λ (x : Judged). class_of x.kind) w.is in
      answered ∙ refused_by_lem _ 6 [] (lt-ltb (class_of w.link.kind) value (omega arith))

-- ---- by what is told

-- the reasons of a link
abbrev is_of_link : Reason → Bool
is_of_link reason = is_delivered reason || eqb (number_of reason) 6

module _ (tag address value : ℕ) (m : Model) (cells : Cells) (tagged : Tagged m) where
  -- not linked: whatever is answered, the blind keeps its seat
  pub unlinked_sent : explained tag address value m ≡ Reason.NotLinked → (carried (telegram_rule address value) m cells).leaves.seats tag ≡ m.seats tag
  unfolding telegram_rule heard_by
  unlinked_sent e =
      leaves_has (telegram_rule address value) m cells (λ (n : Model). n.seats tag ≡ m.seats tag) refl
      (λ done. after_telegram_at address value m tag ∙ go (m.seats tag) (none_linked ((why_exactly tag address value m tagged).in_its_case Reason.NotLinked e)))
    where
      none_linked : First Reason.AlreadySo (why_cases tag address value m) Reason.NotLinked → reached tag address m ≡ []
      none_linked (later s (later o (later t (here h)))) = h
      none_linked (later s (later o (later t (later l f)))) = never_both false (given_has is_of_link (link_cases value (judged_in tag address value m)) refl refl f) refl

      go : (seat : Option Seat) → reached tag address m ≡ [] → map (on_blind (heard_by value (reached tag address m))) seat ≡ seat
      go none h = refl
      go (some seat) h = ap (λ (ls : List Link). some (on_blind (heard_by value ls) seat)) h

  module _ (long : length cells.lent ≡ places) where
    -- wrong class: it is answered 6
    pub wrong_class_sent : explained tag address value m ≡ Reason.WrongClass → (carried (telegram_rule address value) m cells).answer ≡ 6
    wrong_class_sent e =
        refused_sent tag address value m cells long
        (judges_when tag address value m tagged (λ reason. eqb (number_of reason) 6) refl refl refl refl (ap (λ (reason : Reason). eqb (number_of reason) 6) e))
        (above ((why_exactly tag address value m tagged).in_its_case Reason.WrongClass e))
      where
        above : First Reason.AlreadySo (why_cases tag address value m) Reason.WrongClass → class_of (judged_in tag address value m).kind < value
        above (later s (later o (later t (later l (here h))))) = h
        above (later s (later o (later t (later l (later c f))))) = never_both false (given_has is_delivered _ refl refl f) refl

    -- every later reason: it is accepted, and the blind is then the one that was judged
    pub told_sent : is_delivered (explained tag address value m) ≡ true → Sent tag address value m (carried (telegram_rule address value) m cells)
    unfolding reason_of link_tests
    told_sent e =
        let w = judges_when tag address value m tagged is_delivered refl refl refl refl e in
        below_or (class_of (judged_in tag address value m).kind) value
        (λ above. never_both (is_delivered (explained tag address value m)) e (ap is_delivered (told_reason tag address value m w ∙ wrong w above)))
        (λ fits. judged_sent tag address value m cells long w fits)
      where
        wrong : Judges tag address value m (judged_in tag address value m) → class_of (judged_in tag address value m).kind < value
            → reason_of value (judged_in tag address value m) ≡ Reason.WrongClass
        wrong w above = first_is Reason.AlreadySo _ Reason.WrongClass _ (lt-ltb (class_of (judged_in tag address value m).kind) value above)

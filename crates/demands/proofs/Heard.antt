-- What a telegram with several links to a blind leaves of its duty's order: the links one after the other.
-- Assumes nothing.
use Prim.Native.Nat.{ℕ, ◌<◌}
use native.Mathlib.Omega.{arith}
use mathlib.Core.Path.{◌≡◌, refl, ap, ◌∙◌, subst}
use mathlib.Core.Bool.{Bool, true, false}
use mathlib.Core.List.{List, [], ◌∷◌}
use mathlib.Core.Logic.{◌⊎◌, inl, inr}
use lib.Dec.{eqb}
use borrow.Author.Tests.{eqb-false}
use Rattle.laws.proofs.Choices.{cond_has, never_both}
use Rattle.blind.specs.declared.Blind.{Blind}
use Rattle.blind.specs.Fields.{with_flags}
use Rattle.kinds.specs.Kinds.{wa, ra, fa, fo, mud}
use Rattle.duties.specs.Rulers.{duty_of, is_free}
use Rattle.values.specs.declared.Input.{Input}
use Rattle.values.specs.Telegrams.{input_of}
use Rattle.rules.specs.Rules.{heeded}
use Rattle.conduct.specs.Obeys.{HasOrder, Obeys}
use Rattle.conduct.specs.Undisturbed.{flags_after}
use Rattle.conduct.proofs.Idle.{idle_keeps, unchanged_idle}
use Rattle.conduct.proofs.Duties.{duty_decides}
use Rattle.conduct.proofs.Obeys.{changed_order, set_order, kept_order, has_obeys, heeded_obeys}
use Rattle.link.specs.declared.Link.{Link}
use Rattle.telegrams.specs.Locality.{heard_by}
use Rattle.demands.specs.Demand2.{Unheeded}
use Rattle.demands.specs.Ruling.{Shifts, by_this, by_another, SetFlags, Given, flags_by}

pub heard_obeys : (value : ℕ) (links : List Link) (b : Blind) → Obeys b → Obeys (heard_by value links b)
unfolding heard_by
heard_obeys value [] b o = o
heard_obeys value (link ∷ links) b o = heard_obeys value links _ (heeded_obeys (input_of link.kind value) b o)

-- a duty that is another one in the end was changed by one of the links
pub end_shifts : (value : ℕ) (links : List Link) (b : Blind) → (duty_of (heard_by value links b) ≡ duty_of b → ⊥) → Shifts value links b
unfolding heard_by
end_shifts value [] b h = absurd (h refl)
end_shifts value (link ∷ links) b h =
    go (duty_decides (duty_of (heeded input b)) (duty_of b)) (end_shifts value links (heeded input b))
  where
    input : Input
    input = input_of link.kind value

    go : Dec (duty_of (heeded input b) ≡ duty_of b)
        → ((duty_of (heard_by value links (heeded input b)) ≡ duty_of (heeded input b) → ⊥) → Shifts value links (heeded input b))
        → Shifts value (link ∷ links) b
    go (yes e) later = by_another (later (λ q. h (q ∙ e)))
    go (no n) later = by_this n

pub shifts_obeys : (value : ℕ) {links : List Link} {b : Blind} → Shifts value links b → Obeys (heard_by value links b)
unfolding heard_by
shifts_obeys value (by_this {link} {links} {b} h) = heard_obeys value links _ (has_obeys _ (changed_order (input_of link.kind value) b h))
shifts_obeys value (by_another s) = shifts_obeys value s

-- ---- among links that change the duty the last one that does gives the order

shifts_decides : (value : ℕ) (links : List Link) (b : Blind) → Dec (Shifts value links b)
shifts_decides value [] b = no (elim [ ])
shifts_decides value (link ∷ links) b =
    go (duty_decides (duty_of (heeded input b)) (duty_of b)) (shifts_decides value links (heeded input b))
  where
    input : Input
    input = input_of link.kind value

    none : (duty_of (heeded input b) ≡ duty_of b) → (Shifts value links (heeded input b) → ⊥) → Shifts value (link ∷ links) b → ⊥
    none e n (by_this h) = h e
    none e n (by_another s) = n s

    go : Dec (duty_of (heeded input b) ≡ duty_of b) → Dec (Shifts value links (heeded input b)) → Dec (Shifts value (link ∷ links) b)
    go (no h) later = yes (by_this h)
    go (yes e) (yes s) = yes (by_another s)
    go (yes e) (no n) = no (none e n)

given_later : {value : ℕ} {link : Link} {links : List Link} {b : Blind} → Given value links (heeded (input_of link.kind value) b)
    → Given value (link ∷ links) b
unfolding heard_by
given_later {link = link} g =
    record {
      first = link ∷ g.first;
      link = g.link;
      rest = g.rest;
      all = ap (λ (l : List Link). link ∷ l) g.all;
      changes = g.changes;
      order = g.order;
      last = g.last;
    }

given_now : {value : ℕ} {link : Link} {links : List Link} {b : Blind} → (Shifts value links (heeded (input_of link.kind value) b) → ⊥)
    → Shifts value (link ∷ links) b → Given value (link ∷ links) b
unfolding heard_by
given_now {value} {link} {links} {b} none (by_this h) =
    record {
      first = [];
      link = link;
      rest = links;
      all = refl;
      changes = h;
      order = changed_order (input_of link.kind value) b h;
      last = none;
    }
given_now none (by_another s) = absurd (none s)

pub shifts_given : (value : ℕ) (links : List Link) (b : Blind) → Shifts value links b → Given value links b
shifts_given value [] b s = elim s [ ]
shifts_given value (link ∷ links) b s =
    go (shifts_decides value links (heeded (input_of link.kind value) b))
    (shifts_given value links (heeded (input_of link.kind value) b))
  where
    go : Dec (Shifts value links (heeded (input_of link.kind value) b))
        → (Shifts value links (heeded (input_of link.kind value) b) → Given value links (heeded (input_of link.kind value) b))
        → Given value (link ∷ links) b
    go (yes later) given = given_later (given later)
    go (no none) given = given_now none s

-- ---- links that do not disturb

pub heard_unheeded : (value : ℕ) (links : List Link) (b : Blind) → Unheeded value links b
    → heard_by value links b ≡ with_flags (flags_by value links b) b
unfolding heard_by flags_by
heard_unheeded value [] b u = refl
heard_unheeded value (link ∷ links) b u =
    let keeps = idle_keeps (input_of link.kind value) b u.0 in
    ap (heard_by value links) keeps
    ∙ heard_unheeded value links (with_flags (flags_after (input_of link.kind value) b) b) (subst (Unheeded value links) keeps u.1)

-- under another duty than Free links that change no duty do not disturb
pub unshifted_unheeded : (value : ℕ) (links : List Link) (b : Blind) → is_free (duty_of b) ≡ false → (Shifts value links b → ⊥)
    → Unheeded value links b
unshifted_unheeded value [] b bound none = tt
unshifted_unheeded value (link ∷ links) b bound none =
    let same = unchanged (duty_decides (duty_of (heeded input b)) (duty_of b)) in
    (unchanged_idle input b bound same, unshifted_unheeded value links (heeded input b) (ap is_free same ∙ bound) (λ s. none (by_another s)))
  where
    input : Input
    input = input_of link.kind value

    unchanged : Dec (duty_of (heeded input b) ≡ duty_of b) → duty_of (heeded input b) ≡ duty_of b
    unchanged (yes e) = e
    unchanged (no h) = absurd (none (by_this h))

-- ---- the order in the end

-- kinds 0 to 3 set flags, so a blind that has its order keeps it
flag_order : (kind value : ℕ) (b : Blind) → kind < mud → HasOrder b → HasOrder (heeded (input_of kind value) b)
unfolding input_of
flag_order kind value b h o =
    cond_has P (eqb kind wa) _ _ (λ e. set_order _ b o)
    (λ not-wa. cond_has P (eqb kind ra) _ _ (λ e. set_order _ b o)
    (λ not-ra. cond_has P (eqb kind fa) _ _ (λ e. set_order _ b o)
    (λ not-fa. cond_has P (eqb kind fo) _ _ (λ e. set_order _ b o)
    (λ not-fo.
    absurd (omega (arith, eqb-false kind wa not-wa, eqb-false kind ra not-ra, eqb-false kind fa not-fa, eqb-false kind fo not-fo))))))
  where
    P : Input → Type 0
    P input = HasOrder (heeded input b)

-- the first of some links: the order is given, or kept, or the duty is yet to change
first_heard : (value : ℕ) (link : Link) (links : List Link) (b : Blind)
    → HasOrder b ⊎ (duty_of (heard_by value links (heeded (input_of link.kind value) b)) ≡ duty_of b → ⊥)
    → (is_free (duty_of (heard_by value links (heeded (input_of link.kind value) b))) ≡ false) ⊎ SetFlags (link ∷ links)
    → Dec (duty_of (heeded (input_of link.kind value) b) ≡ duty_of b)
    → HasOrder (heeded (input_of link.kind value) b)
    ⊎ (duty_of (heard_by value links (heeded (input_of link.kind value) b)) ≡ duty_of (heeded (input_of link.kind value) b) → ⊥)
first_heard value link links b so_far calm (no h) = inl (changed_order (input_of link.kind value) b h)
first_heard value link links b (inr h) calm (yes e) = inr (λ q. h (q ∙ e))
first_heard value link links b (inl o) (inr set) (yes e) = inl (flag_order link.kind value b set.0 o)
first_heard value link links b (inl o) (inl bound) (yes e) = go (is_free (duty_of b)) refl
  where
    input : Input
    input = input_of link.kind value

    go : (free : Bool) → is_free (duty_of b) ≡ free
        → HasOrder (heeded input b) ⊎ (duty_of (heard_by value links (heeded input b)) ≡ duty_of (heeded input b) → ⊥)
    go true free = inr (λ q. never_both (is_free (duty_of (heard_by value links (heeded input b)))) (ap is_free (q ∙ e) ∙ free) bound)
    go false ruled = inl (kept_order input b ruled o)

others : {A : Type 0} (link : Link) (links : List Link) → A ⊎ SetFlags (link ∷ links) → A ⊎ SetFlags links
others link links (inl bound) = inl bound
others link links (inr set) = inr set.1

-- after links that change the duty the blind has the order of the last one, if that is not Free or no link commands
heard_order : (value : ℕ) (links : List Link) (b : Blind) → HasOrder b ⊎ (duty_of (heard_by value links b) ≡ duty_of b → ⊥)
    → (is_free (duty_of (heard_by value links b)) ≡ false) ⊎ SetFlags links → HasOrder (heard_by value links b)
unfolding heard_by
heard_order value [] b (inl o) calm = o
heard_order value [] b (inr h) calm = absurd (h refl)
heard_order value (link ∷ links) b so_far calm =
    heard_order value links (heeded (input_of link.kind value) b)
    (first_heard value link links b so_far calm (duty_decides (duty_of (heeded (input_of link.kind value) b)) (duty_of b)))
    (others link links calm)

pub shifts_order : (value : ℕ) {links : List Link} {b : Blind} → Shifts value links b
    → (is_free (duty_of (heard_by value links b)) ≡ false) ⊎ SetFlags links → HasOrder (heard_by value links b)
unfolding heard_by
shifts_order value (by_this {link} {links} {b} h) calm =
    heard_order value links (heeded (input_of link.kind value) b) (inl (changed_order (input_of link.kind value) b h)) (others link links calm)
shifts_order value (by_another {link} {links} s) calm = shifts_order value s (others link links calm)

-- Reading line by line: the number that is answered is that of the first bad line, and where none is bad all lines are taken.
-- All by recursion on the parts of the file. Assumes nothing.
use Prim.Native.Nat.{ℕ, zero, suc, ◌+◌}
use native.Mathlib.Omega.{arith}
use mathlib.Core.Path.{◌≡◌, refl, sym, ap, ◌∙◌, subst}
use mathlib.Core.Logic.{◌⊎◌, inl, inr}
use mathlib.Core.Bool.{Bool, true, false, cond}
use mathlib.Core.List.{List, [], ◌∷◌, ◌++◌, cons-ne-nil}
use mathlib.Core.Option.{Option, none, some, some-injective, none-ne-some}
use lib.ListN.{take, drop}
use lib.Seq.{drop-nil}
use lib.Dec.{eqb}
use Rattle.words.specs.Words.{ahead}
use Rattle.panel.specs.Panel.{bare}
use Rattle.fields.specs.Parts.{parts}
use Rattle.fields.specs.Lines.{line_feed}
use Rattle.plant.specs.Read.{Plan, start, is_begun, if_there, bytes_taken, FileRead, good_file, bad_in, walked, file_read}
use Rattle.plant.specs.Claims.{all_taken, Bad, refused, no_line_feed, no_first_line, FirstBad}

-- a file has at least one part
some_part : (mark : ℕ) (file : List ℕ) → parts mark file ≡ [] → ⊥
unfolding parts
some_part mark [] e = cons-ne-nil [] [] e
some_part mark (byte ∷ bytes) e = go (eqb byte mark) (parts mark bytes) e
  where
    go : (t : Bool) (ps : List (List ℕ)) → cond t ([] ∷ ps) (ahead byte ps) ≡ [] → ⊥
    go true ps e = cons-ne-nil [] ps e
    go false [] e = cons-ne-nil (byte ∷ []) [] e
    go false (p ∷ ps) e = cons-ne-nil (byte ∷ p) ps e

-- ---- parts from a place on

-- the parts from here on have so many good lines, and then a bad one
record BadAfter (p : Plan) (ps : List (List ℕ)) (before : ℕ) : Type 0 where
  plan : Plan
  good : all_taken p (take before ps) ≡ some plan
  bad : Bad plan (drop before ps)

-- the parts from here on are good lines and nothing after them
pub record AllGood (p : Plan) (ps : List (List ℕ)) : Type 0 where
  pub lines : List (List ℕ)
  pub whole : ps ≡ lines ++ [] ∷ []
  pub plan : Plan
  pub good : all_taken p lines ≡ some plan
  pub is_begun : is_begun plan ≡ true

-- a line with something after it
pub walk_on : (number : ℕ) (p : Plan) (bytes : List ℕ) (rows : List (List ℕ)) → (rows ≡ [] → ⊥)
    → walked number p (bytes ∷ rows) ≡ if_there (bytes_taken p bytes) (bad_in number) (λ q. walked (suc number) q rows)
unfolding walked
walk_on number p bytes [] some-there = absurd (some-there refl)
walk_on number p bytes (row ∷ rows) some-there = refl

-- one good line more
bad_later : (p q : Plan) (bytes : List ℕ) (ps : List (List ℕ)) (before : ℕ) → bytes_taken p bytes ≡ some q
    → BadAfter q ps before → BadAfter p (bytes ∷ ps) (suc before)
unfolding all_taken
bad_later p q bytes ps before e b =
    record {
      plan = b.plan;
      good = ap (λ (o : Option Plan). if_there o none (λ n. all_taken n (take before ps))) e ∙ b.good;
      bad = b.bad;
    }

good_later : (p q : Plan) (bytes : List ℕ) (ps : List (List ℕ)) → bytes_taken p bytes ≡ some q → AllGood q ps → AllGood p (bytes ∷ ps)
unfolding all_taken
good_later p q bytes ps e g =
    record {
      lines = bytes ∷ g.lines;
      whole = ap (λ (l : List (List ℕ)). bytes ∷ l) g.whole;
      plan = g.plan;
      good = ap (λ (o : Option Plan). if_there o none (λ n. all_taken n g.lines)) e ∙ g.good;
      is_begun = g.is_begun;
    }

-- what a walk comes to: the number of the first bad line, or all lines are good
abbrev Ends : ℕ → Plan → List (List ℕ) → Type 0
Ends number p ps =
    ((before : ℕ) × BadAfter p ps before × (walked number p ps ≡ bad_in (number + before)))
    ⊎ ((g : AllGood p ps) × (walked number p ps ≡ good_file g.plan.model))

walk_ends : (number : ℕ) (p : Plan) (ps : List (List ℕ)) → (ps ≡ [] → ⊥) → Ends number p ps
unfolding walked all_taken good_later
walk_ends number p [] some-there = absurd (some-there refl)
walk_ends number p ((byte ∷ bytes) ∷ []) some-there =
    inl (0, record { plan = p; good = refl; bad = no_line_feed }, ap bad_in (omega arith))
walk_ends number p ([] ∷ []) some-there = go (is_begun p) refl
  where
    go : (t : Bool) → is_begun p ≡ t → Ends number p ([] ∷ [])
    go true e =
        inr (record { lines = []; whole = refl; plan = p; good = refl; is_begun = e }, ap (λ (b : Bool). cond b (good_file p.model) (bad_in number)) e)
    go false e =
        inl (
          0,
          record { plan = p; good = refl; bad = no_first_line e },
          ap (λ (b : Bool). cond b (good_file p.model) (bad_in number)) e ∙ ap bad_in (omega arith),
        )
walk_ends number p (bytes ∷ next ∷ rest) some-there =
    go (bytes_taken p bytes) refl (λ q. walk_ends (suc number) q (next ∷ rest) (cons-ne-nil next rest))
  where
    step : {o : Option Plan} → bytes_taken p bytes ≡ o
        → walked number p (bytes ∷ next ∷ rest) ≡ if_there o (bad_in number) (λ q. walked (suc number) q (next ∷ rest))
    step e = ap (λ (o : Option Plan). if_there o (bad_in number) (λ q. walked (suc number) q (next ∷ rest))) e

    further : (q : Plan) → bytes_taken p bytes ≡ some q → Ends (suc number) q (next ∷ rest) → Ends number p (bytes ∷ next ∷ rest)
    further q e (inl bad) =
        inl (suc bad.0, bad_later p q bytes (next ∷ rest) bad.0 e bad.1, step e ∙ bad.2 ∙ ap bad_in (omega arith))
    further q e (inr good) = inr (good_later p q bytes (next ∷ rest) e good.0, step e ∙ good.1)

    go : (o : Option Plan) → bytes_taken p bytes ≡ o → ((q : Plan) → Ends (suc number) q (next ∷ rest)) → Ends number p (bytes ∷ next ∷ rest)
    go none e ih = inl (0, record { plan = p; good = refl; bad = refused e }, step e ∙ ap bad_in (omega arith))
    go (some q) e ih = further q e (ih q)

-- and where a line is the first bad one, the walk answers its number
bad_here : (number : ℕ) (p : Plan) (ps : List (List ℕ)) → Bad p ps → walked number p ps ≡ bad_in number
unfolding walked
bad_here number p [] never = elim never [ ]
bad_here number p (bytes ∷ next ∷ rest) (refused e) = ap (λ (o : Option Plan). if_there o (bad_in number) (λ q. walked (suc number) q (next ∷ rest))) e
bad_here number p ((byte ∷ bytes) ∷ []) no_line_feed = refl
bad_here number p ([] ∷ []) (no_first_line e) = ap (λ (b : Bool). cond b (good_file p.model) (bad_in number)) e

-- a bad line is there
bad_there : {p : Plan} (ps : List (List ℕ)) → Bad p ps → ps ≡ [] → ⊥
bad_there [] never f = elim never [ ]
bad_there (bytes ∷ next ∷ rest) (refused e) f = cons-ne-nil bytes (next ∷ rest) f
bad_there ((byte ∷ bytes) ∷ []) no_line_feed f = cons-ne-nil (byte ∷ bytes) [] f
bad_there ([] ∷ []) (no_first_line e) f = cons-ne-nil [] [] f

walk_bad : (number : ℕ) (p : Plan) (ps : List (List ℕ)) (before : ℕ) → BadAfter p ps before → walked number p ps ≡ bad_in (number + before)
unfolding walked all_taken
walk_bad number p ps zero b =
    let same : p ≡ b.plan = some-injective p b.plan b.good in
    bad_here number p ps (subst (λ (q : Plan). Bad q ps) (sym same) b.bad) ∙ ap bad_in (omega arith)
walk_bad number p [] (suc before) b = absurd (bad_there [] b.bad refl)
walk_bad number p (last ∷ []) (suc before) b = absurd (bad_there (drop before []) b.bad (drop-nil before))
walk_bad number p (bytes ∷ next ∷ rest) (suc before) b =
    go (bytes_taken p bytes) refl b.good (λ q. walk_bad (suc number) q (next ∷ rest) before)
  where
    go : (o : Option Plan) → bytes_taken p bytes ≡ o → if_there o none (λ q. all_taken q (take before (next ∷ rest))) ≡ some b.plan
        → ((q : Plan) → BadAfter q (next ∷ rest) before → walked (suc number) q (next ∷ rest) ≡ bad_in (suc number + before))
        → if_there (bytes_taken p bytes) (bad_in number) (λ q. walked (suc number) q (next ∷ rest)) ≡ bad_in (number + suc before)
    go none e g ih = absurd (none-ne-some b.plan g)
    go (some q) e g ih =
        ap (λ (o : Option Plan). if_there o (bad_in number) (λ q. walked (suc number) q (next ∷ rest))) e
        ∙ ih q (record { plan = b.plan; good = g; bad = b.bad }) ∙ ap bad_in (omega arith)

-- ---- a file

module _ (file : List ℕ) where
  ends : Ends 1 start (parts line_feed file)
  ends = walk_ends 1 start (parts line_feed file) (some_part line_feed file)

  -- the number of a bad line is that of the first one, and the panel is empty
  bad_told : (n : ℕ) → (file_read file).line ≡ suc n → BadAfter start (parts line_feed file) n × (file_read file ≡ bad_in (suc n))
  unfolding file_read
  bad_told n e = go ends
    where
      go : Ends 1 start (parts line_feed file) → BadAfter start (parts line_feed file) n × (walked 1 start (parts line_feed file) ≡ bad_in (suc n))
      go (inl (before, bad, is)) =
          let same : before ≡ n = below (sym (ap (λ (r : FileRead). r.line) is) ∙ e) in
          (subst (BadAfter start (parts line_feed file)) same bad, is ∙ ap bad_in (omega (arith, same)))
        where
          below : 1 + before ≡ suc n → before ≡ n
          below e = omega arith
      go (inr (good, is)) =
          let never : 0 ≡ suc n = sym (ap (λ (r : FileRead). r.line) is) ∙ e in
          absurd (omega arith)

  pub first_bad : (n : ℕ) → (file_read file).line ≡ suc n → FirstBad file (suc n)
  first_bad n e =
      let b : BadAfter start (parts line_feed file) n = (bad_told n e).0 in
      record { before = n; next = refl; plan = b.plan; good = b.good; bad = b.bad }

  pub bad_empties : (n : ℕ) → (file_read file).line ≡ suc n → (file_read file).panel ≡ bare
  bad_empties n e = ap (λ (r : FileRead). r.panel) (bad_told n e).1

  -- and no other line is
  pub first_bad_only : (number : ℕ) → FirstBad file number → file_read file ≡ bad_in number
  unfolding file_read
  first_bad_only number f =
      walk_bad 1 start (parts line_feed file) f.before (record { plan = f.plan; good = f.good; bad = f.bad })
      ∙ ap bad_in (omega (arith, f.next))

  -- where no line is bad, all are taken, the first is there, and nothing stands after the last line feed
  pub good_file_lem : (file_read file).line ≡ 0 → (g : AllGood start (parts line_feed file)) × (file_read file ≡ good_file g.plan.model)
  unfolding file_read
  good_file_lem e = go ends
    where
      go : Ends 1 start (parts line_feed file)
          → (g : AllGood start (parts line_feed file)) × (walked 1 start (parts line_feed file) ≡ good_file g.plan.model)
      go (inl (before, bad, is)) =
          let never : 1 + before ≡ 0 = sym (ap (λ (r : FileRead). r.line) is) ∙ e in
          absurd (omega arith)
      go (inr good) = good

-- Document 02, K3: what is so of every panel that is read from a file. It is sound, its blinds are fresh, its table holds the file's
-- links only, and that is the table that they give afresh, added in any order. Assumes nothing.
use Prim.Native.Nat.{ℕ, zero, suc}
use mathlib.Core.Path.{◌≡◌, refl, sym, ap, ap₂, ◌∙◌, subst}
use mathlib.Core.List.{List, [], ◌∷◌, ◌++◌, map, append-nil, append_assoc, Permᴰ}
use mathlib.Core.Option.{Option, none, some, some-injective, none-ne-some}
use Rattle.laws.specs.Every.{every}
use Rattle.laws.specs.Fills.{tabulate}
use Rattle.link.specs.declared.Link.{Link}
use Rattle.table.specs.Links.{Held, holding}
use Rattle.panel.specs.Panel.{Model, bare}
use Rattle.panel.specs.Sound.{Fine}
use Rattle.panel.proofs.Kept.{bare_sound}
use Rattle.wiring.specs.Afresh.{Rebuilt}
use Rattle.wiring.proofs.Rebuilt.{rebuilt}
use Rattle.texts.specs.Text.{text, same}
use Rattle.fields.specs.Parts.{parts}
use Rattle.fields.specs.Lines.{Line, line_feed, line_of}
use Rattle.plant.specs.Read.{Plan, start, if_there, taken, bytes_taken, FileRead, file_read}
use Rattle.plant.specs.Claims.{all_taken, link_named, links_named}
use Rattle.plant.proofs.Rewired.{AllFresh}
use Rattle.plant.proofs.Taken.{Grown, plan_lines, Follows, taken_follows}
use Rattle.plant.proofs.Walk.{AllGood, good_file_lem, bad_empties}

-- ---- lines one after the other

-- what lines that are all taken make of a plan
pub record Told (p : Plan) (rows : List (List ℕ)) (q : Plan) : Type 0 where
  pub grown : Grown q
  pub links : q.model.table.links ≡ p.model.table.links ++ links_named rows
  pub said : List Line
  pub each : map line_of rows ≡ map some said
  pub lines : plan_lines q ≡ plan_lines p ++ said

pub all_told : (p : Plan) (rows : List (List ℕ)) (q : Plan) → Grown p → all_taken p rows ≡ some q → Told p rows q
unfolding all_taken bytes_taken links_named
all_told p [] q g e =
    subst (Told p []) (some-injective p q e)
    (record { grown = g; links = sym (append-nil p.model.table.links); said = []; each = refl; lines = sym (append-nil (plan_lines p)) })
all_told p (bytes ∷ rows) q g e = go (line_of bytes) refl e (λ n. all_told n rows q)
  where
    Later : Type 0
    Later = (n : Plan) → Grown n → all_taken n rows ≡ some q → Told n rows q

    joins : (l : Line) (n : Plan) → line_of bytes ≡ some l → Follows p l n → Told n rows q → Told p (bytes ∷ rows) q
    joins l n is f t =
        record {
          grown = t.grown;
          links =
              t.links ∙ ap (λ (links : List Link). links ++ links_named rows) f.links
              ∙ append_assoc p.model.table.links (link_named (some l)) (links_named rows)
              ∙ ap (λ (o : Option Line). p.model.table.links ++ (link_named o ++ links_named rows)) (sym is);
          said = l ∷ t.said;
          each = ap₂ (λ (o : Option Line) (os : List (Option Line)). o ∷ os) is t.each;
          lines =
              t.lines ∙ ap (λ (ls : List Line). ls ++ t.said) f.lines
              ∙ append_assoc (plan_lines p) (l ∷ []) t.said;
        }

    by_line : (l : Line) (o : Option Plan) → line_of bytes ≡ some l → taken p l ≡ o → if_there o none (λ n. all_taken n rows) ≡ some q → Later
        → Told p (bytes ∷ rows) q
    by_line l none is t e later = absurd (none-ne-some q e)
    by_line l (some n) is t e later =
        let f : Follows p l n = taken_follows p l n g t in
        joins l n is f (later n f.grown e)

    go : (o : Option Line) → line_of bytes ≡ o → if_there (if_there o none (taken p)) none (λ n. all_taken n rows) ≡ some q → Later
        → Told p (bytes ∷ rows) q
    go none is e later = absurd (none-ne-some q e)
    go (some l) is e later = by_line l (taken p l) is refl e later

bare_fine : Fine bare
bare_fine = record { sound = bare_sound; full = refl }

pub start_grown : Grown start
start_grown =
    record {
      unread = λ none_yet. refl;
      high = λ tag h. refl;
      fine = bare_fine;
      fresh = λ tag seat at. absurd (none-ne-some seat at);
    }

-- what stands after the last line feed names no link
after_last : (rows : List (List ℕ)) → links_named (rows ++ [] ∷ []) ≡ links_named rows
unfolding links_named line_of parts every same text tabulate
after_last [] = refl
after_last (bytes ∷ rows) = ap (λ (links : List Link). link_named (line_of bytes) ++ links) (after_last rows)

-- a sound panel's table is the one that holds its links
table_whole : (m : Model) → Fine m → m.table ≡ holding m.table.links
table_whole m f = λ i. record { count = sym f.full i; links = m.table.links; tidy = f.sound.links.tidy i }

-- ---- a file

module _ (file : List ℕ) where
  -- of a file that reads
  module _ (good : (file_read file).line ≡ 0) where
    pub all_good : AllGood start (parts line_feed file)
    all_good = (good_file_lem file good).0

    pub panel_is : (file_read file).panel ≡ all_good.plan.model
    unfolding all_good
    panel_is = ap (λ (r : FileRead). r.panel) (good_file_lem file good).1

    pub file_told : Told start all_good.lines all_good.plan
    file_told = all_told start all_good.lines all_good.plan start_grown all_good.good

  -- what both the empty panel and a panel of lines have, every panel that is read has
  read_has : (P : Model → Type 0) → P bare → ((q : Plan) → Grown q → P q.model) → P (file_read file).panel
  read_has P empty grown = go (file_read file).line refl
    where
      go : (n : ℕ) → (file_read file).line ≡ n → P (file_read file).panel
      go zero e = subst P (sym (panel_is e)) (grown (all_good e).plan (file_told e).grown)
      go (suc n) e = subst P (sym (bad_empties file n e)) empty

  pub read_fine : Fine (file_read file).panel
  read_fine = read_has Fine bare_fine (λ q g. g.fine)

  pub read_fresh : AllFresh (file_read file).panel
  read_fresh = read_has AllFresh (λ tag seat at. absurd (none-ne-some seat at)) (λ q g. g.fresh)

  -- "after it the table holds the file's links only"
  pub read_table : (file_read file).line ≡ 0 → (file_read file).panel.table ≡ holding (links_named (parts line_feed file))
  read_table good =
      ap (λ (m : Model). m.table) (panel_is good)
      ∙ table_whole (all_good good).plan.model (file_told good).grown.fine
      ∙ ap holding
      ((file_told good).links ∙ sym (after_last (all_good good).lines) ∙ ap links_named (sym (all_good good).whole))

  pub read_afresh : (file_read file).line ≡ 0 → (order : List Link) → Permᴰ order (links_named (parts line_feed file))
      → Rebuilt order (file_read file).panel
  read_afresh good order perm =
      rebuilt (file_read file).panel read_fine order
      (subst (Permᴰ order) (sym (ap (λ (h : Held). h.links) (read_table good))) perm)

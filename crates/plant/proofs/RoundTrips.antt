-- Document 02, K3: "What the writer writes reads back as the same wiring with fresh blinds, and every file that reads is what the
-- writer would write." Assumes nothing.
use Prim.Native.Nat.{ℕ, suc, ◌≤◌}
use mathlib.Core.Path.{◌≡◌, refl, sym, ap, ap₂, subst, ◌∙◌}
use mathlib.Core.Bool.{Bool, true, cond}
use mathlib.Core.List.{List, [], ◌∷◌, ◌++◌, map, cons-ne-nil, append-ne-nil_of_right_ne-nil, head-eq_of_cons-eq, tail-eq_of_cons-eq}
use mathlib.Core.Option.{Option, none, some, some-injective, none-ne-some}
use lib.ListN.{length}
use Rattle.laws.proofs.Each.{Each, none as no_more, more, first, rest, each_map}
use Rattle.panel.specs.Panel.{Model}
use Rattle.panel.specs.Sound.{Fine}
use Rattle.texts.specs.Sheet.{joined}
use Rattle.fields.specs.Parts.{parts, between}
use Rattle.fields.specs.Lines.{Line, line_feed, line_bytes, line_text, line_of}
use Rattle.fields.proofs.Parts.{Clean, parts_back, parts_ended, ended_parts}
use Rattle.fields.proofs.Lines.{line_sound, line_complete, line_clean}
use Rattle.fields.specs.Room.{room}
use Rattle.plant.specs.Written.{plant_lines, plant_text}
use Rattle.plant.specs.Read.{Plan, start, is_begun, if_there, taken, bytes_taken, good_file, bad_in, walked, file_read}
use Rattle.plant.specs.Claims.{rewired}
use Rattle.plant.proofs.Walk.{AllGood, walk_on}
use Rattle.plant.proofs.LinesTaken.{lines_taken, plan_of}
use Rattle.plant.proofs.Readings.{Told, all_good, panel_is, file_told, read_fine}
use Rattle.plant.proofs.WrittenBack.{written_taken}
use Rattle.plant.proofs.Length.{plant_length}
use Rattle.plant.proofs.WrittenNumbers.{PlainLine, plain_lines}

-- a row with a line feed after it
abbrev ended : List ℕ → List ℕ
ended row = row ++ line_feed ∷ []

texts_ended : (ls : List Line) → map line_text ls ≡ map ended (map line_bytes ls)
unfolding line_text
texts_ended [] = refl
texts_ended (l ∷ ls) = ap (λ (rows : List (List ℕ)). line_text l ∷ rows) (texts_ended ls)

-- ---- reading what is written

-- lines that can be read back
abbrev ReadBack : List Line → Type 0
ReadBack = Each (λ l. line_of (line_bytes l) ≡ some l)

-- the bytes of lines that are taken are read, one after the other
walk_good : (number : ℕ) (p q : Plan) (ls : List Line) → ReadBack ls → lines_taken p ls ≡ some q → is_begun q ≡ true
    → walked number p (map line_bytes ls ++ [] ∷ []) ≡ good_file q.model
unfolding walked lines_taken bytes_taken
walk_good number p q [] back e on =
    ap (λ (n : Plan). cond (is_begun n) (good_file n.model) (bad_in number)) (some-injective p q e)
    ∙ ap (λ (t : Bool). cond t (good_file q.model) (bad_in number)) on
walk_good number p q (l ∷ ls) back e on =
    walk_on number p (line_bytes l) rows (append-ne-nil_of_right_ne-nil (map line_bytes ls) (cons-ne-nil [] []))
    ∙ ap (λ (o : Option Line). if_there (if_there o none (taken p)) (bad_in number) (λ n. walked (suc number) n rows)) (first back)
    ∙ go (taken p l) e (λ n. walk_good (suc number) n q ls (rest back))
  where
    rows : List (List ℕ)
    rows = map line_bytes ls ++ [] ∷ []

    go : (o : Option Plan) → if_there o none (λ n. lines_taken n ls) ≡ some q
        → ((n : Plan) → lines_taken n ls ≡ some q → is_begun q ≡ true → walked (suc number) n rows ≡ good_file q.model)
        → if_there o (bad_in number) (λ n. walked (suc number) n rows) ≡ good_file q.model
    go none e ih = absurd (none-ne-some q e)
    go (some n) e ih = ih n e on

clean_rows : (ls : List Line) → Each PlainLine ls → Each (Clean line_feed) (map line_bytes ls)
clean_rows [] e = no_more
clean_rows (l ∷ ls) e = more (line_clean l (first e).no_line_feed) (clean_rows ls (rest e))

pub written_reads : (m : Model) → Fine m → file_read (plant_text m) ≡ good_file (rewired m)
unfolding file_read plant_text
written_reads m f =
    let plain : Each PlainLine (plant_lines m) = plain_lines m f.sound in
    let taken-all = written_taken m f in
    ap (λ (rows : List (List ℕ)). walked 1 start (parts line_feed (joined rows))) (texts_ended (plant_lines m))
    ∙ ap (walked 1 start) (parts_ended line_feed (map line_bytes (plant_lines m)) (clean_rows (plant_lines m) plain))
    ∙ walk_good 1 start (plan_of (rewired m) taken-all.0) (plant_lines m)
    (each_map (λ l e. line_complete l e.no_tab e.numbers) plain) taken-all.1 refl

-- ---- every file that reads

-- rows that say lines are the bytes of these lines
rows_said : (rows : List (List ℕ)) (ls : List Line) → map line_of rows ≡ map some ls → rows ≡ map line_bytes ls
rows_said [] [] e = refl
rows_said [] (l ∷ ls) e = absurd (cons-ne-nil (some l) (map some ls) (sym e))
rows_said (row ∷ rows) [] e = absurd (cons-ne-nil (line_of row) (map line_of rows) e)
rows_said (row ∷ rows) (l ∷ ls) e =
    ap₂ (λ (bytes : List ℕ) (more : List (List ℕ)). bytes ∷ more) (line_sound row l (head-eq_of_cons-eq e)) (rows_said rows ls (tail-eq_of_cons-eq e))

pub reads_as_written : (file : List ℕ) → (file_read file).line ≡ 0 → file ≡ plant_text (file_read file).panel
unfolding plant_text
reads_as_written file good =
    let g : AllGood start (parts line_feed file) = all_good file good in
    let t : Told start g.lines g.plan = file_told file good in
    let said : plant_lines g.plan.model ≡ t.said =
    sym (ap (λ (b : Bool). cond b (plant_lines g.plan.model) []) g.is_begun) ∙ t.lines in
    sym (parts_back line_feed file)
    ∙ ap (between line_feed) g.whole
    ∙ sym (ended_parts line_feed g.lines)
    ∙ ap (λ (rows : List (List ℕ)). joined (map ended rows)) (rows_said g.lines t.said t.each)
    ∙ ap joined (sym (texts_ended t.said))
    ∙ ap (λ (ls : List Line). joined (map line_text ls)) (sym said)
    ∙ ap plant_text (sym (panel_is file good))

-- so no file that reads is longer than the least buffer that is lent
pub reads_short : (file : List ℕ) → (file_read file).line ≡ 0 → length file ≤ room
reads_short file good =
    subst (λ (bytes : List ℕ). length bytes ≤ room) (sym (reads_as_written file good)) (plant_length (file_read file).panel (read_fine file))

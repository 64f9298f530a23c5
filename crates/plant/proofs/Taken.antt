-- A line that is taken is the next line of the text: what the plan holds then is written as what it held before and this line.
-- Assumes nothing.
use Prim.Native.Nat.{ℕ, zero, suc, ◌≤◌}
use native.Mathlib.Omega.{arith}
use mathlib.Core.Path.{◌≡◌, refl, sym, ap, ap₂, ◌∙◌, subst}
use mathlib.Core.Bool.{Bool, true, false, cond, ◌&&◌, true≢false}
use mathlib.Core.List.{List, [], ◌∷◌, ◌++◌, append-nil}
use mathlib.Core.Option.{none, some, some-injective}
use lib.ListN.{length, get_or, drop}
use lib.Dec.{eqb, ltb, leb}
use borrow.Author.Tests.{eqb-true, ltb-true, ltb-false, leb-true}
use Rattle.laws.specs.Every.{every}
use Rattle.laws.specs.Fills.{tabulate}
use Rattle.laws.proofs.Choices.{both_left, both_right, same_or_other}
use Rattle.laws.proofs.Each.{each_of}
use Rattle.laws.proofs.Every.{every_at}
use Rattle.answers.specs.Answers.{refusal}
use Rattle.answers.specs.Rules.{Result}
use Rattle.answers.proofs.Rules.{answer_is, done}
use Rattle.params.specs.Numbers.{numbers_of, params_of}
use Rattle.params.proofs.Ranges.{ranges_decide}
use Rattle.params.proofs.Rows.{asked_forth}
use Rattle.blind.specs.Orders.{fresh_of}
use Rattle.link.specs.declared.Link.{Link}
use Rattle.link.specs.Link.{key_of, nothing}
use Rattle.table.specs.Links.{Held, holding}
use Rattle.links.specs.Edits.{inserted}
use Rattle.links.proofs.Order.{inserted_last}
use Rattle.panel.specs.declared.Seat.{Seat}
use Rattle.panel.specs.Panel.{Model, bare, reseated, relinked}
use Rattle.panel.specs.Sound.{Fine}
use Rattle.panel.specs.Calls.{Cells, no_cells, CallRule}
use Rattle.panel.proofs.Seats.{reseated_at, reseated_other, reseated_table}
use Rattle.installs.specs.Installs.{fresh_seat, install_rule}
use Rattle.installs.proofs.Passed.{Installable, installable}
use Rattle.installs.proofs.Soundness.{install_keeps}
use Rattle.wiring.specs.Wiring.{add_rule}
use Rattle.wiring.proofs.Soundness.{add_keeps}
use Rattle.texts.specs.Text.{text, same}
use Rattle.texts.proofs.Text.{same_rows}
use Rattle.fields.specs.Lines.{Line}
use Rattle.plant.specs.Written.{newest, first_line, blind_line, link_line, plant_lines}
use Rattle.plant.specs.Read.{Plan, is_begun, blind_size, begun, installed, with_blind, link_in, linked, is_above, with_link, opened, further, taken}
use Rattle.plant.specs.Claims.{link_named}
use Rattle.plant.proofs.Rewired.{AllFresh}
use Rattle.plant.proofs.Rows.{chosen, no_elements, two_first, one_number, three_numbers, line_is}
use Rattle.plant.proofs.WrittenLines.{NoneFrom, bare_lines, blind_last, link_last}

-- what is so of every plan that lines make
pub record Grown (p : Plan) : Type 0 where
  pub unread : p.version ≡ 0 → p.model ≡ bare
  pub high : NoneFrom p.floor p.model
  pub fine : Fine p.model
  pub fresh : AllFresh p.model

-- the lines that a plan was made of
abbrev pub plan_lines : Plan → List Line
plan_lines p = cond (is_begun p) (plant_lines p.model) []

-- a plan with one line more
pub record Follows (p : Plan) (l : Line) (q : Plan) : Type 0 where
  pub grown : Grown q
  pub lines : plan_lines q ≡ plan_lines p ++ l ∷ []
  pub links : q.model.table.links ≡ p.model.table.links ++ link_named (some l)

-- ---- what a line may be

-- the only version that there is
version_is : (n : ℕ) → ltb 0 (blind_size n) ≡ true → n ≡ newest
unfolding blind_size
version_is zero e = absurd (true≢false (sym e))
version_is (suc zero) e = refl
version_is (suc (suc n)) e = absurd (true≢false (sym e))

-- a line with another word names no link
no_link : (l : Line) (word : List ℕ) → l.word ≡ word → same word (text "link") ≡ false → (links : List Link)
    → links ≡ links ++ link_named (some l)
no_link l word w other links =
    sym (append-nil links)
    ∙ ap (λ (t : Bool). links ++ cond t (link_in l.numbers ∷ []) []) (sym (ap (λ (b : List ℕ). same b (text "link")) w ∙ other))

-- ---- the first line

module _ (p : Plan) (l : Line) (q : Plan) (g : Grown p) where
  first_follows : is_begun p ≡ false → opened p l ≡ some q → Follows p l q
  unfolding opened begun first_line same text tabulate
  first_follows new e =
      let w = chosen (same l.word (text "plant")) (begun p l.numbers) e in
      let b = chosen (eqb (length l.numbers) 1 && ltb 0 (blind_size (get_or l.numbers 0 0))) (some next) w.1 in
      let word : l.word ≡ text "plant" = same_rows l.word (text "plant") w.0 in
      let many : length l.numbers ≡ 1 = eqb-true (length l.numbers) 1 (both_left (eqb (length l.numbers) 1) _ b.0) in
      let version : get_or l.numbers 0 0 ≡ newest = version_is (get_or l.numbers 0 0) (both_right (eqb (length l.numbers) 1) _ b.0) in
      let empty : p.model ≡ bare = g.unread (zero_is p.version new) in
      let the-line : first_line ≡ l =
      line_is l word (ap (λ (n : ℕ). n ∷ []) (sym version) ∙ one_number l.numbers many) in
      subst (Follows p l) (some-injective next q b.1)
      (record {
        grown = record {
          unread = λ none_yet. empty;
          high = g.high;
          fine = g.fine;
          fresh = g.fresh;
        };
        lines =
            ap (λ (n : ℕ). cond (ltb 0 n) (plant_lines p.model) []) version
            ∙ ap plant_lines empty ∙ bare_lines
            ∙ ap (λ (k : Line). k ∷ []) the-line
            ∙ ap (λ (t : Bool). cond t (plant_lines p.model) [] ++ l ∷ []) (sym new);
        links = no_link l (text "plant") word refl p.model.table.links;
      })
    where
      next : Plan
      next = record { model = p.model; floor = p.floor; version = get_or l.numbers 0 0 }

      zero_is : (n : ℕ) → ltb 0 n ≡ false → n ≡ 0
      zero_is n e = let low = ltb-false 0 n e in omega (arith, low)

  -- ---- a blind

  module _ (on : is_begun p ≡ true) where
    -- what is written of a plan that has its first line
    begun_lines : plan_lines p ≡ plant_lines p.model
    begun_lines = ap (λ (t : Bool). cond t (plant_lines p.model) []) on

    blind_follows : l.word ≡ text "blind" → with_blind p l.numbers ≡ some q → Follows p l q
    unfolding with_blind install_rule blind_line fresh_of same text tabulate
    blind_follows word e =
        let b = chosen test (some next) e in
        let after = both_right (eqb (length ns) (blind_size p.version)) _ b.0 in
        let from : p.floor ≤ tag = leb-true p.floor tag (both_left (leb p.floor tag) _ after) in
        let links-and-answer = both_right (leb p.floor tag) _ after in
        let none_linked : p.model.table.count ≡ 0 = eqb-true p.model.table.count 0 (both_left (eqb p.model.table.count 0) _ links-and-answer) in
        let zero : (installed p ns).answer ≡ 0 = eqb-true (installed p ns).answer 0 (both_right (eqb p.model.table.count 0) _ links-and-answer) in
        let none_refuses : refusal (rule.checks p.model no_cells) ≡ 0 = sym (answer_is rule p.model no_cells) ∙ zero in
        let ok : Installable tag terminal (drop 2 ns) p.model no_cells = installable tag terminal (drop 2 ns) p.model no_cells none_refuses in
        let leaves : (installed p ns).leaves ≡ new = ap (λ (r : Result Model Cells). r.leaves) (done rule p.model no_cells zero) in
        let no_links : p.model.table.links ≡ [] = no_elements p.model.table.links (g.fine.full ∙ none_linked) in
        let numbers : tag ∷ terminal ∷ numbers_of (params_of (drop 2 ns)) ≡ ns =
        ap (λ (a : List ℕ). tag ∷ terminal ∷ a) (asked_forth (drop 2 ns) ok.within.fair)
        ∙ two_first ns ((ranges_decide (drop 2 ns)).holds ok.within.fair).size in
        let lower : NoneFrom tag p.model = λ other h. g.high other (omega arith) in
        subst (Follows p l) (ap planned (sym leaves) ∙ some-injective next q b.1)
        (record {
          grown = record {
            unread = λ none_yet. absurd (omega (arith, ltb-true 0 p.version on));
            high = λ other h. reseated_other tag (some seat) p.model other (λ same. omega arith) ∙ lower other (omega arith);
            fine = install_keeps p.model no_cells g.fine tag terminal (drop 2 ns) none_refuses;
            fresh = λ other one at.
                same_or_other other tag
                (λ same.
                let is : seat ≡ one = some-injective seat one (sym (reseated_at tag (some seat) p.model) ∙ (rw same at at)) in
                subst (λ (s : Seat). s.blind ≡ fresh_of s.blind.params) is refl)
                (λ apart. g.fresh other one (sym (reseated_other tag (some seat) p.model other apart) ∙ at));
          };
          lines =
              ap (λ (t : Bool). cond t (plant_lines new) []) on
              ∙ blind_last p.model tag seat ok.within.tag_low lower no_links
              ∙ ap₂ (λ (ls : List Line) (k : Line). ls ++ k ∷ []) (sym begun_lines) (line_is l word numbers);
          links =
              ap (λ (h : Held). h.links) (reseated_table tag (some seat) p.model)
              ∙ no_link l (text "blind") word refl p.model.table.links;
        })
      where
        ns : List ℕ
        ns = l.numbers

        tag : ℕ
        tag = get_or ns 0 0

        terminal : ℕ
        terminal = get_or ns 1 0

        rule : CallRule
        rule = install_rule tag terminal (drop 2 ns)

        seat : Seat
        seat = fresh_seat terminal (params_of (drop 2 ns))

        new : Model
        new = reseated tag (some seat) p.model

        planned : Model → Plan
        planned m = record { model = m; floor = suc tag; version = p.version }

        next : Plan
        next = planned (installed p ns).leaves

        test : Bool
        test =
            eqb (length ns) (blind_size p.version)
            && (leb p.floor tag && (eqb p.model.table.count 0 && eqb (installed p ns).answer 0))

    -- ---- a link

    link_follows : l.word ≡ text "link" → with_link p l.numbers ≡ some q → Follows p l q
    unfolding with_link add_rule link_line is_above same text tabulate
    link_follows word e =
        let b = chosen test (some next) e in
        let many : length ns ≡ 3 = eqb-true (length ns) 3 (both_left (eqb (length ns) 3) _ b.0) in
        let rest = both_right (eqb (length ns) 3) _ b.0 in
        let zero : (linked p ns).answer ≡ 0 = eqb-true (linked p ns).answer 0 (both_left (eqb (linked p ns).answer 0) _ rest) in
        let above : every (λ other. ltb (key_of other) (key_of link)) links ≡ true = both_right (eqb (linked p ns).answer 0) _ rest in
        let none_refuses : refusal ((add_rule link).checks p.model no_cells) ≡ 0 = sym (answer_is (add_rule link) p.model no_cells) ∙ zero in
        let leaves : (linked p ns).leaves ≡ new = ap (λ (r : Result Model Cells). r.leaves) (done (add_rule link) p.model no_cells zero) in
        let last : inserted key_of link links ≡ links ++ link ∷ [] =
        inserted_last key_of link links
        (each_of links nothing (λ i h. ltb-true _ _ ((every_at (λ other. ltb (key_of other) (key_of link)) links nothing).holds above i h))) in
        let named : link_named (some l) ≡ link ∷ [] =
        ap (λ (w : List ℕ). cond (same w (text "link")) (link ∷ []) []) word in
        subst (Follows p l) (ap planned (sym leaves) ∙ some-injective next q b.1)
        (record {
          grown = record {
            unread = λ none_yet. absurd (omega (arith, ltb-true 0 p.version on));
            high = g.high;
            fine = add_keeps p.model no_cells g.fine link none_refuses;
            fresh = g.fresh;
          };
          lines =
              ap (λ (t : Bool). cond t (plant_lines new) []) on
              ∙ link_last p.model link (inserted key_of link links) last
              ∙ ap₂ (λ (ls : List Line) (k : Line). ls ++ k ∷ []) (sym begun_lines) (line_is l word (three_numbers ns many));
          links = last ∙ ap (λ (more : List Link). links ++ more) (sym named);
        })
      where
        ns : List ℕ
        ns = l.numbers

        link : Link
        link = link_in ns

        links : List Link
        links = p.model.table.links

        new : Model
        new = relinked (holding (inserted key_of link links)) p.model

        planned : Model → Plan
        planned m = record { model = m; floor = p.floor; version = p.version }

        next : Plan
        next = planned (linked p ns).leaves

        test : Bool
        test = eqb (length ns) 3 && (eqb (linked p ns).answer 0 && is_above link links)

    further_follows : further p l ≡ some q → Follows p l q
    unfolding further
    further_follows e = go (same l.word (text "blind")) refl e
      where
        go : (t : Bool) → same l.word (text "blind") ≡ t
            → cond t (with_blind p l.numbers) (cond (same l.word (text "link")) (with_link p l.numbers) none) ≡ some q
            → Follows p l q
        go true word e = blind_follows (same_rows l.word (text "blind") word) e
        go false word e =
            let is = chosen (same l.word (text "link")) (with_link p l.numbers) e in
            link_follows (same_rows l.word (text "link") is.0) is.1

  -- ---- any line

  pub taken_follows : taken p l ≡ some q → Follows p l q
  unfolding taken
  taken_follows e = go (is_begun p) refl e
    where
      go : (t : Bool) → is_begun p ≡ t → cond t (further p l) (opened p l) ≡ some q → Follows p l q
      go true on e = further_follows on e
      go false new e = first_follows new e

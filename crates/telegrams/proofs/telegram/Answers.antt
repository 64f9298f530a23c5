-- Refused: as it was. Accepted: after each turn one more link of the address has spoken, and the cells tell of what has been done so far.
-- Assumes nothing.
use Rattle.std.proofs.Common.{◌≡◌, ℕ, ◌+◌, ◌^◌, ◌<◌, ◌≤◌, true, List, length, get_or, refl, sym, ap, ◌∙◌, rules, arith}
use Rattle.laws.proofs.Fills.{long}
use Rattle.answers.specs.Answers.{refusal}
use Rattle.tags.specs.Tags.{places}
use Rattle.link.specs.declared.Link.{Link}
use Rattle.link.specs.Link.{of_word}
use Rattle.panel.specs.declared.Panel.{Panel}
use Rattle.panel.specs.Panel.{model_of}
use Rattle.panel.specs.Sound.{Sound, is_sound}
use Rattle.panel.specs.Calls.{row, checks}
use Rattle.panel.specs.Reports.{reports}
use Rattle.panel.proofs.Decides.{table_sound, sound_panel}
use Rattle.panel.proofs.Checks.{lent_wrong, lent_right, passed}
use Rattle.outputs.specs.Reports.{no_report}
use Rattle.std.specs.Prelude.{replicate}
use Rattle.panel.proofs.Cells.{all_alike}
use Rattle.panel.proofs.Rules.{refuses, does}
use Rattle.telegrams.specs.Telegrams.{is_outside, link_checks, Together, telegram_rule}
use Rattle.telegrams.specs.Cases.{Telegram}
use Rattle.telegrams.proofs.Ranges.{inside}
use Rattle.telegrams.proofs.Reached.{ends_low, span_delivered}
use Rattle.telegrams.proofs.Delivery.{Delivering, deliver_start, deliver_lent, deliver_fits, deliver_turn, deliver_end, tag_low}
use Rattle.telegrams.proofs.telegram.Goals as goal

-- past 11 the judge gives the answer
judged : (address value : ℕ) (p : Panel) (cells : List ℕ) {n : ℕ} → length cells ≡ places
    → n ≡ refusal (checks (model_of p) (is_outside address value) (link_checks address value (model_of p).table.links))
    → refusal ((telegram_rule address value).checks (model_of p) (row cells)) ≡ n
unfolding telegram_rule
judged address value p cells lent told = lent_right places _ _ _ _ lent ∙ sym told

-- what is known once nothing refuses
record Known (address value : ℕ) (p : Panel) (start count : ℕ) : Type 0 where
  whole : is_sound (model_of p) ≡ true
  telegram : Telegram address value
  sound : Sound (model_of p)
  room : length p.table.words ≡ 512
  span : Together address (model_of p).table.links start count
  fits : start + count ≤ p.table.count
  short : start + count ≤ 512

known : (address value : ℕ) (p : Panel) {start count : ℕ} → length p.table.words ≡ 512 → p.present.word < 2 ^ 64
    → 0 ≡ refusal (checks (model_of p) (is_outside address value) (link_checks address value (model_of p).table.links))
    → Together address (model_of p).table.links start count → Known address value p start count
known address value p {start} {count} room word done span =
    let all = passed (model_of p) (is_outside address value) (link_checks address value (model_of p).table.links) (sym done) in
    let sound : Sound (model_of p) = sound_panel p word all.sound in
    let fits : start + count ≤ p.table.count = omega (arith, span.from, span.counted, ends_low p.table address (table_sound (model_of p) all.sound) room) in
    record {
      whole = all.sound;
      telegram = inside _ _ all.within;
      sound = sound;
      room = room;
      span = span;
      fits = fits;
      short = omega (arith, fits, sound.links.at_most);
    }

module _ {address value : ℕ} {p : Panel} {start count : ℕ} (k : Known address value p start count)
    {next : Panel} {cells : List ℕ} {turn : ℕ} (so_far : Delivering value p start count next cells turn) where
  -- the link is the one that the table has there: a delivery leaves the table
  read : (i : ℕ) (link : Link) → link ≡ of_word (get_or next.table.words i 0) → link ≡ of_word (get_or p.table.words i 0)
  read i link e = e ∙ ap (λ (q : Panel). of_word (get_or q.table.words i 0)) so_far.only

  words_kept : length next.table.words ≡ 512
  words_kept = ap (λ (q : Panel). length q.table.words) so_far.only ∙ k.room

  -- its tag is one of the 64
  low : (i : ℕ) (link : Link) → turn < count → i ≡ start + turn → link ≡ of_word (get_or next.table.words i 0) → link.tag < places
  low i link h e f = tag_low value p start count k.sound k.room k.fits i (omega (arith, e)) link (read i link f)

pub returns-then-cells-ne-CELLS : goal.returns-then-cells-ne-CELLS
unfolding telegram_rule
returns-then-cells-ne-CELLS c = refuses _ _ _ c.refused.ensures (lent_wrong places _ _ _ _ c.if-cells-ne-CELLS.true)

pub returns-in-Err : goal.returns-in-Err
returns-in-Err c =
    refuses _ _ _ c.refused-in-Err.ensures (judged c.args.address c.args.value c.args.panel c.args.cells.now c.if-cells-ne-CELLS.false c.in-Err.ensures.answer)

pub overflow_cast-byte : goal.overflow_cast-byte
overflow_cast-byte c =
    let k = known c.args.address c.args.value c.args.panel (search rules) (search rules) c.in-Ok.ensures.answer c.in-Ok.ensures.reach in
    omega (arith, k.telegram.byte)

pub loop-turn-init : goal.loop-turn-init
loop-turn-init c =
    let k = known c.args.address c.args.value c.args.panel (search rules) (search rules) c.in-Ok.ensures.answer c.in-Ok.ensures.reach in
    deliver_start _ _ _ _ (search (long, rules)) k.sound (c.fill.ensures.after (λ y e. e) ∙ ap (λ (n : ℕ). replicate n no_report) c.if-cells-ne-CELLS.false ∙ all_alike places no_report)

pub place-requires-clause-count_bound : goal.place-requires-clause-count_bound
place-requires-clause-count_bound c =
    let k = known c.args.address c.args.value c.args.panel (search rules) (search rules) c.in-Ok.ensures.answer c.in-Ok.ensures.reach in
    k.short

pub link_at-link-requires : goal.link_at-link-requires
link_at-link-requires c =
    let k = known c.args.address c.args.value c.args.panel (search rules) (search rules) c.in-Ok.ensures.answer c.in-Ok.ensures.reach in
    omega (arith, k.short, words_kept k c.loop-turn.invariant)

pub bounds-before-tag : goal.bounds-before-tag
bounds-before-tag c =
    let k = known c.args.address c.args.value c.args.panel (search rules) (search rules) c.in-Ok.ensures.answer c.in-Ok.ensures.reach in
    low k c.loop-turn.invariant c.place.result c.link_at-link.result c.loop-turn-test.true c.place.ensures c.link_at-link.ensures

pub bounds-panel-tag : goal.bounds-panel-tag
bounds-panel-tag c =
    let k = known c.args.address c.args.value c.args.panel (search rules) (search rules) c.in-Ok.ensures.answer c.in-Ok.ensures.reach in
    low k c.loop-turn.invariant c.place.result c.link_at-link.result c.loop-turn-test.true c.place.ensures c.link_at-link.ensures

pub bounds-panel-tag-in-loop-turn : goal.bounds-panel-tag-in-loop-turn
bounds-panel-tag-in-loop-turn c =
    let k = known c.args.address c.args.value c.args.panel (search rules) (search rules) c.in-Ok.ensures.answer c.in-Ok.ensures.reach in
    low k c.loop-turn.invariant c.place.result c.link_at-link.result c.loop-turn-test.true c.place.ensures c.link_at-link.ensures

pub loop-turn-preserved : goal.loop-turn-preserved
loop-turn-preserved c =
    let k = known c.args.address c.args.value c.args.panel (search rules) (search rules) c.in-Ok.ensures.answer c.in-Ok.ensures.reach in
    let link = c.link_at-link.result in
    deliver_turn c.args.value c.args.panel _ _ k.sound k.room k.fits c.place.result (omega (arith, c.place.ensures, c.loop-turn-test.true)) link (read k c.loop-turn.invariant c.place.result link c.link_at-link.ensures)
    c.loop-turn.turn c.loop-turn-test.true c.place.ensures c.loop-turn.invariant k.telegram.byte c.hear-new.result c.hear-new.ensures c.report.ensures

pub overflow_cast-cells : goal.overflow_cast-cells
overflow_cast-cells c =
    let k = known c.args.address c.args.value c.args.panel (search rules) (search rules) c.in-Ok.ensures.answer c.in-Ok.ensures.reach in
    let link = c.link_at-link.result in
    omega (
      arith,
      deliver_fits c.args.value c.args.panel _ _ k.sound k.room k.fits c.place.result (omega (arith, c.place.ensures, c.loop-turn-test.true)) link (read k c.loop-turn.invariant c.place.result link c.link_at-link.ensures)
          c.loop-turn.turn c.loop-turn-test.true c.place.ensures c.loop-turn.invariant k.telegram.byte c.hear-new.result c.hear-new.ensures c.report.ensures,
    )

pub bounds-cells-tag : goal.bounds-cells-tag
bounds-cells-tag c =
    let k = known c.args.address c.args.value c.args.panel (search rules) (search rules) c.in-Ok.ensures.answer c.in-Ok.ensures.reach in
    omega (arith, low k c.loop-turn.invariant c.place.result c.link_at-link.result c.loop-turn-test.true c.place.ensures c.link_at-link.ensures, deliver_lent _ _ _ _ c.loop-turn.invariant)

pub returns : goal.returns
unfolding telegram_rule
returns c =
    let p = c.args.panel in
    let k = known c.args.address c.args.value p (search rules) (search rules) c.in-Ok.ensures.answer c.in-Ok.ensures.reach in
    let over = deliver_end c.args.value p _ _ c.loop-turn.invariant c.loop-turn-test.false in
    let left = span_delivered c.args.address c.args.value p (table_sound (model_of p) k.whole) k.room k.span.from k.span.counted over.0 in
    does _ _ _ c.done.ensures
    (judged c.args.address c.args.value p c.args.cells.now c.if-cells-ne-CELLS.false c.in-Ok.ensures.answer)
    refl k.span.counted left
    (ap row (over.1 ∙ ap (reports (model_of p)) left))

-- A telegram answers each number exactly in its case (specs/Cases): each check decides the statement of its case.
-- Assumes nothing.
use Prim.Native.Nat.{ℕ}
use Rattle.answers.proofs.Exact.{Told, all_told, told_then, told}
use Rattle.tags.specs.Tags.{places}
use Rattle.table.proofs.Sound.{sound_decided}
use Rattle.panel.specs.Panel.{Model}
use Rattle.panel.specs.Sound.{Tagged}
use Rattle.panel.specs.Calls.{Cells}
use Rattle.panel.proofs.Exact.{lent_told}
use Rattle.telegrams.specs.Telegrams.{link_checks, telegram_rule}
use Rattle.telegrams.specs.Cases.{telegram_cases}
use Rattle.telegrams.proofs.Ranges.{outside_decides}
use Rattle.telegrams.proofs.Found.{none_decides, class_decides}

pub telegram_told : (address value : ℕ) (m : Model) (cells : Cells) → Tagged m
    → Told ((telegram_rule address value).checks m cells) (telegram_cases address value m cells)
unfolding telegram_rule link_checks
telegram_told address value m cells tagged =
    lent_told places cells m tagged (outside_decides address value)
    (λ sound within.
    told_then 5 (none_decides address m)
    (λ linked. told 6 (class_decides address value m ((sound_decided m.table).1 sound.links) linked) all_told))

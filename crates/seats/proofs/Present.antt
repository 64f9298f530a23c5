-- The tags that are there: what the presence word of a panel tells of its seats. Assumes nothing.
use Prim.Native.Nat.{ℕ}
use mathlib.Core.Path.{◌≡◌, sym, ap, ◌∙◌}
use mathlib.Core.Bool.{Bool}
use Rattle.tags.specs.Tags.{TagSet, tags_of}
use Rattle.panel.specs.declared.Panel.{Panel}
use Rattle.panel.specs.Panel.{model_of, present_in}
use Rattle.panel.proofs.Seats.{present_tags}

-- a tag is there exactly if the presence word has it
pub present_at : (p : Panel) (tag : ℕ) {b : Bool} → b ≡ tags_of p.present tag → present_in (model_of p) tag ≡ b
present_at p tag e = ap (λ (s : TagSet). s tag) (present_tags p) ∙ sym e

-- Document 02, K2: "a finished run to v, with nothing in between, reports v for every v from 1 to 254", said of a telegram and all calls
-- after it.
-- Assumes nothing.
use Rattle.std.specs.Prelude.{ℕ, ◌+◌, ◌≤◌, ◌<◌, ◌≡◌, cond, [], ◌∷◌}
use Rattle.heights.specs.Heights.{target}
use Rattle.blind.specs.declared.Blind.{Blind}
use Rattle.outputs.specs.Reports.{active}
use Rattle.conduct.specs.Ends.{until_end}
use Rattle.panel.specs.Panel.{Model}
use Rattle.demands.specs.Runs.{Turn, Run, Each, gives, duration}
use Rattle.demands.specs.Calm.{Unedited, heard}

-- Of all cells that the telegram and the calls after it fill for the blind: while its run lasts each is 512. Once it is over exactly one
-- is not, as long as no accepted edit changes the blind, and it is v + 256. Where the length is 0 that one is the telegram's own, if the
-- blind ran or waited before it; else none is.
pub record Reports (v tag : ℕ) (before after : Blind) (sent : Turn) (run : Run) (m : Model) : Type 0 where
  pub silent_before : duration run (gives sent m).leaves < until_end after.motion → heard tag (sent ∷ run) m ≡ []
  pub told_once : (before.place.position ≡ target v before.params → ⊥) → until_end after.motion ≤ duration run (gives sent m).leaves
      → Each (Unedited tag) run (gives sent m).leaves → heard tag (sent ∷ run) m ≡ (v + 256) ∷ []
  pub told_at_once : before.place.position ≡ target v before.params → heard tag (sent ∷ []) m ≡ cond (active before) ((v + 256) ∷ []) []
  pub silent_after : before.place.position ≡ target v before.params → Each (Unedited tag) run (gives sent m).leaves
      → heard tag run (gives sent m).leaves ≡ []

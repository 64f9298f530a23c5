-- Answer lines, `show`: what the motor of a blind does.
-- Assumes nothing.
use Rattle.std.specs.Prelude.{ℕ, List, [], ◌∷◌}
use Rattle.heights.specs.declared.Direction.{Direction}
use Rattle.runs.specs.declared.Goal.{Goal}
use Rattle.runs.specs.declared.Run.{Run}
use Rattle.blind.specs.declared.Motion.{Motion}
use Rattle.texts.specs.Text.{text}
use Rattle.texts.specs.Sheet.{joined}
use Rattle.decimals.specs.Decimals.{decimal}

unfoldable pub direction_text : Direction → List ℕ
direction_text Direction.Up = text "up"
direction_text Direction.Down = text "down"

unfoldable pub goal_text : Goal → List ℕ
goal_text Goal.Full = text ":full:"
goal_text Goal.Step = text ":step:"
goal_text Goal.Position = text ":pos:"

-- "Direction, full, step or pos, length."
unfoldable pub run_text : Run → List ℕ
run_text run = joined (direction_text run.direction ∷ goal_text run.goal ∷ decimal run.length ∷ [])

-- "Rest is 0 while running", "run and wait are - or" a run.
unfoldable pub motion_text : Motion → List ℕ
motion_text (Motion.Off rest) = joined (text " rest=" ∷ decimal rest ∷ text " run=- wait=-" ∷ [])
motion_text (Motion.Waits rest run) = joined (text " rest=" ∷ decimal rest ∷ text " run=- wait=" ∷ run_text run ∷ [])
motion_text (Motion.Runs run) = joined (text " rest=0 run=" ∷ run_text run ∷ text " wait=-" ∷ [])

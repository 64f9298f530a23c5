-- Document 01, "Edits", for one blind: the write of parameters.
-- Assumes nothing.
use Rattle.params.specs.declared.Params.{Params}
use Rattle.heights.specs.Heights.{unknown}
use Rattle.blind.specs.declared.Motion.{Motion}
use Rattle.blind.specs.declared.Blind.{Blind}
use Rattle.blind.specs.Fields.{with_params, with_place, with_motion}
use Rattle.duties.specs.Rulers.{duty_of}
use Rattle.rules.specs.Rules.{ruled}

-- "Write parameters: position 0, not valid, rest time the new RPT, last direction and flags kept; then the duty rule if the
-- duty changed."
unfoldable pub rewritten : Params → Blind → Blind
rewritten p b = ruled (duty_of b) (with_motion (Motion.Off p.rpt) (with_place unknown (with_params p b)))

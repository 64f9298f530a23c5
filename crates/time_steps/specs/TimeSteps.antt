-- Document 01, "One millisecond": "a time step of dt, 0 to 60,000, is dt such milliseconds for every blind".
-- Assumes nothing.
use Rattle.std.specs.Prelude.{ℕ, [], ltb}
use Rattle.tags.specs.Tags.{places}
use Rattle.milliseconds.specs.Milliseconds.{milliseconds}
use Rattle.panel.specs.Panel.{Model, each_seat, on_blind}
use Rattle.panel.specs.Calls.{row, lent_checks, CallRule}
use Rattle.panel.specs.Reports.{reports}

-- "A time step of dt, 0 to 60,000."
abbrev pub longest : ℕ
longest = 60000

-- "Dt such milliseconds for every blind."
unfoldable pub after_step : ℕ → Model → Model
after_step dt = each_seat (λ tag. on_blind (milliseconds dt))

-- What refuses a time step, and where nothing does: every blind is dt milliseconds on, and each cell tells of it. It has no count.
unfoldable pub step_rule : ℕ → CallRule
step_rule dt =
    record {
      checks = λ m cells. lent_checks places cells m (ltb longest dt) [];
      count = λ m. 0;
      second = λ m. 0;
      leaves = after_step dt;
      fills = λ m cells. row (reports m (after_step dt m));
    }

-- The test of soundness decides the statement, clause by clause.
-- Assumes nothing.
use Prim.Native.Nat.{ℕ}
use mathlib.Core.Path.{◌≡◌, refl, sym, ap, ◌∙◌}
use mathlib.Core.Bool.{true}
use Rattle.std.specs.Prelude.{Option, Some, None}
use Rattle.laws.specs.Decides.{Decides}
use Rattle.laws.proofs.Choices.{never_both}
use Rattle.laws.proofs.Deciding.{le, lt, eq, always, and, neither, said}
use Rattle.params.specs.declared.Params.{Params}
use Rattle.params.proofs.Ranges.{params_decide}
use Rattle.heights.specs.declared.Direction.{Direction}
use Rattle.heights.specs.Heights.{full_time, bottom}
use Rattle.runs.specs.declared.Goal.{Goal}
use Rattle.runs.specs.declared.Run.{Run}
use Rattle.runs.specs.Orders.{last_of, is_last}
use Rattle.blind.specs.declared.Motion.{Motion}
use Rattle.blind.specs.declared.Blind.{Blind}
use Rattle.sound_blind.specs.Sound.{SoundRun, WholeOf, SoundWait, SoundRunning, SoundMotion, Sound}
use Rattle.sound_blind.specs.Sound.{longest, sound_run, whole_of, sound_wait, sound_running, sound_motion, sound}

-- ---- the last direction

own_last : (d : Direction) → is_last d (last_of d) ≡ true
own_last Direction.Up = refl
own_last Direction.Down = refl

is_last_lem : (d : Direction) (last : Option Direction) → is_last d last ≡ true → last ≡ last_of d
is_last_lem d None e = never_both true refl (sym e)
is_last_lem Direction.Up (Some Direction.Up) e = refl
is_last_lem Direction.Up (Some Direction.Down) e = never_both true refl (sym e)
is_last_lem Direction.Down (Some Direction.Up) e = never_both true refl (sym e)
is_last_lem Direction.Down (Some Direction.Down) e = refl

pub last_decides : (d : Direction) (last : Option Direction) → Decides (is_last d last) (last ≡ last_of d)
last_decides d last = record { holds = is_last_lem d last; tested = λ e. ap (is_last d) e ∙ own_last d }

-- ---- the clauses

run_decides : (p : Params) (run : Run) → Decides (sound_run p run) (SoundRun p run)
run_decides p run =
    said (λ h. record { least = h.0; most = h.1 }) (λ s. (s.least, s.most))
    (and (le 1 run.length) (le run.length (longest p run)))

whole_decides : (p : Params) (d : Direction) (goal : Goal) (length : ℕ) → Decides (whole_of p d goal length) (WholeOf p d goal length)
whole_decides p d Goal.Full length = eq length (full_time d p)
whole_decides p d Goal.Step length = eq length p.sst
whole_decides p d Goal.Position length = always

wait_decides : (p : Params) (last : Option Direction) (rest : ℕ) (run : Run) → Decides (sound_wait p last rest run) (SoundWait p last rest run)
unfolding sound_wait
wait_decides p last rest run =
    said
    (λ h. record { rest_above = h.0; rest_most = h.1.0; length = h.1.1.0; whole = h.1.1.1.0; other = h.1.1.1.1 })
    (λ s. (s.rest_above, (s.rest_most, (s.length, (s.whole, s.other)))))
    (and (lt 0 rest)
    (and (le rest p.rpt)
    (and (run_decides p run)
    (and (whole_decides p run.direction run.goal run.length) (neither (last_decides run.direction last))))))

running_decides : (p : Params) (last : Option Direction) (run : Run) → Decides (sound_running p last run) (SoundRunning p last run)
unfolding sound_running
running_decides p last run =
    said (λ h. record { length = h.0; own = h.1 }) (λ s. (s.length, s.own))
    (and (run_decides p run) (last_decides run.direction last))

motion_decides : (p : Params) (last : Option Direction) (motion : Motion) → Decides (sound_motion p last motion) (SoundMotion p last motion)
unfolding sound_motion
motion_decides p last (Motion.Off rest) = le rest p.rpt
motion_decides p last (Motion.Waits rest run) = wait_decides p last rest run
motion_decides p last (Motion.Runs run) = running_decides p last run

-- ---- one blind

pub sound_decides : (b : Blind) → Decides (sound b) (Sound b)
unfolding sound
sound_decides b =
    said (λ h. record { params = h.0; position = h.1.0; motion = h.1.1 }) (λ s. (s.params, (s.position, s.motion)))
    (and (params_decide b.params)
    (and (le b.place.position (bottom b.params)) (motion_decides b.params b.last b.motion)))

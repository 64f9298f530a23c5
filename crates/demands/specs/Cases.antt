-- Document 01, "Cases by number": W1 to W12 as scripts of calls on the panel, with what is seen after them; `cases` is the one list. W3 is
-- read as K2 has it, W9 as K5 has it. Beside them R3, and the caretaker's story.
-- Assumes nothing.
use Rattle.std.specs.Prelude.{ℕ, ◌+◌, Bool, List, [], ◌∷◌, ◌++◌, eqb}
use Rattle.laws.specs.Every.{every}
use Rattle.params.specs.Parameters.{defaults}
use Rattle.panel.specs.Panel.{bare}
use Rattle.outputs.specs.Reports.{no_report}
use Rattle.params.specs.Numbers.{numbers_of}
use Rattle.demands.specs.Calls.{Call, telegram, time_step, install, add_link, splice_in}
use Rattle.demands.specs.Runs.{motor_seen}
use Rattle.demands.specs.Whole.{reseat}
use Rattle.demands.specs.Looks.{Seen, Line, right, plain, look, refused, ends, changes, nothing, off, up, down, reports, resting, up_waits, full_length, rested_up, pausing, held, frost_set, standing_at, stands, both}

-- ---- "Blind 5 at terminal 9, defaults, fresh, each kind on its own address": the address of a kind is one above it

abbrev pub link : ℕ → Line
link kind = plain (add_link (record { address = kind + 1; tag = 5; kind = kind }))

abbrev pub fresh : List Line
fresh =
    plain (install 5 9 (numbers_of defaults))
    ∷ link 0 ∷ link 1 ∷ link 2 ∷ link 3 ∷ link 4 ∷ link 5 ∷ link 6 ∷ link 7 ∷ []

abbrev pub WA : ℕ → Call
WA v = telegram 1 v

abbrev pub FA : ℕ → Call
FA v = telegram 3 v

abbrev pub FO : ℕ → Call
FO v = telegram 4 v

abbrev pub MUD : ℕ → Call
MUD v = telegram 5 v

abbrev pub STOP : ℕ → Call
STOP v = telegram 6 v

abbrev pub SSUD : ℕ → Call
SSUD v = telegram 7 v

abbrev pub SAPBP : ℕ → Call
SAPBP v = telegram 8 v

-- ---- the cases

-- "MUD 0, then 499 ms: off. 1 ms more: up."
abbrev pub w1 : List Line
w1 = fresh ++ (plain (MUD 0) ∷ look (time_step 499) off ∷ look (time_step 1) up ∷ [])

-- "From W1, 59,999 ms: up. 1 ms more: off, report 256."
abbrev pub w2 : List Line
w2 = w1 ++ (look (time_step 59999) up ∷ look (time_step 1) (both off (reports 256)) ∷ [])

-- "Then SAPBP 128 at once: off; 500 ms: down; 30,117 ms: off, report" 384, as K2 has it.
abbrev pub w3 : List Line
w3 = w2 ++ (look (SAPBP 128) off ∷ ends 500 off down ∷ ends 30117 down (both off (reports 384)) ∷ [])

-- "Running up, MUD 1: off; 499 ms: off; 1 ms: down."
abbrev pub w4 : List Line
w4 = w1 ++ (look (MUD 1) off ∷ look (time_step 499) off ∷ look (time_step 1) down ∷ [])

-- "Full run down, SSUD 0: off, nothing waits."
abbrev pub w5 : List Line
w5 = fresh ++ (plain (MUD 1) ∷ look (time_step 500) (both down full_length) ∷ look (SSUD 0) (both off resting) ∷ [])

-- "Last direction up, rest time 0, SSUD 0: up; 200 ms: off."
abbrev pub w6 : List Line
w6 = w1 ++ (look (STOP 0) off ∷ look (time_step 500) rested_up ∷ look (SSUD 0) up ∷ ends 200 up off ∷ [])

-- "Fresh, SAPBP 100: answer 0, still at rest."
abbrev pub w7 : List Line
w7 = fresh ++ (look (SAPBP 100) resting ∷ [])

-- "Fresh, WA 1, MUD 1: an up run waits. WA 0: at rest, report 0."
abbrev pub w8 : List Line
w8 = fresh ++ (look (WA 1) up_waits ∷ look (MUD 1) up_waits ∷ look (WA 0) (both resting (reports 0)) ∷ [])

-- K5: "W9 now reads that FA 1 gives Hold." The flag is set and no other field changes; the duty is Hold, so a MUD after it is dropped.
abbrev pub w9 : List Line
w9 =
    fresh
    ++ (changes (FA 1) (reseat 5 frost_set) (both held (both off (reports no_report)))
    ∷ changes (MUD 1) nothing (both off (reports no_report))
    ∷ [])

-- "Running down under FO 3, WA 1: off, up waits. WA 0 in the same instant: down, full length."
abbrev pub w10 : List Line
w10 =
    fresh
    ++ (plain (FO 3) ∷ look (time_step 500) down ∷ plain (time_step 1000) ∷ look (WA 1) (both off up_waits) ∷ look (WA 0) (both down full_length) ∷ [])

abbrev pub not_busy : List Line
not_busy = fresh ++ (plain (install 6 8 (numbers_of defaults)) ∷ plain (time_step 500) ∷ [])

-- "Not busy, splice in 2 at 9: terminal 11; a blind at 8 stays." And "nothing else changes", as document 01 says of splices.
abbrev pub w11 : List Line
w11 = not_busy ++ (changes (splice_in 9 2) (reseat 5 (standing_at 11)) (both (stands 5 11) (stands 6 8)) ∷ [])

-- "Not busy, splice in at 9: n = 118 gives terminal 127; instead, 119 is answered 9 and 120 is answered 1. A fresh blind, still in its
-- first pause: 119 is answered 3."
abbrev pub w12 : List Line
w12 =
    fresh
    ++ (refused (splice_in 9 119) 3
    ∷ plain (time_step 500)
    ∷ refused (splice_in 9 119) 9
    ∷ refused (splice_in 9 120) 1
    ∷ changes (splice_in 9 118) (reseat 5 (standing_at 127)) (stands 5 127)
    ∷ [])

-- R3, "MUD and STOP on one address, blind not busy: no report, rest time RPT." From the last link to the first the blind would run, and
-- with each link on the blind before the call its rest time would be 0.
abbrev pub r3 : List Line
r3 =
    fresh
    ++ (plain (add_link (record { address = 5; tag = 5; kind = 5 }))
    ∷ plain (time_step 500)
    ∷ look (MUD 0) (both pausing (reports no_report))
    ∷ [])

unfoldable pub cases : List (List Line)
cases = w1 ∷ w2 ∷ w3 ∷ w4 ∷ w5 ∷ w6 ∷ w7 ∷ w8 ∷ w9 ∷ w10 ∷ w11 ∷ w12 ∷ []

-- The one claim: each script is right on the panel without blinds and links.
unfoldable pub all_right : Bool
all_right = every (λ script. right script bare) cases

-- ---- the caretaker's story: the west's and the south's blinds on one address for MUD, each with its own wind alarm; one module of two
-- terminals goes in before the south's; then the wind alarm for the west, and a MUD down for both

abbrev pub motor : ℕ → ℕ → Seen → Bool
motor tag n r = eqb (motor_seen tag r.leaves) n

abbrev pub story : List Line
story =
    plain (install 1 4 (numbers_of defaults))
    ∷ plain (install 2 8 (numbers_of defaults))
    ∷ plain (add_link (record { address = 100; tag = 1; kind = 0 }))
    ∷ plain (add_link (record { address = 200; tag = 2; kind = 0 }))
    ∷ plain (add_link (record { address = 300; tag = 1; kind = 4 }))
    ∷ plain (add_link (record { address = 300; tag = 2; kind = 4 }))
    ∷ plain (time_step 500)
    ∷ look (splice_in 6 2) (both (stands 1 4) (stands 2 10))
    ∷ look (telegram 100 1) (both (motor 1 1) (motor 2 0))
    ∷ look (telegram 300 1) (both (motor 1 1) (motor 2 2))
    ∷ []

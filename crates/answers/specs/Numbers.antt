-- Document 01, "Numbers the panel answers": the number of each refusal, and what the outcome of a call says in numbers.
-- Assumes nothing.
use Rattle.std.specs.Prelude.{ℕ, Result, Ok, Err}
use Rattle.answers.specs.declared.Refusal.{Refusal}
use Rattle.answers.specs.declared.Answered.{Answered}

-- The table, row by row; 13 is document 02's.
abbrev pub number_of : Refusal → ℕ
number_of Refusal.OutOfRange = 1
number_of Refusal.NoBlind = 2
number_of Refusal.Busy = 3
number_of Refusal.AlreadyThere = 4
number_of Refusal.NoLink = 5
number_of Refusal.NotOfTheClass = 6
number_of Refusal.TableFull = 7
number_of Refusal.AnotherClass = 8
number_of Refusal.PastTheStrip = 9
number_of Refusal.TerminalInUse = 10
number_of Refusal.WrongCells = 11
number_of Refusal.NotSound = 12
number_of Refusal.ShortBuffer = 13

-- "0: done", or the number of what refuses.
abbrev pub answer_of : {A : Type 0} → Result A Refusal → ℕ
answer_of (Ok a) = 0
answer_of (Err refusal) = number_of refusal

-- "Counts with it are 0" where a call is refused.
abbrev pub count_of : Result ℕ Refusal → ℕ
count_of (Ok n) = n
count_of (Err refusal) = 0

-- What a call hands back that is refused, and one that is done.
abbrev pub refused_on : {S : Type 0} → S → Refusal → Answered S
refused_on state refusal = record { outcome = Err refusal; state = state }

abbrev pub done_on : {S : Type 0} → S → ℕ → Answered S
done_on state count = record { outcome = Ok count; state = state }

-- The command language, its names: "the first word is the command, in small letters and exactly".
-- Assumes nothing.
use Rattle.std.specs.Prelude.{ℕ, ◌+◌, Bool, cond, ◌||◌, Option, Some, None, List, [], ◌∷◌, eqb}
use Prim.Native.String.{String}
use Rattle.params.specs.Numbers.{set_size}
use Rattle.texts.specs.Text.{text, same}
use Rattle.names.specs.declared.Name.{Name}
use Rattle.names.specs.declared.Entry.{Entry}

-- A command, how many arguments it takes, and how many more may follow, all or none of them: "[MUDT SST RPT RWA RRA RFA]".
abbrev pub taking : Name → ℕ → ℕ → Entry
taking name plain more = record { name = name; plain = plain; more = more }

-- No command.
abbrev pub unknown : Option Entry
unknown = None

-- The commands by their words.
abbrev pub table : List (String × Entry)
table =
    ("install", taking Name.Install 2 set_size)
    ∷ ("remove", taking Name.Remove 1 0)
    ∷ ("params", taking Name.Params 1 set_size)
    ∷ ("link", taking Name.Link 3 0)
    ∷ ("unlink", taking Name.Unlink 3 0)
    ∷ ("in", taking Name.In 2 0)
    ∷ ("out", taking Name.Out 2 0)
    ∷ ("tel", taking Name.Tel 2 0)
    ∷ ("time", taking Name.Time 1 0)
    ∷ ("strip", taking Name.Strip 0 0)
    ∷ ("inv", taking Name.Inv 0 0)
    ∷ ("percent", taking Name.Percent 1 0)
    ∷ ("why", taking Name.Why 3 0)
    ∷ ("write", taking Name.Write 0 1)
    ∷ ("show", taking Name.Show 0 0)
    ∷ ("new", taking Name.New 0 0)
    ∷ []

-- The entry of some letters if the word is these, and otherwise another.
unfoldable pub entry_for : List ℕ → List ℕ → Entry → Option Entry → Option Entry
entry_for word letters own otherwise = cond (same word letters) (Some own) otherwise

-- What a word is in a table of commands.
unfoldable pub entry_in : List (String × Entry) → List ℕ → Option Entry
entry_in [] word = unknown
entry_in (row ∷ rows) word = entry_for word (text row.0) row.1 (entry_in rows word)

unfoldable pub entry_of : List ℕ → Option Entry
entry_of = entry_in table

-- Whether a command takes this number of arguments.
unfoldable pub takes : Entry → ℕ → Bool
takes entry count = eqb count entry.plain || eqb count (entry.plain + entry.more)

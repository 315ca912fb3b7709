-- What is told of a source that is accepted.
use Rattle.std.specs.Prelude.{ℕ, ◌+◌, ◌==◌, List, [], ◌∷◌, ◌++◌, codes, count_by}
use Rattle.std.specs.Fmt.{decimal}
use Rattle.cl_mean.specs.declared.checked.Checked.{Checked}
use Rattle.cl_mean.specs.declared.checked.GedlRow.{GedlRow}
use Rattle.cl_mean.specs.declared.checked.Levels.{Levels}
use Rattle.cl_job.specs.Texts.{name_at}

-- a level, with the number of its functions and that of its objects of static duration
unfoldable pub level_line : List ℕ → ℕ → ℕ → List ℕ
level_line name functions globals =
    codes "level " ++ (name ++ (codes " functions " ++ (decimal functions ++ (codes " globals " ++ (decimal globals ++ codes "\n")))))

-- how many of these levels are this one
abbrev pub count_of : List ℕ → ℕ → ℕ
count_of levels level = count_by (λ l. l == level) levels

-- the levels in order, of which the first has this number
abbrev pub level_lines : Levels → ℕ → List (List ℕ) → List ℕ
level_lines levels level [] = []
level_lines levels level (name ∷ names) =
    level_line name (count_of levels.of_functions level) (count_of levels.of_objects level) ++ level_lines levels (level + 1) names

-- a function that is called across levels: the caller's level, its own, its name, and the bytes of the payloads
unfoldable pub call_line : List (List ℕ) → GedlRow → List ℕ
call_line names row =
    codes "call "
    ++ (name_at names row.from
    ++ (codes " "
    ++ (name_at names row.to
    ++ (codes " "
    ++ (row.name ++ (codes " request " ++ (decimal row.request ++ (codes " reply " ++ (decimal row.reply ++ codes "\n")))))))))

abbrev pub call_lines : List (List ℕ) → List GedlRow → List ℕ
call_lines names [] = []
call_lines names (row ∷ rows) = call_line names row ++ call_lines names rows

unfoldable pub listing : Checked → List ℕ
listing checked =
    codes "accepted\n"
    ++ (level_lines checked.levels 0 checked.labels.levels ++ call_lines checked.labels.levels checked.gedl.rows)

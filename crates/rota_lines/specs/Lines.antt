-- The text that tells a rota, and the text that tells its clashes with another.
use Rattle.std.specs.Prelude.{ℕ, ◌+◌, List, [], ◌∷◌, ◌++◌, flat_map, codes, decimal}
use Rattle.pg_interval.specs.declared.pg_interval.Interval.{Interval}
use Rattle.pg_interval.specs.Reading.{Style, StandsForOnly}
use Rattle.pg_interval.specs.Printed.{printed}
use Rattle.rota_moments.specs.declared.moment.Moment.{Moment}
use Rattle.rota_moments.specs.Texts.{moment_text}

-- an interval's text in a style stands for it, and for no other interval
abbrev pub Stands : Style → Interval → Type 0
Stands style interval = StandsForOnly style (printed style interval) interval

-- what stands behind a line's label: a moment and an interval in a style, a tab before each
unfoldable pub line_rest : Style → Moment → Interval → List ℕ
line_rest style m interval = (9 ∷ moment_text m) ++ (9 ∷ printed style interval) ++ 10 ∷ []

abbrev pub line : Style → List ℕ → Moment → Interval → List ℕ
line style label m interval = label ++ line_rest style m interval

-- The lines of steps from this number on, each with its number, the moment that it starts from, and its interval; and behind them the line
-- `end` with the last moment and the total.
abbrev pub lines_from : Style → Interval → ℕ → List Interval → List Moment → List ℕ
lines_from style total number [] (m ∷ moments) = line style (codes "end") m total
lines_from style total number (step ∷ steps) (m ∷ moments) =
    line style (decimal number) m step ++ lines_from style total (number + 1) steps moments
lines_from style total number steps [] = []

-- The text of a rota of these steps, moments and total.
abbrev pub rota_text : Style → List Interval → List Moment → Interval → List ℕ
rota_text style steps moments total = lines_from style total 0 steps moments

-- the line of a clash: the place of its shift in each rota
abbrev pub clash_line : ℕ × ℕ → List ℕ
clash_line p = decimal p.0 ++ 32 ∷ decimal p.1 ++ 10 ∷ []

-- The text of clashes.
abbrev pub clash_text : List (ℕ × ℕ) → List ℕ
clash_text pairs = flat_map clash_line pairs

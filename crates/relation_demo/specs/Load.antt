-- The relations of the generated load. They are drawn one after another, and each is drawn row by row.
use Rattle.std.specs.Prelude.{ℕ, zero, suc, pos, List, ◌++◌, ◌+◌, ◌*◌, ◌%◌, ◌-ℤ◌, map, codes, decimal}
use Rattle.std.specs.List.{range_with_len}
use Rattle.pg_interval.specs.declared.pg_interval.Interval.{Interval}
use Rattle.relation_tables.specs.declared.Relation.{Relation}
use Rattle.relation_demo.specs.Draws.{after, draw}

-- what f makes of each number below n
abbrev pub each_below : {X : Type 0} → ℕ → (ℕ → X) → List X
each_below n f = map f (range_with_len 0 n)

-- a cell takes three draws
abbrev pub cell : ℕ → Interval
cell x = record {
  months = pos (draw x 0 % 2001) -ℤ pos 1000;
  days = pos (draw x 1 % 2001) -ℤ pos 1000;
  microseconds = pos (draw x 2) -ℤ pos 1073741824;
}

abbrev pub row : ℕ → ℕ → List Interval
row x width = each_below width (λ c. cell (after x (3 * c)))

abbrev pub rows : ℕ → ℕ → ℕ → List (List Interval)
rows x width count = each_below count (λ r. row (after x (3 * width * r)) width)

-- the first three draws of a relation: how many unready polls, columns and rows it has
abbrev pub unready : ℕ → ℕ
unready x = draw x 0 % 3

abbrev pub width : ℕ → ℕ
width x = 1 + draw x 1 % 4

abbrev pub height : ℕ → ℕ
height x = draw x 2 % 20

-- `r` and the relation's number, from 0
abbrev pub relation_name : ℕ → List ℕ
relation_name i = codes "r" ++ decimal i

-- `c` and the column's number, from 0
abbrev pub column_name : ℕ → List ℕ
column_name c = codes "c" ++ decimal c

-- relation i
abbrev pub relation : ℕ → ℕ → Relation
relation x i = record {
  name = relation_name i;
  unready = unready x;
  columns = each_below (width x) column_name;
  rows = rows (after x 3) (width x) (height x);
}

-- how many draws a relation takes
abbrev pub draws : ℕ → ℕ
draws x = 3 + 3 * width x * height x

-- the generator's number before relation i
unfoldable pub before : ℕ → ℕ → ℕ
before seed zero = seed
before seed (suc i) = let x = before seed i in after x (draws x)

-- Demo relations: `count` of them, drawn from the seed on.
unfoldable pub demo_relations : ℕ → ℕ → List Relation
demo_relations seed count = each_below count (λ i. relation (before seed i) i)

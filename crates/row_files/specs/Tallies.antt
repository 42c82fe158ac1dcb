use Rattle.std.specs.Prelude.{ℕ, Option, Some, None, Result, Ok, Err, ◌+◌, ◌-◌, ◌^◌, min}

-- 1 for a row in which nothing differs from what it expects, and 0 for any other.
abbrev pub as_expected : {T E : Type 0} → Result (Option T) E → ℕ
as_expected (Ok None) = 1
as_expected (Ok (Some _)) = 0
as_expected (Err _) = 0

-- A count of 64 bits that rises by `more`, and stays at the greatest one.
abbrev pub counted : ℕ → ℕ → ℕ
counted count more = min (count + more) (2 ^ 64 - 1)

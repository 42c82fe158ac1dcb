-- The names of relations and of their columns.
use Rattle.std.specs.Prelude.{ℕ, Bool, List, ◌==◌, ◌&&◌, ◌||◌, not, nat_le, length, codes}
use Rattle.std.specs.List.{list_all}
use Rattle.std.specs.Str.{str_eq_ignore_ascii_case}

-- what a name may not hold: whitespace, which is the bytes 09 to 0D and 20, a semicolon, a zero byte
abbrev pub is_foreign_to_names : ℕ → Bool
is_foreign_to_names byte = (nat_le 9 byte && nat_le byte 13) || (byte == 32) || (byte == 59) || (byte == 0)

-- BEGIN or COMMIT, in any ASCII case
abbrev pub is_transaction_word : List ℕ → Bool
is_transaction_word text = str_eq_ignore_ascii_case text (codes "BEGIN") || str_eq_ignore_ascii_case text (codes "COMMIT")

-- A name that a query can say: 1 to 63 bytes, none of them whitespace, a semicolon or zero, and neither BEGIN nor COMMIT in any ASCII case.
abbrev pub is_name : List ℕ → Bool
is_name text = nat_le 1 (length text) && nat_le (length text) 63 && list_all (λ byte. not (is_foreign_to_names byte)) text && not
    (is_transaction_word text)

-- a column's name: at most 63 bytes, none of them zero
abbrev pub is_column_name : List ℕ → Bool
is_column_name text = nat_le (length text) 63 && list_all (λ byte. not (byte == 0)) text

-- good columns: at most 1,600
abbrev pub are_columns : List (List ℕ) → Bool
are_columns columns = nat_le (length columns) 1600 && list_all is_column_name columns

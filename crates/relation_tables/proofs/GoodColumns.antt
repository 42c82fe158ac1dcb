-- Columns that pass the tests of a valid table can be told.
use Rattle.std.proofs.Common.{◌≢◌, ℕ, ◌≤◌, ◌==◌, ◌&&◌, not, Bool, true, false, IsTrue, List, [], ◌∷◌, length, nat_le, refl, arith}
use Rattle.std.specs.List.{AllByRecursion, list_all}
use Rattle.pg_messages.specs.Replies.{HasNoZero}
use Rattle.relation_tables.proofs.Sendable.{IsColumn, AreColumns}

both_true : (a b : Bool) → IsTrue (a && b) → IsTrue a × IsTrue b
both_true true b e = (refl, e)
both_true false b e = cc

within : (n k : ℕ) → IsTrue (nat_le n k) → n ≤ k
within n k e = grind (arith, e)

not_zero : (byte : ℕ) → IsTrue (not (byte == 0)) → byte ≢ 0
not_zero byte e z = grind (arith, e, z)

no_zero : (name : List ℕ) → IsTrue (list_all (λ byte. not (byte == 0)) name) → HasNoZero name
no_zero [] e = tt
no_zero (byte ∷ name) e =
    let both = both_true (not (byte == 0)) (list_all (λ b. not (b == 0)) name) e in
    (not_zero byte both.0, no_zero name both.1)

-- a name of at most 63 bytes, none of them zero
abbrev is_column : List ℕ → Bool
is_column name = nat_le (length name) 63 && list_all (λ byte. not (byte == 0)) name

good_column : (name : List ℕ) → IsTrue (is_column name) → IsColumn name
good_column name e =
    let both = both_true (nat_le (length name) 63) (list_all (λ byte. not (byte == 0)) name) e in
    (within (length name) 63 both.0, no_zero name both.1)

good_names : (names : List (List ℕ)) → IsTrue (list_all is_column names) → AllByRecursion IsColumn names
good_names [] e = tt
good_names (name ∷ names) e =
    let both = both_true (is_column name) (list_all is_column names) e in
    (good_column name both.0, good_names names both.1)

-- at most 1,600 such names
pub good_columns : (names : List (List ℕ))
    → IsTrue (nat_le (length names) 1600 && list_all (λ name. nat_le (length name) 63 && list_all (λ byte. not (byte == 0)) name) names)
    → AreColumns names
good_columns names e =
    let both = both_true (nat_le (length names) 1600) (list_all is_column names) e in
    (within (length names) 1600 both.0, good_names names both.1)

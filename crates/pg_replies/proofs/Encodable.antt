-- Replies that can be sent.
use Rattle.std.proofs.Common.{◌≡◌, ◌≢◌, ℕ, suc, zero, ◌+◌, ◌*◌, ◌≤◌, ◌/◌, ◌%◌, ◌==◌, Bool, true, false, cond, nat_lt, List, [], ◌∷◌, ◌++◌, length, codes, ℤ, IsTrue, FitsSigned, to_z, refl, ap, arith, length-append}
use Rattle.std.specs.Fmt.{decimal, digits, digits_onto, digit_glyph}
use Rattle.std.specs.Int.{w16}
use Rattle.std.specs.List.{flat_map}
use Rattle.std.proofs.lemmas.Fmt.{length-decimal-le}
use Rattle.std.proofs.lemmas.Int.{ints}
use Rattle.pg_messages.specs.Fields.{int16}
use Rattle.pg_messages.specs.Replies.{HasNoZero, copy_columns}
use Rattle.pg_results.specs.Copying.{formats}
use Rattle.pg_replies.specs.Replies.{IsTag}

pub HasNoZero-append : (a b : List ℕ) → HasNoZero a → HasNoZero b → HasNoZero (a ++ b)
HasNoZero-append [] b p q = q
HasNoZero-append (x ∷ a) b p q = (p.0, HasNoZero-append a b p.1 q)

-- the same by a test, for a text that is written out
abbrev pub has_no_zero : List ℕ → Bool
has_no_zero [] = true
has_no_zero (zero ∷ xs) = false
has_no_zero (suc x ∷ xs) = has_no_zero xs

pub by_test : (t : List ℕ) → IsTrue (has_no_zero t) → HasNoZero t
by_test [] h = tt
by_test (zero ∷ xs) h = cc
by_test (suc x ∷ xs) h = (λ e. omega arith, by_test xs h)

glyph_nonzero : (d : ℕ) → digit_glyph false d ≢ 0
glyph_nonzero d = elim (nat_lt d 10) as (λ b. cond b (48 + d) (87 + d) ≢ 0) [ true ↦ λ e. omega arith | false ↦ λ e. omega arith ]

onto_no_zero : (k n : ℕ) (acc : List ℕ) → HasNoZero acc → HasNoZero (digits_onto k 10 false n acc)
onto_no_zero zero n acc h = h
onto_no_zero (suc k) n acc h =
    let more : HasNoZero (digit_glyph false (n % 10) ∷ acc) = (glyph_nonzero (n % 10), h) in
    elim (n / 10 == 0) as (λ b. HasNoZero (cond b (digit_glyph false (n % 10) ∷ acc)
    (digits_onto k 10 false (n / 10) (digit_glyph false (n % 10) ∷ acc)))) [
      | true ↦ more
      | false ↦ onto_no_zero k (n / 10) (digit_glyph false (n % 10) ∷ acc) more
    ]

pub HasNoZero-decimal : (n : ℕ) → HasNoZero (decimal n)
unfolding digits
HasNoZero-decimal n = onto_no_zero 64 n [] tt

-- a command can be told with any number of rows
pub command_is_tag : (command : List ℕ) → length command ≤ 1048576 → HasNoZero command → IsTag command
command_is_tag command short text rows small =
    let few : length (decimal rows) ≤ 20 = length-decimal-le 20 rows (omega arith) (omega arith) small in
    let len = length-append command (32 ∷ decimal rows) in
    record {
      body = simp length-append (omega arith);
      counts = tt;
      texts = (HasNoZero-append command (32 ∷ decimal rows) text (λ e. omega arith, HasNoZero-decimal rows), tt);
    }

pub copy_is_tag : IsTag (codes "COPY")
copy_is_tag = command_is_tag (codes "COPY") (omega arith) (by_test (codes "COPY") refl)

pub select_is_tag : IsTag (codes "SELECT")
select_is_tag = command_is_tag (codes "SELECT") (omega arith) (by_test (codes "SELECT") refl)

-- ---- what begins a COPY

codes_len : (format : ℤ) (columns : ℕ) → length (flat_map int16 (formats format columns)) ≡ 2 * columns
codes_len format zero = refl
codes_len format (suc n) = omega (arith, codes_len format n, length-append (int16 format) (flat_map int16 (formats format n)))

pub copy_body : (format columns : ℤ) (code : ℤ) (n : ℕ) (column_formats : List ℤ) → column_formats ≡ formats code n → n ≤ 32767
    → length (copy_columns format columns column_formats) ≤ 1073741823
copy_body format columns code n column_formats e few = omega (arith, ap (λ l. length (copy_columns format columns l)) e, codes_len code n)

pub copy_counts : (n : ℕ) → n ≤ 32767 → FitsSigned w16 (to_z w16 n)
copy_counts n few = omega (arith, ints)

-- Tags that can be sent.
use Rattle.std.proofs.Common.{◌≡◌, ◌≢◌, ℕ, suc, zero, ◌+◌, ◌^◌, ◌<◌, ◌≤◌, ◌/◌, ◌%◌, ◌==◌, true, false, cond, nat_lt, List, [], ◌∷◌, ◌++◌, length, codes, subst, sym, arith, length-append}
use Rattle.std.specs.Fmt.{decimal, digits, digits_onto, digit_glyph}
use Rattle.std.proofs.lemmas.Fmt.{length-decimal-le}
use Rattle.pg_messages.specs.Replies.{HasNoZero, IsEncodable}
use Rattle.pg_results.specs.Tags.{spaced}
use Rattle.cursor_commands.specs.Cursors.{done}

HasNoZero-append : (a b : List ℕ) → HasNoZero a → HasNoZero b → HasNoZero (a ++ b)
HasNoZero-append [] b p q = q
HasNoZero-append (x ∷ a) b p q = (p.0, HasNoZero-append a b p.1 q)

glyph_nonzero : (d : ℕ) → digit_glyph false d ≢ 0
glyph_nonzero d = elim (nat_lt d 10) as (λ b. cond b (48 + d) (87 + d) ≢ 0) [ true ↦ λ e. omega arith | false ↦ λ e. omega arith ]

onto_no_zero : (k n : ℕ) (acc : List ℕ) → HasNoZero acc → HasNoZero (digits_onto k 10 false n acc)
onto_no_zero zero n acc h = h
onto_no_zero (suc k) n acc h =
    let more : HasNoZero (digit_glyph false (n % 10) ∷ acc) = (glyph_nonzero (n % 10), h) in
    elim (n / 10 == 0) as (λ b. HasNoZero (cond b (digit_glyph false (n % 10) ∷ acc)
    (digits_onto k 10 false (n / 10) (digit_glyph false (n % 10) ∷ acc)))) [
      | true ↦ more
      | false ↦ onto_no_zero k (n / 10) (digit_glyph false (n % 10) ∷ acc) more
    ]

HasNoZero-decimal : (n : ℕ) → HasNoZero (decimal n)
unfolding digits
HasNoZero-decimal n = onto_no_zero 64 n [] tt

fetch_text : HasNoZero (codes "FETCH ")
fetch_text = (λ e. omega arith, (λ e. omega arith, (λ e. omega arith, (λ e. omega arith, (λ e. omega arith, (λ e. omega arith, tt))))))

-- so many rows were fetched
pub fetch_encodable : (rows : ℕ) (tag : List ℕ) → rows < 2 ^ 64 → tag ≡ codes "FETCH" ++ spaced rows → IsEncodable (done tag)
fetch_encodable rows tag small told =
    let few : length (decimal rows) ≤ 20 = length-decimal-le 20 rows (omega arith) (omega arith) small in
    subst (λ t. IsEncodable (done t)) (sym told) (record {
      body = omega (arith, few, length-append (codes "FETCH ") (decimal rows), length-append (codes "FETCH " ++ decimal rows) (0 ∷ []));
      counts = tt;
      texts = (HasNoZero-append (codes "FETCH ") (decimal rows) fetch_text (HasNoZero-decimal rows), tt);
    })

use Rattle.std.proofs.Common.{◌≡◌, ◌^◌, ◌<◌, ℕ, List, get_or, sym, ap, ◌∙◌, arith, of_z, to_z}
use Rattle.std.specs.Int.{from_be_bytes}
use Rattle.std.proofs.lemmas.Int.{to_z-of_z, of_z-to_z}
use Rattle.std.proofs.lemmas.Nat.{be_bytes_8}
use mir.Syntax.{w64}
use Rattle.pg_interval.proofs.ByteRanges.{taken_fit, left_fit}
use Rattle.pg_interval.proofs.pg_interval.int64_at.Goals as goal

number_fits : (bytes : List ℕ) → ((k : ℕ) → get_or bytes k 0 < 256) → from_be_bytes w64 bytes < 2 ^ 64
number_fits bytes h = omega (arith, h 0, h 1, h 2, h 3, h 4, h 5, h 6, h 7)

pub returns : goal.returns
returns c =
    let bytes : List ℕ = c.copy_from_slice.new.self in
    let cut = c.copy_from_slice.ensures in
    let fit : (i : ℕ) → get_or bytes i 0 < 256 =
    λ i. rw cut.after (taken_fit _ _ (left_fit c.args.start c.args.bytes.now (λ k. (c.type_inv.bytes k).fits)) i) in
    let number : of_z w64 (to_z w64 (of_z w64 c.from_be_bytes.result)) ≡ from_be_bytes w64 bytes =
    ap (of_z w64) (to_z-of_z w64 c.from_be_bytes.result (record { sfits = c.from_be_bytes.type_inv }) ∙ c.from_be_bytes.ensures)
    ∙ of_z-to_z w64 (from_be_bytes w64 bytes) (number_fits bytes fit) in
    sym cut.after ∙ sym (be_bytes_8 bytes _ cut.len fit number)

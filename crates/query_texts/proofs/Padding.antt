-- One byte of padding more at the front of a query.
use Rattle.std.proofs.Common.{◌≡◌, ℕ, suc, ◌+◌, ◌<◌, Bool, true, cond, List, ◌∷◌, length, get_or, drop, sym, ap, ◌∙◌, add-one}
use Rattle.std.proofs.Common.{arith}
use Rattle.std.proofs.lemmas.Bool.Decides.{nat_tests}
use Rattle.std.proofs.Math.Seq.{drop-cons}
use Rattle.pg_results.specs.Texts.{is_padding}
use Rattle.query_texts.specs.QueryTexts.{without_front_padding}

-- what remains of a byte and the bytes behind it
front_of : (b : ℕ) (bs : List ℕ) (p : Bool) → is_padding b ≡ p → without_front_padding (b ∷ bs) ≡ cond p (without_front_padding bs) (b ∷ bs)
front_of b bs p e = ap (λ q. cond q (without_front_padding bs) (b ∷ bs)) e

pub front_step : (bs : List ℕ) (i : ℕ) → i < length bs → is_padding (get_or bs i 0) ≡ true
    → without_front_padding (drop (i + 1) bs) ≡ without_front_padding (drop i bs)
front_step bs i h e = ap (λ n. without_front_padding (drop n bs)) (add-one i)
    ∙ sym (ap without_front_padding (drop-cons bs i 0 h) ∙ front_of (get_or bs i 0) (drop (suc i) bs) true e)

-- padding is ASCII
pub padding_below_128 : (b : ℕ) → is_padding b ≡ true → b < 128
padding_below_128 b e = grind (arith, nat_tests)

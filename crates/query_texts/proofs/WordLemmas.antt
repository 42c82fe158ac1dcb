-- The words of a text, one after another.
use Rattle.std.proofs.Common.{◌≡◌, ℕ, ◌+◌, ◌<◌, true, not, List, [], ◌∷◌, ◌++◌, length, get_or, drop, sym, ap, ◌∙◌, arith, filter}
use Rattle.std.specs.List.{slice_split}
use Rattle.std.proofs.lemmas.List.{drop_more}
use Rattle.std.proofs.lemmas.List.Splits.{slice_split-cons_yes}
use Rattle.std.proofs.lemmas.Bool.Decides.{nat_tests}
use Rattle.pg_results.specs.Describing.{is_empty_list}
use Rattle.pg_results.specs.Texts.{is_whitespace}
use Rattle.query_texts.specs.QueryTexts.{words}

abbrev nonblank : List (List ℕ) → List (List ℕ)
nonblank parts = filter (λ word. not (is_empty_list word)) parts

abbrev parts_of : List ℕ → List (List ℕ)
parts_of t = slice_split is_whitespace t

-- bytes in front of the first part
abbrev pub prepend : List ℕ → List (List ℕ) → List (List ℕ)
prepend w [] = w ∷ []
prepend w (q ∷ qs) = (w ++ q) ∷ qs

-- one more byte of whitespace in front
pub space_step : (bs : List ℕ) (i : ℕ) → i < length bs → is_whitespace (get_or bs i 0) ≡ true → words (drop (i + 1) bs) ≡ words (drop i bs)
space_step bs i h e =
    sym (ap words (drop_more bs i 0 h)
    ∙ ap nonblank (slice_split-cons_yes is_whitespace (get_or bs i 0) (drop (i + 1) bs) e))

-- whitespace is ASCII
pub whitespace_below_128 : (b : ℕ) → is_whitespace b ≡ true → b < 128
whitespace_below_128 b e = grind (arith, nat_tests)

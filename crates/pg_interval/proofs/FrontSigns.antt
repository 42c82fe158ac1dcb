-- A sign in front of digits, as the first try of a reader takes it off.
use Rattle.std.proofs.Common.{◌≡◌, ℕ, Bool, true, false, ◌||◌, List, [], ◌∷◌, ◌++◌, ap, ◌∙◌, refl, arith}
use Rattle.std.specs.Prelude.{if◌then◌else◌, ◌==◌}
use Rattle.pg_interval.specs.Texts.{is_minus, are_digits, begins, without_sign}
use Rattle.pg_interval.proofs.SqlReads.{Sign, none, minus_sign, plus_sign, sign_text, is_minus_sign, sign_before}

-- ---- a sign in front

pub same_byte : (c d : ℕ) → (c == d) ≡ true → c ≡ d
same_byte c d h = grind arith

sign_split_by : (c : ℕ) (cs xs : List ℕ) (a b : Bool) → (c == 43) ≡ a → (c == 45) ≡ b → (if a || b then cs else c ∷ cs) ≡ xs
    → (s : Sign) × (c ∷ cs ≡ sign_text s ++ xs)
unfolding sign_text
sign_split_by c cs xs true b e f h = (plus_sign, ap (λ x. x ∷ cs) (same_byte c 43 e) ∙ ap (λ t. 43 ∷ t) h)
sign_split_by c cs xs false true e f h = (minus_sign, ap (λ x. x ∷ cs) (same_byte c 45 f) ∙ ap (λ t. 45 ∷ t) h)
sign_split_by c cs xs false false e f h = (none, h)

sign_split : (text xs : List ℕ) → without_sign text ≡ xs → (s : Sign) × (text ≡ sign_text s ++ xs)
unfolding sign_text
sign_split [] xs h = (none, h)
sign_split (c ∷ cs) xs h = sign_split_by c cs xs (c == 43) (c == 45) refl refl h

-- a text that begins with digits behind a sign, or without one
pub record IsSigned (text digits xs : List ℕ) : Type 0 where
  pub sign : Sign
  pub parts : text ≡ sign_text sign ++ (digits ++ xs)
  pub minus : begins is_minus text ≡ is_minus_sign sign

pub signed_front : (text digits xs : List ℕ) → are_digits digits ≡ true → without_sign text ≡ digits ++ xs → IsSigned text digits xs
signed_front text digits xs are h =
    let cut = sign_split text (digits ++ xs) h in
    record { sign = cut.0; parts = cut.1; minus = ap (begins is_minus) cut.1 ∙ (sign_before cut.0 digits xs are).0 }

-- Two lists of bytes are the same where no byte differs: what a loop that joins all differences knows.
use Rattle.std.proofs.Common.{◌≡◌, ◌↔◌, ℕ, ◌+◌, ◌<◌, List, get_or, ap, sym, ◌∙◌, subst, arith, below_more, bit_or, bit_xor}
use Rattle.std.specs.Int.Bits.{or_zero_l, xor_self, xor_add_and}
use Rattle.std.proofs.lemmas.Nat.{le_or_l, le_or_r, and_le_l, and_le_r}

-- nothing differed, and these two do not
pub none_differs : (d x y : ℕ) → bit_or d (bit_xor x y) ≡ 0 → (d ≡ 0) × (x ≡ y)
none_differs d x y none =
    let l = le_or_l d (bit_xor x y) in
    let r = le_or_r d (bit_xor x y) in
    let sum = xor_add_and x y in
    let a = and_le_l x y in
    let b = and_le_r x y in
    (omega arith, omega arith)

pub still_none : (d x y : ℕ) → d ≡ 0 → x ≡ y → bit_or d (bit_xor x y) ≡ 0
still_none d x y none same =
    subst (λ e. bit_or e (bit_xor x y) ≡ 0) (sym none)
    (or_zero_l (bit_xor x y) ∙ (ap (λ z. bit_xor z y) same ∙ xor_self y))

-- the bytes below this place are the same
abbrev pub AreSameBelow : List ℕ → List ℕ → ℕ → Type 0
AreSameBelow xs ys n = (k : ℕ) → k < n → get_or xs k 0 ≡ get_or ys k 0

pub same_further : (xs ys : List ℕ) (d n : ℕ) → (d ≡ 0) ↔ AreSameBelow xs ys n
    → (bit_or d (bit_xor (get_or xs n 0) (get_or ys n 0)) ≡ 0) ↔ AreSameBelow xs ys (n + 1)
same_further xs ys d n so_far = (
  λ none.
      let both = none_differs d (get_or xs n 0) (get_or ys n 0) none in
      below_more _ _ (so_far.0 both.0) both.1,
  λ same.
      let less : n < n + 1 = omega arith in
      still_none d (get_or xs n 0) (get_or ys n 0) (so_far.1 (λ k l. same k (omega arith))) (same n less),
)

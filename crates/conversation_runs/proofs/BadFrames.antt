-- What begins with a bad header or frame does so whatever follows.
use Rattle.std.proofs.Common.{◌≡◌, ℕ, ◌+◌, ◌≤◌, Bool, true, false, List, [], ◌∷◌, ◌++◌, length, take, drop, refl, sym, ap, subst, ◌∙◌, arith, inl, inr, length-append, length-drop}
use Rattle.std.proofs.lemmas.List.{take-append-le}
use Rattle.std.proofs.Math.ListN.{get_or-append}
use Rattle.std.specs.Prelude.{Contains}
use Rattle.std.specs.Int.{w32, from_be_bytes}
use Rattle.pg_messages.specs.Frames.{IsBad, IsFrame, IsGoodHeader, told_len, header_len, type_bytes}

drop_one-append : (r m : List ℕ) → 1 ≤ length r → drop 1 (r ++ m) ≡ drop 1 r ++ m
drop_one-append [] m h = absurd (omega arith)
drop_one-append (x ∷ r) m h = refl

told_more : (b : Bool) (r m : List ℕ) → header_len b ≤ length r → told_len b (r ++ m) ≡ told_len b r
told_more true r m h = ap (from_be_bytes w32) (take-append-le 4 r m h)
told_more false r m h = ap (λ l. 1 + from_be_bytes w32 (take 4 l)) (drop_one-append r m (omega arith))
    ∙ ap (λ l. 1 + from_be_bytes w32 l) (take-append-le 4 (drop 1 r) m (let e = length-drop 1 r in omega arith))

good_more : (b : Bool) (r m : List ℕ) → header_len b ≤ length r → IsGoodHeader b (r ++ m) → IsGoodHeader b r
good_more true r m h g = subst (λ n. (8 ≤ n) × (n ≤ 10000)) (told_more true r m h) g
good_more false r m h g = (
  subst (Contains type_bytes) (get_or-append r m 0 0 (omega arith)) g.0,
  subst (λ n. 5 ≤ n) (told_more false r m h) g.1,
  subst (λ n. n ≤ 1048577) (told_more false r m h) g.2,
)

good_less : (b : Bool) (r m : List ℕ) → header_len b ≤ length r → IsGoodHeader b r → IsGoodHeader b (r ++ m)
good_less true r m h g = subst (λ n. (8 ≤ n) × (n ≤ 10000)) (sym (told_more true r m h)) g
good_less false r m h g = (
  subst (Contains type_bytes) (sym (get_or-append r m 0 0 (omega arith))) g.0,
  subst (λ n. 5 ≤ n) (sym (told_more false r m h)) g.1,
  subst (λ n. n ≤ 1048577) (sym (told_more false r m h)) g.2,
)

pub bad_more : (b : Bool) (r m : List ℕ) → IsBad b r → IsBad b (r ++ m)
bad_more b r m (h, inl refused) = (let e = length-append r m in omega arith, inl (λ g. refused (good_more b r m h g)))
bad_more b r m (h, inr whole) =
    let e = length-append r m in let t = told_more b r m h in (
      omega arith,
      inr (
        good_less b r m h whole.0,
        omega arith,
        λ message f. whole.2 message (subst (λ l. IsFrame b l message) (ap (λ n. take n (r ++ m)) t
            ∙ take-append-le (told_len b r) r m whole.1) f),
      ),
    )

-- A text that is cut at its first `, `, as a search for these two bytes finds it.
use Rattle.std.proofs.Common.{◌≡◌, ℕ, zero, suc, ◌<◌, false, cond, List, [], ◌∷◌, ◌++◌, take, drop, Option, None, Some, nat_eq, codes, refl, sym, ap, ◌∙◌, arith}
use Rattle.std.proofs.lemmas.Str.Pattern.{starts_text}
use Rattle.std.specs.List.{starts_with}
use Rattle.std.specs.Option.{option_map}
use Rattle.std.specs.Str.Pattern.{FindsText, LacksTextAt, SplitsAroundMatch}
use Rattle.pg_text.specs.Dates.{around_comma}

abbrev comma : List ℕ
comma = codes ", "

-- a byte in front of what is cut
abbrev in_front : ℕ → Option (List ℕ × List ℕ) → Option (List ℕ × List ℕ)
in_front c parts = option_map (λ p. (c ∷ p.0, p.1)) parts

not_here : (c : ℕ) (cs : List ℕ) → LacksTextAt comma (c ∷ cs) 0 → around_comma (c ∷ cs) ≡ in_front c (around_comma cs)
not_here c cs lacks =
    let e : false ≡ starts_with nat_eq (c ∷ cs) comma = starts_text false comma (c ∷ cs) lacks in
    ap (λ q. cond q (Some ([], drop 2 (c ∷ cs))) (in_front c (around_comma cs))) (sym e)

pub around_none : (s : List ℕ) → FindsText comma s None → around_comma s ≡ None
around_none [] lacks = refl
around_none (c ∷ cs) lacks =
    not_here c cs (lacks 0 (omega arith)) ∙ ap (in_front c) (around_none cs (λ i h. lacks (suc i) (omega arith)))

around_at : (s : List ℕ) (i : ℕ) (rest : List ℕ) → ((k : ℕ) → k < i → LacksTextAt comma s k) → drop i s ≡ comma ++ rest
    → around_comma s ≡ Some (take i s, rest)
around_at [] zero rest lacks e = absurd (cc)
around_at [] (suc i) rest lacks e = absurd (cc)
around_at (c ∷ cs) zero rest lacks e = ap around_comma e
around_at (c ∷ cs) (suc i) rest lacks e =
    not_here c cs (lacks 0 (omega arith)) ∙ ap (in_front c) (around_at cs i rest (λ k h. lacks (suc k) (omega arith)) e)

pub around_match : (s front back : List ℕ) → SplitsAroundMatch (FindsText comma) s front back → around_comma s ≡ Some (front, back)
around_match s front back h =
    around_at s h.0 (drop h.1 s) h.2.0 h.2.1.split
    ∙ ap (λ t. Some (t, drop h.1 s)) (sym h.3) ∙ ap (λ t. Some (front, t)) (sym h.4)

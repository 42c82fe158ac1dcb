-- Answers of a script, in its order, and no past its end.
use Rattle.std.proofs.Common.{◌≡◌, ℕ, zero, suc, ◌+◌, ◌-◌, ◌≤◌, Bool, List, [], ◌∷◌, ◌++◌, refl, ap, sym, ◌∙◌, length, drop, arith, inl, inr, ⊎_elim}
use Rattle.std.proofs.lemmas.Bool.{cases_lt}
use Rattle.pg_client.specs.Answer.{BeginsWith}
use Rattle.pg_client.specs.Script.{first_or_no, scripted}
use Rattle.conversation_laws.specs.Steady.{AgreeAsFar}

drop_one_more : (n : ℕ) (xs : List Bool) → drop n (drop 1 xs) ≡ drop (suc n) xs
drop_one_more zero [] = refl
drop_one_more (suc n) [] = refl
drop_one_more n (x ∷ xs) = refl

-- the answers of a script go on
pub scripted_more : (script : List Bool) (n k : ℕ) → scripted script (n + k) ≡ scripted script n ++ scripted (drop n script) k
scripted_more script zero k = ap (scripted script) (let e : 0 + k ≡ k = omega arith in e)
scripted_more script (suc n) k =
    ap (scripted script) (let e : suc n + k ≡ suc (n + k) = omega arith in e)
    ∙ ap (λ xs. first_or_no script ∷ xs) (scripted_more (drop 1 script) n k)
    ∙ ap (λ xs. first_or_no script ∷ (scripted (drop 1 script) n ++ scripted xs k)) (drop_one_more n script)

-- a script's own answers
pub scripted_all : (script : List Bool) → scripted script (length script) ≡ script
scripted_all [] = refl
scripted_all (x ∷ xs) = ap (λ ys. x ∷ ys) (scripted_all xs)

pub length_scripted : (n : ℕ) (script : List Bool) → length (scripted script n) ≡ n
length_scripted zero script = refl
length_scripted (suc n) script = let e = length_scripted n (drop 1 script) in omega (arith, e)

-- a front of a script's answers is as many of them
pub scripted_front : (n : ℕ) (script front others : List Bool) → scripted script n ≡ front ++ others → front ≡ scripted script (length front)
scripted_front n script [] others e = refl
scripted_front zero script (x ∷ front) others e = cc
scripted_front (suc n) script (x ∷ front) others e =
    ap (λ y. y ∷ front) (sym (ap first_or_no e))
    ∙ ap (λ ys. first_or_no script ∷ ys) (scripted_front n (drop 1 script) front others (ap (drop 1) e))

pub longer : (script : List Bool) (n m : ℕ) → n ≤ m → scripted script m ≡ scripted script n ++ scripted (drop n script) (m - n)
longer script n m h = ap (scripted script) (let e : m ≡ n + (m - n) = omega arith in e) ∙ scripted_more script n (m - n)

-- one script's answers, and more behind them
goes_behind : (script some others : List Bool) → some ≡ scripted script (length some) → others ≡ scripted script (length others)
    → length others ≤ length some
    → BeginsWith some others
goes_behind script some others p q h =
    let more = scripted (drop (length others) script) (length some - length others) in
    (more, p ∙ longer script (length others) (length some) h ∙ ap (λ xs. xs ++ more) (sym q))

-- answers of one script are alike as far as both go
pub scripts_agree : (script some others : List Bool) → some ≡ scripted script (length some) → others ≡ scripted script (length others)
    → AgreeAsFar some others
scripts_agree script some others p q =
    ⊎_elim (λ lt. inr (goes_behind script others some q p (let w = lt in omega (arith, w))))
    (λ ge. inl (goes_behind script some others p q ge)) (cases_lt (length some) (length others))

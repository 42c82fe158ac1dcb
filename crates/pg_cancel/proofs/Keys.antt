-- The key that a registration has after a history, and what one more entry changes in it.
use Rattle.std.proofs.Common.{◌≡◌, ◌≢◌, ◌&&◌, ◌||◌, Bool, true, false, cond, ℕ, zero, suc, ◌≤◌, List, [], ◌∷◌, ◌++◌, length, take, slice_get, Some, refl, ap, sym, ◌∙◌, arith, eq-eqb, ne_eqb}
use Rattle.std.proofs.lemmas.List.{take-append-le, take-take}
use Rattle.std.proofs.lemmas.List.Folds.{list_any-append}
use Rattle.std.proofs.Math.Bool.{or-false, or-true}
use Rattle.std.proofs.Math.Seq.{take-append_seam}
use Rattle.std.specs.List.{list_any}
use mathlib.Core.Logic.{dite}
use native.Mathlib.Decide.{ℕ_discrete}
use Rattle.pg_cancel.specs.declared.entries.Entry.{Entry}
use Rattle.pg_cancel.specs.declared.entries.RegistryCall.{RegistryCall}
use Rattle.pg_cancel.specs.declared.entries.RegistryCall.TheVariants.{Register, Start, Ask, Cancel, Narrow, Unregister}
use Rattle.pg_cancel.specs.LegalHistory.{IsLegal, is_narrow, narrows, key_after, key_at}
use Rattle.pg_cancel.proofs.Histories.{Calls}
use Rattle.pg_cancel.proofs.Beginnings.{numbers_below}

-- ---- whether an entry narrows a registration

only_narrow : (n : ℕ) (e : Entry) (c : RegistryCall) → e.call ≡ c → e.number ≡ n → (Calls n Narrow e → ⊥) → is_narrow c ≡ false
only_narrow n e Narrow is same not = absurd (not (same, is))
only_narrow n e (Register pid key) is same not = refl
only_narrow n e Start is same not = refl
only_narrow n e Ask is same not = refl
only_narrow n e (Cancel pid key) is same not = refl
only_narrow n e Unregister is same not = refl

pub narrows_not : (n : ℕ) (e : Entry) → (Calls n Narrow e → ⊥) → narrows n e ≡ false
narrows_not n e not = dite (ℕ_discrete e.number n)
    (λ same. ap (λ b. b && is_narrow e.call) (eq-eqb e.number n same) ∙ only_narrow n e e.call refl same not)
    (λ other. ap (λ b. b && is_narrow e.call) (ne_eqb e.number n other))

pub narrows_so : (n : ℕ) (e : Entry) → Calls n Narrow e → narrows n e ≡ true
narrows_so n e so = ap (λ b. b && is_narrow e.call) (eq-eqb e.number n so.0) ∙ ap (λ c. is_narrow c) so.1

-- ---- one more entry

abbrev key_if : Bool → List ℕ → List ℕ
key_if b key = cond b (take 4 key) key

any_more : (h : List Entry) (e : Entry) (n : ℕ) (b : Bool) → narrows n e ≡ b
    → list_any (narrows n) (h ++ e ∷ []) ≡ (list_any (narrows n) h || b)
any_more h e n b is =
    list_any-append (narrows n) h (e ∷ []) ∙ ap (λ x. list_any (narrows n) h || x) (or-false (narrows n e) ∙ is)

pub key_stays : (h : List Entry) (e : Entry) (n : ℕ) (key : List ℕ) → (Calls n Narrow e → ⊥)
    → key_after (h ++ e ∷ []) n key ≡ key_after h n key
key_stays h e n key not =
    ap (λ b. key_if b key) (any_more h e n false (narrows_not n e not) ∙ or-false (list_any (narrows n) h))

short_again : (b : Bool) (key : List ℕ) → take 4 (key_if b key) ≡ take 4 key
short_again true key = take-take 4 4 key (omega arith)
short_again false key = refl

-- a Narrow leaves the first four bytes of the key that there was
pub key_narrowed : (h : List Entry) (e : Entry) (n : ℕ) (key : List ℕ) → Calls n Narrow e
    → key_after (h ++ e ∷ []) n key ≡ take 4 (key_after h n key)
key_narrowed h e n key so =
    ap (λ b. key_if b key) (any_more h e n true (narrows_so n e so) ∙ or-true (list_any (narrows n) h))
    ∙ sym (short_again (list_any (narrows n) h) key)

-- ---- the key at a place

-- what stands before a place stays there
pub key_old : (h : List Entry) (e : Entry) (k n : ℕ) (key : List ℕ) → k ≤ length h → key_at (h ++ e ∷ []) k n key ≡ key_at h k n key
key_old h e k n key le = ap (λ xs. key_after xs n key) (take-append-le k h (e ∷ []) le)

pub key_seam : (h : List Entry) (e : Entry) (n : ℕ) (key : List ℕ) → key_at (h ++ e ∷ []) (length h) n key ≡ key_after h n key
key_seam h e n key = ap (λ xs. key_after xs n key) (take-append_seam h (e ∷ []))

-- ---- a new registration

none_narrows : (n : ℕ) (h : List Entry) → ((k : ℕ) (e : Entry) → slice_get h k ≡ Some e → e.number ≢ n) → list_any (narrows n) h ≡ false
none_narrows n [] f = refl
none_narrows n (x ∷ xs) f = rw (ne_eqb x.number n (f zero x refl)) (none_narrows n xs (λ k e at. f (suc k) e at))

-- the next place has no Narrow yet
pub key_new : (h : List Entry) (key : List ℕ) → IsLegal h → key_after h (length h) key ≡ key
key_new h key legal =
    ap (λ b. key_if b key)
    (none_narrows (length h) h (λ k e at same. let b = numbers_below h legal k e at in omega (arith, same)))

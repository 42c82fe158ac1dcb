-- Laws of legal histories that the table's rule rests on.
use Rattle.std.proofs.Common.{◌≡◌, ◌≢◌, Bool, true, false, cond, filter, ℤ, append_assoc, ℕ, zero, suc, ◌+◌, ◌-◌, ◌<◌, ◌≤◌, List, [], ◌∷◌, ◌++◌, length, take, slice_get, Some, refl, ap, sym, ◌∙◌, subst, arith, length-append, eq-eqb, ne_eqb}
use Rattle.std.proofs.lemmas.List.{append-nil, take-append-le, length-take-le}
use Rattle.std.proofs.Math.Seq.{take-append_seam}
use mathlib.Core.List.{IsPrefix}
use Rattle.pg_cancel.specs.declared.entries.Entry.{Entry}
use Rattle.pg_cancel.specs.declared.entries.RegistryAnswer.{RegistryAnswer}
use Rattle.pg_cancel.specs.declared.entries.RegistryAnswer.TheVariants.{Registered, Yes}
use Rattle.pg_cancel.specs.declared.entries.RegistryCall.{RegistryCall}
use Rattle.pg_cancel.specs.declared.entries.RegistryCall.TheVariants.{Register, Start, Ask, Cancel, Narrow, Unregister}
use Rattle.std.specs.Prelude.{◌==◌}
use Rattle.pg_cancel.specs.LegalHistory.{IsLegal, IsLive, IsRegisteredAt, IsCancelAt, key_after, key_at, IsNumber, IsAnswer, IsCanceled, MayFollow}
use mathlib.Core.Logic.{dite}
use native.Mathlib.Decide.{ℕ_discrete}
use Rattle.pg_cancel.proofs.Histories.{Registers, Cancels, live_within, last_keeps, determined}
use Rattle.pg_cancel.proofs.Places.{at_within, at_old, at_from_taken, some_and, and_holds}
use Rattle.pg_cancel.specs.Connections.{calls_of, is_register, before_last, entry, IsTheAnswer}
use Rattle.pg_cancel.specs.RosterTable.{HasNoStray}
use Rattle.pg_cancel.proofs.Prefixes.{prefix_get}

-- a beginning of a legal history is legal
pub legal_prefix : (xs ys : List Entry) → IsPrefix xs ys → IsLegal ys → IsLegal xs
legal_prefix xs ys p legal = λ k e at.
    let l : k < length xs = at_within (λ x. x ≡ e) xs k (some_and (slice_get xs k) e at) in
    let le : k ≤ length xs = omega arith in
    let before : take k ys ≡ take k xs = ap (λ h. take k h) (sym p.1) ∙ take-append-le k xs p.0 le in
    subst (λ h. MayFollow h e) before (legal k e (prefix_get xs ys k e p at))

number_below : (h : List Entry) (c : RegistryCall) (n : ℕ) → IsNumber h c n → n ≤ length h
number_below h (Register pid key) n is = omega (arith, is)
number_below h Start n is = let l = live_within h n is.0 is.1 is.2 in omega arith
number_below h Ask n is = let l = live_within h n is.0 is.1 is.2 in omega arith
number_below h (Cancel pid key) n is = let l = live_within h n is.0 is.1 is.2 in omega arith
number_below h Narrow n is = let l = live_within h n is.0 is.1 is.2 in omega arith
number_below h Unregister n is = let l = live_within h n is.0 is.1 is.2 in omega arith

-- in a legal history each number is that of a place
pub numbers_below : (h : List Entry) → IsLegal h → (k : ℕ) (e : Entry) → slice_get h k ≡ Some e → e.number < length h
numbers_below h legal k e at =
    let l : k < length h = at_within (λ x. x ≡ e) h k (some_and (slice_get h k) e at) in
    let b = number_below (take k h) e.call e.number (legal k e at).number in
    let t : length (take k h) ≡ k = length-take-le k h (omega arith) in
    omega arith

pub calls_none_of : (n : ℕ) (h : List Entry) → ((k : ℕ) (e : Entry) → slice_get h k ≡ Some e → e.number ≢ n) → calls_of n h ≡ []
calls_none_of n [] f = refl
calls_none_of n (x ∷ xs) f = rw (ne_eqb x.number n (f zero x refl)) (calls_none_of n xs (λ k e at. f (suc k) e at))

-- the next place has no entry yet
pub calls_fresh : (h : List Entry) → IsLegal h → calls_of (length h) h ≡ []
calls_fresh h legal = calls_none_of (length h) h (λ k e at same. let b = numbers_below h legal k e at in omega (arith, same))

other_number : (h : List Entry) (c : RegistryCall) (n : ℕ) → is_register c ≡ false → IsNumber h c n → IsLive h n
other_number h (Register pid key) n quiet is = absurd (cc (quiet))
other_number h Start n quiet is = is
other_number h Ask n quiet is = is
other_number h (Cancel pid key) n quiet is = is
other_number h Narrow n quiet is = is
other_number h Unregister n quiet is = is

-- in a legal history every entry that is no Register has the number of a registration
pub no_stray : (h : List Entry) → IsLegal h → HasNoStray h
no_stray h legal k e at quiet =
    let live = other_number (take k h) e.call e.number quiet (legal k e at).number in
    (live.0, live.1, at_from_taken (Registers live.0 live.1) h k e.number live.2.registered)

-- a query that was canceled stays so, while its number makes no call
calls_cons : (n : ℕ) (e : Entry) (rest : List Entry) → e.number ≡ n → calls_of n (e ∷ rest) ≡ e ∷ calls_of n rest
calls_cons n e rest same = rw (eq-eqb e.number n same) refl

calls_skip : (n : ℕ) (e : Entry) (rest : List Entry) → e.number ≢ n → calls_of n (e ∷ rest) ≡ calls_of n rest
calls_skip n e rest other = rw (ne_eqb e.number n other) refl

canceled_more : (h : List Entry) (e : Entry) (n : ℕ) → e.number ≢ n → IsCanceled h n → IsCanceled (h ++ e ∷ []) n
canceled_more h e n other c =
    let of = c.cancel_of_n in
    let key = key_at h c.cancel n of.1 in
    let within : c.cancel < length h = at_within (Cancels of.0 key) h c.cancel of.3 in
    let stays : key_at (h ++ e ∷ []) c.cancel n of.1 ≡ key =
    ap (λ xs. key_after xs n of.1) (take-append-le c.cancel h (e ∷ []) (omega arith)) in
    let there : IsCancelAt (h ++ e ∷ []) c.cancel of.0 (key_at (h ++ e ∷ []) c.cancel n of.1) =
    subst (λ k. IsCancelAt (h ++ e ∷ []) c.cancel of.0 k) (sym stays) (at_old (Cancels of.0 key) h e c.cancel of.3) in
    record {
      start = c.start;
      cancel = c.cancel;
      last_start = last_keeps h e n c.start (λ starts. other starts.0) c.last_start;
      cancel_of_n = (of.0, of.1, at_old (Registers of.0 of.1) h e n of.2, there);
      after = c.after;
    }

pub canceled_on : (rest h : List Entry) (n : ℕ) → calls_of n rest ≡ [] → IsCanceled h n → IsCanceled (h ++ rest) n
canceled_on [] h n quiet c = subst (λ x. IsCanceled x n) (sym (append-nil h)) c
canceled_on (e ∷ rest) h n quiet c = dite (ℕ_discrete e.number n)
    (λ same. let some : e ∷ calls_of n rest ≡ [] = sym (calls_cons n e rest same) ∙ quiet in absurd (cc (some)))
    (λ other. subst (λ x. IsCanceled x n) (append_assoc h (e ∷ []) rest)
    (canceled_on rest (h ++ e ∷ []) n (sym (calls_skip n e rest other) ∙ quiet) (canceled_more h e n other c)))

-- the history before its last entry
pub before_snoc : (h : List Entry) (e : Entry) → before_last (h ++ e ∷ []) ≡ h
before_snoc h e =
    let count : length (h ++ e ∷ []) ≡ length h + 1 = length-append h (e ∷ []) in
    let less : length (h ++ e ∷ []) - 1 ≡ length h = omega arith in
    ap (λ k. take k (h ++ e ∷ [])) less ∙ take-append_seam h (e ∷ [])

pub before_of : (h after : List Entry) (e : Entry) → after ≡ h ++ e ∷ [] → before_last after ≡ h
before_of h after e is = ap (λ x. before_last x) is ∙ before_snoc h e

-- the answer of a legal history is the only right one
pub the_answer : (h : List Entry) (n : ℕ) (c : RegistryCall) (a : RegistryAnswer) → IsLegal h → IsAnswer h n c a → IsTheAnswer h n c a
the_answer h n c a legal told =
    λ other. ((λ same. subst (λ b. IsAnswer h n c b) (sym same) told), (λ right. determined h n c other a legal right told))

-- who was canceled is answered Yes
pub heard_by : (seen between : List Entry) (n : ℕ) (a : RegistryAnswer) → IsTheAnswer (seen ++ between) n Ask a → calls_of n between ≡ []
    → IsCanceled seen n → a ≡ Yes
heard_by seen between n a told quiet c = sym ((told Yes).1 (canceled_on between seen n quiet c))

-- what stands first among the elements that pass stands at some place
first_passes : {A : Type 0} (p : A → Bool) (x : A) (xs : List A) (y : A) (rest : List A) (b : Bool) → p x ≡ b → filter p (x ∷ xs) ≡ y ∷ rest
    → (filter p xs ≡ y ∷ rest → (k : ℕ) × (slice_get xs k ≡ Some y)) → (k : ℕ) × (slice_get (x ∷ xs) k ≡ Some y)
first_passes p x xs y rest true is first others =
    let here : x ∷ filter p xs ≡ y ∷ rest = sym (ap (λ b. cond b (x ∷ filter p xs) (filter p xs)) is) ∙ first in
    let same : x ≡ y = cc (here) in (zero, ap (λ z. Some z) same)
first_passes p x xs y rest false is first others =
    let r = others (sym (ap (λ b. cond b (x ∷ filter p xs) (filter p xs)) is) ∙ first) in (suc r.0, r.1)

pub first_place : {A : Type 0} (p : A → Bool) (xs : List A) (y : A) (rest : List A) → filter p xs ≡ y ∷ rest
    → (k : ℕ) × (slice_get xs k ≡ Some y)
first_place p [] y rest first = absurd (cc (first))
first_place p (x ∷ xs) y rest first = first_passes p x xs y rest (p x) refl first (λ others. first_place p xs y rest others)

-- in a legal history a number whose calls begin with its Register was registered so
pub begins_registered : (h : List Entry) (n : ℕ) (pid : ℤ) (key : List ℕ) (rest : List Entry) → IsLegal h
    → calls_of n h ≡ entry n (Register pid key) Registered ∷ rest → IsRegisteredAt h n pid key
begins_registered h n pid key rest legal calls =
    let e = entry n (Register pid key) Registered in
    let at = first_place (λ (x : Entry). x.number == n) h e rest calls in
    let within : at.0 < length h = at_within (λ x. x ≡ e) h at.0 (some_and (slice_get h at.0) e at.1) in
    let own : n ≡ length (take at.0 h) = (legal at.0 e at.1).number in
    let place : length (take at.0 h) ≡ at.0 = length-take-le at.0 h (omega arith) in
    subst (λ k. IsRegisteredAt h k pid key) (sym (own ∙ place)) (and_holds (Registers pid key) (slice_get h at.0) e at.1 (refl, refl))

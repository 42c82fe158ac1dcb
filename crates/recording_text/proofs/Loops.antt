-- Reading calls one after another, as a loop does.
use Rattle.std.proofs.Common.{◌≡◌, ℕ, suc, ◌-◌, ◌+◌, ◌≤◌, ◌<◌, List, [], ◌∷◌, ◌++◌, Result, Ok, Err, refl, sym, ap, ◌∙◌, append_assoc, arith}
use Rattle.std.proofs.lemmas.List.{append-nil}
use Rattle.recording_text.specs.declared.recording.ReadError.{ReadError}
use Rattle.recording_text.specs.declared.recording.ReadError.TheVariants.{Truncated, BadField, Trailing, NoMemory}
use Rattle.recording_text.specs.Judging.{◌>>=◌, Reading, Fails, items_at}

-- what was read before, and what is still read
abbrev pub with_front : {X : Type 0} → List X → Result (List X × List ℕ) ReadError → Result (List X × List ℕ) ReadError
with_front front read = read >>= λ x. Ok (front ++ x.0, x.1)

regroup : {X : Type 0} (front : List X) (x : X) (read : Result (List X × List ℕ) ReadError)
    → with_front front (read >>= λ xs. Ok (x ∷ xs.0, xs.1)) ≡ with_front (front ++ x ∷ []) read
regroup {X} front x (Ok xs) = ap (λ (ys : List X). Ok (ys, xs.1)) (simp append_assoc)
regroup front x (Err e) = refl

pub goes_on : {X : Type 0} (field : Reading X) (front : List X) (count i : ℕ) (bytes : List ℕ) (x : X) (after : List ℕ)
    (total : Result (List X × List ℕ) ReadError) → i < count → field bytes ≡ Ok (x, after)
    → with_front front (items_at field (count - i) bytes) ≡ total
    → with_front (front ++ x ∷ []) (items_at field (count - (i + 1)) after) ≡ total
goes_on field front count i bytes x after total lt h so_far =
    let k : count - i ≡ suc (count - (i + 1)) = omega arith in
    let one : with_front front (items_at field (count - i) bytes) ≡ with_front (front ++ x ∷ []) (items_at field (count - (i + 1)) after) =
    rw (k, h) (regroup front x (items_at field (count - (i + 1)) after)) in
    sym one ∙ so_far

err_of : {X : Type 0} (field : Reading X) (e : ReadError) (front : List X) (count i : ℕ) (bytes : List ℕ) (total : Result (List X
    × List ℕ) ReadError) → i < count → field bytes ≡ Err e
    → with_front front (items_at field (count - i) bytes) ≡ total → total ≡ Err e
err_of field e front count i bytes total lt h so_far =
    let k : count - i ≡ suc (count - (i + 1)) = omega arith in
    let one : with_front front (items_at field (count - i) bytes) ≡ Err e = rw (k, h) refl in
    sym so_far ∙ one

pub ends : {X : Type 0} (field : Reading X) (e : ReadError) (front : List X) (count i : ℕ) (bytes : List ℕ) (total : Result (List X
    × List ℕ) ReadError) → i < count → Fails e (field bytes)
    → with_front front (items_at field (count - i) bytes) ≡ total → Fails e total
ends field NoMemory front count i bytes total lt h so_far = tt
ends field Truncated front count i bytes total lt h so_far = err_of field Truncated front count i bytes total lt h so_far
ends field (BadField place) front count i bytes total lt h so_far = err_of field (BadField place) front count i bytes total lt h so_far
ends field (Trailing place) front count i bytes total lt h so_far = err_of field (Trailing place) front count i bytes total lt h so_far

pub is_done : {X : Type 0} (field : Reading X) (front : List X) (count i : ℕ) (bytes : List ℕ) (total : Result (List X × List ℕ) ReadError)
    → count ≤ i → with_front front (items_at field (count - i) bytes) ≡ total → total ≡ Ok (front, bytes)
is_done {X} field front count i bytes total le so_far =
    let k : count - i ≡ 0 = omega arith in
    let one : with_front front (items_at field (count - i) bytes) ≡ Ok (front, bytes) =
    rw k (ap (λ (xs : List X). Ok (xs, bytes)) (append-nil front)) in
    sym so_far ∙ one

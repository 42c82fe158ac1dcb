-- Reading fields one after another, as a loop does.
use Rattle.std.proofs.Common.{◌≡◌, ℕ, suc, ◌-◌, ◌+◌, ◌≤◌, ◌<◌, List, [], ◌∷◌, ◌++◌, Option, Some, None, refl, sym, ap, ◌∙◌, append_assoc, arith}
use Rattle.std.proofs.lemmas.List.{append-nil}
use Rattle.pg_messages.specs.declared.codec.FrameError.{FrameError}
use Rattle.pg_messages.specs.declared.codec.FrameError.TheVariants as errors
use Rattle.pg_messages.specs.Reading.{◌>>=◌, both_at, items_at, string_at, after_zero, parameters_at}

-- what was read before, and what is still read
abbrev pub with_front : {X : Type 0} → List X → Option (List X × List ℕ) → Option (List X × List ℕ)
with_front front read = read >>= λ x. Some (front ++ x.0, x.1)

regroup : {X : Type 0} (front : List X) (x : X) (read : Option (List X × List ℕ))
    → with_front front (read >>= λ xs. Some (x ∷ xs.0, xs.1)) ≡ with_front (front ++ x ∷ []) read
regroup {X} front x (Some xs) = ap (λ (ys : List X). Some (ys, xs.1)) (simp append_assoc)
regroup front x None = refl

-- nothing was read before
front_of_none : {X : Type 0} (front : List X) (read : Option (List X × List ℕ)) → front ≡ [] → with_front front read ≡ read
front_of_none front (Some xs) none = rw none refl
front_of_none front None none = refl

-- the cause of an error is what reading gives
abbrev pub Fails : {Y : Type 0} → FrameError → Option Y → Type 0
Fails errors.Bad read = read ≡ None
Fails errors.NoMemory read = Unit {0}

pub begins : {X : Type 0} (field : List ℕ → Option (X × List ℕ)) (front : List X) (count : ℕ) (bytes : List ℕ) → front ≡ []
    → with_front front (items_at field (count - 0) bytes) ≡ items_at field count bytes
begins field front count bytes none =
    let k : count - 0 ≡ count = omega arith in rw k (front_of_none front (items_at field count bytes) none)

pub goes_on : {X : Type 0} (field : List ℕ → Option (X
    × List ℕ)) (front : List X) (count i : ℕ) (bytes : List ℕ) (x : X) (after : List ℕ) (total : Option (List X × List ℕ)) → i < count
    → field bytes ≡ Some (x, after)
    → with_front front (items_at field (count - i) bytes) ≡ total
    → with_front (front ++ x ∷ []) (items_at field (count - (i + 1)) after) ≡ total
goes_on field front count i bytes x after total lt h so_far =
    let k : count - i ≡ suc (count - (i + 1)) = omega arith in
    let one : with_front front (items_at field (count - i) bytes) ≡ with_front (front ++ x ∷ []) (items_at field (count - (i + 1)) after) =
    rw (k, h) (regroup front x (items_at field (count - (i + 1)) after)) in
    sym one ∙ so_far

pub ends : {X : Type 0} (field : List ℕ → Option (X
    × List ℕ)) (e : FrameError) (front : List X) (count i : ℕ) (bytes : List ℕ) (total : Option (List X × List ℕ)) → i < count
    → Fails e (field bytes)
    → with_front front (items_at field (count - i) bytes) ≡ total → Fails e total
ends field errors.NoMemory front count i bytes total lt h so_far = tt
ends field errors.Bad front count i bytes total lt h so_far =
    let k : count - i ≡ suc (count - (i + 1)) = omega arith in
    let one : with_front front (items_at field (count - i) bytes) ≡ None = rw (k, h) refl in
    sym so_far ∙ one

pub is_done : {X : Type 0} (field : List ℕ → Option (X × List ℕ)) (front : List X) (count i : ℕ) (bytes : List ℕ) (total : Option (List X
    × List ℕ)) → count ≤ i → with_front front (items_at field (count - i) bytes) ≡ total → total ≡ Some (front, bytes)
is_done {X} field front count i bytes total le so_far =
    let k : count - i ≡ 0 = omega arith in
    let one : with_front front (items_at field (count - i) bytes) ≡ Some (front, bytes) =
    rw k (ap (λ (xs : List X). Some (xs, bytes)) (append-nil front)) in
    sym so_far ∙ one

-- ---- pairs of texts up to a zero byte

pub pairs-go_on : (front : List (List ℕ × List ℕ)) (count i : ℕ) (bytes : List ℕ) (x : List ℕ
    × List ℕ) (after : List ℕ) (total : Option (List (List ℕ × List ℕ) × List ℕ)) → i < count → after_zero bytes ≡ None
    → both_at string_at string_at bytes ≡ Some (x, after)
    → with_front front (parameters_at (count - i) bytes) ≡ total
    → with_front (front ++ x ∷ []) (parameters_at (count - (i + 1)) after) ≡ total
unfolding parameters_at
pairs-go_on front count i bytes x after total lt ahead h so_far =
    let k : count - i ≡ suc (count - (i + 1)) = omega arith in
    let one : with_front front (parameters_at (count - i) bytes) ≡ with_front (front ++ x ∷ []) (parameters_at (count - (i + 1)) after) =
    rw (k, ahead, h) (regroup front x (parameters_at (count - (i + 1)) after)) in
    sym one ∙ so_far

pub pairs-fail : (e : FrameError) (front : List (List ℕ × List ℕ)) (count i : ℕ) (bytes : List ℕ) (total : Option (List (List ℕ × List ℕ)
    × List ℕ)) → i < count → after_zero bytes ≡ None → Fails e (both_at string_at string_at bytes)
    → with_front front (parameters_at (count - i) bytes) ≡ total → Fails e total
unfolding parameters_at
pairs-fail errors.NoMemory front count i bytes total lt ahead h so_far = tt
pairs-fail errors.Bad front count i bytes total lt ahead h so_far =
    let k : count - i ≡ suc (count - (i + 1)) = omega arith in
    let one : with_front front (parameters_at (count - i) bytes) ≡ None = rw (k, ahead, h) refl in
    sym so_far ∙ one

pub pairs-end : (front : List (List ℕ × List ℕ)) (count i : ℕ) (bytes after : List ℕ) (total : Option (List (List ℕ × List ℕ) × List ℕ))
    → i < count → after_zero bytes ≡ Some after
    → with_front front (parameters_at (count - i) bytes) ≡ total → total ≡ Some (front, after)
unfolding parameters_at
pairs-end front count i bytes after total lt ahead so_far =
    let k : count - i ≡ suc (count - (i + 1)) = omega arith in
    let one : with_front front (parameters_at (count - i) bytes) ≡ Some (front, after) =
    rw (k, ahead) (ap (λ (xs : List (List ℕ × List ℕ)). Some (xs, after)) (append-nil front)) in
    sym so_far ∙ one

pub pairs-lack : (front : List (List ℕ × List ℕ)) (count i : ℕ) (bytes : List ℕ) (total : Option (List (List ℕ × List ℕ) × List ℕ))
    → count ≤ i → with_front front (parameters_at (count - i) bytes) ≡ total → total ≡ None
unfolding parameters_at
pairs-lack front count i bytes total le so_far =
    let k : count - i ≡ 0 = omega arith in
    let one : with_front front (parameters_at (count - i) bytes) ≡ None = rw k refl in
    sym so_far ∙ one

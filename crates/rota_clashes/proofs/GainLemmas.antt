-- What a list gains, and the pairs of two lists that were joined so far.
use Rattle.std.proofs.Common.{◌≡◌, ℕ, zero, suc, ◌+◌, ◌<◌, ◌≤◌, ◌⊎◌, inl, inr, List, [], ◌∷◌, ◌++◌, length, map, take, get_or, refl, sym, ap, subst, ◌∙◌, arith}
use Rattle.std.specs.List.{All, Contains}
use Rattle.std.proofs.Math.Seq.{take-suc}
use Rattle.std.proofs.lemmas.List.{append_assoc, map_more, take_all}
use Rattle.std.proofs.lemmas.List.Elements.{Contains-append_left, Contains-append_right, Contains-append_cases, Contains-push, Contains-push_cases}
use Rattle.rota_clashes.specs.declared.shifts.Shift.{Shift}
use Rattle.rota_clashes.specs.Gains.{Gains}
use Rattle.rota_clashes.specs.Shifts.{IsJoined}

pub nothing_in : {X : Type 0} (x : X) → Contains [] x → ⊥
nothing_in x h = omega (arith, h.1)

later : {X : Type 0} (y : X) (ys : List X) (x : X) → Contains ys x → Contains (y ∷ ys) x
later y ys x h = (suc h.0, omega (arith, h.1), h.2)

-- an element's image is among the images
pub contains_map : {X Y : Type 0} (f : X → Y) (xs : List X) (x : X) → Contains xs x → Contains (map f xs) (f x)
contains_map f [] x h = absurd (nothing_in x h)
contains_map f (y ∷ ys) x (zero, h, e) = (0, omega arith, ap f e)
contains_map f (y ∷ ys) x (suc k, h, e) = later (f y) (map f ys) (f x) (contains_map f ys x (k, omega arith, e))

-- and each image is that of an element
pub contains_from_map : {X Y : Type 0} (f : X → Y) (xs : List X) (y : Y) → Contains (map f xs) y → (x : X) × Contains xs x × (y ≡ f x)
contains_from_map f [] y h = absurd (nothing_in y h)
contains_from_map f (x ∷ xs) y (zero, h, e) = (x, (0, omega arith, refl), sym e)
contains_from_map f (x ∷ xs) y (suc k, h, e) =
    let rest = contains_from_map f xs y (k, omega arith, e) in
    (rest.0, later x xs rest.0 rest.1, rest.2)

pub all_contains : {X : Type 0} (P : X → Type 0) (xs : List X) (x : X) → All P xs → Contains xs x → P x
all_contains P xs x all h = subst P h.2 (all h.0 x h.1)

-- one list more at the end
gains_more : {X : Type 0} (P Q : X → Type 0) (old cur new added : List X) → Gains old cur P → new ≡ cur ++ added → ((x : X) → P x → Q x)
    → ((x : X) → Contains added x → Q x) → ((x : X) → Q x → P x ⊎ Contains added x) → Gains old new Q
gains_more P Q old cur new added g e weaker such split = record {
  kept = λ x h. rw e (Contains-append_left cur added x (g.kept x h));
  found = λ x q. rw e (elim (split x q) [
    | inl p ↦ Contains-append_left cur added x (g.found x p)
    | inr h ↦ Contains-append_right cur added x h
  ]);
  only = λ x h. elim (Contains-append_cases cur added x (rw e at h)) [
    | inl before ↦ elim (g.only x before) [
      | inl kept ↦ inl kept
      | inr p ↦ inr (weaker x p)
    ]
    | inr more ↦ inr (such x more)
  ];
}

-- no shift is joined yet
pub gains_none : (R : Shift → Shift → Type 0) (pair : Shift → Shift → ℕ × ℕ) (shifts others : List Shift) (old : List (ℕ × ℕ))
    → Gains old old (IsJoined R pair (take 0 shifts) others)
gains_none R pair shifts others old = record {
  kept = λ x h. h;
  found = λ x j. absurd (nothing_in j.0 j.1.1);
  only = λ x h. inl h;
}

take_more : {X : Type 0} (xs : List X) (i : ℕ) (d : X) → i < length xs → take (i + 1) xs ≡ take i xs ++ get_or xs i d ∷ []
take_more xs i d h = let e : i + 1 ≡ suc i = omega arith in rw e (take-suc xs i d h)

-- one shift more is joined with all others that stand so to it
pub joined_more : (R : Shift → Shift → Type 0) (pair : Shift → Shift → ℕ × ℕ) (shifts others between : List Shift) (i : ℕ) (d : Shift)
    → i < length shifts
    → ((b : Shift) → Contains between b → Contains others b × R (get_or shifts i d) b)
    → ((b : Shift) → Contains others b → R (get_or shifts i d) b → Contains between b)
    → (old cur new : List (ℕ × ℕ)) → Gains old cur (IsJoined R pair (take i shifts) others)
    → new ≡ cur ++ map (pair (get_or shifts i d)) between
    → Gains old new (IsJoined R pair (take (i + 1) shifts) others)
joined_more R pair shifts others between i d h each all old cur new g e =
    let a = get_or shifts i d in
    let front = take i shifts in
    let t = take_more shifts i d h in
    let P : ℕ × ℕ → Type 0 = IsJoined R pair front others in
    let Q : ℕ × ℕ → Type 0 = IsJoined R pair (front ++ a ∷ []) others in
    let goal = gains_more P Q old cur new (map (pair a) between) g e
    (λ p j. (j.0, (j.1.0, Contains-append_left front (a ∷ []) j.0 j.1.1, j.1.2, j.1.3, j.1.4)))
    (λ p m. let from = contains_from_map (pair a) between p m in
    let is = each from.0 from.1 in
    (a, (from.0, Contains-push front a, is.0, is.1, from.2)))
    (λ p j. elim (Contains-push_cases front a j.0 j.1.1) [
      | inl before ↦ inl (j.0, (j.1.0, before, j.1.2, j.1.3, j.1.4))
      | inr same ↦
          let b = j.1.0 in
          let is = subst (λ x. R x b) (sym same) j.1.3 in
          let here = contains_map (pair a) between b (all b j.1.2 is) in
          inr (subst (λ p. Contains (map (pair a) between) p) (ap (λ x. pair x b) same ∙ sym j.1.4) here)
    ]) in
    rw t goal

-- ---- a list that gains the images of another's elements, one by one

pub images_more : {X Y : Type 0} (f : X → Y) (xs : List X) (i : ℕ) (d : X) (old cur new : List Y) → i < length xs
    → cur ≡ old ++ map f (take i xs) → new ≡ cur ++ f (get_or xs i d) ∷ [] → new ≡ old ++ map f (take (i + 1) xs)
images_more f xs i d old cur new h is e =
    e ∙ ap (λ l. l ++ f (get_or xs i d) ∷ []) is ∙ append_assoc old (map f (take i xs)) (f (get_or xs i d) ∷ [])
    ∙ ap (λ l. old ++ l) (sym (map_more f xs i d h))

pub images_all : {X Y : Type 0} (f : X → Y) (xs : List X) (i : ℕ) (old new : List Y) → length xs ≤ i → new ≡ old ++ map f (take i xs)
    → new ≡ old ++ map f xs
images_all f xs i old new h is = is ∙ ap (λ l. old ++ map f l) (take_all i xs h)

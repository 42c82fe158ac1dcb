-- Reading and spelling are one relation: what is read is spelled so, and what is spelled so is read.
use Rattle.std.proofs.Common.{◌≡◌, ℕ, zero, suc, ◌+◌, ◌<◌, Bool, true, false, cond, eqb, List, [], ◌∷◌, ◌++◌, length, get_or, Option, Some, None, refl, sym, ap, subst, ◌∙◌, append_assoc}
use Rattle.std.specs.List.{flat_map, AllByRecursion}
use Rattle.std.proofs.lemmas.Option.{same_Some}
use Rattle.std.proofs.lemmas.List.{get_or-append-add, append-nil, nil_from_length}
use Rattle.std.proofs.lemmas.Bool.{eqb-true}
use Rattle.pg_messages.specs.Reading.{◌>>=◌, both_at, as_at, items_at, whole}

abbrev pub IsBytes : List ℕ → Type 0
IsBytes bytes = (i : ℕ) → get_or bytes i 0 < 256

pub IsBytes-behind : (front rest : List ℕ) → IsBytes (front ++ rest) → IsBytes rest
IsBytes-behind front rest h i = rw (← get_or-append-add front rest i 0) (h (length front + i))

-- a reader and the spelling of what it reads
pub record Reads {X : Type 0} (Good : X → Type 0) (spell : X → List ℕ) (read : List ℕ → Option (X × List ℕ)) : Type 0 where
  pub takes : (bytes : List ℕ) (x : X) (rest : List ℕ) → IsBytes bytes → read bytes ≡ Some (x, rest) → (bytes ≡ spell x ++ rest) × Good x
  pub again : (x : X) (rest : List ℕ) → Good x → read (spell x ++ rest) ≡ Some (x, rest)

-- the value of a step that did not fail
pub bind_some : {A B : Type 0} (o : Option A) (f : A → Option B) (y : B) → (o >>= f) ≡ Some y → (x : A) × (o ≡ Some x) × (f x ≡ Some y)
bind_some (Some x) f y e = (x, refl, e)
bind_some None f y e = absurd cc

-- what follows from bytes
pub rest_fits : (bytes front rest : List ℕ) → bytes ≡ front ++ rest → IsBytes bytes → IsBytes rest
rest_fits bytes front rest e fits = IsBytes-behind front rest (subst IsBytes e fits)

-- one field, and another behind it
pub Reads-both : {X Y : Type 0} (G : X → Type 0) (H : Y → Type 0) (s : X → List ℕ) (t : Y → List ℕ) (r : List ℕ
    → Option (X × List ℕ)) (q : List ℕ → Option (Y × List ℕ)) → Reads G s r → Reads H t q
    → Reads (λ (p : X × Y). G p.0 × H p.1) (λ (p : X × Y). s p.0 ++ t p.1) (both_at r q)
Reads-both {X} {Y} G H s t r q first second = record {
  takes = λ bytes p rest fits e.
      let a = bind_some (r bytes) (λ x. q x.1 >>= λ y. Some ((x.0, y.0), y.1)) (p, rest) e in
      let b = bind_some (q a.0.1) (λ y. Some ((a.0.0, y.0), y.1)) (p, rest) a.2 in
      let one = first.takes bytes a.0.0 a.0.1 fits a.1 in
      let two = second.takes a.0.1 b.0.0 b.0.1 (rest_fits bytes (s a.0.0) a.0.1 one.0 fits) b.1 in
      let parts : bytes ≡ (s a.0.0 ++ t b.0.0) ++ b.0.1 =
      one.0 ∙ ap (λ (x : List ℕ). s a.0.0 ++ x) two.0 ∙ sym (append_assoc (s a.0.0) (t b.0.0) b.0.1) in
      let made : (X × Y) × List ℕ = ((a.0.0, b.0.0), b.0.1) in
      subst (λ (w : (X × Y) × List ℕ). (bytes ≡ (s w.0.0 ++ t w.0.1) ++ w.1) × (G w.0.0 × H w.0.1)) (same_Some made (p, rest) b.2) (
        parts,
        (one.1, two.1),
      );
  again = λ p rest good.
      ap (both_at r q) (append_assoc (s p.0) (t p.1) rest) ∙ rw (first.again p.0 (t p.1 ++ rest) good.0, second.again p.1 rest good.1) refl;
}

-- a field seen as another value
pub Reads-as : {X Y : Type 0} (G : X → Type 0) (H : Y → Type 0) (s : X → List ℕ) (t : Y → List ℕ) (r : List ℕ → Option (X × List ℕ)) (f : X
    → Y) (g : Y → X)
    → ((x : X) → G x → (t (f x) ≡ s x) × H (f x)) → ((y : Y) → H y → (t y ≡ s (g y)) × (f (g y) ≡ y) × G (g y)) → Reads G s r
    → Reads H t (as_at f r)
Reads-as {X} {Y} G H s t r f g to from base = record {
  takes = λ bytes y rest fits e.
      let a = bind_some (r bytes) (λ x. Some (f x.0, x.1)) (y, rest) e in
      let one = base.takes bytes a.0.0 a.0.1 fits a.1 in
      let seen = to a.0.0 one.1 in
      let parts : bytes ≡ t (f a.0.0) ++ a.0.1 = one.0 ∙ ap (λ (x : List ℕ). x ++ a.0.1) (sym seen.0) in
      let made : Y × List ℕ = (f a.0.0, a.0.1) in
      subst (λ (w : Y × List ℕ). (bytes ≡ t w.0 ++ w.1) × H w.0) (same_Some made (y, rest) a.2) (parts, seen.1);
  again = λ y rest good.
      let back = from y good in
      let other : as_at f r (t y ++ rest) ≡ as_at f r (s (g y) ++ rest) = ap (λ (x : List ℕ). as_at f r (x ++ rest)) back.0 in
      let read : as_at f r (s (g y) ++ rest) ≡ Some (f (g y), rest) = rw (base.again (g y) rest back.2) refl in
      other ∙ read ∙ ap (λ (z : Y). Some (z, rest)) back.1;
}

-- n fields of one kind
pub items_take : {X : Type 0} (G : X → Type 0) (s : X → List ℕ) (r : List ℕ → Option (X × List ℕ)) → Reads G s r
    → (n : ℕ) (bytes : List ℕ) (xs : List X) (rest : List ℕ) → IsBytes bytes → items_at r n bytes ≡ Some (xs, rest)
    → (bytes ≡ flat_map s xs ++ rest) × (length xs ≡ n) × AllByRecursion G xs
items_take {X} G s r base zero bytes xs rest fits e =
    let made : List X × List ℕ = ([], bytes) in
    subst (λ (w : List X × List ℕ). (bytes ≡ flat_map s w.0 ++ w.1) × (length w.0 ≡ 0)
    × AllByRecursion G w.0) (same_Some made (xs, rest) e) (refl, refl, tt)
items_take {X} G s r base (suc n) bytes xs rest fits e =
    let a = bind_some (r bytes) (λ x. items_at r n x.1 >>= λ xs. Some (x.0 ∷ xs.0, xs.1)) (xs, rest) e in
    let b = bind_some (items_at r n a.0.1) (λ xs. Some (a.0.0 ∷ xs.0, xs.1)) (xs, rest) a.2 in
    let one = base.takes bytes a.0.0 a.0.1 fits a.1 in
    let others = items_take G s r base n a.0.1 b.0.0 b.0.1 (rest_fits bytes (s a.0.0) a.0.1 one.0 fits) b.1 in
    let parts : bytes ≡ flat_map s (a.0.0 ∷ b.0.0) ++ b.0.1 =
    one.0 ∙ ap (λ (x : List ℕ). s a.0.0 ++ x) others.0 ∙ sym (append_assoc (s a.0.0) (flat_map s b.0.0) b.0.1) in
    let made : List X × List ℕ = (a.0.0 ∷ b.0.0, b.0.1) in
    subst (λ (w : List X × List ℕ). (bytes ≡ flat_map s w.0 ++ w.1) × (length w.0 ≡ suc n)
    × AllByRecursion G w.0) (same_Some made (xs, rest) b.2) (parts, ap suc others.1, (one.1, others.2))

pub items_again : {X : Type 0} (G : X → Type 0) (s : X → List ℕ) (r : List ℕ → Option (X × List ℕ)) → Reads G s r
    → (xs : List X) (rest : List ℕ) → AllByRecursion G xs → items_at r (length xs) (flat_map s xs ++ rest) ≡ Some (xs, rest)
items_again G s r base [] rest good = refl
items_again G s r base (x ∷ xs) rest good =
    ap (items_at r (suc (length xs))) (append_assoc (s x) (flat_map s xs) rest) ∙ rw (
      base.again x (flat_map s xs ++ rest) good.0,
      items_again G s r base xs rest good.1,
    ) refl

pub Reads-items : {X : Type 0} (G : X → Type 0) (s : X → List ℕ) (r : List ℕ → Option (X × List ℕ)) (n : ℕ) → Reads G s r
    → Reads (λ (xs : List X). (length xs ≡ n) × AllByRecursion G xs) (λ (xs : List X). flat_map s xs) (items_at r n)
Reads-items {X} G s r n base = record {
  takes = λ bytes xs rest fits e. let t = items_take G s r base n bytes xs rest fits e in (t.0, (t.1, t.2));
  again = λ xs rest good. subst (λ (k : ℕ). items_at r k (flat_map s xs ++ rest) ≡ Some (
    xs,
    rest,
  )) good.0 (items_again G s r base xs rest good.1);
}

-- ---- all of the bytes

guard_ended : {A : Type 0} (b : Bool) (x y : A) → cond b (Some x) None ≡ Some y → (b ≡ true) × (x ≡ y)
guard_ended true x y e = (refl, cc)
guard_ended false x y e = absurd cc

pub whole_takes : {X : Type 0} (G : X → Type 0) (s : X → List ℕ) (r : List ℕ → Option (X × List ℕ)) → Reads G s r → (bytes : List ℕ) (x : X)
    → IsBytes bytes → whole (r bytes) ≡ Some x → (bytes ≡ s x) × G x
whole_takes {X} G s r base bytes x fits e =
    let a = bind_some (r bytes) (λ x. cond (eqb (length x.1) 0) (Some x.0) None) x e in
    let g = guard_ended (eqb (length a.0.1) 0) a.0.0 x a.2 in
    let one = base.takes bytes a.0.0 a.0.1 fits a.1 in
    let nothing : a.0.1 ≡ [] = nil_from_length a.0.1 (eqb-true _ _ g.0) in
    let all : bytes ≡ s a.0.0 = one.0 ∙ ap (λ (w : List ℕ). s a.0.0 ++ w) nothing ∙ append-nil (s a.0.0) in
    subst (λ (y : X). (bytes ≡ s y) × G y) g.1 (all, one.1)

pub whole_again : {X : Type 0} (G : X → Type 0) (s : X → List ℕ) (r : List ℕ → Option (X × List ℕ)) → Reads G s r → (x : X) → G x
    → whole (r (s x)) ≡ Some x
whole_again G s r base x good =
    let read : r (s x) ≡ Some (x, []) = ap r (sym (append-nil (s x))) ∙ base.again x [] good in
    rw read refl

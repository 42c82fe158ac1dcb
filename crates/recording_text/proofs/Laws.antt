-- Reading and spelling are one relation: what is read is spelled so, and what is spelled so is read.
use Rattle.std.proofs.Common.{◌≡◌, ℕ, zero, suc, Bool, true, false, cond, List, [], ◌∷◌, ◌++◌, length, Result, Ok, Err, refl, sym, ap, subst, ◌∙◌, append_assoc}
use Rattle.std.specs.List.{flat_map, AllByRecursion}
use Rattle.pg_messages.proofs.Laws.{IsBytes, rest_fits}
use Rattle.recording_text.specs.declared.recording.ReadError.{ReadError}
use Rattle.recording_text.specs.Judging.{◌>>=◌, both_at, as_at, items_at}

-- a reader and the spelling of what it reads
pub record Reads {X : Type 0} (Good : X → Type 0) (spell : X → List ℕ) (read : List ℕ → Result (X × List ℕ) ReadError) : Type 0 where
  pub takes : (bytes : List ℕ) (x : X) (rest : List ℕ) → IsBytes bytes → read bytes ≡ Ok (x, rest) → (bytes ≡ spell x ++ rest) × Good x
  pub again : (x : X) (rest : List ℕ) → Good x → read (spell x ++ rest) ≡ Ok (x, rest)

-- the value of a step that did not fail
pub bind_ok : {A B : Type 0} (r : Result A ReadError) (f : A → Result B ReadError) (y : B) → (r >>= f) ≡ Ok y
    → (x : A) × (r ≡ Ok x) × (f x ≡ Ok y)
bind_ok (Ok x) f y e = (x, refl, e)
bind_ok (Err d) f y e = absurd cc

-- a test that did not fail
pub guard_ok : {A : Type 0} (b : Bool) (d : ReadError) (x y : A) → cond b (Err d) (Ok x) ≡ Ok y → (b ≡ false) × (x ≡ y)
guard_ok true d x y e = absurd cc
guard_ok false d x y e = (refl, cc)

-- a test that was passed
pub pass_ok : {A : Type 0} (b : Bool) (d : ReadError) (x y : A) → cond b (Ok x) (Err d) ≡ Ok y → (b ≡ true) × (x ≡ y)
pass_ok true d x y e = (refl, cc)
pass_ok false d x y e = absurd cc

abbrev pub done : {A : Type 0} → A → Result A ReadError
done x = Ok x

pub ok_is : {A : Type 0} (x y : A) → done x ≡ done y → x ≡ y
ok_is x y e = cc

pub err_is_not : {A : Type 0} (d : ReadError) (x : A) → Err d ≡ done x → ⊥
err_is_not d x e = absurd cc

-- one field, and another behind it
pub Reads-both : {X Y : Type 0} (G : X → Type 0) (H : Y → Type 0) (s : X → List ℕ) (t : Y → List ℕ) (r : List ℕ
    → Result (X × List ℕ) ReadError) (q : List ℕ → Result (Y × List ℕ) ReadError) → Reads G s r → Reads H t q
    → Reads (λ (p : X × Y). G p.0 × H p.1) (λ (p : X × Y). s p.0 ++ t p.1) (both_at r q)
Reads-both {X} {Y} G H s t r q first second = record {
  takes = λ bytes p rest fits e.
      let a = bind_ok (r bytes) (λ x. q x.1 >>= λ y. Ok ((x.0, y.0), y.1)) (p, rest) e in
      let b = bind_ok (q a.0.1) (λ y. Ok ((a.0.0, y.0), y.1)) (p, rest) a.2 in
      let one = first.takes bytes a.0.0 a.0.1 fits a.1 in
      let two = second.takes a.0.1 b.0.0 b.0.1 (rest_fits bytes (s a.0.0) a.0.1 one.0 fits) b.1 in
      let parts : bytes ≡ (s a.0.0 ++ t b.0.0) ++ b.0.1 =
      one.0 ∙ ap (λ (x : List ℕ). s a.0.0 ++ x) two.0 ∙ sym (append_assoc (s a.0.0) (t b.0.0) b.0.1) in
      let made : (X × Y) × List ℕ = ((a.0.0, b.0.0), b.0.1) in
      subst (λ (w : (X × Y) × List ℕ). (bytes ≡ (s w.0.0 ++ t w.0.1) ++ w.1) × (G w.0.0 × H w.0.1)) (ok_is made (p, rest) b.2) (
        parts,
        (one.1, two.1),
      );
  again = λ p rest good.
      ap (both_at r q) (append_assoc (s p.0) (t p.1) rest) ∙ rw (first.again p.0 (t p.1 ++ rest) good.0, second.again p.1 rest good.1) refl;
}

-- a field seen as another value
pub Reads-as : {X Y : Type 0} (G : X → Type 0) (H : Y → Type 0) (s : X → List ℕ) (t : Y → List ℕ) (r : List ℕ
    → Result (X × List ℕ) ReadError) (f : X → Y) (g : Y → X)
    → ((x : X) → G x → (t (f x) ≡ s x) × H (f x)) → ((y : Y) → H y → (t y ≡ s (g y)) × (f (g y) ≡ y) × G (g y)) → Reads G s r
    → Reads H t (as_at f r)
Reads-as {X} {Y} G H s t r f g to from base = record {
  takes = λ bytes y rest fits e.
      let a = bind_ok (r bytes) (λ x. Ok (f x.0, x.1)) (y, rest) e in
      let one = base.takes bytes a.0.0 a.0.1 fits a.1 in
      let seen = to a.0.0 one.1 in
      let parts : bytes ≡ t (f a.0.0) ++ a.0.1 = one.0 ∙ ap (λ (x : List ℕ). x ++ a.0.1) (sym seen.0) in
      let made : Y × List ℕ = (f a.0.0, a.0.1) in
      subst (λ (w : Y × List ℕ). (bytes ≡ t w.0 ++ w.1) × H w.0) (ok_is made (y, rest) a.2) (parts, seen.1);
  again = λ y rest good.
      let back = from y good in
      let other : as_at f r (t y ++ rest) ≡ as_at f r (s (g y) ++ rest) = ap (λ (x : List ℕ). as_at f r (x ++ rest)) back.0 in
      let read : as_at f r (s (g y) ++ rest) ≡ Ok (f (g y), rest) = rw (base.again (g y) rest back.2) refl in
      other ∙ read ∙ ap (λ (z : Y). done (z, rest)) back.1;
}

-- n fields of one kind
pub items_take : {X : Type 0} (G : X → Type 0) (s : X → List ℕ) (r : List ℕ → Result (X × List ℕ) ReadError) → Reads G s r
    → (n : ℕ) (bytes : List ℕ) (xs : List X) (rest : List ℕ) → IsBytes bytes → items_at r n bytes ≡ Ok (xs, rest)
    → (bytes ≡ flat_map s xs ++ rest) × (length xs ≡ n) × AllByRecursion G xs
items_take {X} G s r base zero bytes xs rest fits e =
    let made : List X × List ℕ = ([], bytes) in
    subst (λ (w : List X × List ℕ). (bytes ≡ flat_map s w.0 ++ w.1) × (length w.0 ≡ 0)
    × AllByRecursion G w.0) (ok_is made (xs, rest) e) (refl, refl, tt)
items_take {X} G s r base (suc n) bytes xs rest fits e =
    let a = bind_ok (r bytes) (λ x. items_at r n x.1 >>= λ xs. Ok (x.0 ∷ xs.0, xs.1)) (xs, rest) e in
    let b = bind_ok (items_at r n a.0.1) (λ xs. Ok (a.0.0 ∷ xs.0, xs.1)) (xs, rest) a.2 in
    let one = base.takes bytes a.0.0 a.0.1 fits a.1 in
    let others = items_take G s r base n a.0.1 b.0.0 b.0.1 (rest_fits bytes (s a.0.0) a.0.1 one.0 fits) b.1 in
    let parts : bytes ≡ flat_map s (a.0.0 ∷ b.0.0) ++ b.0.1 =
    one.0 ∙ ap (λ (x : List ℕ). s a.0.0 ++ x) others.0 ∙ sym (append_assoc (s a.0.0) (flat_map s b.0.0) b.0.1) in
    let made : List X × List ℕ = (a.0.0 ∷ b.0.0, b.0.1) in
    subst (λ (w : List X × List ℕ). (bytes ≡ flat_map s w.0 ++ w.1) × (length w.0 ≡ suc n)
    × AllByRecursion G w.0) (ok_is made (xs, rest) b.2) (parts, ap suc others.1, (one.1, others.2))

pub items_again : {X : Type 0} (G : X → Type 0) (s : X → List ℕ) (r : List ℕ → Result (X × List ℕ) ReadError) → Reads G s r
    → (xs : List X) (rest : List ℕ) → AllByRecursion G xs → items_at r (length xs) (flat_map s xs ++ rest) ≡ Ok (xs, rest)
items_again G s r base [] rest good = refl
items_again G s r base (x ∷ xs) rest good =
    ap (items_at r (suc (length xs))) (append_assoc (s x) (flat_map s xs) rest) ∙ rw (
      base.again x (flat_map s xs ++ rest) good.0,
      items_again G s r base xs rest good.1,
    ) refl

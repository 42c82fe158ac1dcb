-- The fields of messages: what is read is spelled so, and what is spelled so is read.
use Rattle.std.proofs.Common.{◌≡◌, ◌≢◌, ℕ, ℤ, zero, suc, ◌+◌, ◌^◌, ◌<◌, ◌≤◌, Bool, true, false, cond, eqb, ltb, List, [], ◌∷◌, ◌++◌, length, get_or, take, drop, Option, Some, None, refl, sym, ap, subst, ◌∙◌, append_assoc, arith, inl, inr, ◌⊎◌}
use Rattle.std.specs.Prelude.{FitsSigned}
use Rattle.std.specs.List.{flat_map, AllByRecursion, position, position_or_len}
use Rattle.std.specs.Int.{Width, w16, w32, byte_len, from_be_bytes, to_be_bytes, cast_signed, cast_unsigned}
use mir.Val.{bits}
use mir.ValLaws.{of_z_fits}
use Rattle.std.specs.Str.{is_utf8}
use Rattle.std.proofs.lemmas.Bool.{cases_lt, ltb-false, ltb-true, le-ltb, lt-ltb, eqb-true, eqb-false}
use Rattle.std.proofs.lemmas.Int.{to_z-of_z, of_z-to_z}
use Rattle.std.proofs.Math.Facts.{sfits_to_z}
use Rattle.std.proofs.lemmas.List.{take_at, drop_at, take-append-drop, length-append, length-take, get_or-take, get_or_past, get_or_append_left, get_or_at}
use Rattle.std.proofs.lemmas.List.Elements.{recursion_from_All, All-from_recursion}
use Rattle.std.proofs.lemmas.List.Sums.{split_at_first, fails_before_first, passes_at_first, position_or_len_is}
use Rattle.std.proofs.lemmas.Nat.{be_bytes_2, be_bytes_4, from_be_bytes-to_be_bytes_2, from_be_bytes-to_be_bytes_4}
use Rattle.std.proofs.lemmas.Option.{same_Some, cond_some, none-some}
use Rattle.std.proofs.lemmas.Str.{is_utf8-from_IsUtf8, IsUtf8-from_is_utf8}
use Rattle.pg_messages.specs.Fields.{count16, count32, string, IsText}
use Rattle.pg_messages.specs.Frames.{parameter_value, IsParameterValue, IsParameter}
use Rattle.pg_messages.specs.Reading.{◌>>=◌, both_at, items_at, number_at, signed_at, count_at, list_at, string_at, value_behind, value_at, after_zero, parameters_at, all_parameters_at, byte_at}
use Rattle.pg_messages.proofs.Utf8.{false_from}
use Rattle.pg_messages.proofs.Laws.{IsBytes, Reads, bind_some, rest_fits, Reads-as, Reads-both, items_take, items_again}

pub IsBytes-take : (n : ℕ) (bytes : List ℕ) → IsBytes bytes → IsBytes (take n bytes)
IsBytes-take n bytes h i =
    elim (cases_lt i n) [
      | inl lt ↦ rw (get_or-take n bytes i 0 lt) (h i)
      | inr le ↦ rw (get_or_past (take n bytes) i 0 (omega (arith, length-take n bytes))) (omega arith)
    ]

-- a test that did not fail
guard_some : {A : Type 0} (b : Bool) (x y : A) → cond b None (Some x) ≡ Some y → (b ≡ false) × (x ≡ y)
guard_some true x y e = absurd cc
guard_some false x y e = (refl, cc)

-- ---- numbers

pub record IsWide (w : Width) (limit : ℕ) : Type 0 where
  pub len : (n : ℕ) → length (to_be_bytes w n) ≡ byte_len w
  pub back : (bytes : List ℕ) → length bytes ≡ byte_len w → IsBytes bytes → to_be_bytes w (from_be_bytes w bytes) ≡ bytes
  pub again : (n : ℕ) → n < limit → from_be_bytes w (to_be_bytes w n) ≡ n
  pub below : (bytes : List ℕ) → IsBytes bytes → from_be_bytes w bytes < limit

pub wide16 : IsWide w16 (2 ^ 16)
wide16 = record {
  len = λ n. refl;
  back = λ bytes len fits. be_bytes_2 bytes _ len fits refl;
  again = λ n lt. from_be_bytes-to_be_bytes_2 n lt;
  below = λ bytes fits. omega (arith, fits 0, fits 1);
}

pub wide32 : IsWide w32 (2 ^ 32)
wide32 = record {
  len = λ n. refl;
  back = λ bytes len fits. be_bytes_4 bytes _ len fits refl;
  again = λ n lt. from_be_bytes-to_be_bytes_4 n lt;
  below = λ bytes fits. omega (arith, fits 0, fits 1, fits 2, fits 3);
}

pub number_takes : (w : Width) (limit : ℕ) (wide : IsWide w limit) (bytes : List ℕ) (n : ℕ) (rest : List ℕ) → IsBytes bytes
    → number_at w bytes ≡ Some (n, rest) → (bytes ≡ to_be_bytes w n ++ rest) × (n < limit)
number_takes w limit wide bytes n rest fits e =
    let g = guard_some (ltb (length bytes) (byte_len w)) (from_be_bytes w (take (byte_len w) bytes), drop (byte_len w) bytes) (n, rest) e in
    let long : byte_len w ≤ length bytes = ltb-false _ _ g.0 in
    let n-is : from_be_bytes w (take (byte_len w) bytes) ≡ n = ap (λ (p : ℕ × List ℕ). p.0) g.1 in
    let rest-is : drop (byte_len w) bytes ≡ rest = ap (λ (p : ℕ × List ℕ). p.1) g.1 in
    let front : to_be_bytes w n ≡ take (byte_len w) bytes =
    rw (← n-is) (wide.back (take (byte_len w) bytes) (omega (
      arith,
      length-take (byte_len w) bytes,
    )) (IsBytes-take (byte_len w) bytes fits)) in (
      rw (front, ← rest-is) (sym (take-append-drop (byte_len w) bytes)),
      rw (← n-is) (wide.below (take (byte_len w) bytes) (IsBytes-take (byte_len w) bytes fits)),
    )

pub number_again : (w : Width) (limit : ℕ) (wide : IsWide w limit) (n : ℕ) (rest : List ℕ) → n < limit
    → number_at w (to_be_bytes w n ++ rest) ≡ Some (n, rest)
number_again w limit wide n rest lt =
    let len = wide.len n in
    let long : ltb (length (to_be_bytes w n ++ rest)) (byte_len w) ≡ false =
    le-ltb _ _ (omega (arith, length-append (to_be_bytes w n) rest)) in
    rw (long, take_at (to_be_bytes w n) rest (byte_len w) len, drop_at (to_be_bytes w n) rest (byte_len w) len, wide.again n lt) refl

pub Reads-number : (w : Width) (limit : ℕ) → IsWide w limit → Reads (λ (n : ℕ). n < limit) (λ (n : ℕ). to_be_bytes w n) (number_at w)
Reads-number w limit wide = record { takes = number_takes w limit wide; again = number_again w limit wide }

pub Reads-signed : (w : Width) → IsWide w (2 ^ bits w)
    → Reads (λ (z : ℤ). FitsSigned w z) (λ (z : ℤ). to_be_bytes w (cast_unsigned w z)) (signed_at w)
Reads-signed w wide =
    Reads-as (λ (n : ℕ). n < 2 ^ bits w) (λ (z : ℤ). FitsSigned w z) (λ (n : ℕ). to_be_bytes w n)
    (λ (z : ℤ). to_be_bytes w (cast_unsigned w z)) (number_at w) (cast_signed w) (cast_unsigned w)
    (λ n lt. (ap (to_be_bytes w) (of_z-to_z w n lt), sfits_to_z (record { fits = lt })))
    (λ z fits. (refl, to_z-of_z w z fits, (of_z_fits w z fits).fits))
    (Reads-number w (2 ^ bits w) wide)

-- ---- counts and lists

pub Reads-count : Reads (λ (n : ℕ). n < 2 ^ 15) count16 count_at
unfolding count_at
Reads-count = record {
  takes = λ bytes n rest fits e.
      let a = bind_some (number_at w16 bytes) (λ x. cond (ltb x.0 (2 ^ 15)) (Some x) None) (n, rest) e in
      let g = cond_some (ltb a.0.0 (2 ^ 15)) a.0 (n, rest) a.2 in
      let t = number_takes w16 (2 ^ 16) wide16 bytes a.0.0 a.0.1 fits a.1 in
      subst (λ (w : ℕ × List ℕ). (bytes ≡ count16 w.0 ++ w.1) × (w.0 < 2 ^ 15)) g.1 (t.0, ltb-true _ _ g.0);
  again = λ n rest lt.
      rw (number_again w16 (2 ^ 16) wide16 n rest (omega (arith, lt)), lt-ltb n (2 ^ 15) lt) refl;
}

pub Reads-list : {X : Type 0} (G : X → Type 0) (s : X → List ℕ) (r : List ℕ → Option (X × List ℕ)) → Reads G s r
    → Reads (λ (xs : List X). (length xs < 2 ^ 15)
    × AllByRecursion G xs) (λ (xs : List X). count16 (length xs) ++ flat_map s xs) (list_at r)
Reads-list {X} G s r base = record {
  takes = λ bytes xs rest fits e.
      let a = bind_some (count_at bytes) (λ n. items_at r n.0 n.1) (xs, rest) e in
      let one = Reads-count.takes bytes a.0.0 a.0.1 fits a.1 in
      let two = items_take G s r base a.0.0 a.0.1 xs rest (rest_fits bytes (count16 a.0.0) a.0.1 one.0 fits) a.2 in
      let parts : bytes ≡ (count16 a.0.0 ++ flat_map s xs) ++ rest =
      one.0 ∙ ap (λ (x : List ℕ). count16 a.0.0 ++ x) two.0 ∙ sym (append_assoc (count16 a.0.0) (flat_map s xs) rest) in
      (parts ∙ ap (λ (k : ℕ). (count16 k ++ flat_map s xs) ++ rest) (sym two.1), (omega (arith, two.1, one.1), two.2));
  again = λ xs rest good.
      ap (list_at r) (append_assoc (count16 (length xs)) (flat_map s xs) rest)
      ∙ rw (Reads-count.again (length xs) (flat_map s xs ++ rest) good.0) (items_again G s r base xs rest good.1);
}

-- ---- texts

abbrev is_zero : ℕ → Bool
is_zero byte = eqb byte 0

zero_found : (x : ℕ) → is_zero x ≡ true → x ≡ 0
zero_found x e = eqb-true x 0 e

not_zero : (x : ℕ) → is_zero x ≡ false → x ≢ 0
not_zero x e = λ z. absurd (eqb-false x 0 e z)

is_not_zero : (x : ℕ) → x ≢ 0 → is_zero x ≡ false
is_not_zero x h = false_from (is_zero x) (λ e. h (eqb-true x 0 e))

-- the bytes before the first zero byte, and what follows it
split_at_zero : (bytes : List ℕ) (n : ℕ) → position is_zero bytes ≡ Some n
    → (bytes ≡ string (take n bytes) ++ drop (n + 1) bytes) × AllByRecursion (λ byte. byte ≢ 0) (take n bytes)
split_at_zero bytes n e =
    let p = cond_some (ltb (position_or_len is_zero bytes) (length bytes)) (position_or_len is_zero bytes) n e in
    let short : position_or_len is_zero bytes < length bytes = ltb-true _ _ p.0 in
    let first = position_or_len is_zero bytes in
    let split : bytes ≡ take first bytes ++ (get_or bytes first 0 ∷ drop (first + 1) bytes) = split_at_first is_zero bytes 0 short in
    let zero_there : get_or bytes first 0 ≡ 0 = zero_found (get_or bytes first 0) (passes_at_first is_zero bytes 0 short) in
    let parts : bytes ≡ string (take first bytes) ++ drop (first + 1) bytes =
    split ∙ ap (λ (x : ℕ). take first bytes ++ (x ∷ drop (first + 1) bytes)) zero_there
    ∙ sym (append_assoc (take first bytes) (0 ∷ []) (drop (first + 1) bytes)) in
    let none : AllByRecursion (λ byte. byte ≢ 0) (take first bytes) = recursion_from_All (λ byte. byte ≢ 0) (take first bytes)
    (λ k d lt. let below : k < first = omega (
      arith,
      length-take first bytes,
    ) in rw (get_or-take first bytes k d below)
    (not_zero (get_or bytes k d) (fails_before_first is_zero bytes k d below))) in
    subst (λ (m : ℕ). (bytes ≡ string (take m bytes) ++ drop (m + 1) bytes) × AllByRecursion (λ byte. byte ≢ 0) (take m bytes)) p.1 (
      parts,
      none,
    )

-- a text that is ended by a zero byte ends there
zero_after : (text rest : List ℕ) → AllByRecursion (λ byte. byte ≢ 0) text → position is_zero (text ++ 0 ∷ rest) ≡ Some (length text)
zero_after text rest none =
    let u = text ++ 0 ∷ rest in
    let long : length text < length u = omega (arith, length-append text (0 ∷ rest)) in
    let all = All-from_recursion (λ byte. byte ≢ 0) text none in
    let place : position_or_len is_zero u ≡ length text = position_or_len_is is_zero u (length text) 0 (omega arith)
    (λ k lt. rw (get_or_append_left text (0 ∷ rest) 0 k lt) (is_not_zero (get_or text k 0) (all k 0 lt)))
    (λ lt. ap is_zero (get_or_at text 0 rest 0 (length text) refl)) in
    rw (place, lt-ltb (length text) (length u) long) refl

pub Reads-string : Reads IsText string string_at
unfolding string_at
Reads-string = record {
  takes = λ bytes text rest fits e.
      let a = bind_some (position is_zero bytes) (λ n. cond (is_utf8 (take n bytes)) (Some (take n bytes, drop (n + 1) bytes)) None) (
        text,
        rest,
      ) e in
      let g = cond_some (is_utf8 (take a.0 bytes)) (take a.0 bytes, drop (a.0 + 1) bytes) (text, rest) a.2 in
      let s = split_at_zero bytes a.0 a.1 in
      let good : IsText (take a.0 bytes) = record { utf8 = IsUtf8-from_is_utf8 (take a.0 bytes) g.0; no_zero = s.1 } in
      subst (λ (w : List ℕ × List ℕ). (bytes ≡ string w.0 ++ w.1) × IsText w.0) g.1 (s.0, good);
  again = λ text rest good.
      let e : string text ++ rest ≡ text ++ 0 ∷ rest = append_assoc text (0 ∷ []) rest in
      let dropped : drop (length text + 1) (text ++ 0 ∷ rest) ≡ rest =
      ap (drop (length text + 1)) (sym e) ∙ drop_at (string text) rest (length text + 1) (length-append text (0 ∷ [])) in
      let read : string_at (text ++ 0 ∷ rest) ≡ Some (text, rest) =
      rw (
        zero_after text rest good.no_zero,
        take_at text (0 ∷ rest) (length text) refl,
        is_utf8-from_IsUtf8 text good.utf8,
        dropped,
      ) refl in
      ap string_at e ∙ read;
}

-- ---- values behind their length

pub chosen : {A : Type 0} (b : Bool) (x y z : A) → cond b x y ≡ z → ((b ≡ true) × (x ≡ z)) ⊎ ((b ≡ false) × (y ≡ z))
chosen true x y z e = inl (refl, e)
chosen false x y z e = inr (refl, e)

pub eqb-apart : (a b : ℕ) → (a ≡ b → ⊥) → eqb a b ≡ false
eqb-apart a b h = false_from (eqb a b) (λ e. h (eqb-true a b e))

value_taken : (n : ℕ) (bytes : List ℕ) (value : Option (List ℕ)) (rest : List ℕ) → value_behind (n, bytes) ≡ Some (value, rest)
    → (count32 n ++ bytes ≡ parameter_value value ++ rest) × IsParameterValue value
value_taken n bytes value rest e =
    let null : Option (List ℕ) × List ℕ = (None, bytes) in
    let some : Option (List ℕ) × List ℕ = (Some (take n bytes), drop n bytes) in
    elim (chosen (eqb n 4294967295) (Some null) (cond (ltb n (2 ^ 31)) (cond (ltb (length bytes) n) None (Some some)) None) (Some (
      value,
      rest,
    )) e) [
      | inl h ↦
          let is : n ≡ 4294967295 = eqb-true _ _ h.0 in
          subst (λ (w : Option (List ℕ) × List ℕ). (count32 n ++ bytes ≡ parameter_value w.0 ++ w.1)
          × IsParameterValue w.0) (same_Some null (value, rest) h.1) (ap (λ (k : ℕ). count32 k ++ bytes) is, tt)
      | inr h ↦
          elim (chosen (ltb n (2 ^ 31)) (cond (ltb (length bytes) n) None (Some some)) None (Some (value, rest)) h.1) [
            | inl k ↦
                let g = guard_some (ltb (length bytes) n) some (value, rest) k.1 in
                let long : n ≤ length bytes = ltb-false _ _ g.0 in
                let len : length (take n bytes) ≡ n = omega (arith, length-take n bytes) in
                let small : n < 2 ^ 31 = ltb-true _ _ k.0 in
                let parts : count32 n ++ bytes ≡ (count32 (length (take n bytes)) ++ take n bytes) ++ drop n bytes =
                ap (λ (x : List ℕ). count32 n ++ x) (sym (take-append-drop n bytes))
                ∙ sym (append_assoc (count32 n) (take n bytes) (drop n bytes))
                ∙ ap (λ (m : ℕ). (count32 m ++ take n bytes) ++ drop n bytes) (sym len) in
                let fits : length (take n bytes) < 2 ^ 31 = omega arith in
                subst (λ (w : Option (List ℕ) × List ℕ). (count32 n ++ bytes ≡ parameter_value w.0 ++ w.1)
                × IsParameterValue w.0) g.1 (parts, fits)
            | inr k ↦ absurd (none-some (value, rest) k.1)
          ]
    ]

value_again : (value : Option (List ℕ)) (rest : List ℕ) → IsParameterValue value
    → value_at (parameter_value value ++ rest) ≡ Some (value, rest)
unfolding value_at
value_again None rest good =
    let e : number_at w32 (count32 4294967295 ++ rest) ≡ Some (4294967295, rest) =
    number_again w32 (2 ^ 32) wide32 4294967295 rest (omega arith) in
    ap (λ (o : Option (ℕ × List ℕ)). o >>= value_behind) e
value_again (Some bytes) rest good =
    let n = length bytes in
    let e : number_at w32 (count32 n ++ (bytes ++ rest)) ≡ Some (n, bytes ++ rest) =
    number_again w32 (2 ^ 32) wide32 n (bytes ++ rest) (omega (arith, good)) in
    let other : eqb n 4294967295 ≡ false = eqb-apart n 4294967295 (λ same. omega (arith, good, same)) in
    let small : ltb n (2 ^ 31) ≡ true = lt-ltb n (2 ^ 31) good in
    let long : ltb (length (bytes ++ rest)) n ≡ false = le-ltb _ _ (omega (arith, length-append bytes rest)) in
    let behind : value_behind (n, bytes ++ rest) ≡ Some (Some bytes, rest) =
    rw (other, small, long, take_at bytes rest n refl, drop_at bytes rest n refl) refl in
    ap value_at (append_assoc (count32 n) bytes rest) ∙ ap (λ (o : Option (ℕ × List ℕ)). o >>= value_behind) e ∙ behind

pub Reads-value : Reads IsParameterValue parameter_value value_at
unfolding value_at
Reads-value = record {
  takes = λ bytes value rest fits e.
      let a = bind_some (number_at w32 bytes) value_behind (value, rest) e in
      let one = number_takes w32 (2 ^ 32) wide32 bytes a.0.0 a.0.1 fits a.1 in
      let two = value_taken a.0.0 a.0.1 value rest a.2 in
      (one.0 ∙ two.0, two.1);
  again = value_again;
}

-- ---- one byte

pub Reads-byte : Reads (λ (b : ℕ). Unit {0}) (λ (b : ℕ). b ∷ []) byte_at
Reads-byte = record { takes = byte_takes; again = λ b rest good. refl }
  where
    byte_takes : (bytes : List ℕ) (b : ℕ) (rest : List ℕ) → IsBytes bytes → byte_at bytes ≡ Some (b, rest)
        → (bytes ≡ (b ∷ []) ++ rest) × Unit {0}
    byte_takes [] b rest fits e = absurd (none-some (b, rest) e)
    byte_takes (x ∷ bytes) b rest fits e =
        let made : ℕ × List ℕ = (x, bytes) in
        subst (λ (w : ℕ × List ℕ). (x ∷ bytes ≡ (w.0 ∷ []) ++ w.1) × Unit {0}) (same_Some made (b, rest) e) (refl, tt)

-- ---- pairs of texts up to a zero byte

abbrev pub pair_bytes : List ℕ × List ℕ → List ℕ
pair_bytes pair = string pair.0 ++ string pair.1

abbrev pub parameters_bytes : List (List ℕ × List ℕ) → List ℕ
parameters_bytes pairs = flat_map pair_bytes pairs ++ 0 ∷ []

Reads-pair : Reads (λ (p : List ℕ × List ℕ). IsText p.0
    × IsText p.1) (λ (p : List ℕ × List ℕ). string p.0 ++ string p.1) (both_at string_at string_at)
Reads-pair = Reads-both IsText IsText string string string_at string_at Reads-string Reads-string

zero_cases : (bytes : List ℕ) → ((rest : List ℕ) × (after_zero bytes ≡ Some rest) × (bytes ≡ 0 ∷ rest)) ⊎ (after_zero bytes ≡ None)
zero_cases [] = inr refl
zero_cases (zero ∷ rest) = inl (rest, refl, refl)
zero_cases (suc b ∷ rest) = inr refl

name_in_front : (name more : List ℕ) → name ≢ [] → AllByRecursion (λ byte. byte ≢ 0) name → after_zero (string name ++ more) ≡ None
name_in_front [] more named none = absurd (named refl)
name_in_front (zero ∷ name) more named none = absurd (none.0 refl)
name_in_front (suc b ∷ name) more named none = refl

named_from : (bytes name more : List ℕ) → bytes ≡ string name ++ more → after_zero bytes ≡ None → name ≢ []
named_from bytes name more e ahead = λ empty. none-some more (sym ahead ∙ ap after_zero (e ∙ ap (λ (x : List ℕ). string x ++ more) empty))

parameters_take : (n : ℕ) (bytes : List ℕ) (ps : List (List ℕ × List ℕ)) (rest : List ℕ) → IsBytes bytes
    → parameters_at n bytes ≡ Some (ps, rest) → (bytes ≡ parameters_bytes ps ++ rest) × AllByRecursion IsParameter ps
unfolding parameters_at
parameters_take zero bytes ps rest fits e = absurd (none-some (ps, rest) e)
parameters_take (suc n) bytes ps rest fits e =
    elim (zero_cases bytes) [
      | inl h ↦
          let read : Some ([], h.0) ≡ Some (ps, rest) = rw h.1 at e in
          let made : List (List ℕ × List ℕ) × List ℕ = ([], h.0) in
          subst (λ (w : List (List ℕ × List ℕ) × List ℕ). (bytes ≡ parameters_bytes w.0 ++ w.1)
          × AllByRecursion IsParameter w.0) (same_Some made (ps, rest) read) (h.2, tt)
      | inr ahead ↦
          let read : (both_at string_at string_at bytes >>= λ x. parameters_at n x.1 >>= λ xs. Some (x.0 ∷ xs.0, xs.1)) ≡ Some (ps, rest) =
          rw ahead at e in
          let a = bind_some (both_at string_at string_at bytes) (λ x. parameters_at n x.1 >>= λ xs. Some (x.0 ∷ xs.0, xs.1)) (
            ps,
            rest,
          ) read in
          let b = bind_some (parameters_at n a.0.1) (λ xs. Some (a.0.0 ∷ xs.0, xs.1)) (ps, rest) a.2 in
          let one = Reads-pair.takes bytes a.0.0 a.0.1 fits a.1 in
          let others = parameters_take n a.0.1 b.0.0 b.0.1 (rest_fits bytes (pair_bytes a.0.0) a.0.1 one.0 fits) b.1 in
          let parts : bytes ≡ parameters_bytes (a.0.0 ∷ b.0.0) ++ b.0.1 =
          one.0 ∙ ap (λ (x : List ℕ). pair_bytes a.0.0 ++ x) others.0 ∙ simp append_assoc in
          let named : a.0.0.0 ≢ [] = named_from bytes a.0.0.0 (string a.0.0.1 ++ a.0.1) (one.0
          ∙ append_assoc (string a.0.0.0) (string a.0.0.1) a.0.1) ahead in
          let good : IsParameter a.0.0 = record { name = one.1.0; named = named; value = one.1.1 } in
          let made : List (List ℕ × List ℕ) × List ℕ = (a.0.0 ∷ b.0.0, b.0.1) in
          subst (λ (w : List (List ℕ × List ℕ) × List ℕ). (bytes ≡ parameters_bytes w.0 ++ w.1)
          × AllByRecursion IsParameter w.0) (same_Some made (ps, rest) b.2) (parts, (good, others.1))
    ]

parameters_again : (ps : List (List ℕ × List ℕ)) (n : ℕ) (rest : List ℕ) → length ps < n → AllByRecursion IsParameter ps
    → parameters_at n (parameters_bytes ps ++ rest) ≡ Some (ps, rest)
unfolding parameters_at
parameters_again [] zero rest lt good = absurd (omega arith)
parameters_again [] (suc n) rest lt good = refl
parameters_again (p ∷ ps) zero rest lt good = absurd (omega arith)
parameters_again (p ∷ ps) (suc n) rest lt good =
    let more = parameters_bytes ps ++ rest in
    let regrouped : parameters_bytes (p ∷ ps) ++ rest ≡ pair_bytes p ++ more = simp append_assoc in
    let ahead : after_zero (pair_bytes p ++ more) ≡ None =
    ap after_zero (append_assoc (string p.0) (string p.1) more)
    ∙ name_in_front p.0 (string p.1 ++ more) good.0.named good.0.name.no_zero in
    ap (parameters_at (suc n)) regrouped ∙ rw (
      ahead,
      Reads-pair.again p more (good.0.name, good.0.value),
      parameters_again ps n rest (omega arith) good.1,
    ) refl

fewer_pairs : (ps : List (List ℕ × List ℕ)) → length ps ≤ length (flat_map pair_bytes ps)
fewer_pairs [] = omega arith
fewer_pairs (p ∷ ps) = omega (
  arith,
  fewer_pairs ps,
  length-append (pair_bytes p) (flat_map pair_bytes ps),
  length-append (string p.0) (string p.1),
  length-append p.0 (0 ∷ []),
)

pub Reads-parameters : Reads (λ (ps : List (List ℕ × List ℕ)). AllByRecursion IsParameter ps) parameters_bytes all_parameters_at
Reads-parameters = record {
  takes = λ bytes ps rest fits e. parameters_take (length bytes) bytes ps rest fits e;
  again = λ ps rest good. parameters_again ps (length (parameters_bytes ps ++ rest)) rest (omega (
    arith,
    fewer_pairs ps,
    length-append (parameters_bytes ps) rest,
    length-append (flat_map pair_bytes ps) (0 ∷ []),
  )) good;
}

-- The bytes of the client.
use Rattle.std.proofs.Common.{◌≡◌, ℕ, zero, suc, ◌+◌, ◌*◌, ◌^◌, ◌<◌, ◌≤◌, false, map, List, [], ◌∷◌, ◌++◌, length, decimal, refl, ap, sym, ◌∙◌, arith, append_assoc, length-append}
use Rattle.std.specs.List.{flat_map, range_with_len}
use Rattle.std.proofs.lemmas.Fmt.{length-decimal-le}
use Rattle.std.proofs.lemmas.List.{append-nil}
use Rattle.std.proofs.lemmas.List.FromFn.{map-range_with_len_more}
use Rattle.std.proofs.lemmas.List.Concat.{flat_map-append}
use Rattle.pg_messages.specs.Fields.{count32}
use Rattle.pg_messages.specs.Frames.{frame_bytes, parse_body, bind_body, execute_body}
use Rattle.relation_demo.specs.Client.{parse, bind, execute, asking, demo_client}

-- the body of a Parse: an empty name, the relation's name, and no types
parse_body_of : (i : ℕ) → parse_body (parse i) ≡ 0 ∷ 114 ∷ decimal i ++ 0 ∷ 0 ∷ 0 ∷ []
parse_body_of i = ap (λ b. 0 ∷ 114 ∷ b)
    (append-nil (decimal i ++ 0 ∷ [] ++ 0 ∷ 0 ∷ []) ∙ append_assoc (decimal i) (0 ∷ []) (0 ∷ 0 ∷ []))

parse_len : (i : ℕ) → 4 + length (parse_body (parse i)) ≡ length (decimal i) + 9
parse_len i = omega (arith, ap length (parse_body_of i), length-append (decimal i) (0 ∷ 0 ∷ 0 ∷ []))

pub parse_frame : (i : ℕ) → frame_bytes false 80 (parse_body (parse i))
    ≡ 80 ∷ count32 (length (decimal i) + 9) ++ 0 ∷ 114 ∷ decimal i ++ 0 ∷ 0 ∷ 0 ∷ []
parse_frame i = ap (λ n. 80 ∷ count32 n ++ parse_body (parse i)) (parse_len i)
    ∙ ap (λ b. 80 ∷ count32 (length (decimal i) + 9) ++ b) (parse_body_of i)

map_id : (xs : List ℕ) → map (λ k. k) xs ≡ xs
map_id [] = refl
map_id (x ∷ xs) = ap (λ l. x ∷ l) (map_id xs)

range_more : (n : ℕ) → range_with_len 0 (n + 1) ≡ range_with_len 0 n ++ n ∷ []
range_more n = sym (map_id (range_with_len 0 (n + 1))) ∙ map-range_with_len_more (λ k. k) 0 n n (omega arith)
    ∙ ap (λ l. l ++ n ∷ []) (map_id (range_with_len 0 n))

-- what asks for one more relation stands behind what asks for those before it
pub asking_more : (n : ℕ) → flat_map asking (range_with_len 0 (n + 1)) ≡ flat_map asking (range_with_len 0 n) ++ asking n
asking_more n = ap (flat_map asking) (range_more n) ∙ flat_map-append asking (range_with_len 0 n) (n ∷ [])
    ∙ ap (λ b. flat_map asking (range_with_len 0 n) ++ b) (append-nil (asking n))

-- the messages for a relation, one behind another
pub asking_from : (i : ℕ) (old first second third all : List ℕ) → first ≡ old ++ frame_bytes false 80 (parse_body (parse i))
    → second ≡ first ++ frame_bytes false 66 (bind_body bind) → third ≡ second ++ frame_bytes false 69 (execute_body execute)
    → all ≡ third ++ frame_bytes false 83 [] → all ≡ old ++ asking i
unfolding asking
asking_from i old first second third all e f g h =
    let p = frame_bytes false 80 (parse_body (parse i)) in
    let b = frame_bytes false 66 (bind_body bind) in
    let x = frame_bytes false 69 (execute_body execute) in
    let y = frame_bytes false 83 [] in
    h ∙ ap (λ l. l ++ y) (g ∙ ap (λ l. l ++ x) (f ∙ ap (λ l. l ++ b) e ∙ append_assoc old p b) ∙ append_assoc old (p ++ b) x)
    ∙ append_assoc old (p ++ b ++ x) y

-- ---- how long it is

asking_is : (i : ℕ) → asking i ≡ ((80 ∷ count32 (length (decimal i) + 9) ++ 0 ∷ 114 ∷ decimal i ++ 0 ∷ 0 ∷ 0 ∷ [])
    ++ frame_bytes false 66 (bind_body bind)) ++ frame_bytes false 69 (execute_body execute) ++ frame_bytes false 83 []
unfolding asking
asking_is i = ap (λ p. p ++ frame_bytes false 66 (bind_body bind) ++ frame_bytes false 69 (execute_body execute) ++ frame_bytes false 83 [])
    (parse_frame i)

asking_len : (i : ℕ) → i < 10 ^ 5 → length (asking i) ≤ 45
asking_len i few = rw (asking_is i) (simp length-append (omega (arith, length-decimal-le 5 i (omega arith) few (omega arith))))

all_len : (a n : ℕ) → a + n ≤ 10000 → length (flat_map asking (range_with_len a n)) ≤ 45 * n
all_len a zero few = omega arith
all_len a (suc n) few = omega (
  arith,
  length-append (asking a) (flat_map asking (range_with_len (a + 1) n)),
  asking_len a (omega arith),
  all_len (a + 1) n (omega arith),
)

pub is_short : (count : ℕ) → count ≤ 10000 → length (demo_client count) ≤ 1000000
unfolding demo_client
is_short count few = simp length-append (omega (arith, all_len 0 count (omega arith)))

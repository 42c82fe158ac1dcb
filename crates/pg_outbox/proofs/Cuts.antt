-- Bytes that are cut into chunks.
use Rattle.std.proofs.Common.{◌≡◌, ℕ, zero, suc, ◌+◌, ◌-◌, ◌*◌, ◌/◌, ◌%◌, ◌<◌, ◌≤◌, List, [], ◌∷◌, ◌++◌, length, get_or, take, drop, refl, sym, ap, ◌∙◌, append_assoc, arith, length-append}
use Rattle.std.proofs.lemmas.List.{take-append-le, drop-append-le, take_all, drop_all, get_or-take}
use Rattle.std.proofs.Math.Nat.{div-add-mod}
use Rattle.std.proofs.Math.Seq.{take-append-add, take-append_seam, drop-append_seam, drop-append-add}
use Rattle.bytes.specs.Filled.{Filled}
use Rattle.pg_outbox.specs.Chunks.{chunk_bytes, AreWhole, IsCut}

pub length_whole : (cs : List Filled) → AreWhole cs → length (chunk_bytes cs) ≡ 65536 * length cs
length_whole [] w = refl
length_whole (c ∷ cs) w = omega (arith, length-append c.items (chunk_bytes cs), length_whole cs w.1, w.0)

-- how many bytes there are
pub length_cut : (cs : List Filled) (l : List ℕ) → AreWhole cs → length (chunk_bytes cs ++ l) ≡ 65536 * length cs + length l
length_cut cs l w = omega (arith, length-append (chunk_bytes cs) l, length_whole cs w)

pub AreWhole-push : (cs : List Filled) (c : Filled) → AreWhole cs → length c.items ≡ 65536 → AreWhole (cs ++ c ∷ [])
AreWhole-push [] c w e = (e, tt)
AreWhole-push (d ∷ cs) c w e = (w.0, AreWhole-push cs c w.1 e)

pub AreWhole-take : (n : ℕ) (cs : List Filled) → AreWhole cs → AreWhole (take n cs)
AreWhole-take zero cs w = tt
AreWhole-take (suc n) [] w = tt
AreWhole-take (suc n) (c ∷ cs) w = (w.0, AreWhole-take n cs w.1)

pub AreWhole-rest : (cs : List Filled) → AreWhole cs → AreWhole (drop 1 cs)
AreWhole-rest [] w = tt
AreWhole-rest (c ∷ cs) w = w.1

pub AreWhole-get : (cs : List Filled) (i : ℕ) (d : Filled) → AreWhole cs → i < length cs → length (get_or cs i d).items ≡ 65536
AreWhole-get [] i d w h = absurd (omega arith)
AreWhole-get (c ∷ cs) zero d w h = w.0
AreWhole-get (c ∷ cs) (suc i) d w h = AreWhole-get cs i d w.1 (omega arith)

-- the first chunk
pub take_first : (cs : List Filled) (l : List ℕ) (d : Filled) → AreWhole cs → 0 < length cs
    → take 65536 (chunk_bytes cs ++ l) ≡ (get_or cs 0 d).items
take_first [] l d w h = absurd (omega arith)
take_first (c ∷ cs) l d w h = rw (append_assoc, ← w.0) (take-append_seam c.items (chunk_bytes cs ++ l))

-- what stands behind it
pub drop_first : (cs : List Filled) (l : List ℕ) → AreWhole cs → 0 < length cs
    → drop 65536 (chunk_bytes cs ++ l) ≡ chunk_bytes (drop 1 cs) ++ l
drop_first [] l w h = absurd (omega arith)
drop_first (c ∷ cs) l w h = rw (append_assoc, ← w.0) (drop-append_seam c.items (chunk_bytes cs ++ l))

-- a cut in the chunk at place q
pub take_cut : (q r : ℕ) (cs : List Filled) (l : List ℕ) (d : Filled) → AreWhole cs → q < length cs → r ≤ 65536
    → take (65536 * q + r) (chunk_bytes cs ++ l) ≡ chunk_bytes (take q cs) ++ take r (get_or cs q d).items
take_cut q r [] l d w h e = absurd (omega arith)
take_cut zero r (c ∷ cs) l d w h e =
    let fits : r ≤ length c.items = omega (arith, w.0) in
    let count : 65536 * 0 + r ≡ r = omega arith in
    rw (count, append_assoc) (take-append-le r c.items (chunk_bytes cs ++ l) fits)
take_cut (suc q) r (c ∷ cs) l d w h e =
    let count : 65536 * suc q + r ≡ length c.items + (65536 * q + r) = omega (arith, w.0) in
    rw (count, append_assoc (c.items) (chunk_bytes cs) l)
    (take-append-add c.items (chunk_bytes cs ++ l) (65536 * q + r)
    ∙ ap (λ t. c.items ++ t) (take_cut q r cs l d w.1 (omega arith) e)
    ∙ sym (append_assoc c.items (chunk_bytes (take q cs)) (take r (get_or cs q d).items)))

-- where there is a last chunk alone
pub take_last : (cs : List Filled) (l : List ℕ) → length cs ≤ 0 → length l ≤ 65536 → take 65536 (chunk_bytes cs ++ l) ≡ l
take_last [] l h e = take_all 65536 l e
take_last (c ∷ cs) l h e = absurd (omega arith)

pub drop_last : (cs : List Filled) (l m : List ℕ) → length cs ≤ 0 → length l ≤ 65536 → m ≡ []
    → chunk_bytes (drop 1 cs) ++ m ≡ drop 65536 (chunk_bytes cs ++ l)
drop_last [] l m h e n = n ∙ sym (drop_all 65536 l e)
drop_last (c ∷ cs) l m h e n = absurd (omega arith)

-- a cut in the last chunk
pub take_end : (n k : ℕ) (cs : List Filled) (l m : List ℕ) → AreWhole cs → k ≡ length cs → k * 65536 ≤ n
    → m ≡ take (n - k * 65536) l → chunk_bytes cs ++ m ≡ take n (chunk_bytes cs ++ l)
take_end n k cs l m w e h f =
    let count : n ≡ length (chunk_bytes cs) + (n - k * 65536) = omega (arith, length_whole cs w) in
    ap (λ t. chunk_bytes cs ++ t) f ∙ sym (take-append-add (chunk_bytes cs) l (n - k * 65536))
    ∙ ap (λ t. take t (chunk_bytes cs ++ l)) (sym count)

take_less : (q : ℕ) (cs : List Filled) → take q (take (suc q) cs) ≡ take q cs
take_less zero cs = refl
take_less (suc q) [] = refl
take_less (suc q) (c ∷ cs) = ap (λ t. c ∷ t) (take_less q cs)

-- a cut in a chunk before the last, which becomes the last
pub take_back : (n q r j k : ℕ) (cs ds es : List Filled) (l m : List ℕ) (d : Filled) → AreWhole cs → q < length cs → r ≤ 65536
    → n ≡ 65536 * q + r → k ≡ suc q → j ≡ q → ds ≡ take k cs → es ≡ take j ds → d ≡ get_or ds j d
    → m ≡ take r d.items → chunk_bytes es ++ m ≡ take n (chunk_bytes cs ++ l)
take_back n q r j k cs ds es l m d w h b e u v f g i o =
    let behind : ds ≡ take (suc q) cs = f ∙ ap (λ t. take t cs) u in
    let front : es ≡ take q cs = g ∙ ap (λ t. take t ds) v ∙ ap (λ t. take q t) behind ∙ take_less q cs in
    let chunk : d ≡ get_or cs q d = i ∙ ap (λ t. get_or ds t d) v ∙ ap (λ t. get_or t q d) behind
    ∙ get_or-take (suc q) cs q d (omega arith) in
    ap (λ t. chunk_bytes t ++ m) front ∙ ap (λ t. chunk_bytes (take q cs) ++ t) (o ∙ ap (λ t. take r t.items) chunk)
    ∙ sym (take_cut q r cs l d w h b) ∙ ap (λ t. take t (chunk_bytes cs ++ l)) (sym e)

-- what stands behind a place in the chunk at place q: the rest of that chunk in front
pub drop_cut : (q r : ℕ) (cs : List Filled) (l : List ℕ) (d : Filled) → AreWhole cs → q < length cs → r ≤ 65536
    → drop (65536 * q + r) (chunk_bytes cs ++ l) ≡ drop r (get_or cs q d).items ++ (chunk_bytes (drop (suc q) cs) ++ l)
drop_cut q r [] l d w h e = absurd (omega arith)
drop_cut zero r (c ∷ cs) l d w h e =
    let fits : r ≤ length c.items = omega (arith, w.0) in
    let count : 65536 * 0 + r ≡ r = omega arith in
    rw (count, append_assoc) (drop-append-le r c.items (chunk_bytes cs ++ l) fits)
drop_cut (suc q) r (c ∷ cs) l d w h e =
    let count : 65536 * suc q + r ≡ length c.items + (65536 * q + r) = omega (arith, w.0) in
    rw (count, append_assoc (c.items) (chunk_bytes cs) l)
    (drop-append-add c.items (chunk_bytes cs ++ l) (65536 * q + r) ∙ drop_cut q r cs l d w.1 (omega arith) e)

-- what stands behind a place in the last chunk
pub drop_end : (n r : ℕ) (cs : List Filled) (l : List ℕ) → AreWhole cs → n ≡ 65536 * length cs + r
    → drop n (chunk_bytes cs ++ l) ≡ drop r l
drop_end n r cs l w e =
    let count : n ≡ length (chunk_bytes cs) + r = omega (arith, length_whole cs w, e) in
    ap (λ t. drop t (chunk_bytes cs ++ l)) count ∙ drop-append-add (chunk_bytes cs) l r

-- a place that stands in no chunk before the last stands in the last
pub place_in_last : (n : ℕ) (cs : List Filled) (l bytes : List ℕ) → IsCut cs l → chunk_bytes cs ++ l ≡ bytes → n < length bytes
    → length cs ≤ n / 65536 → (n ≡ 65536 * length cs + n % 65536) × (n % 65536 < length l)
place_in_last n cs l bytes cut e some far =
    let size = length_cut cs l cut.whole in
    let all = ap length e in
    let parts : 65536 * (n / 65536) + n % 65536 ≡ n = div-add-mod n 65536 in
    (omega (arith, size, all, parts, cut.last, some, far), omega (arith, size, all, parts, cut.last, some, far))

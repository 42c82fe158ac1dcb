-- What is kept, step by step.
use Rattle.std.proofs.Common.{◌≡◌, ℕ, zero, suc, ◌+◌, ◌≤◌, ◌<◌, min, Bool, false, true, List, [], ◌∷◌, ◌++◌, Option, Some, None, refl, ap, sym, subst, ◌∙◌, length, take, drop, append_assoc, length-append, arith}
use Rattle.std.specs.Prelude.{IfSome}
use Rattle.std.proofs.lemmas.List.{take-append-drop, take_at}
use Rattle.std.proofs.lemmas.Bool.{false≢true}
use Rattle.std.proofs.Math.Seq.{drop-append_seam}
use Rattle.conversation_runs.specs.Streams.{GivesFront, GrowsBy, GrowsByFront}
use Rattle.session_recording.specs.Kept.{IsCountedBy, IsTakenOf, IsSentTo, Rose, RoseBy, behind, counted, gone}

take_front : (r : ℕ) (a b : List ℕ) → take r (take r a ++ b) ≡ take r (a ++ b)
take_front zero a b = refl
take_front (suc r) [] b = refl
take_front (suc r) (x ∷ a) b = ap (λ l. x ∷ l) (take_front r a b)

counted_more : (n m : ℕ) → counted (counted n + m) ≡ counted (n + m)
counted_more n m = let e : min (min n 18446744073709551615 + m) 18446744073709551615 ≡ min (n + m) 18446744073709551615 = omega arith in e

-- ---- a source

-- how many bytes are gone where these were taken
gone_are : (taken rest : List ℕ) → gone (taken ++ rest) (Some rest) ≡ length taken
gone_are taken rest = let e = length-append taken rest in omega (arith, e)

pub is_taken : (taken rest : List ℕ) (room : ℕ) (kept : List ℕ) (count : ℕ) → kept ≡ take room taken → count ≡ counted (length taken)
    → IsTakenOf (taken ++ rest) (Some rest) room kept count
is_taken taken rest room kept count e f =
    let n = gone_are taken rest in
    let front : take (gone (taken ++ rest) (Some rest)) (taken ++ rest) ≡ taken = take_at taken rest _ (sym n) in
    let back : drop (gone (taken ++ rest) (Some rest)) (taken ++ rest) ≡ rest =
    ap (λ k. drop k (taken ++ rest)) n ∙ drop-append_seam taken rest in record {
      rest = ap Some (sym back);
      front = e ∙ ap (take room) (sym front);
      number = f ∙ ap (λ l. counted (length l)) (sym front);
    }

-- one more piece was given
pub takes_more : (left mid new : Option (List ℕ)) (room new_room n : ℕ) (into kept new_kept : List ℕ) (count new_count : ℕ)
    → IfSome left (λ text. IsTakenOf text mid room kept count)
    → IfSome mid (λ bytes. GivesFront n into bytes new) → new_room ≡ room
    → new_kept ≡ take room (kept ++ take n into) → new_count ≡ counted (count + length (take n into))
    → IfSome left (λ text. IsTakenOf text new new_room new_kept new_count)
takes_more None mid new room new_room n into kept new_kept count new_count t g h e f = tt
takes_more (Some text) mid new room new_room n into kept new_kept count new_count t g h e f =
    let k = gone text mid in
    let taken = take k text in
    let rest = drop k text in
    let given : GivesFront n into rest new = subst (λ o. IfSome o (λ bytes. GivesFront n into bytes new)) t.rest g in
    let piece = take n into in
    let all : text ≡ (taken ++ piece) ++ drop n rest =
    sym (take-append-drop k text) ∙ ap (λ l. taken ++ l) (sym (take-append-drop n rest)) ∙ sym (append_assoc taken (take n rest) (drop n rest))
    ∙ ap (λ l. (taken ++ l) ++ drop n rest) (sym given.given) in
    let more_kept : new_kept ≡ take room (taken ++ piece) =
    e ∙ ap (λ l. take room (l ++ piece)) t.front ∙ take_front room taken piece in
    let more_count : new_count ≡ counted (length (taken ++ piece)) =
    f ∙ ap (λ c. counted (c + length piece)) t.number ∙ counted_more (length taken) (length piece)
    ∙ ap (λ c. counted c) (sym (length-append taken piece)) in
    subst (λ r. IsTakenOf text new r new_kept new_count) (sym h)
    (subst (λ o. IsTakenOf text o room new_kept new_count) (sym given.rest)
    (subst (λ x. IsTakenOf x (Some (drop n rest)) room new_kept new_count) (sym all)
    (is_taken (taken ++ piece) (drop n rest) room new_kept new_count more_kept more_count)))

-- ---- a sink

behind_is : (before sent : List ℕ) → behind before (Some (before ++ sent)) ≡ sent
behind_is before sent = drop-append_seam before sent

-- a sink took these bytes, and as many were counted as is told
pub is_sent : (before all : List ℕ) (room : ℕ) (kept : List ℕ) (count : ℕ) (has_refused : Bool) → count ≤ length all
    → (has_refused ≡ false → kept ≡ take room all) → (has_refused ≡ false → count ≡ counted (length all))
    → IsSentTo before (Some (before ++ all)) room kept count has_refused
is_sent before all room kept count has_refused w e f = let s = behind_is before all in record {
  grown = ap (λ l. Some (before ++ l)) (sym s);
  within = subst (λ l. count ≤ length l) (sym s) w;
  front = λ h. e h ∙ ap (take room) (sym s);
  number = λ h. f h ∙ ap (λ l. counted (length l)) (sym s);
}

counted_within : (c n l m : ℕ) → c ≤ l → m ≡ counted (c + n) → m ≤ l + n
counted_within c n l m h e =
    let k : m ≡ min (c + n) 18446744073709551615 = e in omega (arith, h, k)

-- one more send was answered with Ok
pub sends_more : (old mid new : Option (List ℕ)) (room new_room : ℕ) (bytes kept new_kept : List ℕ) (count new_count : ℕ)
    (has_refused : Bool) → IfSome old (λ first. IsSentTo first mid room kept count has_refused) → GrowsBy mid new bytes
    → new_room ≡ room → new_kept ≡ take room (kept ++ bytes) → new_count ≡ counted (count + length bytes)
    → IfSome old (λ first. IsSentTo first new new_room new_kept new_count has_refused)
sends_more None mid new room new_room bytes kept new_kept count new_count has_refused s g r e f = tt
sends_more (Some first) mid new room new_room bytes kept new_kept count new_count has_refused s g r e f =
    let all = behind first mid in
    let is_new : new ≡ Some ((first ++ all) ++ bytes) = subst (λ o. GrowsBy o new bytes) s.grown g in
    let one : new ≡ Some (first ++ (all ++ bytes)) = is_new ∙ ap Some (append_assoc first all bytes) in
    let more_kept : has_refused ≡ false → new_kept ≡ take room (all ++ bytes) =
    λ h. e ∙ ap (λ l. take room (l ++ bytes)) (s.front h) ∙ take_front room all bytes in
    let more_count : has_refused ≡ false → new_count ≡ counted (length (all ++ bytes)) =
    λ h. f ∙ ap (λ c. counted (c + length bytes)) (s.number h) ∙ counted_more (length all) (length bytes)
    ∙ ap (λ c. counted c) (sym (length-append all bytes)) in
    let within : new_count ≤ length (all ++ bytes) =
    subst (λ l. new_count ≤ l) (sym (length-append all bytes))
    (counted_within count (length bytes) (length all) new_count s.within f) in
    subst (λ q. IsSentTo first new q new_kept new_count has_refused) (sym r)
    (subst (λ o. IsSentTo first o room new_kept new_count has_refused) (sym one)
    (is_sent first (all ++ bytes) room new_kept new_count has_refused within more_kept more_count))

-- a send was refused
pub sends_refused : (old mid new : Option (List ℕ)) (room : ℕ) (bytes kept : List ℕ) (count : ℕ) (has_refused : Bool)
    → IfSome old (λ first. IsSentTo first mid room kept count has_refused) → GrowsByFront mid new bytes
    → IfSome old (λ first. IsSentTo first new room kept count true)
sends_refused None mid new room bytes kept count has_refused s g = tt
sends_refused (Some first) mid new room bytes kept count has_refused s g =
    let all = behind first mid in
    let f = subst (λ o. GrowsByFront o new bytes) s.grown g in
    let one : new ≡ Some (first ++ (all ++ f.0)) = f.2 ∙ ap Some (append_assoc first all f.0) in
    let within : count ≤ length (all ++ f.0) =
    let l = length-append all f.0 in let w = s.within in omega (arith, l, w) in
    subst (λ o. IsSentTo first o room kept count true) (sym one)
    (is_sent first (all ++ f.0) room kept count true within (λ h. absurd (false≢true (sym h))) (λ h. absurd (false≢true (sym h))))

-- ---- its counts

rose_more : (old mid new n count new_count : ℕ) → count ≤ 18446744073709551615 → RoseBy count old mid → new ≡ counted (mid + n)
    → new_count ≡ counted (count + n) → RoseBy new_count old new
rose_more old mid new n count new_count w r e f h =
    let k : new_count ≡ min (count + n) 18446744073709551615 = f in
    let j : new ≡ min (mid + n) 18446744073709551615 = e in
    let few : old + count < 18446744073709551616 = omega (arith, w, h, k) in
    let m = r few in omega (arith, w, h, k, j, m)

counted_few : (n m : ℕ) → m ≡ counted n → m ≤ 18446744073709551615
counted_few n m e = let k : m ≡ min n 18446744073709551615 = e in omega (arith, k)

-- one more send was answered with Ok
pub counts_more : (count new_count : ℕ) (has_refused : Bool) (sent mid new refused mid_refused new_refused n : ℕ)
    → IsCountedBy count has_refused sent mid refused mid_refused → new ≡ counted (mid + n) → new_refused ≡ mid_refused
    → new_count ≡ counted (count + n) → IsCountedBy new_count has_refused sent new refused new_refused
counts_more count new_count has_refused sent mid new refused mid_refused new_refused n c e r f = record {
  within = counted_few (count + n) new_count f;
  number = rose_more sent mid new n count new_count c.within c.number e f;
  none = λ h. r ∙ c.none h;
  some = λ h. subst (λ m. Rose refused m) (sym r) (c.some h);
}

rose_one : (has_refused : Bool) (old mid new : ℕ) → (has_refused ≡ false → mid ≡ old) → (has_refused ≡ true → Rose old mid)
    → new ≡ counted (mid + 1) → Rose old new
rose_one true old mid new none some e h =
    let k : new ≡ min (mid + 1) 18446744073709551615 = e in let s = some refl h in omega (arith, k, s, h)
rose_one false old mid new none some e h =
    let k : new ≡ min (mid + 1) 18446744073709551615 = e in let s = none refl in omega (arith, k, s, h)

-- a send was refused
pub counts_refused : (count : ℕ) (has_refused : Bool) (sent mid new refused mid_refused new_refused : ℕ)
    → IsCountedBy count has_refused sent mid refused mid_refused → new ≡ mid → new_refused ≡ counted (mid_refused + 1)
    → IsCountedBy count true sent new refused new_refused
counts_refused count has_refused sent mid new refused mid_refused new_refused c e r = record {
  within = c.within;
  number = λ h. e ∙ c.number h;
  none = λ h. absurd (false≢true (sym h));
  some = λ h. rose_one has_refused refused mid_refused new_refused c.none c.some r;
}

-- A text begins with one frame at most, and has one division.
use Rattle.std.proofs.Common.{◌≡◌, ℕ, zero, suc, ◌+◌, ◌^◌, ◌<◌, ◌≤◌, Bool, true, false, List, [], ◌∷◌, ◌++◌, length, get_or, take, drop, Option, Some, None, refl, sym, ap, subst, ◌∙◌, append_assoc, append-nil, arith, inl, inr, ◌⊎◌, Contains}
use Rattle.std.specs.Int.{w32, from_be_bytes}
use Rattle.std.specs.List.{AllByRecursion}
use Rattle.std.proofs.lemmas.Bool.{cases_lt, cases_eq}
use Rattle.std.proofs.lemmas.List.{take_at, take-append-drop, length-append, length-drop, append_cancel_left, take-append-le}
use Rattle.std.proofs.lemmas.Nat.{from_be_bytes-to_be_bytes_4}
use Rattle.pg_messages.specs.declared.frontend.PgWireFrontendMessage.{PgWireFrontendMessage}
use Rattle.pg_messages.specs.Frames.{IsFrame, frame_bytes, IsUnfinished, IsGoodHeader, IsBad, DividesInto, awaits_startup_after, awaits_startup_after_all, header_len, told_len, type_bytes}
use Rattle.pg_messages.specs.Reading.{message_at}
use Rattle.pg_messages.proofs.Laws.{IsBytes}
use Rattle.pg_messages.proofs.KindLaws.{one_message, nothing_carried, type_is_known}
use Rattle.pg_messages.proofs.FrameLaws.{kind_of, body_of, inside, HasWhole, whole_in_front, frame_bad, frame_read, bytes_of_each}

-- ---- the header of a frame in front

pub record Front (awaiting : Bool) (frame rest : List ℕ) : Type 0 where
  pub told : told_len awaiting (frame ++ rest) ≡ length frame
  pub good : IsGoodHeader awaiting (frame ++ rest)
  pub header : header_len awaiting ≤ length frame

pub front : (awaiting : Bool) (frame rest : List ℕ) (m : PgWireFrontendMessage) → IsFrame awaiting frame m → Front awaiting frame rest
front true frame rest m h =
    let size : length frame ≡ 8 + length h.body = omega (arith, ap length h.bytes) in
    let told : told_len true (frame_bytes true h.kind h.body ++ rest) ≡ 8 + length h.body =
    from_be_bytes-to_be_bytes_4 (8 + length h.body) (omega (arith, size, h.limit)) in
    let all : Front true (frame_bytes true h.kind h.body) rest = record {
      told = omega (arith, told);
      good = (omega (arith, told), omega (arith, told, size, h.limit));
      header = omega arith;
    } in
    subst (λ (f : List ℕ). Front true f rest) (sym h.bytes) all
front false frame rest m h =
    let size : length frame ≡ 5 + length h.body = omega (arith, ap length h.bytes) in
    let number = from_be_bytes-to_be_bytes_4 (4 + length h.body) (omega (arith, size, h.limit)) in
    let told : told_len false (frame_bytes false h.kind h.body ++ rest) ≡ 5 + length h.body = ap (λ (n : ℕ). 1 + n) number ∙ omega arith in
    let all : Front false (frame_bytes false h.kind h.body) rest = record {
      told = omega (arith, told);
      good = (type_is_known h.kind h.body m h.carries, omega (arith, told), omega (arith, told, size, h.limit));
      header = omega arith;
    } in
    subst (λ (f : List ℕ). Front false f rest) (sym h.bytes) all

-- ---- what a rest is not

pub frame_finished : (awaiting : Bool) (frame rest : List ℕ) (m : PgWireFrontendMessage) → IsFrame awaiting frame m
    → IsUnfinished awaiting (frame ++ rest) → ⊥
frame_finished awaiting frame rest m h u =
    let f = front awaiting frame rest m h in
    elim u [
      | inl short ↦ omega (arith, short, f.header, length-append frame rest)
      | inr w ↦ omega (arith, w.2, f.told, length-append frame rest)
    ]

pub frame_not_bad : (awaiting : Bool) (frame rest : List ℕ) (m : PgWireFrontendMessage) → IsFrame awaiting frame m
    → IsBad awaiting (frame ++ rest) → ⊥
frame_not_bad awaiting frame rest m h b =
    let f = front awaiting frame rest m h in
    let taken : take (told_len awaiting (frame ++ rest)) (frame ++ rest) ≡ frame =
    ap (λ (n : ℕ). take n (frame ++ rest)) f.told ∙ take_at frame rest (length frame) refl in
    elim b.1 [
      | inl bad ↦ bad f.good
      | inr x ↦ x.2 m (subst (λ (w : List ℕ). IsFrame awaiting w m) (sym taken) h)
    ]

-- ---- one frame, one message

same_message : (awaiting : Bool) (frame : List ℕ) (m n : PgWireFrontendMessage) → IsFrame awaiting frame m → IsFrame awaiting frame n
    → m ≡ n
same_message awaiting frame m n h j = one_message awaiting (kind_of awaiting frame) (body_of awaiting frame) m n (inside awaiting frame m h)
    (inside awaiting frame n j)

pub one_frame : (awaiting : Bool) (a b x y : List ℕ) (m n : PgWireFrontendMessage) → IsFrame awaiting a m → IsFrame awaiting b n
    → a ++ x ≡ b ++ y → (a ≡ b) × (x ≡ y) × (m ≡ n)
one_frame awaiting a b x y m n h j e =
    let size : length a ≡ length b = sym (front awaiting a x m h).told ∙ ap (told_len awaiting) e ∙ (front awaiting b y n j).told in
    let same : a ≡ b = sym (take_at a x (length a) refl) ∙ ap (take (length a)) e ∙ take_at b y (length a) (sym size) in
    let behind : x ≡ y = append_cancel_left a x y (e ∙ ap (λ (f : List ℕ). f ++ y) (sym same)) in
    (same, behind, same_message awaiting b m n (subst (λ (f : List ℕ). IsFrame awaiting f m) same h) j)

-- a frame that begins another is that one
pub whole_prefix : (awaiting : Bool) (frame more : List ℕ) (m n : PgWireFrontendMessage) → IsFrame awaiting frame m
    → IsFrame awaiting (frame ++ more) n → more ≡ []
whole_prefix awaiting frame more m n h j = (one_frame awaiting frame (frame ++ more) more [] m n h j (sym (append-nil (frame ++ more)))).1

-- ---- one division

abbrev pub IsRest : Bool → List ℕ → Type 0
IsRest awaiting rest = IsUnfinished awaiting rest ⊎ IsBad awaiting rest

no_frame : (awaiting : Bool) (text frame others : List ℕ) (m : PgWireFrontendMessage) → IsRest awaiting text → text ≡ frame ++ others
    → IsFrame awaiting frame m → ⊥
no_frame awaiting text frame others m rest e h =
    elim rest [
      | inl u ↦ frame_finished awaiting frame others m h (subst (IsUnfinished awaiting) e u)
      | inr b ↦ frame_not_bad awaiting frame others m h (subst (IsBad awaiting) e b)
    ]

pub one_division : (ms ns : List PgWireFrontendMessage) (awaiting : Bool) (text x y : List ℕ) → DividesInto awaiting text ms x
    → IsRest (awaits_startup_after_all ms awaiting) x
    → DividesInto awaiting text ns y → IsRest (awaits_startup_after_all ns awaiting) y → (ms ≡ ns) × (x ≡ y)
one_division [] [] awaiting text x y h r j s = (refl, sym h ∙ j)
one_division [] (n ∷ ns) awaiting text x y h r j s = absurd (no_frame awaiting text j.0 j.1 n (subst (IsRest awaiting) (sym h) r) j.2 j.3)
one_division (m ∷ ms) [] awaiting text x y h r j s = absurd (no_frame awaiting text h.0 h.1 m (subst (IsRest awaiting) (sym j) s) h.2 h.3)
one_division (m ∷ ms) (n ∷ ns) awaiting text x y h r j s =
    let one = one_frame awaiting h.0 j.0 h.1 j.1 m n h.3 j.3 (sym h.2 ∙ j.2) in
    let after : Bool = awaits_startup_after m awaiting in
    let same : awaits_startup_after n awaiting ≡ after = ap (λ (k : PgWireFrontendMessage). awaits_startup_after k awaiting) (sym one.2) in
    let divides : DividesInto after h.1 ns y = subst (λ (t : List ℕ). DividesInto after t ns y) (sym one.1)
    (subst (λ (b : Bool). DividesInto b j.1 ns y) same j.4) in
    let rest : IsRest (awaits_startup_after_all ns after) y = subst (λ (b : Bool). IsRest (awaits_startup_after_all ns b) y) same s in
    let others = one_division ms ns after h.1 x y h.4 r divides rest in
    (ap (λ (k : PgWireFrontendMessage). k ∷ ms) one.2 ∙ ap (λ (ks : List PgWireFrontendMessage). n ∷ ks) others.0, others.1)

-- bytes that come later keep the frames that are there
pub division_kept : (ms : List PgWireFrontendMessage) (awaiting : Bool) (text rest more : List ℕ) → DividesInto awaiting text ms rest
    → DividesInto awaiting (text ++ more) ms (rest ++ more)
division_kept [] awaiting text rest more h = ap (λ (t : List ℕ). t ++ more) h
division_kept (m ∷ ms) awaiting text rest more h = (
  h.0,
  h.1 ++ more,
  ap (λ (t : List ℕ). t ++ more) h.2 ∙ append_assoc h.0 h.1 more,
  h.3,
  division_kept ms (awaits_startup_after m awaiting) h.1 rest more h.4,
)

-- a division of the rest goes on
pub division_joined : (ms ns : List PgWireFrontendMessage) (awaiting : Bool) (text mid rest : List ℕ) → DividesInto awaiting text ms mid
    → DividesInto (awaits_startup_after_all ms awaiting) mid ns rest → DividesInto awaiting text (ms ++ ns) rest
division_joined [] ns awaiting text mid rest h j = subst (λ (t : List ℕ). DividesInto awaiting t ns rest) (sym h) j
division_joined (m ∷ ms) ns awaiting text mid rest h j =
    (h.0, h.1, h.2, h.3, division_joined ms ns (awaits_startup_after m awaiting) h.1 mid rest h.4 j)

pub awaits_joined : (ms ns : List PgWireFrontendMessage) (awaiting : Bool)
    → awaits_startup_after_all (ms ++ ns) awaiting ≡ awaits_startup_after_all ns (awaits_startup_after_all ms awaiting)
awaits_joined [] ns awaiting = refl
awaits_joined (m ∷ ms) ns awaiting = awaits_joined ms ns (awaits_startup_after m awaiting)

-- ---- bytes behind a bad header or frame

drop_one : (r more : List ℕ) → 1 ≤ length r → drop 1 (r ++ more) ≡ drop 1 r ++ more
drop_one [] more h = absurd (omega arith)
drop_one (x ∷ r) more h = refl

told_more : (awaiting : Bool) (r more : List ℕ) → header_len awaiting ≤ length r → told_len awaiting (r ++ more) ≡ told_len awaiting r
told_more true r more h = ap (from_be_bytes w32) (take-append-le 4 r more h)
told_more false r more h =
    ap (λ (l : List ℕ). 1 + from_be_bytes w32 (take 4 l)) (drop_one r more (omega arith))
    ∙ ap (λ (l : List ℕ). 1 + from_be_bytes w32 l) (take-append-le 4 (drop 1 r) more (omega (arith, length-drop 1 r)))

first_more : (r more : List ℕ) → 1 ≤ length r → get_or (r ++ more) 0 0 ≡ get_or r 0 0
first_more [] more h = absurd (omega arith)
first_more (x ∷ r) more h = refl

good_more : (awaiting : Bool) (r more : List ℕ) → header_len awaiting ≤ length r
    → IsGoodHeader awaiting (r ++ more) ≡ IsGoodHeader awaiting r
good_more true r more h = ap (λ (n : ℕ). (8 ≤ n) × (n ≤ 10000)) (told_more true r more h)
good_more false r more h = λ i. Contains type_bytes (first_more r more (omega arith) i) × (5 ≤ told_more false r more h i)
    × (told_more false r more h i ≤ 1048577)

pub bad_more : (awaiting : Bool) (rest more : List ℕ) → IsBad awaiting rest → IsBad awaiting (rest ++ more)
bad_more awaiting rest more b =
    let told = told_more awaiting rest more b.0 in
    let same = good_more awaiting rest more b.0 in
    let long : length rest ≤ length (rest ++ more) = omega (arith, length-append rest more) in
    let T : Type 0 → Type 0 = λ t. t in (
      omega (arith, b.0, long),
      elim b.1 [
        | inl refused ↦ inl (λ good. refused (subst T same good))
        | inr whole ↦
            inr (
              subst T (sym same) whole.0,
              omega (arith, told, whole.1, long),
              λ m f. whole.2 m (subst (λ (l : List ℕ). IsFrame awaiting l m) (ap (λ (n : ℕ). take n (rest ++ more)) told
                  ∙ take-append-le (told_len awaiting rest) rest more whole.1) f),
            )
      ],
    )

-- ---- there is a division

contained : (xs : List ℕ) (x : ℕ) → Contains xs x ⊎ (Contains xs x → ⊥)
contained [] x = inr (λ c. omega (arith, c.1))
contained (y ∷ xs) x =
    elim (cases_eq y x) [
      | inl e ↦ inl (0, omega arith, e)
      | inr other ↦
          elim (contained xs x) [
            | inl c ↦ inl (suc c.0, omega (arith, c.1), c.2)
            | inr none ↦ inr (λ c. not_there y xs x other none c.0 c.1 c.2)
          ]
    ]
  where
    not_there : (y : ℕ) (xs : List ℕ) (x : ℕ) → (y ≡ x → ⊥) → (Contains xs x → ⊥) → (i : ℕ) → i < length (y ∷ xs) → get_or (y ∷ xs) i x ≡ x
        → ⊥
    not_there y xs x other none zero lt e = other e
    not_there y xs x other none (suc i) lt e = none (i, omega (arith, lt), e)

between : (low high n : ℕ) → ((low ≤ n) × (n ≤ high)) ⊎ ((low ≤ n) × (n ≤ high) → ⊥)
between low high n =
    elim (cases_lt n low) [
      | inl less ↦ inr (λ h. omega (arith, less, h.0))
      | inr enough ↦ elim (cases_lt high n) [ inl more ↦ inr (λ h. omega (arith, more, h.1)) | inr few ↦ inl (enough, few) ]
    ]

header_judged : (awaiting : Bool) (text : List ℕ) → IsGoodHeader awaiting text ⊎ (IsGoodHeader awaiting text → ⊥)
header_judged true text = between 8 10000 (told_len true text)
header_judged false text =
    elim (contained type_bytes (get_or text 0 0)) [
      | inl c ↦ elim (between 5 1048577 (told_len false text)) [ inl h ↦ inl (c, h.0, h.1) | inr none ↦ inr (λ h. none (h.1, h.2)) ]
      | inr none ↦ inr (λ h. none h.0)
    ]

bytes_judged : (bytes : List ℕ) → IsBytes bytes ⊎ (AllByRecursion (λ byte. byte < 2 ^ 8) bytes → ⊥)
bytes_judged [] = inl (bytes_of_each [] tt)
bytes_judged (b ∷ bytes) =
    elim (cases_lt b 256) [
      | inl small ↦ elim (bytes_judged bytes) [ inl fits ↦ inl (bytes_more b bytes small fits) | inr none ↦ inr (λ h. none h.1) ]
      | inr large ↦ inr (λ h. omega (arith, large, h.0))
    ]
  where
    bytes_more : (b : ℕ) (bytes : List ℕ) → b < 256 → IsBytes bytes → IsBytes (b ∷ bytes)
    bytes_more b bytes small fits zero = small
    bytes_more b bytes small fits (suc i) = fits i

abbrev BeginsWithFrame : Bool → List ℕ → Type 0
BeginsWithFrame awaiting text = (m : PgWireFrontendMessage) × (frame : List ℕ) × (others : List ℕ) × (text ≡ frame ++ others)
    × IsFrame awaiting frame m

-- where a whole frame stands in front by its header
whole_judged : (awaiting : Bool) (text : List ℕ) (len : ℕ) → header_len awaiting ≤ length text → HasWhole awaiting text len
    → IsBytes (take len text) ⊎ (AllByRecursion (λ byte. byte < 2 ^ 8) (take len text) → ⊥)
    → IsRest awaiting text ⊎ BeginsWithFrame awaiting text
whole_judged awaiting text len header h (inr none) =
    let at = subst (λ (n : ℕ). n ≤ length text) h.told h.there in
    inl (inr (
      header,
      inr (
        h.good,
        at,
        λ m f. none
            (subst (λ (n : ℕ). AllByRecursion (λ byte. byte < 2 ^ 8) (take n text)) (sym h.told) f.each),
      ),
    ))
whole_judged awaiting text len header h (inl fits) =
    by (message_at awaiting (kind_of awaiting (take len text)) (body_of awaiting (take len text))) refl
  where
    by : (o : Option PgWireFrontendMessage) → message_at awaiting (kind_of awaiting (take len text)) (body_of awaiting (take len text)) ≡ o
        → IsRest awaiting text ⊎ BeginsWithFrame awaiting text
    by (Some m) e = inr (
      m,
      take len text,
      drop len text,
      sym (take-append-drop len text),
      frame_read awaiting (take len text) m (whole_in_front awaiting text len h) fits e,
    )
    by None e = inl (inr (frame_bad awaiting text len h
        (nothing_carried awaiting (kind_of awaiting (take len text)) (body_of awaiting (take len text)) e)))

first_judged : (awaiting : Bool) (text : List ℕ) → IsRest awaiting text ⊎ BeginsWithFrame awaiting text
first_judged awaiting text =
    elim (cases_lt (length text) (header_len awaiting)) [
      | inl short ↦ inl (inl (inl short))
      | inr header ↦
          elim (header_judged awaiting text) [
            | inr bad ↦ inl (inr (header, inl bad))
            | inl good ↦
                elim (cases_lt (length text) (told_len awaiting text)) [
                  | inl less ↦ inl (inl (inr (header, good, less)))
                  | inr there ↦
                      let h : HasWhole awaiting text (told_len awaiting text) = record { told = refl; there = there; good = good } in
                      whole_judged awaiting text (told_len awaiting text) header h (bytes_judged (take (told_len awaiting text) text))
                ]
          ]
    ]

abbrev Divided : Bool → List ℕ → Type 0
Divided awaiting text = (ms : List PgWireFrontendMessage) × (rest : List ℕ) × DividesInto awaiting text ms rest
    × IsRest (awaits_startup_after_all ms awaiting) rest

header_some : (awaiting : Bool) → 1 ≤ header_len awaiting
header_some true = omega arith
header_some false = omega arith

divided : (n : ℕ) (awaiting : Bool) (text : List ℕ) → length text ≤ n → Divided awaiting text
divided zero awaiting text le = ([], text, refl, inl (inl (omega (arith, le, header_some awaiting))))
divided (suc n) awaiting text le =
    elim (first_judged awaiting text) [
      | inl rest ↦ ([], text, refl, rest)
      | inr f ↦
          let some : 1 ≤ length f.1 = omega (arith, (front awaiting f.1 f.2 f.0 f.4).header, header_some awaiting) in
          let more = divided n (awaits_startup_after f.0 awaiting) f.2 (omega (arith, le, some, ap length f.3, length-append f.1 f.2)) in
          (f.0 ∷ more.0, more.1, (f.1, f.2, f.3, f.4, more.2), more.3)
    ]

pub has_division : (awaiting : Bool) (text : List ℕ) → Divided awaiting text
has_division awaiting text = divided (length text) awaiting text (omega arith)

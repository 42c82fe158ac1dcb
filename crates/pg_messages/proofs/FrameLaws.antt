-- A frame is its header, its kind and its body.
use Rattle.std.proofs.Common.{◌≡◌, ℕ, zero, suc, ◌+◌, ◌^◌, ◌<◌, ◌≤◌, Bool, true, false, List, [], ◌∷◌, ◌++◌, length, get_or, take, drop, Option, Some, sym, ap, subst, ◌∙◌, append_assoc, arith, inr}
use Rattle.std.specs.Prelude.{IsErrOf, IfOk, Result, Ok, Err}
use Rattle.std.specs.Int.{w32, from_be_bytes}
use Rattle.std.specs.List.{AllByRecursion}
use Rattle.std.proofs.lemmas.List.{take-append-drop, take-take, drop-drop, length-drop, length-take-le}
use Rattle.std.proofs.lemmas.Nat.{be_bytes_4, from_be_bytes-to_be_bytes_4}
use Rattle.pg_messages.specs.declared.frontend.PgWireFrontendMessage.{PgWireFrontendMessage}
use Rattle.pg_messages.specs.Fields.{count32}
use Rattle.pg_messages.specs.Frames.{Carries, frame_bytes, most_bytes, IsFrame, IsGoodHeader, IsBad, header_len, told_len}
use Rattle.pg_messages.proofs.Laws.{IsBytes, IsBytes-behind}
use Rattle.pg_messages.proofs.FieldLaws.{IsBytes-take, wide32}
use Rattle.pg_messages.specs.declared.codec.FrameError.{FrameError}
use Rattle.pg_messages.specs.declared.codec.FrameError.TheVariants as errors
use Rattle.pg_messages.specs.Reading.{Gives, message_at, told_as}
use Rattle.pg_messages.specs.Reading as reading
use Rattle.pg_messages.proofs.KindLaws.{code_fits, read_is_carried, nothing_carried}

-- the kind and the body as they stand in a frame
abbrev pub kind_of : Bool → List ℕ → ℕ
kind_of true frame = from_be_bytes w32 (take 4 (drop 4 frame))
kind_of false frame = get_or frame 0 0

abbrev pub body_of : Bool → List ℕ → List ℕ
body_of true frame = drop 8 frame
body_of false frame = drop 5 frame

pub IsBytes-drop : (n : ℕ) (bytes : List ℕ) → IsBytes bytes → IsBytes (drop n bytes)
IsBytes-drop n bytes h = IsBytes-behind (take n bytes) (drop n bytes) (subst IsBytes (sym (take-append-drop n bytes)) h)

each_byte : (bytes : List ℕ) → IsBytes bytes → AllByRecursion (λ byte. byte < 2 ^ 8) bytes
each_byte [] h = tt
each_byte (b ∷ bytes) h = (h 0, each_byte bytes (λ i. h (suc i)))

pub bytes_of_each : (bytes : List ℕ) → AllByRecursion (λ byte. byte < 2 ^ 8) bytes → IsBytes bytes
bytes_of_each [] h i = omega arith
bytes_of_each (b ∷ bytes) h zero = h.0
bytes_of_each (b ∷ bytes) h (suc i) = bytes_of_each bytes h.1 i

-- a frame carries its message behind the kind that stands in it
pub inside : (awaiting : Bool) (frame : List ℕ) (m : PgWireFrontendMessage) → IsFrame awaiting frame m
    → Carries awaiting (kind_of awaiting frame) (body_of awaiting frame) m
inside true frame m h =
    let kind : kind_of true frame ≡ h.kind = ap (kind_of true) h.bytes
    ∙ from_be_bytes-to_be_bytes_4 h.kind (code_fits h.kind h.body m h.carries) in
    let body : body_of true frame ≡ h.body = ap (body_of true) h.bytes in
    subst (λ (k : ℕ). Carries true k (body_of true frame) m) (sym kind)
    (subst (λ (b : List ℕ). Carries true h.kind b m) (sym body) h.carries)
inside false frame m h =
    let kind : kind_of false frame ≡ h.kind = ap (kind_of false) h.bytes in
    let body : body_of false frame ≡ h.body = ap (body_of false) h.bytes in
    subst (λ (k : ℕ). Carries false k (body_of false frame) m) (sym kind)
    (subst (λ (b : List ℕ). Carries false h.kind b m) (sym body) h.carries)

-- bytes that tell their own length by a good header
pub record IsWhole (awaiting : Bool) (frame : List ℕ) : Type 0 where
  pub told : told_len awaiting frame ≡ length frame
  pub good : IsGoodHeader awaiting frame

layout : (awaiting : Bool) (frame : List ℕ) → IsWhole awaiting frame → IsBytes frame
    → frame ≡ frame_bytes awaiting (kind_of awaiting frame) (body_of awaiting frame)
layout true frame whole fits =
    let long : 8 ≤ length frame = omega (arith, whole.told, whole.good.0) in
    let len : length (take 4 frame) ≡ 4 = length-take-le 4 frame (omega arith) in
    let number : 8 + length (drop 8 frame) ≡ from_be_bytes w32 (take 4 frame) = omega (arith, whole.told, length-drop 8 frame) in
    let header : count32 (8 + length (drop 8 frame)) ≡ take 4 frame =
    be_bytes_4 (take 4 frame) (8 + length (drop 8 frame)) len (IsBytes-take 4 frame fits) number in
    let behind = drop 4 frame in
    let four : length (take 4 behind) ≡ 4 = length-take-le 4 behind (omega (arith, length-drop 4 frame)) in
    let code : count32 (kind_of true frame) ≡ take 4 behind =
    wide32.back (take 4 behind) four (IsBytes-take 4 behind (IsBytes-drop 4 frame fits)) in
    let parts : frame ≡ (take 4 frame ++ take 4 behind) ++ drop 8 frame =
    sym (take-append-drop 4 frame) ∙ ap (λ (x : List ℕ). take 4 frame ++ x) (sym (take-append-drop 4 behind))
    ∙ sym (append_assoc (take 4 frame) (take 4 behind) (drop 4 behind))
    ∙ ap (λ (x : List ℕ). (take 4 frame ++ take 4 behind) ++ x) (drop-drop 4 4 frame) in
    parts ∙ ap (λ (x : List ℕ). (x ++ take 4 behind) ++ drop 8 frame) (sym header)
    ∙ ap (λ (x : List ℕ). (count32 (8 + length (drop 8 frame)) ++ x) ++ drop 8 frame) (sym code)
layout false [] whole fits = absurd (omega (arith, whole.told, whole.good.1))
layout false (b ∷ rest) whole fits =
    let long : 4 ≤ length rest = omega (arith, whole.told, whole.good.1) in
    let len : length (take 4 rest) ≡ 4 = length-take-le 4 rest long in
    let number : 4 + length (drop 4 rest) ≡ from_be_bytes w32 (take 4 rest) = omega (arith, whole.told, length-drop 4 rest) in
    let header : count32 (4 + length (drop 4 rest)) ≡ take 4 rest =
    be_bytes_4 (take 4 rest) (4 + length (drop 4 rest)) len (IsBytes-take 4 rest (λ i. fits (suc i))) number in
    ap (λ (x : List ℕ). b ∷ x) (sym (take-append-drop 4 rest) ∙ ap (λ (x : List ℕ). x ++ drop 4 rest) (sym header))

within : (awaiting : Bool) (frame : List ℕ) → IsWhole awaiting frame → length frame ≤ most_bytes awaiting
within true frame whole = omega (arith, whole.told, whole.good.1)
within false frame whole = omega (arith, whole.told, whole.good.2)

pub outside : (awaiting : Bool) (frame : List ℕ) (m : PgWireFrontendMessage) → IsWhole awaiting frame → IsBytes frame
    → Carries awaiting (kind_of awaiting frame) (body_of awaiting frame) m → IsFrame awaiting frame m
outside awaiting frame m whole fits carried = record {
  kind = kind_of awaiting frame;
  body = body_of awaiting frame;
  bytes = layout awaiting frame whole fits;
  each = each_byte frame fits;
  limit = within awaiting frame whole;
  carries = carried;
}

-- ---- the frame in front of bytes

-- bytes whose header is good and whose first frame is there
pub record HasWhole (awaiting : Bool) (bytes : List ℕ) (len : ℕ) : Type 0 where
  pub told : len ≡ told_len awaiting bytes
  pub there : len ≤ length bytes
  pub good : IsGoodHeader awaiting bytes

pub whole_in_front : (awaiting : Bool) (bytes : List ℕ) (len : ℕ) → HasWhole awaiting bytes len → IsWhole awaiting (take len bytes)
whole_in_front true bytes len h =
    let size : length (take len bytes) ≡ len = length-take-le len bytes h.there in
    let same : told_len true (take len bytes) ≡ told_len true bytes =
    ap (from_be_bytes w32) (take-take 4 len bytes (omega (arith, h.told, h.good.0))) in
    record { told = same ∙ sym h.told ∙ sym size; good = subst (λ (n : ℕ). (8 ≤ n) × (n ≤ 10000)) (sym same) h.good }
whole_in_front false [] len h = absurd (omega (arith, h.told, h.there, h.good.1))
whole_in_front false (b ∷ bytes) zero h = absurd (omega (arith, h.told, h.good.1))
whole_in_front false (b ∷ bytes) (suc len) h =
    let size : length (take len bytes) ≡ len = length-take-le len bytes (omega (arith, h.there)) in
    let same : told_len false (b ∷ take len bytes) ≡ told_len false (b ∷ bytes) =
    ap (λ (x : List ℕ). 1 + from_be_bytes w32 x) (take-take 4 len bytes (omega (arith, h.told, h.good.1))) in
    record {
      told = same ∙ sym h.told ∙ omega (arith, size);
      good = (h.good.0, omega (arith, same, h.good.1), omega (arith, same, h.good.2));
    }

header_there : (awaiting : Bool) (bytes : List ℕ) (len : ℕ) → HasWhole awaiting bytes len → header_len awaiting ≤ length bytes
header_there true bytes len h = omega (arith, h.told, h.there, h.good.0)
header_there false bytes len h = omega (arith, h.told, h.there, h.good.1)

pub frame_bad : (awaiting : Bool) (bytes : List ℕ) (len : ℕ) → HasWhole awaiting bytes len
    → ((m : PgWireFrontendMessage) → Carries awaiting (kind_of awaiting (take len bytes)) (body_of awaiting (take len bytes)) m → ⊥)
    → IsBad awaiting bytes
frame_bad awaiting bytes len h none =
    let at = subst (λ (n : ℕ). n ≤ length bytes) h.told h.there in (
      header_there awaiting bytes len h,
      inr (
        h.good,
        at,
        λ m f. none m (inside awaiting (take len bytes) m (subst (λ (n : ℕ). IsFrame awaiting (take n bytes) m) (sym h.told) f)),
      ),
    )

-- ---- what reading gives, said of the frame in front

kind_fits : (awaiting : Bool) (frame : List ℕ) → IsBytes frame → kind_of awaiting frame < 2 ^ 32
kind_fits true frame fits = wide32.below (take 4 (drop 4 frame)) (IsBytes-take 4 (drop 4 frame) (IsBytes-drop 4 frame fits))
kind_fits false frame fits = omega (arith, fits 0)

body_fits : (awaiting : Bool) (frame : List ℕ) → IsBytes frame → IsBytes (body_of awaiting frame)
body_fits true frame fits = IsBytes-drop 8 frame fits
body_fits false frame fits = IsBytes-drop 5 frame fits

-- the message of a whole frame is read by its kind
pub frame_read : (awaiting : Bool) (frame : List ℕ) (m : PgWireFrontendMessage) → IsWhole awaiting frame → IsBytes frame
    → message_at awaiting (kind_of awaiting frame) (body_of awaiting frame) ≡ Some m → IsFrame awaiting frame m
frame_read awaiting frame m whole fits e =
    outside awaiting frame m whole fits (read_is_carried awaiting (kind_of awaiting frame) (body_of awaiting frame) m
    (kind_fits awaiting frame fits) (body_fits awaiting frame fits) e)

-- a kind and a body that stand in the frame of this length
pub record StandsIn (awaiting : Bool) (bytes : List ℕ) (len kind : ℕ) (body : List ℕ) : Type 0 where
  pub whole : HasWhole awaiting bytes len
  pub kind_is : kind ≡ kind_of awaiting (take len bytes)
  pub body_is : body ≡ body_of awaiting (take len bytes)

read_there : {awaiting : Bool} {bytes : List ℕ} {len kind : ℕ} {body : List ℕ} → StandsIn awaiting bytes len kind body
    → message_at awaiting kind body ≡ message_at awaiting (kind_of awaiting (take len bytes)) (body_of awaiting (take len bytes))
read_there {awaiting} h = λ i. message_at awaiting (h.kind_is i) (h.body_is i)

pub message_found : (awaiting : Bool) (bytes : List ℕ) (len kind : ℕ) (body : List ℕ) (m : PgWireFrontendMessage)
    → StandsIn awaiting bytes len kind body → IsBytes bytes
    → message_at awaiting kind body ≡ Some m → IsFrame awaiting (take len bytes) m
message_found awaiting bytes len kind body m h fits e =
    frame_read awaiting (take len bytes) m (whole_in_front awaiting bytes len h.whole) (IsBytes-take len bytes fits) (sym (read_there h)
    ∙ e)

pub message_bad : {T : Type 0} (awaiting : Bool) (bytes : List ℕ) (len kind : ℕ) (body : List ℕ) (e : FrameError)
    → StandsIn awaiting bytes len kind body → Gives {X = PgWireFrontendMessage} (λ m. m) (Err e) (message_at awaiting kind body)
    → IsErrOf {T = T} (Err e) errors.Bad → IsBad awaiting bytes
message_bad awaiting bytes len kind body errors.NoMemory h given err = absurd cc
message_bad awaiting bytes len kind body errors.Bad h given err =
    frame_bad awaiting bytes len h.whole (nothing_carried awaiting (kind_of awaiting (take len bytes)) (body_of awaiting (take len bytes))
    (sym (read_there h) ∙ given))

-- the same error in a result of another type
pub same_error : {T U : Type 0} (a b : FrameError) → IsErrOf {T = T} (Err a) b → IsErrOf {T = U} (Err a) b
same_error a b e = let same : a ≡ b = cc in ap Err same

-- ---- a message that is read as its own type

kind_in_front : (bytes : List ℕ) (len kind : ℕ) → take 1 bytes ≡ kind ∷ [] → 1 ≤ len → kind ≡ get_or (take len bytes) 0 0
kind_in_front [] len kind e long = absurd cc
kind_in_front (b ∷ bytes) zero kind e long = absurd (omega (arith, long))
kind_in_front (b ∷ bytes) (suc len) kind e long = ap (λ (x : List ℕ). get_or x 0 0) (sym e)

-- the frame in front, whose kind is told by the first byte
pub typed_in_front : (bytes : List ℕ) (len kind : ℕ) (frame body : List ℕ) → take 1 bytes ≡ kind ∷ [] → HasWhole false bytes len
    → frame ≡ take len bytes → body ≡ drop 5 frame → StandsIn false bytes len kind body
typed_in_front bytes len kind frame body e h front back = record {
  whole = h;
  kind_is = kind_in_front bytes len kind e (omega (arith, h.told, h.good.1));
  body_is = back ∙ ap (drop 5) front;
}

module _ {X : Type 0} (message : X → PgWireFrontendMessage) (bytes : List ℕ) (len kind : ℕ) (body : List ℕ)
    (read : Option (X × List ℕ)) (is_read : message_at false kind body ≡ told_as message (reading.whole read))
    (h : StandsIn false bytes len kind body) where
  pub typed_found : (r : Result X FrameError) → IsBytes bytes → Gives (λ x. x) r (reading.whole read)
      → IfOk r (λ m. IsFrame false (take len bytes) (message m))
  typed_found (Ok m) fits given = message_found false bytes len kind body (message m) h fits (is_read ∙ ap (told_as message) given)
  typed_found (Err e) fits given = tt

  pub typed_bad : (r : Result X FrameError) → Gives (λ x. x) r (reading.whole read) → IsErrOf r errors.Bad → IsBad false bytes
  typed_bad (Ok m) given err = absurd cc
  typed_bad (Err errors.NoMemory) given err = absurd cc
  typed_bad (Err errors.Bad) given err =
      frame_bad false bytes len h.whole (nothing_carried false (kind_of false (take len bytes)) (body_of false (take len bytes))
      (sym (read_there h) ∙ is_read ∙ ap (told_as message) given))

-- Replies, one after another.
use Rattle.std.proofs.Common.{◌≡◌, ◌≢◌, ◌⊎◌, inl, inr, ℕ, ◌+◌, ◌^◌, ◌<◌, ◌≤◌, ◌==◌, Bool, true, false, cond, List, [], ◌∷◌, ◌++◌, Option, Some, length, drop, refl, ap, sym, ◌∙◌, arith, append_assoc, length-append, add-zero, if◌then◌else◌}
use Rattle.std.proofs.lemmas.Bool.Decides.{nat_tests}
use Rattle.std.proofs.lemmas.List.{drop_at}
use Rattle.std.proofs.lemmas.List.Sums.{sum_by-cons}
use Rattle.pg_messages.specs.declared.backend.PgWireBackendMessage.{PgWireBackendMessage}
use Rattle.pg_messages.specs.declared.backend.PgWireBackendMessage.TheVariants as server
use Rattle.std.specs.List.{AllByRecursion}
use Rattle.pg_messages.specs.Fields.{count32}
use Rattle.pg_messages.specs.Replies.{reply_bytes, replies_bytes, reply_body, reply_type, is_one_byte, IsEncodable}
use Rattle.relation_demo.specs.Counting.{is_row, row_count, IsTold, AreTold}

-- only replies of one byte have the type `N`
pub one_byte : (m : PgWireBackendMessage) → ((is_one_byte m ≡ true) × (reply_type m ≡ 78)) ⊎ ((is_one_byte m ≡ false) × (reply_type m ≢ 78))
one_byte (server.SslResponse m) = inl (refl, refl)
one_byte (server.GssEncResponse m) = inl (refl, refl)
one_byte _ = inr (refl, λ e. absurd (omega arith))

-- only rows have the type `D`
pub row_type : (m : PgWireBackendMessage) → (reply_type m == 68) ≡ is_row m
row_type (server.DataRow m) = refl
row_type _ = refl

-- of these messages, those that are left have these bytes, and the rows before them are so many
pub record AreLeft (rest : List ℕ) (rows : ℕ) (messages : List PgWireBackendMessage) : Type 0 where
  pub left : List PgWireBackendMessage
  pub bytes : rest ≡ replies_bytes left
  pub told : AreTold left
  pub counted : rows + row_count left ≡ row_count messages

row_count-cons : (m : PgWireBackendMessage) (others : List PgWireBackendMessage)
    → row_count (m ∷ others) ≡ cond (is_row m) 1 0 + row_count others
row_count-cons m others = sum_by-cons (λ x. cond (is_row x) 1 0) m others

-- ---- the first reply

-- what stands behind the type byte and the length of the first reply
pub record Behind (kind : ℕ) (rest : List ℕ) (len : Option ℕ) (m : PgWireBackendMessage) (others : List ℕ) : Type 0 where
  pub size : ℕ
  pub len_is : len ≡ Some size
  pub there : size ≤ length rest
  pub kind_is : kind ≡ reply_type m
  pub others_are : drop size rest ≡ others

-- what the length of a reply tells
pub record TellsLength (kind : ℕ) (rest : List ℕ) (len : Option ℕ) : Type 0 where
  pub alone : kind ≡ 78 → len ≡ Some 0
  pub told : (n : ℕ) (behind : List ℕ) → kind ≢ 78 → rest ≡ count32 n ++ behind → 4 ≤ n → n < 2 ^ 32 → len ≡ Some n

abbrev framed : Bool → PgWireBackendMessage → List ℕ
framed one m = if one then [] else count32 (4 + length (reply_body m)) ++ reply_body m

framed_len : (m : PgWireBackendMessage) → length (count32 (4 + length (reply_body m)) ++ reply_body m) ≡ 4 + length (reply_body m)
framed_len m = length-append (count32 (4 + length (reply_body m))) (reply_body m)

pub first_behind : (kind : ℕ) (rest : List ℕ) (len : Option ℕ) (m : PgWireBackendMessage) (others : List ℕ) → TellsLength kind rest len
    → IsTold m
    → kind ∷ rest ≡ reply_bytes m ++ others → Behind kind rest len m others
first_behind kind rest len m others tells told e =
    let type : kind ≡ reply_type m = cc in
    let rest_is : rest ≡ framed (is_one_byte m) m ++ others = cc in
    elim (one_byte m) [
      | inl h ↦ let all : rest ≡ others = rest_is ∙ ap (λ b. framed b m ++ others) h.0 in
          record { size = 0; len_is = tells.alone (type ∙ h.1); there = omega arith; kind_is = type; others_are = all }
      | inr h ↦ let n = 4 + length (reply_body m) in
          let all : rest ≡ (count32 n ++ reply_body m) ++ others = rest_is ∙ ap (λ b. framed b m ++ others) h.0 in
          let apart : rest ≡ count32 n ++ (reply_body m ++ others) = all ∙ append_assoc (count32 n) (reply_body m) others in
          record {
            size = n;
            len_is = tells.told n (reply_body m ++ others) (λ e. h.1 (sym type ∙ e)) apart (omega arith) told;
            there = omega (arith, ap length all, length-append (count32 n ++ reply_body m) others, framed_len m);
            kind_is = type;
            others_are = ap (drop n) all ∙ drop_at (count32 n ++ reply_body m) others n (framed_len m);
          }
    ]

-- ---- one reply after another

-- what the first reply in front of bytes is
abbrev pub IsFirst : List ℕ → ℕ → List ℕ → Type 0
IsFirst rest kind behind = (m : PgWireBackendMessage) (others : List ℕ) → rest ≡ reply_bytes m ++ others → IsTold m
    → (kind ≡ reply_type m) × (behind ≡ others)

one_if : {a b : Bool} → a ≡ b → cond a 1 0 ≡ cond {A = ℕ} b 1 0
one_if e = ap {B = ℕ} (λ x. cond x 1 0) e

one_less_of : (rest : List ℕ) (kind : ℕ) (behind : List ℕ) (rows after : ℕ) (messages left : List PgWireBackendMessage)
    → IsFirst rest kind behind → rest ≢ []
    → after ≡ rows + cond (kind == 68) 1 0 → rest ≡ replies_bytes left → AreTold left → rows + row_count left ≡ row_count messages
    → AreLeft behind after messages
one_less_of rest kind behind rows after messages [] first some more bytes told counted = absurd (some bytes)
one_less_of rest kind behind rows after messages (m ∷ left) first some more bytes told counted =
    let found = first m (replies_bytes left) bytes told.0 in
    let row : (kind == 68) ≡ is_row m = ap (λ k. k == 68) found.0 ∙ row_type m in
    record {
      left = left;
      bytes = found.1;
      told = told.1;
      counted = omega (arith, more, one_if row, counted, row_count-cons m left);
    }

pub one_less : (rest : List ℕ) (kind : ℕ) (behind : List ℕ) (rows after : ℕ) (messages : List PgWireBackendMessage)
    → IsFirst rest kind behind → rest ≢ []
    → after ≡ rows + cond (kind == 68) 1 0 → AreLeft rest rows messages → AreLeft behind after messages
one_less rest kind behind rows after messages first some more h =
    one_less_of rest kind behind rows after messages h.left first some more h.bytes h.told h.counted

pub one_more_row : (kind rows : ℕ) → kind ≡ 68 → rows + 1 ≡ rows + cond (kind == 68) 1 0
one_more_row kind rows is = rw is refl

pub no_more_row : (kind rows : ℕ) → kind ≢ 68 → rows ≡ rows + cond (kind == 68) 1 0
no_more_row kind rows other = grind (arith, nat_tests)

all_counted_of : (rest : List ℕ) (rows : ℕ) (messages left : List PgWireBackendMessage)
    → ((m : PgWireBackendMessage) (others : List ℕ) → rest ≡ reply_bytes m ++ others → IsTold m → ⊥)
    → rest ≡ replies_bytes left → AreTold left → rows + row_count left ≡ row_count messages → rows ≡ row_count messages
all_counted_of rest rows messages [] none bytes told counted = sym (add-zero rows) ∙ counted
all_counted_of rest rows messages (m ∷ left) none bytes told counted = absurd (none m (replies_bytes left) bytes told.0)

pub all_counted : (rest : List ℕ) (rows : ℕ) (messages : List PgWireBackendMessage)
    → ((m : PgWireBackendMessage) (others : List ℕ) → rest ≡ reply_bytes m ++ others → IsTold m → ⊥)
    → AreLeft rest rows messages → rows ≡ row_count messages
all_counted rest rows messages none h = all_counted_of rest rows messages h.left none h.bytes h.told h.counted

-- ---- what callers may know in place of the lengths of bodies

alone_body : (m : PgWireBackendMessage) → is_one_byte m ≡ true → reply_body m ≡ []
alone_body (server.SslResponse m) e = refl
alone_body (server.GssEncResponse m) e = refl
alone_body _ e = absurd (cc (e))

told_by_len : (m : PgWireBackendMessage) → length (reply_bytes m) < 2 ^ 32 → IsTold m
told_by_len m short = elim (one_byte m) [
  | inl h ↦ omega (arith, ap length (alone_body m h.0))
  | inr h ↦ omega (arith, short, ap (λ b. length (reply_type m ∷ framed b m)) h.0, framed_len m)
]

-- replies of fewer than 2^32 bytes in all
pub told_by_length : (messages : List PgWireBackendMessage) → length (replies_bytes messages) < 2 ^ 32 → AreTold messages
told_by_length [] short = tt
told_by_length (m ∷ messages) short =
    let both = length-append (reply_bytes m) (replies_bytes messages) in
    (told_by_len m (omega (arith, short, both)), told_by_length messages (omega (arith, short, both)))

-- replies that can be sent
pub told_when_encodable : (messages : List PgWireBackendMessage) → AllByRecursion IsEncodable messages → AreTold messages
told_when_encodable [] sendable = tt
told_when_encodable (m ∷ messages) sendable = (omega (arith, sendable.0.body), told_when_encodable messages sendable.1)

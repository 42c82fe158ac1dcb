-- The reply in front of the bytes of replies.
use Rattle.std.proofs.Common.{◌≡◌, ◌≢◌, ℕ, ◌+◌, ◌<◌, ◌≤◌, ◌==◌, Bool, true, false, ◌||◌, if◌then◌else◌, List, [], ◌∷◌, ◌++◌, length, take, drop, slice_index, cond, eq-eqb, sym, ap, subst, ◌∙◌, refl, arith, count_by, length-append}
use Rattle.std.specs.Int.{w32, from_be_bytes}
use Rattle.std.specs.List.{AllByRecursion, list_any}
use Rattle.std.proofs.Math.Seq.{take-append_seam, drop-append_seam}
use Rattle.std.proofs.lemmas.Bool.{false≢true, eqb-true}
use Rattle.std.proofs.lemmas.List.Sums.{sum_by-cons}
use Rattle.std.proofs.lemmas.Nat.{from_be_bytes-to_be_bytes_4}
use Rattle.pg_messages.specs.Fields.{count32}
use Rattle.pg_messages.specs.Frames.{told_len}
use Rattle.pg_messages.specs.declared.backend.PgWireBackendMessage.{PgWireBackendMessage}
use Rattle.pg_messages.specs.declared.backend.PgWireBackendMessage.TheVariants as server
use Rattle.pg_messages.specs.Replies.{is_one_byte, reply_type, reply_body, reply_bytes, replies_bytes}
use Rattle.cursor_commands.specs.Cursors.{Replies, is_error, is_row}
use Rattle.cursor_commands.specs.Rewriting.{FitsLen, TellsLen, IsSurvey}

-- ---- the length of a reply

one_by_type : (m : PgWireBackendMessage) → is_one_byte m ≡ (reply_type m == 78)
one_by_type (server.SslResponse m) = refl
one_by_type (server.GssEncResponse m) = refl
one_by_type _ = refl

-- the length by the type byte and the bytes behind it
len_by_type : (m : PgWireBackendMessage) (others : List ℕ) (one : Bool) → is_one_byte m ≡ one → FitsLen m
    → length (reply_bytes m) ≡ (if one then 1 else told_len false (reply_bytes m ++ others))
len_by_type m others true one can = rw one refl
len_by_type m others false one can =
    let n = 4 + length (reply_body m) in
    let told : from_be_bytes w32 (count32 n) ≡ n = from_be_bytes-to_be_bytes_4 n (omega (arith, can)) in
    rw one (omega (arith, told, length-append (count32 n) (reply_body m)))

apart : (m : PgWireBackendMessage) → is_one_byte m ≡ false → reply_type m ≢ 78
apart m one h = false≢true (sym one ∙ (one_by_type m ∙ eq-eqb (reply_type m) 78 h))

long : (m : PgWireBackendMessage) (others : List ℕ) → is_one_byte m ≡ false → 5 ≤ length (reply_bytes m ++ others)
long m others one = rw one (omega (
  arith,
  length-append (count32 (4 + length (reply_body m)) ++ reply_body m) others,
  length-append
      (count32 (4 + length (reply_body m))) (reply_body m),
))

by_one : (m : PgWireBackendMessage) (others : List ℕ) (n : ℕ) (one : Bool) → is_one_byte m ≡ one → FitsLen m
    → TellsLen (reply_bytes m ++ others) n
    → n ≡ length (reply_bytes m)
by_one m others n true one can tells =
    tells.one (eqb-true (reply_type m) 78 (sym (one_by_type m) ∙ one)) ∙ sym (len_by_type m others true one can)
by_one m others n false one can tells =
    let len = len_by_type m others false one can in
    let within : told_len false (reply_bytes m ++ others) ≤ length (reply_bytes m ++ others) =
    omega (arith, len, length-append (reply_bytes m) others) in
    tells.told (apart m one) (long m others one) within ∙ sym len

pub is_len : (bytes : List ℕ) (n : ℕ) (m : PgWireBackendMessage) (others : List ℕ) → TellsLen bytes n → FitsLen m
    → bytes ≡ reply_bytes m ++ others
    → n ≡ length (reply_bytes m)
is_len bytes n m others tells can e = by_one m others n (is_one_byte m) refl can (subst (λ b. TellsLen b n) e tells)

-- ---- the reply in front

-- A reply stands in front of bytes, and others behind it.
pub record HasFront (bytes : List ℕ) (n : ℕ) (replies : Replies) : Type 0 where
  pub first : PgWireBackendMessage
  pub others : Replies
  pub split : replies ≡ first ∷ others
  pub fits : FitsLen first
  pub others_fit : AllByRecursion FitsLen others
  pub kind : slice_index bytes 0 ≡ reply_type first
  pub reply : take n bytes ≡ reply_bytes first
  pub behind : drop n bytes ≡ replies_bytes others

pub front : (bytes : List ℕ) (n : ℕ) (replies : Replies) → 0 < length bytes → TellsLen bytes n → AllByRecursion FitsLen replies
    → bytes ≡ replies_bytes replies → HasFront bytes n replies
front bytes n [] some tells can e = absurd (omega (arith, ap length e))
front bytes n (m ∷ others) some tells can e =
    let len = is_len bytes n m (replies_bytes others) tells can.0 e in
    record {
      first = m;
      others = others;
      split = refl;
      fits = can.0;
      others_fit = can.1;
      kind = ap (λ b. slice_index b 0) e;
      reply = ap (λ k. take k bytes) len ∙ (ap (λ b. take (length (reply_bytes m)) b) e
          ∙ take-append_seam (reply_bytes m) (replies_bytes others));
      behind = ap (λ k. drop k bytes) len ∙ (ap (λ b. drop (length (reply_bytes m)) b) e
          ∙ drop-append_seam (reply_bytes m) (replies_bytes others));
    }

-- ---- what replies tell

error_by_type : (m : PgWireBackendMessage) → is_error m ≡ (reply_type m == 69)
error_by_type (server.ErrorResponse m) = refl
error_by_type _ = refl

pub row_by_type : (m : PgWireBackendMessage) → is_row m ≡ (reply_type m == 68)
row_by_type (server.DataRow m) = refl
row_by_type _ = refl

-- What was seen of replies, and what is left of their bytes.
pub record IsSeen (replies : Replies) (rest : List ℕ) (failed : Bool) (rows : ℕ) : Type 0 where
  pub left : Replies
  pub fits : AllByRecursion FitsLen left
  pub bytes : rest ≡ replies_bytes left
  pub errors : list_any is_error replies ≡ (failed || list_any is_error left)
  pub counted : count_by is_row replies ≡ rows + count_by is_row left

abbrev pub AreSeen : List ℕ → List ℕ → Bool → ℕ → Type 0
AreSeen bytes rest failed rows = (replies : Replies) → AllByRecursion FitsLen replies → bytes ≡ replies_bytes replies
    → IsSeen replies rest failed rows

pub none_seen : (bytes : List ℕ) → AreSeen bytes bytes false 0
none_seen bytes replies can e = record { left = replies; fits = can; bytes = e; errors = refl; counted = omega arith }

or_assoc : (a b c : Bool) → (a || (b || c)) ≡ ((a || b) || c)
or_assoc true b c = refl
or_assoc false b c = refl

pub one_seen : (bytes rest behind : List ℕ) (n : ℕ) (failed new_failed : Bool) (rows new_rows : ℕ) → AreSeen bytes rest failed rows
    → 0 < length rest → TellsLen rest n
    → new_failed ≡ (failed || slice_index rest 0 == 69) → new_rows ≡ rows + (if slice_index rest 0 == 68 then 1 else 0)
    → behind ≡ drop n rest → AreSeen bytes behind new_failed new_rows
one_seen bytes rest behind n failed new_failed rows new_rows seen some tells f r is replies can e =
    let was = seen replies can e in
    let at = front rest n was.left some tells was.fits was.bytes in
    record {
      left = at.others;
      fits = at.others_fit;
      bytes = is ∙ at.behind;
      errors =
          was.errors ∙ (ap (λ l. failed || list_any is_error l) at.split
          ∙ (ap (λ b. failed || (b || list_any is_error at.others)) (error_by_type at.first
          ∙ ap (λ k. k == 69) (sym at.kind)) ∙ (or_assoc failed (slice_index rest 0 == 69) (list_any is_error at.others)
          ∙ ap (λ b. b || list_any is_error at.others) (sym f))));
      counted =
          let step : count_by is_row was.left ≡ (if slice_index rest 0 == 68 then 1 else 0) + count_by is_row at.others =
          ap (λ l. count_by is_row l) at.split ∙ (sum_by-cons (λ m. cond (is_row m) 1 0) at.first at.others
          ∙ ap (λ b. (if b then 1 else 0) + count_by is_row at.others) (row_by_type at.first ∙ ap (λ k. k == 68) (sym at.kind))) in
          omega (arith, was.counted, step, r);
    }

or_false : (a : Bool) → (a || false) ≡ a
or_false true = refl
or_false false = refl

-- no byte is left, so no reply is
ends : (replies : Replies) (rest : List ℕ) (failed : Bool) (rows : ℕ) → length rest ≡ 0 → (left : Replies) → AllByRecursion FitsLen left
    → rest ≡ replies_bytes left → list_any is_error replies ≡ (failed || list_any is_error left)
    → count_by is_row replies ≡ rows + count_by is_row left
    → (failed ≡ list_any is_error replies) × (rows ≡ count_by is_row replies)
ends replies rest failed rows none [] can e f r = (sym (f ∙ or_false failed), omega (arith, r))
ends replies rest failed rows none (m ∷ left) can e f r = absurd (omega (
  arith,
  none,
  ap length e,
  length-append (reply_bytes m)
      (replies_bytes left),
))

pub all_seen : (bytes rest : List ℕ) (failed : Bool) (rows : ℕ) → AreSeen bytes rest failed rows → length rest ≡ 0
    → IsSurvey bytes failed rows
all_seen bytes rest failed rows seen none replies can e =
    let was = seen replies can e in
    ends replies rest failed rows none was.left was.fits was.bytes was.errors was.counted

-- ---- whether bytes are left

pub some_left : (bytes : List ℕ) (none : Bool) → none ≡ (length bytes == 0) → none ≡ false → 0 < length bytes
some_left [] none e f = absurd (false≢true (sym f ∙ e))
some_left (b ∷ bytes) none e f = omega arith

pub none_left : (bytes : List ℕ) (none : Bool) → none ≡ (length bytes == 0) → none ≡ true → length bytes ≡ 0
none_left bytes none e t = eqb-true (length bytes) 0 (sym e ∙ t)

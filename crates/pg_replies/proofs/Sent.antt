-- What was sent of a response, as it is sent reply by reply.
use Rattle.std.proofs.Common.{arith, ◌≡◌, ◌++◌, ◌≤◌, ◌<◌, ◌^◌, ◌⊎◌, inl, inr, List, [], ◌∷◌, ℕ, ℤ, Ok, Err, map, length, take, drop, refl, sym, ap, ◌∙◌, append_assoc}
use Rattle.std.proofs.lemmas.List.{length-append, append-nil, take-append-drop}
use Rattle.std.proofs.Math.Seq.{take-append_seam}
use Rattle.std.proofs.lemmas.Grind.{flat_map-append}
use Rattle.pg_messages.specs.declared.data.DataRow.{DataRow}
use Rattle.pg_messages.specs.declared.backend.PgWireBackendMessage.{PgWireBackendMessage}
use Rattle.pg_messages.specs.declared.backend.PgWireBackendMessage.TheVariants as server
use Rattle.pg_messages.specs.Replies.{reply_bytes, replies_bytes}
use Rattle.pg_results.specs.declared.error.PgWireError.{PgWireError}
use Rattle.pg_results.specs.declared.error.PgWireError.TheVariants as wire
use Rattle.pg_results.specs.Told.{IsRest, with_items, ToldRows}
use Rattle.pg_results.specs.Page.{CutsPage, item_page, before_error}
use Rattle.pg_results.specs.Rows.{RowItem}
use Rattle.pg_replies.specs.Replies.{row_replies}
use Rattle.pg_replies.specs.Sending.{IsMetError}

pub replies_bytes-append : (a b : List PgWireBackendMessage) → replies_bytes (a ++ b) ≡ replies_bytes a ++ replies_bytes b
replies_bytes-append a b = flat_map-append reply_bytes a b

-- replies behind replies
pub sent_behind : (out mid new : List ℕ) (a b : List PgWireBackendMessage) → mid ≡ out ++ replies_bytes a → new ≡ mid ++ replies_bytes b
    → new ≡ out ++ replies_bytes (a ++ b)
sent_behind out mid new a b e f =
    f ∙ ap (λ l. l ++ replies_bytes b) e ∙ append_assoc out (replies_bytes a) (replies_bytes b)
    ∙ ap (λ l. out ++ l) (sym (replies_bytes-append a b))

-- what waited in front stays there
pub kept_in_front : (out new more : List ℕ) → new ≡ out ++ more → take (length out) new ≡ out
kept_in_front out new more e = ap (take (length out)) e ∙ take-append_seam out more

-- it does where nothing has changed
pub kept_as : (out new : List ℕ) → new ≡ out → take (length out) new ≡ out
kept_as out new e = kept_in_front out new [] (e ∙ sym (append-nil out))

pub kept_behind : (out mid new more : List ℕ) → mid ≡ out ++ more → take (length mid) new ≡ mid → take (length out) new ≡ out
kept_behind out mid new more begun kept =
    let whole : new ≡ out ++ (more ++ drop (length mid) new) =
    sym (take-append-drop (length mid) new) ∙ ap (λ l. l ++ drop (length mid) new) (kept ∙ begun)
    ∙ append_assoc out more (drop (length mid) new) in
    kept_in_front out new (more ++ drop (length mid) new) whole

pub kept_through : (out mid new : List ℕ) → take (length out) mid ≡ out → take (length mid) new ≡ mid → take (length out) new ≡ out
kept_through out mid new first second =
    kept_behind out mid new (drop (length out) mid)
    (sym (take-append-drop (length out) mid) ∙ ap (λ l. l ++ drop (length out) mid) first) second

pub one_reply : (m : PgWireBackendMessage) → reply_bytes m ≡ replies_bytes (m ∷ [])
one_reply m = sym (append-nil (reply_bytes m))

pub one_behind : (out mid new : List ℕ) (m : PgWireBackendMessage) (more : List PgWireBackendMessage) → mid ≡ out ++ reply_bytes m
    → new ≡ mid ++ replies_bytes more
    → new ≡ out ++ replies_bytes (m ∷ more)
one_behind out mid new m more e f = sent_behind out mid new (m ∷ []) more (e ∙ ap (λ l. out ++ l) (one_reply m)) f

-- ---- a page that was delivered to the outbox

-- no more rows than their bytes
pub rows_fewer : (rows : List DataRow) → length rows ≤ length (replies_bytes (row_replies rows))
rows_fewer [] = omega arith
rows_fewer (row ∷ rows) =
    omega (arith, rows_fewer rows, length-append (reply_bytes (server.DataRow row)) (replies_bytes (row_replies rows)))

pub fewer_than_bytes : (rows : List DataRow) (out mid : List ℕ) (count : ℕ) → count ≡ length mid → count < 2 ^ 64
    → mid ≡ out ++ replies_bytes (row_replies rows) → length rows < 2 ^ 64
fewer_than_bytes rows out mid count is h e =
    let long = ap (λ (l : List ℕ). length l) e ∙ length-append out (replies_bytes (row_replies rows)) in
    omega (arith, rows_fewer rows, long, is, h)

-- the items before the first error, where rows were taken
before_rows : (rows : List DataRow) (items : List RowItem) → before_error (map Ok rows ++ items) ≡ rows ++ before_error items
before_rows [] items = refl
before_rows (row ∷ rows) items = ap (λ l. row ∷ l) (before_rows rows items)

module _ (old : ToldRows) (left : List RowItem) (new : ToldRows) (is : new ≡ with_items old left) where
  rest_left : (taken : List RowItem) → old.items ≡ taken ++ left → IsRest old new
  rest_left taken e = (taken, left, e, is)

  -- a page that was cut short met its error, or memory was wanting
  pub cut_met : (limit : ℤ) (rows : List DataRow) (e : PgWireError) → CutsPage limit old.items rows e left
      → (out new_out : List ℕ) → new_out ≡ out ++ replies_bytes (row_replies rows)
      → (e ≡ wire.NoMemory) ⊎ IsMetError old (item_page limit old.items).ending e new out new_out
  cut_met limit rows e (inl want) out new_out sent = inl want.0
  cut_met limit rows e (inr met) out new_out sent = inr (record {
    items = left;
    met = met.0;
    left = is;
    rows = sent ∙ ap (λ (l : List DataRow). out ++ replies_bytes (row_replies l))
        (sym (ap (λ (l : List RowItem). before_error l) met.1 ∙ before_rows rows (Err e ∷ left) ∙ append-nil rows));
  })

  pub cut_left : (limit : ℤ) (rows : List DataRow) (e : PgWireError) → CutsPage limit old.items rows e left → IsRest old new
  cut_left limit rows e (inl want) = rest_left (map Ok (rows ++ want.1.0)) want.1.2
  cut_left limit rows e (inr met) =
      rest_left (map Ok rows ++ Err e ∷ []) (met.1 ∙ sym (append_assoc (map Ok rows) (Err e ∷ []) left))

-- The columns and rows in front of the replies to a FETCH, which are left as they are.
use Rattle.std.proofs.Common.{◌≡◌, ◌≢◌, ℕ, ◌+◌, ◌-◌, ◌<◌, ◌≤◌, ◌==◌, Bool, true, false, ◌||◌, if◌then◌else◌, List, [], ◌∷◌, ◌++◌, length, take, drop, slice_index, cond, eq-eqb, sym, ap, subst, ◌∙◌, refl, arith, count_by, append_assoc, length-append}
use Rattle.std.specs.List.{list_any, flat_map}
use Rattle.std.proofs.Math.Seq.{take-add, drop-append_seam}
use Rattle.std.proofs.Math.ListN.{get_or-append}
use Rattle.std.proofs.lemmas.List.{drop-drop, drop-append-le, length-drop}
use Rattle.std.proofs.lemmas.List.Sums.{sum_by-cons}
use Rattle.pg_messages.specs.Frames.{told_len}
use Rattle.pg_messages.specs.declared.backend.PgWireBackendMessage.{PgWireBackendMessage}
use Rattle.pg_messages.specs.declared.backend.PgWireBackendMessage.TheVariants as server
use Rattle.pg_messages.specs.Replies.{reply_type, replies_bytes}
use Rattle.cursor_commands.specs.declared.rewrite.Change.TheVariants.{Failed}
use Rattle.cursor_commands.specs.Cursors.{Replies, is_error, is_row, fetch_reply}
use Rattle.cursor_commands.specs.Rewriting.{TellsLen, BeginsReply, BeginsRow, HasPage, HasRows, changed, fetch_replies}
use Rattle.cursor_commands.proofs.ReplyLemmas.{front, row_by_type}

-- ---- one reply of a page

abbrev of_page : ℕ → Bool
of_page kind = kind == 68 || kind == 84

stays : (n : ℕ) (m : PgWireBackendMessage) → of_page (reply_type m) ≡ true → fetch_reply n m ≡ m ∷ []
stays n (server.NoData m) is = absurd (let e = is in cc)
stays n (server.PortalSuspended m) is = absurd (let e = is in cc)
stays n (server.CommandComplete m) is = absurd (let e = is in cc)
stays n _ is = refl

no_error : (m : PgWireBackendMessage) → of_page (reply_type m) ≡ true → is_error m ≡ false
no_error (server.ErrorResponse m) is = absurd (let e = is in cc)
no_error _ is = refl

row_goes : (m : PgWireBackendMessage) → reply_type m == 68 ≡ true → changed Failed m ≡ []
row_goes (server.RowDescription m) is = absurd (let e = is in cc)
row_goes (server.ErrorResponse m) is = absurd (let e = is in cc)
row_goes (server.ReadyForQuery m) is = absurd (let e = is in cc)
row_goes _ is = refl

columns_stay : (m : PgWireBackendMessage) → reply_type m == 84 ≡ true → changed Failed m ≡ m ∷ []
columns_stay (server.RowDescription m) is = refl
columns_stay _ is = absurd (let e = is in cc)

tells : (kind : ℕ) (bytes : List ℕ) (k : ℕ) → kind ≢ 78 → BeginsReply kind bytes k → TellsLen bytes k
tells kind bytes k apart begins = record {
  one = λ is. absurd (apart (sym begins.type ∙ is));
  told = λ other five within. begins.told five within;
}

-- ---- the page

pub no_page : (change : ℕ → Replies → Replies) (bytes : List ℕ) → HasPage change bytes 0 0 0
no_page change bytes replies can e = record {
  left = replies;
  fits = can;
  bytes = e;
  errors = refl;
  counted = omega arith;
  same = λ n. refl;
  failed = refl;
}

rows_more : (kind : ℕ) (m : PgWireBackendMessage) (others : Replies) → kind ≡ reply_type m
    → count_by is_row (m ∷ others) ≡ (if kind == 68 then 1 else 0) + count_by is_row others
rows_more kind m others e =
    sum_by-cons (λ m. cond (is_row m) 1 0) m others
    ∙ ap (λ b. (if b then 1 else 0) + count_by is_row others) (row_by_type m ∙ ap (λ k. k == 68) (sym e))

-- the columns in front
pub columns_page : (bytes : List ℕ) (k : ℕ) → BeginsReply 84 bytes k → HasPage fetch_replies bytes k k 0
columns_page bytes k begins replies can e =
    let at = front bytes k replies (let a = begins.some in let b = begins.within in omega (arith, a, b))
    (tells 84 bytes k (λ e. omega (arith, e)) begins) can e in
    let type : reply_type at.first ≡ 84 = sym at.kind ∙ begins.type in
    let is : of_page (reply_type at.first) ≡ true = ap of_page type in
    record {
      left = at.others;
      fits = at.others_fit;
      bytes = at.behind;
      errors = ap (λ l. list_any is_error l) at.split ∙ ap (λ b. b || list_any is_error at.others) (no_error at.first is);
      counted =
          let step : count_by is_row replies ≡ 0 + count_by is_row at.others =
          ap (λ l. count_by is_row l) at.split ∙ rows_more 84 at.first at.others (sym type) in
          omega (arith, step);
      same = λ n.
          let others = replies_bytes (fetch_replies n at.others) in
          ap (λ l. replies_bytes (fetch_replies n l)) at.split
          ∙ (ap (λ l. replies_bytes (l ++ fetch_replies n at.others)) (stays n at.first is)
          ∙ ap (λ l. l ++ others) (sym at.reply));
      failed =
          let others = flat_map (changed Failed) at.others in
          ap (λ l. replies_bytes (flat_map (changed Failed) l)) at.split
          ∙ (ap (λ l. replies_bytes (l ++ others)) (columns_stay at.first (eq-eqb (reply_type at.first) 84 type))
          ∙ ap (λ l. l ++ replies_bytes others) (sym at.reply));
    }

-- one more row
pub one_row : (bytes : List ℕ) (columns len rows k : ℕ) → HasPage fetch_replies bytes columns len rows → BeginsReply 68 (drop len bytes) k
    → HasPage fetch_replies bytes columns (len + k) (rows + 1)
one_row bytes columns len rows k page begins replies can e =
    let was = page replies can e in
    let rest = drop len bytes in
    let at = front rest k was.left (let a = begins.some in let b = begins.within in omega (arith, a, b))
    (tells 68 rest k (λ e. omega (arith, e)) begins) was.fits was.bytes in
    let type : reply_type at.first ≡ 68 = sym at.kind ∙ begins.type in
    let is : of_page (reply_type at.first) ≡ true = ap of_page type in
    let page = take len bytes in
    record {
      left = at.others;
      fits = at.others_fit;
      bytes = sym (drop-drop k len bytes) ∙ at.behind;
      errors = was.errors ∙ (ap (λ l. list_any is_error l) at.split
          ∙ ap (λ b. b || list_any is_error at.others) (no_error at.first is));
      counted =
          let step : count_by is_row was.left ≡ 1 + count_by is_row at.others =
          ap (λ l. count_by is_row l) at.split ∙ rows_more 68 at.first at.others (sym type) in
          let before = was.counted in
          omega (arith, before, step);
      same = λ n.
          let others = replies_bytes (fetch_replies n at.others) in
          was.same n ∙ (ap (λ l. page ++ replies_bytes (fetch_replies n l)) at.split
          ∙ (ap (λ l. page ++ replies_bytes (l ++ fetch_replies n at.others)) (stays n at.first is)
          ∙ (ap (λ l. page ++ (l ++ others)) (sym at.reply)
          ∙ (sym (append_assoc page (take k rest) others) ∙ ap (λ l. l ++ others) (sym (take-add len k bytes))))));
      failed =
          let others = flat_map (changed Failed) at.others in
          let front = take columns bytes in
          was.failed ∙ (ap (λ l. front ++ replies_bytes (flat_map (changed Failed) l)) at.split
          ∙ ap (λ l. front ++ replies_bytes (l ++ others)) (row_goes at.first (eq-eqb (reply_type at.first) 68 type)));
    }

-- ---- rows, one behind another

pub no_rows : (bytes : List ℕ) (at : ℕ) → HasRows bytes at 0 0
no_rows bytes at columns rows page =
    subst (λ n. HasPage fetch_replies bytes columns n (rows + 0)) (let e : at ≡ at + 0 = omega arith in e)
    (subst (λ n. HasPage fetch_replies bytes columns at n) (let e : rows ≡ rows + 0 = omega arith in e) page)

pub more_rows : (bytes : List ℕ) (at len count k : ℕ) → HasRows bytes at len count → BeginsReply 68 (drop (at + len) bytes) k
    → HasRows bytes at (len + k) (count + 1)
more_rows bytes at len count k has begins columns rows page =
    subst (λ n. HasPage fetch_replies bytes columns n (rows + (count + 1))) (let e : at + len + k ≡ at + (len + k) = omega arith in e)
    (subst (λ n. HasPage fetch_replies bytes columns (at + len + k) n) (let e : rows + count + 1 ≡ rows + (count + 1) = omega arith in e)
    (one_row bytes columns (at + len) (rows + count) k (has columns rows page) begins))

-- a row, and rows behind it
pub page_more : (bytes : List ℕ) (columns len rows k more count new_len new_rows : ℕ) → HasPage fetch_replies bytes columns len rows
    → BeginsReply 68 (drop len bytes) k → HasRows bytes (len + k) more count → new_len ≡ len + (k + more) → new_rows ≡ rows + (1 + count)
    → HasPage fetch_replies bytes columns new_len new_rows
page_more bytes columns len rows k more count new_len new_rows page begins has is_len is_rows =
    subst (λ n. HasPage fetch_replies bytes columns n new_rows) (let e : len + k + more ≡ new_len = omega (arith, is_len) in e)
    (subst (λ n. HasPage fetch_replies bytes columns (len + k + more) n) (let e : rows + 1 + count ≡ new_rows = omega (arith, is_rows) in e)
    (has columns (rows + 1) (one_row bytes columns len rows k page begins)))

-- ---- the header of a reply

-- what stands in front of bytes tells how long their reply is, where the header stands there
pub told_in_front : (front behind : List ℕ) → 5 ≤ length front → told_len false (front ++ behind) ≡ told_len false front
told_in_front [] behind five = absurd (omega arith)
told_in_front (a ∷ []) behind five = absurd (omega arith)
told_in_front (a ∷ b ∷ []) behind five = absurd (omega arith)
told_in_front (a ∷ b ∷ c ∷ []) behind five = absurd (omega arith)
told_in_front (a ∷ b ∷ c ∷ d ∷ []) behind five = absurd (omega arith)
told_in_front (a ∷ b ∷ c ∷ d ∷ e ∷ front) behind five = refl

-- a row whose header stands in a piece
pub begins_at : (bytes piece behind : List ℕ) (at len left k : ℕ) → drop at bytes ≡ piece ++ behind → at + left ≡ length bytes
    → len ≤ left → BeginsRow (drop len piece) (left - len) k → BeginsReply 68 (drop (at + len) bytes) k
begins_at bytes piece behind at len left k e all within row =
    let front = drop len piece in
    let five = row.header in
    let fits : len ≤ length piece = let d = length-drop len piece in omega (arith, d, five) in
    let rest : drop (at + len) bytes ≡ front ++ behind =
    sym (drop-drop len at bytes) ∙ (ap (λ l. drop len l) e ∙ drop-append-le len piece behind fits) in
    let long : length (drop (at + len) bytes) ≡ length bytes - (at + len) = length-drop (at + len) bytes in
    let both : length (drop (at + len) bytes) ≡ length front + length behind = ap length rest ∙ length-append front behind in
    let same : told_len false (drop (at + len) bytes) ≡ told_len false front =
    ap (λ l. told_len false l) rest ∙ told_in_front front behind five in
    let some_left : 0 < left - len = omega (arith, long, both, five, all, within) in
    let at_most = row.within in
    record {
      some = row.some some_left;
      within = omega (arith, at_most, long, all, within);
      type = ap (λ l. slice_index l 0) rest ∙ (get_or-append front behind 0 0 (omega (arith, five)) ∙ row.type);
      told = λ more less.
          row.told (let l = less in omega (arith, l, same, long, all, within)) ∙ sym same;
    }

-- ---- a copy of what stands from a place on

pub copied_more : (bytes piece behind copy all new : List ℕ) (place : ℕ) → drop place bytes ≡ piece ++ behind
    → copy ++ drop place bytes ≡ all → new ≡ copy ++ piece
    → new ++ drop (place + length piece) bytes ≡ all
copied_more bytes piece behind copy all new place e so_far grown =
    let rest : drop (place + length piece) bytes ≡ behind =
    sym (drop-drop (length piece) place bytes) ∙ (ap (λ l. drop (length piece) l) e ∙ drop-append_seam piece behind) in
    (λ i. grown i ++ rest i) ∙ (append_assoc copy piece behind ∙ (ap (λ l. copy ++ l) (sym e) ∙ so_far))

-- A page and the items that it leaves join to the items.
use Rattle.std.proofs.Common.{arith, ◌≡◌, ◌++◌, ◌∙◌, ◌+◌, ◌≤◌, ◌⊎◌, inl, inr, List, [], ◌∷◌, ℕ, ℤ, pos, negsuc, Bool, true, false, Ok, Err, map, length, take, drop, refl, sym, ap, append_assoc}
use Rattle.std.proofs.lemmas.Bool.Decides.{nat_tests}
use Rattle.std.proofs.lemmas.List.{length-append, length-map, length-take-le, map-append, append-nil, take-append-drop}
use Rattle.pg_messages.specs.declared.data.DataRow.{DataRow}
use Rattle.pg_messages.specs.declared.backend.PgWireBackendMessage.{PgWireBackendMessage}
use Rattle.pg_results.specs.declared.error.PgWireError.{PgWireError}
use Rattle.pg_results.specs.Page.{AtLimit, AtEnd, AtError, is_reached, item_page, before_error}
use Rattle.pg_results.specs.Rows.{RowItem}
use Rattle.pg_results.proofs.Paging.{page_at_limit, page_at_end, page_at_error}
use Rattle.pg_replies.specs.Replies.{Replies, row_replies}
use Rattle.conversation_laws.specs.Pages.{SentRows, DroppedRows, IsWithin, items_of, rows_among}

-- what stands behind the rows before the first error
abbrev tail_of : List RowItem → List RowItem
tail_of [] = []
tail_of (Ok row ∷ items) = tail_of items
tail_of (Err error ∷ items) = Err error ∷ items

whole : (items : List RowItem) → items ≡ map Ok (before_error items) ++ tail_of items
whole [] = refl
whole (Ok row ∷ items) = ap (λ items. Ok row ∷ items) (whole items)
whole (Err error ∷ items) = refl

tail_is : (items : List RowItem) → (tail_of items ≡ [])
    ⊎ ((error : PgWireError) × (left : List RowItem) × (tail_of items ≡ Err error ∷ left))
tail_is [] = inl refl
tail_is (Ok row ∷ items) = tail_is items
tail_is (Err error ∷ items) = inr (error, items, refl)

-- how a page over items comes out
pub data Parts (limit : ℤ) (items : List RowItem) : Type 0 where
  Reached : (rows : List DataRow) → (left : List RowItem) → items ≡ items_of (SentRows rows) ++ left
      → IsWithin limit (items_of (SentRows rows))
      → item_page limit items ≡ record { rows = rows; ending = AtLimit left } → Parts limit items
  Complete : (rows : List DataRow) → items ≡ items_of (SentRows rows) ++ [] → IsWithin limit (items_of (SentRows rows))
      → item_page limit items ≡ record { rows = rows; ending = AtEnd } → Parts limit items
  Broken : (rows : List DataRow) → (e : PgWireError) → (left : List RowItem) → items ≡ items_of (DroppedRows rows e) ++ left
      → IsWithin limit (items_of (DroppedRows rows e)) → item_page limit items ≡ record { rows = []; ending = AtError e left }
      → Parts limit items

within_less : (limit : ℤ) (n : ℕ) (items : List RowItem) → is_reached limit n ≡ false → length items ≤ n + 1 → IsWithin limit items
within_less (pos l) n items e h = λ one. grind (arith, nat_tests)
within_less (negsuc k) n items e h = tt

within_limit : (l : ℕ) (items : List RowItem) → length items ≡ l → IsWithin (pos l) items
within_limit l items e = λ one. omega arith

reached_enough : (l n : ℕ) → is_reached (pos l) n ≡ true → l ≤ n
reached_enough l n e = grind (arith, nat_tests)

reached_at : (l m n : ℕ) → is_reached (pos l) n ≡ true → m ≡ l → is_reached (pos l) m ≡ true
reached_at l m n e is = grind (arith, nat_tests)

parted : (n : ℕ) (rows : List DataRow) (t : List RowItem) → map Ok rows ++ t ≡ map Ok (take n rows) ++ (map Ok (drop n rows) ++ t)
parted n rows t = ap (λ (l : List DataRow). map Ok l ++ t) (sym (take-append-drop n rows))
    ∙ ap (λ l. l ++ t) (map-append Ok (take n rows) (drop n rows)) ∙ append_assoc (map Ok (take n rows)) (map Ok (drop n rows)) t

parts_reached : (limit : ℤ) (items : List RowItem) → is_reached limit (length (before_error items)) ≡ true → Parts limit items
parts_reached (negsuc n) items e = cc
parts_reached (pos l) items e =
    let rows = before_error items in
    let x = take l rows in
    let left = map Ok (drop l rows) ++ tail_of items in
    let len : length x ≡ l = length-take-le l rows (reached_enough l (length rows) e) in
    let j : items ≡ map Ok x ++ left = whole items ∙ parted l rows (tail_of items) in
    Reached x left j (within_limit l (map Ok x) (length-map x Ok ∙ len))
    (ap (item_page (pos l)) j ∙ page_at_limit (pos l) x left (reached_at l (length x) (length rows) e len) (sym len))

as_many : (rows : List DataRow) → length (items_of (SentRows rows)) ≡ length rows
as_many rows = length-map rows Ok

at_most : (items : List RowItem) (n : ℕ) → length items ≡ n → length items ≤ n + 1
at_most items n e = omega arith

one_more : (rows : List DataRow) (e : PgWireError) → length (items_of (DroppedRows rows e)) ≤ length rows + 1
one_more rows e = rw (length-append (items_of (SentRows rows)) (Err e ∷ []), as_many rows) (omega arith)

parts_ended : (limit : ℤ) (items : List RowItem) → is_reached limit (length (before_error items)) ≡ false
    → (tail_of items ≡ []) ⊎ ((error : PgWireError) × (left : List RowItem) × (tail_of items ≡ Err error ∷ left)) → Parts limit items
parts_ended limit items e (inl none) =
    let rows = before_error items in
    let j : items ≡ map Ok rows ++ [] = whole items ∙ ap (λ t. map Ok rows ++ t) none in
    Complete rows j (within_less limit (length rows) (map Ok rows) e (at_most (map Ok rows) (length rows) (as_many rows)))
    (ap (item_page limit) j ∙ page_at_end limit rows [] refl e)
parts_ended limit items e (inr met) =
    let rows = before_error items in
    let j : items ≡ map Ok rows ++ Err met.0 ∷ met.1 = whole items ∙ ap (λ t. map Ok rows ++ t) met.2 in
    Broken rows met.0 met.1 (j ∙ sym (append_assoc (map Ok rows) (Err met.0 ∷ []) met.1))
    (within_less limit (length rows) (map Ok rows ++ Err met.0 ∷ []) e (one_more rows met.0))
    (ap (item_page limit) j ∙ page_at_error limit rows met.0 met.1 e)

pub parts : (limit : ℤ) (items : List RowItem) → Parts limit items
parts limit items = by_test (is_reached limit (length (before_error items))) refl
  where
    by_test : (b : Bool) → is_reached limit (length (before_error items)) ≡ b → Parts limit items
    by_test true e = parts_reached limit items e
    by_test false e = parts_ended limit items e (tail_is items)

rows_among-rows : (rows : List DataRow) (others : Replies) → rows_among (row_replies rows ++ others) ≡ rows ++ rows_among others
rows_among-rows [] others = refl
rows_among-rows (row ∷ rows) others = ap (λ l. row ∷ l) (rows_among-rows rows others)

-- rows, and a reply that is no DataRow
pub rows_before : (rows : List DataRow) (reply : PgWireBackendMessage) → rows_among (reply ∷ []) ≡ []
    → rows_among (row_replies rows ++ reply ∷ []) ≡ rows
rows_before rows reply e = rows_among-rows rows (reply ∷ []) ∙ ap (λ l. rows ++ l) e ∙ append-nil rows

-- What is sent of items that show stored rows shows stored rows.
use Rattle.std.proofs.Common.{◌≡◌, ℕ, ℤ, zero, suc, Bool, true, false, cond, if◌then◌else◌, List, [], ◌∷◌, ◌++◌, Option, Some, None, Result, Ok, Err, length, take, drop, unsigned_abs, refl}
use Rattle.std.specs.List.{AllByRecursion, filter}
use Rattle.pg_messages.specs.declared.copy.CopyData.{CopyData}
use Rattle.pg_messages.specs.declared.data.DataRow.{DataRow}
use Rattle.pg_messages.specs.declared.backend.PgWireBackendMessage.{PgWireBackendMessage}
use Rattle.pg_messages.specs.declared.backend.PgWireBackendMessage.TheVariants as server
use Rattle.pg_messages.specs.declared.response.TransactionStatus.{TransactionStatus}
use Rattle.pg_results.specs.declared.error.PgWireError.{PgWireError}
use Rattle.pg_results.specs.Page.{page, is_reached, PageEnd, AtLimit, AtEnd, AtError, ItemPage, item_page, ended_page, before_error, first_error}
use Rattle.pg_results.specs.Responses as response
use Rattle.pg_results.specs.Responses.{ToldResponse, ToldCopy}
use Rattle.pg_results.specs.Told.{ToldRows}
use Rattle.pg_replies.specs.Replies.{Replies, row_replies, done_with}
use Rattle.pg_replies.specs.ResponseRows.{Sent, unless_error, sent_rows, rows_front, copy_items, copy_data, copy_count, copy_replies, copy_end, copy_out_reply, copy_both_reply, sent_copy, responded}
use Rattle.conversation_table.specs.SimpleRows.{followed, responded_all}

-- ---- lists

pub all_append : {A : Type 0} (P : A → Type 0) (xs ys : List A) → AllByRecursion P xs → AllByRecursion P ys → AllByRecursion P (xs ++ ys)
all_append P [] ys h k = k
all_append P (x ∷ xs) ys h k = (h.0, all_append P xs ys h.1 k)

all_take : {A : Type 0} (P : A → Type 0) (n : ℕ) (xs : List A) → AllByRecursion P xs → AllByRecursion P (take n xs)
all_take P zero xs h = tt
all_take P (suc n) [] h = tt
all_take P (suc n) (x ∷ xs) h = (h.0, all_take P n xs h.1)

all_drop : {A : Type 0} (P : A → Type 0) (n : ℕ) (xs : List A) → AllByRecursion P xs → AllByRecursion P (drop n xs)
all_drop P zero xs h = h
all_drop P (suc n) [] h = tt
all_drop P (suc n) (x ∷ xs) h = all_drop P n xs h.1

kept_if : {A : Type 0} (P : A → Type 0) (b : Bool) (x : A) (xs : List A) → P x → AllByRecursion P xs → AllByRecursion P (cond b (x ∷ xs) xs)
kept_if P true x xs h hs = (h, hs)
kept_if P false x xs h hs = hs

all_filter : {A : Type 0} (P : A → Type 0) (test : A → Bool) (xs : List A) → AllByRecursion P xs → AllByRecursion P (filter test xs)
all_filter P test [] h = tt
all_filter P test (x ∷ xs) h = kept_if P (test x) x (filter test xs) h.0 (all_filter P test xs h.1)

-- ---- items, by what is true of each that isn't an error

-- an item is an error, or this is true of it
abbrev pub ItemIs : {A : Type 0} → (A → Type 0) → Result A PgWireError → Type 0
ItemIs P (Ok x) = P x
ItemIs P (Err e) = Unit {0}

abbrev pub ItemsAre : {A : Type 0} → (A → Type 0) → List (Result A PgWireError) → Type 0
ItemsAre P items = AllByRecursion (ItemIs P) items

before_are : {A : Type 0} (P : A → Type 0) (items : List (Result A PgWireError)) → ItemsAre P items → AllByRecursion P (before_error items)
before_are P [] h = tt
before_are P (Ok x ∷ items) h = (h.0, before_are P items h.1)
before_are P (Err e ∷ items) h = tt

-- the items behind the first error
abbrev BehindAre : {A : Type 0} → (A → Type 0) → Option (PgWireError × List (Result A PgWireError)) → Type 0
BehindAre P None = Unit {0}
BehindAre P (Some e) = ItemsAre P e.1

behind_are : {A : Type 0} (P : A → Type 0) (items : List (Result A PgWireError)) → ItemsAre P items → BehindAre P (first_error items)
behind_are P [] h = tt
behind_are P (Ok x ∷ items) h = behind_are P items h.1
behind_are P (Err e ∷ items) h = h.1

abbrev pub EndIs : {A : Type 0} → (A → Type 0) → PageEnd A → Type 0
EndIs P (AtLimit items) = ItemsAre P items
EndIs P AtEnd = Unit {0}
EndIs P (AtError e items) = ItemsAre P items

-- the rows of a page, and the items that it leaves
abbrev pub PageIs : {A : Type 0} → (A → Type 0) → ItemPage A → Type 0
PageIs P page = AllByRecursion P page.rows × EndIs P page.ending

ended_is : {A : Type 0} (P : A → Type 0) (rows : List A) (o : Option (PgWireError × List (Result A PgWireError))) → AllByRecursion P rows
    → BehindAre P o → PageIs P (ended_page rows o)
ended_is P rows None h k = (h, tt)
ended_is P rows (Some e) h k = (tt, k)

page_by : {A : Type 0} (P : A → Type 0) (limit : ℤ) (items : List (Result A PgWireError)) → ItemsAre P items → (b : Bool)
    → is_reached limit (length (before_error items)) ≡ b → PageIs P (item_page limit items)
page_by P limit items h true e =
    let rows = take (unsigned_abs limit) (before_error items) in
    rw e (all_take P (unsigned_abs limit) (before_error items) (before_are P items h), all_drop (ItemIs P) (length rows) items h)
page_by P limit items h false e =
    rw e (ended_is P (before_error items) (first_error items) (before_are P items h) (behind_are P items h))

pub page_is : {A : Type 0} (P : A → Type 0) (limit : ℤ) (items : List (Result A PgWireError)) → ItemsAre P items
    → PageIs P (item_page limit items)
page_is P limit items h = page_by P limit items h (is_reached limit (length (before_error items))) refl

-- ---- replies, by what is true of rows and of the data of a COPY

module _ (IsRow : DataRow → Type 0) (IsLine : CopyData → Type 0) where
  abbrev pub ReplyIs : PgWireBackendMessage → Type 0
  ReplyIs (server.DataRow d) = IsRow d
  ReplyIs (server.CopyData d) = IsLine d
  ReplyIs _ = Unit {0}

  abbrev pub Are : Replies → Type 0
  Are replies = AllByRecursion ReplyIs replies

  pub row_replies_are : (rows : List DataRow) → AllByRecursion IsRow rows → Are (row_replies rows)
  row_replies_are [] h = tt
  row_replies_are (d ∷ rows) h = (h.0, row_replies_are rows h.1)

  copy_replies_are : (copied : List CopyData) → AllByRecursion IsLine copied → Are (copy_replies copied)
  copy_replies_are [] h = tt
  copy_replies_are (d ∷ copied) h = (h.0, copy_replies_are copied h.1)

  pub either_is : (b : Bool) (x y : PgWireBackendMessage) → ReplyIs x → ReplyIs y → ReplyIs (if b then x else y)
  either_is true x y f g = f
  either_is false x y f g = g

  -- what is true of the rows and the data that a response has to send
  abbrev pub ResponseIs : ToldResponse → Type 0
  ResponseIs (response.Query r) = ItemsAre IsRow r.items
  ResponseIs (response.CopyOut c) = ItemsAre IsLine (copy_items c)
  ResponseIs (response.CopyBoth c) = ItemsAre IsLine (copy_items c)
  ResponseIs _ = Unit {0}

  unless_are : {A : Type 0} (status : TransactionStatus) (copying : Bool) (replies others : Replies) (o : Option (PgWireError × A))
      → Are replies → Are others → Are (unless_error status copying replies others o).replies
  unless_are status copying replies others None h k = all_append ReplyIs replies others h k
  unless_are status copying replies others (Some e) h k = h

  sent_rows_are : (status : TransactionStatus) (r : ToldRows) → ItemsAre IsRow r.items → Are (sent_rows status r).replies
  sent_rows_are status r h =
      let rows = before_error r.items in
      unless_are status false (rows_front true r ++ row_replies rows) (done_with r.command_tag (length rows) ∷ []) (first_error r.items)
      (tt, row_replies_are rows (before_are IsRow r.items h)) (tt, tt)

  copied_are : (status : TransactionStatus) (copying : Bool) (head : PgWireBackendMessage) (c : ToldCopy) → ReplyIs head
      → ItemsAre IsLine (copy_items c) → Are (sent_copy status copying head c).replies
  copied_are status copying head c k h =
      unless_are status copying (head ∷ copy_replies (copy_data c)) (copy_end (copy_count (copy_data c))) (first_error (copy_items c))
      (k, copy_replies_are (copy_data c) (all_filter IsLine _ (before_error (copy_items c)) (before_are IsLine (copy_items c) h)))
      (tt, (tt, tt))

  pub responded_are : (status : TransactionStatus) (r : ToldResponse) → ResponseIs r → Are (responded status r).replies
  responded_are status response.EmptyQuery h = (tt, tt)
  responded_are status (response.Query r) h = sent_rows_are status r h
  responded_are status (response.Execution tag) h = (tt, tt)
  responded_are status (response.TransactionStart tag) h = (tt, tt)
  responded_are status (response.TransactionEnd tag) h = (tt, tt)
  responded_are status (response.Error info) h = (tt, tt)
  responded_are status (response.CopyIn c) h = (tt, tt)
  responded_are status (response.CopyOut c) h = copied_are status false (copy_out_reply c) c tt h
  responded_are status (response.CopyBoth c) h = copied_are status true (copy_both_reply c) c tt h

  followed_are : (first : Sent) (o : Option PgWireError) (others : Sent) → Are first.replies → Are others.replies
      → Are (followed first o others).replies
  followed_are first None others h k = all_append ReplyIs first.replies others.replies h k
  followed_are first (Some e) others h k = h

  pub all_responded_are : (status : TransactionStatus) (responses : List ToldResponse) → AllByRecursion ResponseIs responses
      → Are (responded_all status responses).replies
  all_responded_are status [] h = tt
  all_responded_are status (r ∷ responses) h =
      let first = responded status r in
      followed_are first first.refusal (responded_all first.status responses) (responded_are status r h.0)
      (all_responded_are first.status responses h.1)

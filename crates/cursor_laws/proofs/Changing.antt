-- The replies to a FETCH tell the rows and the errors that those to its messages tell.
use Rattle.std.proofs.Common.{◌≡◌, ◌∙◌, inl, inr, ℕ, ℤ, Bool, true, false, if◌then◌else◌, List, [], ◌∷◌, ◌++◌, filter, count_by, nat_eq, codes, refl, ap}
use Rattle.std.specs.List.{list_any, flat_map, starts_with}
use Rattle.pg_messages.specs.declared.response.CommandComplete.{CommandComplete}
use Rattle.pg_messages.specs.declared.backend.PgWireBackendMessage.TheVariants as server
use Rattle.conversation_laws.specs.Pages.{Taken, SentRows, DroppedRows, rows_among}
use Rattle.cursor_commands.specs.declared.command.CursorCommand.TheVariants.{Fetch}
use Rattle.cursor_commands.specs.Cursors.{Replies, fetched, is_error, is_row, is_left_by_error, fetch_reply, success_replies, replies_of}
use Rattle.cursor_laws.specs.CursorPages.{IsFetched, TellsFetch, errors_among}

-- ---- replies behind replies

pub rows_both : (a b : Replies) → rows_among (a ++ b) ≡ rows_among a ++ rows_among b
rows_both [] b = refl
rows_both (server.DataRow row ∷ a) b = ap (λ l. row ∷ l) (rows_both a b)
rows_both (_ ∷ a) b = rows_both a b

pub errors_both : (a b : Replies) → errors_among (a ++ b) ≡ errors_among a ++ errors_among b
errors_both [] b = refl
errors_both (server.ErrorResponse m ∷ a) b = ap (λ l. server.ErrorResponse m ∷ l) (errors_both a b)
errors_both (_ ∷ a) b = errors_both a b

-- ---- what becomes of replies

rows_left : (replies : Replies) → rows_among (filter is_left_by_error replies) ≡ []
rows_left [] = refl
rows_left (server.RowDescription m ∷ replies) = rows_left replies
rows_left (_ ∷ replies) = rows_left replies

errors_left : (replies : Replies) → errors_among (filter is_left_by_error replies) ≡ errors_among replies
errors_left [] = refl
errors_left (server.ErrorResponse m ∷ replies) = ap (λ l. server.ErrorResponse m ∷ l) (errors_left replies)
errors_left (_ ∷ replies) = errors_left replies

no_row : (b : Bool) (n : ℕ) (m : CommandComplete) (replies : Replies)
    → rows_among ((if b then fetched n else server.CommandComplete m) ∷ replies) ≡ rows_among replies
no_row true n m replies = refl
no_row false n m replies = refl

no_error : (b : Bool) (n : ℕ) (m : CommandComplete) (replies : Replies)
    → errors_among ((if b then fetched n else server.CommandComplete m) ∷ replies) ≡ errors_among replies
no_error true n m replies = refl
no_error false n m replies = refl

rows_changed : (n : ℕ) (replies : Replies) → rows_among (flat_map (fetch_reply n) replies) ≡ rows_among replies
rows_changed n [] = refl
rows_changed n (server.DataRow row ∷ replies) = ap (λ l. row ∷ l) (rows_changed n replies)
rows_changed n (server.CommandComplete m ∷ replies) =
    no_row (starts_with nat_eq m.tag (codes "SELECT ")) n m (flat_map (fetch_reply n) replies) ∙ rows_changed n replies
rows_changed n (_ ∷ replies) = rows_changed n replies

errors_changed : (n : ℕ) (replies : Replies) → errors_among (flat_map (fetch_reply n) replies) ≡ errors_among replies
errors_changed n [] = refl
errors_changed n (server.ErrorResponse m ∷ replies) = ap (λ l. server.ErrorResponse m ∷ l) (errors_changed n replies)
errors_changed n (server.CommandComplete m ∷ replies) =
    no_error (starts_with nat_eq m.tag (codes "SELECT ")) n m (flat_map (fetch_reply n) replies) ∙ errors_changed n replies
errors_changed n (_ ∷ replies) = errors_changed n replies

none_any : (replies : Replies) → errors_among replies ≡ [] → list_any is_error replies ≡ false
none_any [] e = refl
none_any (server.ErrorResponse m ∷ replies) e = absurd (let k = e in cc)
none_any (_ ∷ replies) e = none_any replies e

-- ---- the replies of a FETCH

module _ (limit : ℤ) (name : List ℕ) (replies : Replies) where
  -- the replies where one is an error as told, and where none is
  abbrev changed_where : Bool → Replies
  changed_where failed =
      if failed then filter is_left_by_error replies else success_replies (Fetch limit name) replies

  errors_where : (failed : Bool) → errors_among (changed_where failed) ≡ errors_among replies
  errors_where true = errors_left replies
  errors_where false = errors_changed (count_by is_row replies) replies

  errors_kept : errors_among (replies_of (Fetch limit name) replies) ≡ errors_among replies
  errors_kept = errors_where (list_any is_error replies)

  rows_kept : errors_among replies ≡ [] → rows_among (replies_of (Fetch limit name) replies) ≡ rows_among replies
  rows_kept none = ap (λ failed. rows_among (changed_where failed)) (none_any replies none)
      ∙ rows_changed (count_by is_row replies) replies

  none_where : rows_among replies ≡ [] → (failed : Bool) → rows_among (changed_where failed) ≡ []
  none_where none true = rows_left replies
  none_where none false = rows_changed (count_by is_row replies) replies ∙ none

  none_kept : rows_among replies ≡ [] → rows_among (replies_of (Fetch limit name) replies) ≡ []
  none_kept none = none_where none (list_any is_error replies)

  page_told : (page : Taken) → IsFetched page replies → IsFetched page (replies_of (Fetch limit name) replies)
  page_told (SentRows rows) k = (rows_kept k.1 ∙ k.0, errors_kept ∙ k.1)
  page_told (DroppedRows rows e) k = (none_kept k.0, errors_kept ∙ k.1)

  -- What the messages of a FETCH tell, the FETCH tells.
  pub fetch_told : (bound : ℤ) (pages : List Taken) → TellsFetch bound replies pages
      → TellsFetch bound (replies_of (Fetch limit name) replies) pages
  fetch_told bound pages (inl k) = inl (k.0, k.1, page_told k.0 k.2, k.3)
  fetch_told bound pages (inr k) = inr (k.0, (none_kept k.1.0, (k.1.1.0, errors_kept ∙ k.1.1.1)))

-- ---- replies with the same rows and errors

module _ (limit : ℤ) (a b : Replies) (rows : rows_among b ≡ rows_among a) (errors : errors_among b ≡ errors_among a) where
  same_page : (page : Taken) → IsFetched page a → IsFetched page b
  same_page (SentRows l) k = (rows ∙ k.0, errors ∙ k.1)
  same_page (DroppedRows l e) k = (rows ∙ k.0, errors ∙ k.1)

  pub same_told : (pages : List Taken) → TellsFetch limit a pages → TellsFetch limit b pages
  same_told pages (inl k) = inl (k.0, k.1, same_page k.0 k.2, k.3)
  same_told pages (inr k) = inr (k.0, (rows ∙ k.1.0, (k.1.1.0, errors ∙ k.1.1.1)))

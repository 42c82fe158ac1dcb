-- What messages tell of a portal, gathered over a conversation by a table, joins to its items.
use Rattle.std.proofs.Common.{◌≡◌, ◌∙◌, ◌⊎◌, inl, inr, ℕ, Bool, List, [], ◌∷◌, ◌++◌, refl, ap, sym, append_assoc}
use Rattle.pg_messages.specs.declared.frontend.PgWireFrontendMessage.{PgWireFrontendMessage}
use Rattle.pg_portal.specs.Fetching.{items_to_come}
use Rattle.pg_results.specs.Rows.{RowItem}
use Rattle.pg_portal.specs.Told.{Stage, Unstarted, Started, Ended}
use Rattle.pg_client.specs.Answer.{Answer, Table, Next, Goes, Ends, Stops, left_by}
use Rattle.pg_replies.specs.Replies.{Replies}
use Rattle.pg_client.specs.State.{State}
use Rattle.conversation_laws.specs.Pages.{Taken, HasStarted, IsUnstarted, Leaves, TellsInTurn, TellsLater, WhileStarted, items_of, joined_items, stage_under}

joined_both : (first others : List Taken) → joined_items (first ++ others) ≡ joined_items first ++ joined_items others
joined_both [] others = refl
joined_both (page ∷ first) others = ap (λ l. items_of page ++ l) (joined_both first others)
    ∙ sym (append_assoc (items_of page) (joined_items first) (joined_items others))

while_started : (st : Stage) (pages : List Taken) (later : Type 0) → HasStarted st → later → WhileStarted st pages later
while_started Unstarted pages later k on = absurd k
while_started (Started r d) pages later k on = on
while_started (Ended d) pages later k on = on

once_gone : (st : Stage) (later : Type 0) → IsUnstarted st → WhileStarted st [] later
once_gone Unstarted later u = refl
once_gone (Started r d) later u = absurd u
once_gone (Ended d) later u = absurd u

-- what a message leaves: the portal with these items to come, or it is gone, or the conversation is over
abbrev pub LeavesOrGone : {S : Type 0} → List ℕ → List RowItem → Next (State S) → Type 0
LeavesOrGone name left (Goes t) = (HasStarted (stage_under t name) × (items_to_come (stage_under t name) ≡ left))
    ⊎ IsUnstarted (stage_under t name)
LeavesOrGone name left (Ends kind) = Unit {0}
LeavesOrGone name left Stops = Unit {0}

pub left_so : {S : Type 0} (name : List ℕ) (left : List RowItem) (next : Next (State S)) → Leaves name left next
    → LeavesOrGone name left next
left_so name left (Goes t) k = inl k
left_so name left (Ends kind) k = tt
left_so name left Stops k = tt

-- what one answer tells of the portal, and what it leaves
pub record Step {S : Type 0} (name : List ℕ) (tells : Replies → List Taken → Type 0) (items : List RowItem) (a : Answer (State S))
    : Type 0 where
  pub first : List Taken
  pub left : List RowItem
  pub told : tells a.replies first
  pub joined : items ≡ joined_items first ++ left
  pub leaves : LeavesOrGone name left a.next

module _ {S : Type 0} (name : List ℕ) (tells : State S → PgWireFrontendMessage → Replies → List Taken → Type 0)
    (table : Table (State S)) where
  -- what a conversation tells of the portal, and what is left of it
  pub record Joins (answers : List Bool) (s : State S) (messages : List PgWireFrontendMessage) (items : List RowItem) : Type 0 where
    pub pages : List Taken
    pub left : List RowItem
    pub told : TellsInTurn tells table name answers s messages pages left
    pub joined : items ≡ joined_items pages ++ left

  -- what holds of the other messages
  abbrev pub Follows : List PgWireFrontendMessage → Type 0
  Follows messages = (answers : List Bool) (s : State S) → HasStarted (stage_under s name)
      → Joins answers s messages (items_to_come (stage_under s name))

  -- the pages behind a message
  abbrev Later : List PgWireFrontendMessage → List Bool → Next (State S) → List RowItem → Type 0
  Later messages answers next items = (others : List Taken) × (left : List RowItem)
      × TellsLater name next others (λ t. TellsInTurn tells table name answers t messages others left)
      × (items ≡ joined_items others ++ left)

  later : (messages : List PgWireFrontendMessage) → Follows messages → (answers : List Bool) (next : Next (State S)) (items : List RowItem)
      → LeavesOrGone name items next → Later messages answers next items
  later messages on answers (Goes t) items (inl k) =
      let j = on answers t k.0 in
      (j.pages, j.left, while_started (stage_under t name) j.pages _ k.0 j.told, sym k.1 ∙ j.joined)
  later messages on answers (Goes t) items (inr u) = ([], items, once_gone (stage_under t name) _ u, refl)
  later messages on answers (Ends kind) items k = ([], items, refl, refl)
  later messages on answers Stops items k = ([], items, refl, refl)

  -- a message, and the others behind it
  pub step_joins : (answers : List Bool) (s : State S) (m : PgWireFrontendMessage) (messages : List PgWireFrontendMessage)
      (items : List RowItem)
      → Follows messages → Step name (tells s m) items (table answers s m) → Joins answers s (m ∷ messages) items
  step_joins answers s m messages items on k =
      let given = table answers s m in
      let l = later messages on (left_by given.calls answers) given.next k.left k.leaves in
      record {
        pages = k.first ++ l.0;
        left = l.1;
        told = (k.first, l.0, refl, k.told, l.2);
        joined = k.joined ∙ ap (λ x. joined_items k.first ++ x) l.3
            ∙ sym (ap (λ x. x ++ l.1) (joined_both k.first l.0) ∙ append_assoc (joined_items k.first) (joined_items l.0) l.1);
      }

  -- Where each message tells its part, so do all of them.
  pub follows : ((answers : List Bool) (s : State S) (m : PgWireFrontendMessage) → HasStarted (stage_under s name)
      → Step name (tells s m) (items_to_come (stage_under s name)) (table answers s m))
      → (messages : List PgWireFrontendMessage) → Follows messages
  follows step [] answers s k = record {
    pages = [];
    left = items_to_come (stage_under s name);
    told = (refl, refl);
    joined = refl;
  }
  follows step (m ∷ messages) answers s k =
      step_joins answers s m messages (items_to_come (stage_under s name)) (follows step messages) (step answers s m k)

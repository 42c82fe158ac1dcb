-- After an error all is dropped until Sync, and Sync is answered once.
use Rattle.std.proofs.Common.{◌≡◌, ◌∙◌, Bool, true, false, if◌then◌else◌, List, [], ◌∷◌, ◌++◌, refl, sym, ap, subst}
use Rattle.std.specs.List.{AllByRecursion}
use Rattle.pg_messages.specs.declared.extendedquery.PgSync.{PgSync}
use Rattle.pg_messages.specs.declared.frontend.PgWireFrontendMessage.{PgWireFrontendMessage}
use Rattle.pg_messages.specs.declared.frontend.PgWireFrontendMessage.TheVariants as client
use Rattle.pg_results.specs.declared.client.PgWireConnectionState.{PgWireConnectionState}
use Rattle.pg_results.specs.declared.client.PgWireConnectionState.TheVariants as phase
use Rattle.pg_results.specs.declared.error.PgWireError.{PgWireError}
use Rattle.pg_results.specs.Errors.{info_of}
use Rattle.pg_client.specs.declared.desk.DeskCall.{DeskCall}
use Rattle.pg_client.specs.declared.ends.EndKind.TheVariants as end
use Rattle.pg_client.specs.Answer.{Answer, Goes, Ends, conversation, continued, joined, left_by}
use Rattle.pg_client.specs.Effect.{Called, Scope, UntilSync, Outcome, Failed, settle, settled, after_error}
use Rattle.pg_client.specs.Errors.{is_fatal}
use Rattle.conversation_table.specs.Handlers.{Handlers}
use Rattle.pg_replies.specs.Replies.{Replies, error_reply}
use Rattle.pg_client.specs.State.{State}
use Rattle.conversation_table.specs.Table.{row, scope_in, whole_table, message_row}
use Rattle.conversation_laws.specs.Discarding.{IsDiscarded, IsOfExtendedQuery, IsOutsideCopy, EndsWithError, unchanged, synced, behind_sync}

-- an error whose scope is until Sync, fatal or not as told
told_error : {S : Type 0} (replies : Replies) (calls : List DeskCall) (t : State S) (e : PgWireError) (fatal : Bool)
    → is_fatal (info_of e) ≡ fatal
    → EndsWithError (info_of e) (if fatal
    then (let a : Answer (State S) = record {
      replies = replies ++ error_reply (info_of e) ∷ [];
      calls = calls;
      next = Ends end.Fatal;
    } in a)
    else (record {
      replies = replies ++ error_reply (info_of e) ∷ (after_error UntilSync t).0;
      calls = calls;
      next = Goes (after_error UntilSync t).1;
    }))
told_error replies calls t e true is = record { front = replies; replied = refl; follows = rw is refl }
told_error replies calls t e false is = record {
  front = replies;
  replied = refl;
  follows = rw is ((after_error UntilSync t).1, refl, refl);
}

pub error_ends : {S : Type 0} (replies : Replies) (calls : List DeskCall) (t : State S) (e : PgWireError)
    → EndsWithError (info_of e) (settled UntilSync replies calls (Failed t e))
error_ends replies calls t e = told_error replies calls t e (is_fatal (info_of e)) refl

module _ {S : Type 0} (h : Handlers S) where
  -- the answer of a row in a phase
  abbrev answer_in : List Bool → State S → PgWireFrontendMessage → PgWireConnectionState → Answer (State S)
  answer_in answers s m x = settle (scope_in x m) (row h answers s m x)

  pub extended_scope : (x : PgWireConnectionState) (m : PgWireFrontendMessage) → IsOfExtendedQuery x m → scope_in x m ≡ UntilSync
  extended_scope phase.ReadyForQuery (client.Query m) k = absurd k
  extended_scope phase.ReadyForQuery _ k = refl
  extended_scope (phase.CopyInProgress true) m k = refl
  extended_scope (phase.CopyInProgress false) m k = absurd k
  extended_scope phase.AwaitingStartup m k = absurd k
  extended_scope phase.AwaitingSync m k = absurd k

  settled_error : (c : Called S) (t : State S) (e : PgWireError) (scope : Scope) → scope ≡ UntilSync
      → (o : Outcome S) → o ≡ Failed t e → EndsWithError (info_of e) (settled scope c.effect.replies c.calls o)
  settled_error c t e scope is o was = rw (is, was) (error_ends c.effect.replies c.calls t e)

  pub ends_with_error : (answers : List Bool) (s t : State S) (m : PgWireFrontendMessage) (e : PgWireError)
      → IsOfExtendedQuery s.info.state m → (message_row h answers s m).effect.outcome ≡ Failed t e
      → EndsWithError (info_of e) (whole_table h answers s m)
  ends_with_error answers s t m e k was =
      settled_error (message_row h answers s m) t e (scope_in s.info.state m) (extended_scope s.info.state m k)
      (message_row h answers s m).effect.outcome was

  dropped : (answers : List Bool) (s : State S) (m : PgWireFrontendMessage) → IsDiscarded m
      → answer_in answers s m phase.AwaitingSync ≡ unchanged s
  dropped answers s (client.PgSync m) d = absurd d
  dropped answers s (client.Terminate m) d = absurd d
  dropped answers s _ d = refl

  pub one_dropped : (answers : List Bool) (s : State S) (m : PgWireFrontendMessage) → s.info.state ≡ phase.AwaitingSync → IsDiscarded m
      → whole_table h answers s m ≡ unchanged s
  one_dropped answers s m q d = ap (answer_in answers s m) q ∙ dropped answers s m d

  -- what follows an unchanged state
  goes_on : (answers : List Bool) (s : State S) (messages : List PgWireFrontendMessage) (a : Answer (State S)) → a ≡ unchanged s
      → continued a a.next (λ t. conversation (whole_table h) (left_by a.calls answers) t messages)
      ≡ conversation (whole_table h) answers s messages
  goes_on answers s messages a is = rw is refl

  pub all_dropped_before : (answers : List Bool) (s : State S) (messages others : List PgWireFrontendMessage)
      → s.info.state ≡ phase.AwaitingSync
      → AllByRecursion IsDiscarded messages
      → conversation (whole_table h) answers s (messages ++ others) ≡ conversation (whole_table h) answers s others
  all_dropped_before answers s [] others q d = refl
  all_dropped_before answers s (m ∷ messages) others q d =
      goes_on answers s (messages ++ others) (whole_table h answers s m) (one_dropped answers s m q d.0)
      ∙ all_dropped_before answers s messages others q d.1

  pub all_dropped : (answers : List Bool) (s : State S) (messages : List PgWireFrontendMessage) → s.info.state ≡ phase.AwaitingSync
      → AllByRecursion IsDiscarded messages → conversation (whole_table h) answers s messages ≡ unchanged s
  all_dropped answers s [] q d = refl
  all_dropped answers s (m ∷ messages) q d =
      goes_on answers s messages (whole_table h answers s m) (one_dropped answers s m q d.0) ∙ all_dropped answers s messages q d.1

  synced_in : (answers : List Bool) (s : State S) (m : PgSync) (x : PgWireConnectionState) → IsOutsideCopy x
      → answer_in answers s (client.PgSync m) x ≡ synced s
  synced_in answers s m phase.ReadyForQuery k = refl
  synced_in answers s m phase.AwaitingSync k = refl
  synced_in answers s m phase.AwaitingStartup k = absurd k
  synced_in answers s m (phase.CopyInProgress is_extended) k = absurd k

  pub answered_once : (answers : List Bool) (s : State S) (m : PgSync) → IsOutsideCopy s.info.state
      → whole_table h answers s (client.PgSync m) ≡ synced s
  answered_once answers s m k = synced_in answers s m s.info.state k

  pub dropped_in_copy : (answers : List Bool) (s : State S) (m : PgSync) (is_extended : Bool)
      → s.info.state ≡ phase.CopyInProgress is_extended → whole_table h answers s (client.PgSync m) ≡ unchanged s
  dropped_in_copy answers s m is_extended q = ap (answer_in answers s (client.PgSync m)) q

  pub answered_after_error : (answers : List Bool) (s : State S) (m : PgSync) → s.info.state ≡ phase.AwaitingSync
      → whole_table h answers s (client.PgSync m) ≡ synced s
  answered_after_error answers s m q = answered_once answers s m (subst IsOutsideCopy (sym q) tt)

  -- a first message is answered by a Sync, and the others behind it
  synced_before : (answers : List Bool) (s : State S) (others : List PgWireFrontendMessage) (a : Answer (State S)) → a ≡ synced s
      → continued a a.next (λ t. conversation (whole_table h) (left_by a.calls answers) t others)
      ≡ joined (synced s) (conversation (whole_table h) answers (behind_sync s) others)
  synced_before answers s others a is = rw is refl

  pub no_longer : (answers : List Bool) (s : State S) (messages others : List PgWireFrontendMessage) (m : PgSync)
      → s.info.state ≡ phase.AwaitingSync → AllByRecursion IsDiscarded messages
      → conversation (whole_table h) answers s (messages ++ client.PgSync m ∷ others)
      ≡ joined (synced s) (conversation (whole_table h) answers (behind_sync s) others)
  no_longer answers s messages others m q d =
      all_dropped_before answers s messages (client.PgSync m ∷ others) q d
      ∙ synced_before answers s others (whole_table h answers s (client.PgSync m)) (answered_after_error answers s m q)

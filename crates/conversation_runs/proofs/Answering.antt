-- The answer of a message is that of its row, and of what follows its error.
use Rattle.std.proofs.Common.{◌≡◌, ◌≢◌, ℕ, inl, inr, Bool, true, false, if◌then◌else◌, List, [], ◌∷◌, ◌++◌, Option, Some, None, Result, Ok, Err, IfOk, OnOk, refl, sym, ap, ◌∙◌, append_assoc, append-nil}
use Rattle.pg_messages.specs.declared.frontend.PgWireFrontendMessage.{PgWireFrontendMessage}
use Rattle.pg_messages.specs.Replies.{replies_bytes}
use Rattle.pg_results.specs.declared.error.PgWireError.{PgWireError}
use Rattle.pg_results.specs.declared.error.PgWireError.TheVariants as wire
use Rattle.pg_results.specs.Errors.{info_of}
use Rattle.pg_client.specs.declared.desk.DeskCall.{DeskCall}
use Rattle.pg_client.specs.declared.ends.EndKind.{EndKind}
use Rattle.pg_client.specs.declared.ends.EndKind.TheVariants as end
use Rattle.pg_client.specs.declared.ends.SessionError.TheVariants as session
use Rattle.pg_client.specs.Answer.{Answer, Next, Goes, Ends, answers_of}
use Rattle.pg_client.specs.Effect.{Scope, Outcome, Done, Failed, Over, Stopped, IsRow, IsStoppedRow, IsCutRow, IsRefusedRow, after_error, failed, settled}
use Rattle.pg_client.specs.Errors.{is_fatal}
use Rattle.conversation_table.specs.Handlers.{Handlers}
use Rattle.conversation_table.specs.Lawful.{IsLawful}
use Rattle.pg_replies.specs.Replies.{Replies, error_reply}
use Rattle.pg_client.specs.State.{State}
use Rattle.conversation_table.specs.Table.{message_row, whole_table, scope_in, awaits}
use Rattle.conversation_table.proofs.Awaiting.{row_keeps}
use Rattle.conversation_table.proofs.Steady.{row_same, settled_row_takes}
use Rattle.pg_client.specs.Ends.{outcome_of}
use Rattle.conversation_runs.specs.Messages.{next_of}
use Rattle.conversation_runs.specs.declared.ends.ServeError.{ServeError}
use Rattle.conversation_runs.specs.Session.{goes_on}
use Rattle.conversation_runs.specs.Steps.{IsAnswered, IsCutAnswer, IsStoppedAnswer}
use Rattle.conversation_runs.proofs.ReplyBytes.{replies_bytes-append}

-- the whole table is lawful
pub whole_lawful : {S : Type 0} (h : Handlers S) → IsLawful (whole_table h) awaits
whole_lawful h = record {
  same = λ answers more s m made. row_same h answers more s (scope_in s.info.state m) m s.info.state made;
  taken = λ answers s m. settled_row_takes h answers [] s (scope_in s.info.state m) m s.info.state;
  follows = λ answers s t m e. row_keeps h answers s t m s.info.state refl e;
}

-- ---- what an outcome comes to

-- these replies behind those of a row, and what comes next
abbrev with_more : {S : Type 0} → Replies → List DeskCall → Replies → Next (State S) → Answer (State S)
with_more replies calls more next = record { replies = replies ++ more; calls = calls; next = next }

-- What follows an outcome says this, and then the conversation stands here.
abbrev Follows : {S : Type 0} → Scope → Outcome S → Replies → Next (State S) → Type 0
Follows scope outcome more next = (replies : Replies) (calls : List DeskCall)
    → settled scope replies calls outcome ≡ with_more replies calls more next

nothing_follows : {S : Type 0} (replies : Replies) (calls : List DeskCall) (next : Next (State S))
    → (let a : Answer (State S) = record { replies = replies; calls = calls; next = next } in a) ≡ with_more replies calls [] next
nothing_follows replies calls next = λ i. record { replies = sym (append-nil replies) i; calls = calls; next = next }

end_follows : {S : Type 0} (scope : Scope) (e : Option EndKind) (t : State S) → Follows scope (outcome_of e t) [] (next_of e t)
end_follows scope None t replies calls = nothing_follows replies calls (Goes t)
end_follows scope (Some kind) t replies calls = nothing_follows replies calls (Ends kind)

-- an answer with replies before it
abbrev answer_of : {S : Type 0} → Replies → List DeskCall → Next (State S) → Answer (State S)
answer_of replies calls next = record { replies = replies; calls = calls; next = next }

either_follows : {S : Type 0} (b : Bool) (replies : Replies) (calls : List DeskCall) (x y : Replies) (n m : Next (State S))
    → (if b then answer_of (replies ++ x) calls n else answer_of (replies ++ y) calls m)
    ≡ with_more replies calls (if b then answer_of ([] ++ x) [] n else answer_of ([] ++ y) [] m).replies (if b then answer_of
    ([] ++ x) [] n else answer_of ([] ++ y) [] m).next
either_follows true replies calls x y n m = refl
either_follows false replies calls x y n m = refl

error_follows : {S : Type 0} (scope : Scope) (t : State S) (e : PgWireError) → Follows scope (Failed t e)
    (failed scope [] [] t (info_of e)).replies (failed scope [] [] t (info_of e)).next
error_follows scope t e replies calls = either_follows (is_fatal (info_of e)) replies calls
    (error_reply (info_of e) ∷ []) (error_reply (info_of e) ∷ (after_error scope t).0) (Ends end.Fatal) (Goes (after_error scope t).1)

failed_calls : {S : Type 0} (b : Bool) (x y : Replies) (calls : List DeskCall) (n m : Next (State S))
    → (if b then answer_of x calls n else answer_of y calls m).calls ≡ calls
failed_calls true x y calls n m = refl
failed_calls false x y calls n m = refl

settled_calls : {S : Type 0} (scope : Scope) (replies : Replies) (calls : List DeskCall) (outcome : Outcome S)
    → (settled scope replies calls outcome).calls ≡ calls
settled_calls scope replies calls (Done t) = refl
settled_calls scope replies calls (Failed t e) = failed_calls (is_fatal (info_of e)) (replies ++ error_reply (info_of e) ∷ [])
    (replies ++ error_reply (info_of e) ∷ (after_error scope t).0) calls (Ends end.Fatal) (Goes (after_error scope t).1)
settled_calls scope replies calls (Over kind) = refl
settled_calls scope replies calls Stopped = refl

-- ---- a row, and the answer of its message

module _ {S : Type 0} (h : Handlers S) (s : State S) (m : PgWireFrontendMessage) (calls new_calls : List DeskCall) where
  -- a row, and what follows its outcome
  row_followed : (out mid new : List ℕ) (outcome : Outcome S) (more : Replies) (next : Next (State S))
      → IsRow (λ answers. message_row h answers s m) out mid calls new_calls outcome
      → new ≡ mid ++ replies_bytes more → Follows (scope_in s.info.state m) outcome more next
      → IsAnswered (whole_table h) s m out new calls new_calls next
  row_followed out mid new outcome more next x e follows =
      let c = message_row h (answers_of x.made) s m in
      let whole : whole_table h (answers_of x.made) s m ≡ with_more c.effect.replies c.calls more next =
      ap (λ o. settled (scope_in s.info.state m) c.effect.replies c.calls o) x.effect.came ∙ follows c.effect.replies c.calls in
      let own : (whole_table h (answers_of x.made) s m).calls ≡ x.made = ap (λ a. a.calls) whole ∙ x.own in
      record {
        made = x.made;
        own = own;
        carried = record {
          replied = record {
            bytes = e ∙ ap (λ l. l ++ replies_bytes more) x.effect.replied
                ∙ append_assoc out (replies_bytes c.effect.replies) (replies_bytes more)
                ∙ ap (λ l. out ++ l) (sym (replies_bytes-append c.effect.replies more))
                ∙ ap (λ a. out ++ replies_bytes a.replies) (sym whole);
          };
          called = x.called ∙ ap (λ l. calls ++ l) (sym own);
          goes_on = ap (λ a. a.next) whole;
        };
      }

  -- a message that met no error
  pub answered_by_row : (out new : List ℕ) (e : Option EndKind) (t : State S)
      → IsRow (λ answers. message_row h answers s m) out new calls new_calls (outcome_of e t)
      → IsAnswered (whole_table h) s m out new calls new_calls (next_of e t)
  answered_by_row out new e t x = row_followed out new new (outcome_of e t) [] (next_of e t) x (sym (append-nil new)) (end_follows
      (scope_in s.info.state m) e t)

  -- a message that met an error, which was told
  pub answered_by_error : (out mid new : List ℕ) (t : State S) (e : PgWireError) (scope : Scope) (next : Next (State S))
      → IsRow (λ answers. message_row h answers s m) out mid calls new_calls (Failed t e)
      → scope ≡ scope_in s.info.state m → new ≡ mid ++ replies_bytes (failed scope [] [] t (info_of e)).replies
      → (failed scope [] [] t (info_of e)).next ≡ next
      → IsAnswered (whole_table h) s m out new calls new_calls next
  answered_by_error out mid new t e scope next x same replied goes_on =
      row_followed out mid new (Failed t e) (failed scope [] [] t (info_of e)).replies next x replied
      (λ replies k. ap (λ z. settled z replies k (Failed t e)) (sym same) ∙ error_follows scope t e replies k
      ∙ ap (λ n. with_more replies k (failed scope [] [] t (info_of e)).replies n) goes_on)

  pub cut_row : IsCutRow (λ answers. message_row h answers s m) calls new_calls → IsCutAnswer (whole_table h) s m calls new_calls
  cut_row x =
      let c = message_row h (answers_of x.made) s m in
      record {
        made = x.made;
        front = (x.front.0, settled_calls (scope_in s.info.state m) c.effect.replies c.calls c.effect.outcome ∙ x.front.1);
        grown = x.grown;
      }

  -- What follows the row's error was cut off.
  pub cut_behind_row : (out mid : List ℕ) (outcome : Outcome S)
      → IsRow (λ answers. message_row h answers s m) out mid calls new_calls outcome
      → IsCutAnswer (whole_table h) s m calls new_calls
  cut_behind_row out mid outcome x = cut_row (record { made = x.made; front = ([], x.own ∙ sym (append-nil x.made)); grown = x.called })

  pub cut_behind_stopped : (out mid : List ℕ) → IsStoppedRow (λ answers. message_row h answers s m) out mid calls new_calls
      → IsCutAnswer (whole_table h) s m calls new_calls
  cut_behind_stopped out mid x = cut_row (record { made = x.made; front = ([], x.own ∙ sym (append-nil x.made)); grown = x.called })

  pub stopped_row : (out mid : List ℕ) → IsStoppedRow (λ answers. message_row h answers s m) out mid calls new_calls
      → IsStoppedAnswer (whole_table h) s m calls new_calls
  stopped_row out mid x =
      let c = message_row h (answers_of x.made) s m in
      record {
        made = x.made;
        own = settled_calls (scope_in s.info.state m) c.effect.replies c.calls c.effect.outcome ∙ x.own;
        stops = ap (λ o. (settled (scope_in s.info.state m) c.effect.replies c.calls o).next) x.effect.came;
        asks = λ yes.
            let next = message_row h (answers_of x.made ++ yes ∷ []) s m in
            ((x.asks yes).0, settled_calls (scope_in s.info.state m) next.effect.replies next.calls next.effect.outcome ∙ (x.asks yes).1);
        grown = x.called;
      }

  -- memory is wanting
  pub cut_refused : (out mid : List ℕ) (t : State S) (e : PgWireError)
      → IsRefusedRow (λ answers. message_row h answers s m) out mid calls new_calls t (session.Wire e)
      → IsCutAnswer (whole_table h) s m calls new_calls
  cut_refused out mid t e (inl x) = cut_row x.1
  cut_refused out mid t e (inr x) = cut_behind_row out mid (Failed t e) x

  -- an error other than want of memory
  pub row_where_told : (out mid : List ℕ) (t : State S) (e : PgWireError) → e ≢ wire.NoMemory
      → IsRefusedRow (λ answers. message_row h answers s m) out mid calls new_calls t (session.Wire e)
      → IsRow (λ answers. message_row h answers s m) out mid calls new_calls (Failed t e)
  row_where_told out mid t e ne (inl x) = absurd (ne x.0)
  row_where_told out mid t e ne (inr x) = x

  -- the same with what follows it, where it was told
  pub answered_where_told : (out mid new : List ℕ) (t n : State S) (e : PgWireError) (scope : Scope)
      (result : Result (Option EndKind) ServeError)
      → IsRefusedRow (λ answers. message_row h answers s m) out mid calls new_calls t (session.Wire e)
      → scope ≡ scope_in s.info.state m → OnOk result (e ≢ wire.NoMemory)
      → OnOk result (new ≡ mid ++ replies_bytes (failed scope [] [] t (info_of e)).replies)
      → IfOk result (λ end. (failed scope [] [] t (info_of e)).next ≡ next_of end n)
      → IfOk result (λ end. IsAnswered (whole_table h) s m out new calls new_calls (next_of end n))
  answered_where_told out mid new t n e scope (Ok end) refused same known replied goes_on = answered_by_error out mid new t e scope
      (next_of end n) (row_where_told out mid t e known refused) same replied goes_on
  answered_where_told out mid new t n e scope (Err error) refused same known replied goes_on = tt

-- Bytes of a frame that is no command: the session answers them as the cursor table says.
use Rattle.std.proofs.Common.{◌≡◌, ℕ, ◌<◌, Bool, true, false, if◌then◌else◌, List, [], ◌⊎◌, inl, inr, Option, None, refl, sym, ap, subst, ◌∙◌, append-nil, arith}
use Rattle.pg_messages.specs.declared.frontend.PgWireFrontendMessage.{PgWireFrontendMessage}
use Rattle.pg_messages.specs.Frames.{IsFrame, IsUnfinished}
use Rattle.pg_client.specs.declared.desk.DeskCall.{DeskCall}
use Rattle.pg_client.specs.Answer.{Table, Next, Goes, Ends, Stops, answers_of, conversation}
use Rattle.conversation_table.specs.Handlers.{Handlers}
use Rattle.pg_client.specs.State.{State}
use Rattle.conversation_table.specs.Table.{whole_table, awaits}
use Rattle.conversation_runs.specs.Session.{whole_rules}
use Rattle.conversation_runs.specs.Steps.{IsServed}
use Rattle.conversation_runs.proofs.Pieces.{conversation-one}
use Rattle.cursor_table.specs.CursorTable.{cursor_table, row_by, asked_command, is_ready}
use Rattle.cursor_session.specs.Fronts.{IsBegun}
use Rattle.cursor_session.proofs.Divisions.{divides_cut, HasOne, has_one}
use Rattle.cursor_session.proofs.Alike.{AreAlike}

same_row : {T : Type 0} (table : Table T) (answers : List Bool) (s : T) (m : PgWireFrontendMessage) (ready : Bool)
    → (ready ≡ true → asked_command m ≡ None)
    → (if ready then row_by table answers s m (asked_command m) else table answers s m) ≡ table answers s m
same_row table answers s m true none = ap (λ c. row_by table answers s m c) (none refl)
same_row table answers s m false none = refl

module _ {S : Type 0} (h : Handlers S) (s : State S) (text : List ℕ) (owed : ℕ) (begun : IsBegun s.info.state text owed) where
  pub alike_begun : AreAlike (whole_table h) (cursor_table is_ready (whole_table h)) awaits s text
  alike_begun ms rest d answers = by (has_one (awaits s) text owed ms rest begun.told d)
    where
      by : HasOne (awaits s) text owed ms rest
          → conversation (whole_table h) answers s ms ≡ conversation (cursor_table is_ready (whole_table h)) answers s ms
      by (inl none) =
          subst (λ l. conversation (whole_table h) answers s l ≡ conversation (cursor_table is_ready (whole_table h)) answers s l)
          (sym none.0) refl
      by (inr one) =
          subst (λ l. conversation (whole_table h) answers s l ≡ conversation (cursor_table is_ready (whole_table h)) answers s l)
          (sym one.1)
          (conversation-one (whole_table h) answers s one.0
          ∙ sym (same_row (whole_table h) answers s one.0 (is_ready s)
          (begun.plain [] one.0 (subst (λ l. IsFrame (awaits s) l one.0) (sym (append-nil text)) one.2)))
          ∙ sym (conversation-one (cursor_table is_ready (whole_table h)) answers s one.0))

  -- where the front stands behind such bytes
  abbrev pub StandsBehind : State S → List ℕ → Type 0
  StandsBehind t rest = ((owed ≡ 0) × (rest ≡ [])) ⊎ ((0 < owed) × IsBegun t.info.state rest owed)

  abbrev state_or : State S → Next (State S) → State S
  state_or other (Goes u) = u
  state_or other (Ends kind) = other
  state_or other Stops = other

  owes_more : IsUnfinished (awaits s) text → 0 < owed
  owes_more short =
      elim short [
        | inl small ↦ absurd (omega (arith, small, begun.header))
        | inr w ↦ (let told = begun.told w.1 in let far = w.2 in omega (arith, told, far))
      ]

  pub stands_behind : (t : State S) (rest : List ℕ) (next : Next (State S)) (w v : Option (List ℕ)) (o p : List ℕ) (k l : List DeskCall)
      → IsServed (whole_rules h) s text rest next w v o p k l → next ≡ Goes t → IsUnfinished (awaits t) rest → StandsBehind t rest
  stands_behind t rest next w v o p k l x goes short =
      by (has_one (awaits s) text owed (x.fed []).messages rest begun.told
      (divides_cut (x.fed []).messages (awaits s) text rest [] (x.fed []).division))
    where
      by : HasOne (awaits s) text owed (x.fed []).messages rest → StandsBehind t rest
      by (inl none) =
          let first : Goes s ≡ Goes t =
          ap (λ l. (conversation (whole_table h) (answers_of x.called) s l).next) (sym none.0)
          ∙ (ap (λ a. a.next) (x.fed []).answered ∙ goes) in
          let same : s ≡ t = ap (state_or s) first in
          let here : IsUnfinished (awaits s) text = subst (λ u. IsUnfinished (awaits u) text) (sym same)
          (subst (λ l. IsUnfinished (awaits t) l) (sym none.1) short) in
          inr (owes_more here, subst (λ l. IsBegun t.info.state l owed) none.1 (subst (λ u. IsBegun u.info.state text owed) same begun))
      by (inr one) = inl (one.4, one.3)

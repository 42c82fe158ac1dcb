-- A conversation over relations stays in states in which relations are served, outside of a COPY, and tells the errors of such states.
use Rattle.std.proofs.Common.{arith, ◌≡◌, ◌∙◌, ◌++◌, ◌⊎◌, inl, inr, ℕ, ℤ, Bool, true, false, if◌then◌else◌, List, [], ◌∷◌, Some, None, refl, sym, ap, subst}
use Rattle.std.proofs.Math.Path.{ap₂}
use Rattle.std.proofs.lemmas.List.Elements.{Contains-append_cases}
use Rattle.std.specs.Cmp.Lexicographic.{slice_cmp}
use Rattle.std.specs.Ordering.{nat_cmp}
use Rattle.std.specs.List.{Contains}
use Rattle.std.specs.FinMap as fin
use Rattle.pg_messages.specs.declared.response.ErrorInfo.{ErrorInfo}
use Rattle.pg_messages.specs.declared.frontend.PgWireFrontendMessage.{PgWireFrontendMessage}
use Rattle.pg_results.specs.declared.error.PgWireError.TheVariants as wire
use Rattle.pg_portal.specs.declared.store.Entry.{Entry}
use Rattle.pg_results.specs.Errors.{info_of}
use Rattle.pg_portal.specs.Told.{TablePortal, value_under}
use Rattle.pg_client.specs.declared.desk.DeskCall.{DeskCall}
use Rattle.pg_client.specs.declared.ends.EndKind.TheVariants as end
use Rattle.pg_client.specs.Answer.{Answer, Next, Goes, Ends, Stops, continued, conversation, left_by}
use Rattle.pg_client.specs.Effect.{Scope, UntilSync, AnswersReady, Outcome, Done, Failed, Over, Stopped, settled, after_error}
use Rattle.pg_client.specs.Errors.{is_fatal}
use Rattle.pg_replies.specs.Replies.{Replies, error_reply}
use Rattle.pg_client.specs.State.{first_state}
use Rattle.conversation_table.specs.Table.{message_row, scope_in, whole_table}
use Rattle.relation_tables.specs.declared.Relation.{Relation}
use Rattle.relation_tables.specs.declared.RelationStatement.{RelationStatement}
use Rattle.relation_tables.specs.RelationHandler.{relation_handlers}
use Rattle.relation_laws.specs.Told.{errors_among, served_codes}
use Rattle.relation_laws.specs.Causes.{IsInCopy}
use Rattle.relation_laws.specs.Served.{IsServed}
use Rattle.relation_laws.proofs.ErrorKinds as kind
use Rattle.relation_laws.proofs.ErrorKinds.{Kind, IsOf, CauseOf, severity_of, code_of, same_kind}
use Rattle.relation_laws.proofs.Rows.{Talk, OutsideCopy, Keeps, errors_append, row_is}
use Rattle.relation_laws.proofs.Refusals.{explained}

-- a kind that is told outside of a COPY
abbrev IsOutside : Kind → Type 0
IsOutside kind.CopyFail = ⊥
IsOutside kind.CopyData = ⊥
IsOutside _ = Unit {0}

abbrev pub IsToldOutside : ErrorInfo → Type 0
IsToldOutside info = (k : Kind) × IsOutside k × IsOf k info

abbrev TellsOutside : Replies → Type 0
TellsOutside replies = (info : ErrorInfo) → Contains (errors_among replies) info → IsToldOutside info

tell_both : (x y : Replies) → TellsOutside x → TellsOutside y → TellsOutside (x ++ y)
tell_both x y a b info at = by_part (Contains-append_cases (errors_among x) (errors_among y) info
    (subst (λ l. Contains l info) (errors_append x y) at))
  where
    by_part : Contains (errors_among x) info ⊎ Contains (errors_among y) info → IsToldOutside info
    by_part (inl at) = a info at
    by_part (inr at) = b info at

module _ (relations : List Relation) where
  abbrev table : List Bool → Talk → PgWireFrontendMessage → Answer Talk
  table = whole_table (relation_handlers relations)

  abbrev IsGood : Talk → Type 0
  IsGood t = IsServed relations t × OutsideCopy t.info.state

  abbrev pub NextIs : Next Talk → Type 0
  NextIs (Goes t) = IsGood t
  NextIs (Ends x) = Unit {0}
  NextIs Stops = Unit {0}

  abbrev pub RunIs : Answer Talk → Type 0
  RunIs a = TellsOutside a.replies × NextIs a.next

  -- ---- a step

  module _ (answers : List Bool) (s : Talk) (g : IsServed relations s) (outside : OutsideCopy s.info.state) where
    after_is : (scope : Scope) (t : Talk) (e : _) → Keeps relations answers s g (Failed t e) → IsGood (after_error scope t).1
    after_is UntilSync t e k = (record { portals = k; startup = λ w. let f : ⊥ = cc in absurd f }, tt)
    after_is AnswersReady t e k = (record { portals = k; startup = λ w. let f : ⊥ = cc in absurd f }, tt)

    failed_next : (b : Bool) (replies after : Replies) (calls : List DeskCall) (t : Talk) (info : ErrorInfo) → IsGood t
        → NextIs (if b then (let a : Answer Talk = record {
          replies = replies ++ error_reply info ∷ [];
          calls = calls;
          next = Ends end.Fatal;
        } in a)
        else (record { replies = replies ++ error_reply info ∷ after; calls = calls; next = Goes t })).next
    failed_next true replies after calls t info h = tt
    failed_next false replies after calls t info h = h

    settled_next : (scope : Scope) (replies : Replies) (calls : List DeskCall) (o : Outcome RelationStatement)
        → Keeps relations answers s g o
        → NextIs (settled scope replies calls o).next
    settled_next scope replies calls (Done t) k = (k.0, k.1 outside)
    settled_next scope replies calls (Failed t e) k =
        failed_next (is_fatal (info_of e)) replies (after_error scope t).0 calls (after_error scope t).1
        (info_of e) (after_is scope t e k)
    settled_next scope replies calls (Over x) k = tt
    settled_next scope replies calls Stopped k = tt

    no_copy : IsInCopy s → ⊥
    no_copy (is_extended, q) = subst OutsideCopy q outside

    outside_kind : (m : PgWireFrontendMessage) (k : Kind) → CauseOf k relations answers s m → IsOutside k
    outside_kind m kind.CopyFail h = no_copy h.0
    outside_kind m kind.CopyData h = no_copy h.0
    outside_kind m _ h = tt

    step_is : (m : PgWireFrontendMessage) → RunIs (table answers s m)
    step_is m =
        let c = message_row (relation_handlers relations) answers s m in (
          λ info at. let found = explained relations answers s g m info at in (found.0, outside_kind m found.0 found.1, found.2),
          settled_next (scope_in s.info.state m) c.effect.replies c.calls c.effect.outcome (row_is relations answers s g m).2,
        )

  -- ---- a conversation

  continued_is : (a : Answer Talk) (n : Next Talk) → a.next ≡ n → (others : Talk → Answer Talk) → TellsOutside a.replies → NextIs n
      → ((t : Talk) → IsGood t → RunIs (others t)) → RunIs (continued a n others)
  continued_is a (Goes t) e others h g k = let behind = k t g in (tell_both a.replies (others t).replies h behind.0, behind.1)
  continued_is a (Ends x) e others h g k = (h, subst NextIs (sym e) tt)
  continued_is a Stops e others h g k = (h, subst NextIs (sym e) tt)

  run_is : (answers : List Bool) (s : Talk) (messages : List PgWireFrontendMessage) → IsGood s
      → RunIs (conversation table answers s messages)
  run_is answers s [] g = ((λ info at. absurd (omega (arith, at.1))), g)
  run_is answers s (m ∷ messages) g =
      let given = table answers s m in
      let first = step_is answers s g.0 g.1 m in
      continued_is given given.next refl (λ t. conversation table (left_by given.calls answers) t messages) first.0 first.1
      (λ t h. run_is (left_by given.calls answers) t messages h)

  none_yet : (name : List ℕ) → fin.get {X = Entry (TablePortal RelationStatement)} {R = slice_cmp nat_cmp} fin.empty name ≡ None
  none_yet name = fin.get-empty {X = Entry (TablePortal RelationStatement)} (slice_cmp nat_cmp) name

  first_is : (pid : ℤ) (key : List ℕ) → IsGood (first_state pid key)
  first_is pid key = (
    record {
      portals = λ name p e. let none : value_under {T = TablePortal RelationStatement} None ≡ Some p =
          sym (ap value_under (none_yet name)) ∙ e in
          let f : ⊥ = cc in absurd f;
      startup = λ w name. none_yet name;
    },
    tt,
  )

  pub talk_is : (pid : ℤ) (key : List ℕ) (answers : List Bool) (messages : List PgWireFrontendMessage)
      → RunIs (conversation table answers (first_state pid key) messages)
  talk_is pid key answers messages = run_is answers (first_state pid key) messages (first_is pid key)

  pub stays_served : (pid : ℤ) (key : List ℕ) (answers : List Bool) (messages : List PgWireFrontendMessage) (s : Talk)
      → (conversation table answers (first_state pid key) messages).next ≡ Goes s → IsServed relations s × (IsInCopy s → ⊥)
  stays_served pid key answers messages s e =
      let good : IsGood s = subst NextIs e (talk_is pid key answers messages).1 in
      (good.0, λ (is_extended, q). subst OutsideCopy q good.1)

-- ---- what is told

kind_served : (k : Kind) → IsOutside k → Contains served_codes (severity_of k, code_of k)
kind_served kind.Version h = (0, omega arith, refl)
kind_served kind.Statement h = (1, omega arith, refl)
kind_served kind.Portal h = (2, omega arith, refl)
kind_served kind.Protocol h = (3, omega arith, refl)
kind_served kind.Relation h = (4, omega arith, refl)
kind_served kind.Cancel h = (5, omega arith, refl)
kind_served kind.Style h = (6, omega arith, refl)
kind_served kind.CopyFail h = absurd h
kind_served kind.CopyData h = absurd h

pub served_code : (info : ErrorInfo) → IsToldOutside info → Contains served_codes (info.severity, info.code)
served_code info (k, h, is) = subst (λ (p : List ℕ × List ℕ). Contains served_codes p) (ap₂ (λ a b. (a, b)) (sym is.severity) (sym is.code))
    (kind_served k h)

pub never_early : IsToldOutside (info_of wire.NotReadyForQuery) → ⊥
never_early (k, h, is) = is.letter refl

pub never_unstarted : IsToldOutside (info_of wire.PortalNotStarted) → ⊥
never_unstarted (k, h, is) = subst IsOutside (same_kind k kind.CopyFail (sym is.severity) (sym is.code)) h

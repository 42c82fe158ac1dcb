use Rattle.std.proofs.Common.{◌≡◌, ◌<◌, ◌++◌, ◌∙◌, ℕ, List, [], ◌∷◌, length, true, false, ◌≤◌, arith, inl, inr, refl, sym, ap, subst}
use Rattle.std.proofs.lemmas.List.{append-nil}
use Rattle.std.proofs.lemmas.Result.{err_from_is_err_and}
use Rattle.pg_messages.specs.declared.extendedquery.Bind.{Bind}
use Rattle.pg_messages.specs.Replies.{replies_bytes}
use Rattle.pg_results.specs.Describing.{is_empty_list}
use Rattle.pg_results.specs.declared.error.PgWireError.{PgWireError}
use Rattle.pg_results.specs.declared.error.PgWireError.TheVariants as wire
use Rattle.pg_portal.specs.declared.store.Entry.TheVariants as entry
use Rattle.pg_client.specs.Effect.{Done, IsEffect, IsRefusedEffect}
use Rattle.pg_client.specs.Errors.{values_for_empty}
use Rattle.pg_client.specs.State.{State, state_of, with_portal}
use Rattle.conversation_table.specs.ExtendedRows.{bind_complete, bound_empty}
use Rattle.conversation_table.specs.Good.{IsGoodState}
use Rattle.conversation_table.proofs.GoodStores.{good_with_empty_portal}
use Rattle.pg_handlers.proofs.query.statements.bind_empty.Goals as goal

some_values : {A : Type 0} (xs : List A) → 0 < length xs → is_empty_list xs ≡ false
some_values [] more = absurd (omega (arith, more))
some_values (x ∷ xs) more = refl

no_values : {A : Type 0} (xs : List A) → length xs ≤ 0 → is_empty_list xs ≡ true
no_values [] none = refl
no_values (x ∷ xs) none = absurd (omega (arith, none))

module _ {S : Type 0} (s : State S) (m : Bind) (out : List ℕ) where
  values_refused : (e : PgWireError) → 0 < length m.parameters
      → e ≡ wire.UserError (values_for_empty (length m.parameters) m.statement_name) → IsRefusedEffect (bound_empty s m) out out s e
  values_refused e more is = rw (is, some_values m.parameters more) (inr (record { replied = sym (append-nil out); came = refl }))

  empty_bound : (name new_out : List ℕ) (t : State S) → length m.parameters ≤ 0 → name ≡ m.portal_name
      → t ≡ with_portal s name entry.Empty → new_out ≡ out ++ replies_bytes bind_complete
      → IsEffect (bound_empty s m) out new_out (Done t)
  empty_bound name new_out t none named put replied = rw (no_values m.parameters none) (record {
    replied = replied;
    came = ap Done (ap (λ n. with_portal s n entry.Empty) (sym named) ∙ sym put);
  })

pub returns-in_err-values_for_empty : goal.returns-in_err-values_for_empty
returns-in_err-values_for_empty g c =
    let p = err_from_is_err_and c.from_residual.result c.from_residual.ensures.1 in
    rw p.1 (record {
      ok = tt;
      refused = inl p.2;
      answerable = inl p.2;
      kept = record { state = refl; waiting = refl };
      good = λ parser good. good;
    })

pub returns-then-count-gt0 : goal.returns-then-count-gt0
returns-then-count-gt0 g c =
    let m = c.args.message.now in
    let more = subst (λ n. 0 < n) c.len-count.ensures c.if-count-gt0.true in
    let counted = ap (λ n. wire.UserError (values_for_empty n c.as_str.result.now)) c.len-count.ensures in
    let named = ap (λ name. wire.UserError (values_for_empty (length m.parameters) name)) c.as_str.ensures in
    let e = c.in_ok-values_for_empty.ensures in
    record {
      ok = tt;
      refused = values_refused (state_of g.St.PortalStore.maps c.args.client.now) m c.args.client.now.outbox _ more
          (e.error ∙ counted ∙ named);
      answerable = e.answerable;
      kept = record { state = refl; waiting = refl };
      good = λ parser good. good;
    }

pub returns-in_err-store_empty_portal : goal.returns-in_err-store_empty_portal
returns-in_err-store_empty_portal g c =
    let from = c.from_residual-in_err-store_empty_portal in
    let p = err_from_is_err_and from.result from.ensures.1 in let e = c.in_err-store_empty_portal.ensures in
    rw p.1 (record {
      ok = tt;
      refused = inl p.2;
      answerable = inl p.2;
      kept = e.err;
      good = λ parser good. subst (IsGoodState parser) (sym e.err.state) good;
    })

pub returns : goal.returns
returns g c =
    let s = state_of g.St.PortalStore.maps c.args.client.now in let e = c.in_ok-store_empty_portal.ensures in
    let none = subst (λ n. n ≤ 0) c.len-count.ensures c.if-count-gt0.false in
    record {
      ok = empty_bound s c.args.message.now c.args.client.now.outbox c.as_str-2.result.now _ _ none c.as_str-2.ensures e.ok e.replied;
      refused = tt;
      answerable = tt;
      kept = tt;
      good = λ parser good. subst (IsGoodState parser) (sym e.ok) (good_with_empty_portal parser s c.as_str-2.result.now good);
    }

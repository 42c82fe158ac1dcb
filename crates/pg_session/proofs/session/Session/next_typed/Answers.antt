use Rattle.std.proofs.Common.{◌≡◌, ◌++◌, ◌∙◌, ℕ, List, false, Option, Result, IfOk, IfNone, IfSome, OnErr, ap, sym, subst, take}
use Rattle.pg_messages.specs.Frames.{IsBad, IsFrame, IsUnfinished}
use Rattle.pg_messages.specs.declared.codec.FrameError.{FrameError}
use Rattle.pg_messages.specs.declared.frontend.PgWireFrontendMessage.{PgWireFrontendMessage}
use Rattle.pg_results.specs.declared.client.PgWireConnectionState.TheVariants as phase
use Rattle.conversation_table.specs.Table.{awaits, is_startup_phase}
use Rattle.conversation_runs.specs.Session.{SessionValue}
use Rattle.pg_session.proofs.session.Session.next_typed.Goals as goal

-- what was read of the bytes inside is read of the session as a value, which is ready
module _ {H S M : Type 0} (inside now : SessionValue H S) (same : inside ≡ now) (ready : now.state.info.state ≡ phase.ReadyForQuery)
    (rest : List ℕ) (answer : Result (Option M) FrameError) where
  found_as : (message : M → PgWireFrontendMessage)
      → IfOk answer (λ a. IfSome a (λ m. (frame : List ℕ) × (inside.rest ≡ frame ++ rest) × IsFrame false frame (message m)))
      → IfOk answer (λ a. IfSome a (λ m. (frame : List ℕ) × (now.rest ≡ frame ++ rest) × IsFrame (awaits now.state) frame (message m)))
  found_as message x = subst (λ p. IfOk answer (λ a. IfSome a (λ m. (frame : List ℕ) × (now.rest ≡ frame ++ rest)
      × IsFrame (is_startup_phase p) frame (message m)))) (sym ready)
      (subst (λ v. IfOk answer (λ a. IfSome a (λ m. (frame : List ℕ) × (v.rest ≡ frame ++ rest) × IsFrame false frame (message m)))) same x)

  none_as : IfOk answer (λ a. IfNone a (IsUnfinished false inside.rest))
      → IfOk answer (λ a. IfNone a (IsUnfinished (awaits now.state) now.rest))
  none_as x = subst (λ p. IfOk answer (λ a. IfNone a (IsUnfinished (is_startup_phase p) now.rest))) (sym ready)
      (subst (λ v. IfOk answer (λ a. IfNone a (IsUnfinished false v.rest))) same x)

  kept_as : IfOk answer (λ a. IfNone a (rest ≡ inside.rest)) → IfOk answer (λ a. IfNone a (rest ≡ now.rest))
  kept_as x = subst (λ v. IfOk answer (λ a. IfNone a (rest ≡ v.rest))) same x

  err_as : OnErr answer (rest ≡ inside.rest) → OnErr answer (rest ≡ now.rest)
  err_as x = subst (λ v. OnErr answer (rest ≡ v.rest)) same x

pub decode_typed-requires : goal.decode_typed-requires
decode_typed-requires g c = record { kind = ap (λ v. take 1 v.rest) c.self.view_is ∙ c.requires.kind }

pub invariant_of-self : goal.invariant_of-self
invariant_of-self g c = c.self.invariant

pub returns-clause-found : goal.returns-clause-found
returns-clause-found g c = found_as _ c.args.self.now c.self.view_is c.requires.ready c.decode_typed.new.src.items c.decode_typed.result
    g.M.TypedMessage.message c.decode_typed.ensures.found

pub returns-clause-none : goal.returns-clause-none
returns-clause-none g c = none_as _ c.args.self.now c.self.view_is c.requires.ready c.decode_typed.new.src.items c.decode_typed.result
    c.decode_typed.ensures.none

pub returns-clause-bad : goal.returns-clause-bad
returns-clause-bad g c = λ e.
    let inside = c.self.inside in
    let ready : inside.client.info.state ≡ phase.ReadyForQuery = ap (λ v. v.state.info.state) c.self.view_is ∙ c.requires.ready in
    subst (λ v. IsBad (awaits v.state) v.rest) c.self.view_is
    (subst (λ p. IsBad (is_startup_phase p) inside.rest.items) (sym ready) (c.decode_typed.ensures.bad e))

pub returns-clause-kept : goal.returns-clause-kept
returns-clause-kept g c = kept_as _ c.args.self.now c.self.view_is c.requires.ready c.decode_typed.new.src.items c.decode_typed.result
    c.decode_typed.ensures.kept

pub returns-clause-err : goal.returns-clause-err
returns-clause-err g c = err_as _ c.args.self.now c.self.view_is c.requires.ready c.decode_typed.new.src.items c.decode_typed.result
    c.decode_typed.ensures.err

pub returns-clause-same : goal.returns-clause-same
returns-clause-same g c = record {
  state = ap (λ v. v.state) c.self.view_is;
  handlers = ap (λ v. v.handlers) c.self.view_is;
  unsent = ap (λ v. v.unsent) c.self.view_is;
  opened = ap (λ v. v.is_open) c.self.view_is;
}

-- Describe of a statement or a portal, by what its handler told.
use Rattle.std.proofs.Common.{◌≡◌, ◌∙◌, ℕ, List, Option, Some, None, Result, Ok, Err, inl, inr, refl, sym, ap, append-nil}
use Rattle.std.specs.Prelude.{OnOk, IfErr}
use Rattle.std.specs.FinMap as fin
use Rattle.pg_messages.specs.declared.extendedquery.Describe.{Describe}
use Rattle.pg_messages.specs.Frames.{statement_target, portal_target}
use Rattle.pg_results.specs.declared.error.PgWireError.{PgWireError}
use Rattle.pg_results.specs.declared.error.PgWireError.TheVariants as wire
use Rattle.pg_results.specs.declared.stmt.StoredStatement.{StoredStatement}
use Rattle.pg_portal.specs.declared.store.Entry.{Entry}
use Rattle.pg_portal.specs.declared.store.Entry.TheVariants as entry
use Rattle.pg_results.specs.Told.{IsOutcome}
use Rattle.pg_portal.specs.Told.{TablePortal, value_under}
use Rattle.pg_client.specs.Effect.{IsEffect, IsRefusedEffect, Done, Failed}
use Rattle.conversation_table.specs.ExtendedRows.{on_describe, described, statement_description, portal_description}
use Rattle.conversation_table.specs.Handlers.{ExtendedTold}
use Rattle.pg_replies.specs.Replies.{Replies}
use Rattle.pg_client.specs.State.{State}
use Rattle.pg_replies.specs.Telling.{IsToldSo}

-- an entry with a value is this value's
entry_with : {X : Type 0} (o : Option (Entry X)) (x : X) → value_under o ≡ Some x → o ≡ Some (entry.Value x)
entry_with None x e = cc
entry_with (Some entry.Empty) x e = cc
entry_with (Some (entry.Value y)) x e = let same : y ≡ x = cc in ap (λ y. Some (entry.Value y)) same

module _ {S : Type 0} (h : ExtendedTold S) (s : State S) (m : Describe) where
  pub describes_statement : (statement : StoredStatement S) → m.target_type ≡ statement_target
      → value_under (fin.get s.statements m.name) ≡ Some statement
      → described s statement_description (h.describe_statement s.info statement) ≡ on_describe h s m
  describes_statement statement i j = rw (i, entry_with (fin.get s.statements m.name) statement j) refl

  pub describes_portal : (p : TablePortal S) → m.target_type ≡ portal_target → value_under (fin.get s.portals m.name) ≡ Some p
      → described s portal_description (h.describe_portal s.info p.bound) ≡ on_describe h s m
  describes_portal p i j = rw (i, entry_with (fin.get s.portals m.name) p j) refl

told_as : {S D : Type 0} (s : State S) (shown : D → Replies) (d spec : Result D PgWireError) → d ≡ spec
    → described s shown spec ≡ described s shown d
told_as s shown d spec same = ap (described s shown) (sym same)

module _ {S D A : Type 0} (s : State S) (shown : D → Replies) (out new_out : List ℕ) where
  pub told_ok : (spec told : Result D PgWireError) (result : Result A PgWireError) → IsOutcome spec told
      → IsToldSo shown told out new_out result → OnOk result (IsEffect (described s shown spec) out new_out (Done s))
  told_ok spec (Ok d) (Ok x) (inl same) sent = rw (told_as s shown (Ok d) spec same) (record { replied = sent; came = refl })
  told_ok spec (Ok d) (Ok x) (inr none) sent = cc
  told_ok spec (Err t) (Ok x) told sent = absurd sent
  told_ok spec told (Err e) outcome sent = tt

  pub told_refused : (spec told : Result D PgWireError) (result : Result A PgWireError) → IsOutcome spec told
      → IsToldSo shown told out new_out result → IfErr result (λ e. IsRefusedEffect (described s shown spec) out new_out s e)
  told_refused spec told (Ok x) outcome sent = tt
  told_refused spec (Ok d) (Err e) outcome sent = inl sent.0
  told_refused spec (Err t) (Err e) (inl same) sent =
      inr (rw (told_as s shown (Err t) spec same) (record { replied = sent.1 ∙ sym (append-nil out); came = ap (Failed s) (sym sent.0) }))
  told_refused spec (Err t) (Err e) (inr none) sent = inl (let no : t ≡ wire.NoMemory = cc in sent.0 ∙ no)

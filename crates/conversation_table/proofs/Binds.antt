-- Bind of a statement: too few codes are refused, and a portal that is bound is good.
use Rattle.std.proofs.Common.{◌≡◌, ◌<◌, ◌∙◌, ℕ, ℤ, Bool, true, false, nat_le, List, [], ◌∷◌, ◌⊎◌, inl, inr, Option, Some, None, Result, Ok, Err, length, refl, sym, ap, subst, arith, append-nil, if◌then◌else◌}
use Rattle.std.specs.FinMap as fin
use Rattle.std.proofs.lemmas.Bool.{le-leb, lt-ltb, le-ltb, leb-true}
use Rattle.pg_messages.specs.declared.extendedquery.Bind.{Bind}
use Rattle.pg_results.specs.declared.error.PgWireError.{PgWireError}
use Rattle.pg_results.specs.declared.error.PgWireError.TheVariants as wire
use Rattle.pg_results.specs.declared.stmt.StoredStatement.{StoredStatement}
use Rattle.pg_portal.specs.declared.store.Entry.{Entry}
use Rattle.pg_portal.specs.declared.store.Entry.TheVariants as entry
use Rattle.pg_types.specs.declared.field_format.FieldFormat.{FieldFormat}
use Rattle.pg_types.specs.declared.field_format.FieldFormat.TheVariants as field
use Rattle.pg_types.specs.Formats.{format_of_code}
use Rattle.pg_results.specs.Formats.{format_of, unified}
use Rattle.pg_results.specs.Fields.{Field}
use Rattle.pg_portal.specs.Statements.{bound_by}
use Rattle.pg_results.specs.Told.{ParserTold}
use Rattle.pg_portal.specs.Told.{TablePortal, Unstarted, value_under}
use Rattle.pg_client.specs.Effect.{Effect, IsEffect, IsRefusedEffect, Failed, refuses}
use Rattle.conversation_table.specs.ExtendedRows.{on_bind, bound, bound_empty, bound_statement, bound_with_columns, bound_portal, HasEnough, IsTooFew}
use Rattle.conversation_table.specs.Good.{IsGoodStatement, IsGoodPortal, HasCodes, HasGoodTag}
use Rattle.conversation_table.specs.Handlers.{ExtendedTold}
use Rattle.pg_client.specs.State.{State}

one_format : (f : FieldFormat) (columns : Result (List Field) PgWireError) → HasCodes (unified f) columns
one_format field.Text columns = tt
one_format field.Binary columns = tt

pub enough_codes : (codes : List ℤ) (columns : Result (List Field) PgWireError) → HasEnough (length codes) columns
    → HasCodes (format_of codes) columns
enough_codes [] columns h = tt
enough_codes (code ∷ []) columns h = one_format (format_of_code code) columns
enough_codes (code ∷ second ∷ codes) (Ok fields) h = h (omega arith)
enough_codes (code ∷ second ∷ codes) (Err e) h = tt

-- a portal that was bound to a statement of which enough codes were found
pub bound_is_good : {S : Type 0} (parser : ParserTold S) (m : Bind) (statement there : StoredStatement S) (n : ℕ) (p : TablePortal S)
    → there ≡ statement
    → n ≡ length m.result_column_format_codes → p.bound ≡ bound_by m statement → p.stage ≡ Unstarted → IsGoodStatement parser statement
    → HasEnough n (parser.columns there.statement None) → IsGoodPortal parser p
bound_is_good parser m statement there n p i j b u good enough =
    let first : HasEnough (length m.result_column_format_codes) (parser.columns there.statement None) =
    subst (λ k. HasEnough k (parser.columns there.statement None)) j enough in
    let told = subst (λ (x : StoredStatement _). HasEnough (length m.result_column_format_codes)
    (parser.columns x.statement None)) i first in
    record {
      statement = subst (λ x. IsGoodStatement parser x.statement) (sym b) good;
      codes = subst (λ x. HasCodes x.result_column_format (parser.columns x.statement.statement None)) (sym b)
          (enough_codes m.result_column_format_codes (parser.columns statement.statement None) told);
      tag = subst HasGoodTag (sym u) tt;
    }

with_columns : {S : Type 0} (s : State S) (m : Bind) (statement : StoredStatement S) (columns : Result (List Field) PgWireError)
    (e : PgWireError) (out : List ℕ) (other : Effect S)
    → IsTooFew (length m.result_column_format_codes) columns e
    → IsEffect (if nat_le 2 (length m.result_column_format_codes) then bound_with_columns s m statement columns else other) out out
    (Failed s e)
with_columns s m statement (Err told) e out other h = rw (le-leb 2 (length m.result_column_format_codes) h.0)
    (record { replied = sym (append-nil out); came = ap (λ e. Failed s e) (sym h.1) })
with_columns s m statement (Ok columns) e out other h = rw (le-leb 2 (length m.result_column_format_codes) h.0)
    (rw (lt-ltb (length m.result_column_format_codes) (length columns) h.1)
    (record { replied = sym (append-nil out); came = ap (λ e. Failed s e) (sym h.2) }))

-- too few codes are refused by the row
pub few_refused : {S : Type 0} (parser : ParserTold S) (s : State S) (m : Bind) (statement there : StoredStatement S) (n : ℕ)
    (e : PgWireError) (out : List ℕ)
    → there ≡ statement → n ≡ length m.result_column_format_codes → (e ≡ wire.NoMemory) ⊎ IsTooFew n (parser.columns there.statement None) e
    → IsRefusedEffect (bound_statement parser s m statement) out out s e
few_refused parser s m statement there n e out i j (inl none) = inl none
few_refused parser s m statement there n e out i j (inr few) =
    let first : IsTooFew (length m.result_column_format_codes) (parser.columns there.statement None) e =
    subst (λ k. IsTooFew k (parser.columns there.statement None) e) j few in
    let told = subst (λ (x : StoredStatement _). IsTooFew (length m.result_column_format_codes)
    (parser.columns x.statement None) e) i first in
    inr (with_columns s m statement (parser.columns statement.statement None) e out (bound_portal s m statement) told)

-- where there are enough codes the row makes a portal
with_enough : {S : Type 0} (s : State S) (m : Bind) (statement : StoredStatement S) (columns : Result (List Field) PgWireError)
    (asked : Bool) → nat_le 2 (length m.result_column_format_codes) ≡ asked → HasEnough (length m.result_column_format_codes) columns
    → (if asked then bound_with_columns s m statement columns else bound_portal s m statement) ≡ bound_portal s m statement
with_enough s m statement columns false is enough = refl
with_enough s m statement (Err e) true is enough = absurd (enough (leb-true 2 (length m.result_column_format_codes) is))
with_enough s m statement (Ok fields) true is enough =
    rw (le-ltb (length m.result_column_format_codes) (length fields) (enough (leb-true 2 (length m.result_column_format_codes) is))) refl

pub bound_enough : {S : Type 0} (parser : ParserTold S) (s : State S) (m : Bind) (statement : StoredStatement S)
    → HasEnough (length m.result_column_format_codes) (parser.columns statement.statement None)
    → bound_statement parser s m statement ≡ bound_portal s m statement
bound_enough parser s m statement enough =
    with_enough s m statement (parser.columns statement.statement None) (nat_le 2 (length m.result_column_format_codes)) refl enough

-- what a Bind comes to where its name leads to a statement
bound_to : {S : Type 0} (h : ExtendedTold S) (s : State S) (m : Bind) (o : Option (Entry (StoredStatement S))) (statement : StoredStatement S)
    → value_under o ≡ Some statement → bound h s m o ≡ bound_statement h.parser s m statement
bound_to h s m None statement e = cc
bound_to h s m (Some entry.Empty) statement e = cc
bound_to h s m (Some (entry.Value x)) statement e = let same : x ≡ statement = cc in ap (bound_statement h.parser s m) same

-- none and one code are always enough
pub few_are_enough : (n : ℕ) (columns : Result (List Field) PgWireError) → n < 2 → HasEnough n columns
few_are_enough n columns few several = absurd (omega (arith, few, several))

module _ {S : Type 0} (h : ExtendedTold S) (s : State S) (m : Bind) (statement : StoredStatement S)
    (found : value_under (fin.get s.statements m.statement_name) ≡ Some statement) where
  -- the statement that stands under the name is bound
  pub binds : (parser : ParserTold S) (there : StoredStatement S) → parser ≡ h.parser → there ≡ statement
      → bound_statement parser s m there ≡ on_bind h s m
  binds parser there i j = ap (λ p. bound_statement p s m there) i ∙ ap (bound_statement h.parser s m) j
      ∙ sym (bound_to h s m (fin.get s.statements m.statement_name) statement found)

  pub binds_few : (there : StoredStatement S) → length m.result_column_format_codes < 2 → there ≡ statement
      → bound_portal s m there ≡ on_bind h s m
  binds_few there few j = sym (bound_enough h.parser s m there (few_are_enough _ _ few)) ∙ binds h.parser there refl j

-- nothing is bound where nothing stands under the name, and an empty portal where an empty statement does
pub binds_none : {S : Type 0} (h : ExtendedTold S) (s : State S) (m : Bind) → fin.get s.statements m.statement_name ≡ None
    → refuses s (wire.StatementNotFound m.statement_name) ≡ on_bind h s m
binds_none h s m e = ap (bound h s m) (sym e)

pub binds_empty : {S : Type 0} (h : ExtendedTold S) (s : State S) (m : Bind) → fin.get s.statements m.statement_name ≡ Some entry.Empty
    → bound_empty s m ≡ on_bind h s m
binds_empty h s m e = ap (bound h s m) (sym e)

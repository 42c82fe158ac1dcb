use Rattle.std.proofs.Common.{◌≡◌, ◌<◌, ◌∙◌, ℕ, Bool, true, cond, List, length, Option, Some, None, Result, Err, inl, inr, refl, sym, ap, subst, arith}
use Rattle.std.specs.Prelude.{slice_get, nat_lt}
use Rattle.std.specs.Slice.{IsItemAt}
use Rattle.std.proofs.lemmas.Bool.Decides.{nat_tests}
use Rattle.std.proofs.lemmas.Option.{slice_get_past, slice_get_read}
use Rattle.std.proofs.lemmas.Result.{err_from_is_err_and}
use denote.Ref.{Bor}
use Rattle.pg_types.specs.declared.error.CellError.{CellError}
use Rattle.pg_types.specs.declared.field_format.FieldFormat.{FieldFormat}
use Rattle.pg_types.specs.Types.{name_of}
use Rattle.pg_results.specs.declared.error.PgWireError.{PgWireError}
use Rattle.pg_results.specs.declared.error.PgWireError.TheVariants as wire
use Rattle.pg_results.specs.Formats.{format_for}
use Rattle.pg_results.specs.Told.{IsOutcome}
use Rattle.pg_portal.specs.Parameters.{parameter_at, parsed, read_in}
use Rattle.pg_portal.proofs.portal.Portal.parameter.Goals as goal

within : (n m : ℕ) → true ≡ nat_lt n m → n < m
within n m e = grind (arith, nat_tests)

-- what was lent of a list is what stands there
item_there : {X : Type 0} (xs ys : List X) (i : ℕ) (r : Option (Bor X)) (x : Bor X) → xs ≡ ys → IsItemAt xs i r → r ≡ Some x
    → slice_get ys i ≡ Some x.now
item_there {X} xs ys i r x same h is =
    let at = subst (λ (o : Option (Bor X)). IsItemAt xs i o) is h in
    ap (λ (l : List X). slice_get l i) (sym same) ∙ slice_get_read xs (length xs) i x.now refl (within i (length xs) at.0) at.1

nothing_there : {X : Type 0} (xs ys : List X) (i : ℕ) (r : Option (Bor X)) → xs ≡ ys → IsItemAt xs i r → r ≡ None → slice_get ys i ≡ None
nothing_there {X} xs ys i r same h is =
    let at = subst (λ (o : Option (Bor X)). IsItemAt xs i o) is h in
    ap (λ (l : List X). slice_get l i) (sym same) ∙ slice_get_past xs i at.3

-- a parameter of a type that is accepted
accepted_at : {T : Type 0} (read : FieldFormat → List ℕ → Result T CellError) (i : ℕ) (e : PgWireError) (b : Bool)
    (f g : Option FieldFormat) (v w : Option (Option (List ℕ))) → b ≡ true → f ≡ g → v ≡ w
    → cond b (parameter_at read i f v) (Err e) ≡ parameter_at read i g w
accepted_at read i e b f g v w so is at =
    ap (λ (t : Bool). cond t (parameter_at read i f v) (Err e)) so ∙ (λ j. parameter_at read i (is j) (at j))

pub returns-in_err-name : goal.returns-in_err-name
returns-in_err-name g c = let u = err_from_is_err_and c.from_residual.result c.from_residual.ensures.1 in inr (u.1 ∙ ap Err u.2)

pub returns-then-not-accepts : goal.returns-then-not-accepts
returns-then-not-accepts g c =
    let read = read_in g.T.FromSql.read g.T.FromSqlText.read c.args.pg_type in
    let p = c.args.self.now in
    let refused = sym c.accepts.ensures ∙ c.if-not-accepts.true in
    inl (ap (λ n. Err (wire.InvalidRustTypeForParameter n)) (c.in_ok-name.ensures ∙ c.name.ensures)
    ∙ sym (ap (λ (t : Bool). cond t (parameter_at read c.args.idx (format_for p.parameter_format c.args.idx)
    (slice_get p.parameters c.args.idx)) (Err (wire.InvalidRustTypeForParameter (name_of c.args.pg_type)))) refused))

pub returns-in-None : goal.returns-in-None
returns-in-None g c =
    let read = read_in g.T.FromSql.read g.T.FromSqlText.read c.args.pg_type in
    inl (sym (accepted_at read c.args.idx (wire.InvalidRustTypeForParameter (name_of c.args.pg_type)) _ _ _
    (slice_get c.args.self.now.parameters c.args.idx) _ (sym c.accepts.ensures ∙ c.if-not-accepts.false)
    (sym c.format_for.ensures ∙ c.in-None.is) refl))

pub returns-in-Some-Some : goal.returns-in-Some-Some
returns-in-Some-Some g c =
    let read = read_in g.T.FromSql.read g.T.FromSqlText.read c.args.pg_type in
    let there = item_there c.as_slice.result.now c.args.self.now.parameters c.args.idx c.get.result c.in-Some-Some.field-0 c.as_slice.ensures
    c.get.ensures.lookup c.in-Some-Some.is ∙ ap Some c.in-Some-Some.field-0-is in
    subst (λ told. IsOutcome told c.read.result)
    (ap (λ (bytes : List ℕ). parsed (read c.in-Some.format bytes)) c.as_slice-in-Some-Some.ensures
    ∙ sym (accepted_at read c.args.idx (wire.InvalidRustTypeForParameter (name_of c.args.pg_type)) _ _ _ _ _
    (sym c.accepts.ensures ∙ c.if-not-accepts.false) (sym c.format_for.ensures ∙ c.in-Some.is) there))
    c.read.ensures

pub returns-in-Some-None : goal.returns-in-Some-None
returns-in-Some-None g c =
    let read = read_in g.T.FromSql.read g.T.FromSqlText.read c.args.pg_type in
    let there = item_there c.as_slice.result.now c.args.self.now.parameters c.args.idx c.get.result c.in-Some-None.field-0 c.as_slice.ensures
    c.get.ensures.lookup c.in-Some-None.is ∙ ap Some c.in-Some-None.field-0-is in
    inl (sym (accepted_at read c.args.idx (wire.InvalidRustTypeForParameter (name_of c.args.pg_type)) _ _ _ _ _
    (sym c.accepts.ensures ∙ c.if-not-accepts.false) (sym c.format_for.ensures ∙ c.in-Some.is) there))

pub returns-in-None-get : goal.returns-in-None-get
returns-in-None-get g c =
    let read = read_in g.T.FromSql.read g.T.FromSqlText.read c.args.pg_type in
    let there = nothing_there c.as_slice.result.now c.args.self.now.parameters c.args.idx c.get.result c.as_slice.ensures
    c.get.ensures.lookup c.in-None-get.is in
    inl (sym (accepted_at read c.args.idx (wire.InvalidRustTypeForParameter (name_of c.args.pg_type)) _ _ _ _ _
    (sym c.accepts.ensures ∙ c.if-not-accepts.false) (sym c.format_for.ensures ∙ c.in-Some.is) there))

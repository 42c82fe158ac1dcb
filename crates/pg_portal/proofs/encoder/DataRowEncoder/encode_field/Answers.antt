use Rattle.std.proofs.Common.{◌≡◌, ◌++◌, ◌+◌, ◌*◌, ◌^◌, ◌<◌, ◌≤◌, ℕ, zero, suc, List, [], ◌∷◌, length, get_or, Option, None, Some, Ok, Err, refl, sym, ap, subst, ◌∙◌, arith}
use Rattle.std.specs.Prelude.{slice_get, IsSomeAnd}
use Rattle.std.proofs.lemmas.List.{length-append}
use Rattle.std.proofs.lemmas.Result.{err_from_is_err_and, IfOk-from_err}
use Rattle.pg_text.specs.Cells.{Cell, AtCell, IsShort}
use Rattle.pg_portal.specs.Encoding.{RowSoFar, cell_bytes, columns_left, field_cell, frame, with_cell, IsRefusal}
use Rattle.pg_results.specs.Fields.{Field}
use Rattle.pg_portal.proofs.encoder.DataRowEncoder.encode_field.Goals as goal

item_at : (xs : List Field) (i : ℕ) (r : Field) → i < length xs → r ≡ get_or xs i r → slice_get xs i ≡ Some r
item_at [] i r h e = absurd (omega arith)
item_at (x ∷ xs) zero r h e = ap Some (sym e)
item_at (x ∷ xs) (suc i) r h e = item_at xs i r (omega arith) e

-- the next column's place in the columns
column_at : (v row : RowSoFar) (xs ys : List Field) (i : ℕ) (r : Field) → v ≡ row → xs ≡ ys → ys ≡ v.fields → i ≡ v.cells
    → r ≡ get_or xs i r → 0 < columns_left row → slice_get row.fields row.cells ≡ Some r
column_at v row xs ys i r view same all at is some =
    let fields : xs ≡ row.fields = same ∙ all ∙ ap (λ (row : RowSoFar). row.fields) view in
    let place : i ≡ row.cells = at ∙ ap (λ (row : RowSoFar). row.cells) view in
    item_at row.fields row.cells r (omega arith) (is ∙ ap (λ l. get_or l i r) fields ∙ ap (λ k. get_or row.fields k r) place)

found : (o : Option Field) (r : Field) (P : Field → Type 0) → o ≡ Some r → P r → IsSomeAnd o P
found o r P e h = rw e h

more_at : (cell : Cell) (P Q : Option (List ℕ) → Type 0) → ((c : Option (List ℕ)) → P c → Q c) → AtCell cell P → AtCell cell Q
more_at (Ok c) P Q more at = more c at
more_at (Err e) P Q more at = at

at_more : (cell other : Cell) (P Q : Option (List ℕ) → Type 0) → cell ≡ other → ((c : Option (List ℕ)) → P c → Q c) → AtCell cell P → AtCell other Q
at_more cell other P Q e more at = more_at other P Q more (subst (λ (cell : Cell). AtCell cell P) e at)

made : (v row : RowSoFar) (payload : List ℕ) (cell : Option (List ℕ)) → v ≡ row → payload ≡ v.payload ++ cell_bytes cell
    → record { fields = v.fields; payload = payload; cells = v.cells + 1 } ≡ with_cell row cell
made v row payload cell view e =
    ap (λ (p : List ℕ). record { fields = v.fields; payload = p; cells = v.cells + 1 }) e ∙ ap (λ (r : RowSoFar). with_cell r cell) view

as_it_was : (v row : RowSoFar) (payload : List ℕ) → v ≡ row → payload ≡ v.payload
    → record { fields = v.fields; payload = payload; cells = v.cells } ≡ row
as_it_was v row payload view e = ap (λ (p : List ℕ). record { fields = v.fields; payload = p; cells = v.cells }) e ∙ view

one_more : (n : ℕ) → n ≤ 32767 → n + 1 < 2 ^ 16
one_more n few = omega (arith, few)

within_columns : (v row : RowSoFar) (xs ys : List Field) (i : ℕ) → v ≡ row → xs ≡ ys → ys ≡ v.fields → i ≡ v.cells
    → 0 < columns_left row → i < length xs
within_columns v row xs ys i view same all at some =
    omega (arith, ap length (same ∙ all), ap (λ (r : RowSoFar). columns_left r) view, at, some)

next_fits : (v row : RowSoFar) → v ≡ row → 0 < columns_left row → length v.fields ≤ 32767 → v.cells + 1 ≤ 32767
next_fits v row view some few = omega (arith, ap (λ (r : RowSoFar). columns_left r) view, some, few)

grows : (cell : Cell) (old new : List ℕ) (n : ℕ) → AtCell cell (λ c. (new ≡ old ++ cell_bytes c) × IsShort c)
    → length old ≤ n * 32004 → length new ≤ (n + 1) * 32004
grows (Ok None) old new n h few =
    let four : length (frame None) ≡ 4 = refl in
    omega (arith, ap length h.0 ∙ length-append old (frame None), four, few)
grows (Ok (Some bytes)) old new n h few =
    let four : length (frame (Some (length bytes))) ≡ 4 = refl in
    let short = h.1 in
    omega (
      arith,
      ap length h.0 ∙ length-append old (cell_bytes (Some bytes)),
      length-append (frame (Some (length bytes))) bytes,
      four,
      short,
      few,
    )
grows (Err e) old new n h few = absurd h

pub bounds-as_slice-from : goal.bounds-as_slice-from
bounds-as_slice-from g c =
    within_columns _ c.args.self.now _ _ _ c.self.view_is c.as_slice.ensures c.deref.ensures c.from.ensures c.requires

pub invariant_of-self-2 : goal.invariant_of-self-2
invariant_of-self-2 g c = (
  next_fits _ c.args.self.now c.self.view_is c.requires c.self.invariant.2,
  grows _ c.self.inside.payload.items c.push_value.new.payload.items c.self.inside.cells c.in_ok-push_value.ensures.cell
      c.self.invariant.1,
  c.self.invariant.2,
)

pub overflow_add-self : goal.overflow_add-self
overflow_add-self g c = record { fits = one_more c.self.inside.cells c.self.invariant.0 }

pub invariant_of-self : goal.invariant_of-self
invariant_of-self g c = (
  c.self.invariant.0,
  subst (λ (l : List ℕ). length l ≤ c.self.inside.cells * 32004) (sym c.in_err-push_value.ensures.unchanged) c.self.invariant.1,
  c.self.invariant.2,
)

pub returns-in_err-push_value-clause-cell : goal.returns-in_err-push_value-clause-cell
returns-in_err-push_value-clause-cell g c = IfOk-from_err c.from_residual.result _ c.from_residual.ensures.0

pub returns-in_err-push_value-clause-unchanged : goal.returns-in_err-push_value-clause-unchanged
returns-in_err-push_value-clause-unchanged g c =
    let p = err_from_is_err_and c.from_residual.result c.from_residual.ensures.1 in
    rw p.1 (as_it_was _ c.args.self.now c.push_value.new.payload.items c.self.view_is c.in_err-push_value.ensures.unchanged)

pub returns-clause-unchanged : goal.returns-clause-unchanged
returns-clause-unchanged g c = tt

pub returns-clause-refusal : goal.returns-clause-refusal
returns-clause-refusal g c = tt

pub returns-clause-cell : goal.returns-clause-cell
returns-clause-cell g c =
    let r : Field = c.index-as_slice-from.result in
    let at = column_at _ c.args.self.now _ _ _ r c.self.view_is c.as_slice.ensures c.deref.ensures c.from.ensures c.index-as_slice-from.is c.requires in
    let binary = g.T.ToSql.binary in
    let text = g.T.ToSqlText.text in
    let value = c.args.value.now in
    let options = c.deref-2.result.now in
    let same : field_cell binary text value c.datatype.result c.format.result options ≡ field_cell binary text value r.datatype r.format r.format_options =
    ap (λ t. field_cell binary text value t c.format.result options) c.datatype.ensures
    ∙ ap (λ f. field_cell binary text value r.datatype f options) c.format.ensures
    ∙ ap (field_cell binary text value r.datatype r.format) (c.deref-2.ensures ∙ c.format_options-options.ensures) in
    found _ r _ at
    (at_more _ _ _ _ same (λ cell h. made _ c.args.self.now c.push_value.new.payload.items cell c.self.view_is h.0) c.in_ok-push_value.ensures.cell)

pub returns-in_err-push_value-clause-refusal : goal.returns-in_err-push_value-clause-refusal
returns-in_err-push_value-clause-refusal g c =
    let r : Field = c.index-as_slice-from.result in
    let at = column_at _ c.args.self.now _ _ _ r c.self.view_is c.as_slice.ensures c.deref.ensures c.from.ensures c.index-as_slice-from.is c.requires in
    let binary = g.T.ToSql.binary in
    let text = g.T.ToSqlText.text in
    let value = c.args.value.now in
    let options = c.deref-2.result.now in
    let same : field_cell binary text value c.datatype.result c.format.result options ≡ field_cell binary text value r.datatype r.format r.format_options =
    ap (λ t. field_cell binary text value t c.format.result options) c.datatype.ensures
    ∙ ap (λ f. field_cell binary text value r.datatype f options) c.format.ensures
    ∙ ap (field_cell binary text value r.datatype r.format) (c.deref-2.ensures ∙ c.format_options-options.ensures) in
    let p = err_from_is_err_and c.from_residual.result c.from_residual.ensures.1 in
    rw (p.1, p.2) (found _ r _ at (subst (λ (cell : Cell). IsRefusal cell c.in_err-push_value.field-0.0) same c.in_err-push_value.ensures.refusal))

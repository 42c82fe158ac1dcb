use Rattle.std.proofs.Common.{◌≡◌, ◌++◌, inl, inr, List, ℕ, None, Some, Result, Ok, Err, refl, ap, ◌∙◌, append-nil, append_assoc, length, take, drop, ◌+◌, ◌-◌, ◌^◌, ◌<◌, ◌≤◌, arith}
use Rattle.std.proofs.Math.Seq.{take-append_seam, drop-append_seam}
use Rattle.std.proofs.lemmas.List.{length-append, length-drop, length-take, drop_at, take_at}
use Rattle.std.proofs.lemmas.Result.{err_from_is_err_and}
use Rattle.std.specs.Prelude.{OnOk, OnErr}
use Rattle.pg_text.specs.Cells.{Cell, AtCell, IsAnswer, IsShort, bytes_of}
use Rattle.pg_types.specs.declared.error.CellError.{CellError}
use Rattle.pg_types.specs.declared.error.CellError.TheVariants.{NoMemory}
use Rattle.pg_text.specs.declared.to_sql.IsNull.{IsNull}
use Rattle.pg_text.specs.declared.to_sql.IsNull.TheVariants.{Yes, No}
use Rattle.pg_portal.specs.Encoding.{cell_bytes, field_cell, frame, IsRefusal}
use Rattle.pg_portal.proofs.cell.push_value.Goals.{in-Binary, in-Text}
use Rattle.pg_portal.proofs.cell.push_value.Goals as goal

-- what a value tells of the cell that it wrote behind these bytes
record Told (cell : Cell) (answer : Result IsNull CellError) (before after : List ℕ) : Type 0 where
  answered : IsAnswer cell answer
  appended : OnOk answer (AtCell cell (λ c. after ≡ before ++ bytes_of c))
  short : OnOk answer (AtCell cell IsShort)
  unchanged : OnErr answer (after ≡ before)

null_cell : (cell : Cell) (answer : Result IsNull CellError) (old before after : List ℕ) → Told cell answer before after
    → before ≡ old ++ frame None → answer ≡ Ok Yes → AtCell cell (λ c. (after ≡ old ++ cell_bytes c) × IsShort c)
null_cell (Ok None) answer old before after t e is =
    (rw is at t.appended ∙ append-nil before ∙ e, rw is at t.short)
null_cell (Ok (Some bytes)) answer old before after t e is = elim t.answered [ inl x ↦ absurd (cc) | inr x ↦ absurd (cc) ]
null_cell (Err error) answer old before after t e is = elim t.answered [ inl x ↦ absurd (cc) | inr x ↦ absurd (cc) ]

refused : (cell : Cell) (answer : Result IsNull CellError) (before after : List ℕ) (error : CellError) → Told cell answer before after
    → answer ≡ Err error → IsRefusal cell error
refused (Ok cell) answer before after error t is = elim t.answered [ inl x ↦ absurd (cc) | inr x ↦ cc ]
refused (Err told) answer before after error t is = elim t.answered [ inl x ↦ inl (cc) | inr x ↦ inr (cc) ]

unchanged_by : (cell : Cell) (answer : Result IsNull CellError) (old before after new : List ℕ) (n : ℕ) (error : CellError) → Told cell answer before after
    → before ≡ old ++ frame None → answer ≡ Err error → n ≡ length old → new ≡ take n after → new ≡ old
unchanged_by cell answer old before after new n error t e is at cut =
    cut ∙ ap (take n) (rw is at t.unchanged ∙ e) ∙ ap (λ k. take k (old ++ frame None)) at ∙ take-append_seam old (frame None)

-- bytes with four others in place of those from a place on
abbrev over : (n : ℕ) (bytes others : List ℕ) → List ℕ
over n bytes others = take n bytes ++ (others ++ drop ((n + 4) - n) (drop n bytes))

over_frame : (old f new bytes : List ℕ) → length f ≡ 4 → over (length old) ((old ++ f) ++ bytes) new ≡ old ++ (new ++ bytes)
over_frame old f new bytes long =
    let four : (length old + 4) - length old ≡ 4 = omega arith in
    rw (append_assoc old f bytes, take-append_seam old (f ++ bytes), drop-append_seam old (f ++ bytes), four, drop_at f bytes 4 long) refl

put_over : (old f new bytes w x : List ℕ) → length f ≡ 4 → length new ≡ 4 → x ≡ (old ++ f) ++ bytes → w ≡ over (length old) x new
    → take (length x) (w ++ drop (length w) x) ≡ old ++ (new ++ bytes)
put_over old f new bytes w x long four e is =
    let put : w ≡ old ++ (new ++ bytes) = is ∙ ap (λ l. over (length old) l new) e ∙ over_frame old f new bytes long in
    let same : length w ≡ length x =
    omega (arith, ap length put, ap length e, length-append old (new ++ bytes), length-append new bytes, length-append (old ++ f) bytes, length-append old f) in
    take_at w (drop (length w) x) (length x) same ∙ put

count_is : (old f bytes : List ℕ) → length f ≡ 4 → length ((old ++ f) ++ bytes) - length old - 4 ≡ length bytes
count_is old f bytes long = omega (arith, length-append (old ++ f) bytes, length-append old f)

text_cell : (cell : Cell) (answer : Result IsNull CellError) (old before after mine new : List ℕ) (n m : ℕ) → Told cell answer before after
    → before ≡ old ++ frame None → answer ≡ Ok No → n ≡ length old → mine ≡ after → m ≡ length after → new ≡ frame (Some (m - n - 4))
    → AtCell cell (λ c.
    (take (length after) (over n mine new ++ drop (length (over n mine new)) after) ≡ old ++ cell_bytes c) × IsShort c)
text_cell (Ok None) answer old before after mine new n m t e is at same counted put = elim t.answered [ inl x ↦ absurd (cc) | inr x ↦ absurd (cc) ]
text_cell (Err error) answer old before after mine new n m t e is at same counted put = elim t.answered [ inl x ↦ absurd (cc) | inr x ↦ absurd (cc) ]
text_cell (Ok (Some bytes)) answer old before after mine new n m t e is at same counted put =
    let all : after ≡ (old ++ frame None) ++ bytes = rw is at t.appended ∙ ap (λ l. l ++ bytes) e in
    let size : m - n - 4 ≡ length bytes =
    ap (λ k. k - n - 4) (counted ∙ ap length all) ∙ ap (λ k. length ((old ++ frame None) ++ bytes) - k - 4) at ∙ count_is old (frame None) bytes refl in
    let put' : new ≡ frame (Some (length bytes)) = put ∙ ap (λ k. frame (Some k)) size in
    let four : length new ≡ 4 = ap length put' in
    (put_over old (frame None) new bytes (over n mine new) after refl four all (ap (λ l. over n l new) same ∙ ap (λ k. over k after new) at) ∙ ap (λ l. old ++ (l ++ bytes)) put', rw is at t.short)

-- how many bytes stand behind those that stood there
sizes : (cell : Cell) (answer : Result IsNull CellError) (old before after : List ℕ) (n m : ℕ) → Told cell answer before after
    → before ≡ old ++ frame None → answer ≡ Ok No → n ≡ length old → m ≡ length after → (n + 4 ≤ m) × (m ≤ n + 32004)
sizes (Ok None) answer old before after n m t e is at counted = elim t.answered [ inl x ↦ absurd (cc) | inr x ↦ absurd (cc) ]
sizes (Err error) answer old before after n m t e is at counted = elim t.answered [ inl x ↦ absurd (cc) | inr x ↦ absurd (cc) ]
sizes (Ok (Some bytes)) answer old before after n m t e is at counted =
    let all : after ≡ (old ++ frame None) ++ bytes = rw is at t.appended ∙ ap (λ l. l ++ bytes) e in
    let short = rw is at t.short in
    let four : length (frame None) ≡ 4 = refl in
    let long = ap length all ∙ length-append (old ++ frame None) bytes in
    let front = length-append old (frame None) in
    (omega (arith, long, front, four), omega (arith, long, front, four, short))

module _ (n m : ℕ) (enough : (n + 4 ≤ m) × (m ≤ n + 32004)) where
  len_fits : m - n - 4 < 2 ^ 32
  len_fits = omega (arith, enough.0, enough.1)

  start_within : n ≤ m
  start_within = omega (arith, enough.0)

  four_within : 4 ≤ m - n
  four_within = omega (arith, enough.0)

  end_fits : m < 2 ^ 64 → n + 4 < 2 ^ 64
  end_fits small = omega (arith, enough.0, small)

  part_long : (mine after f : List ℕ) → mine ≡ after → m ≡ length after → length f ≡ 4 → length (take ((n + 4) - n) (drop n mine)) ≡ length f
  part_long mine after f same counted four =
      omega (arith, enough.0, length-take ((n + 4) - n) (drop n mine), length-drop n mine, ap length same, counted, four)

no_memory : (cell : Cell) → IsRefusal cell NoMemory
no_memory (Ok c) = refl
no_memory (Err e) = inr refl

pub returns-in_err-extend_from_slice : goal.returns-in_err-extend_from_slice
returns-in_err-extend_from_slice g c =
    let u = err_from_is_err_and c.from_residual.result c.from_residual.ensures.1 in
    let is = u.1 ∙ ap Err u.2 in
    let cell : Cell = field_cell g.T.ToSql.binary g.T.ToSqlText.text c.args.value.now c.args.data_type c.args.format c.args.format_options.now in
    record {
      cell = rw is tt;
      unchanged = rw is c.in_err-extend_from_slice.ensures.err;
      refusal = rw is (no_memory cell);
    }

pub returns-in-Ok-Yes-clause-cell : goal.returns-in-Ok-Yes-clause-cell
returns-in-Ok-Yes-clause-cell g c =
    let cell : Cell = field_cell g.T.ToSql.binary g.T.ToSqlText.text c.args.value.now c.args.data_type c.args.format c.args.format_options.now in
    let told : Told cell c.match-format.answer c.extend_from_slice.new.self.items c.match-format.payload.items =
    elim c.match-format.branch [
      | in-Binary w ↦
          let e = w.to_sql-answer.ensures in
          rw (w.in-Binary.is, w.answer-is, w.payload-is) (record { answered = e.answer; appended = e.written.appended; short = e.written.short; unchanged = e.written.unchanged })
      | in-Text w ↦
          let e = w.to_sql_text-answer.ensures in
          rw (w.in-Text.is, w.answer-is, w.payload-is) (record { answered = e.answer; appended = e.written.appended; short = e.written.short; unchanged = e.written.unchanged })
    ] in
    null_cell cell c.match-format.answer c.args.payload.now.items _ _ told
    (c.in_ok-extend_from_slice.ensures.ok ∙ ap (λ l. c.args.payload.now.items ++ l) c.frame.ensures) (c.in-Ok-Yes.is ∙ ap Ok (rw c.in-Ok-Yes.is at c.in-Ok-Yes.field-0-is))

pub returns-in-Ok-No-clause-cell : goal.returns-in-Ok-No-clause-cell
returns-in-Ok-No-clause-cell g c =
    let cell : Cell = field_cell g.T.ToSql.binary g.T.ToSqlText.text c.args.value.now c.args.data_type c.args.format c.args.format_options.now in
    let told : Told cell c.match-format.answer c.extend_from_slice.new.self.items c.match-format.payload.items =
    elim c.match-format.branch [
      | in-Binary w ↦
          let e = w.to_sql-answer.ensures in
          rw (w.in-Binary.is, w.answer-is, w.payload-is) (record { answered = e.answer; appended = e.written.appended; short = e.written.short; unchanged = e.written.unchanged })
      | in-Text w ↦
          let e = w.to_sql_text-answer.ensures in
          rw (w.in-Text.is, w.answer-is, w.payload-is) (record { answered = e.answer; appended = e.written.appended; short = e.written.short; unchanged = e.written.unchanged })
    ] in
    text_cell cell c.match-format.answer c.args.payload.now.items _ c.match-format.payload.items
    c.as_mut_slice.result.now c.copy_from_slice.new.self c.len-start.result c.len.result told
    (c.in_ok-extend_from_slice.ensures.ok ∙ ap (λ l. c.args.payload.now.items ++ l) c.frame.ensures)
    (c.in-Ok-No.is ∙ ap Ok (rw c.in-Ok-No.is at c.in-Ok-No.field-0-is))
    c.len-start.ensures.value c.as_mut_slice.ensures.value c.len.ensures.value
    (c.copy_from_slice.ensures.after ∙ c.frame-in-Ok-No.ensures)

pub returns-in-Err-clause-refusal : goal.returns-in-Err-clause-refusal
returns-in-Err-clause-refusal g c =
    let cell : Cell = field_cell g.T.ToSql.binary g.T.ToSqlText.text c.args.value.now c.args.data_type c.args.format c.args.format_options.now in
    let told : Told cell c.match-format.answer c.extend_from_slice.new.self.items c.match-format.payload.items =
    elim c.match-format.branch [
      | in-Binary w ↦
          let e = w.to_sql-answer.ensures in
          rw (w.in-Binary.is, w.answer-is, w.payload-is) (record { answered = e.answer; appended = e.written.appended; short = e.written.short; unchanged = e.written.unchanged })
      | in-Text w ↦
          let e = w.to_sql_text-answer.ensures in
          rw (w.in-Text.is, w.answer-is, w.payload-is) (record { answered = e.answer; appended = e.written.appended; short = e.written.short; unchanged = e.written.unchanged })
    ] in
    refused cell c.match-format.answer _ _ c.in-Err.error told c.in-Err.is

pub returns-in-Err-clause-unchanged : goal.returns-in-Err-clause-unchanged
returns-in-Err-clause-unchanged g c =
    let cell : Cell = field_cell g.T.ToSql.binary g.T.ToSqlText.text c.args.value.now c.args.data_type c.args.format c.args.format_options.now in
    let told : Told cell c.match-format.answer c.extend_from_slice.new.self.items c.match-format.payload.items =
    elim c.match-format.branch [
      | in-Binary w ↦
          let e = w.to_sql-answer.ensures in
          rw (w.in-Binary.is, w.answer-is, w.payload-is) (record { answered = e.answer; appended = e.written.appended; short = e.written.short; unchanged = e.written.unchanged })
      | in-Text w ↦
          let e = w.to_sql_text-answer.ensures in
          rw (w.in-Text.is, w.answer-is, w.payload-is) (record { answered = e.answer; appended = e.written.appended; short = e.written.short; unchanged = e.written.unchanged })
    ] in
    unchanged_by cell c.match-format.answer _ _ _ _ _ c.in-Err.error told
    (c.in_ok-extend_from_slice.ensures.ok ∙ ap (λ l. c.args.payload.now.items ++ l) c.frame.ensures) c.in-Err.is c.len-start.ensures.value c.truncate.ensures.items

pub overflow_sub-len : goal.overflow_sub-len
overflow_sub-len g c =
    let cell : Cell = field_cell g.T.ToSql.binary g.T.ToSqlText.text c.args.value.now c.args.data_type c.args.format c.args.format_options.now in
    let told : Told cell c.match-format.answer c.extend_from_slice.new.self.items c.match-format.payload.items =
    elim c.match-format.branch [
      | in-Binary w ↦
          let e = w.to_sql-answer.ensures in
          rw (w.in-Binary.is, w.answer-is, w.payload-is) (record { answered = e.answer; appended = e.written.appended; short = e.written.short; unchanged = e.written.unchanged })
      | in-Text w ↦
          let e = w.to_sql_text-answer.ensures in
          rw (w.in-Text.is, w.answer-is, w.payload-is) (record { answered = e.answer; appended = e.written.appended; short = e.written.short; unchanged = e.written.unchanged })
    ] in
    let enough = sizes cell c.match-format.answer c.args.payload.now.items _ c.match-format.payload.items c.len-start.result c.len.result told
    (c.in_ok-extend_from_slice.ensures.ok ∙ ap (λ l. c.args.payload.now.items ++ l) c.frame.ensures)
    (c.in-Ok-No.is ∙ ap Ok (rw c.in-Ok-No.is at c.in-Ok-No.field-0-is)) c.len-start.ensures.value c.len.ensures.value in
    start_within _ _ enough

pub overflow_sub-len-in-Ok-No : goal.overflow_sub-len-in-Ok-No
overflow_sub-len-in-Ok-No g c =
    let cell : Cell = field_cell g.T.ToSql.binary g.T.ToSqlText.text c.args.value.now c.args.data_type c.args.format c.args.format_options.now in
    let told : Told cell c.match-format.answer c.extend_from_slice.new.self.items c.match-format.payload.items =
    elim c.match-format.branch [
      | in-Binary w ↦
          let e = w.to_sql-answer.ensures in
          rw (w.in-Binary.is, w.answer-is, w.payload-is) (record { answered = e.answer; appended = e.written.appended; short = e.written.short; unchanged = e.written.unchanged })
      | in-Text w ↦
          let e = w.to_sql_text-answer.ensures in
          rw (w.in-Text.is, w.answer-is, w.payload-is) (record { answered = e.answer; appended = e.written.appended; short = e.written.short; unchanged = e.written.unchanged })
    ] in
    let enough = sizes cell c.match-format.answer c.args.payload.now.items _ c.match-format.payload.items c.len-start.result c.len.result told
    (c.in_ok-extend_from_slice.ensures.ok ∙ ap (λ l. c.args.payload.now.items ++ l) c.frame.ensures)
    (c.in-Ok-No.is ∙ ap Ok (rw c.in-Ok-No.is at c.in-Ok-No.field-0-is)) c.len-start.ensures.value c.len.ensures.value in
    four_within _ _ enough

pub overflow_cast-len : goal.overflow_cast-len
overflow_cast-len g c =
    let cell : Cell = field_cell g.T.ToSql.binary g.T.ToSqlText.text c.args.value.now c.args.data_type c.args.format c.args.format_options.now in
    let told : Told cell c.match-format.answer c.extend_from_slice.new.self.items c.match-format.payload.items =
    elim c.match-format.branch [
      | in-Binary w ↦
          let e = w.to_sql-answer.ensures in
          rw (w.in-Binary.is, w.answer-is, w.payload-is) (record { answered = e.answer; appended = e.written.appended; short = e.written.short; unchanged = e.written.unchanged })
      | in-Text w ↦
          let e = w.to_sql_text-answer.ensures in
          rw (w.in-Text.is, w.answer-is, w.payload-is) (record { answered = e.answer; appended = e.written.appended; short = e.written.short; unchanged = e.written.unchanged })
    ] in
    let enough = sizes cell c.match-format.answer c.args.payload.now.items _ c.match-format.payload.items c.len-start.result c.len.result told
    (c.in_ok-extend_from_slice.ensures.ok ∙ ap (λ l. c.args.payload.now.items ++ l) c.frame.ensures)
    (c.in-Ok-No.is ∙ ap Ok (rw c.in-Ok-No.is at c.in-Ok-No.field-0-is)) c.len-start.ensures.value c.len.ensures.value in
    record { fits = len_fits _ _ enough }

pub overflow_add-start : goal.overflow_add-start
overflow_add-start g c =
    let cell : Cell = field_cell g.T.ToSql.binary g.T.ToSqlText.text c.args.value.now c.args.data_type c.args.format c.args.format_options.now in
    let told : Told cell c.match-format.answer c.extend_from_slice.new.self.items c.match-format.payload.items =
    elim c.match-format.branch [
      | in-Binary w ↦
          let e = w.to_sql-answer.ensures in
          rw (w.in-Binary.is, w.answer-is, w.payload-is) (record { answered = e.answer; appended = e.written.appended; short = e.written.short; unchanged = e.written.unchanged })
      | in-Text w ↦
          let e = w.to_sql_text-answer.ensures in
          rw (w.in-Text.is, w.answer-is, w.payload-is) (record { answered = e.answer; appended = e.written.appended; short = e.written.short; unchanged = e.written.unchanged })
    ] in
    let enough = sizes cell c.match-format.answer c.args.payload.now.items _ c.match-format.payload.items c.len-start.result c.len.result told
    (c.in_ok-extend_from_slice.ensures.ok ∙ ap (λ l. c.args.payload.now.items ++ l) c.frame.ensures)
    (c.in-Ok-No.is ∙ ap Ok (rw c.in-Ok-No.is at c.in-Ok-No.field-0-is)) c.len-start.ensures.value c.len.ensures.value in
    record { fits = end_fits _ _ enough c.len.type_inv }

pub copy_from_slice-requires : goal.copy_from_slice-requires
copy_from_slice-requires g c =
    let cell : Cell = field_cell g.T.ToSql.binary g.T.ToSqlText.text c.args.value.now c.args.data_type c.args.format c.args.format_options.now in
    let told : Told cell c.match-format.answer c.extend_from_slice.new.self.items c.match-format.payload.items =
    elim c.match-format.branch [
      | in-Binary w ↦
          let e = w.to_sql-answer.ensures in
          rw (w.in-Binary.is, w.answer-is, w.payload-is) (record { answered = e.answer; appended = e.written.appended; short = e.written.short; unchanged = e.written.unchanged })
      | in-Text w ↦
          let e = w.to_sql_text-answer.ensures in
          rw (w.in-Text.is, w.answer-is, w.payload-is) (record { answered = e.answer; appended = e.written.appended; short = e.written.short; unchanged = e.written.unchanged })
    ] in
    let enough = sizes cell c.match-format.answer c.args.payload.now.items _ c.match-format.payload.items c.len-start.result c.len.result told
    (c.in_ok-extend_from_slice.ensures.ok ∙ ap (λ l. c.args.payload.now.items ++ l) c.frame.ensures)
    (c.in-Ok-No.is ∙ ap Ok (rw c.in-Ok-No.is at c.in-Ok-No.field-0-is)) c.len-start.ensures.value c.len.ensures.value in
    part_long _ _ enough _ _ _ c.as_mut_slice.ensures.value c.len.ensures.value (ap length c.frame-in-Ok-No.ensures)

pub returns-in-Ok-Yes-clause-unchanged : goal.returns-in-Ok-Yes-clause-unchanged
returns-in-Ok-Yes-clause-unchanged g c = tt

pub returns-in-Ok-Yes-clause-refusal : goal.returns-in-Ok-Yes-clause-refusal
returns-in-Ok-Yes-clause-refusal g c = tt

pub returns-in-Ok-No-clause-unchanged : goal.returns-in-Ok-No-clause-unchanged
returns-in-Ok-No-clause-unchanged g c = tt

pub returns-in-Ok-No-clause-refusal : goal.returns-in-Ok-No-clause-refusal
returns-in-Ok-No-clause-refusal g c = tt

pub returns-in-Err-clause-cell : goal.returns-in-Err-clause-cell
returns-in-Err-clause-cell g c = tt

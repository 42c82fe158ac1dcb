use Rattle.std.proofs.Common.{◌≡◌, ℕ, zero, suc, pos, arith, List, [], length, map, Result, Ok, Err, refl, sym, ap, ◌∙◌}
use Rattle.std.proofs.lemmas.List.{append-nil, drop_all}
use Rattle.std.proofs.lemmas.Result.{err_from_is_err_and}
use Rattle.pg_interval.specs.declared.pg_interval.Interval.{Interval}
use Rattle.pg_text.specs.declared.format.interval_style.IntervalStyle.{IntervalStyle}
use Rattle.pg_results.specs.declared.error.PgWireError.{PgWireError}
use Rattle.relation_tables.specs.RelationHandler.{all_or_error, text_of}
use Rattle.relation_handlers.specs.Values.{tab_joined}
use Rattle.relation_handlers.proofs.CopyLineLemmas.{finish_line, texts_from, texts_step}
use Rattle.relation_handlers.proofs.ValueLemmas.{Values}
use Rattle.relation_handlers.proofs.copy_line.push_texts.Goals as goal

-- a line that isn't begun
begun : (items : List ℕ) (texts : Values) → items ≡ [] → finish_line items 0 texts ≡ tab_joined texts
begun items (Ok texts) none = rw none refl
begun items (Err e) none = refl

-- a line behind which no text is left
ended : (items : List ℕ) (i : ℕ) (texts : Values) (whole : Result (List ℕ) PgWireError) → texts ≡ Ok [] → finish_line items i texts ≡ whole
    → Ok items ≡ whole
ended items zero texts whole none e = sym (ap (λ l. Ok l) (append-nil items)) ∙ ap (finish_line items 0) (sym none) ∙ e
ended items (suc n) texts whole none e = sym (ap (λ l. Ok l) (append-nil items)) ∙ ap (finish_line items (suc n)) (sym none) ∙ e

pub loop-index-preserved : goal.loop-index-preserved
loop-index-preserved c =
    let style : Result IntervalStyle PgWireError = Ok c.args.style in
    let row = c.args.row.now in
    let none : Interval = record { months = pos 0; days = pos 0; microseconds = pos 0 } in
    record {
      whole = texts_step (text_of style) row c.loop-index.index none c.loop-index.payload.items c.push_cell.new.payload.items
          (tab_joined (all_or_error (map (text_of style) row))) (omega arith) c.loop-index.invariant.whole c.in_ok-push_cell.ensures.pushed;
      short = omega (arith, c.in_ok-push_cell.ensures.short);
    }

pub loop-index-init : goal.loop-index-init
loop-index-init c =
    let style : Result IntervalStyle PgWireError = Ok c.args.style in
    let none = c.in_ok-reserve.ensures.items ∙ c.requires.empty in
    record {
      whole = begun c.reserve.new.self.items (texts_from (text_of style) c.args.row.now 0) none;
      short = omega (arith, ap length none);
    }

pub returns : goal.returns
returns c =
    let style : Result IntervalStyle PgWireError = Ok c.args.style in
    let row = c.args.row.now in let i = c.loop-index.index in
    let none = ap (λ l. all_or_error (map (text_of style) l)) (drop_all i row c.loop-index-test.false) in
    record {
      texts = ended c.loop-index.payload.items i (texts_from (text_of style) row i) (tab_joined (all_or_error (map (text_of style) row)))
          none c.loop-index.invariant.whole;
      short = omega (arith, c.loop-index.invariant.short, c.requires.narrow, c.loop-index.auto.index-end);
    }

pub returns-in_err-push_cell : goal.returns-in_err-push_cell
returns-in_err-push_cell c =
    let from = c.from_residual-in_err-push_cell in
    let p = err_from_is_err_and from.result from.ensures.1 in
    rw p.1 (record { texts = tt; short = tt })

pub returns-in_err-reserve : goal.returns-in_err-reserve
returns-in_err-reserve c =
    let p = err_from_is_err_and c.from_residual.result c.from_residual.ensures.1 in
    rw p.1 (record { texts = tt; short = tt })

pub overflow_mul-row : goal.overflow_mul-row
overflow_mul-row c = omega (arith, c.requires.narrow)

pub overflow_add-row : goal.overflow_add-row
overflow_add-row c = omega (arith, c.requires.narrow)

use Rattle.std.proofs.Common.{◌≡◌, ◌∷◌, ◌++◌, [], List, ℕ, Ok, Err, length, drop, map, lit<, refl, sym, ap, ◌∙◌, ◌+◌}
use Rattle.std.proofs.lemmas.List.{length_push}
use Rattle.std.proofs.lemmas.Iterator.Consumers.{YieldsList-turn, YieldsList-end}
use Rattle.std.proofs.lemmas.Iterator.Splits.{YieldsList-from_str_split}
use Rattle.pg_interval.specs.Reading.{reading, Postgres}
use Rattle.pg_interval.specs.declared.pg_interval.Interval.{Interval}
use Rattle.relation_files.specs.Lines.{fields_of}
use Rattle.relation_files.specs.Told.{row_of, interval_or_zero}
use Rattle.relation_files.proofs.Fields.{push-left, left-all, cells_reason-step, cells_reason-end}
use Rattle.relation_files.proofs.row.read_cells.Goals as goal

-- the intervals of cells
abbrev intervals : List (List ℕ) → List Interval
intervals cells = map (λ cell. interval_or_zero (reading Postgres cell)) cells

pub loop-cell-preserved : goal.loop-cell-preserved
loop-cell-preserved c =
    let fields = fields_of c.args.text.now in
    let here = YieldsList-turn (YieldsList-from_str_split 9 c.args.text.now (lit< tt) (cc) (cc) (cc)) c.loop-cell.yielded _
    c.loop-cell.yielded_by _ _
    c.in-Some.cell c.in-Some.is c.next.ensures.steps in
    let n = length c.loop-cell.yielded in
    let m = length (c.loop-cell.yielded ++ c.in-Some.cell ∷ []) in
    let count = length_push c.loop-cell.yielded c.in-Some.cell in
    let cell = c.in-Some.cell.now in
    let pushed : c.push.new.self ≡ c.loop-cell.row ++ interval_or_zero (reading Postgres cell) ∷ [] =
    c.in_ok-push-in-Ok.ensures.ok ∙ ap (λ r. c.loop-cell.row ++ interval_or_zero r ∷ []) c.in-Ok.ensures in
    record {
      row = ap (λ l. l ++ intervals (drop m fields)) pushed
          ∙ push-left intervals c.loop-cell.row (row_of c.args.text.now) fields n m cell (interval_or_zero (reading Postgres cell))
          (λ l. refl)
          c.loop-cell.invariant.row here count;
      reason = sym (cells_reason-step fields n m cell (Ok c.in-Ok.interval) here count c.in-Ok.ensures) ∙ c.loop-cell.invariant.reason;
    }

pub returns-in-Err-clause-refused : goal.returns-in-Err-clause-refused
returns-in-Err-clause-refused c =
    let fields = fields_of c.args.text.now in
    let here = YieldsList-turn (YieldsList-from_str_split 9 c.args.text.now (lit< tt) (cc) (cc) (cc)) c.loop-cell.yielded _
    c.loop-cell.yielded_by _ _
    c.in-Some.cell c.in-Some.is c.next.ensures.steps in
    let n = length c.loop-cell.yielded in
    sym c.loop-cell.invariant.reason ∙ cells_reason-step fields n (n + 1) c.in-Some.cell.now (Err c.in-Err.error) here refl c.in-Err.ensures

pub returns-clause-good : goal.returns-clause-good
returns-clause-good c =
    let fields = fields_of c.args.text.now in
    let end = YieldsList-end (YieldsList-from_str_split 9 c.args.text.now (lit< tt) (cc) (cc) (cc)) c.loop-cell.yielded _
    c.loop-cell.yielded_by _ _
    c.in-None.is c.next.ensures.steps in
    sym c.loop-cell.invariant.reason ∙ cells_reason-end fields (length c.loop-cell.yielded) end.1

pub returns-clause-row : goal.returns-clause-row
returns-clause-row c =
    let fields = fields_of c.args.text.now in
    let end = YieldsList-end (YieldsList-from_str_split 9 c.args.text.now (lit< tt) (cc) (cc) (cc)) c.loop-cell.yielded _
    c.loop-cell.yielded_by _ _
    c.in-None.is c.next.ensures.steps in
    left-all intervals c.loop-cell.row (row_of c.args.text.now) fields (length c.loop-cell.yielded) refl c.loop-cell.invariant.row end.1

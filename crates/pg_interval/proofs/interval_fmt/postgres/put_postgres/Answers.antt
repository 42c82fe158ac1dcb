use Rattle.std.proofs.Common.{◌≡◌, ◌∙◌, ap, sym, refl, arith, rules, [], drop, length, length-drop, append-nil}
use Rattle.std.proofs.lemmas.List.{drop_all}
use Rattle.std.proofs.Math.Seq.{drop-drop}
use Rattle.pg_interval.specs.NormalForm.{normal_form}
use Rattle.pg_interval.proofs.SpacedParts.{whole_spaced, zero_put, parts_put}
use Rattle.pg_interval.proofs.interval_fmt.postgres.put_postgres.Goals as goal

pub returns-then-parts-eq-LONGEST-clause-written : goal.returns-then-parts-eq-LONGEST-clause-written
returns-then-parts-eq-LONGEST-clause-written c =
    let n = normal_form c.args.interval in
    let none : drop 96 c.args.text.now ≡ [] = drop_all 96 c.args.text.now (omega arith) in
    let later : drop 96 c.put_date_parts-parts.new.text ≡ [] = drop_all 96 c.put_date_parts-parts.new.text (omega arith) in
    let all = whole_spaced n _ _ _ none c.put_time-time.ensures.written c.put_date_parts-parts.ensures.written in
    let empty = drop_all c.put_date_parts-parts.result c.put_date_parts-parts.new.text (omega arith) in
    c.put_word.ensures.written ∙ rw (later, none, zero_put n (sym all ∙ empty)) refl

pub returns-else-parts-eq-LONGEST-clause-written : goal.returns-else-parts-eq-LONGEST-clause-written
returns-else-parts-eq-LONGEST-clause-written c =
    let n = normal_form c.args.interval in
    let text = c.put_date_parts-parts.new.text in
    let start = c.put_date_parts-parts.result in
    let none : drop 96 c.args.text.now ≡ [] = drop_all 96 c.args.text.now (omega arith) in
    let all = whole_spaced n _ _ _ none c.put_time-time.ensures.written c.put_date_parts-parts.ensures.written in
    sym (drop-drop 1 start text) ∙ ap (drop 1) all
    ∙ parts_put n (λ e. c.if-parts-eq-LONGEST.false (omega (arith, length-drop start text, ap length (all ∙ e))))
    ∙ rw none (sym (append-nil _))

pub returns-then-parts-eq-LONGEST-clause-within : goal.returns-then-parts-eq-LONGEST-clause-within
returns-then-parts-eq-LONGEST-clause-within c = record { months = search rules; days = search rules; microseconds = search rules }

pub returns-else-parts-eq-LONGEST-clause-within : goal.returns-else-parts-eq-LONGEST-clause-within
returns-else-parts-eq-LONGEST-clause-within c = record { months = search rules; days = search rules; microseconds = search rules }

use Rattle.std.proofs.Common.{◌≤◌, ◌/◌, ◌%◌, ◌≡◌, ◌∙◌, ap, length, arith, rules, FitsSigned, w32}
use Rattle.std.specs.Prelude.{decimal, unsigned_abs}
use Rattle.std.specs.Int.{is_negative}
use Rattle.std.proofs.lemmas.Int.{to_z-of_z}
use Rattle.pg_interval.proofs.SpacedParts.{two_long, nine_long, ten_long, dates_put}
use Rattle.pg_interval.proofs.interval_fmt.postgres.put_date_parts.Goals as goal

pub put_part-day-requires-clause-room : goal.put_part-day-requires-clause-room
put_part-day-requires-clause-room c = omega (arith, ten_long)

pub put_part-mon-requires-clause-room : goal.put_part-mon-requires-clause-room
put_part-mon-requires-clause-room c =
    let days : length (decimal c.from-days.result) ≤ 10 = ten_long _ (omega arith) in
    let months : length (decimal c.from.result) ≤ 2 = two_long _ (omega arith) in
    omega arith

pub put_part-requires-clause-room : goal.put_part-requires-clause-room
put_part-requires-clause-room c =
    let days : length (decimal c.from-days.result) ≤ 10 = ten_long _ (omega arith) in
    let months : length (decimal c.from.result) ≤ 2 = two_long _ (omega arith) in
    let years : length (decimal c.from-2.result) ≤ 9 = nine_long _ (omega arith) in
    omega arith

pub returns-clause-place : goal.returns-clause-place
returns-clause-place c =
    let days : length (decimal c.from-days.result) ≤ 10 = ten_long _ (omega arith) in
    let months : length (decimal c.from.result) ≤ 2 = two_long _ (omega arith) in
    let years : length (decimal c.from-2.result) ≤ 9 = nine_long _ (omega arith) in
    (omega arith, omega arith)

pub returns-clause-written : goal.returns-clause-written
returns-clause-written c =
    let i = c.args.interval.now in
    let months_fit : FitsSigned w32 i.months = search rules in
    let days_fit : FitsSigned w32 i.days = search rules in
    let months = to_z-of_z w32 i.months months_fit in
    let days = to_z-of_z w32 i.days days_fit in
    let size : c.unsigned_abs-months.result ≡ unsigned_abs i.months = c.unsigned_abs-months.ensures.value ∙ ap unsigned_abs months in
    dates_put i _ _ _ _ _ _ _ _ _ (c.is_negative-negative.ensures ∙ ap is_negative months) (c.is_negative.ensures ∙ ap is_negative days)
    (c.from-2.ensures ∙ ap (λ n. n / 12) size) (c.from.ensures ∙ ap (λ n. n % 12) size)
    (c.from-days.ensures ∙ c.unsigned_abs.ensures.value ∙ ap unsigned_abs days)
    c.put_part-day.ensures.written c.put_part-mon.ensures.written c.put_part.ensures.written

-- A date that `jiff` has is one of ours, and the other way round.
use Rattle.std.proofs.Common.{◌<◌, ◌^◌, ◌∙◌, sym, true≢false, w8, w16, arith}
use Rattle.std.proofs.lemmas.Int.{to_z_pos}
use Rattle.rota_moments.proofs.DateLemmas.{is_date, day_of_date}
use Rattle.rota_moments.proofs.reading.read_day.Goals as goal

pub returns-in-Ok : goal.returns-in-Ok
returns-in-Ok c =
    let year : c.args.year < 2 ^ 15 = omega (arith, c.requires.year_in) in
    let month : c.args.month < 2 ^ 7 = omega (arith, c.requires.month_in) in
    let day : c.args.day < 2 ^ 7 = omega (arith, c.requires.day_in) in
    let year_is = to_z_pos w16 c.args.year year in
    let month_is = to_z_pos w8 c.args.month month in
    let day_is = to_z_pos w8 c.args.day day in
    let value = c.in-Ok.ensures.value in
    day_of_date c.in-Ok.date c.day_of.result c.args.year c.args.month c.args.day c.day_of.ensures.value
    (value.0 ∙ year_is, value.1 ∙ month_is, value.2 ∙ day_is)

pub returns-in-Err : goal.returns-in-Err
returns-in-Err c = λ date h same.
    let year : c.args.year < 2 ^ 15 = omega (arith, c.requires.year_in) in
    let month : c.args.month < 2 ^ 7 = omega (arith, c.requires.month_in) in
    let day : c.args.day < 2 ^ 7 = omega (arith, c.requires.day_in) in
    let year_is = to_z_pos w16 c.args.year year in
    let month_is = to_z_pos w8 c.args.month month in
    let day_is = to_z_pos w8 c.args.day day in
    true≢false (sym (c.in-Err.ensures.succeeds.1 (rw (
      year_is,
      month_is,
      day_is,
    ) (is_date date c.args.year c.args.month c.args.day h same))))

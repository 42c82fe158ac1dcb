use Rattle.std.proofs.Common.{◌∙◌, ap, sym}
use Rattle.pg_interval.specs.Reader.{decimal_from, time_unit, so_far, tallied}
use Rattle.pg_interval.specs.FieldReader.{int_out_of_range, int_read}
use Rattle.pg_interval.proofs.ReadSums.{tallied_fits}
use Rattle.pg_interval.proofs.interval_parse.parts.Totals.take_whole.Goals as goal

pub returns-then-fits-clause-sums : goal.returns-then-fits-clause-sums
returns-then-fits-clause-sums c =
    let u = time_unit c.args.unit in
    let sum = so_far c.args.self.now in
    c.add.ensures.sums
    ∙ sym (tallied_fits int_out_of_range u (decimal_from c.in-Ok.decimal) sum (sym c.fits.ensures ∙ c.if-fits.true))
    ∙ ap (λ n. tallied int_out_of_range u (int_read n) sum) (sym c.in-Ok.is)

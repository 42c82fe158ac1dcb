use Rattle.std.proofs.Common.{◌∙◌, ap, sym}
use Rattle.pg_interval.specs.Pairs.{checked}
use Rattle.pg_interval.specs.Reader.{decimal_from, number_read, time_unit, so_far, tallied}
use Rattle.interval_errors.specs.declared.DecimalError.TheVariants.{OutOfRange}
use Rattle.interval_errors.specs.declared.ParseError.TheVariants.{ParseFloatErr}
use Rattle.pg_interval.proofs.ReadSums.{tallied_fits}
use Rattle.pg_interval.proofs.interval_parse.parts.Totals.take.Goals as goal

pub returns-then-fits-clause-sums : goal.returns-then-fits-clause-sums
returns-then-fits-clause-sums c =
    let u = time_unit c.args.unit in
    let sum = so_far c.args.self.now in
    c.add.ensures.sums
    ∙ sym (tallied_fits (ParseFloatErr OutOfRange) u (decimal_from c.in-Ok.decimal) sum (sym c.fits.ensures ∙ c.if-fits.true))
    ∙ ap (λ n. tallied (ParseFloatErr OutOfRange) u (checked (number_read n)) sum) (sym c.in-Ok.is)

use Rattle.std.proofs.Common.{◌∙◌, ap}
use Rattle.pg_interval.specs.Printed.{verbose_text}
use Rattle.pg_interval.specs.Reading.{PostgresVerbose}
use Rattle.pg_interval.proofs.VerboseReads.{verbose_stands}
use Rattle.pg_interval.proofs.Stands.{stands_from, distinct_from}
use Rattle.pg_interval.proofs.pg_interval.Interval.postgres_verbose_text.Goals as goal

pub returns : goal.returns
returns c =
    let i = c.args.self.now in
    let within = c.in_normal_form.ensures.within in
    let same = c.postgres_verbose_text.ensures.printed ∙ ap verbose_text c.in_normal_form.ensures.form in
    record {
      printed = same;
      stands = stands_from PostgresVerbose _ i (verbose_stands i within) same;
      distinct = distinct_from PostgresVerbose _ i verbose_stands within same;
      short = c.postgres_verbose_text.ensures.short;
      utf8 = c.postgres_verbose_text.ensures.utf8;
    }

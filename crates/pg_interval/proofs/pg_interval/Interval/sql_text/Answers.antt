use Rattle.std.proofs.Common.{◌∙◌, ap}
use Rattle.pg_interval.specs.Printed.{sql_text}
use Rattle.pg_interval.specs.Reading.{SqlStandard}
use Rattle.pg_interval.proofs.SqlReads.{sql_stands}
use Rattle.pg_interval.proofs.Stands.{stands_from, distinct_from}
use Rattle.pg_interval.proofs.pg_interval.Interval.sql_text.Goals as goal

pub returns : goal.returns
returns c =
    let i = c.args.self.now in
    let within = c.in_normal_form.ensures.within in
    let same = c.sql_text.ensures.printed ∙ ap sql_text c.in_normal_form.ensures.form in
    record {
      printed = same;
      stands = stands_from SqlStandard _ i (sql_stands i within) same;
      distinct = distinct_from SqlStandard _ i sql_stands within same;
      short = c.sql_text.ensures.short;
      utf8 = c.sql_text.ensures.utf8;
    }

use Rattle.std.proofs.Common.{◌∙◌, ap}
use Rattle.pg_interval.specs.Printed.{iso_text}
use Rattle.pg_interval.specs.Reading.{Iso8601}
use Rattle.pg_interval.proofs.IsoReads.{iso_stands}
use Rattle.pg_interval.proofs.Stands.{stands_from, distinct_from}
use Rattle.pg_interval.proofs.pg_interval.Interval.iso_8601_text.Goals as goal

pub returns : goal.returns
returns c =
    let i = c.args.self.now in
    let within = c.in_normal_form.ensures.within in
    let same = c.iso_8601_text.ensures.printed ∙ ap iso_text c.in_normal_form.ensures.form in
    record {
      printed = same;
      stands = stands_from Iso8601 _ i (iso_stands i within) same;
      distinct = distinct_from Iso8601 _ i iso_stands within same;
      short = c.iso_8601_text.ensures.short;
      utf8 = c.iso_8601_text.ensures.utf8;
    }

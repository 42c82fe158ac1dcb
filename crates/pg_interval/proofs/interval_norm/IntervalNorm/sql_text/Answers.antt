use Rattle.std.proofs.Common.{◌∙◌, sym, subst, refl, ap, length, length-drop, arith}
use Rattle.std.specs.Str.{IsUtf8}
use Rattle.pg_interval.proofs.PrintedBytes.{sql_utf8}
use Rattle.pg_interval.proofs.Widths.{normal_widths}
use Rattle.pg_interval.proofs.PutDigits.{whole_put}
use Rattle.pg_interval.proofs.interval_norm.IntervalNorm.sql_text.Goals as goal

pub put_sql-start-requires : goal.put_sql-start-requires
put_sql-start-requires c = record { widths = normal_widths _ c.requires; room = (omega arith, omega arith) }

pub new-requires-clause-utf8 : goal.new-requires-clause-utf8
new-requires-clause-utf8 c = subst IsUtf8 (sym (whole_put _ _ _ c.put_sql-start.ensures.written refl)) (sql_utf8 _ c.requires)

pub returns : goal.returns
returns c =
    let printed = c.new.ensures ∙ whole_put _ _ _ c.put_sql-start.ensures.written refl in
    record { printed = printed; short = omega (arith, simp length-drop at (ap length c.new.ensures)); utf8 = subst IsUtf8 (sym printed) (sql_utf8 _ c.requires) }

use Rattle.std.proofs.Common.{◌∙◌, sym, subst, refl, ap, length, length-drop, arith}
use Rattle.std.specs.Str.{IsUtf8}
use Rattle.pg_interval.proofs.PrintedBytes.{verbose_utf8}
use Rattle.pg_interval.proofs.Widths.{normal_widths}
use Rattle.pg_interval.proofs.PutDigits.{whole_put}
use Rattle.pg_interval.proofs.interval_norm.IntervalNorm.postgres_verbose_text.Goals as goal

pub put_verbose-start-requires : goal.put_verbose-start-requires
put_verbose-start-requires c = record { widths = normal_widths _ c.requires; room = (omega arith, omega arith) }

pub new-requires-clause-utf8 : goal.new-requires-clause-utf8
new-requires-clause-utf8 c = subst IsUtf8 (sym (whole_put _ _ _ c.put_verbose-start.ensures.written refl)) (verbose_utf8 _ c.requires)

pub returns : goal.returns
returns c =
    let printed = c.new.ensures ∙ whole_put _ _ _ c.put_verbose-start.ensures.written refl in
    record { printed = printed; short = omega (arith, simp length-drop at (ap length c.new.ensures)); utf8 = subst IsUtf8 (sym printed) (verbose_utf8 _ c.requires) }

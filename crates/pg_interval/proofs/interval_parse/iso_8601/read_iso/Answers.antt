use Rattle.std.proofs.Common.{◌∙◌, ap, sym, arith}
use Rattle.pg_interval.specs.WordReader.{answered}
use Rattle.pg_interval.proofs.ReadItems.{iso_short, iso_broken_of, iso_whole_of}
use Rattle.pg_interval.proofs.interval_parse.iso_8601.read_iso.Goals as goal

pub returns-then-text-lt2 : goal.returns-then-text-lt2
returns-then-text-lt2 c = sym (iso_short c.args.text.now (omega arith))

pub returns-then-text-ne80 : goal.returns-then-text-ne80
returns-then-text-ne80 c = sym (iso_broken_of c.args.text.now (omega arith) c.if-text-ne80.true)

pub returns : goal.returns
returns c = ap answered c.read_items.ensures
    ∙ sym (iso_whole_of c.args.text.now c.split_at.result.1.now (omega arith) c.if-text-ne80.false c.split_at.ensures.back)

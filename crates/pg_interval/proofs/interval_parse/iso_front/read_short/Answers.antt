use Rattle.std.proofs.Common.{◌≡◌, ◌∙◌, ap, sym, rules, to_z, of_z, w64, arith}
use Rattle.std.proofs.Math.Facts.{to_z-of_z}
use Rattle.pg_interval.specs.IsoText.{iso_pairs}
use Rattle.pg_interval.specs.Reading.{Iso8601, of_shape}
use Rattle.pg_interval.specs.WordReader.{answered}
use Rattle.pg_interval.specs.FrontReader.{sums_of}
use Rattle.pg_interval.proofs.NormalFacts.{same_interval}
use Rattle.pg_interval.proofs.ReadItems.{iso_whole_of}
use Rattle.pg_interval.proofs.FrontReads.{read_within}
use Rattle.pg_interval.proofs.interval_parse.iso_front.read_short.Goals as goal

pub returns : goal.returns
returns c =
    let text = c.args.text.now in
    let rest = c.split_at.result.1.now in
    let s = c.in-Some.sums in
    let m : s.months ≡ to_z w64 (of_z w64 s.months) = sym (to_z-of_z {w = w64} {z = s.months} (search rules)) in
    let d : s.days ≡ to_z w64 (of_z w64 s.days) = sym (to_z-of_z {w = w64} {z = s.days} (search rules)) in
    let u : s.microseconds ≡ to_z w64 (of_z w64 s.microseconds) = sym (to_z-of_z {w = w64} {z = s.microseconds} (search rules)) in
    read_within (of_shape Iso8601 (iso_pairs text)) c.interval_within.result (sums_of s) _
    (iso_whole_of text rest (omega arith) (grind arith) c.split_at.ensures.back
    ∙ ap answered c.in-Some.ensures)
    (same_interval _ _ m d u)
    c.interval_within.ensures

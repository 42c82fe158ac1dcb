use Rattle.std.proofs.Common.{◌∙◌, ap, sym, not}
use Rattle.std.specs.Prelude.{Ok}
use Rattle.pg_interval.specs.Reader.{decimal_from, time_unit, joined, so_far, so_far_of, sum_left, with_if}
use Rattle.pg_interval.proofs.ReadSums.{add_sums, size_worth, signed}
use Rattle.pg_interval.proofs.interval_parse.parts.Totals.add.Goals as goal

pub returns-clause-sums : goal.returns-clause-sums
returns-clause-sums c =
    let old = c.args.self.now in
    let n = c.args.number in
    ap (λ p. so_far_of old.refusal (sum_left p c.with-self-2.result)) c.with-self.ensures
    ∙ ap (λ m. so_far_of old.refusal (sum_left (with_if (not n.negative) old.plus c.size-size.result) m)) c.with-self-2.ensures
    ∙ add_sums old.refusal old.plus old.minus c.size-size.result n.negative
    ∙ ap (λ s. joined (so_far old) (Ok (signed n.negative s))) c.size-size.ensures.size
    ∙ ap (λ w. joined (so_far old) (Ok w)) (sym (size_worth (time_unit c.args.unit) (decimal_from n)))

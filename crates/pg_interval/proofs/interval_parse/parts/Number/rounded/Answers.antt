use Rattle.std.proofs.Common.{ℕ, ◌+◌, ◌*◌, ◌/◌, ◌^◌, ◌<◌, ◌≤◌, arith, lit<, rules, Fits, w64}
use Rattle.std.proofs.Math.Nat.{one-le-pow, div-le_self, mul-le-mul_left}
use Rattle.pg_interval.proofs.interval_parse.parts.Number.rounded.Goals as goal

pub nonzero_div-result : goal.nonzero_div-result
nonzero_div-result c = let p : 1 ≤ 10 ^ c.args.self.places = one-le-pow c.args.self.places 10 (lit< tt) in omega arith

small_quotient : (p f s q : ℕ) → f < 2 ^ 64 → s < 2 ^ 64 → (2 * p * f + s) / q ≤ p * 2 ^ 65 + 2 ^ 64
small_quotient p f s q a b = let d = div-le_self (2 * p * f + s) q in let m : p * f ≤ p * 2 ^ 64 = mul-le-mul_left p (omega arith) in
    omega arith

pub returns-clause-bound : goal.returns-clause-bound
returns-clause-bound c =
    let f : Fits w64 c.args.self.fraction = search rules in
    let s : Fits w64 c.pow-scale.result = search rules in
    rw (c.from.ensures, c.from-2.ensures, c.from-3.ensures)
    (small_quotient c.args.parts c.args.self.fraction c.pow-scale.result (2 * c.from-4.result) f.fits s.fits)

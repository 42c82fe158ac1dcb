-- The moment of six numbers.
use Rattle.std.proofs.Common.{◌≡◌, ap, arith, ◌/◌, ◌%◌, w32, FitsSigned}
use Rattle.std.proofs.lemmas.Int.{to_z-of_z}
use Rattle.jiff_core.proofs.SignedLemmas.{signed_arith}
use Rattle.rota_moments.specs.Texts.{Clock}
use Rattle.rota_moments.proofs.ReadingLemmas.{moment_made}
use Rattle.rota_moments.proofs.reading.moment_of.Goals as goal
use Rattle.rota_moments.proofs.reading.moment_of.Goals.{then-fields-gt23-via-then-fields-gt23, then-fields-gt23-via-else-fields-gt23+then-fields-gt59, then-fields-gt23-via-else-fields-gt23+else-fields-gt59+then-fields-gt59-2}

pub returns-then-fields-gt23-clause-value : goal.returns-then-fields-gt23-clause-value
returns-then-fields-gt23-clause-value c = λ m h same.
    let bound = h.1 in
    let hour : m.micro / 3600000000 ≡ c.args.fields.hour = ap (λ (k : Clock). k.hour) same.1 in
    let minute : m.micro / 60000000 % 60 ≡ c.args.fields.minute = ap (λ (k : Clock). k.minute) same.1 in
    let second : m.micro / 1000000 % 60 ≡ c.args.fields.second = ap (λ (k : Clock). k.second) same.1 in
    elim c.then-fields-gt23.branch [
      | then-fields-gt23-via-then-fields-gt23 w ↦ omega (arith, w.if-fields-gt23.true)
      | then-fields-gt23-via-else-fields-gt23+then-fields-gt59 w ↦ omega (arith, w.if-fields-gt59.true)
      | then-fields-gt23-via-else-fields-gt23+else-fields-gt59+then-fields-gt59-2 w ↦ omega (arith, w.if-fields-gt59-2.true)
    ]

pub returns-in-None-clause-value : goal.returns-in-None-clause-value
returns-in-None-clause-value c = λ m h same. c.in-None.ensures m.day h.0 same.0

pub returns-in-Some-clause-value : goal.returns-in-Some-clause-value
returns-in-Some-clause-value c =
    let is = c.in-Some.ensures in
    let fits : FitsSigned w32 c.in-Some.day = omega (arith, signed_arith, is.0.0, is.0.1) in
    simp to_z-of_z (moment_made c.args.fields c.in-Some.day _ (omega arith) (omega arith) (omega arith) c.from-micro.ensures is)

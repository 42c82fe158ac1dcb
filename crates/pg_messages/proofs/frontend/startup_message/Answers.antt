use Rattle.std.proofs.Common.{Some, [], refl, ap, arith, rules, inl, inr}
use Rattle.pg_messages.specs.declared.startup.SslNegotiationKind.TheVariants.{PostgresSsl, PostgresGss}
use Rattle.pg_messages.specs.declared.frontend.PgWireFrontendMessage.TheVariants as client
use Rattle.pg_messages.specs.Reading.{message_at, told_as, bare, cancel_of, whole, all_parameters_at, startup_packet, startup_readings}
use Rattle.pg_messages.proofs.Readings.{error_told, error_of_none, bare_of_some, none_beside}
use Rattle.pg_messages.proofs.frontend.startup_message.Goals as goal

pub returns-in_err-parameters-in-196608 : goal.returns-in_err-parameters-in-196608
unfolding message_at
returns-in_err-parameters-in-196608 c =
    let told = error_told (startup_packet c.args.code) (whole (all_parameters_at c.args.body.now)) c.in_err-parameters-in-196608.field-0.0
    c.from_residual.result c.from_residual.ensures.1 c.in_err-parameters-in-196608.ensures in
    elim c.in-196608.is [ inl e ↦ rw e (rw e at told) | inr e ↦ rw e (rw e at told) ]

pub returns-in_err-cancel_request-in-80877102 : goal.returns-in_err-cancel_request-in-80877102
unfolding message_at
returns-in_err-cancel_request-in-80877102 c =
    rw c.in-80877102.is (error_told client.CancelRequest (cancel_of c.args.body.now) c.in_err-cancel_request-in-80877102.field-0.0
    c.from_residual-in_err-cancel_request-in-80877102.result c.from_residual-in_err-cancel_request-in-80877102.ensures.1
    c.in_err-cancel_request-in-80877102.ensures)

pub returns-in_err-empty-in-80877103 : goal.returns-in_err-empty-in-80877103
unfolding message_at
returns-in_err-empty-in-80877103 c =
    let m = client.SslNegotiation PostgresSsl in
    rw c.in-80877103.is (error_of_none (bare c.args.body.now m) c.in_err-empty-in-80877103.field-0.0
    c.from_residual-in_err-empty-in-80877103.result c.from_residual-in_err-empty-in-80877103.ensures.1
    (bare_of_some c.args.body.now m c.in_err-empty-in-80877103.ensures.err))

pub returns-in_err-empty-in-80877104 : goal.returns-in_err-empty-in-80877104
unfolding message_at
returns-in_err-empty-in-80877104 c =
    let m = client.SslNegotiation PostgresGss in
    rw c.in-80877104.is (error_of_none (bare c.args.body.now m) c.in_err-empty-in-80877104.field-0.0
    c.from_residual-in_err-empty-in-80877104.result c.from_residual-in_err-empty-in-80877104.ensures.1
    (bare_of_some c.args.body.now m c.in_err-empty-in-80877104.ensures.err))

pub returns-in_ok-parameters-in-196608 : goal.returns-in_ok-parameters-in-196608
unfolding message_at
returns-in_ok-parameters-in-196608 c =
    elim c.in-196608.is [
      | inl e ↦ rw e (ap (told_as (startup_packet 196608)) c.in_ok-parameters-in-196608.ensures)
      | inr e ↦ rw e (ap (told_as (startup_packet 196610)) c.in_ok-parameters-in-196608.ensures)
    ]

pub returns-in_ok-cancel_request-in-80877102 : goal.returns-in_ok-cancel_request-in-80877102
unfolding message_at
returns-in_ok-cancel_request-in-80877102 c =
    rw c.in-80877102.is (ap (told_as client.CancelRequest) c.in_ok-cancel_request-in-80877102.ensures)

pub returns-in_ok-empty-in-80877103 : goal.returns-in_ok-empty-in-80877103
unfolding message_at
returns-in_ok-empty-in-80877103 c = rw (c.in-80877103.is, c.in_ok-empty-in-80877103.ensures.ok) refl

pub returns-in_ok-empty-in-80877104 : goal.returns-in_ok-empty-in-80877104
unfolding message_at
returns-in_ok-empty-in-80877104 c = rw (c.in-80877104.is, c.in_ok-empty-in-80877104.ensures.ok) refl

pub returns-in_default : goal.returns-in_default
unfolding message_at
returns-in_default c =
    rw c.new-parameters.ensures (none_beside c.args.code (Some (startup_packet c.args.code [])) (startup_readings c.args.body.now)
    (search rules, (search rules, (omega arith, (omega arith, (omega arith, tt))))))

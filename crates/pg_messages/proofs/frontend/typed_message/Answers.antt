use Rattle.std.proofs.Common.{None, ap, arith, rules}
use Rattle.pg_messages.specs.declared.frontend.PgWireFrontendMessage.TheVariants as client
use Rattle.pg_messages.specs.Reading.{message_at, told_as, whole, query_at, parse_at, bind_at, describe_at, execute_at, close_at, typed_readings}
use Rattle.pg_messages.proofs.Readings.{error_told, bare_told, bare_fails, none_beside}
use Rattle.pg_messages.proofs.frontend.typed_message.Goals as goal
use Rattle.pg_messages.proofs.frontend.typed_message.Goals.{in_default-via-in-72+else-is_empty, in_default-via-in-83+else-is_empty-2, in_default-via-in-88+else-is_empty-3, in_default-via-in-99+else-is_empty-4, in_default-via-in_default-1}

pub returns-in_err-whole-in-81 : goal.returns-in_err-whole-in-81
unfolding message_at
returns-in_err-whole-in-81 c =
    rw c.in-81.is (error_told client.Query (whole (query_at c.args.body.now)) c.in_err-whole-in-81.field-0.0 c.from_residual.result
    c.from_residual.ensures.1 c.in_err-whole-in-81.ensures)

pub returns-in_err-whole-in-80 : goal.returns-in_err-whole-in-80
unfolding message_at
returns-in_err-whole-in-80 c =
    rw c.in-80.is (error_told client.Parse (whole (parse_at c.args.body.now)) c.in_err-whole-in-80.field-0.0
    c.from_residual-in_err-whole-in-80.result c.from_residual-in_err-whole-in-80.ensures.1 c.in_err-whole-in-80.ensures)

pub returns-in_err-whole-in-66 : goal.returns-in_err-whole-in-66
unfolding message_at
returns-in_err-whole-in-66 c =
    rw c.in-66.is (error_told client.Bind (whole (bind_at c.args.body.now)) c.in_err-whole-in-66.field-0.0
    c.from_residual-in_err-whole-in-66.result c.from_residual-in_err-whole-in-66.ensures.1 c.in_err-whole-in-66.ensures)

pub returns-in_err-whole-in-68 : goal.returns-in_err-whole-in-68
unfolding message_at
returns-in_err-whole-in-68 c =
    rw c.in-68.is (error_told client.Describe (whole (describe_at c.args.body.now)) c.in_err-whole-in-68.field-0.0
    c.from_residual-in_err-whole-in-68.result c.from_residual-in_err-whole-in-68.ensures.1 c.in_err-whole-in-68.ensures)

pub returns-in_err-whole-in-69 : goal.returns-in_err-whole-in-69
unfolding message_at
returns-in_err-whole-in-69 c =
    rw c.in-69.is (error_told client.Execute (whole (execute_at c.args.body.now)) c.in_err-whole-in-69.field-0.0
    c.from_residual-in_err-whole-in-69.result c.from_residual-in_err-whole-in-69.ensures.1 c.in_err-whole-in-69.ensures)

pub returns-in_err-whole-in-67 : goal.returns-in_err-whole-in-67
unfolding message_at
returns-in_err-whole-in-67 c =
    rw c.in-67.is (error_told client.Close (whole (close_at c.args.body.now)) c.in_err-whole-in-67.field-0.0
    c.from_residual-in_err-whole-in-67.result c.from_residual-in_err-whole-in-67.ensures.1 c.in_err-whole-in-67.ensures)

pub returns-in_ok-whole-in-81 : goal.returns-in_ok-whole-in-81
unfolding message_at
returns-in_ok-whole-in-81 c = rw c.in-81.is (ap (told_as client.Query) c.in_ok-whole-in-81.ensures)

pub returns-in_ok-whole-in-80 : goal.returns-in_ok-whole-in-80
unfolding message_at
returns-in_ok-whole-in-80 c = rw c.in-80.is (ap (told_as client.Parse) c.in_ok-whole-in-80.ensures)

pub returns-in_ok-whole-in-66 : goal.returns-in_ok-whole-in-66
unfolding message_at
returns-in_ok-whole-in-66 c = rw c.in-66.is (ap (told_as client.Bind) c.in_ok-whole-in-66.ensures)

pub returns-in_ok-whole-in-68 : goal.returns-in_ok-whole-in-68
unfolding message_at
returns-in_ok-whole-in-68 c = rw c.in-68.is (ap (told_as client.Describe) c.in_ok-whole-in-68.ensures)

pub returns-in_ok-whole-in-69 : goal.returns-in_ok-whole-in-69
unfolding message_at
returns-in_ok-whole-in-69 c = rw c.in-69.is (ap (told_as client.Execute) c.in_ok-whole-in-69.ensures)

pub returns-in_ok-whole-in-67 : goal.returns-in_ok-whole-in-67
unfolding message_at
returns-in_ok-whole-in-67 c = rw c.in-67.is (ap (told_as client.Close) c.in_ok-whole-in-67.ensures)

pub returns-in-72 : goal.returns-in-72
unfolding message_at
returns-in-72 c = rw c.in-72.is (bare_told c.args.body.now (client.Flush (record {})) c.if-is_empty.ensures)

pub returns-in-83 : goal.returns-in-83
unfolding message_at
returns-in-83 c = rw c.in-83.is (bare_told c.args.body.now (client.PgSync (record {})) c.if-is_empty-2.ensures)

pub returns-in-88 : goal.returns-in-88
unfolding message_at
returns-in-88 c = rw c.in-88.is (bare_told c.args.body.now (client.Terminate (record {})) c.if-is_empty-3.ensures)

pub returns-in-99 : goal.returns-in-99
unfolding message_at
returns-in-99 c = rw c.in-99.is (bare_told c.args.body.now (client.CopyDone (record {})) c.if-is_empty-4.ensures)

pub returns-in_default : goal.returns-in_default
unfolding message_at
returns-in_default c =
    let body = c.args.body.now in
    elim c.in_default.branch [
      | in_default-via-in-72+else-is_empty w ↦ rw w.in-72.is (bare_fails body (client.Flush (record {})) w.if-is_empty.ensures)
      | in_default-via-in-83+else-is_empty-2 w ↦ rw w.in-83.is (bare_fails body (client.PgSync (record {})) w.if-is_empty-2.ensures)
      | in_default-via-in-88+else-is_empty-3 w ↦ rw w.in-88.is (bare_fails body (client.Terminate (record {})) w.if-is_empty-3.ensures)
      | in_default-via-in-99+else-is_empty-4 w ↦ rw w.in-99.is (bare_fails body (client.CopyDone (record {})) w.if-is_empty-4.ensures)
      | in_default-via-in_default-1 w ↦
          none_beside c.args.kind None (typed_readings body) (
            omega arith,
            (
              omega arith,
              (
                omega arith,
                (
                  omega arith,
                  (
                    omega arith,
                    (omega arith, (search rules, (search rules, (omega arith, (omega arith, (omega arith, (omega arith, tt))))))),
                  ),
                ),
              ),
            ),
          )
    ]

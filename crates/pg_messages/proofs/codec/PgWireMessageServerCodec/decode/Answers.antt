use Rattle.std.proofs.Common.{subst}
use Rattle.std.proofs.lemmas.Result.{err_from_is_err_and}
use Rattle.pg_messages.specs.declared.codec.FrameError.TheVariants as errors
use Rattle.pg_messages.specs.Frames.{IsBad}
use Rattle.pg_messages.proofs.FrameLaws.{same_error}
use Rattle.pg_messages.proofs.codec.PgWireMessageServerCodec.decode.Goals as goal

pub returns-in_err-found-clause-bad : goal.returns-in_err-found-clause-bad
returns-in_err-found-clause-bad c =
    let p = err_from_is_err_and c.from_residual.result c.from_residual.ensures.1 in
    rw (p.1, p.2) (λ e. subst (IsBad c.args.self.now.context.awaiting_startup) c.as_slice.ensures
    (c.in_err-found.ensures.bad (same_error c.in_err-found.field-0.0 errors.Bad e)))

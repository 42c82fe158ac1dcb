use Rattle.std.proofs.Common.{◌≡◌, rules, slice_index}
use Rattle.cursor_session.proofs.Heads.{no_command, none_to}
use Rattle.cursor_session.proofs.frames.command_asked.Goals as goal

pub returns-clause-none : goal.returns-clause-none
returns-clause-none c =
    let first : slice_index c.args.bytes.now 0 ≡ 81 = search rules in
    none_to c.command_in.result
    (no_command c.args.state c.args.bytes.now c.requires.header (λ ready good. c.requires.query ready first good)) c.command_in.ensures.none

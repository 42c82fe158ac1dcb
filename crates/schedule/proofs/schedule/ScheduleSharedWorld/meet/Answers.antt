use Rattle.std.proofs.Common.{ap, sym, ◌∙◌}
use Rattle.asked_queries.specs.Seen.{seen}
use Rattle.schedule.proofs.ShortQueries.{asked_short}
use Rattle.schedule.proofs.schedule.ScheduleSharedWorld.meet.Goals as goal

pub sheet_of_error-requires : goal.sheet_of_error-requires
sheet_of_error-requires over c =
    c.in-Err.ensures.answerable (asked_short _ c.args.message.now c.in-Simple.query.now c.requires.given
    (sym c.asked_by.ensures ∙ ap seen c.in-Simple.is))

-- What was asked for, as contracts see it.
use Rattle.pg_portal.specs.Told.{bound_of}
use Rattle.asked_queries.specs.Asking.{AskedFor, Nothing, Simple, Extended}
use Rattle.asked_queries.specs.declared.asking.Asked.{Asked}
use Rattle.asked_queries.specs.declared.asking.Asked.TheVariants as ask

abbrev pub seen : {S R : Type 0} → Asked S R → AskedFor S
seen ask.Nothing = Nothing
seen (ask.Simple text) = Simple text.now
seen (ask.Extended portal) = Extended (bound_of portal.now)

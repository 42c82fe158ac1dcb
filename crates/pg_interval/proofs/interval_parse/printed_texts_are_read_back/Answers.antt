use Rattle.pg_interval.proofs.PostgresReads.{postgres_stands}
use Rattle.pg_interval.proofs.VerboseReads.{verbose_stands}
use Rattle.pg_interval.proofs.IsoReads.{iso_stands}
use Rattle.pg_interval.proofs.SqlReads.{sql_stands}
use Rattle.pg_interval.proofs.interval_parse.printed_texts_are_read_back.Goals as goal

pub returns-clause-postgres : goal.returns-clause-postgres
returns-clause-postgres c = postgres_stands

pub returns-clause-verbose : goal.returns-clause-verbose
returns-clause-verbose c = verbose_stands

pub returns-clause-iso : goal.returns-clause-iso
returns-clause-iso c = iso_stands

pub returns-clause-sql : goal.returns-clause-sql
returns-clause-sql c = sql_stands

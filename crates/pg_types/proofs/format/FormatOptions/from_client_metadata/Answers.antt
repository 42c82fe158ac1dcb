use Rattle.std.proofs.Common.{rules}
use Rattle.std.proofs.lemmas.Int.{to_z-of_z}
use Rattle.std.specs.Int.{w8}
use Rattle.pg_types.proofs.format.FormatOptions.from_client_metadata.Goals as goal

pub returns-clause-date_style : goal.returns-clause-date_style
returns-clause-date_style c = c.in_ok-setting_or.ensures

pub returns-clause-interval_style : goal.returns-clause-interval_style
returns-clause-interval_style c = c.in_ok-setting_or-2.ensures

pub returns-clause-bytea_output : goal.returns-clause-bytea_output
returns-clause-bytea_output c = c.in_ok-setting_or-3.ensures

pub returns-clause-time_zone : goal.returns-clause-time_zone
returns-clause-time_zone c = c.in_ok-copy_of.ensures

pub returns-clause-float_digits : goal.returns-clause-float_digits
returns-clause-float_digits c =
    rw (to_z-of_z w8 c.float_digits.result (search rules)) (rw c.in_ok-setting.ensures at c.float_digits.ensures)

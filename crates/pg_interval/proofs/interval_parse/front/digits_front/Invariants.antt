use Rattle.std.proofs.Common.{◌≡◌, ◌≤◌, take, true}
use Rattle.std.specs.List.{list_all}
use Rattle.std.specs.Str.Parse.{digits_value}
use Rattle.pg_interval.specs.Texts.{is_digit}
use Rattle.pg_interval.proofs.interval_parse.front.digits_front.Given as goal

abbrev pub invariant-loop-place : goal.invariant-loop-place
invariant-loop-place l = record {
  value : l.place ≤ 18 → l.value ≡ digits_value 10 (take l.place l.text);
  digits : list_all is_digit (take l.place l.text) ≡ true;
}

use Rattle.std.proofs.Common.{◌≡◌, length}
use Rattle.std.specs.Str.{IsUtf8}
use Rattle.std.specs.String.{string_bytes}
use Rattle.shift_orders.specs.Stops.{tokens_within}
use Rattle.shift_orders.proofs.Scanning.{onto_quoted}
use Rattle.shift_orders.proofs.tokens.quoted.Given as goal

abbrev pub invariant-pieces : goal.invariant-pieces
invariant-pieces l = record {
  utf8 : IsUtf8 l.rest;
  same : onto_quoted (string_bytes l.content) (tokens_within l.rest) ≡ tokens_within l.text;
}

abbrev pub decreases-pieces : goal.decreases-pieces
decreases-pieces l = length l.rest

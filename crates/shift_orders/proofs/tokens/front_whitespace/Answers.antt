use Rattle.std.proofs.Common.{refl, ◌∙◌, sym, arith, ◌<◌, length, get_or, ◌≡◌, true}
use Rattle.std.proofs.lemmas.Str.{IsCharBoundary-start, IsCharBoundary-after_ascii}
use Rattle.pg_results.specs.Texts.{is_whitespace}
use Rattle.shift_orders.proofs.Scanning.{space_step, whitespace_below_128}
use Rattle.shift_orders.proofs.tokens.front_whitespace.Goals as goal

pub loop-start-init : goal.loop-start-init
loop-start-init c = record { within = omega arith; boundary = IsCharBoundary-start _ c.as_bytes-bytes.ensures.utf8; same = refl }

pub loop-start-preserved : goal.loop-start-preserved
loop-start-preserved c =
    let bytes = c.as_bytes-bytes.result.now in
    let i = c.loop-start.start in
    let inside : i < length bytes = omega arith in
    let space : is_whitespace (get_or bytes i 0) ≡ true = sym c.is_whitespace.ensures ∙ c.if-is_whitespace.true in
    record {
      within = omega arith;
      boundary = IsCharBoundary-after_ascii bytes i c.as_bytes-bytes.ensures.utf8 inside (whitespace_below_128 _ space);
      same = space_step bytes i inside space ∙ c.loop-start.invariant.same;
    }

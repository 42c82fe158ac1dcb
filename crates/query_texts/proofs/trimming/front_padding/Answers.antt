use Rattle.std.proofs.Common.{refl, ◌∙◌, sym, arith, ◌<◌, length, get_or, ◌≡◌, true}
use Rattle.std.proofs.lemmas.Str.{IsCharBoundary-start, IsCharBoundary-after_ascii}
use Rattle.query_texts.proofs.Padding.{front_step, padding_below_128}
use Rattle.pg_results.specs.Texts.{is_padding}
use Rattle.query_texts.proofs.trimming.front_padding.Goals as goal

pub loop-start-init : goal.loop-start-init
loop-start-init c = record { within = omega arith; boundary = IsCharBoundary-start _ c.as_bytes-bytes.ensures.utf8; same = refl }

pub loop-start-preserved : goal.loop-start-preserved
loop-start-preserved c =
    let bytes = c.as_bytes-bytes.result.now in
    let i = c.loop-start.start in
    let inside : i < length bytes = omega arith in
    let padding : is_padding (get_or bytes i 0) ≡ true = sym c.is_padding.ensures ∙ c.if-is_padding.true in
    record {
      within = omega arith;
      boundary = IsCharBoundary-after_ascii bytes i c.as_bytes-bytes.ensures.utf8 inside (padding_below_128 _ padding);
      same = front_step bytes i inside padding ∙ c.loop-start.invariant.same;
    }

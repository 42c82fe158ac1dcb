use Rattle.std.proofs.Common.{◌≤◌, ◌-◌, ℕ, List, ◌++◌, Option, Some, None, length, take, drop, ap, ◌∙◌, arith, append_assoc, length-drop}
use Rattle.std.proofs.Math.Seq.{take-add}
use Rattle.std.proofs.lemmas.List.{take_rest}
use Rattle.std.specs.Io.KnownBytes.{Appends}
use Rattle.pg_streams.proofs.adapters.write_whole.Goals as goal

-- what is appended in two writes
Appends-append : (a b c : Option (List ℕ)) (xs ys : List ℕ) → Appends a b xs → Appends b c ys → Appends a c (xs ++ ys)
Appends-append None b c xs ys h k = tt
Appends-append (Some old) None c xs ys h k = absurd h
Appends-append (Some old) (Some mid) None xs ys h k = absurd k
Appends-append (Some old) (Some mid) (Some new) xs ys h k = k ∙ ap (λ zs. zs ++ ys) h ∙ append_assoc old xs ys

pub loop-done-preserved : goal.loop-done-preserved
loop-done-preserved g c =
    let bytes = c.args.bytes.now in
    let done = c.loop-done.done in
    let bound : c.in-Ok.n ≤ length bytes - done = omega (arith, rw (take_rest bytes done, length-drop done bytes) at c.in-Ok.ensures.bound)
    in
    let h = rw (take_rest bytes done) at c.in-Ok.ensures.bytes in
    record {
      within = omega arith;
      written = rw (take-add done c.in-Ok.n bytes)
          (Appends-append (g.W.Write.contents c.args.writer.now) (g.W.Write.contents c.loop-done.writer)
          (g.W.Write.contents c.write.new.self)
          (take done bytes) (take c.in-Ok.n (drop done bytes)) c.loop-done.invariant.written h);
    }

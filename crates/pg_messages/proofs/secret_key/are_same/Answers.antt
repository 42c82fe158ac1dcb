use Rattle.std.proofs.Common.{◌≡◌, ◌≤◌, ap, get_or, length, arith}
use Rattle.std.proofs.lemmas.Bool.Decides.{Decides-eqb}
use Rattle.std.proofs.lemmas.List.{ext_get_or}
use Rattle.pg_messages.proofs.SameBytes.{same_further}
use Rattle.pg_messages.proofs.secret_key.are_same.Goals as goal

pub loop-i-preserved : goal.loop-i-preserved
loop-i-preserved c = same_further c.args.left.now c.args.right.now c.loop-i.difference c.loop-i.i c.loop-i.invariant

pub returns : goal.returns
returns c = (
  λ none.
      let below = c.loop-i.invariant.0 ((Decides-eqb c.loop-i.difference 0).0 none) in
      let lengths : length c.args.left.now ≡ length c.args.right.now = c.if-left-right.false in
      let past : length c.args.left.now ≤ c.loop-i.i = c.loop-i-test.false in
      ext_get_or 0 c.args.left.now c.args.right.now lengths (λ k less. below k (omega arith)),
  λ same.
      (Decides-eqb c.loop-i.difference 0).1
      (c.loop-i.invariant.1 (λ k less. ap (λ xs. get_or xs k 0) same)),
)

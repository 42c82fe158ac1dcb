use Rattle.std.proofs.Common.{◌≡◌, [], ◌++◌, true, false, arith, ap, sym, ◌∙◌, append_assoc}
use Rattle.std.specs.List.{flat_map, range_with_len}
use Rattle.pg_messages.specs.Frames.{frame_bytes, startup_body, protocol_3_0}
use Rattle.relation_demo.specs.Client as client
use Rattle.relation_demo.specs.Client.{demo_client}
use Rattle.relation_demo.proofs.ClientLemmas.{asking_more, is_short}
use Rattle.relation_demo.proofs.client.demo_client.Goals as goal

pub loop-number-preserved : goal.loop-number-preserved
loop-number-preserved c =
    let front = frame_bytes true protocol_3_0 (startup_body client.startup) in
    let n = c.loop-number.number in
    c.in_ok-push_asking.ensures ∙ ap (λ l. l ++ client.asking n) c.loop-number.invariant
    ∙ append_assoc front (flat_map client.asking (range_with_len 0 n)) (client.asking n) ∙ ap (λ l. front ++ l) (sym (asking_more n))

pub returns-in_err-bytes-clause-short : goal.returns-in_err-bytes-clause-short
returns-in_err-bytes-clause-short c = is_short c.args.count c.requires

pub returns-in_err-push_asking-clause-short : goal.returns-in_err-push_asking-clause-short
returns-in_err-push_asking-clause-short c = is_short c.args.count c.requires

pub returns-in_err-extend_from_slice-clause-short : goal.returns-in_err-extend_from_slice-clause-short
returns-in_err-extend_from_slice-clause-short c = is_short c.args.count c.requires

pub returns-clause-client : goal.returns-clause-client
unfolding demo_client
returns-clause-client c =
    let front = frame_bytes true protocol_3_0 (startup_body client.startup) in
    let all : c.loop-number.number ≡ c.args.count = omega arith in
    c.from_vec.ensures ∙ c.in_ok-extend_from_slice.ensures.items
    ∙ ap (λ l. l ++ frame_bytes false 88 []) (c.loop-number.invariant ∙ ap (λ n. front ++ flat_map client.asking (range_with_len 0 n)) all)

pub returns-clause-short : goal.returns-clause-short
returns-clause-short c = is_short c.args.count c.requires

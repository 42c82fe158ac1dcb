use Rattle.std.proofs.Common.{refl, ap, ◌∙◌, take}
use Rattle.pg_client.specs.State.{state_in}
use Rattle.pg_replies.proofs.Sent.{kept_in_front}
use Rattle.pg_handlers.proofs.query.statements.store_portal.Goals as goal

pub returns-in_default : goal.returns-in_default
returns-in_default g c = rw c.out_of_memory.ensures (record {
  ok = tt;
  replied = tt;
  refused = refl;
  kept = record { state = refl; waiting = c.in_default.ensures.err };
})

pub returns-in_default-put_portal : goal.returns-in_default-put_portal
returns-in_default-put_portal g c = rw c.out_of_memory-in_default-put_portal.ensures (record {
  ok = tt;
  replied = tt;
  refused = refl;
  kept = record { state = ap (state_in c.args.client.now.info) c.in_default-put_portal.ensures.err; waiting = c.truncate.ensures ∙ ap (λ n. take n c.push_bind_complete.new.outbox) c.len-start.ensures ∙ kept_in_front c.args.client.now.outbox c.push_bind_complete.new.outbox _ c.in-Ok.ensures.ok };
})

pub returns : goal.returns
returns g c = record {
  ok = ap (state_in c.args.client.now.info) c.in-Ok-put_portal.ensures.ok;
  replied = c.in-Ok.ensures.ok;
  refused = tt;
  kept = tt;
}

use Rattle.std.proofs.Common.{refl, ap, ◌++◌, ◌∙◌, take}
use Rattle.pg_messages.specs.declared.backend.PgWireBackendMessage.TheVariants as server
use Rattle.pg_client.specs.State.{state_in}
use Rattle.conversation_table.specs.ExtendedRows.{entry_of}
use Rattle.pg_portal.specs.Maps.{maps_with_statement}
use Rattle.pg_replies.proofs.Sent.{kept_in_front, one_reply}
use Rattle.pg_handlers.proofs.query.statements.store_parsed.Goals as goal

pub returns-in_default : goal.returns-in_default
returns-in_default g c = rw c.out_of_memory.ensures (record {
  ok = tt;
  replied = tt;
  refused = refl;
  kept = record { state = refl; waiting = c.in_default.ensures.err };
})

pub returns-in_default-stored : goal.returns-in_default-stored
returns-in_default-stored g c = rw c.out_of_memory-in_default-stored.ensures (record {
  ok = tt;
  replied = tt;
  refused = refl;
  kept = record { state = ap (state_in c.args.client.now.info) c.in_default-stored.ensures.err; waiting = c.truncate.ensures ∙ ap (λ n. take n c.push_reply.new.outbox) c.len-start.ensures ∙ kept_in_front c.args.client.now.outbox c.push_reply.new.outbox _ c.in-Ok.ensures.ok };
})

pub returns : goal.returns
returns g c =
    let maps = g.St.PortalStore.maps c.args.client.now.store in
    record {
      ok = ap (state_in c.args.client.now.info) (c.in-Ok-stored.ensures.ok
          ∙ ap (λ name. maps_with_statement maps name (entry_of c.args.found)) c.as_str.ensures);
      replied = c.in-Ok.ensures.ok ∙ ap (λ bytes. c.args.client.now.outbox ++ bytes) (one_reply (server.ParseComplete (record {})));
      refused = tt;
      kept = tt;
    }

use Rattle.std.proofs.Common.{to_z, of_z}
use Rattle.std.specs.Int.{w8, w16}
use Rattle.pg_replies.proofs.Encodable.{copy_body, copy_counts}
use Rattle.pg_replies.proofs.send.send_copy_in_response.Goals as goal

pub push_reply-requires : goal.push_reply-requires
push_reply-requires g c =
    let resp = c.args.resp.now in
    record {
      body = copy_body (to_z w8 (of_z w8 resp.format)) (to_z w16 resp.columns) resp.format resp.columns _ c.in_ok-column_formats.ensures
          c.requires;
      counts = (copy_counts resp.columns c.requires, tt);
      texts = tt;
    }

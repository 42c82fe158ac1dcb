use Rattle.relation_demo.proofs.ClientLemmas.{asking_from}
use Rattle.relation_demo.proofs.client.push_asking.Goals as goal

pub returns : goal.returns
returns c = asking_from c.args.number c.args.bytes.now.items c.push_parse.new.bytes.items c.extend_from_slice.new.self.items
    c.extend_from_slice-2.new.self.items c.extend_from_slice-3.new.self.items c.in_ok-push_parse.ensures
    c.in_ok-extend_from_slice.ensures.items
    c.in_ok-extend_from_slice-2.ensures.items c.in_ok-extend_from_slice-3.ensures.items

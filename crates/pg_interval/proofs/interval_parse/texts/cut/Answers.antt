use Rattle.std.proofs.Common.{◌∙◌, ap, take, drop}
use Rattle.std.specs.List.{list_all}
use Rattle.pg_interval.specs.Texts.{begins}
use Rattle.pg_interval.specs.Reader.{is_kind}
use Rattle.pg_interval.proofs.ReadNumbers.{front_passes, back_fails}
use Rattle.pg_interval.proofs.interval_parse.texts.cut.Goals as goal

pub returns-clause-front : goal.returns-clause-front
returns-clause-front c = ap (list_all (is_kind c.args.kind)) (c.split_at.ensures.front
    ∙ ap (λ n. take n c.args.text.now) c.run_len.ensures.run) ∙ front_passes (is_kind c.args.kind) c.args.text.now

pub returns-clause-back : goal.returns-clause-back
returns-clause-back c = ap (begins (is_kind c.args.kind)) (c.split_at.ensures.back ∙ ap (λ n. drop n c.args.text.now) c.run_len.ensures.run)
    ∙ back_fails (is_kind c.args.kind) c.args.text.now

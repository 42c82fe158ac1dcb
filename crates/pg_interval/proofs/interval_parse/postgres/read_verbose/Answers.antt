use Rattle.std.proofs.Common.{◌∙◌, true, false, ap, sym, take, length, ◌-◌}
use Rattle.std.specs.Prelude.{codes}
use Rattle.std.specs.Bool.{nat_eq}
use Rattle.std.specs.List.{ends_with}
use Rattle.pg_interval.specs.Texts.{begins}
use Rattle.pg_interval.specs.PostgresText.{trimmed_end}
use Rattle.pg_interval.specs.WordReader.{answered, within_left}
use Rattle.pg_interval.proofs.ReadWhole.{no_at, plain_verbose, ago_verbose}
use Rattle.pg_interval.proofs.interval_parse.postgres.read_verbose.Goals as goal

pub returns-in_default : goal.returns-in_default
returns-in_default c = sym (no_at c.args.text.now
    (ap (begins _) (sym (c.trim_end.ensures.rest ∙ ap trimmed_end c.trim_start.ensures.rest)) ∙ c.in_default.ensures))

pub returns-then-not-ends_with : goal.returns-then-not-ends_with
returns-then-not-ends_with c =
    let e = sym (c.trim_end.ensures.rest ∙ ap trimmed_end c.trim_start.ensures.rest) ∙ c.in-Some.ensures in
    let v = c.ends_with.ensures.value ∙ ap (λ n. ends_with nat_eq c.trim_start-rest.result.now n) c.as_bytes.ensures.value
    ∙ ap (λ t. ends_with nat_eq t (codes "ago")) c.trim_start-rest.ensures.rest in
    ap answered (c.read_within.ensures ∙ ap (within_left false) c.trim_start-rest.ensures.rest)
    ∙ sym (plain_verbose c.args.text.now c.in-Some.rest.now e (sym v ∙ c.if-not-ends_with.true))

pub returns : goal.returns
returns c =
    let e = sym (c.trim_end.ensures.rest ∙ ap trimmed_end c.trim_start.ensures.rest) ∙ c.in-Some.ensures in
    let v = c.ends_with.ensures.value ∙ ap (λ n. ends_with nat_eq c.trim_start-rest.result.now n) c.as_bytes.ensures.value
    ∙ ap (λ t. ends_with nat_eq t (codes "ago")) c.trim_start-rest.ensures.rest in
    let front = c.trim_end-2.ensures.rest ∙ ap trimmed_end (c.split_at.ensures.front
    ∙ ap (λ t. take (length t - 3) t) c.trim_start-rest.ensures.rest) in
    ap answered (c.read_within-2.ensures ∙ ap (within_left true) front)
    ∙ sym (ago_verbose c.args.text.now c.in-Some.rest.now e (sym v ∙ c.if-not-ends_with.false))

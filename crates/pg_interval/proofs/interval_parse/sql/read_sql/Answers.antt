use Rattle.std.proofs.Common.{◌∙◌, ap, sym, Ok}
use Rattle.pg_interval.specs.Pairs.{nothing}
use Rattle.pg_interval.specs.FieldReader.{answer, pairs_of_one, pairs_of_two, pairs_of_three}
use Rattle.pg_interval.proofs.ReadTokens.{len_zero, len_some}
use Rattle.pg_interval.proofs.ReadFields.{sql_none, sql_one, sql_two, sql_three, sql_four}
use Rattle.pg_interval.proofs.interval_parse.sql.read_sql.Goals as goal

pub returns-then-is_empty : goal.returns-then-is_empty
returns-then-is_empty c =
    let a = c.next_token.result.0.now in
    let ra = c.next_token.result.1.now in
    let b = c.next_token-2.result.0.now in
    let rb = c.next_token-2.result.1.now in
    let d = c.next_token-3.result.0.now in
    let rd = c.next_token-3.result.1.now in
    let e = c.next_token-4.result.0.now in
    let re = c.next_token-4.result.1.now in
    sym (ap (answer (Ok nothing)) (sql_none c.args.text.now a ra (len_zero a c.is_empty.result c.is_empty.ensures c.if-is_empty.true)
    c.next_token.ensures))

pub returns-then-is_empty-2 : goal.returns-then-is_empty-2
returns-then-is_empty-2 c =
    let a = c.next_token.result.0.now in
    let ra = c.next_token.result.1.now in
    let b = c.next_token-2.result.0.now in
    let rb = c.next_token-2.result.1.now in
    let d = c.next_token-3.result.0.now in
    let rd = c.next_token-3.result.1.now in
    let e = c.next_token-4.result.0.now in
    let re = c.next_token-4.result.1.now in
    let shape = sql_one c.args.text.now a ra b rb c.next_token.ensures c.next_token-2.ensures
    (len_some a c.is_empty.result c.is_empty.ensures c.if-is_empty.false)
    (len_zero b c.is_empty-2.result c.is_empty-2.ensures c.if-is_empty-2.true) in
    c.when.ensures ∙ c.take_one-shaped.ensures.taken ∙ ap (λ r. answer r (pairs_of_one a)) c.new-totals.ensures.sums
    ∙ sym (ap (answer (Ok nothing)) shape)

pub returns-then-is_empty-3 : goal.returns-then-is_empty-3
returns-then-is_empty-3 c =
    let a = c.next_token.result.0.now in
    let ra = c.next_token.result.1.now in
    let b = c.next_token-2.result.0.now in
    let rb = c.next_token-2.result.1.now in
    let d = c.next_token-3.result.0.now in
    let rd = c.next_token-3.result.1.now in
    let e = c.next_token-4.result.0.now in
    let re = c.next_token-4.result.1.now in
    let shape = sql_two c.args.text.now a ra b rb d rd c.next_token.ensures c.next_token-2.ensures c.next_token-3.ensures
    (len_some a c.is_empty.result c.is_empty.ensures c.if-is_empty.false)
    (len_some b c.is_empty-2.result c.is_empty-2.ensures c.if-is_empty-2.false)
    (len_zero d c.is_empty-3.result c.is_empty-3.ensures c.if-is_empty-3.true) in
    c.when-then-is_empty-3.ensures ∙ c.take_two-shaped.ensures.taken
    ∙ ap (λ r. answer r (pairs_of_two a b)) c.new-totals.ensures.sums ∙ sym (ap (answer (Ok nothing)) shape)

pub returns-then-not-is_empty : goal.returns-then-not-is_empty
returns-then-not-is_empty c =
    let a = c.next_token.result.0.now in
    let ra = c.next_token.result.1.now in
    let b = c.next_token-2.result.0.now in
    let rb = c.next_token-2.result.1.now in
    let d = c.next_token-3.result.0.now in
    let rd = c.next_token-3.result.1.now in
    let e = c.next_token-4.result.0.now in
    let re = c.next_token-4.result.1.now in
    sym (ap (answer (Ok nothing)) (sql_four c.args.text.now a ra b rb d rd e re c.next_token.ensures c.next_token-2.ensures
    c.next_token-3.ensures c.next_token-4.ensures (len_some a c.is_empty.result c.is_empty.ensures c.if-is_empty.false)
    (len_some b c.is_empty-2.result c.is_empty-2.ensures c.if-is_empty-2.false)
    (len_some d c.is_empty-3.result c.is_empty-3.ensures c.if-is_empty-3.false)
    (len_some e c.is_empty-4.result c.is_empty-4.ensures c.if-not-is_empty.true)))

pub returns : goal.returns
returns c =
    let a = c.next_token.result.0.now in
    let ra = c.next_token.result.1.now in
    let b = c.next_token-2.result.0.now in
    let rb = c.next_token-2.result.1.now in
    let d = c.next_token-3.result.0.now in
    let rd = c.next_token-3.result.1.now in
    let e = c.next_token-4.result.0.now in
    let re = c.next_token-4.result.1.now in
    let shape = sql_three c.args.text.now a ra b rb d rd e re c.next_token.ensures c.next_token-2.ensures c.next_token-3.ensures
    c.next_token-4.ensures (len_some a c.is_empty.result c.is_empty.ensures c.if-is_empty.false)
    (len_some b c.is_empty-2.result c.is_empty-2.ensures c.if-is_empty-2.false)
    (len_some d c.is_empty-3.result c.is_empty-3.ensures c.if-is_empty-3.false)
    (len_zero e c.is_empty-4.result c.is_empty-4.ensures c.if-not-is_empty.false) in
    c.when-2.ensures ∙ c.take_three-shaped.ensures.taken ∙ ap (λ r. answer r (pairs_of_three a b d)) c.new-totals.ensures.sums
    ∙ sym (ap (answer (Ok nothing)) shape)

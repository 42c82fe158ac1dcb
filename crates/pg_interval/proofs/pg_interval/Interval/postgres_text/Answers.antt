use Rattle.std.proofs.Common.{◌≤◌, ◌∙◌, refl, sym, subst, arith, drop, length, length-drop}
use Rattle.std.specs.Str.{IsUtf8}
use Rattle.pg_interval.specs.NormalForm.{normal_form, IsNormal}
use Rattle.pg_interval.specs.Reading.{Postgres}
use Rattle.pg_interval.proofs.PostgresReads.{postgres_stands}
use Rattle.pg_interval.proofs.PrintedBytes.{postgres_utf8}
use Rattle.pg_interval.proofs.PutDigits.{whole_put}
use Rattle.pg_interval.proofs.Stands.{stands_from, distinct_from}
use Rattle.pg_interval.proofs.pg_interval.Interval.postgres_text.Goals as goal

pub new-requires-clause-utf8 : goal.new-requires-clause-utf8
new-requires-clause-utf8 c =
    let i = c.args.self.now in
    let normal : IsNormal (normal_form i) = (i, c.put_postgres-start.ensures.within, refl) in
    subst IsUtf8 (sym (whole_put _ _ _ c.put_postgres-start.ensures.written refl)) (postgres_utf8 _ normal)

pub returns : goal.returns
returns c =
    let i = c.args.self.now in
    let within = c.put_postgres-start.ensures.within in
    let start = c.put_postgres-start.result in
    let bytes = c.put_postgres-start.new.text in
    let same = c.new.ensures ∙ whole_put _ _ _ c.put_postgres-start.ensures.written refl in
    let long : length (drop start bytes) ≤ 96 = omega (arith, length-drop start bytes) in
    record {
      printed = same;
      stands = stands_from Postgres _ i (postgres_stands i within) same;
      distinct = distinct_from Postgres _ i postgres_stands within same;
      short = subst (λ t. length t ≤ 96) (sym c.new.ensures) long;
      utf8 = subst IsUtf8 (sym same) (postgres_utf8 _ (i, within, refl));
    }

use Rattle.std.proofs.Common.{◌≡◌, ◌∙◌, ℕ, ◌+◌, ◌≤◌, List, [], ◌∷◌, ◌++◌, Some, pos, length, refl, ap, arith, append_assoc, append-nil}
use Rattle.std.proofs.lemmas.Result.{err_from_is_err_and}
use Rattle.pg_interval.specs.Printed.{printed}
use Rattle.pg_interval.specs.Reading.{Postgres, PostgresVerbose, Iso8601, SqlStandard, StandsForOnly}
use Rattle.pg_interval.specs.declared.pg_interval.Interval.{Interval}
use Rattle.pg_messages.specs.declared.backend.PgWireBackendMessage.TheVariants as server
use Rattle.pg_messages.specs.Replies.{IsEncodable}
use Rattle.pg_portal.specs.Encoding.{cell_bytes}
use Rattle.styles.specs.Rows.{Shows, text_row}
use Rattle.styles.proofs.rows.row_of.Goals as goal

-- the bytes of four cells, each behind those before it
four_cells : (p q r s t a b c d : List ℕ) → p ≡ [] → q ≡ p ++ a → r ≡ q ++ b → s ≡ r ++ c → t ≡ s ++ d
    → t ≡ a ++ (b ++ (c ++ (d ++ [])))
four_cells p q r s t a b c d e f g h i = rw (i, h, g, f, e) (simp (append_assoc, append-nil))

-- a text of a style fits into a cell
fits : (bytes text : List ℕ) → bytes ≡ text → length text ≤ 96 → length bytes ≤ 2147483647
fits bytes text same short =
    let even : length bytes ≡ length text = ap length same in omega arith

module _ (payload a b c d k l m n : List ℕ)
    (cells : payload ≡ cell_bytes (Some a) ++ (cell_bytes (Some b) ++ (cell_bytes (Some c) ++ (cell_bytes (Some d) ++ []))))
    (e : a ≡ k) (f : b ≡ l) (g : c ≡ m) (h : d ≡ n) where
  row_is : (w x y z : List ℕ) → k ≡ w → l ≡ x → m ≡ y → n ≡ z
      → record { payload = payload; field_count = pos 4 } ≡ text_row (w ∷ x ∷ y ∷ z ∷ [])
  row_is w x y z o p q r = rw (cells, e, f, g, h, o, p, q, r) refl

  shown : (i : Interval) → StandsForOnly Postgres k i → StandsForOnly PostgresVerbose l i → StandsForOnly Iso8601 m i
      → StandsForOnly SqlStandard n i → Shows (record { payload = payload; field_count = pos 4 }) i
  shown i o p q r = record {
    postgres = k;
    verbose = l;
    iso = m;
    sql = n;
    cells = row_is k l m n refl refl refl refl;
    postgres_stands = o;
    verbose_stands = p;
    iso_stands = q;
    sql_stands = r;
  }

-- a row of four short cells can be sent
encodable : (payload p q r s t : List ℕ) (a b c d k l m n : List ℕ) → payload ≡ t → p ≡ [] → length q ≡ length p + 4 + length a
    → length r ≡ length q + 4 + length b → length s ≡ length r + 4 + length c → length t ≡ length s + 4 + length d
    → a ≡ k → b ≡ l → c ≡ m → d ≡ n → length k ≤ 96 → length l ≤ 96 → length m ≤ 96 → length n ≤ 96
    → IsEncodable (server.DataRow (record { payload = payload; field_count = pos 4 }))
encodable payload p q r s t a b c d k l m n is none qs rs ss ts ak bl cm dn ks ls ms ns =
    let whole : length payload ≡ length t = ap length is in let empty : length p ≡ 0 = ap length none in
    let at_a : length a ≡ length k = ap length ak in let at_b : length b ≡ length l = ap length bl in
    let at_c : length c ≡ length m = ap length cm in let at_d : length d ≡ length n = ap length dn in
    let short : length payload ≤ 400 = omega arith in
    record { body = omega (arith, short); counts = (omega arith, tt); texts = tt }

pub push_cell-requires : goal.push_cell-requires
push_cell-requires c = fits c.as_bytes.result.now c.text-text.result c.as_bytes.ensures c.text-text.ensures.short

pub push_cell-requires-2 : goal.push_cell-requires-2
push_cell-requires-2 c = fits c.as_bytes-2.result.now c.text-text-2.result c.as_bytes-2.ensures c.text-text-2.ensures.short

pub push_cell-requires-3 : goal.push_cell-requires-3
push_cell-requires-3 c = fits c.as_bytes-3.result.now c.text-text-3.result c.as_bytes-3.ensures c.text-text-3.ensures.short

pub push_cell-requires-4 : goal.push_cell-requires-4
push_cell-requires-4 c = fits c.as_bytes-4.result.now c.text-text-4.result c.as_bytes-4.ensures c.text-text-4.ensures.short

pub returns : goal.returns
returns c =
    let i = c.args.interval.now in let p = c.in_ok-payload.payload.items in let q = c.push_cell.new.payload.items in
    let r = c.push_cell-2.new.payload.items in
    let s = c.push_cell-3.new.payload.items in let t = c.push_cell-4.new.payload.items in
    let a = c.as_bytes.result.now in let b = c.as_bytes-2.result.now in let d = c.as_bytes-3.result.now in
    let e = c.as_bytes-4.result.now in
    let k = c.text-text.result in let l = c.text-text-2.result in let m = c.text-text-3.result in let n = c.text-text-4.result in
    let cells = c.from_vec.ensures
    ∙ four_cells p q r s t (cell_bytes (Some a)) (cell_bytes (Some b)) (cell_bytes (Some d)) (cell_bytes (Some e))
    c.in_ok-payload.ensures.items c.in_ok-push_cell.ensures.pushed c.in_ok-push_cell-2.ensures.pushed
    c.in_ok-push_cell-3.ensures.pushed c.in_ok-push_cell-4.ensures.pushed in
    record {
      row = row_is c.from_vec.result a b d e k l m n cells c.as_bytes.ensures c.as_bytes-2.ensures c.as_bytes-3.ensures
          c.as_bytes-4.ensures (printed Postgres i) (printed PostgresVerbose i) (printed Iso8601 i) (printed SqlStandard i)
          c.text-text.ensures.printed c.text-text-2.ensures.printed c.text-text-3.ensures.printed c.text-text-4.ensures.printed;
      shows = shown c.from_vec.result a b d e k l m n cells c.as_bytes.ensures c.as_bytes-2.ensures c.as_bytes-3.ensures
          c.as_bytes-4.ensures i c.text-text.ensures.stands c.text-text-2.ensures.stands
          c.text-text-3.ensures.stands c.text-text-4.ensures.stands;
      encodable = encodable c.from_vec.result p q r s t a b d e k l m n c.from_vec.ensures c.in_ok-payload.ensures.items
          c.in_ok-push_cell.ensures.len c.in_ok-push_cell-2.ensures.len c.in_ok-push_cell-3.ensures.len
          c.in_ok-push_cell-4.ensures.len c.as_bytes.ensures c.as_bytes-2.ensures c.as_bytes-3.ensures c.as_bytes-4.ensures
          c.text-text.ensures.short c.text-text-2.ensures.short c.text-text-3.ensures.short c.text-text-4.ensures.short;
    }

pub returns-in_err-payload : goal.returns-in_err-payload
returns-in_err-payload c =
    let p = err_from_is_err_and c.from_residual.result c.from_residual.ensures.1 in
    rw p.1 (record { row = tt; shows = tt; encodable = tt })

pub returns-in_err-push_cell : goal.returns-in_err-push_cell
returns-in_err-push_cell c =
    let p = err_from_is_err_and c.from_residual-in_err-push_cell.result c.from_residual-in_err-push_cell.ensures.1 in
    rw p.1 (record { row = tt; shows = tt; encodable = tt })

pub returns-in_err-push_cell-2 : goal.returns-in_err-push_cell-2
returns-in_err-push_cell-2 c =
    let p = err_from_is_err_and c.from_residual-in_err-push_cell-2.result c.from_residual-in_err-push_cell-2.ensures.1 in
    rw p.1 (record { row = tt; shows = tt; encodable = tt })

pub returns-in_err-push_cell-3 : goal.returns-in_err-push_cell-3
returns-in_err-push_cell-3 c =
    let p = err_from_is_err_and c.from_residual-in_err-push_cell-3.result c.from_residual-in_err-push_cell-3.ensures.1 in
    rw p.1 (record { row = tt; shows = tt; encodable = tt })

pub returns-in_err-push_cell-4 : goal.returns-in_err-push_cell-4
returns-in_err-push_cell-4 c =
    let p = err_from_is_err_and c.from_residual-in_err-push_cell-4.result c.from_residual-in_err-push_cell-4.ensures.1 in
    rw p.1 (record { row = tt; shows = tt; encodable = tt })

use Rattle.std.proofs.Common.{◌≡◌, ℕ, ◌+◌, ◌<◌, ◌++◌, pos, arith, List, [], ◌∷◌, length, map, get_or, drop, Result, Ok, Err, refl, sym, ap, ◌∙◌, append_assoc}
use Rattle.std.specs.List.{concat, zip}
use Rattle.std.proofs.lemmas.List.{append-nil, drop_all, drop_more}
use Rattle.std.proofs.lemmas.Result.{err_from_is_err_and}
use Rattle.pg_interval.specs.declared.pg_interval.Interval.{Interval}
use Rattle.pg_types.specs.declared.field_format.FieldFormat.TheVariants as field
use Rattle.pg_results.specs.declared.error.PgWireError.{PgWireError}
use Rattle.relation_tables.specs.RelationHandler.{all_or_error, in_front, value}
use Rattle.relation_handlers.specs.Values.{IsPushed, joined}
use Rattle.relation_handlers.proofs.ValueLemmas.{Values, finish, from}
use Rattle.relation_handlers.proofs.data_row.push_values.Goals as goal

-- values of which none is appended yet
begun : (items : List ℕ) (values : Values) → items ≡ [] → finish items values ≡ joined values
begun items (Ok values) none = rw none refl
begun items (Err e) none = refl

-- values of which none is left
ended : (items : List ℕ) (values : Values) (whole : Result (List ℕ) PgWireError) → values ≡ Ok [] → finish items values ≡ whole
    → Ok items ≡ whole
ended items values whole none e = sym (ap (λ l. Ok l) (append-nil items)) ∙ ap (finish items) (sym none) ∙ e

-- one more value
push_one : (v : Result (List ℕ) PgWireError) (old new : List ℕ) (rest : Values) → IsPushed v old new
    → finish old (in_front v rest) ≡ finish new rest
push_one (Ok b) old new (Ok vs) h = ap (λ l. Ok l) (sym (append_assoc old b (concat vs)) ∙ ap (λ l. l ++ concat vs) (sym h))
push_one (Ok b) old new (Err e) h = refl
push_one (Err e) old new rest h = absurd h

step : {X Y : Type 0} (g : X × Y → Result (List ℕ) PgWireError) (xs : List X) (ys : List Y) (i : ℕ) (x : X) (y : Y)
    (old new : List ℕ)
    (whole : Result (List ℕ) PgWireError) → i < length xs → i < length ys → finish old (from g xs ys i) ≡ whole
    → IsPushed (g (get_or xs i x, get_or ys i y)) old new → finish new (from g xs ys (i + 1)) ≡ whole
step g xs ys i x y old new whole in_xs in_ys e h =
    sym (push_one (g (get_or xs i x, get_or ys i y)) old new (from g xs ys (i + 1)) h)
    ∙ ap (λ l. finish old (all_or_error (map g l))) (sym (ap (λ l. zip l (drop i ys)) (drop_more xs i x in_xs)
    ∙ ap (zip (get_or xs i x ∷ drop (i + 1) xs)) (drop_more ys i y in_ys))) ∙ e

pub loop-index-preserved : goal.loop-index-preserved
loop-index-preserved c =
    let formats = c.args.formats.now in let row = c.args.row.now in
    let none : Interval = record { months = pos 0; days = pos 0; microseconds = pos 0 } in
    record {
      whole = step (λ p. value (Ok c.args.style) p.0 p.1) formats row c.loop-index.index field.Text none
          c.loop-index.payload.items
          c.push_value.new.payload.items (joined (all_or_error (map (λ p. value (Ok c.args.style) p.0 p.1) (zip formats row))))
          (omega (arith, c.requires.formats.same)) (omega arith) c.loop-index.invariant.whole c.in_ok-push_value.ensures.pushed;
      short = omega (arith, c.in_ok-push_value.ensures.short);
    }

pub loop-index-init : goal.loop-index-init
loop-index-init c =
    let none = c.in_ok-reserve.ensures.items ∙ c.requires.empty in
    record {
      whole = begun c.reserve.new.self.items (from (λ p. value (Ok c.args.style) p.0 p.1) c.args.formats.now c.args.row.now 0)
          none;
      short = omega (arith, ap length none);
    }

pub returns : goal.returns
returns c =
    let formats = c.args.formats.now in let row = c.args.row.now in let i = c.loop-index.index in
    let none = ap (λ l. all_or_error (map (λ p. value (Ok c.args.style) p.0 p.1) l))
    (ap (λ l. zip l (drop i row)) (drop_all i formats (omega (arith, c.requires.formats.same, c.loop-index-test.false)))) in
    record {
      values = ended c.loop-index.payload.items (from (λ p. value (Ok c.args.style) p.0 p.1) formats row i)
          (joined (all_or_error (map (λ p. value (Ok c.args.style) p.0 p.1) (zip formats row)))) none
          c.loop-index.invariant.whole;
      short = omega (arith, c.loop-index.invariant.short, c.requires.formats.narrow, c.loop-index.auto.index-end);
    }

pub returns-in_err-push_value : goal.returns-in_err-push_value
returns-in_err-push_value c =
    let from = c.from_residual-in_err-push_value in
    let p = err_from_is_err_and from.result from.ensures.1 in
    rw p.1 (record { values = tt; short = tt })

pub returns-in_err-reserve : goal.returns-in_err-reserve
returns-in_err-reserve c =
    let p = err_from_is_err_and c.from_residual.result c.from_residual.ensures.1 in
    rw p.1 (record { values = tt; short = tt })

pub room_for-requires : goal.room_for-requires
room_for-requires c = omega (arith, c.requires.formats.same, c.requires.formats.narrow)

pub bounds-row-index : goal.bounds-row-index
bounds-row-index c = c.loop-index-test.true

-- The lines of a rota, one by one.
use Rattle.std.proofs.Common.{◌≡◌, ℕ, ◌+◌, ◌<◌, suc, List, [], ◌∷◌, ◌++◌, length, drop, get_or, Result, Ok, Err, refl, sym, ap, subst, ◌∙◌, arith}
use Rattle.std.proofs.Common.{take, append-nil}
use Rattle.std.proofs.lemmas.Grind.{flat_map-append}
use Rattle.std.proofs.lemmas.List.{take_more, take-append-drop}
use Rattle.std.specs.Prelude.{decimal, codes}
use Rattle.std.proofs.Math.Seq.{drop-cons, drop-length}
use Rattle.pg_interval.specs.declared.pg_interval.Interval.{Interval}
use Rattle.pg_interval.specs.Reading.{Style}
use Rattle.rota_moments.specs.declared.moment.Moment.{Moment}
use Rattle.rota_moments.specs.declared.moment.RangeError.{RangeError}
use Rattle.rota_moments.specs.Moments.{moment_after}
use Rattle.rota_moments.specs.Rotas.{Refusal, then_moments, then_from, moments_of}
use Rattle.rota_lines.specs.Lines.{line, lines_from, clash_line, clash_text}

-- the line of a step, and those behind it
pub lines_step : (style : Style) (total : Interval) (steps : List Interval) (moments : List Moment) (i : ℕ) (d : Interval) (e : Moment)
    → i < length steps → length moments ≡ length steps + 1
    → lines_from style total i (drop i steps) (drop i moments)
    ≡ line style (decimal i) (get_or moments i e) (get_or steps i d)
    ++ lines_from style total (i + 1) (drop (i + 1) steps) (drop (i + 1) moments)
lines_step style total steps moments i d e h more =
    let one : suc i ≡ i + 1 = omega arith in
    let step = rw one at (drop-cons steps i d h) in
    let within : i < length moments = omega arith in
    let next = rw one at (drop-cons moments i e within) in
    rw (step, next) refl

-- the last line
pub lines_end : (style : Style) (total : Interval) (steps : List Interval) (moments : List Moment) (e : Moment)
    → length moments ≡ length steps + 1
    → lines_from style total (length steps) (drop (length steps) steps) (drop (length steps) moments)
    ≡ line style (codes "end") (get_or moments (length steps) e) total
lines_end style total steps moments e more =
    let within : length steps < length moments = omega arith in
    let next = drop-cons moments (length steps) e within in
    rw (drop-length steps, next) refl

-- ---- one moment more than steps

abbrev HaveOneMore : List Interval → Result (List Moment) Refusal → Type 0
HaveOneMore steps (Ok moments) = length moments ≡ length steps + 1
HaveOneMore steps (Err refusal) = Unit {0}

then_one_more : (step : Interval) (steps : List Interval) (m : Moment) (r : Result (List Moment) Refusal) → HaveOneMore steps r
    → HaveOneMore (step ∷ steps) (then_moments m r)
then_one_more step steps m (Ok moments) h = omega (arith, h)
then_one_more step steps m (Err refusal) h = tt

mutual_step : (step : Interval) (steps : List Interval) (m : Moment) (r : Result Moment RangeError)
    → ((next : Moment) → HaveOneMore steps (moments_of steps next))
    → HaveOneMore (step ∷ steps) (then_from m r (λ next. moments_of steps next))
mutual_step step steps m (Ok next) rest = then_one_more step steps m (moments_of steps next) (rest next)
mutual_step step steps m (Err reason) rest = tt

one_more_of : (steps : List Interval) (start : Moment) → HaveOneMore steps (moments_of steps start)
one_more_of [] start = refl
one_more_of (step ∷ steps) start = mutual_step step steps start (moment_after start step) (λ next. one_more_of steps next)

pub one_more : (steps : List Interval) (start : Moment) (moments : List Moment) → moments_of steps start ≡ Ok moments
    → length moments ≡ length steps + 1
one_more steps start moments e = subst (HaveOneMore steps) e (one_more_of steps start)

-- ---- clashes

pub clash_more : (pairs : List (ℕ × ℕ)) (i : ℕ) (d : ℕ × ℕ) → i < length pairs
    → clash_text (take (i + 1) pairs) ≡ clash_text (take i pairs) ++ clash_line (get_or pairs i d)
clash_more pairs i d h =
    ap clash_text (take_more pairs i d h) ∙ flat_map-append clash_line (take i pairs) (get_or pairs i d ∷ [])
    ∙ ap (λ l. clash_text (take i pairs) ++ l) (append-nil (clash_line (get_or pairs i d)))

pub clash_split : (pairs : List (ℕ × ℕ)) (i : ℕ) (d : ℕ × ℕ) → i < length pairs
    → clash_text pairs ≡ (clash_text (take i pairs) ++ clash_line (get_or pairs i d)) ++ clash_text (drop (i + 1) pairs)
clash_split pairs i d h =
    ap clash_text (sym (take-append-drop (i + 1) pairs)) ∙ flat_map-append clash_line (take (i + 1) pairs) (drop (i + 1) pairs)
    ∙ ap (λ l. l ++ clash_text (drop (i + 1) pairs)) (clash_more pairs i d h)

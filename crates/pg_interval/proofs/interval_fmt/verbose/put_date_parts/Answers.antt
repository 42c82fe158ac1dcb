use Rattle.std.proofs.Common.{◌≡◌, ℕ, ◌+◌, ◌≤◌, Bool, List, ◌++◌, length, ap, ◌∙◌, refl, arith, rules, ℤ, FitsSigned, w32, w64, to_z, of_z}
use mathlib.Core.List.{append_assoc}
use Rattle.std.specs.Prelude.{flat_map, codes}
use Rattle.std.proofs.lemmas.Grind.{flat_map-append}
use Rattle.pg_interval.specs.Printed.{digits_of, part_of, date_parts, verbose_part_text}
use Rattle.pg_interval.specs.declared.interval_norm.IntervalNorm.{IntervalNorm}
use Rattle.pg_interval.proofs.PrintedLemmas.{widened}
use Rattle.pg_interval.proofs.interval_fmt.verbose.put_date_parts.Goals as goal

-- an i32 as the i64 that is passed on
passed : (z r : ℤ) → FitsSigned w32 z → r ≡ to_z w32 (of_z w32 z) → to_z w64 (of_z w64 r) ≡ z
passed z r fits e = ap (λ y. to_z w64 (of_z w64 y)) e ∙ widened z fits

passed_long : (k : ℕ) (z r : ℤ) → FitsSigned w32 z → r ≡ to_z w32 (of_z w32 z) → length (digits_of z) ≤ k
    → length (digits_of (to_z w64 (of_z w64 r))) ≤ k
passed_long k z r fits e h = rw (passed z r fits e) h

room_for : (k a l end : ℕ) → k + 10 ≤ a → l ≤ k → (a ≤ end) × (end ≤ 96) → (l + 10 ≤ end) × (end ≤ 96)
room_for k a l end small long room = (omega arith, room.1)

room_left : (k a b l place end : ℕ) → a ≡ b + k + 8 → l ≤ k → (a ≤ end) × (end ≤ 96) → (place ≤ end) × (end ≤ place + l + 8)
    → (b ≤ place) × (place ≤ 96)
room_left k a b l place end e long room put = (omega arith, omega arith)

all_long : (d m y days months years end : ℕ) → d ≤ 10 → m ≤ 2 → y ≤ 9 → (days ≤ end) × (end ≤ days + d + 8)
    → (months ≤ days) × (days ≤ months + m + 8) → (years ≤ months) × (months ≤ years + y + 8) → (years ≤ end) × (end ≤ years + 45)
all_long d m y days months years end dl ml yl dp mp yp = (omega arith, omega arith)

dates_put : (n : IntervalNorm) (ago : Bool) (y m d : ℤ) (all two one end : List ℕ) → y ≡ n.years → m ≡ n.months → d ≡ n.days
    → all ≡ flat_map (verbose_part_text ago) (part_of y (codes "year")) ++ two
    → two ≡ flat_map (verbose_part_text ago) (part_of m (codes "mon")) ++ one
    → one ≡ flat_map (verbose_part_text ago) (part_of d (codes "day")) ++ end
    → all ≡ flat_map (verbose_part_text ago) (date_parts n) ++ end
unfolding date_parts
dates_put n ago y m d all two one end years months days e f g = rw (e, f, g, years, months, days) (simp (flat_map-append, append_assoc))

pub put_verbose_part-days-requires-clause-room : goal.put_verbose_part-days-requires-clause-room
put_verbose_part-days-requires-clause-room c =
    let n = c.args.fields.now in
    let days = passed_long 10 n.days c.from.result (search rules) c.from.ensures c.requires.widths.days in
    room_for 10 47 _ _ (omega arith) days c.requires.room

pub put_verbose_part-months-requires-clause-room : goal.put_verbose_part-months-requires-clause-room
put_verbose_part-months-requires-clause-room c =
    let n = c.args.fields.now in
    let days = passed_long 10 n.days c.from.result (search rules) c.from.ensures c.requires.widths.days in
    let months = passed_long 2 n.months c.from-2.result (search rules) c.from-2.ensures c.requires.widths.months in
    room_for 2 29 _ _ (omega arith) months (room_left 10 47 29 _ _ _ refl days c.requires.room c.put_verbose_part-days.ensures.place)

pub put_verbose_part-requires-clause-room : goal.put_verbose_part-requires-clause-room
put_verbose_part-requires-clause-room c =
    let n = c.args.fields.now in
    let days = passed_long 10 n.days c.from.result (search rules) c.from.ensures c.requires.widths.days in
    let months = passed_long 2 n.months c.from-2.result (search rules) c.from-2.ensures c.requires.widths.months in
    let years = passed_long 9 n.years c.from-3.result (search rules) c.from-3.ensures c.requires.widths.years in
    room_for 9 19 _ _ (omega arith) years
    (room_left 2 29 19 _ _ _ refl months
    (room_left 10 47 29 _ _ _ refl days c.requires.room c.put_verbose_part-days.ensures.place)
    c.put_verbose_part-months.ensures.place)

pub returns-clause-place : goal.returns-clause-place
returns-clause-place c =
    let n = c.args.fields.now in
    let days = passed_long 10 n.days c.from.result (search rules) c.from.ensures c.requires.widths.days in
    let months = passed_long 2 n.months c.from-2.result (search rules) c.from-2.ensures c.requires.widths.months in
    let years = passed_long 9 n.years c.from-3.result (search rules) c.from-3.ensures c.requires.widths.years in
    all_long _ _ _ _ _ _ _ days months years c.put_verbose_part-days.ensures.place c.put_verbose_part-months.ensures.place
    c.put_verbose_part.ensures.place

pub returns-clause-written : goal.returns-clause-written
returns-clause-written c =
    let n = c.args.fields.now in
    dates_put n c.args.ago _ _ _ _ _ _ _ (passed n.years c.from-3.result (search rules) c.from-3.ensures)
    (passed n.months c.from-2.result (search rules) c.from-2.ensures) (passed n.days c.from.result (search rules) c.from.ensures)
    c.put_verbose_part.ensures.written c.put_verbose_part-months.ensures.written c.put_verbose_part-days.ensures.written

use Rattle.std.proofs.Common.{◌≡◌, ℕ, ◌+◌, ◌≤◌, true, false, List, ◌∷◌, ◌++◌, length, drop, ap, ◌∙◌, sym, refl, arith, rules, ℤ, FitsSigned, w32, w64, to_z, of_z}
use mathlib.Core.List.{append_assoc}
use Rattle.std.specs.Prelude.{codes}
use Rattle.pg_interval.specs.Printed.{digits_of, is_all_zero, item_text, iso_time_text, iso_text}
use Rattle.pg_interval.specs.declared.interval_norm.IntervalNorm.{IntervalNorm}
use Rattle.pg_interval.proofs.PrintedLemmas.{widened}
use Rattle.pg_interval.proofs.interval_fmt.iso_8601.put_iso.Goals as goal

-- an i32 as the i64 that is passed on
passed : (z r : ℤ) → FitsSigned w32 z → r ≡ to_z w32 (of_z w32 z) → to_z w64 (of_z w64 r) ≡ z
passed z r fits e = ap (λ y. to_z w64 (of_z w64 y)) e ∙ widened z fits

passed_long : (k : ℕ) (z r : ℤ) → FitsSigned w32 z → r ≡ to_z w32 (of_z w32 z) → length (digits_of z) ≤ k
    → length (digits_of (to_z w64 (of_z w64 r))) ≤ k
passed_long k z r fits e h = rw (passed z r fits e) h

room_for : (k a l end : ℕ) → k + 4 ≤ a → l ≤ k → (a ≤ end) × (end ≤ 96) → (l + 4 ≤ end) × (end ≤ 96)
room_for k a l end small long room = (omega arith, room.1)

time_left : (place end : ℕ) → (58 ≤ end) × (end ≤ 96) → (place ≤ end) × (end ≤ place + 28) → (30 ≤ place) × (place ≤ 96)
time_left place end room put = (omega arith, omega arith)

room_left : (k a b l place end : ℕ) → a ≡ b + k + 2 → l ≤ k → (a ≤ end) × (end ≤ 96) → (place ≤ end) × (end ≤ place + l + 2)
    → (b ≤ place) × (place ≤ 96)
room_left k a b l place end e long room put = (omega arith, omega arith)

byte_room : (place : ℕ) → (3 ≤ place) × (place ≤ 96) → (1 ≤ place) × (place ≤ 96)
byte_room place room = (omega arith, room.1)

iso_zero : (n : IntervalNorm) → is_all_zero n ≡ true → codes "PT0S" ≡ iso_text n
unfolding iso_text
iso_zero n h = rw h refl

iso_put : (n : IntervalNorm) (y m d : ℤ) (all three two one time end : List ℕ) → is_all_zero n ≡ false → y ≡ n.years → m ≡ n.months
    → d ≡ n.days → all ≡ 80 ∷ three → three ≡ item_text y 89 ++ two → two ≡ item_text m 77 ++ one → one ≡ item_text d 68 ++ time
    → time ≡ iso_time_text n ++ end → all ≡ iso_text n ++ end
unfolding iso_text
iso_put n y m d all three two one time end some years months days a b e f g =
    rw (some, a, b, e, f, g, years, months, days) (simp append_assoc)

pub put_item-days-requires : goal.put_item-days-requires
put_item-days-requires c =
    let days = passed_long 10 c.args.fields.now.days c.from.result (search rules) c.from.ensures c.requires.widths.days in
    room_for 10 30 _ _ (omega arith) days (time_left _ _ c.requires.room c.put_time-time.ensures.place)

pub put_item-months-requires : goal.put_item-months-requires
put_item-months-requires c =
    let n = c.args.fields.now in
    let days = passed_long 10 n.days c.from.result (search rules) c.from.ensures c.requires.widths.days in
    let months = passed_long 2 n.months c.from-2.result (search rules) c.from-2.ensures c.requires.widths.months in
    let time = time_left _ _ c.requires.room c.put_time-time.ensures.place in
    room_for 2 18 _ _ (omega arith) months (room_left 10 30 18 _ _ _ refl days time c.put_item-days.ensures.place)

pub put_item-years-requires : goal.put_item-years-requires
put_item-years-requires c =
    let n = c.args.fields.now in
    let days = passed_long 10 n.days c.from.result (search rules) c.from.ensures c.requires.widths.days in
    let months = passed_long 2 n.months c.from-2.result (search rules) c.from-2.ensures c.requires.widths.months in
    let years = passed_long 9 n.years c.from-3.result (search rules) c.from-3.ensures c.requires.widths.years in
    let time = time_left _ _ c.requires.room c.put_time-time.ensures.place in
    let two = room_left 10 30 18 _ _ _ refl days time c.put_item-days.ensures.place in
    room_for 9 14 _ _ (omega arith) years (room_left 2 18 14 _ _ _ refl months two c.put_item-months.ensures.place)

pub put_byte-requires : goal.put_byte-requires
put_byte-requires c =
    let n = c.args.fields.now in
    let days = passed_long 10 n.days c.from.result (search rules) c.from.ensures c.requires.widths.days in
    let months = passed_long 2 n.months c.from-2.result (search rules) c.from-2.ensures c.requires.widths.months in
    let years = passed_long 9 n.years c.from-3.result (search rules) c.from-3.ensures c.requires.widths.years in
    let time = time_left _ _ c.requires.room c.put_time-time.ensures.place in
    let two = room_left 10 30 18 _ _ _ refl days time c.put_item-days.ensures.place in
    let three = room_left 2 18 14 _ _ _ refl months two c.put_item-months.ensures.place in
    byte_room _ (room_left 9 14 3 _ _ _ refl years three c.put_item-years.ensures.place)

pub returns-then-prints_zero-clause-written : goal.returns-then-prints_zero-clause-written
returns-then-prints_zero-clause-written c =
    c.put_word.ensures.written
    ∙ ap (λ t. t ++ drop c.args.end c.args.text.now) (iso_zero c.args.fields.now (sym c.prints_zero.ensures ∙ c.if-prints_zero.true))

pub returns-clause-written : goal.returns-clause-written
returns-clause-written c =
    let n = c.args.fields.now in
    iso_put n _ _ _ _ _ _ _ _ _ (sym c.prints_zero.ensures ∙ c.if-prints_zero.false)
    (passed n.years c.from-3.result (search rules) c.from-3.ensures) (passed n.months c.from-2.result (search rules) c.from-2.ensures)
    (passed n.days c.from.result (search rules) c.from.ensures) c.put_byte.ensures.written c.put_item-years.ensures.written
    c.put_item-months.ensures.written c.put_item-days.ensures.written c.put_time-time.ensures.written

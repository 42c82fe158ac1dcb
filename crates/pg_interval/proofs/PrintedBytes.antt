-- Each byte of a printed text is a printable one of ASCII, and no backslash. So the text is UTF-8.
use Rattle.std.proofs.Common.{IsTrue, refl, ℕ, zero, suc, ◌+◌, ◌/◌, ◌%◌, ◌^◌, ◌<◌, Bool, true, false, List, [], ◌∷◌, ◌++◌, map}
use Rattle.std.proofs.Common.{arith, ℤ, subst}
use Rattle.std.specs.Prelude.{codes, bytes_eq, flat_map, if◌then◌else◌, nat_lt, unsigned_abs, ◌==◌, ◌&&◌, not}
use Rattle.std.specs.List.{AllByRecursion, join_with_byte, list_all}
use Rattle.std.specs.Int.{is_negative}
use Rattle.std.specs.Int.Signed.{mag}
use Rattle.std.specs.Str.{IsUtf8, IsAscii}
use Rattle.std.proofs.lemmas.Str.{IsUtf8-from_ascii}
use Rattle.std.proofs.lemmas.Str.Ascii.{IsAscii-nil, IsAscii-cons}
use Rattle.std.proofs.lemmas.Fmt.{decimal_by_steps}
use Rattle.pg_interval.specs.Cell.{IsInterval}
use Rattle.pg_interval.specs.NormalForm.{IsNormal, normal_form}
use Rattle.pg_interval.specs.Reading.{Style, Postgres, PostgresVerbose, Iso8601, SqlStandard}
use Rattle.pg_interval.specs.declared.pg_interval.Interval.{Interval}
use Rattle.pg_interval.specs.Printed.{printed}
use Rattle.pg_interval.specs.Printed.{is_zero, minus_if, sign_of, digits_of, two_digits_of, two_digits, last_digits, six_digits}
use Rattle.pg_interval.specs.Printed.{fraction_of, is_all_zero, is_time_zero, is_time_negative, is_second_zero, is_second_negative}
use Rattle.pg_interval.specs.Printed.{after_hours, Part, part_of, word_end, part_text, own_text, date_parts, time_texts, postgres_text}
use Rattle.pg_interval.specs.Printed.{without_last_zeros, decimals_of, second_digits, second_parts, verbose_time_parts, verbose_parts}
use Rattle.pg_interval.specs.Printed.{is_ago, verbose_part_text, ago_end, verbose_text_of, verbose_text, item_text, second_text}
use Rattle.pg_interval.specs.Printed.{iso_time_text, iso_text, year_month_text, sql_time_text, is_year_month_negative, day_time_text}
use Rattle.pg_interval.specs.Printed.{signed_days_text, signed_text, fields_text, sql_text}
use Rattle.pg_interval.specs.declared.interval_norm.IntervalNorm.{IntervalNorm}
use Rattle.pg_interval.proofs.NormalFacts.{IsSized, normal_sizes}
use Rattle.pg_interval.proofs.PartTexts.{abs_small}

-- from the space up to the tilde, without the backslash
abbrev pub is_printable : ℕ → Bool
is_printable byte = nat_lt 31 byte && nat_lt byte 127 && not (byte == 92)

abbrev pub IsPrintable : List ℕ → Type 0
IsPrintable text = AllByRecursion (λ byte. IsTrue (is_printable byte)) text

wider : (z : ℤ) → mag z < 2 ^ 31 → mag z < 2 ^ 63
wider z h = omega arith

record Printable (text : List ℕ) : Type 0 where
  bytes : IsPrintable text

digit : (n : ℕ) → n < 10 → IsTrue (is_printable (48 + n))
digit n small = grind (arith, small)

nothing : Printable []
nothing = record { bytes = tt }

one : (b : ℕ) (bs : List ℕ) → IsTrue (is_printable b) → Printable bs → Printable (b ∷ bs)
one b bs h t = record { bytes = (h, t.bytes) }

both : (xs ys : List ℕ) → Printable xs → Printable ys → Printable (xs ++ ys)
both [] ys a b = b
both (x ∷ xs) ys a b = one x (xs ++ ys) a.bytes.0 (both xs ys (record { bytes = a.bytes.1 }) b)

either : (b : Bool) (xs ys : List ℕ) → Printable xs → Printable ys → Printable (if b then xs else ys)
either true xs ys h k = h
either false xs ys h k = k

digits : (z : ℤ) → mag z < 2 ^ 63 → Printable (digits_of z)
digits z h = decimal_by_steps (λ n ds. Printable ds) (λ n small. one (48 + n) [] (digit n small) nothing)
    (λ n ds more d. both ds ((48 + n % 10) ∷ []) d (one (48 + n % 10) [] (digit (n % 10) (omega arith)) nothing)) (unsigned_abs z)
    (abs_small z h)

minus : (b : Bool) → Printable (minus_if b)
minus b = either b (45 ∷ []) [] (one 45 [] refl nothing) nothing

sign : (b : Bool) → Printable (sign_of b)
sign b = either b (45 ∷ []) (43 ∷ []) (one 45 [] refl nothing) (one 43 [] refl nothing)

two : (z : ℤ) → mag z < 2 ^ 63 → Printable (two_digits z)
unfolding two_digits_of
two z h = either (nat_lt (unsigned_abs z) 10) (48 ∷ digits_of z) (digits_of z) (one 48 _ refl (digits z h)) (digits z h)

last : (k n : ℕ) → Printable (last_digits k n)
last zero n = nothing
last (suc k) n = one (48 + n / 10 ^ k % 10) (last_digits k n) (digit (n / 10 ^ k % 10) (omega arith)) (last k n)

fraction : (z : ℤ) → Printable (fraction_of z)
unfolding fraction_of six_digits
fraction z = either (is_zero z) [] (46 ∷ last_digits 6 (unsigned_abs z)) nothing (one 46 _ refl (last 6 (unsigned_abs z)))

after : (n : IntervalNorm) → IsSized n → Printable (after_hours n)
unfolding after_hours
after n size =
    let minutes : Printable (58 ∷ two_digits n.minutes) = one 58 _ refl (two n.minutes size.minutes) in
    let seconds : Printable (58 ∷ two_digits n.seconds) = one 58 _ refl (two n.seconds size.seconds) in
    both _ (fraction_of n.microseconds) (both _ (58 ∷ two_digits n.seconds) minutes seconds) (fraction n.microseconds)

-- ---- iso_8601

item : (z : ℤ) (letter : ℕ) → IsTrue (is_printable letter) → mag z < 2 ^ 63 → Printable (item_text z letter)
unfolding item_text
item z letter l h =
    let number : Printable (minus_if (is_negative z) ++ digits_of z) = both _ (digits_of z) (minus (is_negative z)) (digits z h) in
    either (is_zero z) [] (minus_if (is_negative z) ++ digits_of z ++ letter ∷ []) nothing
    (both _ (letter ∷ []) number (one letter [] l nothing))

second : (n : IntervalNorm) → IsSized n → Printable (second_text n)
unfolding second_text
second n size =
    let b : Bool = is_second_negative n in
    let whole : Printable (minus_if b ++ digits_of n.seconds) = both _ (digits_of n.seconds) (minus b) (digits n.seconds size.seconds) in
    either (is_second_zero n) [] (minus_if b ++ digits_of n.seconds ++ fraction_of n.microseconds ++ 83 ∷ [])
    nothing
    (both _ (83 ∷ []) (both _ (fraction_of n.microseconds) whole (fraction n.microseconds)) (one 83 [] refl nothing))

iso_time : (n : IntervalNorm) → IsSized n → Printable (iso_time_text n)
unfolding iso_time_text
iso_time n size =
    let hours : Printable (84 ∷ item_text n.hours 72) = one 84 _ refl (item n.hours 72 refl size.hours) in
    let minutes : Printable (item_text n.minutes 77) = item n.minutes 77 refl size.minutes in
    either (is_time_zero n) [] (84 ∷ item_text n.hours 72 ++ item_text n.minutes 77 ++ second_text n)
    nothing
    (both _ (second_text n) (both _ (item_text n.minutes 77) hours minutes) (second n size))

iso : (n : IntervalNorm) → IsSized n → Printable (iso_text n)
unfolding iso_text
iso n size =
    let years : Printable (80 ∷ item_text n.years 89) = one 80 _ refl (item n.years 89 refl (wider n.years size.years)) in
    let months : Printable (item_text n.months 77) = item n.months 77 refl (wider n.months size.months) in
    let days : Printable (item_text n.days 68) = item n.days 68 refl (wider n.days size.days) in
    either (is_all_zero n) (codes "PT0S") (80 ∷ item_text n.years 89 ++ item_text n.months 77 ++ item_text n.days 68 ++ iso_time_text n)
    (one 80 _ refl (one 84 _ refl (one 48 _ refl (one 83 [] refl nothing))))
    (both _ (iso_time_text n) (both _ (item_text n.days 68) (both _ (item_text n.months 77) years months) days) (iso_time n size))

-- ---- sql_standard

year_month : (n : IntervalNorm) → IsSized n → Printable (year_month_text n)
unfolding year_month_text
year_month n size =
    both (digits_of n.years) (45 ∷ digits_of n.months)
    (digits n.years (wider n.years size.years))
    (one 45 _ refl (digits n.months (wider n.months size.months)))

sql_time : (n : IntervalNorm) → IsSized n → Printable (sql_time_text n)
unfolding sql_time_text
sql_time n size = both (digits_of n.hours) (after_hours n) (digits n.hours size.hours) (after n size)

day_time : (n : IntervalNorm) → IsSized n → Printable (day_time_text n)
unfolding day_time_text
day_time n size =
    let days : Printable (minus_if (is_negative n.days) ++ digits_of n.days) =
    both _ (digits_of n.days) (minus (is_negative n.days)) (digits n.days (wider n.days size.days)) in
    either (is_zero n.days) _ (minus_if (is_negative n.days) ++ digits_of n.days ++ 32 ∷ sql_time_text n)
    (both _ (sql_time_text n) (minus (is_time_negative n)) (sql_time n size))
    (both _ (32 ∷ sql_time_text n) days (one 32 _ refl (sql_time n size)))

signed_days : (n : IntervalNorm) → IsSized n → Printable (signed_days_text n)
unfolding signed_days_text
signed_days n size = both _ (digits_of n.days) (sign (is_negative n.days)) (digits n.days (wider n.days size.days))

signed : (n : IntervalNorm) → IsSized n → Printable (signed_text n)
unfolding signed_text
signed n size =
    both _ (sql_time_text n)
    (both _ (32 ∷ sign_of (is_time_negative n))
    (both _ (32 ∷ signed_days_text n)
    (both _ (year_month_text n) (sign (is_year_month_negative n)) (year_month n size))
    (one 32 _ refl (signed_days n size)))
    (one 32 _ refl (sign (is_time_negative n))))
    (sql_time n size)

fields : (n : IntervalNorm) → IsSized n → Printable (fields_text n)
unfolding fields_text
fields n size = either _ (minus_if (is_year_month_negative n) ++ year_month_text n) _
    (both _ (year_month_text n) (minus (is_year_month_negative n)) (year_month n size))
    (either _ (day_time_text n) (signed_text n) (day_time n size) (signed n size))

sql : (n : IntervalNorm) → IsSized n → Printable (sql_text n)
unfolding sql_text
sql n size = either (is_all_zero n) (codes "0") (fields_text n) (one 48 [] refl nothing) (fields n size)

-- ---- postgres and postgres_verbose

ending : (number : List ℕ) → Printable (word_end number)
unfolding word_end
ending number = either (bytes_eq number (codes "1")) [] (codes "s") nothing (one 115 [] refl nothing)

part : (b : Bool) (ds name : List ℕ) → Printable ds → Printable name → Printable (part_text b ds name)
unfolding part_text
part b ds name h k =
    both _ (word_end (minus_if b ++ ds)) (both _ (32 ∷ name) (both _ ds (minus b) h) (one 32 name refl k)) (ending (minus_if b ++ ds))

-- each number and each word of the parts
data Parts : List Part → Type 0 where
  none : Parts []
  more : {p : Part} {ps : List Part} → Printable p.digits → Printable p.word → Parts ps → Parts (p ∷ ps)

parts_both : (ps qs : List Part) → Parts ps → Parts qs → Parts (ps ++ qs)
parts_both [] qs h k = k
parts_both (p ∷ ps) qs (more d w h) k = more d w (parts_both ps qs h k)

part_is : (z : ℤ) (name : List ℕ) → mag z < 2 ^ 63 → Printable name → Parts (part_of z name)
unfolding part_of
part_is z name h k =
    let own : Part = record { negative = is_negative z; digits = digits_of z; word = name } in
    elim (is_zero z) as (λ b. Parts (if b then [] else own ∷ [])) [ true ↦ none | false ↦ more (digits z h) k none ]

year : Printable (codes "year")
year = one 121 _ refl (one 101 _ refl (one 97 _ refl (one 114 _ refl nothing)))

mon : Printable (codes "mon")
mon = one 109 _ refl (one 111 _ refl (one 110 _ refl nothing))

day : Printable (codes "day")
day = one 100 _ refl (one 97 _ refl (one 121 _ refl nothing))

hour : Printable (codes "hour")
hour = one 104 _ refl (one 111 _ refl (one 117 _ refl (one 114 _ refl nothing)))

min : Printable (codes "min")
min = one 109 _ refl (one 105 _ refl (one 110 _ refl nothing))

sec : Printable (codes "sec")
sec = one 115 _ refl (one 101 _ refl (one 99 _ refl nothing))

dates : (n : IntervalNorm) → IsSized n → Parts (date_parts n)
unfolding date_parts
dates n size =
    let years : Parts (part_of n.years (codes "year")) = part_is n.years (codes "year") (wider n.years size.years) year in
    let months : Parts (part_of n.months (codes "mon")) = part_is n.months (codes "mon") (wider n.months size.months) mon in
    let days : Parts (part_of n.days (codes "day")) = part_is n.days (codes "day") (wider n.days size.days) day in
    parts_both _ (part_of n.days (codes "day")) (parts_both _ (part_of n.months (codes "mon")) years months) days

-- each text of a list
data Texts : List (List ℕ) → Type 0 where
  none : Texts []
  more : {t : List ℕ} {ts : List (List ℕ)} → Printable t → Texts ts → Texts (t ∷ ts)

texts_both : (ts us : List (List ℕ)) → Texts ts → Texts us → Texts (ts ++ us)
texts_both [] us h k = k
texts_both (t ∷ ts) us (more a h) k = more a (texts_both ts us h k)

own_texts : (ps : List Part) → Parts ps → Texts (map own_text ps)
own_texts [] h = none
own_texts (p ∷ ps) (more d w h) = more (part p.negative p.digits p.word d w) (own_texts ps h)

times : (n : IntervalNorm) → IsSized n → Texts (time_texts n)
unfolding time_texts
times n size =
    let text : List ℕ = minus_if (is_time_negative n) ++ two_digits n.hours ++ after_hours n in
    let hours : Printable (minus_if (is_time_negative n) ++ two_digits n.hours) =
    both _ (two_digits n.hours) (minus (is_time_negative n)) (two n.hours size.hours) in
    elim (is_time_zero n) as (λ b. Texts (if b then [] else text ∷ [])) [
      | true ↦ none
      | false ↦ more (both _ (after_hours n) hours (after n size)) none
    ]

joined : (ts : List (List ℕ)) → Texts ts → Printable (join_with_byte 32 ts)
joined [] h = nothing
joined (t ∷ []) (more a h) = a
joined (t ∷ u ∷ ts) (more a h) = both t (32 ∷ join_with_byte 32 (u ∷ ts)) a (one 32 _ refl (joined (u ∷ ts) h))

postgres : (n : IntervalNorm) → IsSized n → Printable (postgres_text n)
unfolding postgres_text
postgres n size =
    let two_zeros : (rest : List ℕ) → Printable rest → Printable (48 ∷ 48 ∷ rest) = λ rest h. one 48 _ refl (one 48 _ refl h) in
    let seconds : Printable (codes ":00") = one 58 _ refl (two_zeros [] nothing) in
    either (is_all_zero n) (codes "00:00:00") (join_with_byte 32 (map own_text (date_parts n) ++ time_texts n))
    (two_zeros _ (one 58 _ refl (two_zeros _ seconds)))
    (joined _ (texts_both (map own_text (date_parts n)) (time_texts n) (own_texts (date_parts n) (dates n size)) (times n size)))

zeros_cut : (ds : List ℕ) → Printable ds → Printable (without_last_zeros ds)
unfolding without_last_zeros
zeros_cut [] h = nothing
zeros_cut (d ∷ ds) h =
    either (list_all (λ c. c == 48) (d ∷ ds)) [] (d ∷ without_last_zeros ds)
    nothing
    (one d _ h.bytes.0 (zeros_cut ds (record { bytes = h.bytes.1 })))

decimals : (z : ℤ) → Printable (decimals_of z)
unfolding decimals_of six_digits
decimals z =
    either (is_zero z) [] (46 ∷ without_last_zeros (last_digits 6 (unsigned_abs z)))
    nothing
    (one 46 _ refl (zeros_cut _ (last 6 (unsigned_abs z))))

seconds : (n : IntervalNorm) → IsSized n → Parts (second_parts n)
unfolding second_parts second_digits
seconds n size =
    let number : List ℕ = digits_of n.seconds ++ decimals_of n.microseconds in
    let own : Part = record { negative = is_second_negative n; digits = number; word = codes "sec" } in
    let printable : Printable number = both _ (decimals_of n.microseconds) (digits n.seconds size.seconds) (decimals n.microseconds) in
    elim (is_second_zero n) as (λ b. Parts (if b then [] else own ∷ [])) [ true ↦ none | false ↦ more printable sec none ]

verbose_times : (n : IntervalNorm) → IsSized n → Parts (verbose_time_parts n)
unfolding verbose_time_parts
verbose_times n size =
    let hours : Parts (part_of n.hours (codes "hour")) = part_is n.hours (codes "hour") size.hours hour in
    let minutes : Parts (part_of n.minutes (codes "min")) = part_is n.minutes (codes "min") size.minutes min in
    parts_both _ (second_parts n) (parts_both _ (part_of n.minutes (codes "min")) hours minutes) (seconds n size)

verbose_flat : (ago : Bool) (ps : List Part) → Parts ps → Printable (flat_map (verbose_part_text ago) ps)
unfolding verbose_part_text
verbose_flat ago [] h = nothing
verbose_flat ago (p ∷ ps) (more d w h) =
    both (verbose_part_text ago p) (flat_map (verbose_part_text ago) ps) (one 32 _ refl (part _ p.digits p.word d w))
    (verbose_flat ago ps h)

ago_is : (ago : Bool) → Printable (ago_end ago)
ago_is ago =
    either ago (codes " ago") [] (one 32 _ refl (one 97 _ refl (one 103 _ refl (one 111 _ refl nothing)))) nothing

verbose : (n : IntervalNorm) → IsSized n → Printable (verbose_text n)
unfolding verbose_text
verbose n size =
    let ago : Bool = is_ago (verbose_parts n) in
    let parts : Parts (verbose_parts n) = parts_both _ (verbose_time_parts n) (dates n size) (verbose_times n size) in
    either (is_all_zero n) (codes "@ 0") (verbose_text_of ago (verbose_parts n))
    (one 64 _ refl (one 32 _ refl (one 48 _ refl nothing)))
    (both _ (ago_end ago) (one 64 _ refl (verbose_flat ago (verbose_parts n) parts)) (ago_is ago))

-- ---- each style

pub printed_bytes : (style : Style) (i : Interval) → IsInterval i → IsPrintable (printed style i)
printed_bytes Postgres i is = (postgres (normal_form i) (normal_sizes i is)).bytes
printed_bytes PostgresVerbose i is = (verbose (normal_form i) (normal_sizes i is)).bytes
printed_bytes Iso8601 i is = (iso (normal_form i) (normal_sizes i is)).bytes
printed_bytes SqlStandard i is = (sql (normal_form i) (normal_sizes i is)).bytes

-- ---- UTF-8

below_128 : (byte : ℕ) → IsTrue (is_printable byte) → byte < 128
below_128 byte h = grind (arith, h)

ascii_of : (text : List ℕ) → IsPrintable text → IsAscii text
ascii_of [] h = IsAscii-nil
ascii_of (b ∷ bs) h = IsAscii-cons b bs (below_128 b h.0) (ascii_of bs h.1)

utf8 : (text : IntervalNorm → List ℕ) → ((n : IntervalNorm) → IsSized n → Printable (text n)) → (n : IntervalNorm) → IsNormal n
    → IsUtf8 (text n)
utf8 text all n normal = IsUtf8-from_ascii (text n)
    (ascii_of (text n) (all n (subst IsSized normal.2 (normal_sizes normal.0 normal.1))).bytes)

pub postgres_utf8 : (n : IntervalNorm) → IsNormal n → IsUtf8 (postgres_text n)
postgres_utf8 = utf8 postgres_text postgres

pub verbose_utf8 : (n : IntervalNorm) → IsNormal n → IsUtf8 (verbose_text n)
verbose_utf8 = utf8 verbose_text verbose

pub iso_utf8 : (n : IntervalNorm) → IsNormal n → IsUtf8 (iso_text n)
iso_utf8 = utf8 iso_text iso

pub sql_utf8 : (n : IntervalNorm) → IsNormal n → IsUtf8 (sql_text n)
sql_utf8 = utf8 sql_text sql

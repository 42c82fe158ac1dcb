use Rattle.std.proofs.Common.{◌≡◌, ℕ, ◌+◌, ◌*◌, ◌^◌, ◌<◌, ◌≤◌, Bool, true, false, List, [], ◌∷◌, ◌∙◌, ap, sym, get_or, length, length-append, drop, arith, to_z, of_z, w64}
use Rattle.std.specs.Prelude.{if◌then◌else◌}
use Rattle.pg_interval.specs.Texts.{is_minus}
use Rattle.std.specs.Prelude.{Ok}
use Rattle.std.proofs.Math.Facts.{to_z-of_z}
use Rattle.pg_interval.specs.Decimals.{with_sign}
use Rattle.pg_interval.specs.Pairs.{sum_of}
use Rattle.pg_interval.specs.Reader.{time_unit}
use Rattle.pg_interval.specs.ItemReader.{left}
use Rattle.pg_interval.specs.FrontReader.{IsFraction, IsNumberFront, amount, only_time, sums_of, without_minus}
use Rattle.pg_interval.proofs.ReadTokens.{len_some, cons_of}
use Rattle.pg_interval.proofs.FrontItems.{item_read, second_read}
use Rattle.pg_interval.proofs.interval_parse.iso_front.Sums.take_item.Goals as goal

bare_long : (text : List ℕ) → length (without_minus text) ≤ length text
bare_long [] = omega arith
bare_long (c ∷ cs) = by (is_minus c)
  where
    by : (b : Bool) → length (if b then cs else c ∷ cs) ≤ length (c ∷ cs)
    by true = omega arith
    by false = omega arith

behind_long : (text bare behind : List ℕ) (n : ℕ) → bare ≡ without_minus text → IsNumberFront n bare behind → length behind ≤ length text
behind_long text bare behind n e w = let l : length bare ≤ length text = rw e (bare_long text) in
    omega (arith, ap length w.parts, length-append w.digits behind)

fraction_long : (behind rest : List ℕ) (f : ℕ) → IsFraction f behind rest → length rest < length behind
fraction_long behind rest f w = omega (arith, ap length w.parts, length-append w.digits (83 ∷ rest))

rest_long : (behind rest : List ℕ) → 0 < length behind → rest ≡ drop 1 behind → length rest < length behind
rest_long [] rest h e = absurd (omega arith)
rest_long (b ∷ bs) rest h e = rw e (omega arith)

below : (a b c : ℕ) → a < b → b ≤ c → a < c
below a b c h k = omega arith

whole_small : (n : ℕ) → n < 2 ^ 31 → 1000000 * n < 2 ^ 64
whole_small n h = omega arith

sum_small : (n f : ℕ) → n < 2 ^ 31 → f < 2 ^ 31 → 1000000 * n + f < 2 ^ 64
sum_small n f h k = omega arith

size_small : (n f : ℕ) → n < 2 ^ 31 → f < 2 ^ 31 → 1000000 * n + f < 2 ^ 63
size_small n f h k = omega arith

pub bounds-behind-0 : goal.bounds-behind-0
bounds-behind-0 c = len_some c.in-Some.behind.now c.is_empty.result c.is_empty.ensures c.if-is_empty.false

pub overflow_mul-whole : goal.overflow_mul-whole
overflow_mul-whole c = record { fits = whole_small _ c.in-Some.ensures.small }

pub overflow_add-whole : goal.overflow_add-whole
overflow_add-whole c = record { fits = sum_small _ _ c.in-Some.ensures.small c.in-Some-fraction_front.ensures.small }

pub signed-requires : goal.signed-requires
signed-requires c = size_small _ _ c.in-Some.ensures.small c.in-Some-fraction_front.ensures.small

pub add-requires : goal.add-requires
add-requires c = c.in-Some.ensures.small

pub returns-then-letter-eq46-clause-long : goal.returns-then-letter-eq46-clause-long
returns-then-letter-eq46-clause-long c =
    below _ _ _ (fraction_long c.in-Some.behind.now c.in-Some-fraction_front.rest.now _ c.in-Some-fraction_front.ensures)
    (behind_long c.args.text.now c.without_minus.result.now c.in-Some.behind.now _ c.without_minus.ensures c.in-Some.ensures)

pub returns-clause-long : goal.returns-clause-long
returns-clause-long c =
    let behind = c.in-Some.behind.now in
    below _ _ _ (rest_long behind c.split_at.result.1.now (len_some behind c.is_empty.result c.is_empty.ensures c.if-is_empty.false)
    c.split_at.ensures.back)
    (behind_long c.args.text.now c.without_minus.result.now behind _ c.without_minus.ensures c.in-Some.ensures)

pub returns-then-letter-eq46-clause-left : goal.returns-then-letter-eq46-clause-left
returns-then-letter-eq46-clause-left c =
    let s = c.args.self.now in
    let t = c.add_time.new.self in
    let text = c.args.text.now in
    let rest = c.in-Some-fraction_front.rest.now in
    let n = c.in-Some.whole in
    let f = c.in-Some-fraction_front.fraction in
    let more : to_z w64 (of_z w64 c.signed.result) ≡ _ = to_z-of_z {w = w64} {z = c.signed.result} (record { sfits = c.signed.type_inv })
    ∙ c.signed.ensures
    ∙ ap (λ b. with_sign b (1000000 * n + f)) c.sign_of-minus.ensures in
    ap (λ b. left b (Ok (sums_of s)) text) c.if-not-self.false
    ∙ second_read (sums_of s) (sums_of t) text c.without_minus.result.now c.in-Some.behind.now rest n f c.without_minus.ensures
    c.in-Some.ensures c.in-Some-fraction_front.ensures (c.add_time.ensures.0 c.if-not-add_time.false
    ∙ ap (λ z. sum_of (sums_of s) (only_time z)) more)
    ∙ ap (λ b. left b (Ok (sums_of t)) rest) (sym (c.add_time.ensures.1 ∙ c.if-not-self.false))

pub returns-clause-left : goal.returns-clause-left
returns-clause-left c =
    let s = c.args.self.now in
    let t = c.add.new.self in
    let text = c.args.text.now in
    let behind = c.in-Some.behind.now in
    let rest = c.split_at.result.1.now in
    let l = get_or behind 0 0 in
    let n = c.in-Some.whole in
    let u = time_unit c.in-Some-unit_at.unit in
    let at : behind ≡ l ∷ rest = cons_of behind (len_some behind c.is_empty.result c.is_empty.ensures c.if-is_empty.false)
    ∙ ap (λ t. l ∷ t) (sym c.split_at.ensures.back) in
    item_read s.in_time (sums_of s) (sums_of t) text c.without_minus.result.now behind rest n l u c.without_minus.ensures
    c.in-Some.ensures at c.in-Some-unit_at.ensures (c.add.ensures.0 c.if-not-add.false
    ∙ ap (λ b. sum_of (sums_of s) (amount u b n)) c.sign_of-minus.ensures)
    ∙ ap (λ b. left b (Ok (sums_of t)) rest) (sym c.add.ensures.1)

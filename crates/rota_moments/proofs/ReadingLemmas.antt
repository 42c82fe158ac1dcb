-- The six numbers of a text of its form, and the moment that they are.
use Rattle.std.proofs.Common.{◌<◌, ◌≡◌, ℕ, ◌+◌, ◌*◌, ◌/◌, ◌%◌, ◌≤◌, ◌&&◌, List, [], ◌∷◌, refl, sym, ap, subst, ◌∙◌, arith, ℤ, Option, Some, None}
use Rattle.std.specs.Prelude.{◌==◌}
use Rattle.rota_moments.specs.declared.reading.Fields.{Fields}
use Rattle.rota_moments.specs.declared.moment.Moment.{Moment}
use Rattle.rota_moments.specs.Calendar.{CivilDate, day_number, date_of}
use Rattle.rota_moments.specs.Moments.{IsDay, IsMoment, moment}
use Rattle.rota_moments.specs.Texts.{Clock, clock_of, start_text, HasForm}
use Rattle.rota_moments.specs.Fields.{date_in, clock_in, pair_of, fields, fields_of, IsDayOf, IsMomentOf}
use Rattle.rota_moments.proofs.CalendarLemmas.{day-dated}
use Rattle.rota_moments.proofs.DigitLemmas.{pair_read, century_read, year_read, pair_from, marks_from, some_same, if_some}

abbrev made_fields : ℕ → ℕ → ℕ → ℕ → ℕ → ℕ → Fields
made_fields y mo d h mi s = record { year = y; month = mo; day = d; hour = h; minute = mi; second = s }

fields_some : (c y mo d h mi s : Option ℕ) (vc vy vmo vd vh vmi vs : ℕ) → c ≡ Some vc → y ≡ Some vy → mo ≡ Some vmo → d ≡ Some vd
    → h ≡ Some vh → mi ≡ Some vmi → s ≡ Some vs → fields c y mo d h mi s ≡ Some (made_fields (100 * vc + vy) vmo vd vh vmi vs)
fields_some c y mo d h mi s vc vy vmo vd vh vmi vs ec ey emo ed eh emi es = rw (ec, ey, emo, ed, eh, emi, es) refl

-- a text of the form has its six numbers
pub form_read : (text : List ℕ) (d : CivilDate) (c : Clock) → HasForm text d c
    → fields_of text ≡ Some (made_fields d.year d.month d.day c.hour c.minute c.second)
form_read text d c h =
    let whole : 100 * (d.year / 100) + d.year % 100 ≡ d.year = omega arith in
    ap fields_of h.stands
    ∙ fields_some _ _ _ _ _ _ _ (d.year / 100) (d.year % 100) d.month d.day c.hour c.minute c.second
    (century_read d.year h.year) (year_read d.year) (pair_read d.month h.month) (pair_read d.day h.day)
    (pair_read c.hour h.hour) (pair_read c.minute h.minute) (pair_read c.second h.second)
    ∙ ap (λ y. Some (made_fields y d.month d.day c.hour c.minute c.second)) whole

-- the pairs that six numbers were made of
record AreFields (c y mo d h mi s : Option ℕ) (f : Fields) : Type 0 where
  century : ℕ
  rest : ℕ
  century_is : c ≡ Some century
  rest_is : y ≡ Some rest
  year : 100 * century + rest ≡ f.year
  month : mo ≡ Some f.month
  day : d ≡ Some f.day
  hour : h ≡ Some f.hour
  minute : mi ≡ Some f.minute
  second : s ≡ Some f.second

fields_from : (c y mo d h mi s : Option ℕ) (f : Fields) → fields c y mo d h mi s ≡ Some f → AreFields c y mo d h mi s f
fields_from (Some c) (Some y) (Some mo) (Some d) (Some h) (Some mi) (Some s) f e =
    let same : made_fields (100 * c + y) mo d h mi s ≡ f = some_same _ _ e in
    record {
      century = c;
      rest = y;
      century_is = refl;
      rest_is = refl;
      year = ap (λ (g : Fields). g.year) same;
      month = ap (λ (g : Fields). Some g.month) same;
      day = ap (λ (g : Fields). Some g.day) same;
      hour = ap (λ (g : Fields). Some g.hour) same;
      minute = ap (λ (g : Fields). Some g.minute) same;
      second = ap (λ (g : Fields). Some g.second) same;
    }
fields_from _ _ _ _ _ _ _ f e = absurd (cc)

bytes_from : (a b c d p e f q g h t i j u k l v m n : ℕ) (r : Fields)
    → fields_of (a ∷ b ∷ c ∷ d ∷ p ∷ e ∷ f ∷ q ∷ g ∷ h ∷ t ∷ i ∷ j ∷ u ∷ k ∷ l ∷ v ∷ m ∷ n ∷ []) ≡ Some r
    → HasForm (a ∷ b ∷ c ∷ d ∷ p ∷ e ∷ f ∷ q ∷ g ∷ h ∷ t ∷ i ∷ j ∷ u ∷ k ∷ l ∷ v ∷ m ∷ n ∷ []) (date_in r) (clock_in r)
bytes_from a b c d p e f q g h t i j u k l v m n r is =
    let passed = if_some ((p == 45) && (q == 45) && (t == 84) && (u == 58) && (v == 58))
    (fields (pair_of a b) (pair_of c d) (pair_of e f) (pair_of g h) (pair_of i j) (pair_of k l) (pair_of m n)) r is in
    let marks = marks_from p q t u v passed.0 in
    let all = fields_from (pair_of a b) (pair_of c d) (pair_of e f) (pair_of g h) (pair_of i j) (pair_of k l) (pair_of m n) r passed.1 in
    let century = pair_from a b all.century all.century_is in
    let rest = pair_from c d all.rest all.rest_is in
    let month = pair_from e f r.month all.month in
    let day = pair_from g h r.day all.day in
    let hour = pair_from i j r.hour all.hour in
    let minute = pair_from k l r.minute all.minute in
    let second = pair_from m n r.second all.second in
    let ea : a ≡ 48 + r.year / 1000 % 10 = omega (arith, century.tens, century.small, rest.small, all.year) in
    let eb : b ≡ 48 + r.year / 100 % 10 = omega (arith, century.ones, century.small, rest.small, all.year) in
    let ec : c ≡ 48 + r.year / 10 % 10 = omega (arith, rest.tens, century.small, rest.small, all.year) in
    let ed : d ≡ 48 + r.year / 1 % 10 = omega (arith, rest.ones, century.small, rest.small, all.year) in
    record {
      year = omega (arith, century.small, rest.small, all.year);
      month = month.small;
      day = day.small;
      hour = hour.small;
      minute = minute.small;
      second = second.small;
      stands = rw (
        ea,
        eb,
        ec,
        ed,
        marks.p,
        month.tens,
        month.ones,
        marks.q,
        day.tens,
        day.ones,
        marks.t,
        hour.tens,
        hour.ones,
        marks.u,
        minute.tens,
        minute.ones,
        marks.v,
        second.tens,
        second.ones,
      ) refl;
    }

-- a text that six numbers were read of has the form
pub form_from : (text : List ℕ) (r : Fields) → fields_of text ≡ Some r → HasForm text (date_in r) (clock_in r)
form_from (a ∷ b ∷ c ∷ d ∷ p ∷ e ∷ f ∷ q ∷ g ∷ h ∷ t ∷ i ∷ j ∷ u ∷ k ∷ l ∷ v ∷ m ∷ n ∷ []) r is =
    bytes_from a b c d p e f q g h t i j u k l v m n r is
form_from _ r is = absurd (cc)

-- the text of a moment has the form
pub start_form : (m : Moment) → IsMoment m → HasForm (start_text m) (date_of m.day) (clock_of m.micro)
start_form m h =
    let dated = day-dated m.day h.0 in
    let high = dated.high in
    let month = dated.civil.month in
    let day = dated.civil.day in
    record {
      year = omega arith;
      month = omega arith;
      day = grind arith;
      hour = omega arith;
      minute = omega arith;
      second = omega arith;
      stands = refl;
    }

-- a text without six numbers hasn't the form
pub none_formed : (text : List ℕ) → None ≡ fields_of text → (d : CivilDate) (c : Clock) → HasForm text d c → ⊥
none_formed text e d c h = let read = form_read text d c h in cc

-- a text is that of a moment only where its numbers are the moment's
pub same_numbers : (text : List ℕ) (f : Fields) (m : Moment) → HasForm text (date_in f) (clock_in f) → IsMoment m → text ≡ start_text m
    → (date_of m.day ≡ date_in f) × (clock_of m.micro ≡ clock_in f)
same_numbers text f m h is e =
    let mine = form_read text (date_in f) (clock_in f) h in
    let P : List ℕ → Type 0 = λ t. HasForm t (date_of m.day) (clock_of m.micro) in
    let theirs = form_read text (date_of m.day) (clock_of m.micro) (subst P (sym e) (start_form m is)) in
    let same = some_same _ _ (sym theirs ∙ mine) in
    (ap date_in same, ap clock_in same)

-- the numbers of a date and a time of day are a moment
pub moment_made : (f : Fields) (day : ℤ) (second : ℕ) → f.hour ≤ 23 → f.minute ≤ 59 → f.second ≤ 59
    → second ≡ (f.hour * 60 + f.minute) * 60 + f.second
    → IsDayOf (date_in f) (Some day) → IsMomentOf (date_in f) (clock_in f) (Some (moment day (second * 1000000)))
moment_made f day second hh hm hs e is =
    let hour : second * 1000000 / 3600000000 ≡ f.hour = omega arith in
    let minute : second * 1000000 / 60000000 % 60 ≡ f.minute = omega arith in
    let left : second * 1000000 / 1000000 % 60 ≡ f.second = omega arith in
    ((is.0, omega arith), omega arith, is.1, rw (hour, minute, left) refl)

-- a text that isn't of the form is no moment's
pub unformed : (text : List ℕ) (m : Moment) → None ≡ fields_of text → IsMoment m → text ≡ start_text m → ⊥
unformed text m e h is =
    let P : List ℕ → Type 0 = λ t. HasForm t (date_of m.day) (clock_of m.micro) in
    none_formed text e (date_of m.day) (clock_of m.micro) (subst P (sym is) (start_form m h))

same_day : (a b : ℤ) → IsDay a → IsDay b → date_of a ≡ date_of b → a ≡ b
same_day a b ha hb e = (day-dated a ha).number ∙ ap day_number e ∙ sym (day-dated b hb).number

same_micro : (a b : ℕ) → a < 86400000000 → b < 86400000000 → a % 1000000 ≡ 0 → b % 1000000 ≡ 0 → clock_of a ≡ clock_of b → a ≡ b
same_micro a b ha hb za zb e =
    let hour : a / 3600000000 ≡ b / 3600000000 = ap (λ (k : Clock). k.hour) e in
    let minute : a / 60000000 % 60 ≡ b / 60000000 % 60 = ap (λ (k : Clock). k.minute) e in
    let second : a / 1000000 % 60 ≡ b / 1000000 % 60 = ap (λ (k : Clock). k.second) e in
    omega arith

same_moment : (m r : Moment) → IsMoment m → IsMoment r → m.micro % 1000000 ≡ 0 → r.micro % 1000000 ≡ 0 → date_of m.day ≡ date_of r.day
    → clock_of m.micro ≡ clock_of r.micro → m ≡ r
same_moment m r hm hr zm zr d c =
    ap (λ z. moment z m.micro) (same_day m.day r.day hm.0 hr.0 d) ∙ ap (λ k. moment r.day k) (same_micro m.micro r.micro hm.1 hr.1 zm zr c)

-- only one moment has the text
pub only_moment : (text : List ℕ) (f : Fields) (m r : Moment) → HasForm text (date_in f) (clock_in f)
    → IsMomentOf (date_in f) (clock_in f) (Some r)
    → IsMoment m → m.micro % 1000000 ≡ 0 → text ≡ start_text m → r ≡ m
only_moment text f m r form made h z e =
    let same = same_numbers text f m form h e in
    same_moment r m made.0 h made.1 z (made.2 ∙ sym same.0) (made.3 ∙ sym same.1)

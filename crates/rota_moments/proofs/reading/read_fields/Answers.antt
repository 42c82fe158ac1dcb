-- The pairs that are read of nineteen bytes are those that stand in them.
use Rattle.std.proofs.Common.{◌≡◌, ℕ, Bool, true, false, ◌&&◌, List, [], ◌∷◌, length, get_or, refl, ◌∙◌, arith, Option, None}
use Rattle.std.specs.Prelude.{◌==◌, if◌then◌else◌}
use Rattle.rota_moments.specs.Fields.{fields, fields_of, pair_of}
use Rattle.rota_moments.proofs.DigitLemmas.{AreMarks, marks_from}
use Rattle.rota_moments.proofs.reading.read_fields.Goals as goal

abbrev pair_at : List ℕ → ℕ → ℕ → Option ℕ
pair_at text i j = pair_of (get_or text i 0) (get_or text j 0)

read_of_bytes : (text : List ℕ) (c y mo d h mi s : Option ℕ) → c ≡ pair_at text 0 1 → y ≡ pair_at text 2 3 → mo ≡ pair_at text 5 6
    → d ≡ pair_at text 8 9 → h ≡ pair_at text 11 12 → mi ≡ pair_at text 14 15 → s ≡ pair_at text 17 18 → length text ≡ 19
    → get_or text 4 0 ≡ 45 → get_or text 7 0 ≡ 45 → get_or text 10 0 ≡ 84 → get_or text 13 0 ≡ 58 → get_or text 16 0 ≡ 58
    → fields c y mo d h mi s ≡ fields_of text
read_of_bytes (_ ∷ _ ∷ _ ∷ _ ∷ _ ∷ _ ∷ _ ∷ _ ∷ _ ∷ _ ∷ _ ∷ _ ∷ _ ∷ _ ∷ _ ∷ _ ∷ _ ∷ _ ∷ _ ∷ []) c y mo d h mi s ec ey emo ed eh emi es long ep eq et eu ev =
    rw (ec, ey, emo, ed, eh, emi, es, ep, eq, et, eu, ev) refl
read_of_bytes _ c y mo d h mi s ec ey emo ed eh emi es long ep eq et eu ev = absurd (omega arith)

if_none : {A : Type 0} (b : Bool) (o : Option A) → (b ≡ true → ⊥) → None ≡ (if b then o else None)
if_none true o h = absurd (h refl)
if_none false o h = refl

-- bytes of another number, or without these marks, are read as nothing
formless : (text : List ℕ)
    → (length text ≡ 19 → AreMarks (get_or text 4 0) (get_or text 7 0) (get_or text 10 0) (get_or text 13 0) (get_or text 16 0) → ⊥)
    → None ≡ fields_of text
formless (a ∷ b ∷ c ∷ d ∷ p ∷ e ∷ f ∷ q ∷ g ∷ h ∷ t ∷ i ∷ j ∷ u ∷ k ∷ l ∷ v ∷ m ∷ n ∷ []) other =
    if_none ((p == 45) && (q == 45) && (t == 84) && (u == 58) && (v == 58)) _ (λ e. other refl (marks_from p q t u v e))
formless _ other = refl

pub returns : goal.returns
returns c = record {
  value = c.fields_from.ensures
      ∙ read_of_bytes c.args.text.now _ _ _ _ _ _ _ c.read_pair.ensures.value c.read_pair-2.ensures.value c.read_pair-3.ensures.value
      c.read_pair-4.ensures.value c.read_pair-5.ensures.value c.read_pair-6.ensures.value c.read_pair-7.ensures.value
      (omega arith) (omega arith) (omega arith) (omega arith) (omega arith) (omega arith);
}

pub returns-in_default : goal.returns-in_default
returns-in_default c = record { value = formless c.args.text.now (λ long marks. omega arith) }

pub returns-in_default-2 : goal.returns-in_default-2
returns-in_default-2 c = record { value = formless c.args.text.now (λ long marks. omega arith) }

pub returns-in_default-3 : goal.returns-in_default-3
returns-in_default-3 c = record { value = formless c.args.text.now (λ long marks. omega arith) }

pub returns-in_default-4 : goal.returns-in_default-4
returns-in_default-4 c = record { value = formless c.args.text.now (λ long marks. omega arith) }

pub returns-in_default-5 : goal.returns-in_default-5
returns-in_default-5 c = record { value = formless c.args.text.now (λ long marks. omega arith) }

pub returns-in_default-6 : goal.returns-in_default-6
returns-in_default-6 c = record { value = formless c.args.text.now (λ long marks. omega arith) }

pub returns-in_default-7 : goal.returns-in_default-7
returns-in_default-7 c = record { value = formless c.args.text.now (λ long marks. omega arith) }

pub fields_from-requires : goal.fields_from-requires
fields_from-requires c = record { century = c.read_pair.ensures.small; year = c.read_pair-2.ensures.small }

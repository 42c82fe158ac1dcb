use Rattle.std.proofs.Common.{◌≡◌, ℕ, ℤ, Bool, true, false, ◌&&◌, eqb, refl, sym, ap, ◌∙◌, rules, of_z, to_z}
use Rattle.std.proofs.lemmas.Bool.{eqb-true, eq-eqb}
use Rattle.std.proofs.lemmas.Bool.Decides.{same_from_decides, Decides-int_eq}
use Rattle.std.proofs.lemmas.Int.{to_z-of_z}
use Rattle.std.specs.Ordering.{int_eq}
use mir.Syntax.{Width, w16, w32}
use mir.Val.{SFits}
use Rattle.pg_types.specs.Formats.{format_code}
use Rattle.pg_types.specs.Types.{oid_of}
use Rattle.pg_results.proofs.field_info.is_same_type.Goals.{then-oid, else-oid, then-value, else-value}
use Rattle.pg_results.proofs.field_info.is_same_type.Goals as goal

same_bits : (w : Width) (a b : ℤ) → SFits w a → SFits w b → eqb (of_z w a) (of_z w b) ≡ int_eq a b
same_bits w a b fa fb =
    same_from_decides (eqb (of_z w a) (of_z w b)) (int_eq a b)
    (λ e. sym (to_z-of_z w a fa) ∙ ap (to_z w) (eqb-true _ _ e) ∙ to_z-of_z w b fb, λ e. eq-eqb _ _ (ap (of_z w) e))
    (Decides-int_eq a b)

all_of : (a b c d v u : Bool) → v ≡ a && b → u ≡ v && c → u ≡ true → d ≡ a && (b && (c && d))
all_of true true true d v u e f g = refl
all_of true true false d v u e f g = absurd (cc)
all_of true false c d v u e f g = absurd (cc)
all_of false b c d v u e f g = absurd (cc)

none_of : (a b c d v u : Bool) → v ≡ a && b → u ≡ v && c → u ≡ false → u ≡ a && (b && (c && d))
none_of true true true d v u e f g = absurd (cc)
none_of true true false d v u e f g = g
none_of true false c d v u e f g = g
none_of false b c d v u e f g = g

and_true : (a b v : Bool) → a ≡ true → v ≡ b → v ≡ a && b
and_true a b v e f = f ∙ ap (λ x. x && b) (sym e)

and_false : (a b v : Bool) → v ≡ a → a ≡ false → v ≡ a && b
and_false a b v e f = (e ∙ f) ∙ ap (λ x. x && b) (sym f)

and_differs : (p q : ℕ) (x b v : Bool) → eqb p q ≡ x → v ≡ x → (p ≡ q → ⊥) → v ≡ x && b
and_differs p q true b v e h n = absurd (n (eqb-true p q e))
and_differs p q false b v e h n = h

pub returns-then-a-b : goal.returns-then-a-b
returns-then-a-b c =
    let av = c.a.inside in
    let bv = c.b.inside in
    let types : c.if-oid.value ≡ eqb (oid_of av.datatype) (oid_of bv.datatype) && int_eq (format_code av.format) (format_code bv.format) =
    elim c.if-oid.branch [
      | then-oid w ↦
          let k = w.if-oid.true in
          and_true (eqb (oid_of av.datatype) (oid_of bv.datatype)) (int_eq (format_code av.format) (format_code bv.format)) c.if-oid.value
          (eq-eqb _ _ (sym c.oid.ensures ∙ k ∙ c.oid-2.ensures))
          (w.value-is
          ∙ same_bits w16 w.value.result w.value-then-oid.result (record { sfits = w.value.type_inv }) (record { sfits = w.value-then-oid.type_inv })
          ∙ ap (λ x. int_eq x w.value-then-oid.result) w.value.ensures ∙ ap (int_eq (format_code av.format)) w.value-then-oid.ensures)
      | else-oid w ↦
          and_differs (oid_of av.datatype) (oid_of bv.datatype) (eqb (oid_of av.datatype) (oid_of bv.datatype)) _ c.if-oid.value refl
          (w.value-is ∙ ap (λ x. eqb x c.oid-2.result) c.oid.ensures ∙ ap (eqb (oid_of av.datatype)) c.oid-2.ensures)
          (λ e. w.if-oid.false (c.oid.ensures ∙ e ∙ sym c.oid-2.ensures))
    ] in
    let sizes : c.if-value.value ≡ c.if-oid.value && int_eq av.type_size bv.type_size =
    elim c.if-value.branch [
      | then-value w ↦
          and_true c.if-oid.value (int_eq av.type_size bv.type_size) c.if-value.value w.if-value.true
          (w.value-is ∙ same_bits w16 av.type_size bv.type_size (search rules) (search rules))
      | else-value w ↦ and_false c.if-oid.value (int_eq av.type_size bv.type_size) c.if-value.value w.value-is w.if-value.false
    ] in
    rw (← c.a.view_is, ← c.b.view_is)
    (same_bits w32 av.type_modifier bv.type_modifier (search rules) (search rules)
    ∙ all_of _ _ _ (int_eq av.type_modifier bv.type_modifier) c.if-oid.value c.if-value.value types sizes c.if-a-b.true)

pub returns-else-a-b : goal.returns-else-a-b
returns-else-a-b c =
    let av = c.a.inside in
    let bv = c.b.inside in
    let types : c.if-oid.value ≡ eqb (oid_of av.datatype) (oid_of bv.datatype) && int_eq (format_code av.format) (format_code bv.format) =
    elim c.if-oid.branch [
      | then-oid w ↦
          let k = w.if-oid.true in
          and_true (eqb (oid_of av.datatype) (oid_of bv.datatype)) (int_eq (format_code av.format) (format_code bv.format)) c.if-oid.value
          (eq-eqb _ _ (sym c.oid.ensures ∙ k ∙ c.oid-2.ensures))
          (w.value-is
          ∙ same_bits w16 w.value.result w.value-then-oid.result (record { sfits = w.value.type_inv }) (record { sfits = w.value-then-oid.type_inv })
          ∙ ap (λ x. int_eq x w.value-then-oid.result) w.value.ensures ∙ ap (int_eq (format_code av.format)) w.value-then-oid.ensures)
      | else-oid w ↦
          and_differs (oid_of av.datatype) (oid_of bv.datatype) (eqb (oid_of av.datatype) (oid_of bv.datatype)) _ c.if-oid.value refl
          (w.value-is ∙ ap (λ x. eqb x c.oid-2.result) c.oid.ensures ∙ ap (eqb (oid_of av.datatype)) c.oid-2.ensures)
          (λ e. w.if-oid.false (c.oid.ensures ∙ e ∙ sym c.oid-2.ensures))
    ] in
    let sizes : c.if-value.value ≡ c.if-oid.value && int_eq av.type_size bv.type_size =
    elim c.if-value.branch [
      | then-value w ↦
          and_true c.if-oid.value (int_eq av.type_size bv.type_size) c.if-value.value w.if-value.true
          (w.value-is ∙ same_bits w16 av.type_size bv.type_size (search rules) (search rules))
      | else-value w ↦ and_false c.if-oid.value (int_eq av.type_size bv.type_size) c.if-value.value w.value-is w.if-value.false
    ] in
    rw (← c.a.view_is, ← c.b.view_is)
    (none_of _ _ _ (int_eq av.type_modifier bv.type_modifier) c.if-oid.value c.if-value.value types sizes c.if-a-b.false)

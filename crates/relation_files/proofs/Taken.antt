-- The names that headers have taken.
use Rattle.std.proofs.Common.{◌≡◌, ◌==◌, ℕ, Bool, true, false, ◌||◌, cond, List, [], ◌∷◌, ◌++◌, Option, Some, None, length, map, refl, sym, ap, ◌∙◌}
use Rattle.std.specs.Option.{is_some}
use Rattle.std.specs.Cmp.Lexicographic.{nat_list_cmp_total}
use Rattle.std.specs.Str.{bytes_eq}
use Rattle.std.specs.FinMap as fin
use Rattle.std.proofs.lemmas.List.Folds.{list_any-append}
use Rattle.std.proofs.lemmas.Map.Text.{is_eq-slice_cmp}
use Rattle.named_entries.specs.Names.{NameMap}
use Rattle.relation_tables.specs.declared.Relation.{Relation}
use Rattle.relation_files.specs.Refusal.{is_among, line_reason}
use Rattle.relation_files.specs.Reader.{SoFar, names_of, width_of, reason_at}
use Rattle.relation_files.proofs.Steps.{line_reason-alike, names-header}

-- what a header is refused for, by the names that are taken
pub reason_at-header : (s : SoFar) (t : List ℕ → Bool) (line : List ℕ) → (length line == 0) ≡ false → s.current ≡ None
    → ((name : List ℕ) → t name ≡ is_among (names_of s) name) → reason_at s line ≡ line_reason t None line
reason_at-header s t [] some closed same = cc
reason_at-header s t (byte ∷ bytes) some closed same =
    ap (λ current. line_reason (is_among (names_of s)) (width_of current) (byte ∷ bytes)) closed
    ∙ sym (line_reason-alike t (is_among (names_of s)) same (byte ∷ bytes))

some-insert : {X : Type 0} (b : Bool) (x : X) (o : Option X) → is_some (cond b (Some x) o) ≡ (is_some o || b)
some-insert true x None = refl
some-insert true x (Some y) = refl
some-insert false x None = refl
some-insert false x (Some y) = refl

or-false : (a b : Bool) → (a || b) ≡ (a || (b || false))
or-false true b = refl
or-false false true = refl
or-false false false = refl

-- one name more
pub taken-insert : {X : Type 0} (m : NameMap X) (x : X) (closed : List Relation) (current : Option Relation) (r : Relation)
    → current ≡ None → ((name : List ℕ) → is_some (fin.get m name)
    ≡ is_among (names_of (record { closed = closed; current = current })) name)
    → (name : List ℕ) → is_some (fin.get (fin.insert m r.name x) name)
    ≡ is_among (names_of (record { closed = closed; current = Some r })) name
taken-insert m x closed current r none so_far name =
    ap is_some (fin.get-insert nat_list_cmp_total m r.name x name
    ∙ ap (λ b. cond b (Some x) (fin.get m name)) (is_eq-slice_cmp name r.name))
    ∙ some-insert (bytes_eq name r.name) x (fin.get m name)
    ∙ ap (λ b. b || bytes_eq name r.name) (so_far name ∙ ap (λ o. is_among (names_of (record { closed = closed; current = o })) name) none)
    ∙ or-false (is_among (map (λ q. q.name) (closed ++ [])) name) (bytes_eq name r.name)
    ∙ sym (list_any-append (λ other. bytes_eq name other) (map (λ q. q.name) (closed ++ [])) (r.name ∷ []))
    ∙ ap (λ names. is_among names name) (names-header closed r)

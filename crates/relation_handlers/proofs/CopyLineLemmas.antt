-- Texts that are appended one after another behind their tabs, up to the first refusal.
use Rattle.std.proofs.Common.{◌≡◌, ℕ, zero, suc, ◌+◌, ◌<◌, List, [], ◌∷◌, ◌++◌, Result, Ok, Err, length, drop, get_or, map, refl, sym, ap, ◌∙◌, append_assoc, add-one}
use Rattle.std.specs.List.{flat_map, join_with_byte}
use Rattle.std.proofs.lemmas.List.{drop_more, append-nil}
use Rattle.pg_results.specs.declared.error.PgWireError.{PgWireError}
use Rattle.pg_portal.specs.Encoding.{line_cell}
use Rattle.relation_tables.specs.RelationHandler.{in_front, all_or_error}
use Rattle.relation_handlers.specs.Values.{IsPushed, tabbed}
use Rattle.relation_handlers.proofs.ValueLemmas.{Values}

-- the texts behind an index
abbrev pub behind : ℕ → List (List ℕ) → List ℕ
behind zero texts = join_with_byte 9 texts
behind (suc n) texts = flat_map (λ text. 9 ∷ text) texts

abbrev pub finish_line : List ℕ → ℕ → Values → Result (List ℕ) PgWireError
finish_line old index (Ok texts) = Ok (old ++ behind index texts)
finish_line old index (Err e) = Err e

first_text : (text : List ℕ) (texts : List (List ℕ)) → join_with_byte 9 (text ∷ texts) ≡ text ++ flat_map (λ t. 9 ∷ t) texts
first_text text [] = sym (append-nil text)
first_text text (t ∷ texts) = ap (λ l. text ++ (9 ∷ l)) (first_text t texts)

next_text : (index : ℕ) (text : List ℕ) (texts : List (List ℕ))
    → behind index (text ∷ texts) ≡ line_cell index text ++ behind (suc index) texts
next_text zero text texts = first_text text texts
next_text (suc n) text texts = refl

push_text : (index : ℕ) (v : Result (List ℕ) PgWireError) (old new : List ℕ) (rest : Values) → IsPushed (tabbed index v) old new
    → finish_line old index (in_front v rest) ≡ finish_line new (suc index) rest
push_text index (Ok b) old new (Ok vs) h =
    ap (λ l. Ok l) (ap (λ l. old ++ l) (next_text index b vs) ∙ sym (append_assoc old (line_cell index b) (behind (suc index) vs))
    ∙ ap (λ l. l ++ behind (suc index) vs) (sym h))
push_text index (Ok b) old new (Err e) h = refl
push_text index (Err e) old new rest h = absurd h

module _ {X : Type 0} (g : X → Result (List ℕ) PgWireError) (xs : List X) where
  -- the texts from an index on
  abbrev pub texts_from : ℕ → Values
  texts_from i = all_or_error (map g (drop i xs))

  -- one more text
  pub texts_step : (i : ℕ) (d : X) (old new : List ℕ) (whole : Result (List ℕ) PgWireError) → i < length xs
      → finish_line old i (texts_from i) ≡ whole → IsPushed (tabbed i (g (get_or xs i d))) old new
      → finish_line new (i + 1) (texts_from (i + 1)) ≡ whole
  texts_step i d old new whole inside e h = ap (λ n. finish_line new n (texts_from (i + 1))) (add-one i)
      ∙ sym (push_text i (g (get_or xs i d)) old new (texts_from (i + 1)) h)
      ∙ ap (λ l. finish_line old i (all_or_error (map g l))) (sym (drop_more xs i d inside)) ∙ e

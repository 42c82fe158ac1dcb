-- The rule of the table behind a history, and what each step on it tells. No public contract names it. The history, `log`
-- below, exists only in the rule and in the views.
use Rattle.std.specs.Prelude.{◌≡◌, ℕ, true, false, List, [], ◌∷◌, ◌++◌}
use mathlib.Core.Option.{some}
use mathlib.Core.List.{IsPrefix}
use lib.ListN.{get_elem?}
use Rattle.atomic_table.specs.Table.{State, Me, Step}
use Rattle.shared_history.specs.declared.seat.View.{View}
use Rattle.shared_history.specs.Histories.{IsOneHistory}

-- ---- the rule

-- what a seat has seen, and what it was told, are beginnings of the history; the writer's seat has seen all of it
pub record Fits {C : Type 0} (log : List C) (writer j : ℕ) (v : View C) : Type 0 where
  pub seen : IsPrefix v.seen log
  pub told : IsPrefix v.told log
  pub writes : v.writes ≡ true → (j ≡ writer) × (v.seen ≡ log)

pub record IsInOrder {C : Type 0} (s : State C (View C)) : Type 0 where
  pub log : List C
  pub writer : ℕ
  pub fits : (j : ℕ) (v : View C) → get_elem? s.views j ≡ some v → Fits log writer j v

-- ---- views

abbrev pub writer : {C : Type 0} → List C → View C
writer seen = record { writes = true; seen = seen; told = [] }

abbrev pub reader : {C : Type 0} → List C → View C
reader seen = record { writes = false; seen = seen; told = [] }

-- a seat that was told what another had seen
abbrev pub joined : {C : Type 0} → View C → View C → View C
joined v w = record { writes = v.writes; seen = v.seen; told = w.seen }

-- a seat that has seen one change more
abbrev pub grown : {C : Type 0} → View C → C → View C
grown v change = record { writes = v.writes; seen = v.seen ++ change ∷ []; told = v.told }

-- ---- steps

abbrev pub adds : {C : Type 0} → Step C → Me C (View C) → ℕ → Me C (View C) → Type 0
adds {C} st m r n = (change : C) → st.said ≡ some change → n ≡ (grown m.0 change, m.1)

abbrev pub compared : {C : Type 0} → Step C → Me C (View C) → ℕ → Me C (View C) → Type 0
compared st m r n = (n ≡ m) × IsOneHistory m.0.told m.0.seen × (m.0.writes ≡ true → IsPrefix m.0.told m.0.seen)

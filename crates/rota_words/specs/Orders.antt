-- What the words of rota_report's command line order.
use Rattle.std.specs.Prelude.{ℕ, ◌≡◌, List, [], ◌∷◌, Some, Ok, codes}
use Rattle.pg_text.specs.Words.{interval_style_of}
use Rattle.pg_text.specs.declared.format.interval_style.IntervalStyle.{IntervalStyle}
use Rattle.rota_moments.specs.declared.moment.Moment.{Moment}
use Rattle.rota_moments.specs.Texts.{IsReading}
use Rattle.rota_words.specs.declared.orders.Order.{Order}
use Rattle.rota_words.specs.declared.orders.Order.TheVariants as order
use Rattle.rota_words.specs.declared.orders.RotaWords.{RotaWords}

-- a rota: the intervals of a relation's column, from a start on
pub record Named : Type 0 where
  pub relation : List ℕ
  pub column : List ℕ
  pub start : Moment

-- the lines of a rota, with its intervals in a style; or the clashes of two
pub data Ordered : Type 0 where
  lines : Named → IntervalStyle → Ordered
  clashes : Named → Named → Ordered

-- The words are `lines FILE RELATION COLUMN START STYLE`: FILE is any word, START a text that is read as a moment, and STYLE one that names
-- a style.
pub record OrderLines (words : List (List ℕ)) (n : Named) (s : IntervalStyle) : Type 0 where
  pub file : List ℕ
  pub start : List ℕ
  pub style : List ℕ
  pub words_are : words ≡ codes "lines" ∷ file ∷ n.relation ∷ n.column ∷ start ∷ style ∷ []
  pub start_is : IsReading start (Ok n.start)
  pub style_is : interval_style_of style ≡ Some s

-- The words are `clashes FILE RELATION COLUMN START RELATION COLUMN START`.
pub record OrderClashes (words : List (List ℕ)) (n m : Named) : Type 0 where
  pub file : List ℕ
  pub start : List ℕ
  pub its_start : List ℕ
  pub words_are : words ≡ codes "clashes" ∷ file ∷ n.relation ∷ n.column ∷ start ∷ m.relation ∷ m.column ∷ its_start ∷ []
  pub start_is : IsReading start (Ok n.start)
  pub its_start_is : IsReading its_start (Ok m.start)

-- What words order.
abbrev pub Orders : List (List ℕ) → Ordered → Type 0
Orders words (lines n s) = OrderLines words n s
Orders words (clashes n m) = OrderClashes words n m

-- what the program's types hold
abbrev pub told_words : RotaWords → Named
told_words w = record { relation = w.relation.now; column = w.column.now; start = w.start }

abbrev pub told_order : Order → Ordered
told_order (order.Lines w style) = lines (told_words w) style
told_order (order.Clashes w v) = clashes (told_words w) (told_words v)

-- Words of a command line.
use Rattle.std.proofs.Common.{◌≡◌, inl, inr, ℕ, ◌≤◌, ◌<◌, List, [], ◌∷◌, length, get_or, Option, Some, None, Ok, Err, refl, sym, ap, subst, ◌∙◌, arith}
use Rattle.pg_text.specs.Cells.{IsRead}
use Rattle.std.specs.Prelude.{codes}
use Rattle.pg_text.specs.Words.{or_invalid, interval_style_of}
use Rattle.pg_text.specs.declared.format.interval_style.IntervalStyle.{IntervalStyle}
use Rattle.rota_moments.specs.declared.moment.Moment.{Moment}
use Rattle.rota_moments.specs.Texts.{IsReading}
use Rattle.rota_words.specs.Orders.{Named, Ordered, lines, clashes, OrderLines, OrderClashes, Orders}
use Rattle.pg_types.specs.declared.error.CellError.{CellError}

-- an answer of a reader that is Ok is the value that is named
pub style_read : {T : Type 0} (text : List ℕ) (o : Option T) (x : T) → IsRead (or_invalid text o) (Ok x) → Some x ≡ o
style_read text None x (inl h) = cc
style_read text None x (inr h) = cc
style_read text (Some y) x h = cc

pub style_refused : {T : Type 0} (text : List ℕ) (o : Option T) (e : CellError) → IsRead {T = T} (or_invalid text o) (Err e) → None ≡ o
style_refused text None e h = refl
style_refused text (Some y) e h = cc

-- the words of a command line, one by one
pub six : (ws : List (List ℕ)) (a b c d e f : List ℕ) → 6 ≤ length ws → length ws < 7
    → ws ≡ get_or ws 0 a ∷ get_or ws 1 b ∷ get_or ws 2 c ∷ get_or ws 3 d ∷ get_or ws 4 e ∷ get_or ws 5 f ∷ []
six [] a b c d e f h k = absurd (omega arith)
six (o ∷ []) a b c d e f h k = absurd (omega arith)
six (o ∷ p ∷ []) a b c d e f h k = absurd (omega arith)
six (o ∷ p ∷ q ∷ []) a b c d e f h k = absurd (omega arith)
six (o ∷ p ∷ q ∷ r ∷ []) a b c d e f h k = absurd (omega arith)
six (o ∷ p ∷ q ∷ r ∷ s ∷ []) a b c d e f h k = absurd (omega arith)
six (o ∷ p ∷ q ∷ r ∷ s ∷ t ∷ []) a b c d e f h k = refl
six (o ∷ p ∷ q ∷ r ∷ s ∷ t ∷ u ∷ more) a b c d e f h k = absurd (omega arith)

pub eight : (ws : List (List ℕ)) (a b c d e f g i : List ℕ) → 8 ≤ length ws → length ws < 9
    → ws ≡ get_or ws 0 a ∷ get_or ws 1 b ∷ get_or ws 2 c ∷ get_or ws 3 d ∷ get_or ws 4 e ∷ get_or ws 5 f ∷ get_or ws 6 g ∷ get_or ws 7 i
    ∷ []
eight [] a b c d e f g i h k = absurd (omega arith)
eight (o ∷ []) a b c d e f g i h k = absurd (omega arith)
eight (o ∷ p ∷ ws) a b c d e f g i h k = ap (λ l. o ∷ p ∷ l) (six ws c d e f g i (omega arith) (omega arith))

-- Six words order the lines of a rota, and eight the clashes of two.
pub order_lines : (ws : List (List ℕ)) (n : Named) (s : IntervalStyle) (command relation column start style : List ℕ)
    (d0 d2 d3 d4 d5 : List ℕ)
    → 6 ≤ length ws → length ws < 7 → command ≡ codes "lines" → command ≡ get_or ws 0 d0 → relation ≡ get_or ws 2 d2
    → column ≡ get_or ws 3 d3
    → start ≡ get_or ws 4 d4 → style ≡ get_or ws 5 d5 → n.relation ≡ relation → n.column ≡ column → IsReading start (Ok n.start)
    → interval_style_of style ≡ Some s → OrderLines ws n s
order_lines ws n s command relation column start style d0 d2 d3 d4 d5 least below is w0 w2 w3 w4 w5 r c m t =
    let words = six ws d0 [] d2 d3 d4 d5 least below in
    record {
      file = get_or ws 1 [];
      start = start;
      style = style;
      words_are = cc;
      start_is = m;
      style_is = t;
    }

pub order_clashes : (ws : List (List ℕ)) (n m : Named) (command relation column start other its_column its_start : List ℕ)
    (d0 d2 d3 d4 d5 d6 d7 : List ℕ) → 8 ≤ length ws → length ws < 9 → command ≡ codes "clashes" → command ≡ get_or ws 0 d0
    → relation ≡ get_or ws 2 d2 → column ≡ get_or ws 3 d3 → start ≡ get_or ws 4 d4 → other ≡ get_or ws 5 d5 → its_column ≡ get_or ws 6 d6
    → its_start ≡ get_or ws 7 d7 → n.relation ≡ relation → n.column ≡ column → IsReading start (Ok n.start) → m.relation ≡ other
    → m.column ≡ its_column → IsReading its_start (Ok m.start) → OrderClashes ws n m
order_clashes ws n m command relation column start other its_column its_start d0 d2 d3 d4 d5 d6 d7 least below is w0 w2 w3 w4 w5 w6 w7 r c t
    q k u =
    let words = eight ws d0 [] d2 d3 d4 d5 d6 d7 least below in
    record {
      file = get_or ws 1 [];
      start = start;
      its_start = its_start;
      words_are = cc;
      start_is = t;
      its_start_is = u;
    }

-- Words whose start or style isn't read are no order.
unread : (text its : List ℕ) (m : Moment) → text ≡ its → ((m : Moment) → ¬ IsReading text (Ok m)) → IsReading its (Ok m) → ⊥
unread text its m e none h = none m (subst (λ t. IsReading t (Ok m)) (sym e) h)

unnamed : (text its : List ℕ) (s : IntervalStyle) → text ≡ its → None ≡ interval_style_of text → interval_style_of its ≡ Some s → ⊥
unnamed text its s e none h = let named : interval_style_of text ≡ Some s = ap interval_style_of e ∙ h in cc

pub no_lines_start : (ws : List (List ℕ)) (start d : List ℕ) → length ws < 7 → start ≡ get_or ws 4 d
    → ((m : Moment) → ¬ IsReading start (Ok m)) → (o : Ordered) → ¬ Orders ws o
no_lines_start ws start d below e none (lines n s) h =
    unread start h.start n.start (e ∙ ap (λ l. get_or l 4 d) h.words_are) none h.start_is
no_lines_start ws start d below e none (clashes n m) h = absurd (omega (arith, ap length h.words_are))

pub no_lines_style : (ws : List (List ℕ)) (style d : List ℕ) → length ws < 7 → style ≡ get_or ws 5 d
    → None ≡ interval_style_of style → (o : Ordered) → ¬ Orders ws o
no_lines_style ws style d below e none (lines n s) h =
    unnamed style h.style s (e ∙ ap (λ l. get_or l 5 d) h.words_are) none h.style_is
no_lines_style ws style d below e none (clashes n m) h = absurd (omega (arith, ap length h.words_are))

pub no_clashes_start : (ws : List (List ℕ)) (start d : List ℕ) → 8 ≤ length ws → start ≡ get_or ws 4 d
    → ((m : Moment) → ¬ IsReading start (Ok m)) → (o : Ordered) → ¬ Orders ws o
no_clashes_start ws start d least e none (lines n s) h = absurd (omega (arith, ap length h.words_are))
no_clashes_start ws start d least e none (clashes n m) h =
    unread start h.start n.start (e ∙ ap (λ l. get_or l 4 d) h.words_are) none h.start_is

pub no_clashes_its_start : (ws : List (List ℕ)) (start d : List ℕ) → 8 ≤ length ws → start ≡ get_or ws 7 d
    → ((m : Moment) → ¬ IsReading start (Ok m)) → (o : Ordered) → ¬ Orders ws o
no_clashes_its_start ws start d least e none (lines n s) h = absurd (omega (arith, ap length h.words_are))
no_clashes_its_start ws start d least e none (clashes n m) h =
    unread start h.its_start m.start (e ∙ ap (λ l. get_or l 7 d) h.words_are) none h.its_start_is

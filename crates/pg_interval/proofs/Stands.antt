-- From what a printer answers to what its text stands for.
use Rattle.std.proofs.Common.{◌≡◌, List, ℕ, Result, Ok, Err, ◌∙◌, ap, sym, subst}
use Rattle.std.specs.Prelude.{IfOk}
use Rattle.pg_interval.specs.Cell.{IsInterval}
use Rattle.pg_interval.specs.Reading.{reading, Style, StandsForOnly}
use Rattle.pg_interval.specs.Printed.{printed, IsPrintedOnlyFor}
use Rattle.pg_interval.specs.declared.pg_interval.Interval.{Interval}

same_interval_read : (style : Style) (text : List ℕ) (i j : Interval) → reading style text ≡ Ok i → reading style text ≡ Ok j → j ≡ i
same_interval_read style text i j h k = cc

pub stands_from : (style : Style) (text : List ℕ) (i : Interval) → reading style (printed style i) ≡ Ok i → text ≡ printed style i
    → StandsForOnly style text i
stands_from style text i h e =
    let stands : reading style text ≡ Ok i = ap (reading style) e ∙ h in (stands, λ other k. same_interval_read style text i other stands k)

pub distinct_from : (style : Style) (text : List ℕ) (i : Interval)
    → ((j : Interval) → IsInterval j → reading style (printed style j) ≡ Ok j) → IsInterval i → text ≡ printed style i
    → IsPrintedOnlyFor style text i
distinct_from style text i all within e =
    λ other there same. same_interval_read style text i other (ap (reading style) e ∙ all i within) (ap (reading style) same
    ∙ all other there)

-- what is known of a text is known of its copy in memory
pub carried : {S E : Type 0} (bytes : S → List ℕ) (P : List ℕ → Type 0) (text : List ℕ) (r : Result S E) → IfOk r (λ s. bytes s ≡ text)
    → P text → IfOk r (λ s. P (bytes s))
carried bytes P text (Ok s) e h = subst P (sym e) h
carried bytes P text (Err x) e h = tt

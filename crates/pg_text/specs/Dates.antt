-- The formats in which dates are written, as the patterns of `strftime`: PostgreSQL's documentation, "Date/Time Output".
use Rattle.std.specs.Prelude.{ℕ, if◌then◌else◌, List, [], ◌∷◌, ◌++◌, drop, Option, None, Some, unwrap_or, nat_eq, codes}
use Rattle.std.specs.List.{starts_with}
use Rattle.std.specs.Option.{option_map}
use Rattle.pg_text.specs.Words.{date_order_of, date_display_of}
use Rattle.pg_text.specs.declared.format.date_style.DateStyle.{DateStyle}
use Rattle.pg_text.specs.declared.format.date_style.DateStyleOrder.{DateStyleOrder}
use Rattle.pg_text.specs.declared.format.date_style.DateStyleOrder.TheVariants.{DMY, YMD}
use Rattle.pg_text.specs.declared.format.date_style.DateStyleDisplayStyle.{DateStyleDisplayStyle}
use Rattle.pg_text.specs.declared.format.date_style.DateStyleDisplayStyle.TheVariants.{ISO, SQL, German, Postgres}

abbrev pub display_of : DateStyle → DateStyleDisplayStyle
display_of d = d.style

-- None where the text names no order
abbrev pub order_of : DateStyle → Option DateStyleOrder
order_of d = d.order

-- what stands before the first `, ` and after it, or None where there is none
abbrev pub around_comma : List ℕ → Option (List ℕ × List ℕ)
around_comma [] = None
around_comma (c ∷ cs) = if starts_with nat_eq (c ∷ cs) (codes ", ") then Some ([], drop 2 (c ∷ cs))
    else option_map (λ p. (c ∷ p.0, p.1)) (around_comma cs)

-- the style that a text names, and ISO where it names none
abbrev pub display_in : List ℕ → DateStyleDisplayStyle
display_in text = unwrap_or (date_display_of text) ISO

-- the order that a text names, and YMD where it names none
abbrev pub order_in : List ℕ → DateStyleOrder
order_in text = unwrap_or (date_order_of text) YMD

abbrev pub display_before : List ℕ → Option (List ℕ × List ℕ) → DateStyleDisplayStyle
display_before text None = display_in text
display_before text (Some parts) = display_in parts.0

abbrev pub order_behind : Option (List ℕ × List ℕ) → Option DateStyleOrder
order_behind None = None
order_behind (Some parts) = Some (order_in parts.1)

abbrev pub date_format : DateStyleDisplayStyle → Option DateStyleOrder → List ℕ
date_format SQL (Some DMY) = codes "%d/%m/%Y"
date_format SQL _ = codes "%m/%d/%Y"
date_format ISO _ = codes "%Y-%m-%d"
date_format Postgres (Some DMY) = codes "%d-%m-%Y"
date_format Postgres _ = codes "%m-%d-%Y"
date_format German _ = codes "%d.%m.%Y"

abbrev pub full_format : DateStyleDisplayStyle → Option DateStyleOrder → List ℕ
full_format SQL (Some DMY) = codes "%d/%m/%Y %H:%M:%S%.6f"
full_format SQL _ = codes "%m/%d/%Y %H:%M:%S%.6f"
full_format ISO _ = codes "%Y-%m-%d %H:%M:%S%.6f"
full_format Postgres (Some DMY) = codes "%a %e %b %H:%M:%S%.6f %Y"
full_format Postgres _ = codes "%a %b %e %H:%M:%S%.6f %Y"
full_format German _ = codes "%d.%m.%Y %H:%M:%S%.6f"

-- how a time zone is written after a date and a time
abbrev pub zone_format : DateStyleDisplayStyle → List ℕ
zone_format ISO = codes "%:::z"
zone_format _ = codes " %Z"

abbrev pub full_zone_format : DateStyleDisplayStyle → Option DateStyleOrder → List ℕ
full_zone_format style order = full_format style order ++ zone_format style

abbrev pub time_zone_format : DateStyleDisplayStyle → List ℕ
time_zone_format ISO = codes "%H:%M:%S%.6f%:::z"
time_zone_format _ = codes "%H:%M:%S%.6f %Z"

-- A text is read as the moment whose text it is.
use Rattle.std.proofs.Common.{◌∙◌, sym, ap, Ok}
use Rattle.rota_moments.specs.Calendar.{date_of}
use Rattle.rota_moments.specs.Texts.{civil_text}
use Rattle.rota_moments.specs.Fields.{date_in, clock_in, fields_of}
use Rattle.rota_moments.proofs.ReadingLemmas.{form_from, none_formed, same_numbers, unformed, only_moment}
use Rattle.rota_moments.proofs.moment.Moment.read.Goals as goal

pub moment_of-requires-clause-year : goal.moment_of-requires-clause-year
moment_of-requires-clause-year c = (form_from c.as_bytes.result.now c.in-Some.fields (sym c.in-Some.ensures.value)).year

pub moment_of-requires-clause-month : goal.moment_of-requires-clause-month
moment_of-requires-clause-month c = (form_from c.as_bytes.result.now c.in-Some.fields (sym c.in-Some.ensures.value)).month

pub moment_of-requires-clause-day : goal.moment_of-requires-clause-day
moment_of-requires-clause-day c = (form_from c.as_bytes.result.now c.in-Some.fields (sym c.in-Some.ensures.value)).day

pub returns-in-None-clause-reading : goal.returns-in-None-clause-reading
returns-in-None-clause-reading c =
    none_formed c.args.text.now (c.in-None.ensures.value ∙ ap fields_of c.as_bytes.ensures.value)

pub returns-in-None-moment_of-clause-reading : goal.returns-in-None-moment_of-clause-reading
returns-in-None-moment_of-clause-reading c =
    let f = c.in-Some.fields in
    let form = form_from c.args.text.now f (ap fields_of (sym c.as_bytes.ensures.value) ∙ sym c.in-Some.ensures.value) in
    ((date_in f, (clock_in f, form)), λ m h e. c.in-None-moment_of.ensures.value m h (same_numbers c.args.text.now f m form h e))

pub returns-in-Some-moment_of-clause-reading : goal.returns-in-Some-moment_of-clause-reading
returns-in-Some-moment_of-clause-reading c =
    let f = c.in-Some.fields in
    let form = form_from c.args.text.now f (ap fields_of (sym c.as_bytes.ensures.value) ∙ sym c.in-Some.ensures.value) in
    let is = c.in-Some-moment_of.ensures.value in (
      is.0,
      is.1,
      form.stands ∙ ap (λ d. civil_text d (clock_in f)) (sym is.2)
          ∙ ap (λ k. civil_text (date_of c.in-Some-moment_of.moment.day) k) (sym is.3),
    )

pub returns-in-None-clause-complete : goal.returns-in-None-clause-complete
returns-in-None-clause-complete c = λ m h.
    absurd (unformed c.args.text.now m (c.in-None.ensures.value ∙ ap fields_of c.as_bytes.ensures.value) h.0 h.2)

pub returns-in-None-moment_of-clause-complete : goal.returns-in-None-moment_of-clause-complete
returns-in-None-moment_of-clause-complete c = λ m h.
    let f = c.in-Some.fields in
    let form = form_from c.args.text.now f (ap fields_of (sym c.as_bytes.ensures.value) ∙ sym c.in-Some.ensures.value) in
    absurd (c.in-None-moment_of.ensures.value m h.0 (same_numbers c.args.text.now f m form h.0 h.2))

pub returns-in-Some-moment_of-clause-complete : goal.returns-in-Some-moment_of-clause-complete
returns-in-Some-moment_of-clause-complete c = λ m h.
    let f = c.in-Some.fields in
    let form = form_from c.args.text.now f (ap fields_of (sym c.as_bytes.ensures.value) ∙ sym c.in-Some.ensures.value) in
    ap (λ r. Ok r) (only_moment c.args.text.now f m c.in-Some-moment_of.moment form c.in-Some-moment_of.ensures.value h.0 h.1 h.2)

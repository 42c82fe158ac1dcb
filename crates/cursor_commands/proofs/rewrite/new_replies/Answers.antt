use Rattle.std.proofs.Common.{◌+◌, length, ap, subst, ◌∙◌, refl, arith}
use Rattle.std.specs.List.{flat_map}
use Rattle.std.proofs.lemmas.List.{length-drop}
use Rattle.cursor_commands.specs.Rewriting.{AppendsReplies, IsSurvey, changed, counted_replies}
use Rattle.cursor_commands.specs.declared.rewrite.Change.TheVariants.{Failed}
use Rattle.cursor_commands.proofs.WriteLemmas.{becomes_failed, becomes_good}
use Rattle.cursor_commands.proofs.rewrite.new_replies.Goals as goal

pub returns-then-survey : goal.returns-then-survey
returns-then-survey c =
    let page = c.page_before-page.result in
    let told = c.in_ok-told.told.items in
    becomes_failed c.args.command.now c.args.replies.now told c.in_ok-behind.behind.items c.put_changed.new.out.items page.columns page.len
    page.rows c.survey_of-survey.result.failed c.survey_of-survey.result.rows c.page_before-page.ensures.page c.in_ok-told.ensures
    (subst (λ l. IsSurvey l c.survey_of-survey.result.failed c.survey_of-survey.result.rows) c.as_slice.ensures c.survey_of-survey.ensures.survey)
    c.if-survey.true c.in_ok-behind.ensures.items
    (subst (λ l. AppendsReplies (λ replies. flat_map (changed Failed) replies) l c.in_ok-behind.behind.items c.put_changed.new.out.items)
    c.as_slice-then-survey.ensures c.in_ok-put_changed.ensures)

pub overflow_add-rows : goal.overflow_add-rows
overflow_add-rows c =
    let page = c.page_before-page.ensures in
    let few = page.few in
    let within = page.within in
    let survey = c.survey_of-survey.ensures.few in
    let same = ap length (c.as_slice.ensures ∙ c.in_ok-told.ensures) in
    let long = length-drop c.page_before-page.result.len c.args.replies.now in
    let all = c.len_of-all.ensures.len in
    let fits = c.len_of-all.ensures.fits in
    omega (arith, few, within, survey, same, long, all, fits)

pub returns : goal.returns
returns c =
    let page = c.page_before-page.result in
    let told = c.in_ok-told.told.items in
    let rows = page.rows + c.survey_of-survey.result.rows in
    becomes_good c.args.command.now c.args.replies.now told c.in_ok-behind.behind.items c.put_counted.new.out.items page.columns page.len
    page.rows c.survey_of-survey.result.failed c.survey_of-survey.result.rows rows c.page_before-page.ensures.page c.in_ok-told.ensures
    (subst (λ l. IsSurvey l c.survey_of-survey.result.failed c.survey_of-survey.result.rows) c.as_slice.ensures c.survey_of-survey.ensures.survey)
    c.if-survey.false c.in_ok-behind.ensures.items refl
    (subst (λ l. AppendsReplies (counted_replies c.args.command.now rows) l c.in_ok-behind.behind.items c.put_counted.new.out.items)
    c.as_slice-2.ensures c.in_ok-put_counted.ensures)

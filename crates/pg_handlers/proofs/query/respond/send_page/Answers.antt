use Rattle.std.proofs.Common.{◌≡◌, ◌++◌, ◌∷◌, ◌⊎◌, [], ℕ, ℤ, List, length, take, Bool, true, false, None, Some, Ok, codes, inl, inr, refl, sym, ap, subst, ◌∙◌}
use Rattle.pg_messages.specs.Replies.{replies_bytes}
use Rattle.pg_messages.specs.declared.data.DataRow.{DataRow}
use Rattle.pg_results.specs.Page.{AtLimit, AtEnd, AtError, ItemPage, PageEnd, delivered_after, item_page}
use Rattle.pg_results.specs.Told.{IsRest, ToldRows, told_rows}
use Rattle.pg_results.specs.declared.error.PgWireError.{PgWireError}
use Rattle.pg_results.specs.declared.error.PgWireError.TheVariants as wire
use Rattle.pg_portal.specs.Fetching.{stage_after}
use Rattle.pg_portal.specs.Told.{Stage, Unstarted, Started, Ended, stage_of}
use Rattle.pg_replies.specs.PageEnd.{page_replies}
use Rattle.pg_replies.specs.Replies.{IsTag, done_with}
use Rattle.pg_replies.specs.Sending.{IsMetError, IsSentPage}
use Rattle.conversation_table.specs.Executing.{HasComeTo, IsPageOf, StagePage, error_at, is_unstarted, page_result, response_page}
use Rattle.conversation_table.specs.Good.{HasGoodTag}
use Rattle.std.proofs.lemmas.Bool.{false≢true}
use Rattle.std.proofs.lemmas.Int.{to_z-of_z}
use Rattle.std.proofs.lemmas.List.{append-nil}
use Rattle.pg_replies.proofs.Encodable.{select_is_tag}
use Rattle.pg_replies.proofs.Sent.{kept_as, kept_in_front}
use Rattle.pg_handlers.proofs.query.respond.send_page.Goals as goal

module _ (r left : ToldRows) (delivered number : ℕ) (out new : List ℕ) where
  abbrev IsSentAs : StagePage → Stage → Type 0
  IsSentAs page stage = (page.refusal ≡ None) × (stage ≡ page.stage) × (new ≡ out ++ replies_bytes page.replies)

  -- a page that was sent is suspended at its limit, and else complete
  sent_as : (rows : List DataRow) (ending : PageEnd DataRow) (suspended b : Bool) → suspended ≡ b → IsSentPage r ending suspended left
      → number ≡ delivered_after delivered (length rows)
      → new ≡ out ++ replies_bytes (page_replies r.command_tag (delivered_after delivered (length rows)) rows ending)
      → IsSentAs (response_page r delivered (record { rows = rows; ending = ending })) (elim b as (λ _. Stage) [
        | true ↦ Started left number
        | false ↦ Ended number
      ])
  sent_as rows (AtLimit items) suspended true is sent counted replied = (refl, (λ i. Started (sent.1 i) (counted i)), replied)
  sent_as rows (AtLimit items) suspended false is sent counted replied = absurd (let k = sym is ∙ sent.0 in cc)
  sent_as rows AtEnd suspended true is sent counted replied = absurd (let k = sym is ∙ sent in cc)
  sent_as rows AtEnd suspended false is sent counted replied = (refl, ap Ended counted, replied)
  sent_as rows (AtError e items) suspended b is sent counted replied = absurd sent

-- a page that met its error
met_so : (r left : ToldRows) (delivered : ℕ) (page : ItemPage DataRow) (e : PgWireError) (out mid new : List ℕ)
    → (e ≡ wire.NoMemory) ⊎ IsMetError r page.ending e left out mid → new ≡ out
    → (e ≡ wire.NoMemory) ⊎ (((response_page r delivered page).refusal ≡ Some e)
    × (Started left delivered ≡ (response_page r delivered page).stage)
    × (new ≡ out ++ replies_bytes (response_page r delivered page).replies))
met_so r left delivered page e out mid new (inl none) same = inl none
met_so r left delivered page e out mid new (inr x) same = inr (
  ap error_at x.met,
  (λ i. Started (x.left i) delivered) ∙ sym (ap (stage_after r delivered page.rows) x.met),
  same ∙ sym (append-nil out)
      ∙ sym (ap (λ (ending : PageEnd DataRow). out
      ++ replies_bytes (page_replies r.command_tag (delivered_after delivered (length page.rows)) page.rows ending)) x.met),
)

-- a started portal isn't unstarted
not_started : (stage : Stage) → stage ≡ Unstarted → is_unstarted stage ≡ false → ⊥
not_started stage is started = false≢true (sym started ∙ ap is_unstarted is)

-- the page of a finished portal
finished_page : (limit : ℤ) (stage : Stage) (delivered : ℕ) (out new : List ℕ) → stage ≡ Ended delivered
    → new ≡ out ++ replies_bytes (done_with (codes "SELECT") delivered ∷ [])
    → IsPageOf {A = Unit {0}} (page_result limit stage) stage out new (Ok tt)
finished_page limit stage delivered out new ended sent = rw ended (refl, refl, sent)

finished_stays : (stage : Stage) (delivered : ℕ) → stage ≡ Ended delivered → HasComeTo stage stage
finished_stays stage delivered ended = rw ended refl

-- a started portal, of which a rest of its items is left
started_stays : (stage new : Stage) (r left : ToldRows) (delivered : ℕ) → stage ≡ Started r delivered → new ≡ Started left delivered
    → IsRest r left → HasComeTo stage new
started_stays stage new r left delivered started came rest = rw started (left, rest, came)

good_tag : (stage : Stage) (r : ToldRows) (delivered : ℕ) (tag : List ℕ) → stage ≡ Started r delivered → HasGoodTag stage
    → tag ≡ r.command_tag → IsTag tag
good_tag stage r delivered tag started good same = subst IsTag (sym same) (subst HasGoodTag started good)

pub send_done-requires : goal.send_done-requires
send_done-requires g c = select_is_tag

pub returns-then-page-clause-page : goal.returns-then-page-clause-page
returns-then-page-clause-page g c =
    let items = g.R.RowSource.items in let p = c.args.portal.now in let e = c.in-Ok-send_next_page.ensures in
    let r = told_rows items c.in-Suspended.response in
    let page = item_page c.args.max_rows r.items in
    let is : stage_of items p ≡ Started r p.delivered = rw c.in-Suspended.is refl in
    let fits = c.ranges.max_rows in
    let sent = simp to_z-of_z at e.page in
    let counted = simp to_z-of_z at e.delivered in
    let replied = simp to_z-of_z at e.replied in
    rw is (sent_as r (told_rows items c.send_next_page.new.results) p.delivered c.in-Ok-send_next_page.page.delivered
    c.args.outbox.now c.send_next_page.new.outbox page.rows page.ending c.in-Ok-send_next_page.page.suspended true c.if-page.true
    sent counted replied)

pub returns-clause-page : goal.returns-clause-page
returns-clause-page g c =
    let items = g.R.RowSource.items in let p = c.args.portal.now in let e = c.in-Ok-send_next_page.ensures in
    let r = told_rows items c.in-Suspended.response in
    let page = item_page c.args.max_rows r.items in
    let is : stage_of items p ≡ Started r p.delivered = rw c.in-Suspended.is refl in
    let fits = c.ranges.max_rows in
    let sent = simp to_z-of_z at e.page in
    let counted = simp to_z-of_z at e.delivered in
    let replied = simp to_z-of_z at e.replied in
    rw is (sent_as r (told_rows items c.send_next_page.new.results) p.delivered c.in-Ok-send_next_page.page.delivered
    c.args.outbox.now c.send_next_page.new.outbox page.rows page.ending c.in-Ok-send_next_page.page.suspended false c.if-page.false
    sent counted replied)

pub returns-in-Err-clause-page : goal.returns-in-Err-clause-page
returns-in-Err-clause-page g c =
    let items = g.R.RowSource.items in let p = c.args.portal.now in
    let r = told_rows items c.in-Suspended.response in
    let is : stage_of items p ≡ Started r p.delivered = rw c.in-Suspended.is refl in
    let fits = c.ranges.max_rows in
    let refused = simp to_z-of_z at c.in-Err.ensures.refused in
    rw is (met_so r (told_rows items c.send_next_page.new.results) p.delivered (item_page c.args.max_rows r.items) c.in-Err.error
    c.args.outbox.now c.send_next_page.new.outbox c.truncate.new.self refused
    (c.truncate.ensures ∙ ap (λ n. take n c.send_next_page.new.outbox) c.len-start.ensures ∙ c.in-Err.ensures.kept))

pub returns-in-Err-clause-answerable : goal.returns-in-Err-clause-answerable
returns-in-Err-clause-answerable g c = c.in-Err.ensures.answerable

pub returns-then-page-clause-kept : goal.returns-then-page-clause-kept
returns-then-page-clause-kept g c = c.in-Ok-send_next_page.ensures.kept

pub returns-clause-kept : goal.returns-clause-kept
returns-clause-kept g c = c.in-Ok-send_next_page.ensures.kept

pub send_next_page-requires : goal.send_next_page-requires
send_next_page-requires g c =
    let items = g.R.RowSource.items in let p = c.args.portal.now in
    let is : stage_of items p ≡ Started (told_rows items c.in-Suspended.response) p.delivered = rw c.in-Suspended.is refl in
    good_tag (stage_of items p) (told_rows items c.in-Suspended.response) p.delivered _ is c.requires.tag refl

pub returns-in-Initial : goal.returns-in-Initial
returns-in-Initial g c = absurd (not_started _ (rw c.in-Initial.is refl) c.requires.started)

pub returns-in_default : goal.returns-in_default
returns-in_default g c = rw c.out_of_memory.ensures (record {
  page = inl refl;
  answerable = inl refl;
  stays = finished_stays (stage_of g.R.RowSource.items c.args.portal.now) c.args.portal.now.delivered (rw c.in-Finished.is refl);
  kept = kept_as c.args.outbox.now _ c.in_default.ensures.err;
  bound = refl;
  tag = c.requires.tag;
})

pub returns-in-Finished : goal.returns-in-Finished
returns-in-Finished g c = record {
  page = finished_page c.args.max_rows (stage_of g.R.RowSource.items c.args.portal.now) c.args.portal.now.delivered c.args.outbox.now
      c.send_done.new.outbox (rw c.in-Finished.is refl) c.in-Ok.ensures.ok;
  answerable = tt;
  stays = tt;
  kept = kept_in_front c.args.outbox.now _ _ c.in-Ok.ensures.ok;
  bound = refl;
  tag = c.requires.tag;
}

pub returns-in-Err-clause-stays : goal.returns-in-Err-clause-stays
returns-in-Err-clause-stays g c =
    let items = g.R.RowSource.items in let p = c.args.portal.now in
    let left = told_rows items c.send_next_page.new.results in
    let is : stage_of items p ≡ Started (told_rows items c.in-Suspended.response) p.delivered = rw c.in-Suspended.is refl in
    started_stays (stage_of items p) (Started left p.delivered) (told_rows items c.in-Suspended.response) left p.delivered is refl
    c.in-Err.ensures.left

pub returns-in-Err-clause-kept : goal.returns-in-Err-clause-kept
returns-in-Err-clause-kept g c = kept_as c.args.outbox.now c.truncate.new.self
    (c.truncate.ensures ∙ ap (λ n. take n c.send_next_page.new.outbox) c.len-start.ensures ∙ c.in-Err.ensures.kept)

pub returns-in-Err-clause-bound : goal.returns-in-Err-clause-bound
returns-in-Err-clause-bound g c = refl

pub returns-in-Err-clause-tag : goal.returns-in-Err-clause-tag
returns-in-Err-clause-tag g c =
    let items = g.R.RowSource.items in let p = c.args.portal.now in
    let is : stage_of items p ≡ Started (told_rows items c.in-Suspended.response) p.delivered = rw c.in-Suspended.is refl in
    good_tag (stage_of items p) (told_rows items c.in-Suspended.response) p.delivered _ is c.requires.tag c.in-Err.ensures.tag

pub returns-then-page-clause-answerable : goal.returns-then-page-clause-answerable
returns-then-page-clause-answerable g c = tt

pub returns-then-page-clause-stays : goal.returns-then-page-clause-stays
returns-then-page-clause-stays g c = tt

pub returns-then-page-clause-bound : goal.returns-then-page-clause-bound
returns-then-page-clause-bound g c = refl

pub returns-then-page-clause-tag : goal.returns-then-page-clause-tag
returns-then-page-clause-tag g c =
    let items = g.R.RowSource.items in let p = c.args.portal.now in
    let is : stage_of items p ≡ Started (told_rows items c.in-Suspended.response) p.delivered = rw c.in-Suspended.is refl in
    good_tag (stage_of items p) (told_rows items c.in-Suspended.response) p.delivered _ is c.requires.tag c.in-Ok-send_next_page.ensures.tag

pub returns-clause-answerable : goal.returns-clause-answerable
returns-clause-answerable g c = tt

pub returns-clause-stays : goal.returns-clause-stays
returns-clause-stays g c = tt

pub returns-clause-bound : goal.returns-clause-bound
returns-clause-bound g c = refl

pub returns-clause-tag : goal.returns-clause-tag
returns-clause-tag g c = tt

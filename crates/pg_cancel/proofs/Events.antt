-- What an event tells the caller.
use Rattle.std.proofs.Common.{◌≡◌, ℕ, ℤ, Bool, true, false, List, [], ◌∷◌, ◌++◌, length, get_or, take, Option, Some, inl, inr, ◌↔◌, Result, Ok, Err, IfOk, sym, refl, ap, ◌∙◌, subst}
use Rattle.std.proofs.lemmas.List.{append-nil, append_cancel_left}
use Rattle.std.proofs.lemmas.List.Elements.{filter-append}
use Rattle.std.specs.Prelude.{◌==◌}
use Rattle.std.specs.declared.alloc.AllocError.{AllocError}
use Rattle.atomic_table.specs.Table.{Me, rest}
use Rattle.pg_cancel.specs.declared.entries.Entry.{Entry}
use Rattle.pg_cancel.specs.declared.entries.RegistryCall.{RegistryCall}
use Rattle.pg_cancel.specs.declared.entries.RegistryCall.TheVariants.{Register, Start, Ask, Cancel, Narrow, Unregister}
use Rattle.pg_cancel.specs.declared.entries.RegistryAnswer.{RegistryAnswer}
use Rattle.pg_cancel.specs.declared.entries.RegistryAnswer.TheVariants.{Registered, Taken, Done, Yes, No}
use Rattle.pg_cancel.specs.declared.roster.Roster.{Roster}
use Rattle.pg_cancel.specs.declared.seat.View.{View}
use Rattle.pg_cancel.specs.declared.manager.RegisterError.{RegisterError}
use Rattle.pg_cancel.specs.declared.manager.RegisterError.TheVariants.{PidTaken, NoMemory}
use Rattle.pg_cancel.specs.LegalHistory.{IsLegal, is_narrow, IsLive, IsLiveAs, HasPid, IsCanceled, IsAnswer, MayCall, entry_of}
use Rattle.pg_cancel.specs.Index.{IsCaller, IsRosterOf}
use Rattle.pg_cancel.specs.Connections.{calls_of, is_register, registers_of, entry, before_last, yes_if, Made, Registers, Begins, IsNamed}
use Rattle.pg_cancel.specs.RosterTable.{Fits, holding, called, entered, refused, grown, HasOut, HasHappened, IsHolding, IsCalled, IsHandle, IsDoor, IsOpening, IsLeft, IsToldTo, MayMake}
use Rattle.pg_cancel.proofs.Keys.{key_stays, key_narrowed}
use Rattle.pg_cancel.proofs.Histories.{Calls, IsLegal-push, entry_follows, registered_once, registered_lives, stays_live}
use Rattle.pg_cancel.proofs.Beginnings.{the_answer, before_of, heard_by, begins_registered}
use Rattle.pg_cancel.proofs.Views.{Answered, called_fits, entered_fits, false_true, holding_fits}

abbrev Sat : Type 0
Sat = Me Roster View

-- ---- before a call

pub may_make : (v : View) (n : ℕ) (c : RegistryCall) → is_register c ≡ false → v.number ≡ Some n → v.is_live ≡ true → MayMake v n c
may_make v n (Register pid key) quiet own live = absurd (cc (quiet))
may_make v n Start quiet own live = (own, live)
may_make v n Ask quiet own live = (own, live)
may_make v n (Cancel pid key) quiet own live = (own, live)
may_make v n Narrow quiet own live = (own, live)
may_make v n Unregister quiet own live = (own, live)

pub may_open : (v : View) (n : ℕ) (c : RegistryCall) → is_register c ≡ true → v.is_door ≡ true → MayMake v n c
may_open v n (Register pid key) is door = door
may_open v n Start is door = false_true is
may_open v n Ask is door = false_true is
may_open v n (Cancel pid key) is door = false_true is
may_open v n Narrow is door = false_true is
may_open v n Unregister is door = false_true is

-- ---- calls of a handle

-- what a call's seat knew, and what the registry answered
pub record Asked (v : View) (h : List Entry) (n : ℕ) (c : RegistryCall) (a : RegistryAnswer) : Type 0 where
  pub quiet : is_register c ≡ false
  pub number : v.number ≡ Some n
  pub fits : Fits h v
  pub was : IsLegal h
  pub legal : IsLegal (h ++ entry n c a ∷ [])
  pub told : IsAnswer h n c a

made : (v w : View) (h : List Entry) (n : ℕ) (c : RegistryCall) (a : RegistryAnswer) (live : Bool) → Asked v h n c a
    → w ≡ called live (holding v h) h (entry n c a) → Made n c v.seen v.mine w.seen w.mine a
made v w h n c a live x is =
    let e = entry n c a in
    let g = called_fits false (holding v h) h e (holding_fits h h v x.fits) (record { number = x.number; quiet = x.quiet })
    (λ yes. false_true yes) in
    let whole : h ≡ v.seen ++ x.fits.seen.0 = sym x.fits.seen.1 in
    let o = x.fits.own n x.number in
    subst (λ (u : View). Made n c v.seen v.mine u.seen u.mine a) (sym is) record {
      between = x.fits.seen.0;
      ends = ap (λ y. y ++ e ∷ []) whole;
      mine_is = refl;
      quiet = append_cancel_left (calls_of n v.seen) (calls_of n x.fits.seen.0) []
          (sym (filter-append (λ (y : Entry). y.number == n) v.seen x.fits.seen.0)
          ∙ (ap (λ y. calls_of n y) x.fits.seen.1 ∙ (o.all ∙ (sym o.seen ∙ sym (append-nil (calls_of n v.seen))))));
      own = (g.own n x.number).seen;
      legal = x.legal;
      told = λ other. subst (λ y. (other ≡ a → IsAnswer y n c other) × (IsAnswer y n c other → other ≡ a)) whole
          (the_answer h n c a x.was x.told other);
    }

-- the entry of a call that is no Register
own_number : (h : List Entry) (n : ℕ) (c : RegistryCall) (a : RegistryAnswer) → is_register c ≡ false → entry_of h n c a ≡ entry n c a
own_number h n (Register pid key) a quiet = absurd (cc (quiet))
own_number h n Start a quiet = refl
own_number h n Ask a quiet = refl
own_number h n (Cancel pid key) a quiet = refl
own_number h n Narrow a quiet = refl
own_number h n Unregister a quiet = refl

pub asked : (v : View) (h : List Entry) (n : ℕ) (c : RegistryCall) (a : RegistryAnswer) → is_register c ≡ false → v.number ≡ Some n
    → Fits h v
    → IsLegal h → IsLegal (h ++ entry_of h n c a ∷ []) → IsAnswer h n c a → Asked v h n c a
asked v h n c a quiet number f was legal told =
    record {
      quiet = quiet;
      number = number;
      fits = f;
      was = was;
      legal = subst (λ e. IsLegal (h ++ e ∷ []))
          (own_number h n c a quiet) legal;
      told = told;
    }

pub call_made : (v w : View) (h : List Entry) (n : ℕ) (c : RegistryCall) (a : RegistryAnswer) → Asked v h n c a
    → w ≡ grown (holding v h) h (entry_of h n c a) → Made n c v.seen v.mine w.seen w.mine a
call_made v w h n (Register pid key) a x is = absurd (cc (x.quiet))
call_made v w h n Start a x is = made v w h n Start a v.is_live x is
call_made v w h n Ask a x is = made v w h n Ask a v.is_live x is
call_made v w h n (Cancel pid key) a x is = made v w h n (Cancel pid key) a v.is_live x is
call_made v w h n Narrow a x is = made v w h n Narrow a v.is_live x is
call_made v w h n Unregister a x is = made v w h n Unregister a false x is

still_handle : (m m' : Sat) (h : List Entry) (n : ℕ) (c : RegistryCall) (a : RegistryAnswer) → IsHandle m n
    → m' ≡ (called m.0.is_live (holding m.0 h) h (entry n c a), [])
    → Made n c m.0.seen m.0.mine m'.0.seen m'.0.mine a → IsHandle m' n
still_handle m m' h n c a was is x =
    let w : View = called m.0.is_live (holding m.0 h) h (entry n c a) in
    let view : m'.0 ≡ w = ap (λ (z : Sat). z.0) is in (
      (ap (λ (z : Sat). z.1) is, ap (λ (u : View). u.turn) view),
      ap (λ (u : View). u.number) view ∙ was.1,
      ap (λ (u : View). u.is_live) view ∙ was.2,
      ap (λ (u : View). u.is_door) view ∙ was.3,
      (x.legal, x.own),
    )

pub left : (m m' : Sat) (h : List Entry) (n : ℕ) (c : RegistryCall) (a : RegistryAnswer) → is_register c ≡ false → IsHandle m n
    → m' ≡ (grown (holding m.0 h) h (entry_of h n c a), []) → Made n c m.0.seen m.0.mine m'.0.seen m'.0.mine a → IsLeft m' n c
left m m' h n (Register pid key) a quiet was is x = absurd (cc (quiet))
left m m' h n Start a quiet was is x = still_handle m m' h n Start a was is x
left m m' h n Ask a quiet was is x = still_handle m m' h n Ask a was is x
left m m' h n (Cancel pid key) a quiet was is x = still_handle m m' h n (Cancel pid key) a was is x
left m m' h n Narrow a quiet was is x = still_handle m m' h n Narrow a was is x
left m m' h n Unregister a quiet was is x =
    let view : m'.0 ≡ called false (holding m.0 h) h (entry n Unregister a) = ap (λ (z : Sat). z.0) is in
    ((ap (λ (z : Sat). z.1) is, ap (λ (u : View). u.turn) view), ap (λ (u : View). u.is_door) view ∙ was.3)

-- who has the turn may make an event
pub is_holding : (m : Sat) (v : View) (place : ℕ) → HasOut m v place → IsHolding m
is_holding m v place x = record {
  log = x.log;
  roster = x.roster;
  turn = ap (λ (z : Sat). z.0.turn) x.is;
  slot = ap (λ (z : Sat). z.1) x.is;
  right = x.right;
  legal = x.legal;
}

-- the roster that a seat lends is the one that it has
pub lent_roster : (m : Sat) (h : List Entry) (roster lent : Roster) → m.1 ≡ (0, roster) ∷ [] → m.1 ≡ (0, lent) ∷ rest m.1 → IsRosterOf h roster
    → IsRosterOf h lent
lent_roster m h roster lent slot value right =
    subst (IsRosterOf h) (ap (λ (l : List (ℕ × Roster)). (get_or l 0 (0, roster)).1) (sym slot ∙ value)) right

-- the history in which a seat has the turn
pub one_log : (m : Sat) (h k : List Entry) → m.0.turn ≡ Some h → m.0.turn ≡ Some k → h ≡ k
one_log m h k first second = let e : ◌≡◌ {A = Option (List Entry)} (Some h) (Some k) = sym first ∙ second in cc (e)

-- a handle's number has its pid in the history
caller : (h : List Entry) (n : ℕ) (pid : ℤ) (c : RegistryCall) → HasPid h n pid → IsCaller h n pid c
caller h n pid (Register p key) has = tt
caller h n pid Start has = has
caller h n pid Ask has = has
caller h n pid (Cancel p key) has = has
caller h n pid Narrow has = has
caller h n pid Unregister has = has

pub calls_of_handle : (m out : Sat) (place n : ℕ) (pid : ℤ) (key : List ℕ) (c : RegistryCall) → IsHandle m n
    → Begins m.0.mine n pid key → HasOut out m.0 place → IsCalled out n pid c
calls_of_handle m out place n pid key c handle begins x log has =
    let same : x.log ≡ log = one_log out x.log log (ap (λ (z : Sat). z.0.turn) x.is) has in
    let own = x.fits.own n handle.1 in
    let live = own.live handle.2 in
    let registered = begins_registered x.log n pid key begins.0 x.legal (own.all ∙ begins.1) in
    let pids : live.0 ≡ pid = (registered_once x.log n live.0 pid live.1 key live.2.registered registered).0 in
    let here : HasPid x.log n pid = (live.1, subst (λ p. IsLiveAs x.log n p live.1) pids live.2) in
    subst (λ h. IsCaller h n pid c) same (caller x.log n pid c here)

pub calls_of_door : (m : Sat) (n : ℕ) (pid : ℤ) (c : RegistryCall) → is_register c ≡ true → IsCalled m n pid c
calls_of_door m n pid (Register p key) is log has = tt
calls_of_door m n pid Start is log has = false_true is
calls_of_door m n pid Ask is log has = false_true is
calls_of_door m n pid (Cancel p key) is log has = false_true is
calls_of_door m n pid Narrow is log has = false_true is
calls_of_door m n pid Unregister is log has = false_true is

-- what the entry of a call leaves
caller_may : (h : List Entry) (n : ℕ) (pid : ℤ) (c : RegistryCall) → IsCaller h n pid c → MayCall h n c
caller_may h n pid (Register p key) is = tt
caller_may h n pid Start is = (pid, is.0, is.1)
caller_may h n pid Ask is = (pid, is.0, is.1)
caller_may h n pid (Cancel p key) is = (pid, is.0, is.1)
caller_may h n pid Narrow is = (pid, is.0, is.1)
caller_may h n pid Unregister is = (pid, is.0, is.1)

lives : (h : List Entry) (n : ℕ) (c : RegistryCall) (a : RegistryAnswer) → IsAnswer h n c a → a ≡ Registered
    → IsLive (h ++ entry_of h n c a ∷ []) (length h)
lives h n c a told same =
    let here = registered_lives h n c (subst (λ x. IsAnswer h n c x) same told) in
    subst (λ x. IsLive (h ++ entry_of h n c x ∷ []) (length h)) (sym same) here

pub answered : (h : List Entry) (n : ℕ) (pid : ℤ) (c : RegistryCall) (a : RegistryAnswer) → IsLegal h → IsCaller h n pid c
    → IsAnswer h n c a
    → Answered h n c a
answered h n pid c a legal is told = record {
  legal = IsLegal-push h (entry_of h n c a) legal (entry_follows h n c a (caller_may h n pid c is) told);
  told = told;
  stays = λ k live other. stays_live h n k c a other live;
  lives = λ same. lives h n c a told same;
}

-- which answers a call has
pub only_done : (h : List Entry) (n : ℕ) (a : RegistryAnswer) → IsAnswer h n Start a → a ≡ Done
only_done h n Done x = refl
only_done h n _ x = absurd x

pub told_to : (h : List Entry) (n : ℕ) (c : RegistryCall) (a : RegistryAnswer) → IsAnswer h n c a → IsToldTo c a
told_to h n (Register pid key) a x = tt
told_to h n Start Done x = refl
told_to h n Start _ x = absurd x
told_to h n Ask Yes x = inl refl
told_to h n Ask No x = inr refl
told_to h n Ask _ x = absurd x
told_to h n (Cancel pid key) Yes x = inl refl
told_to h n (Cancel pid key) No x = inr refl
told_to h n (Cancel pid key) _ x = absurd x
told_to h n Narrow Done x = refl
told_to h n Narrow _ x = absurd x
told_to h n Unregister Done x = refl
told_to h n Unregister _ x = absurd x

pub only_registered : (h : List Entry) (n : ℕ) (c : RegistryCall) (a : RegistryAnswer) → is_register c ≡ true → IsAnswer h n c a
    → (a ≡ Registered → ⊥) → ((m : ℕ) → a ≡ Taken m → ⊥) → ⊥
only_registered h n (Register pid key) Registered is told one two = one refl
only_registered h n (Register pid key) (Taken m) is told one two = two m refl
only_registered h n (Register pid key) _ is told one two = absurd told
only_registered h n Start a is told one two = false_true is
only_registered h n Ask a is told one two = false_true is
only_registered h n (Cancel pid key) a is told one two = false_true is
only_registered h n Narrow a is told one two = false_true is
only_registered h n Unregister a is told one two = false_true is

-- the answer, where it is known to be another name for this one
pub made_as : (n : ℕ) (c : RegistryCall) (seen mine seen' mine' : List Entry) (a b : RegistryAnswer) → a ≡ b
    → Made n c seen mine seen' mine' a → Made n c seen mine seen' mine' b
made_as n c seen mine seen' mine' a b same made = subst (λ x. Made n c seen mine seen' mine' x) same made

-- what a call of a handle's seat ensures
pub call_ensures : (m out m' : Sat) (place n : ℕ) (c : RegistryCall) (r : Result RegistryAnswer AllocError)
    → is_register c ≡ false → IsHandle m n → HasOut out m.0 place → IfOk r (HasHappened out n c m')
    → IfOk r (λ a. IsLeft m' n c × Made n c m.0.seen m.0.mine m'.0.seen m'.0.mine a)
call_ensures m out m' place n c (Ok a) quiet handle turn happened =
    let h = turn.log in
    let has : out.0.turn ≡ Some h = ap (λ (z : Sat). z.0.turn) turn.is in
    let x = happened h has in
    let a_call = asked m.0 h n c a quiet handle.1 turn.fits turn.legal x.legal x.told in
    let now : m' ≡ (grown (holding m.0 h) h (entry_of h n c a), []) =
    x.is ∙ ap (λ (z : Sat). (grown z.0 h (entry_of h n c a), [])) turn.is in
    let made = call_made m.0 m'.0 h n c a a_call (ap (λ (z : Sat). z.0) now) in (left m m' h n c a quiet handle now made, made)
call_ensures m out m' place n c (Err e) quiet handle turn happened = tt

pub told_ensures : (m out m' : Sat) (place n : ℕ) (c : RegistryCall) (r : Result RegistryAnswer AllocError)
    → HasOut out m.0 place → IfOk r (HasHappened out n c m') → IfOk r (IsToldTo c)
told_ensures m out m' place n c (Ok a) turn happened =
    let has : out.0.turn ≡ Some turn.log = ap (λ (z : Sat). z.0.turn) turn.is in
    told_to turn.log n c a (happened turn.log has).told
told_ensures m out m' place n c (Err e) turn happened = tt

-- right answers are those of the history before the last entry
pub exactly_made : (n : ℕ) (c : RegistryCall) (seen mine seen' mine' : List Entry) (a b : RegistryAnswer) → Made n c seen mine seen' mine' a
    → (b ≡ a) ↔ IsAnswer (before_last seen') n c b
exactly_made n c seen mine seen' mine' a b made =
    subst (λ h. (b ≡ a → IsAnswer h n c b) × (IsAnswer h n c b → b ≡ a))
    (sym (before_of (seen ++ made.between) seen' (entry n c a) made.ends)) (made.told b)

pub exactly_registered : (n : ℕ) (c : RegistryCall) (seen seen' : List Entry) (a b : RegistryAnswer) → Registers n c seen seen' a
    → (b ≡ a) ↔ IsAnswer (before_last seen') n c b
exactly_registered n c seen seen' a b made =
    subst (λ h. (b ≡ a → IsAnswer h n c b) × (IsAnswer h n c b → b ≡ a))
    (sym (before_of (seen ++ made.between) seen' (entry n c a) made.ends)) (made.told b)

yes_is : (b : Bool) → Yes ≡ yes_if b → b ≡ true
yes_is true same = refl
yes_is false same = let e : ◌≡◌ {A = RegistryAnswer} Yes No = same in cc (e)

-- a question's answer is true exactly where Yes is right
pub yes_exactly : (b : Bool) (P : Type 0) → (Yes ≡ yes_if b) ↔ P → (b ≡ true) ↔ P
yes_exactly b P right = ((λ same. right.0 (ap yes_if (sym same))), (λ x. yes_is b (right.1 x)))

-- whether a question was answered Yes
pub asked_exactly : (n : ℕ) (c : RegistryCall) (seen mine seen' mine' : List Entry) (a : RegistryAnswer) (b : Bool) → a ≡ yes_if b
    → Made n c seen mine seen' mine' a
    → (b ≡ true) ↔ IsAnswer (before_last seen') n c Yes
asked_exactly n c seen mine seen' mine' a b same made =
    yes_exactly b (IsAnswer (before_last seen') n c Yes)
    (exactly_made n c seen mine seen' mine' (yes_if b) Yes (made_as n c seen mine seen' mine' a (yes_if b) same made))

pub heard_if : (n : ℕ) (seen mine seen' mine' : List Entry) (b : Bool) → Made n Ask seen mine seen' mine' (yes_if b) → IsCanceled seen n
    → b ≡ true
heard_if n seen mine seen' mine' b made canceled = yes_is b (sym (heard_by seen made.between n (yes_if b) made.told made.quiet canceled))

-- what a note tells of the end
pub ended : (n : ℕ) (seen mine seen' mine' : List Entry) (a : RegistryAnswer) → a ≡ Done → Made n Unregister seen mine seen' mine' a
    → Made n Unregister seen mine seen' (mine ++ entry n Unregister Done ∷ []) Done
ended n seen mine seen' mine' a same made =
    let done = made_as n Unregister seen mine seen' mine' a Done same made in
    subst (λ x. Made n Unregister seen mine seen' x Done) done.mine_is done

-- ---- registrations

-- what the door knew, and what the registry answered to a Register
pub record Opened (v : View) (h : List Entry) (call : RegistryCall) (a : RegistryAnswer) : Type 0 where
  pub register : is_register call ≡ true
  pub door : v.is_door ≡ true
  pub fits : Fits h v
  pub was : IsLegal h
  pub legal : IsLegal (h ++ entry (length h) call a ∷ [])
  pub told : IsAnswer h (length h) call a

own_place : (h : List Entry) (n : ℕ) (c : RegistryCall) (a : RegistryAnswer) → is_register c ≡ true
    → entry_of h n c a ≡ entry (length h) c a
own_place h n (Register pid key) a is = refl
own_place h n Start a is = false_true is
own_place h n Ask a is = false_true is
own_place h n (Cancel pid key) a is = false_true is
own_place h n Narrow a is = false_true is
own_place h n Unregister a is = false_true is

pub opened : (v : View) (h : List Entry) (n : ℕ) (call : RegistryCall) (a b : RegistryAnswer) → is_register call ≡ true → v.is_door ≡ true
    → Fits h v → IsLegal h
    → n ≡ length h → IsLegal (h ++ entry_of h n call a ∷ []) → IsAnswer h n call a → a ≡ b → Opened v h call b
opened v h n call a b register door f was place legal told same = record {
  register = register;
  door = door;
  fits = f;
  was = was;
  legal = subst (λ e. IsLegal (h ++ e ∷ [])) (own_place h n call a register ∙ ap (λ x. entry (length h) call x) same) legal;
  told = subst (λ x. IsAnswer h (length h) call x) same (subst (λ k. IsAnswer h k call a) place told);
}

pub registers : (v w : View) (h : List Entry) (call : RegistryCall) (a : RegistryAnswer) → Opened v h call a
    → w.seen ≡ h ++ entry (length h) call a ∷ []
    → Registers (length h) call v.seen w.seen a
registers v w h call a x seen =
    let n = length h in
    let f = x.fits in
    let whole : h ≡ v.seen ++ f.seen.0 = sym f.seen.1 in
    let parts : registers_of v.seen ++ registers_of f.seen.0 ≡ registers_of v.seen ++ [] =
    sym (filter-append (λ (e : Entry). is_register e.call) v.seen f.seen.0)
    ∙ (ap (λ y. registers_of y) f.seen.1 ∙ (f.door x.door ∙ sym (append-nil (registers_of v.seen)))) in
    record {
      between = f.seen.0;
      ends = seen ∙ ap (λ y. y ++ entry n call a ∷ []) whole;
      place = ap (λ y. length y) whole;
      quiet = append_cancel_left (registers_of v.seen) (registers_of f.seen.0) [] parts;
      legal = subst IsLegal (sym seen) x.legal;
      told = λ other. subst (λ y. (other ≡ a → IsAnswer y n call other) × (IsAnswer y n call other → other ≡ a)) whole
          (the_answer h n call a x.was x.told other);
    }

-- the view after a Register that was answered so
grown_registered : (v : View) (h : List Entry) (n : ℕ) (c : RegistryCall) → is_register c ≡ true
    → grown v h (entry_of h n c Registered) ≡ entered v h (entry (length h) c Registered)
grown_registered v h n (Register pid key) is = refl
grown_registered v h n Start is = false_true is
grown_registered v h n Ask is = false_true is
grown_registered v h n (Cancel pid key) is = false_true is
grown_registered v h n Narrow is = false_true is
grown_registered v h n Unregister is = false_true is

grown_taken : (v : View) (h : List Entry) (n : ℕ) (c : RegistryCall) (m : ℕ) → is_register c ≡ true
    → grown v h (entry_of h n c (Taken m)) ≡ refused v h (entry (length h) c (Taken m))
grown_taken v h n (Register pid key) m is = refl
grown_taken v h n Start m is = false_true is
grown_taken v h n Ask m is = false_true is
grown_taken v h n (Cancel pid key) m is = false_true is
grown_taken v h n Narrow m is = false_true is
grown_taken v h n Unregister m is = false_true is

pub entered_is : (v : View) (m' : Sat) (h : List Entry) (n : ℕ) (c : RegistryCall) (a : RegistryAnswer) → is_register c ≡ true
    → a ≡ Registered
    → m' ≡ (grown v h (entry_of h n c a), []) → m' ≡ (entered v h (entry (length h) c Registered), [])
entered_is v m' h n c a is same next =
    next ∙ (λ i. (grown v h (entry_of h n c (same i)), [])) ∙ (λ i. (grown_registered v h n c is i, []))

pub refused_is : (v : View) (m' : Sat) (h : List Entry) (n : ℕ) (c : RegistryCall) (a : RegistryAnswer) (m : ℕ) → is_register c ≡ true
    → a ≡ Taken m
    → m' ≡ (grown v h (entry_of h n c a), []) → m' ≡ (refused v h (entry (length h) c (Taken m)), [])
refused_is v m' h n c a m is same next =
    next ∙ (λ i. (grown v h (entry_of h n c (same i)), [])) ∙ (λ i. (grown_taken v h n c m is i, []))

pub still_door : (v : View) (m' : Sat) (h : List Entry) (e : Entry) → v.is_door ≡ true → m' ≡ (refused v h e, []) → IsDoor m'
still_door v m' h e door is = subst IsDoor (sym is) ((refl, refl), refl, door)

pub opening : (v : View) (m' : Sat) (h : List Entry) (call : RegistryCall) → Opened v h call Registered
    → m' ≡ (entered v h (entry (length h) call Registered), []) → IsOpening m' (length h) call
opening v m' h call x is =
    let live = subst (λ e. IsLive (h ++ e ∷ []) (length h)) (own_place h (length h) call Registered x.register)
    (registered_lives h (length h) call x.told) in
    let g = entered_fits v h (entry (length h) call Registered) (record { number = refl; door = x.door }) x.was live in
    subst (λ (z : Sat). IsOpening z (length h) call) (sym is)
    ((refl, refl), refl, x.door, refl, refl, (x.legal, (g.own (length h) refl).seen))

-- a registration was refused exactly where somebody had the pid, and that is who
pub taken_exactly : {A : Type 0} (n k : ℕ) (pid : ℤ) (key : List ℕ) (seen seen' : List Entry)
    → Registers n (Register pid key) seen seen' (Taken k) → (m : ℕ)
    → (◌≡◌ {A = Result A RegisterError} (Err (PidTaken k)) (Err (PidTaken m))) ↔ HasPid (before_last seen') m pid
taken_exactly {A} n k pid key seen seen' made m =
    let right = exactly_registered n (Register pid key) seen seen' (Taken k) (Taken m) made in
    ((λ same. right.0 (cc (same))), (λ has. let is : Taken m ≡ Taken k = right.1 has in cc (is)))

pub free_exactly : {A : Type 0} (h : A) (n : ℕ) (pid : ℤ) (key : List ℕ) (seen seen' : List Entry)
    → Registers n (Register pid key) seen seen' Registered → (m : ℕ)
    → (◌≡◌ {A = Result A RegisterError} (Ok h) (Err (PidTaken m))) ↔ HasPid (before_last seen') m pid
free_exactly {A} h n pid key seen seen' made m =
    let right = exactly_registered n (Register pid key) seen seen' Registered (Taken m) made in
    ((λ same. absurd (cc (same))), (λ has. let is : Taken m ≡ Registered = right.1 has in absurd (cc (is))))

pub registers_as : (n : ℕ) (p q : ℤ) (key : List ℕ) (seen x y : List Entry) (a : RegistryAnswer) → p ≡ q → x ≡ y
    → Registers n (Register p key) seen x a
    → Registers n (Register q key) seen y a
registers_as n p q key seen x y a pid goes made =
    subst (λ z. Registers n (Register q key) seen z a) goes (subst (λ z. Registers n (Register z key) seen x a) pid made)

pub refused_exactly : {A : Type 0} (e : RegisterError) (r : Result ℕ RegisterError) (pid : ℤ) (key : List ℕ) (seen seen' : List Entry)
    → r ≡ Err e
    → ((m : ℕ) → r ≡ Err (PidTaken m) → (n : ℕ) × Registers n (Register pid key) seen seen' (Taken m))
    → (◌≡◌ {A = Result A RegisterError} (Err e) (Err NoMemory) → ⊥)
    → (m : ℕ) → (◌≡◌ {A = Result A RegisterError} (Err e) (Err (PidTaken m))) ↔ HasPid (before_last seen') m pid
refused_exactly {A} (PidTaken k) r pid key seen seen' is taken some m = let t = taken k is in taken_exactly t.0 k pid key seen seen' t.1 m
refused_exactly {A} NoMemory r pid key seen seen' is taken some m = absurd (some refl)

-- the key of a connection whose calls are one more, which is no Narrow
pub named_more : (mine mine' : List Entry) (e : Entry) (n : ℕ) (pid : ℤ) (key : List ℕ) → is_narrow e.call ≡ false
    → mine' ≡ mine ++ e ∷ [] → IsNamed mine n pid key → IsNamed mine' n pid key
named_more mine mine' e n pid key other is x =
    let calls : Calls n Narrow e → ⊥ = λ so. false_true (sym other ∙ ap is_narrow so.1) in
    subst (λ xs. IsNamed xs n pid key) (sym is)
    (x.0, (x.1.0 ++ e ∷ [], ap (λ xs. xs ++ e ∷ []) x.1.1), x.2 ∙ sym (key_stays mine e n x.0 calls))

-- and which is one
pub named_short : (mine mine' : List Entry) (n : ℕ) (pid : ℤ) (key short : List ℕ) (a : RegistryAnswer)
    → mine' ≡ mine ++ entry n Narrow a ∷ [] → short ≡ take 4 key → IsNamed mine n pid key → IsNamed mine' n pid short
named_short mine mine' n pid key short a is first x =
    let e = entry n Narrow a in
    subst (λ xs. IsNamed xs n pid short) (sym is) (
      x.0,
      (x.1.0 ++ e ∷ [], ap (λ xs. xs ++ e ∷ []) x.1.1),
      first ∙ (ap (λ k. take 4 k) x.2 ∙ sym (key_narrowed mine e n x.0 (refl, refl))),
    )

-- a new connection has the key that it was registered with
pub named_first : (mine : List Entry) (n : ℕ) (pid : ℤ) (key : List ℕ) → mine ≡ entry n (Register pid key) Registered ∷ []
    → IsNamed mine n pid key
named_first mine n pid key is =
    let e = entry n (Register pid key) Registered in
    let other : Calls n Narrow e → ⊥ = λ so. let no : ◌≡◌ {A = RegistryCall} (Register pid key) Narrow = so.1 in cc (no) in
    subst (λ xs. IsNamed xs n pid key) (sym is) (key, ([], refl), sym (key_stays [] e n key other))
